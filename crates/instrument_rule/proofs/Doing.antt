-- The operations of calls keep the rule.
use Rattle.std.proofs.Common.{◌≡◌, ◌≢◌, ℕ, ◌+◌, ◌^◌, ◌<◌, ◌≤◌, Bool, true, false, if◌then◌else◌, ◌⊎◌, inl, inr, ⊎_elim}
use Rattle.std.proofs.Common.{List, [], ◌∷◌, ◌++◌, length, get_or, Option, Some, None, IsTrue, sym, refl, ap, ◌∙◌}
use Rattle.std.proofs.Common.{subst, arith}
use Rattle.std.specs.Prelude.{◌==◌, nat_le}
use mathlib.Core.Option.{none}
use mathlib.Core.List.{IsPrefix}
use Rattle.std.proofs.lemmas.Bool.Decides.{nat_tests}
use Rattle.atomic_table.specs.Table.{State, Me, Step, keeps, step, stepped, Allows}
use Rattle.block_words.specs.Bells.{bell_code}
use Rattle.block_words.specs.Operations.{word_after}
use Rattle.block_words.specs.Sections.{lane}
use Rattle.block_words.specs.Ways.{opposite}
use Rattle.block_words.specs.declared.Way.{Way}
use Rattle.block_words.specs.declared.Way.TheVariants.{Up, Down}
use Rattle.block_words.specs.declared.WordOp.{WordOp}
use Rattle.block_words.specs.declared.WordOp.TheVariants as ops
use Rattle.line_plan.specs.Frames.{BoxFields, signal_of, way_to}
use Rattle.line_plan.specs.Plans.{IsPlan, PlanFields}
use Rattle.line_plan.specs.Ways.{comes_in, has_neighbour, leaves}
use Rattle.line_law.specs.declared.call.Act.{Act as Doing}
use Rattle.line_law.specs.declared.call.Act.TheVariants as acts
use Rattle.line_law.specs.declared.call.Call.{Call}
use Rattle.line_law.specs.declared.call.Entry.{Entry}
use Rattle.line_law.specs.declared.link.Link.TheVariants.{Out, In}
use Rattle.line_law.specs.declared.state.BoxState.{BoxState}
use Rattle.line_law.specs.Decisions.{Decision}
use Rattle.word_laws.specs.Footprint.{Kind, kind_of}
use Rattle.line_law.specs.History.{IsLegal, entry_of, part_of, state_of}
use Rattle.line_law.specs.Known.{KnowsCall, is_code_no, knows_act, knows_side}
use Rattle.line_law.specs.Law.{MayCall, at_moment, decide, link_of, box_plan_of}
use Rattle.line_law.specs.Levers.{starter_link, starter_way}
use Rattle.line_law.specs.Links.{pair_no, way_of}
use Rattle.word_laws.specs.Operations.{FirstDecides, FirstOn, MovesWord, SecondDecides, enter_op, first_by, first_on}
use Rattle.word_laws.specs.Operations.{first_op, look_op, next_lane, op_decides, second_by, second_op, train_at_signal}
use Rattle.line_law.specs.Outcomes.{Passes, Overruns, Outcome, Refused, Rings, Hears, AwaitsBell, Turns, AwaitsBlock}
use Rattle.line_law.specs.Outcomes.{Pulls, PullsStarter, Puts, Brings, GoesTo, GoesAway, Enters, AwaitsTrain, Berths}
use Rattle.line_law.specs.Outcomes.{Parts, Clears, Winds, Releases}
use Rattle.line_law.specs.declared.ways.ByWay.{ByWay}
use Rattle.line_law.specs.Ways.{of_way}
use Rattle.line_law.specs.States.{box_at}
use Rattle.word_laws.specs.WordNumbers.{Word, number_after, word_named, word_of}
use Rattle.word_laws.specs.WordPlaces.{IsWordOf, word_count, word_place}
use Rattle.line_law.proofs.Found.{both}
use Rattle.line_law.proofs.Histories.{history_grows}
use Rattle.line_law.proofs.Outcomes.{outcome_of}
use Rattle.line_law.proofs.Sides.{known_parts, out_leaves}
use Rattle.word_laws.proofs.TellsKind.{kind_is_told}
use Rattle.word_laws.proofs.WordHistory.{moves_word}
use Rattle.word_laws.proofs.WordsInPlace.{place_within, word_within}
use Rattle.instrument_rule.specs.declared.view.View.{View}
use Rattle.instrument_rule.specs.Calls.{DecidedAt, MayStep, OpFits, Sits, WasSeen, bell_on, block_on, here_at, line_on}
use Rattle.instrument_rule.specs.Calls.{looks_by, op_word, room_seen}
use Rattle.instrument_rule.specs.Rule.{Fits, Kept, LaneFree, Roomy, most_entries}
use Rattle.instrument_rule.specs.Told.{MadeOrSaw, WordRead, Tells, done, glanced}
use Rattle.instrument_rule.specs.Views.{caller_of, held, seeing}
use Rattle.instrument_rule.proofs.Keeps.{Grows, M, extends, looks_on}
use Rattle.instrument_rule.proofs.Lasting.{code_lasts, out_pair, room_lasts}
use Rattle.instrument_rule.proofs.OpWords.{decided_on, enter_word, first_decides, first_word, none_there, on_word}
use Rattle.instrument_rule.proofs.OpWords.{second_always, second_is, second_word, some_second, starter_is}
use Rattle.instrument_rule.proofs.OpWords.{undecided_stays}
use Rattle.instrument_rule.proofs.Parts.{length_by_parts, own_box, stands}
use Rattle.instrument_rule.proofs.Views.{held_first}

-- ---- numbers

pick_few : (t : Bool) (n : ℕ) → n ≤ (if t then 32 else 64) → n ≤ 64
pick_few true n h = omega arith
pick_few false n h = h

few_boxes : (plan : PlanFields) → IsPlan plan → length plan.boxes ≤ 64
few_boxes plan is = pick_few (plan.version == 1) (length plan.boxes) is.most

-- a history whose parts are short is short
pub few_entries : (plan : PlanFields) (log : List Entry) → IsPlan plan → IsLegal plan log
    → ((b : ℕ) → length (part_of b log) ≤ most_entries) → length log + 1 < 2 ^ 32
few_entries plan log is legal short = let a = length_by_parts plan log 10000 legal short in
    let b = few_boxes plan is in omega arith

-- ---- the first box of a post

-- a post that holds a box holds the one that calls from it
pub caller_held : (posts : List ℕ) → posts ≢ [] → 0 < held (caller_of posts) posts
caller_held [] holds = absurd (holds refl)
caller_held (b ∷ bs) holds = held_first b bs

-- room for the first box of a post
first_room : (plan : PlanFields) (log : List Entry) (posts : List ℕ) (way : Way) → posts ≢ []
    → IsTrue (leaves (length plan.boxes) (caller_of posts) way) → LaneFree plan log (caller_of posts) way
    → Roomy plan log posts (Some way)
first_room plan log [] way holds out free = absurd (holds refl)
first_room plan log (b ∷ bs) way holds out free = (out, free)

room_first : (plan : PlanFields) (log : List Entry) (posts : List ℕ) (way : Way) → posts ≢ []
    → Roomy plan log posts (Some way) → LaneFree plan log (caller_of posts) way
room_first plan log [] way holds h = absurd h
room_first plan log (b ∷ bs) way holds h = h.1

comes_from : (n b : ℕ) (side : Way) → IsTrue (has_neighbour n b side) → IsTrue (comes_in n b (opposite side))
comes_from n b Up h = h
comes_from n b Down h = h

-- a number of the code table isn't 0
code_some : (plan : PlanFields) (code : ℕ) → IsTrue (is_code_no plan code) → 0 < code
code_some plan code h = let p = both (nat_le 1 code) (nat_le code (length plan.codes)) h in grind (arith, nat_tests)

-- ---- what a look that decides nothing has found

abbrev RoomFound : PlanFields → List Entry → List ℕ → Doing → Type 0
RoomFound plan log posts act = (room : Option Way) → Roomy plan log posts room → Roomy plan log posts
    (room_seen (box_plan_of plan (caller_of posts)) act room)

found_room : (plan : PlanFields) (log : List Entry) (posts : List ℕ) (here : BoxState) (act : Doing) (last : Bool)
    (n : ℕ) (w : Option Way) (way : Way)
    → IsPlan plan → caller_of posts < length plan.boxes → IsTrue (knows_act plan (caller_of posts) act)
    → posts ≢ [] → here.sent ≡ (box_at (state_of plan log) (caller_of posts)).sent → w ≡ Some way
    → link_of (box_plan_of plan (caller_of posts)) act ≡ starter_link w
    → n ≡ number_after plan log (line_on (caller_of posts) (starter_link w))
    → next_lane here (way_of (starter_link w)) n ≡ 0 → Roomy plan log posts (Some (way_of (starter_link w)))
found_room plan log posts here act last n None way is within known holds same e link found free = absurd cc
found_room plan log posts here act last n
    (Some v) way is within known holds same e link found free = first_room plan log posts v holds
    (out_leaves plan (caller_of posts) act v is within known link)
    (subst (λ (x : ℕ). next_lane (box_at (state_of plan log) (caller_of posts)) v x ≡ 0) found
    (subst (λ (x : ByWay ℕ). lane n (of_way x v + 1) ≡ 0) same free))

-- the look of a train that moves past a starter
pass_room : (plan : PlanFields) (log : List Entry) (posts : List ℕ) (here : BoxState) (lever : ℕ) (last : Bool) (n : ℕ)
    (w : Option Way) (way : Way)
    → IsPlan plan → caller_of posts < length plan.boxes → IsTrue (knows_act plan (caller_of posts) (acts.Pass lever))
    → posts ≢ [] → here.sent ≡ (box_at (state_of plan log) (caller_of posts)).sent → w ≡ Some way
    → starter_way (signal_of (box_plan_of plan (caller_of posts)) lever) ≡ w
    → n ≡ number_after plan log (op_word (caller_of posts) (acts.Pass lever) (look_op w))
    → op_decides (box_plan_of plan (caller_of posts)) (acts.Pass lever) here (look_op w) last n ≡ false
    → RoomFound plan log posts (acts.Pass lever)
pass_room plan log posts here lever last n None way is within known holds same e link found free room h = absurd cc
pass_room plan log posts here lever last n (Some v) way is within known holds same e link found free room h =
    let bp : BoxFields = box_plan_of plan (caller_of posts) in
    let none : next_lane here (way_of (link_of bp (acts.Pass lever))) n ≡ 0 = none_there
    (next_lane here (way_of (link_of bp (acts.Pass lever))) n) free in
    subst (λ (x : Option Way). Roomy plan log posts (Some (way_of (starter_link x)))) (sym link)
    (found_room plan log posts here (acts.Pass lever) last n (Some v) way is within known holds same e
    (ap starter_link link) found (subst (λ (x : Option Way). next_lane here (way_of (starter_link x)) n ≡ 0) link none))

overrun_room : (plan : PlanFields) (log : List Entry) (posts : List ℕ) (here : BoxState) (lever : ℕ) (last : Bool)
    (n : ℕ) (w : Option Way) (way : Way)
    → IsPlan plan → caller_of posts < length plan.boxes → IsTrue (knows_act plan (caller_of posts) (acts.Overrun lever))
    → posts ≢ [] → here.sent ≡ (box_at (state_of plan log) (caller_of posts)).sent → w ≡ Some way
    → starter_way (signal_of (box_plan_of plan (caller_of posts)) lever) ≡ w
    → n ≡ number_after plan log (op_word (caller_of posts) (acts.Overrun lever) (look_op w))
    → op_decides (box_plan_of plan (caller_of posts)) (acts.Overrun lever) here (look_op w) last n ≡ false
    → RoomFound plan log posts (acts.Overrun lever)
overrun_room plan log posts here lever last n None way is within known holds same e link found free room h = absurd cc
overrun_room plan log posts here lever last n (Some v) way is within known holds same e link found free room h =
    let bp : BoxFields = box_plan_of plan (caller_of posts) in
    let none : next_lane here (way_of (link_of bp (acts.Overrun lever))) n ≡ 0 = none_there
    (next_lane here (way_of (link_of bp (acts.Overrun lever))) n) free in
    subst (λ (x : Option Way). Roomy plan log posts (Some (way_of (starter_link x)))) (sym link)
    (found_room plan log posts here (acts.Overrun lever) last n (Some v) way is within known holds same e
    (ap starter_link link) found (subst (λ (x : Option Way). next_lane here (way_of (starter_link x)) n ≡ 0) link none))

room_found : (plan : PlanFields) (log : List Entry) (posts : List ℕ) (here : BoxState) (act : Doing) (d : Decision)
    (last : Bool) (n : ℕ)
    → IsPlan plan → caller_of posts < length plan.boxes → IsTrue (knows_act plan (caller_of posts) act)
    → posts ≢ [] → here.sent ≡ (box_at (state_of plan log) (caller_of posts)).sent
    → Outcome plan (box_plan_of plan (caller_of posts)) here act d
    → n ≡ number_after plan log
    (op_word (caller_of posts) act (first_on (kind_of d) (first_by (box_plan_of plan (caller_of posts)) act here)))
    → op_decides (box_plan_of plan (caller_of posts)) act here
    (first_on (kind_of d) (first_by (box_plan_of plan (caller_of posts)) act here)) last n ≡ false
    → RoomFound plan log posts act
room_found plan log posts here act d last n is within known holds same (Refused a reply refused) found h = absurd cc
room_found plan log posts here act d last n is within known holds same (Rings side code) found h = absurd cc
room_found plan log posts here act d last n is within known holds same (Hears side) found h = absurd cc
room_found plan log posts here act d last n is within known holds same (AwaitsBell side code) found h = λ room r. r
room_found plan log posts here act d last n is within known holds same (Turns way p berth e free) found h = absurd cc
room_found plan log posts here act d last n is within known holds same (AwaitsBlock way p) found h = λ room r. r
room_found plan log posts here act d last n is within known holds same (Pulls lever e free) found h = absurd cc
room_found plan log posts here act d last n is within known holds same
    (PullsStarter lever way e free) found h = λ room r. r
room_found plan log posts here act d last n is within known holds same (Puts lever free) found h = absurd cc
room_found plan log posts here act d last n is within known holds same (Brings train free) found h = absurd cc
room_found plan log posts here act d last n is within known holds same
    (GoesTo a lever signal train place e to there moves) found h = absurd cc
room_found plan log posts here act d last n is within known holds same
    (GoesAway a lever signal train e to there moves) found h = absurd cc
room_found plan log posts here act d last n is within known holds same
    (Enters a lever signal train way e to there (Passes free)) found h =
    pass_room plan log posts here lever last n
    (starter_way (signal_of (box_plan_of plan (caller_of posts)) lever)) way is within known holds same
    (starter_is (box_plan_of plan (caller_of posts)) lever signal way e (ap way_to to)) refl found h
room_found plan log posts here act d last n is within known holds same
    (Enters a lever signal train way e to there (Overruns free)) found h =
    overrun_room plan log posts here lever last n
    (starter_way (signal_of (box_plan_of plan (caller_of posts)) lever)) way is within known holds same
    (starter_is (box_plan_of plan (caller_of posts)) lever signal way e (ap way_to to)) refl found h
room_found plan log posts here act d last n is within known holds same (AwaitsTrain way) found h = λ room r. r
room_found plan log posts here act d last n is within known holds same (Berths way berth e free) found h = absurd cc
room_found plan log posts here act d last n is within known holds same (Parts way berth e free) found h = λ room r. r
room_found plan log posts here act d last n is within known holds same (Clears way free) found h = absurd cc
room_found plan log posts here act d last n is within known holds same (Winds way free) found h = absurd cc
room_found plan log posts here act d last n is within known holds same (Releases way free) found h = absurd cc

-- ---- what a second operation may count on

module _ (plan : PlanFields) (is : IsPlan plan) (call : Call) (v : View) (log : List Entry) (holds : v.posts ≢ [])
    (known : KnowsCall plan (caller_of v.posts) call)
    (begins : IsPrefix v.seen log) (legal : IsLegal plan log) (few : length log < 2 ^ 32)
    (own : part_of (caller_of v.posts) log ≡ part_of (caller_of v.posts) v.seen)
    (roomy : Roomy plan log v.posts v.room) where
  code_stands : (side : Way) (code : ℕ) → IsTrue (has_neighbour (length plan.boxes) (caller_of v.posts) side) → 0 < code
      → bell_code (number_after plan v.seen (bell_on (caller_of v.posts) (In (opposite side)))) ≡ code
      → bell_code (number_after plan log (bell_on (caller_of v.posts) (In (opposite side)))) ≡ code
  code_stands side code has there = λ shown. stands plan (length log) (caller_of v.posts)
      (λ (es : List Entry). bell_code (number_after plan es (bell_on (caller_of v.posts) (In (opposite side)))) ≡ code)
      (λ es e past before other h. code_lasts plan es e (caller_of v.posts) (opposite side) code is past
      (omega arith) other (comes_from (length plan.boxes) (caller_of v.posts) side has) there h)
      v.seen log begins legal (omega arith) own shown

  lane_ready : (act : Doing) (here : BoxState) (train : ℕ) (w : Option Way) (op : WordOp)
      → here.sent ≡ (box_at (state_of plan log) (caller_of v.posts)).sent → enter_op here train w ≡ Some op
      → v.room ≡ Some (way_of (starter_link w))
      → next_lane here (way_of (starter_link w)) (number_after plan log (op_word (caller_of v.posts) act op)) ≡ 0
  lane_ready act here train None op same e room = absurd cc
  lane_ready act here train (Some way) op same e room =
      let free : LaneFree plan log (caller_of v.posts) way = room_first plan log v.posts way holds
      (subst (Roomy plan log v.posts) room roomy) in
      let word : op_word (caller_of v.posts) act op ≡ line_on (caller_of v.posts) (Out way) = enter_word
      (caller_of v.posts) train act here (Some way) op e in
      subst (λ (w : Word). next_lane here way (number_after plan log w) ≡ 0) (sym word)
      (subst (λ (x : ByWay ℕ). lane (number_after plan log (line_on (caller_of v.posts) (Out way)))
      (of_way x way + 1) ≡ 0) (sym same) free)

  -- the word at which a second operation decides the call shows what was seen
  ready : (act : Doing) (here : BoxState) (op : WordOp)
      → here.sent ≡ (box_at (state_of plan log) (caller_of v.posts)).sent
      → IsTrue (knows_act plan (caller_of v.posts) act)
      → second_by (box_plan_of plan (caller_of v.posts)) act here ≡ Some op → WasSeen plan (caller_of v.posts) v act
      → SecondDecides (box_plan_of plan (caller_of v.posts)) act here
      (number_after plan log (op_word (caller_of v.posts) act op))
  ready (acts.AwaitBell side code) here op same knows e seen =
      let word : op_word (caller_of v.posts) (acts.AwaitBell side code) op ≡ bell_on (caller_of v.posts)
      (In (opposite side)) = some_second (caller_of v.posts) (acts.AwaitBell side code) (ops.Hear side)
      (bell_on (caller_of v.posts) (In (opposite side))) refl op e in
      subst (λ (w : Word). bell_code (number_after plan log w) ≡ code) (sym word)
      (let parts = both (knows_side plan (caller_of v.posts) side) (is_code_no plan code) knows in
      code_stands side code parts.0 (code_some plan code parts.1) seen)
  ready (acts.Pass lever) here op same knows e seen =
      let s = signal_of (box_plan_of plan (caller_of v.posts)) lever in lane_ready (acts.Pass lever) here
      (train_at_signal here s) (starter_way s) op same e seen
  ready (acts.Overrun lever) here op same knows e seen =
      let s = signal_of (box_plan_of plan (caller_of v.posts)) lever in lane_ready (acts.Overrun lever) here
      (train_at_signal here s) (starter_way s) op same e seen
  ready act here op same knows e seen = absurd seen

-- ---- one operation for a call, of a post that may make it

module _ (plan : PlanFields) (is : IsPlan plan) (call : Call) (op : WordOp) (last : Bool) (v : View)
    (may : MayStep plan call v) (fits : OpFits plan (caller_of v.posts) call op v)
    (log : List Entry) (drawn : ℕ) (legal : IsLegal plan log) (short : (b : ℕ) → length (part_of b log) ≤ most_entries)
    (f : Fits plan log drawn v) where
  is_held : 0 < held (caller_of v.posts) v.posts
  is_held = caller_held v.posts may.holds

  few : length log + 1 < 2 ^ 32
  few = few_entries plan log is legal short

  own : part_of (caller_of v.posts) log ≡ part_of (caller_of v.posts) v.seen
  own = f.seen.own (caller_of v.posts) is_held

  same_box : box_at (state_of plan log) (caller_of v.posts) ≡ box_at (state_of plan v.seen) (caller_of v.posts)
  same_box = own_box plan (caller_of v.posts) v.seen log is f.seen.begins legal own

  same_here : here_at plan v.seen (caller_of v.posts) call ≡ here_at plan log (caller_of v.posts) call
  same_here = ap (λ (x : BoxState). at_moment x call.moment) (sym same_box)

  may_now : MayCall plan (state_of plan log) (caller_of v.posts) call
  may_now = record {
    known = may.call_may.known;
    later = subst (λ (x : BoxState). x.moment ≤ call.moment)
        (sym same_box) may.call_may.later;
  }

  within : caller_of v.posts < length plan.boxes
  within = (known_parts plan (caller_of v.posts) call may.call_may.known).box

  knows : IsTrue (knows_act plan (caller_of v.posts) call.act)
  knows = (known_parts plan (caller_of v.posts) call may.call_may.known).act

  legal_then : IsLegal plan (log ++ entry_of plan (state_of plan log) (caller_of v.posts) call ∷ [])
  legal_then = history_grows plan log (caller_of v.posts) call legal may_now

  moves : MovesWord plan log (entry_of plan (state_of plan log) (caller_of v.posts) call)
  moves = moves_word plan log (entry_of plan (state_of plan log) (caller_of v.posts) call) is legal_then
      (let h = few in omega arith)

  -- where the call is decided
  outcome : Outcome plan (box_plan_of plan (caller_of v.posts)) (here_at plan log (caller_of v.posts) call) call.act
      (decide plan (box_plan_of plan (caller_of v.posts)) call.act (here_at plan log (caller_of v.posts) call))
  outcome = outcome_of plan (box_plan_of plan (caller_of v.posts)) call.act (here_at plan log (caller_of v.posts) call)

  entry_word : word_of plan (entry_of plan (state_of plan log) (caller_of v.posts) call) ≡ decided_on
      (box_plan_of plan (caller_of v.posts)) (caller_of v.posts) call.act
      (decide plan (box_plan_of plan (caller_of v.posts)) call.act (here_at plan log (caller_of v.posts) call))
  entry_word = ap (λ (k : Kind). word_named k (caller_of v.posts)
      (pair_no (caller_of v.posts) (link_of (box_plan_of plan (caller_of v.posts)) call.act))
      (way_of (link_of (box_plan_of plan (caller_of v.posts)) call.act)))
      (kind_is_told plan (state_of plan log) (caller_of v.posts) call)

  -- the operation in the box as the history left it
  fits_now : (first_op plan (box_plan_of plan (caller_of v.posts)) call.act
      (here_at plan log (caller_of v.posts) call) ≡ op)
      ⊎ ((second_op plan (box_plan_of plan (caller_of v.posts)) call.act
      (here_at plan log (caller_of v.posts) call) ≡ Some op) × WasSeen plan (caller_of v.posts) v call.act)
  fits_now = subst (λ (x : BoxState). (first_op plan (box_plan_of plan (caller_of v.posts)) call.act x ≡ op) ⊎
      ((second_op plan (box_plan_of plan (caller_of v.posts)) call.act x ≡ Some op) × WasSeen plan
      (caller_of v.posts) v call.act)) same_here fits

  -- its word is that of the entry
  same_word : op_word (caller_of v.posts) call.act op ≡ word_of plan
      (entry_of plan (state_of plan log) (caller_of v.posts) call)
  same_word = ⊎_elim
      (λ (e : first_op plan (box_plan_of plan (caller_of v.posts)) call.act
      (here_at plan log (caller_of v.posts) call) ≡ op).
      ap (op_word (caller_of v.posts) call.act) (sym e) ∙ first_word plan (box_plan_of plan (caller_of v.posts))
      (caller_of v.posts) call.act (here_at plan log (caller_of v.posts) call) _ outcome ∙ sym entry_word)
      (λ (t : (second_op plan (box_plan_of plan (caller_of v.posts)) call.act
      (here_at plan log (caller_of v.posts) call) ≡ Some op) × WasSeen plan (caller_of v.posts) v call.act).
      second_word plan (box_plan_of plan (caller_of v.posts)) (caller_of v.posts) call.act
      (here_at plan log (caller_of v.posts) call) _ outcome op t.0 ∙ sym entry_word)
      fits_now

  of_line : IsWordOf (length plan.boxes) (op_word (caller_of v.posts) call.act op)
  of_line = subst (IsWordOf (length plan.boxes)) (sym same_word)
      (word_within plan (entry_of plan (state_of plan log) (caller_of v.posts) call) is may.call_may.known)

  -- where the call is decided, the operation makes the number after the entry
  decides : (n : ℕ) → n ≡ number_after plan log (op_word (caller_of v.posts) call.act op)
      → op_decides (box_plan_of plan (caller_of v.posts)) call.act
      (here_at plan v.seen (caller_of v.posts) call) op last n ≡ true
      → word_after op n ≡ number_after plan (log ++ entry_of plan (state_of plan log) (caller_of v.posts) call ∷ [])
      (op_word (caller_of v.posts) call.act op)
  decides n found h =
      let b : ℕ = caller_of v.posts in
      let bp : BoxFields = box_plan_of plan b in
      let here : BoxState = here_at plan log b call in
      let e : Entry = entry_of plan (state_of plan log) b call in
      let met : n ≡ number_after plan log (word_of plan e) = found ∙ ap (number_after plan log) same_word in
      let h' : op_decides bp call.act here op last n ≡ true = subst
      (λ (x : BoxState). op_decides bp call.act x op last n ≡ true) same_here h in
      ap (word_after op) met
      ∙ ⊎_elim
      (λ (t : first_op plan bp call.act here ≡ op).
      let at : FirstOn (kind_of (decide plan bp call.act here)) (FirstDecides bp call.act here n) =
      first_decides plan bp call.act here (decide plan bp call.act here) last n outcome
      (subst (λ (o : WordOp). op_decides bp call.act here o last n ≡ true) (sym t) h') in
      subst (λ (o : WordOp). word_after o (number_after plan log (word_of plan e)) ≡ number_after plan (log ++ e ∷ [])
      (word_of plan e)) t
      (moves.first (subst (λ (x : ℕ). FirstOn (kind_of (decide plan bp call.act here))
      (FirstDecides bp call.act here x)) met at)))
      (λ (t : (second_op plan bp call.act here ≡ Some op) × WasSeen plan b v call.act).
      let sure : SecondDecides bp call.act here (number_after plan log (op_word b call.act op)) =
      ready plan is call v log may.holds may.call_may.known f.seen.begins legal
      (let h = few in omega arith) own f.roomy call.act here op refl knows
      (second_is (kind_of (decide plan bp call.act here)) (second_by bp call.act here) op t.0) t.1 in
      moves.second op t.0 (on_word (kind_of (decide plan bp call.act here)) (second_by bp call.act here) op _ t.0
      (subst (λ (w : Word). SecondDecides bp call.act here (number_after plan log w)) same_word sure)))
      fits_now
      ∙ ap (number_after plan (log ++ e ∷ [])) (sym same_word)

  -- and the law decides it there
  sure : (n : ℕ) → n ≡ number_after plan log (op_word (caller_of v.posts) call.act op)
      → op_decides (box_plan_of plan (caller_of v.posts)) call.act
      (here_at plan v.seen (caller_of v.posts) call) op last n ≡ true
      → DecidedAt plan (caller_of v.posts) call op v.seen n
  sure n found h =
      let b : ℕ = caller_of v.posts in
      let box_plan : BoxFields = box_plan_of plan b in
      let here : BoxState = here_at plan v.seen b call in
      let now : BoxState = here_at plan log b call in
      ⊎_elim
      (λ (t : first_op plan box_plan call.act here ≡ op).
      inl (
        t,
        first_decides plan box_plan call.act here (decide plan box_plan call.act here) last n
            (outcome_of plan box_plan call.act here)
            (subst (λ (o : WordOp). op_decides box_plan call.act here o last n ≡ true) (sym t) h),
      ))
      (λ (t : (second_op plan box_plan call.act here ≡ Some op) × WasSeen plan b v call.act).
      let then_op : second_op plan box_plan call.act now ≡ Some op = subst
      (λ (x : BoxState). second_op plan box_plan call.act x ≡ Some op) same_here t.0 in
      let there : SecondDecides box_plan call.act now (number_after plan log (op_word b call.act op)) =
      ready plan is call v log may.holds may.call_may.known f.seen.begins legal
      (let l = few in omega arith) own f.roomy call.act now op refl knows
      (second_is (kind_of (decide plan box_plan call.act now)) (second_by box_plan call.act now) op then_op) t.1 in
      let here_too : SecondDecides box_plan call.act here n = subst
      (λ (x : BoxState). SecondDecides box_plan call.act x n) (sym same_here)
      (subst (λ (m : ℕ). SecondDecides box_plan call.act now m) (sym found) there) in
      inr (
        t.0,
        on_word (kind_of (decide plan box_plan call.act here))
            (second_by box_plan call.act here) op _ t.0 here_too,
      ))
      fits

  -- and where it isn't, the seat may have seen room
  may_room : (n : ℕ) → n ≡ number_after plan log (op_word (caller_of v.posts) call.act op)
      → op_decides (box_plan_of plan (caller_of v.posts)) call.act
      (here_at plan v.seen (caller_of v.posts) call) op last n ≡ false
      → Roomy plan log v.posts (room_seen (box_plan_of plan (caller_of v.posts)) call.act v.room)
  may_room n found h =
      let b : ℕ = caller_of v.posts in
      let bp : BoxFields = box_plan_of plan b in
      let here : BoxState = here_at plan log b call in
      let h' : op_decides bp call.act here op last n ≡ false = subst
      (λ (x : BoxState). op_decides bp call.act x op last n ≡ false) same_here h in
      ⊎_elim
      (λ (t : first_op plan bp call.act here ≡ op).
      room_found plan log v.posts here call.act
      (decide plan bp call.act here) last n is within knows may.holds refl outcome
      (subst (λ (o : WordOp). n ≡ number_after plan log (op_word b call.act o)) (sym t) found)
      (subst (λ (o : WordOp). op_decides bp call.act here o last n ≡ false) (sym t) h') v.room f.roomy)
      (λ (t : (second_op plan bp call.act here ≡ Some op) × WasSeen plan b v call.act).
      let yes : op_decides bp call.act here op last n ≡ true = second_always bp call.act here here n last op
      (second_is (kind_of (decide plan bp call.act here)) (second_by bp call.act here) op t.0) in absurd cc)
      fits_now

  -- what a step that makes the entry owes
  grows : (n : ℕ) → n ≡ number_after plan log (op_word (caller_of v.posts) call.act op)
      → op_decides (box_plan_of plan (caller_of v.posts)) call.act
      (here_at plan v.seen (caller_of v.posts) call) op last n ≡ true
      → Grows plan log (entry_of plan (state_of plan log) (caller_of v.posts) call)
      (op_word (caller_of v.posts) call.act op) (word_after op n)
  grows n found h = record {
    legal = legal_then;
    is_word = of_line;
    here = decides n found h;
    others = λ w ne. moves.others w (λ e. ne (e ∙ sym same_word));
    few = subst (λ (es : List Entry). length es < most_entries) (sym own) may.spare;
    room = λ b way other out free. room_lasts plan log
        (entry_of plan (state_of plan log) (caller_of v.posts) call) b way is legal_then few other out free;
  }

module _ (plan : PlanFields) (is : IsPlan plan) where
  -- an operation for a call keeps the rule
  pub does : (slots id : ℕ) (me : M) (call : Call) (op : WordOp) (last : Bool) (i : ℕ) (change : ℕ → ℕ)
      (st : Step (Unit {0}))
      → Sits plan me.0 → MayStep plan call me.0
      → OpFits plan (caller_of me.0.posts) call op me.0
      → i ≡ word_place (length plan.boxes) (op_word (caller_of me.0.posts) call.act op)
      → ((n : ℕ) → word_after op n ≡ change n)
      → Allows (Kept plan) slots id me i change (done plan call op last st me)
  does slots id me call op last i change st sits may fits place same =
      subst (λ (j : ℕ). Allows (Kept plan) slots id me j change (done plan call op last st me)) (sym place) there
    where
      there : Allows (Kept plan) slots id me
          (word_place (length plan.boxes) (op_word (caller_of me.0.posts) call.act op)) change
          (done plan call op last st me)
      there s k wide at small = by
          (op_decides (box_plan_of plan (caller_of me.0.posts)) call.act
          (here_at plan me.0.seen (caller_of me.0.posts) call) op last
          (get_or s.words (word_place (length plan.boxes) (op_word (caller_of me.0.posts) call.act op)) 0)) refl
        where
          fit : Fits plan k.log (get_or s.words 0 0) me.0
          fit = k.fits id me.0 at

          found : get_or s.words (word_place (length plan.boxes)
              (op_word (caller_of me.0.posts) call.act op)) 0 ≡ number_after plan k.log
              (op_word (caller_of me.0.posts) call.act op)
          found = k.packed (op_word (caller_of me.0.posts) call.act op)
              (of_line plan is call op last me.0 may fits k.log (get_or s.words 0 0) k.legal k.short fit)

          met : WordRead plan k.log (op_word (caller_of me.0.posts) call.act op) me.0
              (get_or s.words (word_place (length plan.boxes) (op_word (caller_of me.0.posts) call.act op)) 0)
          met = record {
            seen = fit.seen;
            legal = k.legal;
            few =
                (let h = few_entries plan k.log is k.legal k.short in omega arith);
            found = found;
          }

          by : (d : Bool)
              → op_decides (box_plan_of plan (caller_of me.0.posts)) call.act
              (here_at plan me.0.seen (caller_of me.0.posts) call) op last
              (get_or s.words (word_place (length plan.boxes) (op_word (caller_of me.0.posts) call.act op)) 0) ≡ d
              → (x : View) × (a : Rattle.atomic_table.specs.Table.Act (Unit {0}))
              × Rattle.atomic_table.specs.Table.Valid s.homes me.1 a
              × Kept plan (stepped s (word_place (length plan.boxes) (op_word (caller_of me.0.posts) call.act op))
              (change (get_or s.words (word_place (length plan.boxes)
              (op_word (caller_of me.0.posts) call.act op)) 0)) id me.1 x a)
              × ((Rattle.atomic_table.specs.Table.carried_after me.1 a ≡ me.1) × (x.posts ≡ me.0.posts)
              × Tells plan call op last me.0
              (get_or s.words (word_place (length plan.boxes) (op_word (caller_of me.0.posts) call.act op)) 0) x)
          by true h =
              let g = grows plan is call op last me.0 may fits k.log (get_or s.words 0 0) k.legal k.short fit
              (get_or s.words (word_place (length plan.boxes)
              (op_word (caller_of me.0.posts) call.act op)) 0) found h in
              let x : View = seeing me.0 (k.log ++ entry_of plan (state_of plan k.log) (caller_of me.0.posts) call ∷ [])
              (looks_by call.act op) 0 None in (
                x,
                keeps,
                tt,
                subst (λ (m : ℕ). Kept plan
                    (stepped s (word_place (length plan.boxes)
                    (op_word (caller_of me.0.posts) call.act op)) m id me.1 x keeps))
                    (same (get_or s.words (word_place (length plan.boxes) (op_word (caller_of me.0.posts) call.act op))
                    0))
                    (extends plan s k id me.0 (op_word (caller_of me.0.posts) call.act op) _ (looks_by call.act op) me.1
                    (entry_of plan (state_of plan k.log) (caller_of me.0.posts) call) at sits.0
                    (caller_held me.0.posts may.holds) g),
                (
                  refl,
                  refl,
                  subst (λ (d : Bool). MadeOrSaw d plan call op me.0
                      (get_or s.words (word_place (length plan.boxes) (op_word (caller_of me.0.posts) call.act op)) 0)
                      x)
                      (sym h)
                      (record {
                        log = k.log;
                        met = met;
                        legal = g.legal;
                        its_word =
                            same_word plan is call op last me.0 may fits k.log (get_or s.words 0 0) k.legal k.short fit;
                        sure = sure plan is call op last me.0 may fits k.log (get_or s.words 0 0) k.legal k.short fit _
                            found h;
                        now = refl;
                      }),
                ),
              )
          by false h =
              let stays : change (get_or s.words
              (word_place (length plan.boxes) (op_word (caller_of me.0.posts) call.act op)) 0) ≡ get_or s.words
              (word_place (length plan.boxes) (op_word (caller_of me.0.posts) call.act op)) 0 =
              sym (same _) ∙ undecided_stays (box_plan_of plan (caller_of me.0.posts)) call.act
              (here_at plan me.0.seen (caller_of me.0.posts) call) op last _ h in
              let room = room_seen (box_plan_of plan (caller_of me.0.posts)) call.act me.0.room in
              let x : View = seeing me.0 k.log (looks_by call.act op) 0 room in (
                x,
                keeps,
                tt,
                subst (λ (m : ℕ). Kept plan
                    (stepped s (word_place (length plan.boxes)
                    (op_word (caller_of me.0.posts) call.act op)) m id me.1 x keeps)) (sym stays)
                    (looks_on plan s k id me.0
                    (word_place (length plan.boxes) (op_word (caller_of me.0.posts) call.act op))
                    (looks_by call.act op) 0 room me.1 at sits.0
                    (may_room plan is call op last me.0 may fits k.log (get_or s.words 0 0) k.legal k.short fit
                    (get_or s.words (word_place (length plan.boxes)
                    (op_word (caller_of me.0.posts) call.act op)) 0) found h)),
                (
                  refl,
                  refl,
                  subst (λ (d : Bool). MadeOrSaw d plan call op me.0
                      (get_or s.words (word_place (length plan.boxes) (op_word (caller_of me.0.posts) call.act op)) 0)
                      x)
                      (sym h)
                      (record { log = k.log; met = met; now = refl }),
                ),
              )

-- the word of an operation is one of the line
op_in_line : (plan : PlanFields) (call : Call) (op : WordOp) (v : View) → IsPlan plan → MayStep plan call v
    → OpFits plan (caller_of v.posts) call op v → IsWordOf (length plan.boxes) (op_word (caller_of v.posts) call.act op)
op_in_line plan call op v is may fits =
    let b : ℕ = caller_of v.posts in
    let bp : BoxFields = box_plan_of plan b in
    let here : BoxState = here_at plan v.seen b call in
    let outcome : Outcome plan bp here call.act (decide plan bp call.act here) = outcome_of plan bp call.act here in
    let named : word_of plan (entry_of plan (state_of plan v.seen) b call) ≡ decided_on bp b call.act
    (decide plan bp call.act here) =
    ap (λ (k : Kind). word_named k b (pair_no b (link_of bp call.act)) (way_of (link_of bp call.act)))
    (kind_is_told plan (state_of plan v.seen) b call) in
    let word : op_word b call.act op ≡ decided_on bp b call.act (decide plan bp call.act here) = ⊎_elim
    (λ (e : first_op plan bp call.act here ≡ op). ap (op_word b call.act) (sym e) ∙ first_word plan bp b call.act here
    (decide plan bp call.act here) outcome)
    (λ (t : (second_op plan bp call.act here ≡ Some op)
    × WasSeen plan b v call.act). second_word plan bp b call.act here (decide plan bp call.act here) outcome op t.0)
    fits in
    subst (IsWordOf (length plan.boxes)) (sym (word ∙ sym named))
    (word_within plan (entry_of plan (state_of plan v.seen) b call) is may.call_may.known)

-- an operation at the line's own plan and at the place that the program computed
pub hands : (p q : PlanFields) (words slots id b : ℕ) (me : M) (call : Call) (asked : WordOp) (op : WordOp)
    (act : Doing) (last : Bool) (i : ℕ) (change : ℕ → ℕ) (st : Step (Unit {0}))
    → p ≡ q → IsPlan q
    → b ≡ caller_of me.0.posts → asked ≡ op → call.act ≡ act → Sits p me.0 → MayStep p call me.0
    → OpFits p (caller_of me.0.posts) call asked me.0
    → words ≡ word_count (length q.boxes) → i ≡ word_place (length q.boxes) (op_word b act op)
    → ((n : ℕ) → word_after op n ≡ change n)
    → (i < words) × Allows (Kept q) slots id me i change (done p call asked last st me)
hands p q words slots id b me call asked op act last i change st same is whose same_op same_act sits may fits wide place
    changes =
    let is_p : IsPlan p = subst IsPlan (sym same) is in
    let back = sym same in
    let act_back = sym same_act in
    let op_back = sym same_op in
    let place' : i ≡ word_place (length p.boxes) (op_word (caller_of me.0.posts) call.act asked) =
    place ∙ (λ j. word_place (length (back j).boxes) (op_word (whose j) (act_back j) (op_back j))) in
    let changes' : (n : ℕ) → word_after asked n ≡ change n = λ n. ap (λ (o : WordOp). word_after o n) same_op
    ∙ changes n in
    let allows : Allows (Kept p) slots id me i change
    (done p call asked last st me) =
    does p is_p slots id me call asked last i change st sits may fits place' changes' in
    let within = (place_within (length p.boxes) (op_word (caller_of me.0.posts) call.act asked)
    (op_in_line p call asked me.0 is_p may fits)).1 in
    let boxes : length p.boxes ≡ length q.boxes = ap (λ (z : PlanFields). length z.boxes) same in (
      subst (λ (z : ℕ). z < words) (sym place')
          (subst (λ (z : ℕ). word_place (length p.boxes) (op_word (caller_of me.0.posts) call.act asked) < z)
          (ap word_count boxes ∙ sym wide) within),
      subst (λ (z : PlanFields). Allows (Kept z) slots id me i change (done p call asked last st me)) same allows,
    )

-- these plays read no step
abbrev pub no_step : Step (Unit {0})
no_step = step 0 0 0 0 none

-- a look at a word of the line for no call
pub glances : (plan : PlanFields) (slots id : ℕ) (me : M) (w : Word) (i : ℕ) (st : Step (Unit {0})) → IsPlan plan
    → Sits plan me.0 → IsWordOf (length plan.boxes) w → i ≡ word_place (length plan.boxes) w
    → Allows (Kept plan) slots id me i (λ n. n) (glanced plan w st me)
glances plan slots id me w i st is sits within place = subst
    (λ (j : ℕ). Allows (Kept plan) slots id me j (λ n. n) (glanced plan w st me)) (sym place)
    (λ s k wide at small. let fit : Fits plan k.log (get_or s.words 0 0) me.0 = k.fits id me.0 at in (
      seeing me.0 k.log 1 1 me.0.room,
      keeps,
      tt,
      looks_on plan s k id me.0 (word_place (length plan.boxes) w) 1 1 me.0.room me.1 at sits.0 fit.roomy,
      (
        refl,
        refl,
        record {
          log = k.log;
          met = record {
            seen = fit.seen;
            legal = k.legal;
            few =
                (let h = few_entries plan k.log is k.legal k.short in omega arith);
            found = k.packed w within;
          };
          now = refl;
        },
      ),
    ))

-- the same at the line's own plan and at the place that the program computed
pub hands_glance : (p q : PlanFields) (words slots id : ℕ) (me : M) (w : Word) (b : ℕ) (way : Way) (i : ℕ)
    (st : Step (Unit {0}))
    → p ≡ q → w ≡ block_on b (Out way) → IsPlan q → Sits p me.0 → IsTrue (leaves (length q.boxes) b way)
    → words ≡ word_count (length q.boxes) → i ≡ word_place (length q.boxes) (block_on b (Out way))
    → (i < words) × Allows (Kept q) slots id me i (λ n. n) (glanced p w st me)
hands_glance p q words slots id me w b way i st same word is sits out wide place =
    let within : IsWordOf (length q.boxes) (block_on b (Out way)) = out_pair (length q.boxes) b way out in
    let sits_q : Sits q me.0 = subst (λ (z : PlanFields). Sits z me.0) same sits in
    let allows = glances q slots id me (block_on b (Out way)) i st is sits_q within place in
    let back = sym same in
    let back_word = sym word in (
      subst (λ (z : ℕ). z < words) (sym place)
          (subst (λ (z : ℕ). word_place (length q.boxes) (block_on b (Out way)) < z) (sym wide)
          (place_within (length q.boxes) (block_on b (Out way)) within).1),
      subst (λ (z : PlanFields × Word). Allows (Kept q) slots id me i (λ n. n) (glanced z.0 z.1 st me))
          (λ j. (back j, back_word j)) allows,
    )
