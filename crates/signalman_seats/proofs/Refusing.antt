-- What a word refuses a call with is its reply.
use Rattle.std.proofs.Common.{◌≡◌, ◌≢◌, ⊎_elim, ℕ, ◌+◌, ◌<◌, Bool, true, false, List, [], ◌∷◌, ◌++◌, Option, Some}
use Rattle.std.proofs.Common.{None, refl, sym, ap, ◌∙◌, subst, arith, length}
use Rattle.std.specs.Prelude.{◌==◌, ◌^◌, nat_lt, not, if◌then◌else◌, All, IfSome, IsSome}
use Rattle.std.proofs.lemmas.Bool.Decides.{eqb_tells, nat_tests}
use Rattle.std.proofs.lemmas.List.Elements.{All-nil, All-cons}
use Rattle.block_words.specs.Bells.{bell_code, bell_count, bell_word}
use Rattle.block_words.specs.Instruments.{block_position, block_spent}
use Rattle.block_words.specs.Sections.{lane}
use Rattle.block_words.specs.declared.Position.{Position}
use Rattle.block_words.specs.declared.Way.{Way}
use Rattle.block_words.proofs.Packing.{bell_code-bell_word, bell_count-bell_word, block_position-block_word}
use Rattle.block_words.proofs.Packing.{block_spent-block_word, block_turns-block_word}
use Rattle.line_plan.specs.Frames.{BoxFields, signal_of}
use Rattle.line_plan.specs.Plans.{IsPlan, PlanFields}
use Rattle.line_law.specs.declared.call.Act.{Act}
use Rattle.line_law.specs.declared.call.Act.TheVariants as acts
use Rattle.line_law.specs.declared.call.Call.{Call}
use Rattle.line_law.specs.declared.call.Entry.{Entry}
use Rattle.line_law.specs.declared.call.Reply.{Reply}
use Rattle.line_law.specs.declared.call.Reply.TheVariants as replies
use Rattle.line_law.specs.declared.link.Link.{Link}
use Rattle.line_law.specs.declared.link.Link.TheVariants.{Out, In}
use Rattle.line_law.specs.declared.state.Bell.{Bell}
use Rattle.line_law.specs.declared.state.Block.{Block}
use Rattle.line_law.specs.declared.state.BoxState.{BoxState}
use Rattle.line_law.specs.declared.state.PairState.{PairState}
use Rattle.line_law.specs.declared.state.Passage.{Passage}
use Rattle.line_law.specs.Arrivals.{next_number, next_train, train_awaited, train_berthed, train_cleared}
use Rattle.line_law.specs.Arrivals.{train_parted}
use Rattle.line_law.specs.Bells.{awaited, heard, rung}
use Rattle.line_law.specs.Decisions.{Decision, Here, OnBell, OnBlock, OnPlainLine, Told, on_pair}
use Rattle.line_law.specs.History.{IsLegal, part_of, state_of}
use Rattle.line_law.specs.Instruments.{await_block, same_position}
use Rattle.line_law.specs.Law.{Done, at_moment, box_plan_of, decide, link_of, pair_of, step}
use Rattle.line_law.specs.Levers.{is_unspent_clear, pulled, pulled_under, starter_link}
use Rattle.line_law.specs.Links.{way_of}
use Rattle.line_law.specs.Serial.{is_not_yet}
use Rattle.line_law.specs.Outcomes.{Moves, Outcome, Passes, Overruns, Refused, Rings, Hears, AwaitsBell, Turns}
use Rattle.line_law.specs.Outcomes.{AwaitsBlock, Pulls, PullsStarter, Puts, Brings, GoesTo, GoesAway, Enters}
use Rattle.line_law.specs.Outcomes.{AwaitsTrain, Berths, Parts, Clears, Winds, Releases}
use Rattle.line_law.specs.Trains.{enter, holds, left_by}
use Rattle.line_law.specs.Ways.{of_way}
use Rattle.line_law.specs.States.{pair_at}
use Rattle.line_law.proofs.Histories.{entry_determined, prefix_legal}
use Rattle.line_law.proofs.Left.{step_is}
use Rattle.line_law.proofs.Outcomes.{outcome_of}
use Rattle.word_laws.specs.Footprint.{Kind, Tally, BellWord, BlockWord, PlainLineWord, kind_at, kind_of}
use Rattle.word_laws.specs.Operations.{IsOnWord, caller, met_by}
use Rattle.word_laws.specs.TellsWord.{kind_told}
use Rattle.word_laws.specs.WordNumbers.{Agrees, IsCodeNo, PlainLineAgrees, block_number, code_number, number_at}
use Rattle.word_laws.specs.WordNumbers.{Word, number_after, plain_line_number, word_named, word_of}
use Rattle.word_laws.proofs.Agreements.{met_agrees}
use Rattle.word_laws.proofs.Lanes.{eqb_no, eqb_yes, if_false, if_true}
use Rattle.word_laws.proofs.TellsCount.{moved_link}
use Rattle.word_laws.proofs.WordCalls.{lane_says}
use Rattle.word_laws.proofs.WordHistory.{kind_of_entry}
use Rattle.box_desk.proofs.Arriving.{none_comes, one_comes}
use Rattle.instrument_rule.specs.declared.view.View.{View}
use Rattle.instrument_rule.specs.Calls.{here_at}
use Rattle.instrument_rule.proofs.Parts.{part_grows}
use Rattle.signalman_seats.specs.Looks.{WereInVain}
use Rattle.signalman_seats.specs.Men.{Performed, answered}
use Rattle.signalman_seats.proofs.OwnBox.{one_box}
use Rattle.signalman_seats.specs.Refusals.{IsRefusedAfter, IsRefusedBy, await_bell_refusal, await_block_refusal}
use Rattle.signalman_seats.specs.Refusals.{block_of, enter_refusal, hear_refusal, is_of_word}
use Rattle.signalman_seats.specs.Refusals.{ring_refusal, starter_refusal, unheard_in, word_refusal}

-- ---- what a word holds

-- a bell's word holds its count and its unheard code
record HoldsBell (count : ℕ) (u : Option ℕ) (word : ℕ) : Type 0 where
  counted : bell_count word ≡ count
  code : unheard_in word ≡ u

bell_held : (count : ℕ) (u : Option ℕ) → IfSome u IsCodeNo → HoldsBell count u (bell_word count (code_number u))
bell_held count None fits = record {
  counted = bell_count-bell_word count 0 (omega arith);
  code = if_true (bell_code (bell_word count 0) == 0) None (Some (bell_code (bell_word count 0)))
      (eqb_yes (bell_code (bell_word count 0)) 0 (bell_code-bell_word count 0 (omega arith)));
}
bell_held count (Some code) fits =
    let is : bell_code (bell_word count code) ≡ code = bell_code-bell_word count code fits.1 in
    record {
      counted = bell_count-bell_word count code fits.1;
      code = if_false (bell_code (bell_word count code) == 0) None (Some (bell_code (bell_word count code)))
          (eqb_no (bell_code (bell_word count code)) 0 (λ z. (let some = fits.0 in omega arith)))
          ∙ ap (λ (c : ℕ). Some c) is;
    }

-- by what the word holds
by_bell : (count : ℕ) (u : Option ℕ) (refusal : ℕ → Option ℕ → Option Reply) (reply : Reply) → IfSome u IsCodeNo
    → IsRefusedBy (refusal count u) reply
    → IsRefusedBy
    (refusal (bell_count (bell_word count (code_number u))) (unheard_in (bell_word count (code_number u)))) reply
by_bell count u refusal reply fits h =
    let held = bell_held count u fits in
    subst (λ (k : ℕ). IsRefusedBy (refusal k (unheard_in (bell_word count (code_number u)))) reply) (sym held.counted)
    (subst (λ (o : Option ℕ). IsRefusedBy (refusal count o) reply) (sym held.code) h)

block_made : ℕ → Position → Bool → Block
block_made turns position spent = record { turns = turns; position = position; spent = spent }

block_held : (block : Block) → block_of (block_number block) ≡ block
unfolding block_made
block_held block =
    let word = block_number block in
    ap (λ (v : ℕ). block_made v (block_position word) (block_spent word))
    (block_turns-block_word block.turns block.spent block.position)
    ∙ (ap (λ (p : Position). block_made block.turns p (block_spent word))
    (block_position-block_word block.turns block.spent block.position)
    ∙ ap (λ (t : Bool). block_made block.turns block.position t)
    (block_spent-block_word block.turns block.spent block.position))

-- ---- replies by a test

-- refused where a test fails
by_test : {W : Type 0} (b : Bool) (refusal : Reply) (x y : Told W) → is_of_word x.reply ≡ false → y.reply ≡ refusal
    → IsRefusedBy (if b then None else Some refusal) (if b then x else y).reply
by_test true refusal x y h k = h
by_test false refusal x y h k = k

-- refused where another test is passed, which is so where the first fails
by_other : {W : Type 0} (b c : Bool) (refusal : Reply) (x y : Told W) → not b ≡ c → x.reply ≡ refusal
    → is_of_word y.reply ≡ false → IsRefusedBy (if b then None else Some refusal) (if c then x else y).reply
by_other true true refusal x y e h k = absurd cc
by_other true false refusal x y e h k = k
by_other false true refusal x y e h k = h
by_other false false refusal x y e h k = absurd cc

-- ---- bells

rung_told : (here : BoxState) (side : Way) (code count : ℕ) (u : Option ℕ)
    → IsRefusedBy (ring_refusal count u) (rung here side code count u).reply
rung_told here side code count None = refl
rung_told here side code count (Some held) = refl

heard_told : (here : BoxState) (count : ℕ) (u : Option ℕ)
    → IsRefusedBy (hear_refusal count u) (heard here count u).reply
heard_told here count None = refl
heard_told here count (Some code) = refl

awaited_told : (here : BoxState) (code count : ℕ) (u : Option ℕ)
    → IsRefusedBy (await_bell_refusal code count u) (awaited here code count u).reply
awaited_told here code count None = refl
awaited_told here code count (Some held) = by_test {W = Bell} (held == code)
    (replies.BellNotYet (Some held) count) _ _ refl refl

-- ---- instruments

seen_told : (here : BoxState) (position : Position) (block : Block)
    → IsRefusedBy (await_block_refusal position block) (await_block here position block).reply
seen_told here position block = by_test {W = Block} (same_position block.position position)
    (replies.BlockNotYet block.position block.turns) _ _ refl refl

pulled_told : (here after : BoxState) (way : Way) (block : Block)
    → IsRefusedBy (starter_refusal way block) (pulled_under here after way block).reply
pulled_told here after way block = by_test {W = Block} (is_unspent_clear block)
    (replies.HeldByInstrument way block.position block.spent block.turns) _ _ refl refl

-- ---- plain lines

entered_told : (here left : BoxState) (way : Way) (train : ℕ) (line : List Passage)
    → PlainLineAgrees (Out way) here line
    → IsRefusedBy (enter_refusal (of_way here.sent way + 1) (plain_line_number line))
    (enter here left way train line).reply
entered_told here left way train line agrees =
    let says = lane_says here way line agrees in
    let k = of_way here.sent way + 1 in
    by_other {W = List Passage} (lane (plain_line_number line) k == 0) (holds line k) (replies.SectionFull k) _ _
    (⊎_elim
    (λ (t : ((lane (plain_line_number line) k == 0) ≡ true) × (lane (plain_line_number line) k ≡ 0)).
    ap not t.0 ∙ sym (says.free t.1).0)
    (λ (t : ((lane (plain_line_number line) k == 0) ≡ false) × (lane (plain_line_number line) k ≢ 0)).
    ap not t.0 ∙ sym (says.taken (let ne = t.1 in omega arith)))
    (eqb_tells (lane (plain_line_number line) k) 0)) refl refl

-- the next train of an incoming line, by the number in its lane
by_lane : (here : BoxState) (way : Way) (line : List Passage) (refusal : Bool → Option Reply)
    (reply : Option ℕ → Reply) → PlainLineAgrees (In way) here line
    → IsRefusedBy (refusal true) (reply None) → ((train : ℕ) → IsRefusedBy (refusal false) (reply (Some train)))
    → IsRefusedBy (refusal (lane (plain_line_number line) (next_number here way) == 0))
    (reply (next_train here way line))
by_lane here way line refusal reply agrees none some = ⊎_elim
    (λ (t : ((n == 0) ≡ true) × (n ≡ 0)). subst (λ (b : Bool). IsRefusedBy (refusal b) (reply next)) (sym t.0)
    (subst (λ (o : Option ℕ). IsRefusedBy (refusal true) (reply o)) (sym (none_comes here way line agrees t.1)) none))
    (λ (t : ((n == 0) ≡ false) × (n ≢ 0)). subst (λ (b : Bool). IsRefusedBy (refusal b) (reply next)) (sym t.0)
    (subst (λ (o : Option ℕ). IsRefusedBy (refusal false) (reply o)) (sym (one_comes here way line n agrees refl t.1))
    (some n)))
    (eqb_tells n 0)
  where
    n : ℕ
    n = lane (plain_line_number line) (next_number here way)

    next : Option ℕ
    next = next_train here way line

-- ---- every call

-- an entry by the line to which its signal leads
abbrev EntersTold : Link → BoxState → BoxState → Way → ℕ → PairState → Type 0
EntersTold link here left way train pair =
    PlainLineAgrees link here (of_way pair.lines (way_of link))
    → IsRefusedBy
    (enter_refusal (of_way here.sent (way_of link) + 1) (plain_line_number (of_way pair.lines (way_of link))))
    (enter here left way train (of_way pair.lines (way_of link))).reply

enters_told : (link : Link) (here left : BoxState) (way : Way) (train : ℕ) (pair : PairState) → link ≡ Out way
    → EntersTold link here left way train pair
enters_told link here left way train pair e = subst (λ (l : Link). EntersTold l here left way train pair) (sym e)
    (λ agrees. entered_told here left way train (of_way pair.lines way) agrees)

-- the refusal of a train that moves past a starter
move_refusal : (box_plan : BoxFields) (act : Act) (here : BoxState) (lever : ℕ) (signal : _) (word : ℕ)
    → Moves here lever signal act
    → enter_refusal (of_way here.sent (way_of (link_of box_plan act)) + 1) word ≡ word_refusal box_plan act here word
move_refusal box_plan act here lever signal word (Passes free) = refl
move_refusal box_plan act here lever signal word (Overruns free) = refl

pulls_told : (link : Link) (here after : BoxState) (way : Way) (pair : PairState) → link ≡ Out way
    → IsRefusedBy (starter_refusal (way_of link) (block_of (block_number (of_way pair.blocks (way_of link)))))
    (pulled_under here after way (of_way pair.blocks (way_of link))).reply
pulls_told link here after way pair e = subst
    (λ (l : Link). IsRefusedBy (starter_refusal (way_of l) (block_of (block_number (of_way pair.blocks (way_of l)))))
    (pulled_under here after way (of_way pair.blocks (way_of l))).reply) (sym e)
    (subst (λ (b : Block). IsRefusedBy (starter_refusal way b)
    (pulled_under here after way (of_way pair.blocks way)).reply) (sym (block_held (of_way pair.blocks way)))
    (pulled_told here after way (of_way pair.blocks way)))

-- the word refuses a call that reaches it with its reply
pub told_by_word : (plan : PlanFields) (box_plan : BoxFields) (act : Act) (here : BoxState) (d : Decision)
    (pair : PairState) → Outcome plan box_plan here act d → IsOnWord (kind_of d)
    → Agrees (kind_of d) (link_of box_plan act) here pair
    → IsRefusedBy (word_refusal box_plan act here (number_at (kind_of d) (way_of (link_of box_plan act)) pair))
    (on_pair (way_of (link_of box_plan act)) d pair).reply
told_by_word plan box_plan act here d pair (Refused a reply refused) on agrees = absurd on
told_by_word plan box_plan act here d pair (Rings side code) on agrees =
    let bell = of_way pair.bells side in
    by_bell bell.count bell.unheard ring_refusal _ agrees.code (rung_told here side code bell.count bell.unheard)
told_by_word plan box_plan act here d pair (Hears side) on agrees =
    let bell = of_way pair.bells (way_of (link_of box_plan (acts.Hear side))) in
    by_bell bell.count bell.unheard hear_refusal _ agrees.code (heard_told here bell.count bell.unheard)
told_by_word plan box_plan act here d pair (AwaitsBell side code) on agrees =
    let bell = of_way pair.bells (way_of (link_of box_plan (acts.AwaitBell side code))) in
    by_bell bell.count bell.unheard (await_bell_refusal code) _ agrees.code
    (awaited_told here code bell.count bell.unheard)
told_by_word plan box_plan act here d pair (Turns way p berth is free) on agrees = refl
told_by_word plan box_plan act here d pair (AwaitsBlock way p) on agrees = subst
    (λ (b : Block). IsRefusedBy (await_block_refusal p b) (await_block here p (of_way pair.blocks way)).reply)
    (sym (block_held (of_way pair.blocks way))) (seen_told here p (of_way pair.blocks way))
told_by_word plan box_plan act here d pair (Pulls lever is free) on agrees = absurd on
told_by_word plan box_plan act here d pair (PullsStarter lever way is free) on agrees = pulls_told
    (link_of box_plan (acts.Pull lever)) here (pulled here lever (signal_of box_plan lever)) way pair
    (ap starter_link is)
told_by_word plan box_plan act here d pair (Puts lever free) on agrees = absurd on
told_by_word plan box_plan act here d pair (Brings train free) on agrees = absurd on
told_by_word plan box_plan act here d pair (GoesTo a lever signal train place is to there moves) on agrees = absurd on
told_by_word plan box_plan act here d pair (GoesAway a lever signal train is to there moves) on agrees = absurd on
told_by_word plan box_plan act here d pair (Enters a lever signal train way is to there moves) on agrees = subst
    (λ (o : Option Reply). IsRefusedBy o (enter here (left_by box_plan here signal) way train
    (of_way pair.lines (way_of (link_of box_plan act)))).reply)
    (move_refusal box_plan act here lever signal
    (plain_line_number (of_way pair.lines (way_of (link_of box_plan act)))) moves)
    (enters_told (link_of box_plan act) here (left_by box_plan here signal) way train pair
    (moved_link box_plan here act lever signal way is to moves) agrees)
told_by_word plan box_plan act here d pair (AwaitsTrain way) on agrees = by_lane here way (of_way pair.lines way)
    (λ b. if b then Some (replies.TrainNotYet (next_number here way)) else None)
    (λ t. (train_awaited t here (next_number here way) (of_way pair.lines way)).reply) agrees refl (λ train. refl)
told_by_word plan box_plan act here d pair (Berths way berth is free) on agrees = by_lane here way
    (of_way pair.lines way)
    (λ b. if b then Some (replies.NoTrainAt (next_number here way)) else None)
    (λ t. (train_berthed t here way berth.place (next_number here way) (of_way pair.lines way)).reply) agrees refl
    (λ train. refl)
told_by_word plan box_plan act here d pair (Parts way berth is free) on agrees = by_lane here way
    (of_way pair.lines way)
    (λ b. if b then Some (replies.NoTrainAt (next_number here way)) else None)
    (λ t. (train_parted t here way berth.place (next_number here way) (of_way pair.lines way)).reply) agrees refl
    (λ train. refl)
told_by_word plan box_plan act here d pair (Clears way free) on agrees = by_lane here way (of_way pair.lines way)
    (λ b. if b then Some (replies.NoTrainAt (next_number here way)) else None)
    (λ t. (train_cleared t here way (next_number here way) (of_way pair.lines way)).reply) agrees refl (λ train. refl)
told_by_word plan box_plan act here d pair (Winds way free) on agrees = absurd on
told_by_word plan box_plan act here d pair (Releases way free) on agrees = absurd on

-- ---- along a history

-- the number of a word that two boxes share, in its pair
number_in : (plan : PlanFields) (es : List Entry) (kind : Kind) (b p : ℕ) (way : Way) → IsOnWord kind
    → number_after plan es (word_named kind b p way) ≡ number_at kind way (pair_at (state_of plan es) p)
number_in plan es Tally b p way on = absurd on
number_in plan es BellWord b p way on = refl
number_in plan es BlockWord b p way on = refl
number_in plan es PlainLineWord b p way on = refl

-- the word refuses the last call of a legal history with its reply
pub refused_at_word : (plan : PlanFields) (es : List Entry) (e : Entry) → IsPlan plan → IsLegal plan (es ++ e ∷ [])
    → length es < 2 ^ 32 → IsOnWord (kind_told e.reply)
    → IsRefusedBy (word_refusal (box_plan_of plan e.box_no) e.call.act (caller plan es e)
    (number_after plan es (word_of plan e))) e.reply
refused_at_word plan es e is legal few on =
    let state = state_of plan es in
    let b = e.box_no in
    let box_plan = box_plan_of plan b in
    let way = way_of (link_of box_plan e.call.act) in
    let pair = pair_at state (pair_of plan b e.call) in
    let was = entry_determined plan es [] e legal in
    let kind = kind_of_entry plan es [] e legal in
    let on' : IsOnWord (kind_at plan state b e.call) = subst IsOnWord kind on in
    let number : number_after plan es (word_of plan e) ≡ number_at (kind_at plan state b e.call) way pair =
    ap (λ (k : Kind). number_after plan es (word_named k b (pair_of plan b e.call) way)) kind
    ∙ number_in plan es (kind_at plan state b e.call) b (pair_of plan b e.call) way on' in
    let reply : e.reply ≡ (on_pair way (decide plan box_plan e.call.act (caller plan es e)) pair).reply =
    ap (λ (x : Entry). x.reply) was.1 ∙ ap (λ (d : Done). d.reply) (step_is plan state b e.call) in
    subst (λ (n : ℕ). IsRefusedBy (word_refusal box_plan e.call.act (caller plan es e) n) e.reply) (sym number)
    (subst (λ (r : Reply). IsRefusedBy (word_refusal box_plan e.call.act (caller plan es e)
    (number_at (kind_at plan state b e.call) way pair)) r) (sym reply)
    (told_by_word plan box_plan e.call.act (caller plan es e) (decide plan box_plan e.call.act (caller plan es e)) pair
    (outcome_of plan box_plan e.call.act (caller plan es e)) on'
    (met_agrees plan es b e.call is (prefix_legal plan es (e ∷ []) legal) few was.0.known)))

-- a decision in the box alone has one reply
local_reply : (d : Decision) (way : Way) (p q : PairState) → kind_of d ≡ Tally
    → (on_pair way d p).reply ≡ (on_pair way d q).reply
local_reply (Here reply after) way p q e = refl
local_reply (OnBell act) way p q e = absurd cc
local_reply (OnBlock act) way p q e = absurd cc
local_reply (OnPlainLine act) way p q e = absurd cc

-- the box alone decides the last call of a legal history: so it does after any other history with the same part
pub refused_in_box : (plan : PlanFields) (es others : List Entry) (e : Entry) → IsLegal plan (es ++ e ∷ [])
    → IsLegal plan others → part_of e.box_no others ≡ part_of e.box_no es → kind_told e.reply ≡ Tally
    → (step plan (state_of plan others) e.box_no e.call).reply ≡ e.reply
refused_in_box plan es others e legal legal' same tally =
    let state = state_of plan es in
    let b = e.box_no in
    let box_plan = box_plan_of plan b in
    let way = way_of (link_of box_plan e.call.act) in
    let was = entry_determined plan es [] e legal in
    let local : kind_at plan state b e.call ≡ Tally = sym (kind_of_entry plan es [] e legal) ∙ tally in
    let box = one_box plan b es others (prefix_legal plan es (e ∷ []) legal) legal' same in
    ap (λ (d : Done). d.reply) (step_is plan (state_of plan others) b e.call)
    ∙ (ap (λ (h : BoxState). (on_pair way (decide plan box_plan e.call.act (at_moment h e.call.moment))
    (pair_at (state_of plan others) (pair_of plan b e.call))).reply) box
    ∙ (local_reply (decide plan box_plan e.call.act (caller plan es e)) way
    (pair_at (state_of plan others) (pair_of plan b e.call)) (pair_at state (pair_of plan b e.call)) local
    ∙ sym (ap (λ (x : Entry). x.reply) was.1 ∙ ap (λ (d : Done). d.reply) (step_is plan state b e.call))))

-- lists with the same last entry are the same before it
same_before : (xs ys : List Entry) (e : Entry) → xs ++ e ∷ [] ≡ ys ++ e ∷ [] → xs ≡ ys
same_before [] [] e h = refl
same_before [] (y ∷ []) e h = absurd cc
same_before [] (y ∷ z ∷ ys) e h = absurd cc
same_before (x ∷ []) [] e h = absurd cc
same_before (x ∷ z ∷ xs) [] e h = absurd cc
same_before (x ∷ xs) (y ∷ ys) e h =
    let head : x ≡ y = cc in
    let tail : xs ≡ ys = same_before xs ys e cc in
    cc

-- a call that was decided in his box alone got the reply that the law gives after what he had seen before it
pub refused_as_seen : (plan : PlanFields) (b : ℕ) (call : Call) (looks : ℕ) (reply : Reply) (v w : View)
    → Performed plan b call looks reply v w → kind_told reply ≡ Tally
    → (step plan (state_of plan v.seen) b call).reply ≡ reply
refused_as_seen plan b call looks reply v w done tally =
    let log = done.last.log in
    let e : Entry = answered b call reply in
    let seen : w.seen ≡ log ++ e ∷ [] = done.last.now in
    let before : IsLegal plan v.seen = prefix_legal plan v.seen done.begins.0
    (subst (IsLegal plan) (sym done.begins.1) done.legal) in
    let part : part_of b v.seen ≡ part_of b log = same_before (part_of b v.seen) (part_of b log) e
    (sym done.grew ∙ (ap (part_of b) seen ∙ part_grows b log e refl)) in
    refused_in_box plan log v.seen e (subst (IsLegal plan) seen done.legal) before part tally

-- ---- by what `perform` tells

-- the word of his last call, as it read at the step, refuses it with its reply
pub refused_at_step : (plan : PlanFields) (b : ℕ) (call : Call) (looks : ℕ) (reply : Reply) (v w : View)
    → (done : Performed plan b call looks reply v w) → IsPlan plan → IsOnWord (kind_told reply)
    → IsRefusedBy (word_refusal (box_plan_of plan b) call.act (here_at plan done.last.log b call) done.last.read) reply
refused_at_step plan b call looks reply v w done is on =
    let log = done.last.log in
    let e : Entry = answered b call reply in
    let read : number_after plan log (word_of plan e) ≡ done.last.read =
    sym (done.last.met.found ∙ ap (number_after plan log) done.last.its_word) in
    subst (λ (n : ℕ). IsRefusedBy (word_refusal (box_plan_of plan b) call.act (here_at plan log b call) n) reply) read
    (refused_at_word plan log e is (subst (IsLegal plan) done.last.now done.legal) done.last.met.few on)

-- a word that doesn't satisfy a call refuses it
bell_refused : (code k n : ℕ) → (n == code) ≡ false
    → IsSome (await_bell_refusal code k (if n == 0 then None else Some n))
bell_refused code k n miss = ⊎_elim
    (λ (t : ((n == 0) ≡ true) × (n ≡ 0)). subst (λ (b : Bool). IsSome (await_bell_refusal code k
    (if b then None else Some n))) (sym t.0) refl)
    (λ (t : ((n == 0) ≡ false) × (n ≢ 0)). subst (λ (b : Bool). IsSome (await_bell_refusal code k
    (if b then None else Some n))) (sym t.0) (subst (λ (b : Bool). IsSome (if b then None else
    Some (replies.BellNotYet (Some n) k))) (sym miss) refl))
    (eqb_tells n 0)

none_or : (b : Bool) (refusal : Reply) → b ≡ false → IsSome (if b then None else Some refusal)
none_or true refusal h = absurd cc
none_or false refusal h = refl

no_train : (n j : ℕ) → nat_lt 0 n ≡ false → IsSome (if n == 0 then Some (replies.TrainNotYet j) else None)
no_train n j h =
    let zero : (n == 0) ≡ true = grind (arith, nat_tests) in
    subst (λ (b : Bool). IsSome (if b then Some (replies.TrainNotYet j) else None)) (sym zero) refl

missed_refused : (box_plan : BoxFields) (act : Act) (here : BoxState) (n : ℕ) → met_by box_plan act here n ≡ false
    → IsSome (word_refusal box_plan act here n)
missed_refused box_plan (acts.AwaitBell side code) here n h = bell_refused code (bell_count n) (bell_code n) h
missed_refused box_plan (acts.AwaitBlock way p) here n h = none_or (same_position (block_position n) p) _ h
missed_refused box_plan (acts.Pass lever) here n h = none_or
    (lane n (of_way here.sent (way_of (link_of box_plan (acts.Pass lever))) + 1) == 0) _ h
missed_refused box_plan (acts.Overrun lever) here n h = none_or
    (lane n (of_way here.sent (way_of (link_of box_plan (acts.Overrun lever))) + 1) == 0) _ h
missed_refused box_plan (acts.AwaitTrain way) here n h = no_train (lane n (next_number here way)) (next_number here way)
    h
missed_refused box_plan act here n h = absurd cc

-- and so each look that was in vain
each_refused : (plan : PlanFields) (b : ℕ) (call : Call) (word : Word) (before : List Entry) (logs : List (List Entry))
    (after : List Entry) → WereInVain plan b call word before logs after → All (IsRefusedAfter plan b call word) logs
each_refused plan b call word before [] after h = All-nil (IsRefusedAfter plan b call word)
each_refused plan b call word before (log ∷ logs) after h = All-cons (IsRefusedAfter plan b call word) log logs
    (h.1, missed_refused (box_plan_of plan b) call.act (here_at plan log b call) (number_after plan log word) h.2)
    (each_refused plan b call word before logs log h.3)

-- an await that wasn't satisfied has taken its looks, and at each its word refused it
pub refused_at_looks : (plan : PlanFields) (b : ℕ) (call : Call) (looks : ℕ) (reply : Reply) (v w : View)
    → Performed plan b call looks reply v w → is_not_yet reply ≡ true
    → (w.looks ≡ v.looks + looks) × (w.glances ≡ v.glances) × (logs : List (List Entry)) × (length logs ≡ looks)
    × All (IsRefusedAfter plan b call (word_of plan (answered b call reply))) logs
refused_at_looks plan b call looks reply v w done e =
    let vain = done.in_vain e in (
      done.looked.1 ∙ ap (λ (l : ℕ). v.looks + l) (done.looked.3 e),
      done.glances,
      vain.0,
      vain.1,
      each_refused plan b call (word_of plan (answered b call reply)) v.seen vain.0 w.seen vain.2,
    )
