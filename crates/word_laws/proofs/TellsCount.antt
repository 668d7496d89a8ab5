-- What a reply tells of the count that goes with its word.
use Rattle.std.proofs.Common.{◌≡◌, ℕ, ◌+◌, List, [], ◌∷◌, ◌++◌, Option, Some, None, Bool, true, false, refl, sym, ap}
use Rattle.std.proofs.Common.{subst, ◌∙◌, arith, slice_set, slice_index_or}
use Rattle.std.specs.Prelude.{◌==◌, if◌then◌else◌}
use Rattle.std.proofs.lemmas.List.{get_or-set_same}
use Rattle.block_words.specs.declared.Position.{Position}
use Rattle.block_words.specs.declared.Way.{Way}
use Rattle.line_plan.specs.Frames.{BoxFields, signal_of, way_to}
use Rattle.line_plan.specs.Plans.{IsPlan, PlanFields}
use Rattle.line_plan.specs.declared.signal.Signal.{Signal}
use Rattle.line_plan.specs.declared.signal.To.TheVariants as leads
use Rattle.line_law.specs.declared.call.Act.{Act}
use Rattle.line_law.specs.declared.call.Call.{Call}
use Rattle.line_law.specs.declared.call.Reply.{Reply}
use Rattle.line_law.specs.declared.call.Reply.TheVariants as replies
use Rattle.line_law.specs.declared.link.Link.{Link}
use Rattle.line_law.specs.declared.link.Link.TheVariants.{Out, In}
use Rattle.line_law.specs.declared.state.Bell.{Bell}
use Rattle.line_law.specs.declared.state.Block.{Block}
use Rattle.line_law.specs.declared.state.BoxState.{BoxState}
use Rattle.line_law.specs.declared.state.Incoming.{Incoming}
use Rattle.line_law.specs.declared.state.PairState.{PairState}
use Rattle.line_law.specs.declared.state.Passage.{Passage}
use Rattle.line_law.specs.Arrivals.{line_parted, next_number, next_train, train_awaited, train_berthed, train_cleared}
use Rattle.line_law.specs.Arrivals.{train_parted}
use Rattle.line_law.specs.Bells.{awaited, heard, rung, silent}
use Rattle.line_law.specs.Decisions.{Told, Decision, Here, OnBell, OnBlock, OnPlainLine, on_pair}
use Rattle.word_laws.specs.Footprint.{Kind, Tally, BellWord, BlockWord, PlainLineWord, kind_of}
use Rattle.line_law.specs.Instruments.{await_block, same_position, turned}
use Rattle.line_law.specs.Law.{at_moment, decide, link_of, pair_of, box_plan_of, step}
use Rattle.line_law.specs.Levers.{is_unspent_clear, pulled, pulled_under, starter_link, starter_way}
use Rattle.line_law.specs.Links.{way_of}
use Rattle.line_law.specs.Known.{KnowsCall}
use Rattle.line_law.specs.Outcomes.{Moves, Passes, Overruns, Outcome, Rings, Hears, AwaitsBell, Turns}
use Rattle.line_law.specs.Outcomes.{AwaitsBlock, PullsStarter, Enters}
use Rattle.line_law.specs.Outcomes.{AwaitsTrain, Berths, Parts, Clears}
use Rattle.line_law.specs.States.{IsStateOf, LineState, box_at, no_state, opening_pair, pair_at}
use Rattle.word_laws.specs.TellsWord.{TellsCount, count_after, count_before, count_met, kind_told}
use Rattle.line_law.specs.Trains.{enter, holds, left_by}
use Rattle.line_law.specs.Ways.{of_way, with_way}
use Rattle.line_law.proofs.Outcomes.{outcome_of}
use Rattle.line_law.proofs.Sides.{call_within}
use Rattle.word_laws.proofs.TellsKind.{TellsKind, decision_tells}
use Rattle.line_law.proofs.Words.{of_way-with}

-- one word: what the reply tells is what its count was, and what it is
pub record Counts {W : Type 0} (before : ℕ) (after : Told W → ℕ) (told : Told W) : Type 0 where
  pub was : count_before told.reply ≡ before
  pub is : count_after told.reply ≡ after told

-- the reply of a decision in its box tells no count, and any other tells that of its word
abbrev pub CountsAt : Link → BoxState → Decision → Type 0
CountsAt link here (Here reply after) = Unit {0}
CountsAt link here (OnBell act) = (bell : Bell) → Counts bell.count (λ (t : Told Bell). t.word.count) (act bell)
CountsAt link here (OnBlock act) = (block : Block) → Counts block.turns (λ (t : Told Block). t.word.turns) (act block)
CountsAt (Out way) here (OnPlainLine act) =
    (line : List Passage)
    → Counts (of_way here.sent way) (λ (t : Told (List Passage)). of_way t.here.sent way) (act line)
CountsAt (In way) here (OnPlainLine act) =
    (line : List Passage)
    → Counts (of_way here.incoming way).taken (λ (t : Told (List Passage)). (of_way t.here.incoming way).taken)
    (act line)

if_counts : {W : Type 0} (before : ℕ) (after : Told W → ℕ) (b : Bool) (x y : Told W) → Counts before after x
    → Counts before after y → Counts before after (if b then x else y)
if_counts before after true x y h g = h
if_counts before after false x y h g = g

-- ---- bells

rung_counts : (here : BoxState) (side : Way) (code count : ℕ) (u : Option ℕ)
    → Counts count (λ (t : Told Bell). t.word.count) (rung here side code count u)
rung_counts here side code count None = record { was = omega arith; is = refl }
rung_counts here side code count (Some held) = record { was = refl; is = refl }

heard_counts : (here : BoxState) (count : ℕ) (u : Option ℕ)
    → Counts count (λ (t : Told Bell). t.word.count) (heard here count u)
heard_counts here count None = record { was = refl; is = refl }
heard_counts here count (Some code) = record { was = refl; is = refl }

awaited_counts : (here : BoxState) (code count : ℕ) (u : Option ℕ)
    → Counts count (λ (t : Told Bell). t.word.count) (awaited here code count u)
awaited_counts here code count None = record { was = refl; is = refl }
awaited_counts here code count (Some held) =
    if_counts {W = Bell} count (λ (t : Told Bell). t.word.count) (held == code)
    (record { reply = replies.Heard held count; here = here; word = silent count })
    (record {
      reply = replies.BellNotYet (Some held) count;
      here = here;
      word =
          record { count = count; unheard = Some held };
    }) (record { was = refl; is = refl })
    (record { was = refl; is = refl })

-- ---- instruments

turned_counts : (here : BoxState) (way : Way) (p : Position) (block : Block)
    → Counts block.turns (λ (t : Told Block). t.word.turns) (turned here way p block)
turned_counts here way p block = record { was = omega arith; is = refl }

seen_counts : (here : BoxState) (p : Position) (block : Block)
    → Counts block.turns (λ (t : Told Block). t.word.turns) (await_block here p block)
seen_counts here p block =
    if_counts {W = Block} block.turns (λ (t : Told Block). t.word.turns) (same_position block.position p)
    (record { reply = replies.Seen block.turns; here = here; word = block })
    (record { reply = replies.BlockNotYet block.position block.turns; here = here; word = block })
    (record { was = refl; is = refl }) (record { was = refl; is = refl })

pulled_counts : (here after : BoxState) (way : Way) (block : Block)
    → Counts block.turns (λ (t : Told Block). t.word.turns) (pulled_under here after way block)
pulled_counts here after way block =
    if_counts {W = Block} block.turns (λ (t : Told Block). t.word.turns) (is_unspent_clear block)
    (record { reply = replies.PulledUnder block.turns; here = after; word = record block { spent = true } })
    (record {
      reply = replies.HeldByInstrument way block.position block.spent block.turns;
      here = here;
      word =
          record block { spent = true };
    }) (record { was = refl; is = refl }) (record { was = refl; is = refl })

-- ---- plain lines

enter_counts : (here left : BoxState) (way : Way) (train : ℕ) (line : List Passage)
    → Counts (of_way here.sent way) (λ (t : Told (List Passage)). of_way t.here.sent way)
    (enter here left way train line)
enter_counts here left way train line = by (holds line (of_way here.sent way + 1)) where
  by : (b : Bool) → Counts (of_way here.sent way) (λ (t : Told (List Passage)). of_way t.here.sent way)
      (if b
      then record { reply = replies.SectionFull (of_way here.sent way + 1); here = here; word = line }
      else record {
        reply = replies.Entered train (of_way here.sent way + 1);
        here =
            record left { sent = with_way left.sent way (of_way here.sent way + 1) };
        word =
            line ++ record { number = of_way here.sent way + 1; train = train } ∷ [];
      })
  by true = record { was = omega arith; is = omega arith }
  by false = record { was = omega arith; is = sym (of_way-with left.sent way (of_way here.sent way + 1)) }

awaits_counts : (t : Option ℕ) (here : BoxState) (way : Way) (line : List Passage)
    → Counts (of_way here.incoming way).taken (λ (t : Told (List Passage)). (of_way t.here.incoming way).taken)
    (train_awaited t here (next_number here way) line)
awaits_counts None here way line = record { was = omega arith; is = omega arith }
awaits_counts (Some train) here way line = record { was = omega arith; is = omega arith }

berths_counts : (t : Option ℕ) (here : BoxState) (way : Way) (place : ℕ) (line : List Passage)
    → Counts (of_way here.incoming way).taken (λ (t : Told (List Passage)). (of_way t.here.incoming way).taken)
    (train_berthed t here way place (next_number here way) line)
berths_counts None here way place line = record { was = omega arith; is = omega arith }
berths_counts (Some train) here way place line =
    record { was = omega arith; is = sym (ap (λ (i : Incoming). i.taken) (of_way-with here.incoming way _)) }

parts_counts : (t : Option ℕ) (here : BoxState) (way : Way) (place : ℕ) (line : List Passage)
    → Counts (of_way here.incoming way).taken (λ (t : Told (List Passage)). (of_way t.here.incoming way).taken)
    (train_parted t here way place (next_number here way) line)
parts_counts None here way place line = record { was = omega arith; is = omega arith }
parts_counts (Some train) here way place line =
    let same : (of_way (with_way here.incoming way (line_parted (of_way here.incoming way) train)) way).taken
    ≡ (of_way here.incoming way).taken =
    ap (λ (i : Incoming). i.taken) (of_way-with here.incoming way (line_parted (of_way here.incoming way) train)) in
    record { was = omega arith; is = omega (arith, same) }

clears_counts : (t : Option ℕ) (here : BoxState) (way : Way) (line : List Passage)
    → Counts (of_way here.incoming way).taken (λ (t : Told (List Passage)). (of_way t.here.incoming way).taken)
    (train_cleared t here way (next_number here way) line)
clears_counts None here way line = record { was = omega arith; is = omega arith }
clears_counts (Some train) here way line =
    record { was = omega arith; is = sym (ap (λ (i : Incoming). i.taken) (of_way-with here.incoming way _)) }

-- ---- every call

enters_by : (link : Link) (here left : BoxState) (way : Way) (train : ℕ) → link ≡ Out way
    → CountsAt link here (OnPlainLine (enter here left way train))
enters_by link here left way train e =
    subst (λ (l : Link). CountsAt l here (OnPlainLine (enter here left way train))) (sym e)
    (λ line. enter_counts here left way train line)

-- the line of a train that moves past a starter
pub moved_link : (box_plan : BoxFields) (here : BoxState) (act : Act) (lever : ℕ) (signal : Signal) (way : Way)
    → signal_of box_plan lever ≡ Some signal → signal.to ≡ leads.Section way → Moves here lever signal act
    → link_of box_plan act ≡ Out way
moved_link box_plan here act lever signal way is to (Passes free) = ap starter_link (ap starter_way is ∙ ap way_to to)
moved_link box_plan here act lever signal way is to (Overruns free) = ap starter_link (ap starter_way is ∙ ap way_to to)

call_counts : (plan : PlanFields) (box_plan : BoxFields) (act : Act) (here : BoxState) (d : Decision)
    → Outcome plan box_plan here act d → CountsAt (link_of box_plan act) here d
call_counts plan box_plan act here d (Rings side code) = λ bell. rung_counts here side code bell.count bell.unheard
call_counts plan box_plan act here d (Hears side) = λ bell. heard_counts here bell.count bell.unheard
call_counts plan box_plan act here d (AwaitsBell side code) = λ bell. awaited_counts here code bell.count bell.unheard
call_counts plan box_plan act here d (Turns way p b e free) = λ block. turned_counts here way p block
call_counts plan box_plan act here d (AwaitsBlock way p) = λ block. seen_counts here p block
call_counts plan box_plan act here d (PullsStarter lever way e free) =
    λ block. pulled_counts here (pulled here lever (signal_of box_plan lever)) way block
call_counts plan box_plan act here d (Enters a lever signal train way e to there moves) =
    enters_by (link_of box_plan a) here (left_by box_plan here signal) way train
    (moved_link box_plan here a lever signal way e to moves)
call_counts plan box_plan act here d (AwaitsTrain way) = λ line. awaits_counts (next_train here way line) here way line
call_counts plan box_plan act here d (Berths way b e free) =
    λ line. berths_counts (next_train here way line) here way b.place line
call_counts plan box_plan act here d (Parts way b e free) =
    λ line. parts_counts (next_train here way line) here way b.place line
call_counts plan box_plan act here d (Clears way free) = λ line. clears_counts (next_train here way line) here way line
call_counts plan box_plan act here d out = tt

-- ---- in the pair, and in the line

-- a reply that tells of no word tells no count
no_count : (reply : Reply) → kind_told reply ≡ Tally → (count_before reply ≡ 0) × (count_after reply ≡ 0)
no_count (replies.Rung k) h = absurd cc
no_count (replies.BellBusy code k) h = absurd cc
no_count (replies.Heard code k) h = absurd cc
no_count (replies.Silent k) h = absurd cc
no_count (replies.BellNotYet shown k) h = absurd cc
no_count (replies.Turned v) h = absurd cc
no_count (replies.Seen v) h = absurd cc
no_count (replies.BlockNotYet shown v) h = absurd cc
no_count (replies.PulledUnder v) h = absurd cc
no_count (replies.HeldByInstrument way shown spent v) h = absurd cc
no_count (replies.Entered train k) h = absurd cc
no_count (replies.SectionFull k) h = absurd cc
no_count (replies.Approaching train j) h = absurd cc
no_count (replies.TrainNotYet j) h = absurd cc
no_count (replies.Berthed train j) h = absurd cc
no_count (replies.PartBerthed train j) h = absurd cc
no_count (replies.NoTrainAt j) h = absurd cc
no_count (replies.Cleared train j) h = absurd cc
no_count reply h = (refl, refl)

-- what the reply tells of the counts, in the pair
record CountsIn (link : Link) (here : BoxState) (d : Decision) (pair : PairState) : Type 0 where
  pub was : count_before (on_pair (way_of link) d pair).reply ≡ count_met (kind_of d) link here pair
  pub is : count_after (on_pair (way_of link) d pair).reply
      ≡ count_met (kind_of d) link (on_pair (way_of link) d pair).here (on_pair (way_of link) d pair).word

in_pair : (link : Link) (here : BoxState) (d : Decision) (pair : PairState) → TellsKind d → CountsAt link here d
    → CountsIn link here d pair
in_pair link here (Here reply after) pair tells counts = let none =
    no_count reply tells in record { was = none.0; is = none.1 }
in_pair link here (OnBell act) pair tells counts =
    let c = counts (of_way pair.bells (way_of link)) in
    record {
      was = c.was;
      is =
          c.is ∙ sym
          (ap (λ (b : Bell). b.count)
          (of_way-with pair.bells (way_of link) (act (of_way pair.bells (way_of link))).word));
    }
in_pair link here (OnBlock act) pair tells counts =
    let c = counts (of_way pair.blocks (way_of link)) in
    record {
      was = c.was;
      is =
          c.is ∙ sym
          (ap (λ (b : Block). b.turns)
          (of_way-with pair.blocks (way_of link) (act (of_way pair.blocks (way_of link))).word));
    }
in_pair (Out way) here (OnPlainLine act) pair tells counts = let c =
    counts (of_way pair.lines way) in record { was = c.was; is = c.is }
in_pair (In way) here (OnPlainLine act) pair tells counts = let c =
    counts (of_way pair.lines way) in record { was = c.was; is = c.is }

-- a known call's reply tells the count that goes with its word, before and after
pub count_is_told : (plan : PlanFields) (state : LineState) (b : ℕ) (call : Call) → IsPlan plan → IsStateOf plan state
    → KnowsCall plan b call → TellsCount plan state b call
unfolding step
count_is_told plan state b call is shape known =
    let within = call_within plan b call is known in
    let link = link_of (box_plan_of plan b) call.act in
    let here = at_moment (box_at state b) call.moment in
    let pair = pair_at state (pair_of plan b call) in
    let d = decide plan (box_plan_of plan b) call.act here in
    let told = on_pair (way_of link) d pair in
    let c = in_pair link here d pair (decision_tells plan (box_plan_of plan b) call.act here)
    (call_counts plan (box_plan_of plan b) call.act here d (outcome_of plan (box_plan_of plan b) call.act here)) in
    let box_is : slice_index_or (slice_set state.boxes b told.here) b no_state ≡ told.here =
    get_or-set_same state.boxes b told.here no_state (omega (arith, shape.boxes, within.box)) in
    let pair_is : slice_index_or (slice_set state.pairs (pair_of plan b call) told.word) (pair_of plan b call)
    opening_pair ≡ told.word =
    get_or-set_same state.pairs (pair_of plan b call) told.word opening_pair
    (omega (arith, shape.pairs, within.pair)) in
    record {
      before = c.was ∙ same_count (kind_of d) link;
      after = c.is ∙ sym (ap (λ (h : BoxState). count_met (kind_of d) link h told.word) box_is)
          ∙ sym (ap
          (λ (p : PairState). count_met (kind_of d) link (slice_index_or (slice_set state.boxes b told.here) b no_state)
          p) pair_is);
    }
  where
    same_count : (kind : Kind) (link : Link)
        → count_met kind link (at_moment (box_at state b) call.moment) (pair_at state (pair_of plan b call))
        ≡ count_met kind link (box_at state b) (pair_at state (pair_of plan b call))
    same_count Tally link = refl
    same_count BellWord link = refl
    same_count BlockWord link = refl
    same_count PlainLineWord (Out way) = refl
    same_count PlainLineWord (In way) = refl
