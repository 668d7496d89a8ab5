-- Where a call is decided at an operation, the new word is the number of what the law makes of the pair.
use Rattle.std.proofs.Common.{◌≡◌, ℕ, ◌+◌, ◌<◌, List, sym, ap, subst, ◌∙◌}
use Rattle.std.specs.Prelude.{Option, Some, None, IfSome}
use Rattle.block_words.specs.Operations.{word_after}
use Rattle.block_words.specs.Sections.{lane_bits}
use Rattle.block_words.specs.Ways.{opposite}
use Rattle.block_words.specs.declared.Way.{Way}
use Rattle.block_words.specs.declared.WordOp.{WordOp}
use Rattle.block_words.specs.declared.WordOp.TheVariants as ops
use Rattle.line_plan.specs.Frames.{BoxFields, signal_of, way_to}
use Rattle.line_plan.specs.Plans.{PlanFields}
use Rattle.line_plan.specs.declared.signal.Signal.{Signal}
use Rattle.line_law.specs.declared.call.Act.{Act}
use Rattle.line_law.specs.declared.call.Act.TheVariants as acts
use Rattle.line_law.specs.declared.state.Bell.{Bell}
use Rattle.line_law.specs.declared.state.Block.{Block}
use Rattle.line_law.specs.declared.state.BoxState.{BoxState}
use Rattle.line_law.specs.declared.state.PairState.{PairState}
use Rattle.line_law.specs.declared.state.Passage.{Passage}
use Rattle.line_law.specs.Arrivals.{await_train, berthed, cleared, parted}
use Rattle.line_law.specs.Bells.{await_bell, hear, ring}
use Rattle.line_law.specs.Decisions.{Told, Decision, OnBell, OnBlock, OnPlainLine}
use Rattle.word_laws.specs.Footprint.{Kind, Tally, BellWord, BlockWord, PlainLineWord, kind_of}
use Rattle.line_law.specs.Instruments.{await_block, turned}
use Rattle.line_law.specs.Law.{decide, link_of}
use Rattle.line_law.specs.Levers.{pulled, pulled_under, starter_link, starter_way}
use Rattle.line_law.specs.Links.{way_of}
use Rattle.word_laws.specs.Operations.{FirstDecides, FirstOn, FollowsLaw, SecondDecides, SecondOn, HasTrainNos}
use Rattle.word_laws.specs.Operations.{IsOnWord, MakesAt, enter_op, first_by, first_on, look_op, next_lane, pull_op}
use Rattle.word_laws.specs.Operations.{second_by, second_on, take_out_op, train_at_signal, train_or_none}
use Rattle.line_law.specs.Outcomes.{Passes, Overruns, Outcome, Rings, Hears, AwaitsBell, Turns, AwaitsBlock}
use Rattle.line_law.specs.Outcomes.{PullsStarter, Enters, AwaitsTrain, Berths}
use Rattle.line_law.specs.Outcomes.{Parts, Clears}
use Rattle.line_law.specs.Tracks.{train_on}
use Rattle.line_law.specs.Trains.{enter, left_by}
use Rattle.line_law.specs.Ways.{of_way}
use Rattle.word_laws.specs.WordNumbers.{Agrees, IsTrainNo, bell_number, block_number, plain_line_number, number_at}
use Rattle.line_law.proofs.Outcomes.{outcome_of}
use Rattle.word_laws.proofs.WordCalls.{approach_makes, await_makes, berth_makes, clear_makes, enter_makes, full_makes}
use Rattle.word_laws.proofs.WordCalls.{hear_makes, not_yet_makes, part_makes, pull_makes, ring_makes, see_makes}
use Rattle.word_laws.proofs.WordCalls.{turn_makes}
use Rattle.line_law.proofs.Words.{of_way-with}

on_bell : (act : Bell → Told Bell) (way : Way) (pair : PairState) (op : WordOp)
    → word_after op (bell_number (of_way pair.bells way)) ≡ bell_number (act (of_way pair.bells way)).word
    → MakesAt (OnBell act) way pair op
on_bell act way pair op h = h ∙ ap bell_number (sym (of_way-with pair.bells way (act (of_way pair.bells way)).word))

on_block : (act : Block → Told Block) (way : Way) (pair : PairState) (op : WordOp)
    → word_after op (block_number (of_way pair.blocks way)) ≡ block_number (act (of_way pair.blocks way)).word
    → MakesAt (OnBlock act) way pair op
on_block act way pair op h = h ∙ ap block_number (sym (of_way-with pair.blocks way (act (of_way pair.blocks way)).word))

on_line : (act : List Passage → Told (List Passage)) (way : Way) (pair : PairState) (op : WordOp)
    → word_after op (plain_line_number (of_way pair.lines way)) ≡ plain_line_number (act (of_way pair.lines way)).word
    → MakesAt (OnPlainLine act) way pair op
on_line act way pair op h =
    h ∙ ap plain_line_number (sym (of_way-with pair.lines way (act (of_way pair.lines way)).word))

no_second : {A : Type 0} → (op : WordOp) → None ≡ Some op → A
no_second op is = absurd cc

-- the law of a decision
pub record Follows (box_plan : BoxFields) (act : Act) (here : BoxState) (d : Decision) (pair : PairState) : Type 0 where
  pub first : FirstDecides box_plan act here (number_at (kind_of d) (way_of (link_of box_plan act)) pair)
      → MakesAt d (way_of (link_of box_plan act)) pair (first_on (kind_of d) (first_by box_plan act here))
  pub second : (op : WordOp) → second_on (kind_of d) (second_by box_plan act here) ≡ Some op
      → SecondDecides box_plan act here (number_at (kind_of d) (way_of (link_of box_plan act)) pair)
      → MakesAt d (way_of (link_of box_plan act)) pair op

-- a pull, by the line that its signal leads to
pull_follows : (w : Option Way) (way : Way) (here after : BoxState) (pair : PairState) → w ≡ Some way
    → MakesAt (OnBlock (pulled_under here after way)) (way_of (starter_link w)) pair (pull_op w)
pull_follows None way here after pair is = absurd cc
pull_follows (Some v) way here after pair is =
    on_block (pulled_under here after way) v pair (ops.Pull v) (pull_makes here after way v (of_way pair.blocks v))

-- an entry's two operations, by the line that its signal leads to
record Entry (w : Option Way) (here left : BoxState) (way : Way) (train at : ℕ) (pair : PairState) : Type 0 where
  pub full : 0 < next_lane here (way_of (starter_link w)) (number_at PlainLineWord (way_of (starter_link w)) pair)
      → MakesAt (OnPlainLine (enter here left way train)) (way_of (starter_link w)) pair (look_op w)
  pub free : (op : WordOp) → enter_op here at w ≡ Some op
      → next_lane here (way_of (starter_link w)) (number_at PlainLineWord (way_of (starter_link w)) pair) ≡ 0
      → MakesAt (OnPlainLine (enter here left way train)) (way_of (starter_link w)) pair op

abbrev EntryAt : Option Way → BoxState → BoxState → Way → ℕ → ℕ → PairState → Type 0
EntryAt w here left way train at pair =
    Agrees PlainLineWord (starter_link w) here pair → Entry w here left way train at pair

entry_at : (here left : BoxState) (way : Way) (train at : ℕ) (pair : PairState) → train < 65536 → at ≡ train
    → EntryAt (Some way) here left way train at pair
entry_at here left way train at pair small is a = record {
  full = λ some. on_line (enter here left way train) way pair (ops.LookSection way)
      (full_makes here left way way train (of_way pair.lines way) a some);
  free = λ op e none. subst (λ (o : WordOp). MakesAt (OnPlainLine (enter here left way train)) way pair o) (op_of op e)
      (on_line (enter here left way train) way pair (ops.Enter way (lane_bits (of_way here.sent way + 1) train))
      (enter_makes here left way way train (of_way pair.lines way) a small none));
}
  where
    op_of : (op : WordOp) → Some (ops.Enter way (lane_bits (of_way here.sent way + 1) at)) ≡ Some op
        → ops.Enter way (lane_bits (of_way here.sent way + 1) train) ≡ op
    op_of op e = ap (λ (t : ℕ). ops.Enter way (lane_bits (of_way here.sent way + 1) t)) (sym is) ∙ same op e
      where
        same : (op : WordOp) → Some (ops.Enter way (lane_bits (of_way here.sent way + 1) at)) ≡ Some op
            → ops.Enter way (lane_bits (of_way here.sent way + 1) at) ≡ op
        same op e = cc

-- the train at the signal of a lever
at_signal : (s : Option Signal) (here : BoxState) (signal : Signal) (train : ℕ) → s ≡ Some signal
    → train_on here.places signal.from ≡ Some train → train_at_signal here s ≡ train
at_signal s here signal train is there = ap (train_at_signal here) is ∙ ap train_or_none there

fits_lane : (here : BoxState) (place train : ℕ) → HasTrainNos here → train_on here.places place ≡ Some train
    → train < 65536
fits_lane here place train has there = let one : IsTrainNo train =
    subst (λ (o : Option ℕ). IfSome o IsTrainNo) there (has place) in one.1

enters : (box_plan : BoxFields) (here : BoxState) (lever : ℕ) (signal : Signal) (train : ℕ) (way : Way)
    (pair : PairState) → signal_of box_plan lever ≡ Some signal → starter_way (signal_of box_plan lever) ≡ Some way
    → train_on here.places signal.from ≡ Some train → HasTrainNos here
    → EntryAt (starter_way (signal_of box_plan lever)) here (left_by box_plan here signal) way train
    (train_at_signal here (signal_of box_plan lever)) pair
enters box_plan here lever signal train way pair is to there has =
    subst (λ (w : Option Way). EntryAt w here (left_by box_plan here signal) way train
    (train_at_signal here (signal_of box_plan lever)) pair) (sym to)
    (entry_at here (left_by box_plan here signal) way train (train_at_signal here (signal_of box_plan lever)) pair
    (fits_lane here signal.from train has there) (at_signal (signal_of box_plan lever) here signal train is there))

-- what the operation of a call makes of a word that agrees is what the law makes of it
pub follows : (plan : PlanFields) (box_plan : BoxFields) (act : Act) (here : BoxState) (d : Decision) (pair : PairState)
    → Outcome plan box_plan here act d → IsOnWord (kind_of d) → HasTrainNos here
    → Agrees (kind_of d) (link_of box_plan act) here pair → Follows box_plan act here d pair
follows plan box_plan act here d pair (Rings side code) on has agrees = record {
  first = λ h. on_bell (ring here side code) side pair (first_by box_plan (acts.Ring side code) here)
      (ring_makes here side code (of_way pair.bells side) agrees);
  second = λ op is h. absurd h;
}
follows plan box_plan act here d pair (Hears side) on has agrees = record {
  first = λ h. on_bell (hear here) (opposite side) pair (ops.Hear side)
      (hear_makes here (opposite side) side (of_way pair.bells (opposite side)) agrees);
  second = λ op is h. absurd h;
}
follows plan box_plan act here d pair (AwaitsBell side code) on has agrees = record {
  first = λ h. on_bell (await_bell here code) (opposite side) pair (ops.LookBell side)
      (not_yet_makes here (opposite side) side code (of_way pair.bells (opposite side)) agrees h);
  second = λ op is h. subst (λ (o : WordOp). MakesAt (OnBell (await_bell here code)) (opposite side) pair o)
      (op_of op is)
      (on_bell (await_bell here code) (opposite side) pair (ops.Hear side)
      (await_makes here (opposite side) side code (of_way pair.bells (opposite side)) agrees h));
}
  where
    op_of : (op : WordOp) → Some (ops.Hear side) ≡ Some op → ops.Hear side ≡ op
    op_of op is = cc
follows plan box_plan act here d pair (Turns way p b e free) on has agrees = record {
  first = λ h. on_block (turned here way p) way pair (first_by box_plan (acts.Turn way p) here)
      (turn_makes here way p (of_way pair.blocks way) agrees);
  second = λ op is h. absurd h;
}
follows plan box_plan act here d pair (AwaitsBlock way p) on has agrees = record {
  first = λ h. on_block (await_block here p) way pair (ops.LookBlock way)
      (see_makes here way p (of_way pair.blocks way));
  second = λ op is h. absurd h;
}
follows plan box_plan act here d pair (PullsStarter lever way e free) on has agrees = record {
  first = λ h. pull_follows (starter_way (signal_of box_plan lever)) way here
      (pulled here lever (signal_of box_plan lever)) pair e;
  second = λ op is h. absurd h;
}
follows plan box_plan act here d pair (Enters a lever signal train way e to there (Passes free)) on has agrees =
    let entry = enters box_plan here lever signal train way pair e (ap starter_way e ∙ ap way_to to) there has agrees in
    record { first = entry.full; second = entry.free }
follows plan box_plan act here d pair (Enters a lever signal train way e to there (Overruns free)) on has agrees =
    let entry = enters box_plan here lever signal train way pair e (ap starter_way e ∙ ap way_to to) there has agrees in
    record { first = entry.full; second = entry.free }
follows plan box_plan act here d pair (AwaitsTrain way) on has agrees = record {
  first = λ h. on_line (await_train here way) way pair (ops.LookSection way)
      (approach_makes here way way (of_way pair.lines way));
  second = λ op is h. absurd h;
}
follows plan box_plan act here d pair (Berths way b e free) on has agrees = record {
  first = λ h. on_line (berthed here way b.place) way pair (take_out_op here way)
      (berth_makes here way b.place (of_way pair.lines way) agrees);
  second = λ op is h. absurd h;
}
follows plan box_plan act here d pair (Parts way b e free) on has agrees = record {
  first = λ h. on_line (parted here way b.place) way pair (ops.LookSection way)
      (part_makes here way way b.place (of_way pair.lines way));
  second = λ op is h. absurd h;
}
follows plan box_plan act here d pair (Clears way free) on has agrees = record {
  first = λ h. on_line (cleared here way) way pair (take_out_op here way)
      (clear_makes here way (of_way pair.lines way) agrees);
  second = λ op is h. absurd h;
}
follows plan box_plan act here d pair out on has agrees = absurd on

first_there : (kind : Kind) (P : Type 0) → IsOnWord kind → FirstOn kind P → P
first_there Tally P on h = absurd on
first_there BellWord P on h = h
first_there BlockWord P on h = h
first_there PlainLineWord P on h = h

second_there : (kind : Kind) (P : Type 0) → IsOnWord kind → SecondOn kind P → P
second_there Tally P on h = absurd on
second_there BellWord P on h = h
second_there BlockWord P on h = h
second_there PlainLineWord P on h = h

-- where a call is decided at an operation, the new word is the number of what the law makes of the pair
pub call_follows : (plan : PlanFields) (box_plan : BoxFields) (act : Act) (here : BoxState) (pair : PairState)
    → IsOnWord (kind_of (decide plan box_plan act here)) → HasTrainNos here
    → Agrees (kind_of (decide plan box_plan act here)) (link_of box_plan act) here pair
    → FollowsLaw plan box_plan act here pair
call_follows plan box_plan act here pair on has agrees =
    let f = follows plan box_plan act here (decide plan box_plan act here) pair (outcome_of plan box_plan act here) on
    has agrees in
    let kind = kind_of (decide plan box_plan act here) in
    record {
      first = λ h. f.first (first_there kind _ on h);
      second =
          λ op is h. f.second op is (second_there kind _ on h);
    }
