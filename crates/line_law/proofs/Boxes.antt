-- Every call keeps what a box keeps.
use Rattle.std.proofs.Common.{◌≡◌, ◌≢◌, ℕ, ◌+◌, ◌-◌, ◌<◌, ◌≤◌, Bool, true, false, cond, IsTrue, List, [], ◌∷◌, Option}
use Rattle.std.proofs.Common.{Some, None, All, IfSome, length, length-set, refl, sym, ap, subst, ◌∙◌, arith, eqb, inl}
use Rattle.std.proofs.Common.{inr}
use Rattle.std.specs.Prelude.{◌==◌}
use Rattle.std.proofs.lemmas.Bool.Decides.{eqb_tells}
use Rattle.std.proofs.lemmas.List.Elements.{All-head, All-set}
use Rattle.block_words.specs.declared.Position.{Position}
use Rattle.block_words.specs.declared.Position.TheVariants as shows
use Rattle.block_words.specs.declared.Way.{Way}
use Rattle.block_words.specs.declared.Way.TheVariants.{Up, Down}
use Rattle.locking_table.specs.Places.{IsLever, other_end}
use Rattle.locking_table.specs.Meaning.{holder_of}
use Rattle.locking_table.specs.declared.places.End.{End}
use Rattle.locking_table.specs.declared.places.End.TheVariants as ends
use Rattle.locking_table.specs.declared.row.Holder.{Holder}
use Rattle.line_plan.specs.Frames.{BoxFields, berth_of, frame_size, kind_of, signal_of}
use Rattle.line_plan.specs.Plans.{PlanFields, is_train, train_at}
use Rattle.line_plan.specs.Sections.{most_of}
use Rattle.line_plan.specs.declared.berth.Berth.{Berth}
use Rattle.line_plan.specs.declared.plan.TrainPlan.{TrainPlan}
use Rattle.line_plan.specs.declared.signal.Signal.{Signal}
use Rattle.line_law.specs.declared.call.Act.{Act}
use Rattle.line_law.specs.declared.call.Reply.{Reply}
use Rattle.line_law.specs.declared.state.Block.{Block}
use Rattle.line_law.specs.declared.state.BoxState.{BoxState}
use Rattle.line_law.specs.declared.state.Control.{Control}
use Rattle.line_law.specs.declared.state.Control.TheVariants.{Absolute, Permissive}
use Rattle.line_law.specs.declared.state.Incoming.{Incoming}
use Rattle.line_law.specs.declared.state.PairState.{PairState}
use Rattle.line_law.specs.declared.state.Passage.{Passage}
use Rattle.line_law.specs.declared.ways.ByWay.{ByWay}
use Rattle.line_law.specs.Arrivals.{first_train, in_berth, next_number, next_train, train_awaited, train_berthed}
use Rattle.line_law.specs.Arrivals.{train_cleared, train_parted}
use Rattle.line_law.specs.Bells.{awaited, heard, rung}
use Rattle.line_law.specs.Controls.{berthed_control, given, left_control, released_control}
use Rattle.line_law.specs.Decisions.{Decision, Told, on_pair, or_later}
use Rattle.line_law.specs.Instruments.{clear_refusal, control_refusal, line_turned, same_position, turn_refusal, turned}
use Rattle.line_law.specs.Levers.{is_unspent_clear, lock_refusal, pull_refusal, pulled, put_back, put_refusal}
use Rattle.line_law.specs.Levers.{row_refusal, spare_refusal}
use Rattle.line_law.specs.Lines.{FitsLine, HasCounts, IsBoxAfter, IsBoxOf, IsControlOf, IsPairAfter}
use Rattle.line_law.specs.Outcomes.{Outcome, Refused, Rings, Hears, AwaitsBell, Turns, AwaitsBlock, Pulls, PullsStarter}
use Rattle.line_law.specs.Outcomes.{Puts, Brings, GoesTo, GoesAway, Enters, AwaitsTrain, Berths, Parts, Clears, Winds}
use Rattle.line_law.specs.Outcomes.{Releases}
use Rattle.line_law.specs.Ready.{FitsHere}
use Rattle.line_law.specs.Sound.{IsSound}
use Rattle.line_law.specs.LeverEnds.{is_pulled, is_reversed_end}
use Rattle.line_law.specs.Tracks.{train_on}
use Rattle.line_law.specs.Trains.{brought_here, enter, holds, left_by, line_left, put_at}
use Rattle.line_law.specs.Ways.{of_way, with_way}
use Rattle.line_law.proofs.Rows.{follow_danger, follow_off, follow_pulled, follow_put, rows_moved}

-- a train that may stand at a place
abbrev pub MayStand : List TrainPlan → Option ℕ → Type 0
MayStand trains there = IfSome there (λ train. IsTrue (is_train trains train))

-- ---- one value of two

-- what holds of the value that is written and of both values before holds of both after
pub ways_with : {A : Type 0} (P : Way → A → Type 0) (both : ByWay A) (way : Way) (x : A) → P way x
    → ((w : Way) → P w (of_way both w)) → (w : Way) → P w (of_way (with_way both way x) w)
ways_with P both Up x new old Up = new
ways_with P both Up x new old Down = old Down
ways_with P both Down x new old Up = old Up
ways_with P both Down x new old Down = new

-- where the first of two reasons and the second are none
pub both_none : (r s : Option Reply) → or_later r s ≡ None → (r ≡ None) × (s ≡ None)
both_none (Some reply) s e = absurd cc
both_none None s e = (refl, e)

-- ---- the parts of a box

-- one call more
pub later : (trains : List TrainPlan) (bp : BoxFields) (n : ℕ) (here : BoxState) → IsBoxAfter trains bp n here
    → IsBoxAfter trains bp (n + 1) here
later trains bp n here is =
    record {
      shape = is.shape;
      arms = is.arms;
      rows = is.rows;
      counts =
          record { sent = λ w. omega (arith, is.counts.sent w); taken = λ w. omega (arith, is.counts.taken w) };
    }

-- another state with lists of the same lengths
shaped : (trains : List TrainPlan) (bp : BoxFields) (here next : BoxState) → IsBoxOf trains bp here
    → length next.ends ≡ length here.ends → length next.off ≡ length here.off → length next.places ≡ length here.places
    → length next.brought ≡ length here.brought
    → All (MayStand trains) next.places → ((w : Way) → IsControlOf (berth_of bp w) (of_way next.incoming w).control)
    → IsBoxOf trains bp next
shaped trains bp here next is e o p b stand controls =
    record {
      frame =
          record { ends = e ∙ is.frame.ends; off = o ∙ is.frame.off; places = p ∙ is.frame.places };
      brought =
          b ∙ is.brought;
      occupants = stand;
      controls = controls;
    }

-- a state that differs in its counts alone
counted : (trains : List TrainPlan) (bp : BoxFields) (n m : ℕ) (here next : BoxState) → IsBoxAfter trains bp n here
    → next.ends ≡ here.ends → next.off ≡ here.off → next.places ≡ here.places → next.brought ≡ here.brought
    → ((w : Way) → IsControlOf (berth_of bp w) (of_way next.incoming w).control) → HasCounts m next
    → IsBoxAfter trains bp m next
counted trains bp n m here next is e o p b controls counts =
    record {
      shape = shaped trains bp here next is.shape (ap length e) (ap length o) (ap length p) (ap length b)
          (subst (λ (xs : List (Option ℕ)). All (MayStand trains) xs) (sym p) is.shape.occupants) controls;
      arms = rw (e, o) is.arms;
      rows = rw e is.rows;
      counts = counts;
    }

-- ---- the control of a line

left_fits : (n : Option ℕ) (c : Control) → FitsLine n c → FitsLine n (left_control c)
left_fits None (Absolute s) h = tt
left_fits None (Permissive out) h = h
left_fits (Some n) (Absolute s) h = h
left_fits (Some n) (Permissive out) h = omega (arith, h)

berthed_fits : (n : Option ℕ) (c : Control) → FitsLine n c → FitsLine n (berthed_control c)
berthed_fits None (Absolute s) h = tt
berthed_fits None (Permissive out) h = h
berthed_fits (Some n) (Absolute s) h = h
berthed_fits (Some n) (Permissive out) h = h

released_fits : (n : Option ℕ) (c : Control) → FitsLine n c → FitsLine n (released_control c)
released_fits None (Absolute s) h = tt
released_fits None (Permissive out) h = h
released_fits (Some n) (Absolute s) h = h
released_fits (Some n) (Permissive out) h = omega (arith, h)

given_by : (n : Option ℕ) (c : Control) (here : BoxState) (b : Berth) → b.permissive ≡ n
    → control_refusal c here b ≡ None → FitsLine n c → FitsLine n (given c)
given_by None (Absolute s) here b e free h = tt
given_by None (Permissive out) here b e free h = h
given_by (Some n) (Absolute s) here b e free h = h
given_by (Some n) (Permissive out) here b e free h = elim (eqb_tells out (most_of b.permissive)) [
  | inl full ↦
      let test : eqb out (most_of b.permissive) ≡ true = full.0 in
      absurd (let f : control_refusal (Permissive out) here b ≡ None = free in let g = rw test at f in cc)
  | inr differ ↦
      let most : most_of b.permissive ≡ n = ap most_of e in
      let d = differ.1 in
      let apart : out ≢ n = λ f. d (f ∙ sym most) in
      omega (arith, h, apart)
]

by_berth : (f : Control → Control) → ((n : Option ℕ) (c : Control) → FitsLine n c → FitsLine n (f c))
    → (b : Option Berth) (c : Control) → IsControlOf b c → IsControlOf b (f c)
by_berth f h None c is = h None c is
by_berth f h (Some berth) c is = h berth.permissive c is

left_line : (b : Option Berth) (b' : Option Berth) (place : ℕ) (line : Incoming) → IsControlOf b line.control
    → IsControlOf b (line_left b' place line).control
left_line b None place line is = is
left_line b (Some berth) place line is = go (berth.place == place) where
  go : (t : Bool) → IsControlOf b (cond t (record line { control = left_control line.control }) line).control
  go true = by_berth left_control left_fits b line.control is
  go false = is

turned_fits : (position : Position) (here : BoxState) (b : Berth) (line : Incoming) (v : ℕ)
    → turn_refusal here b line position ≡ None → IsControlOf (Some b) line.control
    → IsControlOf (Some b) (line_turned line position v).control
turned_fits shows.Normal here b line v free is = is
turned_fits shows.TrainOnLine here b line v free is = is
turned_fits shows.LineClear here b line v free is = go (same_position line.position shows.LineClear) refl free where
  go : (t : Bool) → same_position line.position shows.LineClear ≡ t
      → cond t (Some Reply.AlreadyThere) (clear_refusal here b line) ≡ None
      → IsControlOf (Some b) (line_turned line shows.LineClear v).control
  go true e f = absurd cc
  go false e f =
      let past = (both_none _ _ f).1 in
      let control = (both_none _ _ past).1 in
      given_by b.permissive line.control here b refl control is

turned_taken : (position : Position) (line : Incoming) (v : ℕ) → (line_turned line position v).taken ≡ line.taken
turned_taken shows.Normal line v = refl
turned_taken shows.LineClear line v = refl
turned_taken shows.TrainOnLine line v = refl

-- ---- calls on bells

rung_keeps : (trains : List TrainPlan) (bp : BoxFields) (n : ℕ) (here : BoxState) (side : Way) (code count : ℕ)
    (u : Option ℕ) → IsBoxAfter trains bp n here → IsBoxAfter trains bp n (rung here side code count u).here
rung_keeps trains bp n here side code count (Some held) is = is
rung_keeps trains bp n here side code count None is =
    counted trains bp n n here _ is refl refl refl refl is.shape.controls
    (record { sent = is.counts.sent; taken = is.counts.taken })

heard_keeps : (trains : List TrainPlan) (bp : BoxFields) (n : ℕ) (here : BoxState) (count : ℕ) (u : Option ℕ)
    → IsBoxAfter trains bp n here → IsBoxAfter trains bp n (heard here count u).here
heard_keeps trains bp n here count (Some code) is = is
heard_keeps trains bp n here count None is = is

one_of : {W : Type 0} (b : Bool) (P : BoxState → Type 0) (x y : Told W) → P x.here → P y.here → P (cond b x y).here
one_of true P x y p q = p
one_of false P x y p q = q

awaited_keeps : (trains : List TrainPlan) (bp : BoxFields) (n : ℕ) (here : BoxState) (code count : ℕ) (u : Option ℕ)
    → IsBoxAfter trains bp n here → IsBoxAfter trains bp n (awaited here code count u).here
awaited_keeps trains bp n here code count (Some held) is = one_of (held == code) (IsBoxAfter trains bp n) _ _ is is
awaited_keeps trains bp n here code count None is = is

-- ---- levers

free_row : (h : Option Holder) → row_refusal h ≡ None → h ≡ None
free_row None e = refl
free_row (Some holder) e = absurd cc

free_holder : (bp : BoxFields) (here : BoxState) (lever : ℕ) → lock_refusal bp here lever ≡ None
    → holder_of here.ends lever bp.rows ≡ None
free_holder bp here lever free = free_row _ (both_none _ _ free).0

-- what a pull that isn't refused says
pull_frees : (bp : BoxFields) (here : BoxState) (lever : ℕ) → pull_refusal bp here lever ≡ None
    → (is_pulled here.ends lever ≡ false) × (holder_of here.ends lever bp.rows ≡ None)
pull_frees bp here lever free = go (is_pulled here.ends lever) refl free where
  go : (t : Bool) → is_pulled here.ends lever ≡ t
      → cond t (Some Reply.AlreadyReversed) (or_later (spare_refusal (kind_of bp lever)) (lock_refusal bp here lever))
      ≡ None → (is_pulled here.ends lever ≡ false) × (holder_of here.ends lever bp.rows ≡ None)
  go true e f = absurd cc
  go false e f = (e, free_holder bp here lever (both_none _ _ f).1)

put_frees : (bp : BoxFields) (here : BoxState) (lever : ℕ) → put_refusal bp here lever ≡ None
    → (is_pulled here.ends lever ≡ true) × (holder_of here.ends lever bp.rows ≡ None)
put_frees bp here lever free = go (is_pulled here.ends lever) refl free where
  go : (t : Bool) → is_pulled here.ends lever ≡ t
      → cond t (lock_refusal bp here lever) (Some Reply.AlreadyNormal) ≡ None
      → (is_pulled here.ends lever ≡ true) × (holder_of here.ends lever bp.rows ≡ None)
  go true e f = (e, free_holder bp here lever f)
  go false e f = absurd cc

other_reversed : (e : End) → is_reversed_end e ≡ false → other_end e ≡ ends.Reversed
other_reversed ends.Normal h = refl
other_reversed ends.Reversed h = absurd cc

other_normal : (e : End) → is_reversed_end e ≡ true → other_end e ≡ ends.Normal
other_normal ends.Normal h = absurd cc
other_normal ends.Reversed h = refl

pulled_keeps : (trains : List TrainPlan) (bp : BoxFields) (n : ℕ) (here : BoxState) (lever : ℕ) (s : Option Signal)
    → IsSound bp → IsLever (frame_size bp.levers) lever → pull_refusal bp here lever ≡ None
    → IsBoxAfter trains bp n here
    → IsBoxAfter trains bp n (pulled here lever s)
pulled_keeps trains bp n here lever None sound fits free is =
    let frees = pull_frees bp here lever free in
    let within : lever - 1 < length here.ends = omega (arith, fits.0, fits.1, is.shape.frame.ends) in
    record {
      shape = shaped trains bp here _ is.shape (length-set here.ends (lever - 1) ends.Reversed) refl refl refl
          is.shape.occupants is.shape.controls;
      arms = follow_pulled here.off here.ends lever within is.arms;
      rows = rows_moved here.ends lever ends.Reversed (frame_size bp.levers) bp.rows is.shape.frame.ends fits sound.rows
          (other_reversed _ frees.0) frees.1;
      counts = record { sent = is.counts.sent; taken = is.counts.taken };
    }
pulled_keeps trains bp n here lever (Some s) sound fits free is =
    let frees = pull_frees bp here lever free in
    let within : lever - 1 < length here.ends = omega (arith, fits.0, fits.1, is.shape.frame.ends) in
    record {
      shape = shaped trains bp here _ is.shape (length-set here.ends (lever - 1) ends.Reversed)
          (length-set here.off (lever - 1) true) refl refl is.shape.occupants is.shape.controls;
      arms = follow_off here.off here.ends lever within is.arms;
      rows = rows_moved here.ends lever ends.Reversed (frame_size bp.levers) bp.rows is.shape.frame.ends fits sound.rows
          (other_reversed _ frees.0) frees.1;
      counts = record { sent = is.counts.sent; taken = is.counts.taken };
    }

put_keeps : (trains : List TrainPlan) (bp : BoxFields) (n : ℕ) (here : BoxState) (lever : ℕ) → IsSound bp
    → IsLever (frame_size bp.levers) lever → put_refusal bp here lever ≡ None → IsBoxAfter trains bp n here
    → IsBoxAfter trains bp n (put_back here lever)
put_keeps trains bp n here lever sound fits free is =
    let frees = put_frees bp here lever free in
    let within : lever - 1 < length here.off = omega (arith, fits.0, fits.1, is.shape.frame.off) in
    record {
      shape = shaped trains bp here _ is.shape (length-set here.ends (lever - 1) ends.Normal)
          (length-set here.off (lever - 1) false) refl refl is.shape.occupants is.shape.controls;
      arms = follow_put here.off here.ends lever within is.arms;
      rows = rows_moved here.ends lever ends.Normal (frame_size bp.levers) bp.rows is.shape.frame.ends fits sound.rows
          (other_normal _ frees.0) frees.1;
      counts = record { sent = is.counts.sent; taken = is.counts.taken };
    }

-- ---- trains

-- a train stands at a place
stands_keeps : (trains : List TrainPlan) (bp : BoxFields) (n : ℕ) (here : BoxState) (place train : ℕ)
    → IsTrue (is_train trains train) → IsBoxAfter trains bp n here → IsBoxAfter trains bp n (put_at here place train)
stands_keeps trains bp n here place train is_one is =
    record {
      shape = shaped trains bp here _ is.shape refl refl (length-set here.places place (Some train)) refl
          (All-set (MayStand trains) here.places place (Some train) is_one is.shape.occupants) is.shape.controls;
      arms = is.arms;
      rows = is.rows;
      counts = record { sent = is.counts.sent; taken = is.counts.taken };
    }

brought_keeps : (trains : List TrainPlan) (bp : BoxFields) (n : ℕ) (here : BoxState) (train place : ℕ)
    → IsTrue (is_train trains train) → IsBoxAfter trains bp n here
    → IsBoxAfter trains bp n (brought_here here train place)
brought_keeps trains bp n here train place is_one is =
    record {
      shape = shaped trains bp here _ is.shape refl refl (length-set here.places place (Some train))
          (length-set here.brought (train - 1) true)
          (All-set (MayStand trains) here.places place (Some train) is_one is.shape.occupants) is.shape.controls;
      arms = is.arms;
      rows = is.rows;
      counts = record { sent = is.counts.sent; taken = is.counts.taken };
    }

-- a train that stands at a place is one of the plan
pub stands_is : (trains : List TrainPlan) (places : List (Option ℕ)) (place train : ℕ) → place < length places
    → All (MayStand trains) places → train_on places place ≡ Some train → IsTrue (is_train trains train)
stands_is trains places place train within all e = subst (λ (o : Option ℕ). MayStand trains o) e (all place None within)

left_taken : (b : Option Berth) (place : ℕ) (line : Incoming) → (line_left b place line).taken ≡ line.taken
left_taken None place line = refl
left_taken (Some berth) place line = go (berth.place == place) where
  go : (t : Bool) → (cond t (record line { control = left_control line.control }) line).taken ≡ line.taken
  go true = refl
  go false = refl

left_keeps : (trains : List TrainPlan) (bp : BoxFields) (n : ℕ) (here : BoxState) (s : Signal)
    → IsLever (frame_size bp.levers) s.lever → IsBoxAfter trains bp n here → IsBoxAfter trains bp n (left_by bp here s)
left_keeps trains bp n here s fits is =
    let within : s.lever - 1 < length here.off = omega (arith, fits.0, fits.1, is.shape.frame.off) in
    record {
      shape = shaped trains bp here _ is.shape refl (length-set here.off (s.lever - 1) false)
          (length-set here.places s.from None) refl
          (All-set (MayStand trains) here.places s.from None tt is.shape.occupants) (controls is.shape.controls);
      arms = follow_danger here.off here.ends s.lever within is.arms;
      rows = is.rows;
      counts = record { sent = is.counts.sent; taken = taken is.counts.taken };
    } where
      controls : ((w : Way) → IsControlOf (berth_of bp w) (of_way here.incoming w).control) → (w : Way)
          → IsControlOf (berth_of bp w) (of_way (left_by bp here s).incoming w).control
      controls h Up = left_line bp.berth_up bp.berth_up s.from here.incoming.up (h Up)
      controls h Down = left_line bp.berth_down bp.berth_down s.from here.incoming.down (h Down)

      taken : ((w : Way) → (of_way here.incoming w).taken ≤ n) → (w : Way)
          → (of_way (left_by bp here s).incoming w).taken ≤ n
      taken h Up = omega (arith, left_taken bp.berth_up s.from here.incoming.up, h Up)
      taken h Down = omega (arith, left_taken bp.berth_down s.from here.incoming.down, h Down)

sent_keeps : (trains : List TrainPlan) (bp : BoxFields) (n : ℕ) (left : BoxState) (way : Way) (k : ℕ) → k ≤ n + 1
    → IsBoxAfter trains bp n left → IsBoxAfter trains bp (n + 1) (record left { sent = with_way left.sent way k })
sent_keeps trains bp n left way k few is =
    let more = later trains bp n left is in
    counted trains bp (n + 1) (n + 1) left _ more refl refl refl refl is.shape.controls
    (record { sent = ways_with (λ w x. x ≤ n + 1) left.sent way k few more.counts.sent; taken = more.counts.taken })

entered_keeps : (trains : List TrainPlan) (bp : BoxFields) (n : ℕ) (here left : BoxState) (way : Way) (train : ℕ)
    (line : List Passage) → IsBoxAfter trains bp n here → IsBoxAfter trains bp n left
    → IsBoxAfter trains bp (n + 1) (enter here left way train line).here
entered_keeps trains bp n here left way train line is next =
    one_of (holds line (of_way here.sent way + 1)) (IsBoxAfter trains bp (n + 1)) _ _ (later trains bp n here is)
    (sent_keeps trains bp n left way (of_way here.sent way + 1) (omega (arith, is.counts.sent way)) next)

-- ---- arrivals

-- an incoming line is written
line_keeps : (trains : List TrainPlan) (bp : BoxFields) (n : ℕ) (here : BoxState) (way : Way) (line : Incoming)
    → IsControlOf (berth_of bp way) line.control → line.taken ≤ n → IsBoxAfter trains bp n here
    → IsBoxAfter trains bp n (record here { incoming = with_way here.incoming way line })
line_keeps trains bp n here way line fits few is =
    counted trains bp n n here _ is refl refl refl refl
    (ways_with (λ w (x : Incoming). IsControlOf (berth_of bp w) x.control) here.incoming way line fits
    is.shape.controls)
    (record {
      sent = is.counts.sent;
      taken =
          ways_with (λ w (x : Incoming). x.taken ≤ n) here.incoming way line few is.counts.taken;
    })

first_is : (trains : List TrainPlan) (j : ℕ) (line : List Passage) (train : ℕ)
    → All (λ p. IsTrue (is_train trains p.train)) line → first_train j line ≡ Some train
    → IsTrue (is_train trains train)
first_is trains j [] train all e = absurd cc
first_is trains j (first ∷ rest) train all e = go (first.number == j) e where
  go : (t : Bool) → cond t (Some first.train) None ≡ Some train → IsTrue (is_train trains train)
  go true same = let is : first.train ≡ train =
      cc in subst (λ (k : ℕ). IsTrue (is_train trains k)) is
      (All-head (λ p. IsTrue (is_train trains p.train)) first rest all)
  go false same = absurd cc

in_berth_keeps : (trains : List TrainPlan) (bp : BoxFields) (n : ℕ) (here : BoxState) (way : Way) (place train : ℕ)
    (line : Incoming) → IsTrue (is_train trains train) → IsControlOf (berth_of bp way) line.control → line.taken ≤ n
    → IsBoxAfter trains bp n here → IsBoxAfter trains bp n (in_berth here way place train line)
in_berth_keeps trains bp n here way place train line one fits few is =
    line_keeps trains bp n (put_at here place train) way line fits few
    (stands_keeps trains bp n here place train one is)

berthed_keeps : (t : Option ℕ) (trains : List TrainPlan) (bp : BoxFields) (n : ℕ) (here : BoxState) (way : Way)
    (place : ℕ) (line : List Passage) → next_train here way line ≡ t → All (λ p. IsTrue (is_train trains p.train)) line
    → IsBoxAfter trains bp n here
    → IsBoxAfter trains bp (n + 1) (train_berthed t here way place (next_number here way) line).here
berthed_keeps None trains bp n here way place line e all is = later trains bp n here is
berthed_keeps (Some train) trains bp n here way place line e all is =
    in_berth_keeps trains bp (n + 1) here way place train _ (first_is trains _ line train all e)
    (by_berth berthed_control berthed_fits (berth_of bp way) _ (is.shape.controls way))
    (omega (arith, is.counts.taken way)) (later trains bp n here is)

parted_keeps : (t : Option ℕ) (trains : List TrainPlan) (bp : BoxFields) (n : ℕ) (here : BoxState) (way : Way)
    (place : ℕ) (line : List Passage) → next_train here way line ≡ t → All (λ p. IsTrue (is_train trains p.train)) line
    → IsBoxAfter trains bp n here
    → IsBoxAfter trains bp (n + 1) (train_parted t here way place (next_number here way) line).here
parted_keeps None trains bp n here way place line e all is = later trains bp n here is
parted_keeps (Some train) trains bp n here way place line e all is =
    in_berth_keeps trains bp (n + 1) here way place train _ (first_is trains _ line train all e)
    (by_berth berthed_control berthed_fits (berth_of bp way) _ (is.shape.controls way))
    (omega (arith, is.counts.taken way)) (later trains bp n here is)

cleared_keeps : (t : Option ℕ) (trains : List TrainPlan) (bp : BoxFields) (n : ℕ) (here : BoxState) (way : Way)
    (line : List Passage)
    → IsBoxAfter trains bp n here
    → IsBoxAfter trains bp (n + 1) (train_cleared t here way (next_number here way) line).here
cleared_keeps None trains bp n here way line is = later trains bp n here is
cleared_keeps (Some train) trains bp n here way line is =
    line_keeps trains bp (n + 1) here way _ (is.shape.controls way) (omega (arith, is.counts.taken way))
    (later trains bp n here is)

awaits_keeps : (t : Option ℕ) (trains : List TrainPlan) (bp : BoxFields) (n : ℕ) (here : BoxState) (j : ℕ)
    (line : List Passage) → IsBoxAfter trains bp n here → IsBoxAfter trains bp n (train_awaited t here j line).here
awaits_keeps None trains bp n here j line is = is
awaits_keeps (Some train) trains bp n here j line is = is

-- ---- a call

turns_keeps : (trains : List TrainPlan) (bp : BoxFields) (n : ℕ) (here : BoxState) (way : Way) (position : Position)
    (berth : Berth) (block : Block) → berth_of bp way ≡ Some berth
    → turn_refusal here berth (of_way here.incoming way) position ≡ None
    → IsBoxAfter trains bp n here → IsBoxAfter trains bp n (turned here way position block).here
turns_keeps trains bp n here way position berth block e free is =
    let fits : IsControlOf (Some berth) (of_way here.incoming way).control =
    subst (λ (o : Option Berth). IsControlOf o (of_way here.incoming way).control) e (is.shape.controls way) in
    let after : IsControlOf (berth_of bp way)
    (line_turned (of_way here.incoming way) position (block.turns + 1)).control =
    subst (λ (o : Option Berth). IsControlOf o
    (line_turned (of_way here.incoming way) position (block.turns + 1)).control) (sym e)
    (turned_fits position here berth (of_way here.incoming way) (block.turns + 1) free fits) in
    line_keeps trains bp n here way _ after
    (omega (arith, turned_taken position (of_way here.incoming way) (block.turns + 1), is.counts.taken way)) is

-- every call keeps what its box keeps, with one call more
pub box_keeps : (plan : PlanFields) (bp : BoxFields) (n : ℕ) (here : BoxState) (pair : PairState) (v : Way) (act : Act)
    (d : Decision) → IsSound bp → FitsHere plan bp act → Outcome plan bp here act d
    → IsPairAfter plan.trains n pair → IsBoxAfter plan.trains bp n here
    → IsBoxAfter plan.trains bp (n + 1) (on_pair v d pair).here
box_keeps plan bp n here pair v act d sound fits (Refused a reply refused) has is = later plan.trains bp n here is
box_keeps plan bp n here pair v act d sound fits (Rings side code) has is =
    later plan.trains bp n _
    (rung_keeps plan.trains bp n here side code (of_way pair.bells v).count (of_way pair.bells v).unheard is)
box_keeps plan bp n here pair v act d sound fits (Hears side) has is =
    later plan.trains bp n _
    (heard_keeps plan.trains bp n here (of_way pair.bells v).count (of_way pair.bells v).unheard is)
box_keeps plan bp n here pair v act d sound fits (AwaitsBell side code) has is =
    later plan.trains bp n _
    (awaited_keeps plan.trains bp n here code (of_way pair.bells v).count (of_way pair.bells v).unheard is)
box_keeps plan bp n here pair v act d sound fits (Turns way position berth e free) has is =
    later plan.trains bp n _ (turns_keeps plan.trains bp n here way position berth (of_way pair.blocks v) e free is)
box_keeps plan bp n here pair v act d sound fits (AwaitsBlock way position) has is =
    one_of (same_position (of_way pair.blocks v).position position) (IsBoxAfter plan.trains bp (n + 1)) _ _
    (later plan.trains bp n here is) (later plan.trains bp n here is)
box_keeps plan bp n here pair v act d sound fits (Pulls lever e free) has is =
    later plan.trains bp n _ (pulled_keeps plan.trains bp n here lever (signal_of bp lever) sound fits free is)
box_keeps plan bp n here pair v act d sound fits (PullsStarter lever way e free) has is =
    one_of (is_unspent_clear (of_way pair.blocks v)) (IsBoxAfter plan.trains bp (n + 1)) _ _
    (later plan.trains bp n _ (pulled_keeps plan.trains bp n here lever (signal_of bp lever) sound fits free is))
    (later plan.trains bp n here is)
box_keeps plan bp n here pair v act d sound fits (Puts lever free) has is =
    later plan.trains bp n _ (put_keeps plan.trains bp n here lever sound fits free is)
box_keeps plan bp n here pair v act d sound fits (Brings train free) has is =
    later plan.trains bp n _ (brought_keeps plan.trains bp n here train (train_at plan.trains train).place fits.0 is)
box_keeps plan bp n here pair v act d sound fits (GoesTo a lever signal train place e to there moves) has is =
    let says = sound.signal lever signal e in
    let one =
    stands_is plan.trains here.places signal.from train (omega (arith, says.from, is.shape.frame.places))
    is.shape.occupants there in
    later plan.trains bp n _
    (stands_keeps plan.trains bp n (left_by bp here signal) place train one
    (left_keeps plan.trains bp n here signal says.lever is))
box_keeps plan bp n here pair v act d sound fits (GoesAway a lever signal train e to there moves) has is =
    later plan.trains bp n _ (left_keeps plan.trains bp n here signal (sound.signal lever signal e).lever is)
box_keeps plan bp n here pair v act d sound fits (Enters a lever signal train way e to there moves) has is =
    entered_keeps plan.trains bp n here (left_by bp here signal) way train (of_way pair.lines v) is
    (left_keeps plan.trains bp n here signal (sound.signal lever signal e).lever is)
box_keeps plan bp n here pair v act d sound fits (AwaitsTrain way) has is =
    later plan.trains bp n _
    (awaits_keeps (next_train here way (of_way pair.lines v)) plan.trains bp n here (next_number here way)
    (of_way pair.lines v) is)
box_keeps plan bp n here pair v act d sound fits (Berths way berth e free) has is =
    berthed_keeps (next_train here way (of_way pair.lines v)) plan.trains bp n here way berth.place
    (of_way pair.lines v) refl (has.lines v) is
box_keeps plan bp n here pair v act d sound fits (Parts way berth e free) has is =
    parted_keeps (next_train here way (of_way pair.lines v)) plan.trains bp n here way berth.place (of_way pair.lines v)
    refl (has.lines v) is
box_keeps plan bp n here pair v act d sound fits (Clears way free) has is =
    cleared_keeps (next_train here way (of_way pair.lines v)) plan.trains bp n here way (of_way pair.lines v) is
box_keeps plan bp n here pair v act d sound fits (Winds way free) has is =
    later plan.trains bp n _ (line_keeps plan.trains bp n here way _ (is.shape.controls way) (is.counts.taken way) is)
box_keeps plan bp n here pair v act d sound fits (Releases way free) has is =
    later plan.trains bp n _
    (line_keeps plan.trains bp n here way _
    (by_berth released_control released_fits (berth_of bp way) _ (is.shape.controls way)) (is.counts.taken way) is)
