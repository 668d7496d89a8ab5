-- A call leaves no count above the number of calls, and no train that fits no lane.
use Rattle.std.proofs.Common.{◌≡◌, ℕ, ◌+◌, ◌-◌, ◌≤◌, ◌==◌, List, [], ◌∷◌, inl, inr, Bool, true, false, cond}
use Rattle.std.proofs.Common.{refl, ap, sym, subst, ◌∙◌, arith}
use Rattle.std.specs.Prelude.{Option, Some, None, IfSome, All, length, slice_set}
use Rattle.std.proofs.lemmas.Bool.{cases_lt}
use Rattle.std.proofs.lemmas.Bool.Decides.{eqb_tells}
use Rattle.std.proofs.lemmas.List.{get_or-set_same, get_or-set_other, get_or_past, length-set}
use Rattle.std.proofs.lemmas.List.Elements.{All-head}
use Rattle.block_words.specs.declared.Position.{Position}
use Rattle.block_words.specs.declared.Position.TheVariants as shows
use Rattle.block_words.specs.declared.Way.{Way}
use Rattle.block_words.specs.declared.Way.TheVariants.{Up, Down}
use Rattle.line_plan.specs.declared.signal.Signal.{Signal}
use Rattle.line_plan.specs.Frames.{BoxFields, signal_of}
use Rattle.line_plan.specs.Plans.{PlanFields, train_at}
use Rattle.line_law.specs.declared.call.Act.{Act}
use Rattle.line_law.specs.declared.call.Act.TheVariants as acts
use Rattle.line_law.specs.declared.link.Link.{Link}
use Rattle.line_law.specs.declared.state.Bell.{Bell}
use Rattle.line_law.specs.declared.state.Block.{Block}
use Rattle.line_law.specs.declared.state.BoxState.{BoxState}
use Rattle.line_law.specs.declared.state.Incoming.{Incoming}
use Rattle.line_law.specs.declared.state.Passage.{Passage}
use Rattle.line_law.specs.Arrivals.{first_train, next_number, next_train}
use Rattle.line_law.specs.Arrivals.{train_awaited, train_berthed, train_cleared, train_parted}
use Rattle.line_law.specs.Bells.{awaited, heard, rung}
use Rattle.line_law.specs.Controls.{left_control}
use Rattle.line_law.specs.Decisions.{Decision, Here, OnBell, OnBlock, OnPlainLine, Told}
use Rattle.line_law.specs.Instruments.{line_turned, same_position}
use Rattle.line_law.specs.Law.{decide, link_of}
use Rattle.line_law.specs.Levers.{is_unspent_clear, pulled}
use Rattle.line_law.specs.Outcomes.{Outcome, Refused, Rings, Hears, AwaitsBell, Turns, AwaitsBlock, Pulls, PullsStarter}
use Rattle.line_law.specs.Outcomes.{Puts, Brings, GoesTo, GoesAway, Enters, AwaitsTrain, Berths, Parts, Clears}
use Rattle.line_law.specs.Outcomes.{Winds, Releases}
use Rattle.line_law.specs.Tracks.{train_on}
use Rattle.line_law.specs.Trains.{holds, is_berth_at, left_by}
use Rattle.line_law.specs.Ways.{of_way, with_way}
use Rattle.word_laws.specs.WordNumbers.{BellAgrees, BlockAgrees, IsTrainNo, PlainLineAgrees}
use Rattle.box_desk.specs.Boxes.{IsCounted}
use Rattle.line_law.proofs.Boxes.{ways_with}
use Rattle.line_law.proofs.Outcomes.{outcome_of}

-- one call more
pub later : (n m : ℕ) (here : BoxState) → IsCounted n m here → IsCounted (n + 1) m here
later n m here is =
    record {
      rung = λ way. omega (arith, is.rung way);
      sent = λ way. omega (arith, is.sent way);
      turns = λ way. omega (arith, is.turns way);
      taken = λ way. omega (arith, is.taken way);
      brought = is.brought;
      stands = is.stands;
    }

one_of : {Word : Type 0} (b : Bool) (n m : ℕ) (x y : Told Word) → IsCounted n m x.here → IsCounted n m y.here
    → IsCounted n m (cond b x y).here
one_of true n m x y p q = p
one_of false n m x y p q = q

-- ---- trains at places

stands_after : (places : List (Option ℕ)) (at : ℕ) (there : Option ℕ) (place : ℕ) → IfSome there IsTrainNo
    → ((p : ℕ) → IfSome (train_on places p) IsTrainNo) → IfSome (train_on (slice_set places at there) place) IsTrainNo
stands_after places at there place new old = elim (eqb_tells place at) [
  | inl same ↦ elim (cases_lt at (length places)) [
    | inl inside ↦
        let here : train_on (slice_set places at there) place ≡ there =
        ap (λ (p : ℕ). train_on (slice_set places at there) p) same.1
        ∙ get_or-set_same places at there None inside in
        subst (λ (o : Option ℕ). IfSome o IsTrainNo) (sym here) new
    | inr outside ↦
        let past : length (slice_set places at there) ≤ place =
        omega (arith, outside, same.1, length-set places at there) in
        subst (λ (o : Option ℕ). IfSome o IsTrainNo)
        (sym (get_or_past (slice_set places at there) place None past)) tt
  ]
  | inr differ ↦
      subst (λ (o : Option ℕ). IfSome o IsTrainNo)
      (sym (get_or-set_other places at place there None differ.1)) (old place)
]

-- ---- the counts of lines

turned_taken : (position : Position) (line : Incoming) (v : ℕ) → (line_turned line position v).taken ≡ line.taken
turned_taken shows.Normal line v = refl
turned_taken shows.LineClear line v = refl
turned_taken shows.TrainOnLine line v = refl

turned_turns : (position : Position) (line : Incoming) (v : ℕ) → (line_turned line position v).turns ≡ v
turned_turns shows.Normal line v = refl
turned_turns shows.LineClear line v = refl
turned_turns shows.TrainOnLine line v = refl

-- a line that is written with counts of its own
line_after : (n m : ℕ) (here : BoxState) (way : Way) (line : Incoming) → line.turns ≤ n → line.taken ≤ n
    → IsCounted n m here → IsCounted n m (record here { incoming = with_way here.incoming way line })
line_after n m here way line turns taken is =
    record {
      rung = is.rung;
      sent = is.sent;
      turns = ways_with (λ (w : Way) (x : Incoming). x.turns ≤ n) here.incoming way line turns is.turns;
      taken = ways_with (λ (w : Way) (x : Incoming). x.taken ≤ n) here.incoming way line taken is.taken;
      brought = is.brought;
      stands = is.stands;
    }

place_after : (n m : ℕ) (here : BoxState) (place : ℕ) (there : Option ℕ) → IfSome there IsTrainNo → IsCounted n m here
    → IsCounted n m (record here { places = slice_set here.places place there })
place_after n m here place there fits is =
    record {
      rung = is.rung;
      sent = is.sent;
      turns = is.turns;
      taken = is.taken;
      brought = is.brought;
      stands = λ p. stands_after here.places place there p fits is.stands;
    }

-- ---- calls on bells

rung_counts : (n m : ℕ) (here : BoxState) (side : Way) (code count : ℕ) (unheard : Option ℕ) → count ≤ n
    → IsCounted n m here → IsCounted (n + 1) m (rung here side code count unheard).here
rung_counts n m here side code count (Some held) few is = later n m here is
rung_counts n m here side code count None few is =
    let more = later n m here is in
    record {
      rung = ways_with (λ (w : Way) (k : ℕ). k ≤ n + 1) here.rung side (count + 1) (omega (arith, few)) more.rung;
      sent = more.sent;
      turns = more.turns;
      taken = more.taken;
      brought = is.brought;
      stands = more.stands;
    }

heard_counts : (n m : ℕ) (here : BoxState) (count : ℕ) (unheard : Option ℕ) → IsCounted n m here
    → IsCounted n m (heard here count unheard).here
heard_counts n m here count (Some code) is = is
heard_counts n m here count None is = is

awaited_counts : (n m : ℕ) (here : BoxState) (code count : ℕ) (unheard : Option ℕ) → IsCounted n m here
    → IsCounted n m (awaited here code count unheard).here
awaited_counts n m here code count (Some held) is = one_of (held == code) n m _ _ is is
awaited_counts n m here code count None is = is

-- ---- levers

pulled_counts : (n m : ℕ) (here : BoxState) (lever : ℕ) (signal : Option Signal) → IsCounted n m here
    → IsCounted n m (pulled here lever signal)
pulled_counts n m here lever None is =
    record {
      rung = is.rung;
      sent = is.sent;
      turns = is.turns;
      taken = is.taken;
      brought = is.brought;
      stands = is.stands;
    }
pulled_counts n m here lever (Some signal) is =
    record {
      rung = is.rung;
      sent = is.sent;
      turns = is.turns;
      taken = is.taken;
      brought = is.brought;
      stands = is.stands;
    }

-- ---- trains

left_counts : (n m : ℕ) (box_plan : BoxFields) (here : BoxState) (signal : Signal) → IsCounted n m here
    → IsCounted n m (left_by box_plan here signal)
left_counts n m box_plan here signal is =
    record {
      rung = is.rung;
      sent = is.sent;
      turns = turns;
      taken = taken;
      brought = is.brought;
      stands = λ p. stands_after here.places signal.from None p tt is.stands;
    }
  where
    one : (b : Bool) (line : Incoming) (P : Incoming → Type 0)
        → P (record line { control = left_control line.control }) → P line
        → P (cond b (record line { control = left_control line.control }) line)
    one true line P left stays = left
    one false line P left stays = stays

    turns : (w : Way) → (of_way (left_by box_plan here signal).incoming w).turns ≤ n
    turns Up = one (is_berth_at box_plan.berth_up signal.from) here.incoming.up (λ (x : Incoming). x.turns ≤ n)
        (is.turns Up) (is.turns Up)
    turns Down = one (is_berth_at box_plan.berth_down signal.from) here.incoming.down (λ (x : Incoming). x.turns ≤ n)
        (is.turns Down) (is.turns Down)

    taken : (w : Way) → (of_way (left_by box_plan here signal).incoming w).taken ≤ n
    taken Up = one (is_berth_at box_plan.berth_up signal.from) here.incoming.up (λ (x : Incoming). x.taken ≤ n)
        (is.taken Up) (is.taken Up)
    taken Down = one (is_berth_at box_plan.berth_down signal.from) here.incoming.down (λ (x : Incoming). x.taken ≤ n)
        (is.taken Down) (is.taken Down)

sent_counts : (n m : ℕ) (left : BoxState) (way : Way) (k : ℕ) → k ≤ n → IsCounted n m left
    → IsCounted n m (record left { sent = with_way left.sent way k })
sent_counts n m left way k few is =
    record {
      rung = is.rung;
      sent = ways_with (λ (w : Way) (x : ℕ). x ≤ n) left.sent way k few is.sent;
      turns = is.turns;
      taken = is.taken;
      brought = is.brought;
      stands = is.stands;
    }

first_fits : (j train : ℕ) (line : List Passage) → All (λ passage. IsTrainNo passage.train) line
    → first_train j line ≡ Some train → IsTrainNo train
first_fits j train [] each is = absurd cc
first_fits j train (first ∷ line) each is = pick (first.number == j) is where
  pick : (b : Bool) → cond b (Some first.train) None ≡ Some train → IsTrainNo train
  pick true e =
      let same : first.train ≡ train = cc in
      subst (λ (t : ℕ). IsTrainNo t) same (All-head (λ (passage : Passage). IsTrainNo passage.train) first line each)
  pick false e = absurd cc

berthed_counts : (t : Option ℕ) (n m : ℕ) (here : BoxState) (way : Way) (place : ℕ) (line : List Passage)
    → IfSome t IsTrainNo → IsCounted n m here
    → IsCounted (n + 1) m (train_berthed t here way place (next_number here way) line).here
berthed_counts None n m here way place line fits is = later n m here is
berthed_counts (Some train) n m here way place line fits is =
    let more = later n m here is in
    line_after (n + 1) m (record here { places = slice_set here.places place (Some train) }) way _ (more.turns way)
    (omega (arith, is.taken way)) (place_after (n + 1) m here place (Some train) fits more)

parted_counts : (t : Option ℕ) (n m : ℕ) (here : BoxState) (way : Way) (place : ℕ) (line : List Passage)
    → IfSome t IsTrainNo → IsCounted n m here
    → IsCounted (n + 1) m (train_parted t here way place (next_number here way) line).here
parted_counts None n m here way place line fits is = later n m here is
parted_counts (Some train) n m here way place line fits is =
    let more = later n m here is in
    line_after (n + 1) m (record here { places = slice_set here.places place (Some train) }) way _ (more.turns way)
    (more.taken way) (place_after (n + 1) m here place (Some train) fits more)

cleared_counts : (t : Option ℕ) (n m : ℕ) (here : BoxState) (way : Way) (line : List Passage) → IsCounted n m here
    → IsCounted (n + 1) m (train_cleared t here way (next_number here way) line).here
cleared_counts None n m here way line is = later n m here is
cleared_counts (Some train) n m here way line is =
    let more = later n m here is in
    line_after (n + 1) m here way _ (more.turns way) (omega (arith, is.taken way)) more

awaits_counts : (t : Option ℕ) (n m : ℕ) (here : BoxState) (j : ℕ) (line : List Passage) → IsCounted n m here
    → IsCounted n m (train_awaited t here j line).here
awaits_counts None n m here j line is = is
awaits_counts (Some train) n m here j line is = is

next_fits : (here : BoxState) (way : Way) (line : List Passage) (t : Option ℕ)
    → All (λ passage. IsTrainNo passage.train) line → next_train here way line ≡ t → IfSome t IsTrainNo
next_fits here way line None each is = tt
next_fits here way line (Some train) each is = first_fits (next_number here way) train line each is

-- ---- every call

-- what a decision leaves, on every word that agrees with the box, has no count above a number
abbrev pub LeavesCounted : ℕ → ℕ → Link → BoxState → Decision → Type 0
LeavesCounted limit m link here (Here reply after) = IsCounted limit m after
LeavesCounted limit m link here (OnBell act) =
    (bell : Bell) → BellAgrees link here bell → IsCounted limit m (act bell).here
LeavesCounted limit m link here (OnBlock act) =
    (block : Block) → BlockAgrees link here block → IsCounted limit m (act block).here
LeavesCounted limit m link here (OnPlainLine act) =
    (line : List Passage) → PlainLineAgrees link here line → IsCounted limit m (act line).here

-- the train that a call brings fits a lane
abbrev pub BringsNo : Act → Type 0
BringsNo (acts.Bring train) = IsTrainNo train
BringsNo act = Unit {0}

outcome_counts : (plan : PlanFields) (box_plan : BoxFields) (n m : ℕ) (here : BoxState) (act : Act) (d : Decision)
    → Outcome plan box_plan here act d → BringsNo act → IsCounted n m here
    → LeavesCounted (n + 1) m (link_of box_plan act) here d
outcome_counts plan box_plan n m here act d (Refused a reply refused) fits is = later n m here is
outcome_counts plan box_plan n m here act d (Rings side code) fits is = λ bell agrees.
    rung_counts n m here side code bell.count bell.unheard
    (subst (λ (k : ℕ). k ≤ n) (sym agrees.rung) (is.rung side)) is
outcome_counts plan box_plan n m here act d (Hears side) fits is = λ bell agrees.
    later n m _ (heard_counts n m here bell.count bell.unheard is)
outcome_counts plan box_plan n m here act d (AwaitsBell side code) fits is = λ bell agrees.
    later n m _ (awaited_counts n m here code bell.count bell.unheard is)
outcome_counts plan box_plan n m here act d (Turns way position berth e free) fits is = λ block agrees.
    let more = later n m here is in
    line_after (n + 1) m here way _
    (subst (λ (v : ℕ). v ≤ n + 1) (sym (turned_turns position (of_way here.incoming way) (block.turns + 1)))
    (omega (arith, agrees.turned.0, is.turns way)))
    (subst (λ (v : ℕ). v ≤ n + 1) (sym (turned_taken position (of_way here.incoming way) (block.turns + 1)))
    (more.taken way)) more
outcome_counts plan box_plan n m here act d (AwaitsBlock way position) fits is = λ block agrees.
    one_of (same_position block.position position) (n + 1) m _ _ (later n m here is) (later n m here is)
outcome_counts plan box_plan n m here act d (Pulls lever e free) fits is =
    later n m _ (pulled_counts n m here lever (signal_of box_plan lever) is)
outcome_counts plan box_plan n m here act d (PullsStarter lever way e free) fits is = λ block agrees.
    one_of (is_unspent_clear block) (n + 1) m _ _
    (later n m _ (pulled_counts n m here lever (signal_of box_plan lever) is)) (later n m here is)
outcome_counts plan box_plan n m here act d (Puts lever free) fits is =
    let more = later n m here is in
    record {
      rung = more.rung;
      sent = more.sent;
      turns = more.turns;
      taken = more.taken;
      brought = more.brought;
      stands = more.stands;
    }
outcome_counts plan box_plan n m here act d (Brings train free) fits is =
    let more = place_after (n + 1) m here (train_at plan.trains train).place (Some train) fits (later n m here is) in
    record {
      rung = more.rung;
      sent = more.sent;
      turns = more.turns;
      taken = more.taken;
      brought = length-set here.brought (train - 1) true ∙ is.brought;
      stands = more.stands;
    }
outcome_counts plan box_plan n m here act d (GoesTo a lever signal train place e to there moves) fits is =
    let one : IsTrainNo train = subst (λ (o : Option ℕ). IfSome o IsTrainNo) there (is.stands signal.from) in
    place_after (n + 1) m (left_by box_plan here signal) place (Some train) one
    (later n m _ (left_counts n m box_plan here signal is))
outcome_counts plan box_plan n m here act d (GoesAway a lever signal train e to there moves) fits is =
    later n m _ (left_counts n m box_plan here signal is)
outcome_counts plan box_plan n m here act d (Enters a lever signal train way e to there moves) fits is =
    λ line agrees.
    one_of (holds line (of_way here.sent way + 1)) (n + 1) m _ _ (later n m here is)
    (sent_counts (n + 1) m (left_by box_plan here signal) way (of_way here.sent way + 1) (omega (arith, is.sent way))
    (later n m _ (left_counts n m box_plan here signal is)))
outcome_counts plan box_plan n m here act d (AwaitsTrain way) fits is = λ line agrees.
    later n m _ (awaits_counts (next_train here way line) n m here (next_number here way) line is)
outcome_counts plan box_plan n m here act d (Berths way berth e free) fits is = λ line agrees.
    berthed_counts (next_train here way line) n m here way berth.place line
    (next_fits here way line _ agrees.each refl) is
outcome_counts plan box_plan n m here act d (Parts way berth e free) fits is = λ line agrees.
    parted_counts (next_train here way line) n m here way berth.place line
    (next_fits here way line _ agrees.each refl) is
outcome_counts plan box_plan n m here act d (Clears way free) fits is = λ line agrees.
    cleared_counts (next_train here way line) n m here way line is
outcome_counts plan box_plan n m here act d (Winds way free) fits is =
    let more = later n m here is in line_after (n + 1) m here way _ (more.turns way) (more.taken way) more
outcome_counts plan box_plan n m here act d (Releases way free) fits is =
    let more = later n m here is in line_after (n + 1) m here way _ (more.turns way) (more.taken way) more

-- a call leaves the counts in range, with one call more
pub call_counts : (plan : PlanFields) (box_plan : BoxFields) (n m : ℕ) (here : BoxState) (act : Act) → BringsNo act
    → IsCounted n m here → LeavesCounted (n + 1) m (link_of box_plan act) here (decide plan box_plan act here)
call_counts plan box_plan n m here act fits is =
    outcome_counts plan box_plan n m here act (decide plan box_plan act here) (outcome_of plan box_plan act here) fits
    is
