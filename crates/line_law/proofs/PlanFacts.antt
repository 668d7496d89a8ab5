-- What a plan's conditions say of the things that a call names.
use Rattle.std.proofs.Common.{◌≡◌, ℕ, ◌<◌, ◌≤◌, ◌++◌, IsTrue, List, [], ◌∷◌, Option, Some, None, All, IfSome, length}
use Rattle.std.proofs.Common.{map, refl, subst, arith, eqb-true}
use Rattle.std.specs.Prelude.{nat_lt, is_some, option_map, ◌==◌}
use Rattle.std.specs.List.{find}
use Rattle.std.proofs.lemmas.Bool.Decides.{nat_tests}
use Rattle.std.proofs.lemmas.List.Elements.{All-head, All-tail, All-nil, All-cons, All-filter, All-map}
use Rattle.block_words.specs.declared.Way.{Way}
use Rattle.block_words.specs.declared.Way.TheVariants.{Up, Down}
use Rattle.locking_table.specs.Places.{IsLever}
use Rattle.locking_table.specs.Sound.{CondFits, RowFits}
use Rattle.locking_table.specs.declared.row.Row.{Row}
use Rattle.locking_table.specs.declared.row.Cond.{Cond}
use Rattle.line_plan.specs.Frames.{BoxFields, are_rising, berth_of, frame_size, homes_of, is_working, kind_of}
use Rattle.line_plan.specs.Frames.{last_number, lever_of, locked_places, signal_of, track_of}
use Rattle.line_plan.specs.Plans.{IsBerth, IsBox, IsBoxRow, IsPlace, IsPlan, IsSignal, IsTrackLock, IsWorking}
use Rattle.line_plan.specs.Plans.{PlanFields, box_at}
use Rattle.line_plan.specs.declared.berth.Berth.{Berth}
use Rattle.line_plan.specs.declared.frame.Kind.{Kind}
use Rattle.line_plan.specs.declared.frame.Lever.{Lever}
use Rattle.line_plan.specs.declared.signal.Signal.{Signal}
use Rattle.line_plan.specs.declared.signal.TrackLock.{TrackLock}
use Rattle.line_plan.specs.declared.signal.To.{To}
use Rattle.line_law.specs.Sound.{BerthFits, IsSound, SignalFits}
use Rattle.line_law.specs.Trains.{end_of}
use Rattle.line_law.proofs.Found.{both, found_All, found_test}

-- ---- levers

-- a lever's number lies between the one before the first and the last
abbrev Within : ℕ → ℕ → Lever → Type 0
Within low high lever = (low < lever.number) × (lever.number ≤ high)

last_above : (before : ℕ) (levers : List Lever) → IsTrue (are_rising before levers) → before ≤ last_number before levers
last_above before [] h = omega arith
last_above before (lever ∷ levers) h =
    let parts = both (nat_lt before lever.number) (are_rising lever.number levers) h in
    let less : before < lever.number = (let p = parts.0 in grind (arith, nat_tests)) in
    let rest = last_above lever.number levers parts.1 in
    omega (arith, less, rest)

wider : (low lower high : ℕ) (levers : List Lever) → lower ≤ low → All (Within low high) levers
    → All (Within lower high) levers
wider low lower high [] h all = All-nil (Within lower high)
wider low lower high (lever ∷ levers) h all =
    let first : Within low high lever = All-head (Within low high) lever levers all in
    All-cons (Within lower high) lever levers (omega (arith, first.0, h), first.1)
    (wider low lower high levers h (All-tail (Within low high) lever levers all))

levers_within : (before : ℕ) (levers : List Lever) → IsTrue (are_rising before levers)
    → All (Within before (last_number before levers)) levers
levers_within before [] h = All-nil (Within before before)
levers_within before (lever ∷ levers) h =
    let parts = both (nat_lt before lever.number) (are_rising lever.number levers) h in
    let less : before < lever.number = (let p = parts.0 in grind (arith, nat_tests)) in
    let high : ℕ = last_number lever.number levers in
    let last = last_above lever.number levers parts.1 in
    All-cons (Within before high) lever levers (less, last)
    (wider lever.number before high levers (omega (arith, less)) (levers_within lever.number levers parts.1))

-- a lever that the frame has lies within it
pub lever_fits : (boxes b : ℕ) (box_plan : BoxFields) (n : ℕ) (lever : Lever) → IsBox boxes b box_plan
    → lever_of box_plan n ≡ Some lever → IsLever (frame_size box_plan.levers) n
lever_fits boxes b box_plan n lever is e =
    let within : Within 0 (frame_size box_plan.levers) lever =
    found_All (Within 0 (frame_size box_plan.levers)) (λ l. l.number == n) box_plan.levers lever e
    (levers_within 0 box_plan.levers is.rising) in
    let same : lever.number ≡ n = eqb-true lever.number n (found_test (λ l. l.number == n) box_plan.levers lever e) in
    (omega (arith, within.0, same), omega (arith, within.1, same))

-- a lever that the frame has is numbered within it
pub known_lever : (boxes b : ℕ) (box_plan : BoxFields) (n : ℕ) → IsBox boxes b box_plan
    → IsTrue (is_some (lever_of box_plan n)) → IsLever (frame_size box_plan.levers) n
known_lever boxes b box_plan n is h = go (lever_of box_plan n) refl h where
  go : (l : Option Lever) → lever_of box_plan n ≡ l → IsTrue (is_some l) → IsLever (frame_size box_plan.levers) n
  go None e some = absurd cc
  go (Some lever) e some = lever_fits boxes b box_plan n lever is e

-- a lever of some kind lies within the frame
kind_fits : (boxes b : ℕ) (box_plan : BoxFields) (n : ℕ) (kind : Kind) → IsBox boxes b box_plan
    → kind_of box_plan n ≡ Some kind → IsLever (frame_size box_plan.levers) n
kind_fits boxes b box_plan n kind is h = go (lever_of box_plan n) refl h where
  go : (l : Option Lever) → lever_of box_plan n ≡ l → option_map (λ lever. lever.kind) l ≡ Some kind
      → IsLever (frame_size box_plan.levers) n
  go None e some = absurd cc
  go (Some lever) e some = lever_fits boxes b box_plan n lever is e

working_fits : (boxes b : ℕ) (box_plan : BoxFields) (n : ℕ) → IsBox boxes b box_plan → IsWorking box_plan n
    → IsLever (frame_size box_plan.levers) n
working_fits boxes b box_plan n is h = go (kind_of box_plan n) refl h where
  go : (k : Option Kind) → kind_of box_plan n ≡ k → IsTrue (is_working k) → IsLever (frame_size box_plan.levers) n
  go None e some = absurd cc
  go (Some kind) e some = kind_fits boxes b box_plan n kind is e

-- ---- rows

conds_fit : (boxes b : ℕ) (box_plan : BoxFields) (conds : List Cond) → IsBox boxes b box_plan
    → All (IsWorking box_plan) (map (λ cond. cond.lever) conds) → All (CondFits (frame_size box_plan.levers)) conds
conds_fit boxes b box_plan [] is h = All-nil (CondFits (frame_size box_plan.levers))
conds_fit boxes b box_plan (c ∷ cs) is h =
    All-cons (CondFits (frame_size box_plan.levers)) c cs
    (working_fits boxes b box_plan c.lever is (All-head (IsWorking box_plan) c.lever (map (λ cond. cond.lever) cs) h))
    (conds_fit boxes b box_plan cs is (All-tail (IsWorking box_plan) c.lever (map (λ cond. cond.lever) cs) h))

row_fits : (boxes b : ℕ) (box_plan : BoxFields) (row : Row) → IsBox boxes b box_plan → IsBoxRow box_plan row
    → RowFits (frame_size box_plan.levers) row
row_fits boxes b box_plan row is h =
    let later : List ℕ = map (λ cond. cond.lever) row.when in
    let rest : All (IsWorking box_plan) (row.object ∷ later) =
    All-tail (IsWorking box_plan) row.subject (row.object ∷ later) h.levers in
    record {
      subject =
          working_fits boxes b box_plan row.subject is
          (All-head (IsWorking box_plan) row.subject (row.object ∷ later) h.levers);
      object = working_fits boxes b box_plan row.object is (All-head (IsWorking box_plan) row.object later rest);
      when = conds_fit boxes b box_plan row.when is (All-tail (IsWorking box_plan) row.object later rest);
    }

rows_fit : (boxes b : ℕ) (box_plan : BoxFields) (rows : List Row) → IsBox boxes b box_plan
    → All (IsBoxRow box_plan) rows → All (RowFits (frame_size box_plan.levers)) rows
rows_fit boxes b box_plan [] is h = All-nil (RowFits (frame_size box_plan.levers))
rows_fit boxes b box_plan (row ∷ rows) is h =
    All-cons (RowFits (frame_size box_plan.levers)) row rows
    (row_fits boxes b box_plan row is (All-head (IsBoxRow box_plan) row rows h))
    (rows_fit boxes b box_plan rows is (All-tail (IsBoxRow box_plan) row rows h))

-- ---- signals

-- what the plan says of the signal of a lever
pub signal_is : (boxes b : ℕ) (box_plan : BoxFields) (lever : ℕ) (signal : Signal) → IsBox boxes b box_plan
    → signal_of box_plan lever ≡ Some signal → IsSignal boxes b box_plan signal
signal_is boxes b box_plan lever signal is e =
    found_All (IsSignal boxes b box_plan) (λ s. s.lever == lever) box_plan.signals signal e is.signals

-- the lever of the signal that a lever works
pub signal_lever : (box_plan : BoxFields) (lever : ℕ) (signal : Signal) → signal_of box_plan lever ≡ Some signal
    → signal.lever ≡ lever
signal_lever box_plan lever signal e =
    eqb-true signal.lever lever (found_test (λ s. s.lever == lever) box_plan.signals signal e)

ends_fit : (P : ℕ → Type 0) (to : To) (front : List ℕ) → All P (front ++ end_of to) → All P (end_of to)
ends_fit P to [] h = h
ends_fit P to (x ∷ xs) h = ends_fit P to xs (All-tail P x (xs ++ end_of to) h)

over_fit : (P : ℕ → Type 0) (front back : List ℕ) → All P (front ++ back) → All P front
over_fit P [] back h = All-nil P
over_fit P (x ∷ xs) back h =
    All-cons P x xs (All-head P x (xs ++ back) h) (over_fit P xs back (All-tail P x (xs ++ back) h))

-- a signal's lever and places are of its box
pub signal_fits : (boxes b : ℕ) (box_plan : BoxFields) (lever : ℕ) (signal : Signal) → IsBox boxes b box_plan
    → signal_of box_plan lever ≡ Some signal → SignalFits (frame_size box_plan.levers) (length box_plan.places) signal
signal_fits boxes b box_plan lever signal is e =
    let says = signal_is boxes b box_plan lever signal is e in
    let rest : All (IsPlace box_plan) (signal.over ++ end_of signal.to) =
    All-tail (IsPlace box_plan) signal.from _ says.places in
    record {
      lever = kind_fits boxes b box_plan signal.lever _ is says.lever;
      from = All-head (IsPlace box_plan) signal.from _ says.places;
      over = over_fit (IsPlace box_plan) signal.over (end_of signal.to) rest;
      to = ends_fit (IsPlace box_plan) signal.to signal.over rest;
    }

-- ---- track circuits

track_fits : (box_plan : BoxFields) (lever : ℕ) → All (IsTrackLock box_plan) box_plan.tracks
    → All (IsPlace box_plan) (track_of box_plan lever)
track_fits box_plan lever h = go (find (λ track. track.lever == lever) box_plan.tracks) refl where
  go : (t : Option TrackLock) → find (λ track. track.lever == lever) box_plan.tracks ≡ t
      → All (IsPlace box_plan) (locked_places t)
  go None e = All-nil (IsPlace box_plan)
  go (Some track) e = (found_All (IsTrackLock box_plan) (λ t. t.lever == lever) box_plan.tracks track e h).places

-- ---- berths

homes_fit : (boxes b : ℕ) (box_plan : BoxFields) (place : ℕ) → IsBox boxes b box_plan
    → All (IsLever (frame_size box_plan.levers)) (homes_of box_plan place)
homes_fit boxes b box_plan place is =
    let size : ℕ = frame_size box_plan.levers in
    All-map (IsLever size) (λ (lever : Lever). lever.number) _
    (All-filter _ (λ (lever : Lever). IsLever size lever.number) box_plan.levers
    (go 0 box_plan.levers (levers_within 0 box_plan.levers is.rising))) where
      go : (low : ℕ) (levers : List Lever) → All (Within low (frame_size box_plan.levers)) levers
          → All (λ (lever : Lever). IsLever (frame_size box_plan.levers) lever.number) levers
      go low [] h = All-nil (λ (lever : Lever). IsLever (frame_size box_plan.levers) lever.number)
      go low (l ∷ ls) h =
          let first = All-head (Within low (frame_size box_plan.levers)) l ls h in
          All-cons (λ (lever : Lever). IsLever (frame_size box_plan.levers) lever.number) l ls
          (omega (arith, first.0), first.1) (go low ls (All-tail (Within low (frame_size box_plan.levers)) l ls h))

-- what the plan says of a berth
pub berth_is : (boxes b : ℕ) (box_plan : BoxFields) (way : Way) (berth : Berth) → IsBox boxes b box_plan
    → berth_of box_plan way ≡ Some berth → IsBerth boxes b box_plan way berth
berth_is boxes b box_plan Up berth is e =
    subst (λ (o : Option Berth). IfSome o (IsBerth boxes b box_plan Up)) e is.berth_up
berth_is boxes b box_plan Down berth is e =
    subst (λ (o : Option Berth). IfSome o (IsBerth boxes b box_plan Down)) e is.berth_down

few_out : (n : Option ℕ) → IfSome n (λ n. (1 ≤ n) × (n ≤ 3)) → IfSome n (λ n. n ≤ 3)
few_out None h = h
few_out (Some n) h = h.1

pub berth_fits : (boxes b : ℕ) (box_plan : BoxFields) (way : Way) (berth : Berth) → IsBox boxes b box_plan
    → berth_of box_plan way ≡ Some berth → BerthFits (frame_size box_plan.levers) (length box_plan.places) berth
berth_fits boxes b box_plan way berth is e =
    let says = berth_is boxes b box_plan way berth is e in
    record {
      place = says.place;
      homes = rw says.homes (homes_fit boxes b box_plan berth.place is);
      clearing =
          says.clearing;
      few = few_out berth.permissive says.permissive;
    }

-- ---- a box

-- a box of a plan is sound
pub sound : (boxes b : ℕ) (box_plan : BoxFields) → IsBox boxes b box_plan → IsSound box_plan
sound boxes b box_plan is = record {
  rows = rows_fit boxes b box_plan box_plan.rows is is.rows;
  signal = λ lever signal e. signal_fits boxes b box_plan lever signal is e;
  track = λ lever. track_fits box_plan lever is.tracks;
  berth = λ way berth e. berth_fits boxes b box_plan way berth is e;
}

-- each box of a plan is sound
pub plan_sound : (plan : PlanFields) (b : ℕ) → IsPlan plan → b < length plan.boxes → IsSound (box_at plan.boxes b)
plan_sound plan b is within = sound (length plan.boxes) b (box_at plan.boxes b) (is.each b within)
