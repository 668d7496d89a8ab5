-- Of two entries that fit a word from its two ends, the one that the other keeps back looks for the other's mark.
use Rattle.std.proofs.Common.{ℕ, ◌+◌, ◌-◌, ◌≡◌, true, Some, refl, sym, ap, arith}
use Rattle.std.proofs.lemmas.Bool.{eqb-true}
use Rattle.block_words.specs.declared.Way.{Way}
use Rattle.line_law.specs.declared.call.Act.{Act}
use Rattle.line_law.specs.declared.call.Reply.{Reply}
use Rattle.line_law.specs.declared.call.Reply.TheVariants.{Rung, BellBusy, Heard, Silent, BellNotYet}
use Rattle.line_law.specs.declared.call.Reply.TheVariants.{Turned, Seen, BlockNotYet, PulledUnder, HeldByInstrument}
use Rattle.line_law.specs.declared.call.Reply.TheVariants.{Entered, SectionFull, TrainNotYet, Berthed}
use Rattle.line_law.specs.declared.call.Reply.TheVariants.{NoTrainAt, Cleared}
use Rattle.line_law.specs.declared.state.PairState.{PairState}
use Rattle.word_laws.specs.TellsWord.{kind_told}
use Rattle.line_journal.specs.Fits.{FitsWord}
use Rattle.line_journal.specs.Order.{kept_back}
use Rattle.line_races.specs.Marks.{kept_by, mark_left}
use Rattle.line_races.specs.declared.marks.Mark.{Mark}
use Rattle.line_races.specs.declared.marks.Mark.TheVariants.{BusyAt, FullUntil, InVainAt, NoneAt, UsedAt}

-- the mark of one reply is the one that can't come behind another
pub record IsKeptBy (q r : Reply) : Type 0 where
  pub mark : Mark
  pub left : mark_left r ≡ Some mark
  pub keeps : kept_by q ≡ Some mark

rung_by : (k : ℕ) (r : Reply) → kept_back (Rung k) r ≡ true → IsKeptBy (Rung k) r
rung_by k (Silent n) kept =
    let e : n + 1 ≡ k = eqb-true (n + 1) k kept in
    let same : k - 1 ≡ n = omega arith in
    record { mark = InVainAt n; left = refl; keeps = ap (λ (i : ℕ). Some (InVainAt i)) same }
rung_by k (BellNotYet shown n) kept =
    let e : n + 1 ≡ k = eqb-true (n + 1) k kept in
    let same : k - 1 ≡ n = omega arith in
    record { mark = InVainAt n; left = refl; keeps = ap (λ (i : ℕ). Some (InVainAt i)) same }
rung_by k r kept = absurd cc

heard_by : (code k : ℕ) (r : Reply) → kept_back (Heard code k) r ≡ true → IsKeptBy (Heard code k) r
heard_by code k (BellBusy held n) kept =
    record { mark = BusyAt n; left = refl; keeps = ap (λ (i : ℕ). Some (BusyAt i)) (sym (eqb-true n k kept)) }
heard_by code k r kept = absurd cc

turned_by : (v : ℕ) (r : Reply) (a c : Act) (way : Way) (p : PairState) → kept_back (Turned v) r ≡ true
    → FitsWord (kind_told r) way a r p → FitsWord (kind_told (Turned v)) way c (Turned v) p → IsKeptBy (Turned v) r
turned_by v (PulledUnder n) a c way p kept f g =
    let e = f.0 in
    let same : v - 1 ≡ n = omega arith in
    record { mark = UsedAt n; left = refl; keeps = ap (λ (i : ℕ). Some (UsedAt i)) same }
turned_by v (HeldByInstrument towards shown spent n) a c way p kept f g =
    let e = f.0 in
    let same : v - 1 ≡ n = omega arith in
    record { mark = UsedAt n; left = refl; keeps = ap (λ (i : ℕ). Some (UsedAt i)) same }
turned_by v (Seen n) a c way p kept f g =
    let e = f.0 in
    let same : v - 1 ≡ n = omega arith in
    record { mark = UsedAt n; left = refl; keeps = ap (λ (i : ℕ). Some (UsedAt i)) same }
turned_by v (BlockNotYet shown n) a c way p kept f g =
    let e = f.0 in
    let same : v - 1 ≡ n = omega arith in
    record { mark = UsedAt n; left = refl; keeps = ap (λ (i : ℕ). Some (UsedAt i)) same }
turned_by v r a c way p kept f g = absurd cc

entered_by : (t k : ℕ) (r : Reply) → kept_back (Entered t k) r ≡ true → IsKeptBy (Entered t k) r
entered_by t k (NoTrainAt j) kept =
    record { mark = NoneAt j; left = refl; keeps = ap (λ (i : ℕ). Some (NoneAt i)) (sym (eqb-true j k kept)) }
entered_by t k (TrainNotYet j) kept =
    record { mark = NoneAt j; left = refl; keeps = ap (λ (i : ℕ). Some (NoneAt i)) (sym (eqb-true j k kept)) }
entered_by t k r kept = absurd cc

berthed_by : (t j : ℕ) (r : Reply) → kept_back (Berthed t j) r ≡ true → IsKeptBy (Berthed t j) r
berthed_by t j (SectionFull k) kept =
    let e : k ≡ j + 4 = eqb-true k (j + 4) kept in
    let same : j ≡ k - 4 = omega arith in
    record { mark = FullUntil (k - 4); left = refl; keeps = ap (λ (i : ℕ). Some (FullUntil i)) same }
berthed_by t j r kept = absurd cc

cleared_by : (t j : ℕ) (r : Reply) → kept_back (Cleared t j) r ≡ true → IsKeptBy (Cleared t j) r
cleared_by t j (SectionFull k) kept =
    let e : k ≡ j + 4 = eqb-true k (j + 4) kept in
    let same : j ≡ k - 4 = omega arith in
    record { mark = FullUntil (k - 4); left = refl; keeps = ap (λ (i : ℕ). Some (FullUntil i)) same }
cleared_by t j r kept = absurd cc

-- where two entries fit a word from its two ends, and the first is kept back by the second, the mark of the second
-- is the one that can't come behind the first
pub is_kept_by : (q r : Reply) (a c : Act) (way : Way) (p : PairState) → kept_back q r ≡ true
    → FitsWord (kind_told r) way a r p → FitsWord (kind_told q) way c q p → IsKeptBy q r
is_kept_by (Rung k) r a c way p kept f g = rung_by k r kept
is_kept_by (Heard code k) r a c way p kept f g = heard_by code k r kept
is_kept_by (Turned v) r a c way p kept f g = turned_by v r a c way p kept f g
is_kept_by (Entered t k) r a c way p kept f g = entered_by t k r kept
is_kept_by (Berthed t j) r a c way p kept f g = berthed_by t j r kept
is_kept_by (Cleared t j) r a c way p kept f g = cleared_by t j r kept
is_kept_by q r a c way p kept f g = absurd cc
