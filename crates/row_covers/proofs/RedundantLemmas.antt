-- A row all of whose levers two other rows hold together is redundant.
use Rattle.std.proofs.Common.{◌≡◌, ◌≢◌, ℕ, zero, suc, ◌+◌, ◌<◌, ◌&&◌, Bool, true, false, List, [], ◌∷◌, length}
use Rattle.std.proofs.Common.{refl, sym, ap, subst, ◌∙◌, arith, get_or}
use Rattle.std.specs.List.{list_all, remove}
use Rattle.std.proofs.lemmas.List.{get_or_default}
use Rattle.locking_table.specs.declared.places.End.{End}
use Rattle.locking_table.specs.declared.row.Row.{Row}
use Rattle.locking_table.specs.Index.{no_row}
use Rattle.locking_table.specs.Meaning.{row_allows}
use Rattle.frame_walk.specs.Search.{state_at}
use Rattle.frame_walk.specs.Walked.{IsWalked, Walked}
use Rattle.row_findings.specs.Redundant.{HoldsAlone, IsRedundant}
use Rattle.row_findings.proofs.AloneLemmas.{all_may, may_all}
use Rattle.row_findings.proofs.RedundantLemmas.{spare_is}
use Rattle.row_covers.specs.Covers.{CoverIn}
use Rattle.row_covers.specs.Pairs.{IsPair}

head_of : (a b : Bool) → (a && b) ≡ true → a ≡ true
head_of true b h = refl
head_of false b h = cc

tail_of : (a b : Bool) → (a && b) ≡ true → b ≡ true
tail_of true b h = h
tail_of false b h = cc

join : (a b : Bool) → a ≡ true → b ≡ true → (a && b) ≡ true
join a b h k = rw (h, k) refl

-- a test that doesn't fail is met
met : (b : Bool) → ¬ (b ≡ false) → b ≡ true
met true never = refl
met false never = absurd (never refl)

module _ (ends : List End) (lever : ℕ) where
  abbrev allowed : Row → Bool
  allowed row = row_allows ends lever row

  abbrev Free : List Row → Type 0
  Free rows = list_all allowed rows ≡ true

  -- where all rows let a lever move, each does
  each_allows : (rows : List Row) (k : ℕ) → k < length rows → Free rows → allowed (get_or rows k no_row) ≡ true
  each_allows [] k lt free = absurd (omega (arith, lt))
  each_allows (row ∷ rows) zero lt free = head_of (allowed row) (list_all allowed rows) free
  each_allows (row ∷ rows) (suc k) lt free =
      each_allows rows k (omega (arith, lt)) (tail_of (allowed row) (list_all allowed rows) free)

  -- where all rows but one do, each other one does
  other_allows : (rows : List Row) (at k : ℕ) → k ≢ at → k < length rows → Free (remove rows at)
      → allowed (get_or rows k no_row) ≡ true
  other_allows [] at k apart lt free = absurd (omega (arith, lt))
  other_allows (row ∷ rows) zero zero apart lt free = absurd (apart refl)
  other_allows (row ∷ rows) zero (suc k) apart lt free = each_allows rows k (omega (arith, lt)) free
  other_allows (row ∷ rows) (suc at) zero apart lt free =
      head_of (allowed row) (list_all allowed (remove rows at)) free
  other_allows (row ∷ rows) (suc at) (suc k) apart lt free =
      other_allows rows at k (λ same. apart (ap suc same)) (omega (arith, lt))
      (tail_of (allowed row) (list_all allowed (remove rows at)) free)

  -- where that one lets it move too, all do
  all_allow : (rows : List Row) (at : ℕ) → at < length rows → Free (remove rows at)
      → allowed (get_or rows at no_row) ≡ true → Free rows
  all_allow [] at lt free own = absurd (omega (arith, lt))
  all_allow (row ∷ rows) zero lt free own = join (allowed row) (list_all allowed rows) own free
  all_allow (row ∷ rows) (suc at) lt free own =
      join (allowed row) (list_all allowed rows) (head_of (allowed row) (list_all allowed (remove rows at)) free)
      (all_allow rows at (omega (arith, lt)) (tail_of (allowed row) (list_all allowed (remove rows at)) free) own)

  -- a row whose levers two others hold holds no lever alone
  pub never_alone : (rows : List Row) (at one two : ℕ) → at < length rows → one < length rows → two < length rows
      → one ≢ at → two ≢ at
      → CoverIn ends (get_or rows one no_row) (get_or rows two no_row) (get_or rows at no_row) (length ends + 1)
      → ¬ HoldsAlone rows at ends lever
  never_alone rows at one two lt lt' lt'' apart apart' cover alone =
      let free : Free (remove rows at) = may_all ends lever (remove rows at) alone.others.allowed in
      let first = other_allows rows at one apart lt' free in
      let second = other_allows rows at two apart' lt'' free in
      let ours = alone.others.ours in
      let own : allowed (get_or rows at no_row) ≡ true =
      met (allowed (get_or rows at no_row))
      (λ held.
      let both = join (allowed (get_or rows one no_row)) (allowed (get_or rows two no_row)) first second in
      let e : true ≡ false = sym both ∙ cover lever ours.0 (omega (arith, ours.1)) held in cc) in
      alone.held (record { ours = ours; allowed = all_may ends lever rows (all_allow rows at lt free own) })

-- so it is redundant, where the walk is whole
pub pair_redundant : (w : Walked) (at one two : ℕ) → IsWalked w → w.whole ≡ true → at < length w.rows
    → one < length w.rows → two < length w.rows → IsPair w at one two → IsRedundant w.rows w.levers at
pair_redundant w at one two walked whole lt lt' lt'' pair =
    spare_is w.rows w.levers at
    (λ needed.
    let p = walked.all whole needed.state needed.reachable in
    let same : state_at w.states p.0 ≡ needed.state = get_or_default w.states p.0 [] needed.state p.1 ∙ p.2 in
    never_alone (state_at w.states p.0) needed.lever w.rows at one two lt lt' lt'' pair.one_other pair.two_other
    (pair.cover p.0 p.1)
    (subst (λ (s : List End). HoldsAlone w.rows at s needed.lever) (sym same) needed.alone))
