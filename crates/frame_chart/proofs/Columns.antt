-- The column that crosses the most bridles.
use Rattle.std.proofs.Common.{◌≡◌, ℕ, zero, suc, ◌+◌, ◌<◌, ◌≤◌, List, [], ◌∷◌, length, Bool, true, false, if◌then◌else◌}
use Rattle.std.proofs.Common.{◌⊎◌, inl, inr, refl, sym, ◌∙◌, subst, add-one, arith}
use Rattle.std.specs.Prelude.{max, nat_lt}
use Rattle.std.proofs.lemmas.Bool.{lt-ltb, le-ltb, ltb-true, ltb-false}
use Rattle.std.proofs.lemmas.List.Recursion.{is_count_by}
use Rattle.frame_chart.specs.declared.span.Span.{Span}
use Rattle.frame_chart.specs.Spans.{crosses}
use Rattle.frame_chart.specs.Charts.{count_crossed, crossed_by, crossed_from}
use Rattle.frame_chart.specs.Laying.{column_of, most_crossed}

-- ---- how many are crossed

-- how many spans a lever crosses, counted one after another
abbrev pub how_many : ℕ → List Span → ℕ
how_many lever [] = 0
how_many lever (span ∷ spans) = if crosses lever span then 1 + how_many lever spans else how_many lever spans

length-crossed_from : (number lever : ℕ) (spans : List Span)
    → length (crossed_from number lever spans) ≡ how_many lever spans
length-crossed_from number lever [] = refl
length-crossed_from number lever (span ∷ spans) = by (crosses lever span) (length-crossed_from (number + 1) lever spans)
  where
    by : (b : Bool) → length (crossed_from (number + 1) lever spans) ≡ how_many lever spans
        → length (if b then number ∷ crossed_from (number + 1) lever spans else crossed_from (number + 1) lever spans)
        ≡ (if b then 1 + how_many lever spans else how_many lever spans)
    by true r = omega arith
    by false r = r

-- the count of them one after another is how many spans the lever crosses
pub how_many-crossed : (lever : ℕ) (spans : List Span) → how_many lever spans ≡ count_crossed lever spans
how_many-crossed lever spans = is_count_by (how_many lever) (crosses lever) refl (λ _ _. refl) spans

-- as many bridles are named as the lever crosses
pub length-crossed_by : (lever : ℕ) (spans : List Span) → length (crossed_by lever spans) ≡ count_crossed lever spans
length-crossed_by lever spans = length-crossed_from 1 lever spans ∙ how_many-crossed lever spans

-- ---- the search over the levers

-- before any lever is looked at, there is no column, and the most that is crossed is 0
pub column_start : (spans : List Span) → (0 ≡ column_of 0 spans) × (0 ≡ most_crossed 0 spans)
unfolding column_of most_crossed
column_start spans = (refl, refl)

-- one lever more crosses more bridles than those before it, or it doesn't
pub column_more : (before : ℕ) (spans : List Span) → most_crossed before spans < count_crossed (before + 1) spans
    → (column_of (before + 1) spans ≡ before + 1) × (most_crossed (before + 1) spans ≡ count_crossed (before + 1) spans)
unfolding column_of most_crossed
column_more before spans less =
    let more : most_crossed before spans < count_crossed (suc before) spans = rw add-one at less in
    let test = lt-ltb (most_crossed before spans) (count_crossed (suc before) spans) more in
    rw add-one (rw test (refl, omega arith))

-- where the next lever crosses no more bridles than the most so far, the column and the most stay
pub column_same : (before : ℕ) (spans : List Span) → count_crossed (before + 1) spans ≤ most_crossed before spans
    → (column_of (before + 1) spans ≡ column_of before spans)
    × (most_crossed (before + 1) spans ≡ most_crossed before spans)
unfolding column_of most_crossed
column_same before spans less =
    let most : count_crossed (suc before) spans ≤ most_crossed before spans = rw add-one at less in
    let test = le-ltb (most_crossed before spans) (count_crossed (suc before) spans) most in
    rw add-one (rw test (refl, omega arith))

-- ---- what the column is

split_le : (a b : ℕ) → a ≤ suc b → (a ≤ b) ⊎ (a ≡ suc b)
split_le a b h = by (nat_lt b a) refl
  where
    by : (t : Bool) → nat_lt b a ≡ t → (a ≤ b) ⊎ (a ≡ suc b)
    by true e = let l = ltb-true b a e in inr (omega arith)
    by false e = inl (ltb-false b a e)

-- no lever up to so many crosses more than the most
pub most_is_most : (top lever : ℕ) (spans : List Span) → 1 ≤ lever → lever ≤ top
    → count_crossed lever spans ≤ most_crossed top spans
unfolding most_crossed
most_is_most zero lever spans low high = absurd (omega arith)
most_is_most (suc top) lever spans low high = by (split_le lever top high) (most_is_most top lever spans low)
  where
    by : (lever ≤ top) ⊎ (lever ≡ suc top) → (lever ≤ top → count_crossed lever spans ≤ most_crossed top spans)
        → count_crossed lever spans ≤ max (most_crossed top spans) (count_crossed (suc top) spans)
    by (inl h) r = let m = r h in omega arith
    by (inr e) r = subst
        (λ (n : ℕ). count_crossed n spans ≤ max (most_crossed top spans) (count_crossed (suc top) spans)) (sym e)
        (omega arith)

-- where lever 0, that isn't there, crosses none, the column crosses the most
pub column_crosses_most : (top : ℕ) (spans : List Span) → count_crossed 0 spans ≡ 0
    → count_crossed (column_of top spans) spans ≡ most_crossed top spans
unfolding column_of most_crossed
column_crosses_most zero spans none = none
column_crosses_most (suc top) spans none = by (nat_lt (most_crossed top spans) (count_crossed (suc top) spans)) refl
    (column_crosses_most top spans none)
  where
    by : (t : Bool) → nat_lt (most_crossed top spans) (count_crossed (suc top) spans) ≡ t
        → count_crossed (column_of top spans) spans ≡ most_crossed top spans
        → count_crossed (if t then suc top else column_of top spans) spans
        ≡ max (most_crossed top spans) (count_crossed (suc top) spans)
    by true e r = let l = ltb-true (most_crossed top spans) (count_crossed (suc top) spans) e in omega arith
    by false e r = let l = ltb-false (most_crossed top spans) (count_crossed (suc top) spans) e in omega arith

-- each lever below the column crosses fewer
pub below_column : (top lever : ℕ) (spans : List Span) → count_crossed 0 spans ≡ 0 → lever < column_of top spans
    → count_crossed lever spans < most_crossed top spans
unfolding column_of most_crossed
below_column zero lever spans none less = absurd (omega arith)
below_column (suc top) lever spans none less = by (nat_lt (most_crossed top spans) (count_crossed (suc top) spans)) refl
    less (below_column top lever spans none) (low lever)
  where
    low : (n : ℕ) → n < suc top → count_crossed n spans ≤ most_crossed top spans
    low zero h = omega arith
    low (suc n) h = most_is_most top (suc n) spans (omega arith) (omega arith)

    by : (t : Bool) → nat_lt (most_crossed top spans) (count_crossed (suc top) spans) ≡ t
        → lever < (if t then suc top else column_of top spans)
        → (lever < column_of top spans → count_crossed lever spans < most_crossed top spans)
        → (lever < suc top → count_crossed lever spans ≤ most_crossed top spans)
        → count_crossed lever spans < max (most_crossed top spans) (count_crossed (suc top) spans)
    by true e h r m = let l = ltb-true (most_crossed top spans) (count_crossed (suc top) spans) e in let k = m h in
        omega arith
    by false e h r m = let k = r h in omega arith

-- without bridles there is no column
pub no_column : (top : ℕ) (spans : List Span) → length spans ≡ 0 → column_of top spans ≡ 0
unfolding column_of
no_column zero spans none = refl
no_column (suc top) [] none = rw (le-ltb (most_crossed top []) 0 (omega arith)) (no_column top [] refl)
no_column (suc top) (span ∷ spans) none = absurd (omega arith)
