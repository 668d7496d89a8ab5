-- The rows of a frame by the places of its levers.
use Rattle.std.proofs.Common.{◌≡◌, ℕ, suc, ◌+◌, ◌<◌, ◌≤◌, List, [], ◌∷◌, ◌++◌, All, length, map, take}
use Rattle.std.proofs.Common.{refl, sym, ap, subst, ◌∙◌, arith, get_or}
use Rattle.std.proofs.lemmas.List.{get_or_default}
use Rattle.std.proofs.lemmas.List.Elements.{All-weaker}
use Rattle.locking_table.specs.declared.places.End.TheVariants.{Normal}
use Rattle.locking_table.specs.declared.row.Cond.{Cond}
use Rattle.locking_table.specs.declared.row.Row.{Row}
use Rattle.locking_table.specs.Index.{no_row}
use Rattle.locking_table.specs.Sound.{RowFits}
use Rattle.frame_report.specs.Frame.{IsFrame, IsFrameRow, row_in, rows_in}
use Rattle.frame_report.specs.Report.{row_at}
use Rattle.frame_report.proofs.ListLemmas.{all_mapped, map_more}

abbrev pub no_cond : Cond
no_cond = record { lever = 0; end = Normal }

pub map_one : (f : Cond → Cond) (xs : List Cond) → 1 ≤ length xs → length xs < 2
    → f (get_or xs 0 no_cond) ∷ [] ≡ map f xs
map_one f [] some few = absurd (omega (arith, some))
map_one f (x ∷ []) some few = refl
map_one f (x ∷ y ∷ xs) some few = absurd (omega (arith, few))

pub map_two : (f : Cond → Cond) (xs : List Cond) → 2 ≤ length xs → length xs ≤ 2
    → f (get_or xs 0 no_cond) ∷ f (get_or xs 1 no_cond) ∷ [] ≡ map f xs
map_two f [] some few = absurd (omega (arith, some))
map_two f (x ∷ []) some few = absurd (omega (arith, some))
map_two f (x ∷ y ∷ []) some few = refl
map_two f (x ∷ y ∷ z ∷ xs) some few = absurd (omega (arith, few))

-- the row at a place, as it was read
pub row_is : (rows seen : List Row) (at : ℕ) (row : Row) → seen ≡ rows → at < length seen → row ≡ get_or seen at row
    → row_at rows at ≡ row
row_is rows seen at row same lt read =
    ap (λ (rs : List Row). get_or rs at no_row) (sym same) ∙ get_or_default seen at no_row row lt ∙ sym read

module _ (numbers : List ℕ) (rows seen : List Row) (at : ℕ) (row own : Row) (same : seen ≡ rows)
    (lt : at < length seen) (read : row ≡ get_or seen at row) (is : own ≡ row_in numbers row) where
  pub frame_row : IsFrame numbers rows → IsFrameRow (length numbers) own
  frame_row all =
      subst (λ (r : Row). IsFrameRow (length numbers) r) (sym (is ∙ ap (λ (r : Row). row_in numbers r) read))
      (all_mapped (IsFrameRow (length numbers)) (row_in numbers) seen at row lt
      (subst (λ (rs : List Row). IsFrame numbers rs) (sym same) all))

  pub frame_push : (frame : List Row) → frame ≡ rows_in numbers (take at seen)
      → frame ++ own ∷ [] ≡ rows_in numbers (take (at + 1) seen)
  frame_push frame so_far =
      let more = map_more (row_in numbers) seen at row lt in
      let there : own ≡ row_in numbers (get_or seen at row) = is ∙ ap (λ (r : Row). row_in numbers r) read in
      let count : suc at ≡ at + 1 = omega arith in
      ap (λ (rs : List Row). rs ++ own ∷ []) so_far
      ∙ ap (λ (r : Row). rows_in numbers (take at seen) ++ r ∷ []) there ∙ sym more
      ∙ ap (λ (n : ℕ). rows_in numbers (take n seen)) count

-- the rows of a frame fit it
pub fits_of : (levers : ℕ) (rows : List Row) → All (IsFrameRow levers) rows → All (RowFits levers) rows
fits_of levers rows all = All-weaker (IsFrameRow levers) (RowFits levers) (λ row h. h.fits) rows all
