-- The rows of a locking table hold after a move that none of them holds back, and an arm that is off has its lever
-- reversed.
use Rattle.std.proofs.Common.{◌≡◌, ◌≢◌, ℕ, ◌-◌, ◌<◌, ◌&&◌, Bool, true, false, not, IsTrue, List, [], ◌∷◌, None, All}
use Rattle.std.proofs.Common.{length, refl, sym, ap, subst, ◌∙◌, arith, inl, inr, eqb, slice_set, slice_index_or}
use Rattle.std.specs.List.{list_all}
use Rattle.std.proofs.lemmas.Bool.Decides.{eqb_tells}
use Rattle.std.proofs.lemmas.List.{get_or-set_same, get_or-set_other}
use Rattle.std.proofs.lemmas.List.Elements.{All-head, All-tail, All-nil, All-cons}
use Rattle.locking_table.proofs.Holding.{held_by_none}
use Rattle.locking_table.specs.Meaning.{MayMove, RowHolds, acts, acts_at, breaks, holder_of, row_holds}
use Rattle.locking_table.specs.Places.{IsLever, LeverPlace, at_ends, end_at, is_normal, other_end, stand_at, stand_of}
use Rattle.locking_table.specs.Sound.{CondFits, RowFits}
use Rattle.locking_table.specs.declared.places.End.{End}
use Rattle.locking_table.specs.declared.places.End.TheVariants as ends
use Rattle.locking_table.specs.declared.places.Stand.{Stand}
use Rattle.locking_table.specs.declared.row.Cond.{Cond}
use Rattle.locking_table.specs.declared.row.Row.{Row}
use Rattle.line_law.specs.LeverEnds.{is_off, is_pulled, is_reversed_end}

-- the places with a lever moved are those of the ends that are written
moved_alike : (xs : List End) (lever : ℕ) (e : End) (n : ℕ) → length xs ≡ n → IsLever n lever → (l : ℕ) → IsLever n l
    → stand_of xs lever (stand_at e) l ≡ at_ends (slice_set xs (lever - 1) e) l
moved_alike xs lever e n len is l it = elim (eqb_tells l lever) [
  | inl same ↦
      let there : slice_index_or (slice_set xs (lever - 1) e) (l - 1) ends.Normal ≡ e =
      subst (λ (k : ℕ). slice_index_or (slice_set xs (lever - 1) e) (k - 1) ends.Normal ≡ e) (sym same.1)
      (get_or-set_same xs (lever - 1) e ends.Normal (omega (arith, is.0, is.1, len))) in
      let test : eqb l lever ≡ true = same.0 in
      rw (test, there) refl
  | inr differ ↦
      let apart : l - 1 ≢ lever - 1 = λ f. differ.1 (omega (arith, f, is.0, it.0)) in
      let there : slice_index_or (slice_set xs (lever - 1) e) (l - 1) ends.Normal
      ≡ slice_index_or xs (l - 1) ends.Normal = get_or-set_other xs (lever - 1) (l - 1) e ends.Normal apart in
      let test : eqb l lever ≡ false = differ.0 in
      rw (test, there) refl
]

acts_alike : (n : ℕ) (f g : LeverPlace) → ((l : ℕ) → IsLever n l → f l ≡ g l) → (conds : List Cond)
    → All (CondFits n) conds → list_all (acts f) conds ≡ list_all (acts g) conds
acts_alike n f g same [] fits = refl
acts_alike n f g same (c ∷ cs) fits =
    ap (λ (s : Stand). acts_at c.end s && list_all (acts f) cs) (same c.lever (All-head (CondFits n) c cs fits))
    ∙ ap (λ (b : Bool). acts g c && b) (acts_alike n f g same cs (All-tail (CondFits n) c cs fits))

row_alike : (n : ℕ) (f g : LeverPlace) → ((l : ℕ) → IsLever n l → f l ≡ g l) → (row : Row) → RowFits n row
    → row_holds f row ≡ row_holds g row
row_alike n f g same row fits =
    ap (λ (s : Stand). not (not (is_normal s) && list_all (acts f) row.when && breaks row.kind (f row.object)))
    (same row.subject fits.subject)
    ∙ ap (λ (b : Bool). not (not (is_normal (g row.subject)) && b && breaks row.kind (f row.object)))
    (acts_alike n f g same row.when fits.when)
    ∙ ap (λ (s : Stand). not (not (is_normal (g row.subject)) && list_all (acts g) row.when && breaks row.kind s))
    (same row.object fits.object)

rows_alike : (n : ℕ) (f g : LeverPlace) → ((l : ℕ) → IsLever n l → f l ≡ g l) → (rows : List Row) → All (RowFits n) rows
    → All (RowHolds f) rows → All (RowHolds g) rows
rows_alike n f g same [] fits all = All-nil (RowHolds g)
rows_alike n f g same (row ∷ rows) fits all =
    All-cons (RowHolds g) row rows
    (subst (λ (b : Bool). IsTrue b) (row_alike n f g same row (All-head (RowFits n) row rows fits))
    (All-head (RowHolds f) row rows all))
    (rows_alike n f g same rows (All-tail (RowFits n) row rows fits) (All-tail (RowHolds f) row rows all))

-- rows hold after a lever has moved to its other end, where nothing holds it
pub rows_moved : (xs : List End) (lever : ℕ) (e : End) (n : ℕ) (rows : List Row) → length xs ≡ n → IsLever n lever
    → All (RowFits n) rows → other_end (end_at xs lever) ≡ e → holder_of xs lever rows ≡ None
    → All (RowHolds (at_ends (slice_set xs (lever - 1) e))) rows
rows_moved xs lever e n rows len is fits other free =
    let may : MayMove xs lever rows = (held_by_none xs lever rows).0 free in
    let new : All (RowHolds (stand_of xs lever (stand_at e))) rows =
    subst (λ (z : End). All (RowHolds (stand_of xs lever (stand_at z))) rows) other may.new in
    rows_alike n (stand_of xs lever (stand_at e)) (at_ends (slice_set xs (lever - 1) e))
    (moved_alike xs lever e n len is) rows fits new

-- ---- arms

-- an arm that is off has its lever reversed, of two lists
abbrev pub Follow : List Bool → List End → Type 0
Follow off xs = (lever : ℕ) → is_off off lever ≡ true → is_pulled xs lever ≡ true

-- a lever is reversed, and its arm may go off
pub follow_pulled : (off : List Bool) (xs : List End) (lever : ℕ) → lever - 1 < length xs → Follow off xs
    → Follow off (slice_set xs (lever - 1) ends.Reversed)
follow_pulled off xs lever within h l is = elim (eqb_tells (l - 1) (lever - 1)) [
  | inl same ↦
      subst (λ (k : ℕ). is_reversed_end (slice_index_or (slice_set xs (lever - 1) ends.Reversed) k ends.Normal) ≡ true)
      (sym same.1) (ap is_reversed_end (get_or-set_same xs (lever - 1) ends.Reversed ends.Normal within))
  | inr differ ↦ ap is_reversed_end (get_or-set_other xs (lever - 1) (l - 1) ends.Reversed ends.Normal differ.1)
      ∙ h l is
]

-- an arm that goes off follows a lever that is reversed
pub follow_off : (off : List Bool) (xs : List End) (lever : ℕ) → lever - 1 < length xs → Follow off xs
    → Follow (slice_set off (lever - 1) true) (slice_set xs (lever - 1) ends.Reversed)
follow_off off xs lever within h l is = elim (eqb_tells (l - 1) (lever - 1)) [
  | inl same ↦
      subst (λ (k : ℕ). is_reversed_end (slice_index_or (slice_set xs (lever - 1) ends.Reversed) k ends.Normal) ≡ true)
      (sym same.1) (ap is_reversed_end (get_or-set_same xs (lever - 1) ends.Reversed ends.Normal within))
  | inr differ ↦
      let before : is_off off l ≡ true = sym (get_or-set_other off (lever - 1) (l - 1) true false differ.1) ∙ is in
      ap is_reversed_end (get_or-set_other xs (lever - 1) (l - 1) ends.Reversed ends.Normal differ.1) ∙ h l before
]

-- an arm goes to danger
pub follow_danger : (off : List Bool) (xs : List End) (lever : ℕ) → lever - 1 < length off → Follow off xs
    → Follow (slice_set off (lever - 1) false) xs
follow_danger off xs lever within h l is = elim (eqb_tells (l - 1) (lever - 1)) [
  | inl same ↦
      let down : slice_index_or (slice_set off (lever - 1) false) (l - 1) false ≡ false =
      subst (λ (k : ℕ). slice_index_or (slice_set off (lever - 1) false) k false ≡ false) (sym same.1)
      (get_or-set_same off (lever - 1) false false within) in
      absurd (let e : true ≡ false = sym is ∙ down in cc)
  | inr differ ↦ h l (sym (get_or-set_other off (lever - 1) (l - 1) false false differ.1) ∙ is)
]

-- a lever is put back with its arm at danger
pub follow_put : (off : List Bool) (xs : List End) (lever : ℕ) → lever - 1 < length off → Follow off xs
    → Follow (slice_set off (lever - 1) false) (slice_set xs (lever - 1) ends.Normal)
follow_put off xs lever within h l is = elim (eqb_tells (l - 1) (lever - 1)) [
  | inl same ↦
      let down : slice_index_or (slice_set off (lever - 1) false) (l - 1) false ≡ false =
      subst (λ (k : ℕ). slice_index_or (slice_set off (lever - 1) false) k false ≡ false) (sym same.1)
      (get_or-set_same off (lever - 1) false false within) in
      absurd (let e : true ≡ false = sym is ∙ down in cc)
  | inr differ ↦
      ap is_reversed_end (get_or-set_other xs (lever - 1) (l - 1) ends.Normal ends.Normal differ.1)
      ∙ h l (sym (get_or-set_other off (lever - 1) (l - 1) false false differ.1) ∙ is)
]
