-- Where every bridle is seated, every row holds.
use Rattle.std.proofs.Common.{◌≡◌, ℕ, ◌+◌, List, [], ◌∷◌, Bool, subst}
use Rattle.std.specs.Prelude.{All, IsTrue}
use Rattle.std.proofs.lemmas.List.Elements.{All-nil, All-cons, All-head, All-tail}
use Rattle.locking_table.specs.declared.row.Row.{Row}
use Rattle.locking_table.specs.Meaning.{RowHolds, row_holds}
use Rattle.locking_table.specs.Places.{LeverPlace}
use Rattle.bridle_frame.specs.declared.bridle.Bridle.{Bridle}
use Rattle.bridle_frame.specs.Seated.{IsSeated, seated}
use Rattle.tappet_compiler.specs.Compiled.{bridle_of, compiled}
use Rattle.lever_frame.specs.Rows.{rows_of}

-- what the bridles of rows promise
abbrev SeatedRows : Type 0
SeatedRows =
    (places : LeverPlace) (row : Row) (number : ℕ) → seated places (bridle_of row number) ≡ row_holds places row

rows_hold_from : SeatedRows → (places : LeverPlace) (from : ℕ) (rows : List Row)
    → All (IsSeated places) (compiled from rows) → All (RowHolds places) rows
rows_hold_from same places from [] all = All-nil (RowHolds places)
rows_hold_from same places from (row ∷ rows) all =
    All-cons (RowHolds places) row rows
    (subst (λ (b : Bool). IsTrue b) (same places row from)
    (All-head (IsSeated places) (bridle_of row from) (compiled (from + 1) rows) all))
    (rows_hold_from same places (from + 1) rows
    (All-tail (IsSeated places) (bridle_of row from) (compiled (from + 1) rows) all))

-- where every bridle of a table is seated, every row holds
pub rows_hold : SeatedRows → (places : LeverPlace) (bridles : List Bridle) → bridles ≡ compiled 1 (rows_of bridles)
    → All (IsSeated places) bridles → All (RowHolds places) (rows_of bridles)
rows_hold same places bridles made all =
    rows_hold_from same places 1 (rows_of bridles) (subst (λ (bs : List Bridle). All (IsSeated places) bs) made all)
