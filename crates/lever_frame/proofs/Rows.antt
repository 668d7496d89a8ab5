-- The rows of a table are found again in the bridles that are compiled of them.
use Rattle.std.proofs.Common.{◌≡◌, ℕ, ◌+◌, List, [], ◌∷◌, refl, sym, ap, ◌∙◌}
use Rattle.std.specs.Prelude.{map}
use Rattle.locking_table.specs.declared.places.End.{End}
use Rattle.locking_table.specs.declared.places.End.TheVariants.{Normal as NormalEnd, Reversed as ReversedEnd}
use Rattle.locking_table.specs.declared.row.RowKind.{RowKind}
use Rattle.locking_table.specs.declared.row.RowKind.TheVariants.{LocksNormal, ReleasedBy, LocksBoth}
use Rattle.locking_table.specs.declared.row.Cond.{Cond}
use Rattle.locking_table.specs.declared.row.Row.{Row}
use Rattle.bridle_frame.specs.declared.bridle.Bridle.{Bridle}
use Rattle.tappet_compiler.specs.Compiled.{compiled, cond_dog, cond_notches, object_notches}
use Rattle.lever_frame.specs.Rows.{cond_by, end_by, kind_by, rows_of}

end_back : (e : End) → end_by (cond_notches e) ≡ e
end_back NormalEnd = refl
end_back ReversedEnd = refl

kind_back : (k : RowKind) → kind_by (object_notches k) ≡ k
kind_back LocksNormal = refl
kind_back ReleasedBy = refl
kind_back LocksBoth = refl

abbrev cond_with : Cond → End → Cond
cond_with cond e = record { lever = cond.lever; end = e }

conds_back : (conds : List Cond) → map cond_by (map cond_dog conds) ≡ conds
conds_back [] = refl
conds_back (c ∷ cs) =
    ap (λ (e : End). cond_with c e ∷ map cond_by (map cond_dog cs)) (end_back c.end)
    ∙ ap (λ (rest : List Cond). c ∷ rest) (conds_back cs)

abbrev row_with : Row → RowKind → List Cond → Row
row_with row kind when = record { subject = row.subject; kind = kind; object = row.object; when = when }

rows_back : (from : ℕ) (rows : List Row) → rows_of (compiled from rows) ≡ rows
rows_back from [] = refl
rows_back from (row ∷ rows) =
    ap (λ (k : RowKind). row_with row k (map cond_by (map cond_dog row.when)) ∷ rows_of (compiled (from + 1) rows))
    (kind_back row.kind)
    ∙ (ap (λ (cs : List Cond). row_with row row.kind cs ∷ rows_of (compiled (from + 1) rows)) (conds_back row.when)
    ∙ ap (λ (rest : List Row). row ∷ rest) (rows_back (from + 1) rows))

-- the rows that are found in the bridles of a table are the table's
pub rows_are : (bridles : List Bridle) (rows : List Row) → bridles ≡ compiled 1 rows → rows_of bridles ≡ rows
rows_are bridles rows made = ap (λ (bs : List Bridle). rows_of bs) made ∙ rows_back 1 rows

-- bridles that are compiled of rows are compiled of the rows that are found in them
pub made_of : (bridles : List Bridle) (rows : List Row) → bridles ≡ compiled 1 rows
    → bridles ≡ compiled 1 (rows_of bridles)
made_of bridles rows made = made ∙ ap (compiled 1) (sym (rows_are bridles rows made))
