-- The one spelling of a row.
use Rattle.std.specs.Prelude.{ℕ, List, [], ◌∷◌, ◌++◌, codes, decimal}
use Rattle.std.specs.List.{flat_map}
use Rattle.locking_table.specs.declared.places.End.{End}
use Rattle.locking_table.specs.declared.places.End.TheVariants.{Normal, Reversed}
use Rattle.locking_table.specs.declared.row.RowKind.{RowKind}
use Rattle.locking_table.specs.declared.row.RowKind.TheVariants.{LocksNormal, ReleasedBy, LocksBoth}
use Rattle.locking_table.specs.declared.row.Cond.{Cond}
use Rattle.locking_table.specs.declared.row.Row.{Row}
use Rattle.locking_table.specs.Words.{joined}

abbrev pub end_word : End → List ℕ
end_word Normal = codes "normal"
end_word Reversed = codes "reversed"

-- what a row says of its object
abbrev pub kind_words : RowKind → ℕ → List (List ℕ)
kind_words LocksNormal object = codes "locks" ∷ decimal object ∷ codes "normal" ∷ []
kind_words ReleasedBy object = codes "released" ∷ codes "by" ∷ decimal object ∷ []
kind_words LocksBoth object = codes "locks" ∷ decimal object ∷ codes "both" ∷ codes "ways" ∷ []

-- a condition behind the word that joins it on
abbrev pub cond_words : List ℕ → Cond → List (List ℕ)
cond_words joint cond = joint ∷ decimal cond.lever ∷ end_word cond.end ∷ []

-- the first condition stands behind "when", each other behind "and"
abbrev pub when_words : List Cond → List (List ℕ)
when_words [] = []
when_words (cond ∷ conds) = cond_words (codes "when") cond ++ flat_map (cond_words (codes "and")) conds

-- `A locks B normal`, `A locks B both ways` or `A released by B`, alone or followed by its conditions
abbrev pub row_words : Row → List (List ℕ)
row_words row = decimal row.subject ∷ kind_words row.kind row.object ++ when_words row.when

abbrev pub row_text : Row → List ℕ
row_text row = joined (row_words row)
