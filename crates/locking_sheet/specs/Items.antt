-- A row as an item of a lever's line.
use Rattle.std.specs.Prelude.{ℕ, List, [], ◌∷◌, ◌++◌, codes, decimal}
use Rattle.std.specs.List.{flat_map}
use Rattle.locking_table.specs.declared.places.End.{End}
use Rattle.locking_table.specs.declared.places.End.TheVariants.{Normal, Reversed}
use Rattle.locking_table.specs.declared.row.Cond.{Cond}
use Rattle.locking_table.specs.declared.row.Row.{Row}
use Rattle.locking_table.specs.declared.row.RowKind.{RowKind}
use Rattle.locking_table.specs.declared.row.RowKind.TheVariants.{LocksNormal, ReleasedBy, LocksBoth}

abbrev pub end_text : End → List ℕ
end_text Normal = codes " n"
end_text Reversed = codes " r"

unfoldable pub cond_text : List ℕ → Cond → List ℕ
cond_text joint cond = joint ++ decimal cond.lever ++ end_text cond.end

-- the first condition stands behind `when`, each other behind `and`
abbrev pub conds_text : List Cond → List ℕ
conds_text [] = []
conds_text (cond ∷ conds) = cond_text (codes " when ") cond ++ flat_map (cond_text (codes " and ")) conds

abbrev pub verb_text : RowKind → List ℕ
verb_text LocksNormal = codes " locks "
verb_text ReleasedBy = codes " rel "
verb_text LocksBoth = codes " both "

-- a row at its subject
unfoldable pub item_text : ℕ → Row → List ℕ
item_text number row =
    codes " #" ++ decimal number ++ verb_text row.kind ++ decimal row.object ++ conds_text row.when ++ codes ";"

abbrev pub converse_verb : RowKind → List ℕ
converse_verb LocksNormal = codes " locked by "
converse_verb ReleasedBy = codes " releases "
converse_verb LocksBoth = codes " locked both ways by "

-- a row at its object
unfoldable pub converse_text : ℕ → Row → List ℕ
converse_text number row =
    codes " #" ++ decimal number ++ converse_verb row.kind ++ decimal row.subject ++ conds_text row.when ++ codes ";"
