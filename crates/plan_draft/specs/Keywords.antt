-- Rows of keywords.
use Rattle.std.specs.Prelude.{ℕ, List, [], ◌∷◌, Option, Some, None, if◌then◌else◌, bytes_eq}
use Rattle.plan_draft.specs.declared.draft.Stage.{Stage}

-- the kind of line in the first row with this word
abbrev pub row_named : List (List ℕ × Stage) → List ℕ → Option Stage
row_named [] word = None
row_named (row ∷ rows) word = if bytes_eq word row.0 then Some row.1 else row_named rows word
