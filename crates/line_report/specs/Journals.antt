-- The printed journal.
use Rattle.std.specs.Prelude.{ℕ, ◌+◌, List, [], ◌∷◌, ◌++◌, codes, decimal}
use Rattle.line_plan.specs.Plans.{PlanFields, box_name}
use Rattle.line_law.specs.declared.call.Entry.{Entry}
use Rattle.script_text.specs.Entries.{told_text}

-- an entry's line: its number, its box, and what was told there: its call, and its reply
unfoldable pub entry_text : PlanFields → ℕ → Entry → List ℕ
entry_text plan number e = decimal number ++ 32 ∷ box_name plan e.box_no ++ 32 ∷ told_text plan e ++ 10 ∷ []

-- the entries' lines, numbered from this number on
abbrev pub entries_text : PlanFields → ℕ → List Entry → List ℕ
entries_text plan number [] = []
entries_text plan number (e ∷ es) = entry_text plan number e ++ entries_text plan (number + 1) es

-- the journal's first line: its version
unfoldable pub heading_text : PlanFields → List ℕ
heading_text plan = codes "journal " ++ decimal plan.version ++ 10 ∷ []

-- the journal: its version, its entries numbered from 1, and its end
unfoldable pub journal_text : PlanFields → List Entry → List ℕ
journal_text plan es = codes "journal " ++ decimal plan.version ++ 10 ∷ entries_text plan 1 es ++ codes "end\n"
