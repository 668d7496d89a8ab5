-- The refused calls of a journal, as they are printed behind the registers.
use Rattle.std.specs.Prelude.{ℕ, ◌+◌, List, [], ◌∷◌, ◌++◌, length, filter, codes, decimal, if◌then◌else◌}
use Rattle.line_plan.specs.Plans.{PlanFields}
use Rattle.line_law.specs.declared.call.Entry.{Entry}
use Rattle.line_law.specs.Refusals.{is_refused}
use Rattle.line_report.specs.Journals.{entry_text}

-- an entry's line of the journal, if its reply is refused
abbrev pub refused_entry : PlanFields → ℕ → Entry → List ℕ
refused_entry plan number e = if is_refused e.reply then entry_text plan number e else []

-- the lines of the refused entries, by their numbers in the journal, from this number on
abbrev pub refused_entries : PlanFields → ℕ → List Entry → List ℕ
refused_entries plan number [] = []
refused_entries plan number (e ∷ es) = refused_entry plan number e ++ refused_entries plan (number + 1) es

-- how many entries are refused
abbrev pub refused_count : List Entry → ℕ
refused_count es = length (filter (λ e. is_refused e.reply) es)

-- how many calls were refused, and which: the journal's lines whose replies are refused
unfoldable pub refusals_text : PlanFields → List Entry → List ℕ
refusals_text plan es = codes "refusals " ++ decimal (refused_count es) ++ 10 ∷ refused_entries plan 1 es
