-- The most trains that each section held.
use Rattle.std.specs.Prelude.{ℕ, List, [], ◌∷◌, ◌++◌, codes, decimal, max}
use Rattle.std.specs.List.{flat_map}
use Rattle.line_plan.specs.Plans.{PlanFields}
use Rattle.line_plan.specs.Sections.{section_name, sections_of}
use Rattle.line_plan.specs.declared.section.Section.{Section}
use Rattle.line_law.specs.declared.call.Entry.{Entry}
use Rattle.line_law.specs.History.{after_entry}
use Rattle.line_law.specs.Sections.{held_by}
use Rattle.line_law.specs.States.{LineState, opening_state}

-- the most trains that a section holds in a state, and after each of these entries from there
abbrev pub most_from : PlanFields → Section → LineState → List Entry → ℕ
most_from plan section state [] = held_by plan state section
most_from plan section state (e ∷ es) =
    max (held_by plan state section) (most_from plan section (after_entry plan state e) es)

-- the most trains that a section held: after any of the journal's prefixes, the empty one too
abbrev pub most_of : PlanFields → List Entry → Section → ℕ
most_of plan es section = most_from plan section (opening_state plan) es

-- a section's line: its way, its boxes from rear to advance, and the most trains that it held
unfoldable pub section_text : PlanFields → Section → ℕ → List ℕ
section_text plan section most =
    codes "section " ++ section_name plan section ++ codes " most " ++ decimal most ++ 10 ∷ []

-- the lines of all sections
unfoldable pub sections_text : PlanFields → List Entry → List ℕ
sections_text plan es = flat_map (λ section. section_text plan section (most_of plan es section)) (sections_of plan)
