-- An observer of a line, and what he has seen look by look.
use Rattle.std.specs.Prelude.{◌≡◌, List, [], ◌∷◌}
use mathlib.Core.List.{IsPrefix}
use Rattle.atomic_table.specs.Seated.{TableId}
use Rattle.line_plan.specs.Plans.{PlanFields}
use Rattle.line_plan.specs.Sections.{sections_of}
use Rattle.line_plan.specs.declared.section.Section.{Section}
use Rattle.line_law.specs.declared.call.Entry.{Entry}
use Rattle.line_law.specs.History.{IsLegal}
use Rattle.instrument_rule.specs.declared.view.View.{View}
use Rattle.instrument_rule.specs.Calls.{Sits}
use Rattle.line_watch.specs.declared.sight.Sight.{Sight}
use Rattle.line_watch.specs.Sights.{IsRightAfter}

-- a watcher: the table at which his post has its seat, and what the post knows of the line there, with all that it has
-- seen
pub record Observer : Type 0 where
  pub table_id : TableId
  pub view : View

-- he watches that line
abbrev pub Watches : TableId → PlanFields → Observer → Type 0
Watches table_id plan watcher = (watcher.table_id ≡ table_id) × Sits plan watcher.view

-- A look at a section. What was seen before is a beginning of what has then been seen, which is legal; and the sight is
-- right after that.
pub record Looks (plan : PlanFields) (section : Section) (sight : Sight) (before after : List Entry) : Type 0 where
  pub begins : IsPrefix before after
  pub legal : IsLegal plan after
  pub right : IsRightAfter plan after section sight

-- looks at sections in turn, one at each, with a sight of each: what was seen before the first, and after the last
abbrev pub LooksInTurn : PlanFields → List Section → List Sight → List Entry → List Entry → Type 0
LooksInTurn plan [] [] before after = before ≡ after
LooksInTurn plan [] (sight ∷ sights) before after = ⊥
LooksInTurn plan (section ∷ sections) [] before after = ⊥
LooksInTurn plan (section ∷ sections) (sight ∷ sights) before after =
    (middle : List Entry) × Looks plan section sight before middle × LooksInTurn plan sections sights middle after

-- rounds of looks at all sections, one after another; between two of them more may be seen
abbrev pub RoundsInTurn : PlanFields → List (List Sight) → List Entry → List Entry → Type 0
RoundsInTurn plan [] before after = IsPrefix before after
RoundsInTurn plan (round ∷ rounds) before after =
    (start : List Entry) × (middle : List Entry) × IsPrefix before start
    × LooksInTurn plan (sections_of plan) round start middle × RoundsInTurn plan rounds middle after
