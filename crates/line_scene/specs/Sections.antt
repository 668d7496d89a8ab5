-- What is seen of a section.
use Rattle.std.specs.Prelude.{ℕ, zero, suc, ◌+◌, ◌==◌, ◌&&◌, List, [], ◌∷◌, ◌++◌, Option, Some, None, is_some}
use Rattle.std.specs.Prelude.{option_map, slice_get}
use Rattle.block_words.specs.declared.Position.{Position}
use Rattle.block_words.specs.declared.Way.TheVariants.{Up, Down}
use Rattle.line_plan.specs.Plans.{PlanFields}
use Rattle.line_plan.specs.Sections.{advance_of, section_berth}
use Rattle.line_plan.specs.declared.berth.Berth.{Berth}
use Rattle.line_plan.specs.declared.section.Section.{Section}
use Rattle.line_law.specs.declared.state.Passage.{Passage}
use Rattle.line_law.specs.Lines.{pair_in, plain_line_of}
use Rattle.line_law.specs.States.{LineState, box_at}
use Rattle.line_law.specs.Ways.{of_way}
use Rattle.line_scene.specs.declared.shown.Shown.{Shown}

-- what the instrument of a section shows, where the line has a berth and so an instrument
abbrev pub instrument_shown : Option Berth → Section → Position → List Shown
instrument_shown None section position = []
instrument_shown (Some berth) section position = Shown.Instrument section.rear section.way position ∷ []

-- the train so far behind the first one of these, and whether it is a portion: that can be the first alone
abbrev pub on_line : Section → Option ℕ → List Passage → ℕ → Shown
on_line section portion line behind =
    Shown.OnLine section.rear section.way behind (option_map (λ passage. passage.train) (slice_get line behind))
    (behind == 0 && is_some portion)

-- the trains of a plain line, of which there are four at most
abbrev pub trains_shown : Section → Option ℕ → List Passage → List Shown
trains_shown section portion line =
    on_line section portion line 0 ∷ on_line section portion line 1 ∷ on_line section portion line 2
    ∷ on_line section portion line 3 ∷ []

-- the bell that the box in the rear of a section rings to the box in advance
abbrev pub bell_shown : LineState → Section → Shown
bell_shown state section =
    Shown.Bell section.rear section.way (of_way (pair_in state section).bells section.way).unheard

-- what is seen of a section: its instrument, its bell, and the trains on its plain line
unfoldable pub section_shown : PlanFields → LineState → Section → List Shown
section_shown plan state section =
    instrument_shown (section_berth plan section) section (of_way (pair_in state section).blocks section.way).position
    ++ bell_shown state section
    ∷ trains_shown section (of_way (box_at state (advance_of section)).incoming section.way).portion
    (plain_line_of state section)

-- the sections of so many pairs of neighbours: of each pair that of the down line, then that of the up line
abbrev pub sections_shown : PlanFields → LineState → ℕ → List Shown
sections_shown plan state zero = []
sections_shown plan state (suc pair) =
    sections_shown plan state pair ++ (section_shown plan state (record { rear = pair; way = Down })
    ++ section_shown plan state (record { rear = pair + 1; way = Up }))
