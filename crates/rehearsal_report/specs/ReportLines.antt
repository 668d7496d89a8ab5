-- The lines of the report of a rehearsal.
use Rattle.std.specs.Prelude.{ℕ, ◌+◌, ◌==◌, ◌||◌, nat_lt, Bool, not, List, [], ◌∷◌, ◌++◌, Option, Some}
use Rattle.std.specs.Prelude.{None, codes, decimal, length, map, slice_get, if◌then◌else◌}
use Rattle.std.specs.List.{list_any}
use Rattle.line_plan.specs.Plans.{PlanFields}
use Rattle.line_law.specs.declared.call.Entry.{Entry}
use Rattle.line_law.specs.Refusals.{is_refused}
use Rattle.line_races.specs.declared.finding.Race.{Race}
use Rattle.line_rehearsal.specs.declared.rehearsal.Rehearsal.{Rehearsal}
use Rattle.script_text.specs.Acts.{act_text}
use Rattle.script_text.specs.Calls.{call_text}
use Rattle.script_text.specs.declared.script.Script.{Script}
use Rattle.rehearsal_report.specs.Numbers.{number_at}
use Rattle.rehearsal_report.specs.CallLines.{NamedText, place_text, text_at}
use Rattle.rehearsal_report.specs.Reports.{Told}
use Rattle.rehearsal_report.specs.Reports.Told.{Whole, Said, Because}
use Rattle.rehearsal_report.specs.Standings.{calls_in, heading, made_in, standing_lines}

-- ---- refused calls

-- the line of an entry at this place of a journal
abbrev pub refused_row : PlanFields → List NamedText → List Entry → ℕ → Entry → Told
refused_row plan texts journal at e =
    Said (place_text (text_at texts e.box_no) (number_at journal e.box_no at)) (call_text plan e.call)

-- the lines of the refused ones of these entries, of which the first stands at this place of a journal
abbrev pub refused_rows : PlanFields → List NamedText → List Entry → ℕ → List Entry → List Told
refused_rows plan texts journal at [] = []
refused_rows plan texts journal at (e ∷ es) =
    if is_refused e.reply
    then refused_row plan texts journal at e ∷ refused_rows plan texts journal (at + 1) es
    else refused_rows plan texts journal (at + 1) es

-- how many there are
abbrev pub refused_text : ℕ → List ℕ
refused_text many = if many == 0 then codes "refused calls: none" else codes "refused calls: " ++ decimal many

-- their number, and then these lines
abbrev pub counted : List Told → List Told
counted rows = Whole (refused_text (length rows)) ∷ rows

abbrev pub refused_lines : PlanFields → List NamedText → List Entry → List Told
refused_lines plan texts journal = counted (refused_rows plan texts journal 0 journal)

-- ---- what may come about otherwise on threads

-- an entry by its line and what is done, without its moment
abbrev pub act_at : PlanFields → List NamedText → Entry → ℕ → List ℕ
act_at plan texts e number =
    place_text (text_at texts e.box_no) number ++ codes " `" ++ act_text plan e.call.act ++ codes "`"

-- the second entry of a race and then the first
abbrev pub race_text : PlanFields → List NamedText → List Entry → Race → Option Entry → Option Entry → List ℕ
race_text plan texts journal race (Some first) (Some second) =
    act_at plan texts second (number_at journal second.box_no race.second) ++ codes " and "
    ++ act_at plan texts first (number_at journal first.box_no race.first) ++ codes ": "
race_text plan texts journal race (Some first) None = []
race_text plan texts journal race None second = []

abbrev pub race_line : PlanFields → List NamedText → List Entry → Race → Told
race_line plan texts journal race =
    Because (race_text plan texts journal race (slice_get journal race.first) (slice_get journal race.second))

-- whether there are any
abbrev pub race_heading : ℕ → List ℕ
race_heading many = if many == 0 then codes "may differ on threads: nothing" else codes "may differ on threads"

abbrev pub race_lines : PlanFields → List NamedText → List Entry → List Race → List Told
race_lines plan texts journal races =
    Whole (race_heading (length races)) ∷ map (race_line plan texts journal) races

-- ---- all

-- The report of a rehearsal: how far it came; how each box stands, where not all calls are made; the refused calls; and
-- the races.
abbrev pub report_lines : PlanFields → List Script → List NamedText → Rehearsal → List Race → List Told
report_lines plan scripts texts rehearsal races =
    heading plan scripts rehearsal
    ∷ (standing_lines plan scripts texts rehearsal ++ refused_lines plan texts rehearsal.journal.entries
    ++ race_lines plan texts rehearsal.journal.entries races)

-- a call isn't made, or is refused, or may come about otherwise on threads
abbrev pub has_found : List Script → Rehearsal → List Race → Bool
has_found scripts rehearsal races =
    nat_lt (made_in rehearsal) (calls_in scripts) || list_any (λ e. is_refused e.reply) rehearsal.journal.entries
    || not (length races == 0)
