-- Where an entry stands in the sheets of its box, by what is open there.
use Rattle.std.specs.Prelude.{ℕ, Bool, true, false, Option, Some, None}
use Rattle.block_words.specs.Ways.{opposite}
use Rattle.block_words.specs.declared.Way.{Way}
use Rattle.block_words.specs.declared.Way.TheVariants.{Down}
use Rattle.line_law.specs.Ways.{of_way, with_way}
use Rattle.line_plan.specs.Plans.{PlanFields}
use Rattle.register_sheet.specs.declared.bell.LastBell.{LastBell}
use Rattle.register_sheet.specs.declared.bell.Sense.{Sense}
use Rattle.register_sheet.specs.declared.bell.Sense.TheVariants as senses
use Rattle.register_sheet.specs.declared.event.Event.{Event}
use Rattle.register_sheet.specs.declared.event.Event.TheVariants as events
use Rattle.register_sheet.specs.declared.open_lines.Found.{Found}
use Rattle.register_sheet.specs.declared.open_lines.OpenLines.{OpenLines}
use Rattle.register_sheet.specs.declared.pages.Pages.{Pages}
use Rattle.register_sheet.specs.declared.pages.Step.{Step}
use Rattle.register_sheet.specs.declared.queue.OpenLine.{OpenLine}
use Rattle.register_sheet.specs.declared.spot.Column.{Column}
use Rattle.register_sheet.specs.declared.spot.Column.TheVariants as columns
use Rattle.register_sheet.specs.declared.spot.Spot.TheVariants as spots
use Rattle.register_sheet.specs.Bells.{is_answer, sense_of}
use Rattle.register_sheet.specs.Trains as trains
use Rattle.register_sheet.specs.Trains.{no_open_lines}

-- nothing is open at a box
abbrev pub no_pages : Pages
no_pages = record {
  ways = record { up = no_open_lines; down = no_open_lines };
  bells = record { up = None; down = None };
  last = Down;
}

-- ---- the kinds of place

-- the lines of a way after the one with this number, if any, was written last
abbrev pub with_lines : Way → OpenLines → Option ℕ → Pages → Pages
with_lines way lines last pages = record pages { ways = with_way pages.ways way (record lines { last = last }); last = way }

-- a line that an offer with this code opens
abbrev pub first_line : ℕ → ℕ → OpenLine
first_line line code = record { line = line; code = code; train = None }

-- an entry opens a line
abbrev pub opened : Way → OpenLines → OpenLine → Column → Pages → Step
opened way lines line column pages = record {
  spot = spots.NewLine way line.code column;
  pages = with_lines way lines (Some line.line) pages;
}

-- the number of the line that was found, or else of the one that was written last
abbrev pub line_after : Option OpenLine → Option ℕ → Option ℕ
line_after None last = last
line_after (Some line) last = Some line.line

-- an entry stands among the remarks of the line that was found, or of the one of that way that was written last, or of
-- the sheet, where none was
abbrev pub noted : Way → Found → Pages → Step
noted way found pages = record {
  spot = spots.Remark way (line_after found.line (of_way pages.ways way).last);
  pages = with_lines way found.lines (line_after found.line (of_way pages.ways way).last) pages;
}

-- an entry stands in a column of the line that was found, or where none was among the remarks
abbrev pub on_found : Option OpenLine → Way → Column → Found → Pages → Step
on_found None way column found pages = noted way found pages
on_found (Some line) way column found pages = record {
  spot = spots.Written way line.line column;
  pages = with_lines way found.lines (Some line.line) pages;
}

abbrev pub on_line : Way → Column → Found → Pages → Step
on_line way column found pages = on_found found.line way column found pages

-- the way that is told, or the one that was written last
abbrev pub way_or : Option Way → Way → Way
way_or None last = last
way_or (Some way) last = way

-- an entry stands among the remarks of the line of that way that was written last
abbrev pub remarked : Option Way → Pages → Step
remarked way pages =
    noted (way_or way pages.last) (record { line = None; lines = of_way pages.ways (way_or way pages.last) }) pages

-- an entry stands beside the sheets
abbrev pub beside : Pages → Step
beside pages = record { spot = spots.Beside; pages = pages }

-- ---- bells

abbrev pub with_bell : Way → LastBell → Pages → Pages
with_bell side bell pages = record pages { bells = with_way pages.bells side (Some bell) }

-- a train is offered to the box in advance: one that waits for it, or one that begins here, which opens a line
abbrev pub offered_found : Option OpenLine → Way → ℕ → ℕ → Found → Pages → Step
offered_found None way code number found pages =
    opened way (trains.started (first_line number code) found.lines) (first_line number code) columns.Offered pages
offered_found (Some line) way code number found pages = on_line way columns.Offered found pages

abbrev pub offered_on : Way → ℕ → ℕ → Pages → Step
offered_on way code number pages =
    offered_found (trains.offered code (of_way pages.ways way)).line way code number
    (trains.offered code (of_way pages.ways way)) pages

-- what is rung towards a side: to the box in advance on the line that goes out there, or to the box in the rear on the
-- line that comes in from there
abbrev pub bell_rung : Way → ℕ → ℕ → Pages → Sense → Step
bell_rung side code number pages senses.Offer = offered_on side code number pages
bell_rung side code number pages senses.Acceptance =
    on_line (opposite side) columns.Accepted (trains.accepted (of_way pages.ways (opposite side))) pages
bell_rung side code number pages senses.Misrepetition =
    noted (opposite side) (trains.accepted (of_way pages.ways (opposite side))) pages
bell_rung side code number pages senses.Entering =
    on_line side columns.EnteringGiven (trains.sent (of_way pages.ways side)) pages
bell_rung side code number pages senses.Out =
    on_line (opposite side) columns.OutGiven (trains.out_given (of_way pages.ways (opposite side))) pages
bell_rung side code number pages senses.Remark = remarked (Some side) pages
bell_rung side code number pages senses.Nothing = beside pages

-- what is heard from a side: from the box in the rear on the line that comes in from there, or from the box in advance
-- on the line that goes out there
abbrev pub bell_heard : Way → ℕ → ℕ → Pages → Sense → Step
bell_heard side code number pages senses.Offer =
    opened (opposite side) (trains.received (first_line number code) (of_way pages.ways (opposite side)))
    (first_line number code) columns.Received pages
bell_heard side code number pages senses.Acceptance =
    on_line side columns.AcceptedAhead (trains.sent (of_way pages.ways side)) pages
bell_heard side code number pages senses.Misrepetition =
    noted side (trains.sent (of_way pages.ways side)) pages
bell_heard side code number pages senses.Entering =
    on_line (opposite side) columns.EnteringReceived (trains.entering_received (of_way pages.ways (opposite side))) pages
bell_heard side code number pages senses.Out =
    on_line side columns.OutReceived (trains.out_received (of_way pages.ways side)) pages
bell_heard side code number pages senses.Remark = remarked (Some (opposite side)) pages
bell_heard side code number pages senses.Nothing = beside pages

-- ---- trains

-- a train came to the berth; one that left a portion behind is remarked
abbrev pub came_in : Way → ℕ → Bool → Pages → Step
came_in way train true pages = on_line way columns.Arrived (trains.arrived train (of_way pages.ways way)) pages
came_in way train false pages = noted way (trains.arrived train (of_way pages.ways way)) pages

-- a train has left the box
abbrev pub left : ℕ → Pages → Pages
left train pages = record pages {
  ways = record { up = trains.without train pages.ways.up; down = trains.without train pages.ways.down };
}

-- a train went into the section ahead; past a signal at danger it is remarked
abbrev pub went_ahead : Way → Bool → Pages → Step
went_ahead way true pages = noted way (trains.departed (of_way pages.ways way)) pages
went_ahead way false pages = on_line way columns.Departed (trains.departed (of_way pages.ways way)) pages

-- ---- any entry

-- what an entry is decides where it stands; a line that it opens has this number
abbrev pub spot_by : PlanFields → ℕ → Event → Pages → Step
spot_by plan number (events.Rang side code) pages =
    bell_rung side code number
    (with_bell side (record {
      is_rung = true;
      code = code;
      is_answer = is_answer plan (of_way pages.bells side) true code;
    }) pages)
    (sense_of plan (of_way pages.bells side) true code)
spot_by plan number (events.Heard side code) pages =
    bell_heard side code number
    (with_bell side (record {
      is_rung = false;
      code = code;
      is_answer = is_answer plan (of_way pages.bells side) false code;
    }) pages)
    (sense_of plan (of_way pages.bells side) false code)
spot_by plan number (events.Arrived way train is_whole) pages = came_in way train is_whole pages
spot_by plan number (events.Departed way train at_danger) pages = went_ahead way at_danger (left train pages)
spot_by plan number (events.WentAway train true) pages = remarked None (left train pages)
spot_by plan number (events.WentAway train false) pages = beside (left train pages)
spot_by plan number (events.Noted way) pages = remarked way pages
spot_by plan number events.Worked pages = beside pages
