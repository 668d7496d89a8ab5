-- Which train's line an entry is written on: the lines of one way at a box on which something is still to be written.
use Rattle.std.specs.Prelude.{ℕ, Bool, true, false, Option, Some, None}
use Rattle.register_sheet.specs.declared.queue.OpenLine.{OpenLine}
use Rattle.register_sheet.specs.declared.queue.Wanted.TheVariants as wanteds
use Rattle.register_sheet.specs.declared.open_lines.Found.{Found}
use Rattle.register_sheet.specs.declared.open_lines.OpenLines.{OpenLines}
use Rattle.register_sheet.specs.Queues.{empty_queue, joined, named, taken}

-- no line is open
abbrev pub no_open_lines : OpenLines
no_open_lines = record {
  coming = None;
  behind = empty_queue;
  arrived = None;
  waiting = empty_queue;
  going = None;
  has_departed = false;
  ahead = empty_queue;
  last = None;
}

-- ---- from the box in the rear

-- a train is offered from the rear, which opens a line: it is to come, and to be offered on
abbrev pub received : OpenLine → OpenLines → OpenLines
received line lines = record lines { coming = Some line; waiting = joined line lines.waiting }

-- the offer is repeated: that of the train that was offered last
abbrev pub accepted : OpenLines → Found
accepted lines = record { line = lines.coming; lines = lines }

-- Train Entering Section is received: the train that was offered last is in the section
abbrev pub entered : Option OpenLine → OpenLines → Found
entered None lines = record { line = None; lines = lines }
entered (Some line) lines =
    record { line = Some line; lines = record lines { coming = None; behind = joined line lines.behind } }

abbrev pub entering_received : OpenLines → Found
entering_received lines = entered lines.coming lines

-- this train has come to the berth
abbrev pub came : OpenLine → ℕ → OpenLines → OpenLines
came line train lines = record lines { arrived = Some line; waiting = named line.line train lines.waiting }

-- a train comes to the berth that wasn't in the section by the bells: the one that was offered last
abbrev pub came_unrung : ℕ → Option OpenLine → OpenLines → Found
came_unrung train None lines = record { line = None; lines = lines }
came_unrung train (Some line) lines =
    record { line = Some line; lines = came line train (record lines { coming = None }) }

-- the oldest of those in the section; where none is, the one that was offered last
abbrev pub came_first : ℕ → Option OpenLine → OpenLines → OpenLines → Found
came_first train None rest lines = came_unrung train lines.coming lines
came_first train (Some line) rest lines = record { line = Some line; lines = came line train rest }

-- a train comes to the berth
abbrev pub arrived : ℕ → OpenLines → Found
arrived train lines =
    came_first train (taken wanteds.Any lines.behind).line
    (record lines { behind = (taken wanteds.Any lines.behind).rest }) lines

-- Train Out of Section is given: of the train that came to the berth last
abbrev pub out_given : OpenLines → Found
out_given lines = record { line = lines.arrived; lines = record lines { arrived = None } }

-- ---- to the box in advance

-- this line's train is offered on
abbrev pub started : OpenLine → OpenLines → OpenLines
started line lines = record lines { going = Some line; has_departed = false }

abbrev pub started_first : Option OpenLine → OpenLines → OpenLines → Found
started_first None rest lines = record { line = None; lines = lines }
started_first (Some line) rest lines = record { line = Some line; lines = started line rest }

-- a train is offered on: the oldest from the rear with this code that waits for it
abbrev pub offered : ℕ → OpenLines → Found
offered code lines =
    started_first (taken (wanteds.Code code) lines.waiting).line
    (record lines { waiting = (taken (wanteds.Code code) lines.waiting).rest }) lines

-- the offer is repeated, or Train Entering Section is given: of the train that was offered last
abbrev pub sent : OpenLines → Found
sent lines = record { line = lines.going; lines = lines }

-- a train goes into the section ahead: the one that was offered last, unless it has gone
abbrev pub gone : Bool → Option OpenLine → OpenLines → Found
gone has_departed None lines = record { line = None; lines = lines }
gone true (Some line) lines = record { line = None; lines = lines }
gone false (Some line) lines =
    record { line = Some line; lines = record lines { has_departed = true; ahead = joined line lines.ahead } }

abbrev pub departed : OpenLines → Found
departed lines = gone lines.has_departed lines.going lines

-- Train Out of Section is received: of the oldest train ahead
abbrev pub out_received : OpenLines → Found
out_received lines = record {
  line = (taken wanteds.Any lines.ahead).line;
  lines = record lines { ahead = (taken wanteds.Any lines.ahead).rest };
}

-- a train has left the box: it waits no longer
abbrev pub without : ℕ → OpenLines → OpenLines
without train lines = record lines { waiting = (taken (wanteds.Train train) lines.waiting).rest }
