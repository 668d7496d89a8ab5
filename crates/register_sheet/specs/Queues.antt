-- Lines of a sheet on which something is still to be written, in their order.
use Rattle.std.specs.Prelude.{ℕ, ◌==◌, Bool, true, false, Option, Some, None, if◌then◌else◌}
use Rattle.register_sheet.specs.declared.queue.OpenLine.{OpenLine}
use Rattle.register_sheet.specs.declared.queue.Queue.{Queue}
use Rattle.register_sheet.specs.declared.queue.Taken.{Taken}
use Rattle.register_sheet.specs.declared.queue.Wanted.{Wanted}
use Rattle.register_sheet.specs.declared.queue.Wanted.TheVariants as wanteds

-- no line
abbrev pub empty_queue : Queue
empty_queue = record { first = None; second = None; third = None; fourth = None }

-- the train of a line is this one
abbrev pub is_train : ℕ → Option ℕ → Bool
is_train train None = false
is_train train (Some its) = its == train

-- a line is what is looked for
abbrev pub is_wanted : Wanted → OpenLine → Bool
is_wanted wanteds.Any line = true
is_wanted (wanteds.Code code) line = line.code == code
is_wanted (wanteds.Train train) line = is_train train line.train

-- there is a line, and it is what is looked for
abbrev pub fits : Wanted → Option OpenLine → Bool
fits wanted None = false
fits wanted (Some line) = is_wanted wanted line

-- a line more, behind the others; of five the oldest is forgotten
abbrev pub joined : OpenLine → Queue → Queue
joined line queue =
    record { first = queue.second; second = queue.third; third = queue.fourth; fourth = Some line }

-- the oldest line that is looked for, if there is one, and the others
abbrev pub taken : Wanted → Queue → Taken
taken wanted queue =
    if fits wanted queue.first
    then record { line = queue.first; rest = record queue { first = None } }
    else if fits wanted queue.second
    then record { line = queue.second; rest = record queue { first = None; second = queue.first } }
    else if fits wanted queue.third
    then record { line = queue.third; rest = record queue { first = None; second = queue.first; third = queue.second } }
    else if fits wanted queue.fourth
    then record {
      line = queue.fourth;
      rest = record { first = None; second = queue.first; third = queue.second; fourth = queue.third };
    }
    else record { line = None; rest = queue }

-- a line with the train that has come, if it is the line of this number
abbrev pub with_train : ℕ → ℕ → Option OpenLine → Option OpenLine
with_train number train None = None
with_train number train (Some line) =
    if line.line == number then Some (record line { train = Some train }) else Some line

-- the queue with a train named on its line
abbrev pub named : ℕ → ℕ → Queue → Queue
named number train queue = record {
  first = with_train number train queue.first;
  second = with_train number train queue.second;
  third = with_train number train queue.third;
  fourth = with_train number train queue.fourth;
}
