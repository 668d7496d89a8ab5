-- The status of a command that is done.
use Rattle.std.specs.Prelude.{Bool, true, false}
use Rattle.signalbox_top.specs.declared.status.Status.{Status}
use Rattle.signalbox_top.specs.declared.status.Status.TheVariants as statuses

-- the status where something was found, or not
abbrev pub status_of : Bool → Status
status_of true = statuses.Found
status_of false = statuses.Done
