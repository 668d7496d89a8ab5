-- Why a request isn't done.
use Rattle.std.specs.Prelude.{ℕ, List, Option, Some, None, codes}
use Rattle.rail_text.specs.CauseText.{cause_bytes}
use Rattle.line_requests.specs.declared.fault.Fault.{Fault}
use Rattle.line_requests.specs.declared.fault.Fault.TheVariants as faults

-- the words in which a fault is told
abbrev pub fault_bytes : Fault → List ℕ
fault_bytes faults.NotJson = codes "not JSON"
fault_bytes faults.NotRequest = codes "not a request"
fault_bytes faults.UnknownBox = codes "unknown box"
fault_bytes faults.NotNeighbours = codes "not neighbours"
fault_bytes faults.UnknownEntry = codes "unknown entry"
fault_bytes faults.Full = codes "full"
fault_bytes faults.HasScript = codes "has a script"
fault_bytes (faults.Script line cause) = cause_bytes cause
fault_bytes (faults.Cause cause) = cause_bytes cause

-- the line of a text that is at fault, where the fault names one
abbrev pub fault_line : Fault → Option ℕ
fault_line (faults.Script line cause) = Some line
fault_line fault = None
