-- What a line tells behind its box.
use Rattle.std.specs.Prelude.{ℕ, List, Result, Ok}
use Rattle.rail_text.specs.Gives.{◌>>=◌}
use Rattle.rail_text.specs.declared.cause.Cause.{Cause}
use Rattle.line_plan.specs.Plans.{PlanFields}
use Rattle.line_law.specs.declared.call.Entry.{Entry}
use Rattle.line_report.specs.Reading.{call_after, call_told, reply_behind, reply_told}

-- the entry of box b, whose last moment is given: its call and its reply
unfoldable pub told_entry : PlanFields → ℕ → ℕ → List (List ℕ) → Result Entry Cause
told_entry plan b last words = do
  call ← call_after plan b last (call_told words)
  reply ← reply_behind plan b call.act (reply_told words)
  Ok (record { box_no = b; call = call; reply = reply })
