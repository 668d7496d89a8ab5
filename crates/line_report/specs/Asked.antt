-- Journals that may be judged, whatever their replies.
use Rattle.std.specs.Prelude.{ℕ, ◌<◌, ◌^◌, List, length}
use Rattle.line_plan.specs.Plans.{PlanFields}
use Rattle.line_law.specs.declared.call.Entry.{Entry}
use Rattle.line_law.specs.History.{calls_of}
use Rattle.line_law.specs.Serial.{AreCalls}

-- the plan knows each call of each box, and moments don't fall within a box
abbrev pub AreAsked : PlanFields → List Entry → Type 0
AreAsked plan es = (b : ℕ) → AreCalls plan b 0 (calls_of b es)

-- fewer entries than a line can count
abbrev pub AreFewEntries : List Entry → Type 0
AreFewEntries es = length es < 2 ^ 32
