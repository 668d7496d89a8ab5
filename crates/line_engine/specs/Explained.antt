-- Why the text of a plan is refused.
use Rattle.std.specs.Prelude.{ℕ, List, Option, Some, None, Result, Ok, Err, codes}
use Rattle.rail_text.specs.Gives.{Fault}
use Rattle.line_plan.specs.Plans.{PlanFields}
use Rattle.fault_sentences.specs.Explained.{Explains}

-- what is told of a text that was read so: nothing of a plan, and of any other why it is refused
abbrev pub IsToldOf : List ℕ → Result PlanFields Fault → Option (List ℕ) → Type 0
IsToldOf text (Ok plan) None = Unit {0}
IsToldOf text (Err fault) (Some told) = Explains (codes "plan") text fault.line fault.cause told
IsToldOf text read told = ⊥
