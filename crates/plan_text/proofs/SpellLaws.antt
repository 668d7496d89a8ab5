-- A text is read as a plan exactly where it spells that plan.
use Rattle.std.proofs.Common.{◌≡◌, ℕ, List, Result, Ok, Err, IfOk}
use Rattle.rail_text.specs.Gives.{GivesText}
use Rattle.rail_text.specs.declared.cause.ReadError.{ReadError}
use Rattle.line_plan.specs.Plans.{PlanFields}
use Rattle.plan_draft.specs.Reading.{plan_of}
use Rattle.plan_text.specs.Spelled.{Spells}
use Rattle.plan_text.proofs.Drafted.{plan_of_is_plan}
use Rattle.plan_text.proofs.ReadSpelled.{read_spells}

-- what is read is spelled by the text
pub read_is_spelled : (bytes : List ℕ) (plan : PlanFields) → plan_of bytes ≡ Ok plan → Spells bytes plan
read_is_spelled bytes plan e = read_spells bytes plan (plan_of_is_plan bytes plan e) e

pub reader_spelled : (bytes : List ℕ) (r : Result PlanFields ReadError) → GivesText (λ plan. plan) r (plan_of bytes)
    → IfOk r (λ plan. Spells bytes plan)
reader_spelled bytes (Ok plan) gives = read_is_spelled bytes plan gives
reader_spelled bytes (Err e) gives = tt

pub ruleset reader_laws = (reader_spelled)
