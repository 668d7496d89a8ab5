-- The line of a plan is held for another program.
use Rattle.std.specs.Prelude.{ℕ, List, Option}
use Rattle.line_plan.specs.Plans.{PlanFields}
use Rattle.text_fetch.specs.FromTexts.{Held, IsGiven, plan_told}
use Rattle.line_service.specs.Services.{ServiceFields, opening}
use Rattle.line_serving.specs.Transcripts.{IsCutShort, IsServed}

-- lines were given, and answered on the line of a plan from its opening on
abbrev pub IsServedOn : PlanFields → Option (List (List ℕ)) → Option (List (List ℕ)) → Option (List ℕ)
    → Option (List ℕ) → Type 0
IsServedOn plan given now old new = (after : ServiceFields) × IsServed (opening plan) after given now old new

-- the same, cut short
abbrev pub IsCutShortOn : PlanFields → Option (List (List ℕ)) → Option (List (List ℕ)) → Option (List ℕ)
    → Option (List ℕ) → Type 0
IsCutShortOn plan given now old new = (after : ServiceFields) × IsCutShort (opening plan) after given now old new

-- What comes of `serve`: the plan is the one that the shelf tells under its name; and what is put is the transcript of
-- the lines that are given, each with its answer.
pub record IsServedTo (held : Held) (plan_name : List ℕ) (given now : Option (List (List ℕ)))
    (old new : Option (List ℕ)) : Type 0 where
  pub plan : PlanFields
  pub plan_is : IsGiven plan (plan_told held plan_name)
  pub served : IsServedOn plan given now old new
