-- What is printed of a plan alone.
use Rattle.std.specs.Prelude.{ℕ, List}
use Rattle.plan_text.specs.Printing.{plan_text}
use Rattle.line_plan.specs.Upgrades.{upgraded}
use Rattle.plan_check.specs.Found.{findings_of}
use Rattle.plan_check.specs.Texts.{findings_text}
use Rattle.text_fetch.specs.FromTexts.{Held, FromTexts, Gives, told_then, plan_told}

-- what `check` makes of the text that its words name: the findings on the plan
abbrev pub findings_told : Held → List ℕ → FromTexts (List ℕ)
findings_told held plan_name =
    told_then (plan_told held plan_name) (λ plan. Gives (findings_text plan (findings_of plan)))

-- what `upgrade` makes of the text that its words name: the plan in version 2
abbrev pub upgrade_told : Held → List ℕ → FromTexts (List ℕ)
upgrade_told held plan_name = told_then (plan_told held plan_name) (λ plan. Gives (plan_text (upgraded plan)))
