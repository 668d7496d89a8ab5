-- The class of each code behind the first ten.
use Rattle.std.proofs.Common.{ℕ, ◌-◌, ◌<◌, length, IsTrue, arith}
use Rattle.std.proofs.lemmas.Bool.Decides.{nat_tests}
use Rattle.line_plan.specs.Plans.{IsPlan, PlanFields}
use Rattle.line_law.specs.Known.{is_code_no}

-- a code above the ten that every plan has is that of some class of the plan
pub class_there : (plan : PlanFields) (code : ℕ) → IsPlan plan → IsTrue (is_code_no plan code) → 10 < code
    → code - 7 < length plan.classes
class_there plan code is known further = grind (arith, nat_tests, is.classes.count, known, further)
