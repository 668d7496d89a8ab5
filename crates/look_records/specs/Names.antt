-- The words of an object.
use Rattle.std.specs.Prelude.{ℕ, Bool, true, false, List, [], codes, if◌then◌else◌}
use Rattle.line_plan.specs.Plans.{PlanFields}
use Rattle.line_law.specs.Known.{is_code_no}
use Rattle.script_text.specs.Names.{code_no_text}

-- at which end a lever stands
abbrev pub end_word : Bool → List ℕ
end_word true = codes "reversed"
end_word false = codes "normal"

-- how an arm stands
abbrev pub arm_word : Bool → List ℕ
arm_word true = codes "off"
arm_word false = codes "on"

-- a code of the plan's code table; nothing of another
abbrev pub code_words : PlanFields → ℕ → List ℕ
code_words plan code = if is_code_no plan code then code_no_text plan.codes code else []
