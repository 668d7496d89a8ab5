-- What a bell entry is, by the last one before it on that side.
use Rattle.std.specs.Prelude.{ℕ, ◌==◌, Bool, true, false, not, ◌&&◌, ◌||◌, Option, Some, None, if◌then◌else◌}
use Rattle.line_plan.specs.Plans.{PlanFields}
use Rattle.reg_audit.specs.declared.bell.BellEntry.{BellEntry}
use Rattle.reg_audit.specs.declared.bell.BellKind.{BellKind}
use Rattle.reg_audit.specs.declared.bell.BellKind.TheVariants as kinds
use Rattle.reg_audit.specs.Bells.{call_attention, is_class_code, train_entering_section, train_out_of_section}
use Rattle.reg_audit.specs.Marks.{same_kind}
use Rattle.box_marking.specs.declared.bell.LastBell.{LastBell}
use Rattle.box_marking.specs.declared.bell.Role.{Role}
use Rattle.box_marking.specs.declared.bell.Role.TheVariants as roles

-- 16, by its number in every code table
abbrev pub testing : ℕ
testing = 10

-- a code that has to be rung back by the man who hears it
abbrev pub is_repeated : PlanFields → ℕ → Bool
is_repeated plan code =
    (code == call_attention) || (code == train_entering_section) || (code == train_out_of_section)
    || (code == testing) || is_class_code plan code

-- a train is offered, or a code has to be rung back
abbrev pub is_open : Role → Bool
is_open roles.Offer = true
is_open roles.Asked = true
is_open roles.Answer = false
is_open roles.Other = false

-- The other way round than the last bell entry before it: the same code; or one class code for another, where that was
-- offered or has to be rung back, which is a wrong repetition.
abbrev pub is_answer : PlanFields → Option LastBell → BellEntry → Bool
is_answer plan None bell = false
is_answer plan (Some last) bell =
    not (same_kind last.bell.kind bell.kind)
    && ((last.bell.code == bell.code)
    || (is_open last.role && is_class_code plan last.bell.code && is_class_code plan bell.code))

-- one that is no answer: a class code that is rung is an offer, and a code that is heard has to be rung back, where it
-- is of those
abbrev pub role_unasked : PlanFields → BellKind → ℕ → Role
role_unasked plan kinds.Rung code = if is_class_code plan code then roles.Offer else roles.Other
role_unasked plan kinds.Heard code = if is_repeated plan code then roles.Asked else roles.Other

-- what a bell entry is
abbrev pub role_of : PlanFields → Option LastBell → BellEntry → Role
role_of plan last bell = if is_answer plan last bell then roles.Answer else role_unasked plan bell.kind bell.code
