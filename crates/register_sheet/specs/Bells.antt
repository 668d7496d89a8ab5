-- What a bell entry is for a register, by the last one before it on that side.
use Rattle.std.specs.Prelude.{ℕ, ◌==◌, Bool, true, false, not, ◌&&◌, ◌||◌, Option, Some, None, is_some, position}
use Rattle.std.specs.Prelude.{if◌then◌else◌}
use Rattle.line_plan.specs.Plans.{PlanFields}
use Rattle.register_sheet.specs.declared.bell.LastBell.{LastBell}
use Rattle.register_sheet.specs.declared.bell.Sense.{Sense}
use Rattle.register_sheet.specs.declared.bell.Sense.TheVariants as senses

-- 1, 2 and 2-1, by their numbers in every code table
abbrev pub call_attention : ℕ
call_attention = 1

abbrev pub train_entering_section : ℕ
train_entering_section = 6

abbrev pub train_out_of_section : ℕ
train_out_of_section = 7

-- the first class that is offered by a code, if there is one
abbrev pub class_of : PlanFields → ℕ → Option ℕ
class_of plan code = position (λ class. class.code == code) plan.classes

-- some class is offered by it
abbrev pub is_offer : PlanFields → ℕ → Bool
is_offer plan code = is_some (class_of plan code)

-- one was rung and the other heard
abbrev pub differs : Bool → Bool → Bool
differs true other = not other
differs false other = other

-- The other way round than the last bell entry before it: the same code; or an offer that is repeated by the code of
-- another class.
abbrev pub is_answer : PlanFields → Option LastBell → Bool → ℕ → Bool
is_answer plan None is_rung code = false
is_answer plan (Some last) is_rung code =
    differs last.is_rung is_rung
    && ((last.code == code) || (not last.is_answer && is_offer plan last.code && is_offer plan code))

-- the code is that of the last bell entry
abbrev pub repeats : Option LastBell → ℕ → Bool
repeats None code = false
repeats (Some last) code = last.code == code

-- one that answers none
abbrev pub unasked : PlanFields → ℕ → Sense
unasked plan code =
    if is_offer plan code then senses.Offer
    else if code == train_entering_section then senses.Entering
    else if code == train_out_of_section then senses.Out
    else if code == call_attention then senses.Nothing
    else senses.Remark

-- what a bell entry is: an answer to an offer accepts the train, if it has the same code
abbrev pub sense_of : PlanFields → Option LastBell → Bool → ℕ → Sense
sense_of plan last is_rung code =
    if not (is_answer plan last is_rung code) then unasked plan code
    else if not (is_offer plan code) then senses.Nothing
    else if repeats last code then senses.Acceptance
    else senses.Misrepetition
