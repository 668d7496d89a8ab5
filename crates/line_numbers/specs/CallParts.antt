-- Calls in numbers, and the call that has given numbers.
use Rattle.std.specs.Prelude.{ℕ, ◌==◌, ◌&&◌, Bool, List, [], ◌∷◌, Option, Some, None, if◌then◌else◌, slice_get}
use Rattle.block_words.specs.Instruments.{position_code}
use Rattle.line_law.specs.declared.call.Act.{Act}
use Rattle.line_law.specs.declared.call.Act.TheVariants.{Ring, Hear, AwaitBell, Turn, AwaitBlock, Pull, Put, Bring}
use Rattle.line_law.specs.declared.call.Act.TheVariants.{Pass, Overrun, AwaitTrain, Berth, BerthPart, ClearPortion}
use Rattle.line_law.specs.declared.call.Act.TheVariants.{Wind, Release}
use Rattle.line_law.specs.declared.call.Call.{Call}
use Rattle.line_law.specs.Replies.{way_number}
use Rattle.line_numbers.specs.declared.calls.CallNumbers.{CallNumbers}
use Rattle.line_numbers.specs.Parts.{code_of, position_of, way_of}

-- the number of an act, in their order
abbrev pub act_number : Act → ℕ
act_number (Ring side code) = 0
act_number (Hear side) = 1
act_number (AwaitBell side code) = 2
act_number (Turn way position) = 3
act_number (AwaitBlock way position) = 4
act_number (Pull lever) = 5
act_number (Put lever) = 6
act_number (Bring train) = 7
act_number (Pass lever) = 8
act_number (Overrun lever) = 9
act_number (AwaitTrain way) = 10
act_number (Berth way) = 11
act_number (BerthPart way) = 12
act_number (ClearPortion way) = 13
act_number (Wind way) = 14
act_number (Release way) = 15

-- the number of its way or side; 0 where it has none
abbrev pub act_way : Act → ℕ
act_way (Ring side code) = way_number side
act_way (Hear side) = way_number side
act_way (AwaitBell side code) = way_number side
act_way (Turn way position) = way_number way
act_way (AwaitBlock way position) = way_number way
act_way (AwaitTrain way) = way_number way
act_way (Berth way) = way_number way
act_way (BerthPart way) = way_number way
act_way (ClearPortion way) = way_number way
act_way (Wind way) = way_number way
act_way (Release way) = way_number way
act_way act = 0

-- its code, position, lever or train; 0 where it has none
abbrev pub act_value : Act → ℕ
act_value (Ring side code) = code
act_value (AwaitBell side code) = code
act_value (Turn way position) = position_code position
act_value (AwaitBlock way position) = position_code position
act_value (Pull lever) = lever
act_value (Put lever) = lever
act_value (Bring train) = train
act_value (Pass lever) = lever
act_value (Overrun lever) = lever
act_value act = 0

-- the numbers of a call of box b
abbrev pub call_numbers : ℕ → Call → CallNumbers
call_numbers b call =
    record {
      box_no = b;
      moment = call.moment;
      act = act_number call.act;
      way = act_way call.act;
      value = act_value call.act;
    }

-- the acts in their order, with this way and value
abbrev pub acts_with : ℕ → ℕ → List Act
acts_with w v =
    Ring (way_of w) (code_of v)
    ∷ Hear (way_of w)
    ∷ AwaitBell (way_of w) (code_of v)
    ∷ Turn (way_of w) (position_of v)
    ∷ AwaitBlock (way_of w) (position_of v)
    ∷ Pull v
    ∷ Put v
    ∷ Bring v
    ∷ Pass v
    ∷ Overrun v
    ∷ AwaitTrain (way_of w)
    ∷ Berth (way_of w)
    ∷ BerthPart (way_of w)
    ∷ ClearPortion (way_of w)
    ∷ Wind (way_of w)
    ∷ Release (way_of w)
    ∷ []

-- the act of that number, with its parts as these numbers tell them
abbrev pub act_of : CallNumbers → Option Act
act_of numbers = slice_get (acts_with numbers.way numbers.value) numbers.act

-- whether these are the numbers of an act
abbrev pub has_numbers : Act → CallNumbers → Bool
has_numbers act numbers =
    act_number act == numbers.act && act_way act == numbers.way && act_value act == numbers.value

-- the call of an act at the moment of these numbers, where they are its numbers
abbrev pub call_if : CallNumbers → Option Act → Option Call
call_if numbers None = None
call_if numbers (Some act) =
    if has_numbers act numbers then Some (record { moment = numbers.moment; act = act }) else None

-- the call that has these numbers; none where no act has them
abbrev pub call_in : CallNumbers → Option Call
call_in numbers = call_if numbers (act_of numbers)

-- the code that an act names, 0 where it names none
abbrev pub code_named : Act → ℕ
code_named (Ring side code) = code
code_named (AwaitBell side code) = code
code_named act = 0
