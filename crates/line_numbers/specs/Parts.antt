-- The numbers of the parts of calls, replies and things: how each is read again. A number that no part has is read as
-- some part too.
use Rattle.std.specs.Prelude.{ℕ, ◌%◌, ◌==◌, Bool, Option, Some, None, if◌then◌else◌}
use Rattle.block_words.specs.declared.Position.{Position}
use Rattle.block_words.specs.declared.Position.TheVariants.{Normal, LineClear, TrainOnLine}
use Rattle.block_words.specs.declared.Way.{Way}
use Rattle.block_words.specs.declared.Way.TheVariants.{Up, Down}
use Rattle.block_words.specs.declared.WelwynState.{WelwynState}
use Rattle.block_words.specs.declared.WelwynState.TheVariants.{Ready, Given, Berthed}

-- the number of a code or train that may be there, 0 for none
abbrev pub number_if : Option ℕ → ℕ
number_if None = 0
number_if (Some number) = number

-- the code or train of a number, none for 0
abbrev pub some_if : ℕ → Option ℕ
some_if n = if n == 0 then None else Some n

-- the way of a number
abbrev pub way_of : ℕ → Way
way_of n = if n == 0 then Up else Down

-- the position of a number
abbrev pub position_of : ℕ → Position
position_of n = if n == 0 then Normal else (if n == 1 then LineClear else TrainOnLine)

-- the Welwyn state of a number
abbrev pub state_of : ℕ → WelwynState
state_of n = if n == 0 then Ready else (if n == 1 then Given else Berthed)

-- the mark of a number: whether it is set
abbrev pub mark_of : ℕ → Bool
mark_of n = n == 1

-- the code of a number: codes are below 256
abbrev pub code_of : ℕ → ℕ
code_of n = n % 256
