-- The word of a block instrument.
use Rattle.std.specs.Prelude.{ℕ, ◌+◌, ◌*◌, ◌/◌, ◌%◌, Bool, true, false, ◌==◌, if◌then◌else◌}
use Rattle.block_words.specs.declared.Position.{Position}
use Rattle.block_words.specs.declared.Position.TheVariants.{Normal, LineClear, TrainOnLine}

-- the number of a position
abbrev pub position_code : Position → ℕ
position_code Normal = 0
position_code LineClear = 1
position_code TrainOnLine = 2

-- the number of the spent mark
abbrev pub spent_code : Bool → ℕ
spent_code true = 4
spent_code false = 0

-- an instrument that was turned v times, spent or not, at this position
abbrev pub block_word : ℕ → Bool → Position → ℕ
block_word v spent position = 8 * v + spent_code spent + position_code position

-- how often it was turned
abbrev pub block_turns : ℕ → ℕ
block_turns w = w / 8

-- whether it is spent
abbrev pub block_spent : ℕ → Bool
block_spent w = w / 4 % 2 == 1

-- what it shows, where w mod 4 is below 3
abbrev pub block_position : ℕ → Position
block_position w = if w % 4 == 0 then Normal else (if w % 4 == 1 then LineClear else TrainOnLine)
