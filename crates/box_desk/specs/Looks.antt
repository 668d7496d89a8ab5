-- When a call that looks has not found what it looked for.
use Rattle.std.specs.Prelude.{ℕ, ◌%◌, ◌<◌, Bool, true, false}
use Rattle.line_law.specs.declared.call.Act.{Act}
use Rattle.line_law.specs.declared.call.Act.TheVariants.{AwaitBlock}
use Rattle.line_law.specs.declared.call.Reply.{Reply}
use Rattle.line_law.specs.declared.call.Reply.TheVariants.{BellNotYet, BlockNotYet, SectionFull, TrainNotYet}

-- the word of an instrument that is awaited shows one of its positions
abbrev pub ShowsPosition : Act → ℕ → Type 0
ShowsPosition (AwaitBlock way position) word = word % 4 < 3
ShowsPosition act word = Unit {0}

-- a reply that tells that a call didn't find what it looked for, or a train no room
abbrev pub fell_short : Reply → Bool
fell_short (BellNotYet shown k) = true
fell_short (BlockNotYet shown v) = true
fell_short (TrainNotYet j) = true
fell_short (SectionFull k) = true
fell_short reply = false
