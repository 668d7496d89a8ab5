-- The railway's names in a sentence.
use Rattle.std.specs.Prelude.{ℕ, List, codes}
use Rattle.block_words.specs.declared.Position.{Position}
use Rattle.block_words.specs.declared.Position.TheVariants.{Normal, LineClear, TrainOnLine}

-- a position as the railway names it
abbrev pub position_name : Position → List ℕ
position_name Normal = codes "Normal"
position_name LineClear = codes "Line Clear"
position_name TrainOnLine = codes "Train on Line"
