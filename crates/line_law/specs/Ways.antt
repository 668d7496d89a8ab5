-- One value for each way.
use Rattle.block_words.specs.declared.Way.{Way}
use Rattle.block_words.specs.declared.Way.TheVariants.{Up, Down}
use Rattle.line_law.specs.declared.ways.ByWay.{ByWay}

-- the value of a way
abbrev pub of_way : {A : Type 0} → ByWay A → Way → A
of_way both Up = both.up
of_way both Down = both.down

-- another value for a way
abbrev pub with_way : {A : Type 0} → ByWay A → Way → A → ByWay A
with_way both Up x = record both { up = x }
with_way both Down x = record both { down = x }
