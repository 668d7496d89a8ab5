-- Ways along the line.
use Rattle.block_words.specs.declared.Way.{Way}
use Rattle.block_words.specs.declared.Way.TheVariants.{Up, Down}

-- the other way
abbrev pub opposite : Way → Way
opposite Up = Down
opposite Down = Up
