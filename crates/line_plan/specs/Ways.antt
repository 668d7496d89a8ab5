-- The lines between the boxes of a plan.
use Rattle.std.specs.Prelude.{ℕ, ◌+◌, Bool, ◌&&◌, nat_lt, List, codes}
use Rattle.block_words.specs.Ways.{opposite}
use Rattle.block_words.specs.declared.Way.{Way}
use Rattle.block_words.specs.declared.Way.TheVariants.{Up, Down}

-- box b of so many has a neighbour on that side
abbrev pub has_neighbour : ℕ → ℕ → Way → Bool
has_neighbour boxes b Up = nat_lt 0 b && nat_lt b boxes
has_neighbour boxes b Down = nat_lt (b + 1) boxes

-- the line of that way leaves box b to a neighbour: the down line leaves every box but the last, the up line every box
-- but the first
abbrev pub leaves : ℕ → ℕ → Way → Bool
leaves boxes b way = has_neighbour boxes b way

-- the line of that way comes into box b from a neighbour: the down line into every box but the first, the up line into
-- every box but the last
abbrev pub comes_in : ℕ → ℕ → Way → Bool
comes_in boxes b way = has_neighbour boxes b (opposite way)

-- the word of a way
abbrev pub way_word : Way → List ℕ
way_word Up = codes "up"
way_word Down = codes "down"
