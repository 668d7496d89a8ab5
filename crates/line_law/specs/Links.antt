-- The lines between a box and its neighbours.
use Rattle.std.specs.Prelude.{ℕ, ◌-◌}
use Rattle.block_words.specs.declared.Way.{Way}
use Rattle.block_words.specs.declared.Way.TheVariants.{Up, Down}
use Rattle.line_law.specs.declared.link.Link.{Link}
use Rattle.line_law.specs.declared.link.Link.TheVariants.{Out, In}

-- the way of a line
abbrev pub way_of : Link → Way
way_of (Out way) = way
way_of (In way) = way

-- the pair of neighbours that a line of box b joins: pair p is of the boxes p and p + 1
abbrev pub pair_no : ℕ → Link → ℕ
pair_no b (Out Up) = b - 1
pair_no b (Out Down) = b
pair_no b (In Up) = b
pair_no b (In Down) = b - 1
