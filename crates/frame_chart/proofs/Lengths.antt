-- How many bridles and bars there are.
use Rattle.std.proofs.Common.{◌≡◌, ℕ, ◌+◌, List, [], ◌∷◌, length, refl, arith}
use Rattle.locking_table.specs.declared.row.Row.{Row}
use Rattle.tappet_compiler.specs.Compiled.{compiled}

-- a table has a bridle for each row
pub length_compiled : (number : ℕ) (rows : List Row) → length (compiled number rows) ≡ length rows
length_compiled number [] = refl
length_compiled number (row ∷ rows) = omega (arith, length_compiled (number + 1) rows)
