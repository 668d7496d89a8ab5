-- Unpacking finds again what was packed.
use Rattle.std.proofs.Common.{◌≡◌, ℕ, ◌%◌, ◌<◌, Bool, true, false, arith}
use Rattle.std.proofs.lemmas.Bool.Decides.{nat_tests}
use Rattle.block_words.specs.declared.Position.{Position}
use Rattle.block_words.specs.declared.Position.TheVariants.{Normal, LineClear, TrainOnLine}
use Rattle.block_words.specs.Bells.{bell_code, bell_count, bell_word}
use Rattle.block_words.specs.Instruments.{block_position, block_spent, block_turns, block_word}

-- the word of a bell tells how many codes were rung on it
pub bell_count-bell_word : (k code : ℕ) → code < 256 → bell_count (bell_word k code) ≡ k
bell_count-bell_word k code small = omega arith

-- the word of a bell tells the code that stands unheard
pub bell_code-bell_word : (k code : ℕ) → code < 256 → bell_code (bell_word k code) ≡ code
bell_code-bell_word k code small = omega arith

-- the word of an instrument tells how often it was turned
pub block_turns-block_word : (v : ℕ) (spent : Bool) (position : Position)
    → block_turns (block_word v spent position) ≡ v
block_turns-block_word v true Normal = omega arith
block_turns-block_word v true LineClear = omega arith
block_turns-block_word v true TrainOnLine = omega arith
block_turns-block_word v false Normal = omega arith
block_turns-block_word v false LineClear = omega arith
block_turns-block_word v false TrainOnLine = omega arith

-- the word of an instrument tells whether it is spent
pub block_spent-block_word : (v : ℕ) (spent : Bool) (position : Position)
    → block_spent (block_word v spent position) ≡ spent
block_spent-block_word v true Normal = grind (arith, nat_tests)
block_spent-block_word v true LineClear = grind (arith, nat_tests)
block_spent-block_word v true TrainOnLine = grind (arith, nat_tests)
block_spent-block_word v false Normal = grind (arith, nat_tests)
block_spent-block_word v false LineClear = grind (arith, nat_tests)
block_spent-block_word v false TrainOnLine = grind (arith, nat_tests)

-- the word of an instrument tells its position
pub block_position-block_word : (v : ℕ) (spent : Bool) (position : Position)
    → block_position (block_word v spent position) ≡ position
block_position-block_word v true Normal = grind (arith, nat_tests)
block_position-block_word v true LineClear = grind (arith, nat_tests)
block_position-block_word v true TrainOnLine = grind (arith, nat_tests)
block_position-block_word v false Normal = grind (arith, nat_tests)
block_position-block_word v false LineClear = grind (arith, nat_tests)
block_position-block_word v false TrainOnLine = grind (arith, nat_tests)

-- a word that shows a position is the packing of what it is unpacked to
pub block_word-unpacked : (w : ℕ) → w % 4 < 3 → block_word (block_turns w) (block_spent w) (block_position w) ≡ w
block_word-unpacked w shows = grind (arith, nat_tests)
