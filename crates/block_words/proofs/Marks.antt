-- The marks of a word: a bell's code and an instrument's spent bit.
use Rattle.std.proofs.Common.{◌≡◌, ℕ, ◌+◌, ◌-◌, ◌*◌, ◌/◌, ◌%◌, ◌^◌, ◌<◌, Bool, true, false, ◌∙◌, bit_and, bit_or, arith}
use Rattle.std.proofs.Common.{lit≤}
use Rattle.std.specs.Int.{bit_at}
use Rattle.std.specs.Int.Bits.{or_add_and}
use Rattle.std.proofs.lemmas.Nat.Bits.{and_high_mask, and_pow, bit_at_lowest, bit_at-suc}
use Rattle.block_words.specs.declared.Position.{Position}
use Rattle.block_words.specs.declared.Position.TheVariants.{Normal, LineClear, TrainOnLine}
use Rattle.block_words.specs.declared.bells.TheConstants.{COUNT_MASK}
use Rattle.block_words.specs.declared.instruments.TheConstants.{SPENT_BIT}
use Rattle.block_words.specs.Bells.{bell_count, bell_word}
use Rattle.block_words.specs.Instruments.{block_word}

-- a bell's word without its code
pub bit_and-COUNT_MASK : (w : ℕ) → w < 2 ^ 64 → bit_and w COUNT_MASK ≡ bell_word (bell_count w) 0
bit_and-COUNT_MASK w fits = let kept : bit_and w COUNT_MASK ≡ w / 256 * 256 =
    and_high_mask 64 8 (lit≤ tt) w fits in omega arith

-- the spent bit is bit 2
pub bit_and-SPENT_BIT : (w : ℕ) → bit_and w SPENT_BIT ≡ 4 * (w / 4 % 2)
bit_and-SPENT_BIT w =
    let is : bit_and w 4 ≡ bit_at w 2 * 4 = and_pow w 2 in
    let bit : bit_at w 2 ≡ w / 2 / 2 % 2 = bit_at-suc w 1 ∙ (bit_at-suc (w / 2) 0 ∙ bit_at_lowest (w / 2 / 2)) in
    omega arith

-- setting the spent bit adds it where it isn't set
pub bit_or-SPENT_BIT : (w : ℕ) → bit_or w SPENT_BIT ≡ w + (4 - 4 * (w / 4 % 2))
bit_or-SPENT_BIT w = omega (arith, or_add_and w 4, bit_and-SPENT_BIT w)

-- an instrument's word becomes the same one, spent
pub bit_or-block_word : (v : ℕ) (spent : Bool) (position : Position)
    → bit_or (block_word v spent position) SPENT_BIT ≡ block_word v true position
bit_or-block_word v true Normal = omega (arith, bit_or-SPENT_BIT (block_word v true Normal))
bit_or-block_word v true LineClear = omega (arith, bit_or-SPENT_BIT (block_word v true LineClear))
bit_or-block_word v true TrainOnLine = omega (arith, bit_or-SPENT_BIT (block_word v true TrainOnLine))
bit_or-block_word v false Normal = omega (arith, bit_or-SPENT_BIT (block_word v false Normal))
bit_or-block_word v false LineClear = omega (arith, bit_or-SPENT_BIT (block_word v false LineClear))
bit_or-block_word v false TrainOnLine = omega (arith, bit_or-SPENT_BIT (block_word v false TrainOnLine))
