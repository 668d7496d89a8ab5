-- What an operation makes of the shared word that it meets.
use Rattle.std.specs.Prelude.{ℕ, ◌+◌, ◌%◌, ◌^◌, ◌==◌, if◌then◌else◌, bit_and, bit_or}
use Rattle.block_words.specs.declared.WordOp.{WordOp}
use Rattle.block_words.specs.declared.WordOp.TheVariants.{Local, Ring, Hear, LookBell, Turn, Pull, LookBlock}
use Rattle.block_words.specs.declared.WordOp.TheVariants.{LookSection, Enter, TakeOut}
use Rattle.block_words.specs.declared.bells.TheConstants.{COUNT_MASK}
use Rattle.block_words.specs.declared.instruments.TheConstants.{SPENT_BIT}

-- the new word, of 64 bits, as a function of the old one
abbrev pub word_after : WordOp → ℕ → ℕ
word_after Local w = (w + 1) % 2 ^ 64
word_after (Ring side expect new) w = if w == expect then new else w
word_after (Hear side) w = bit_and w COUNT_MASK
word_after (LookBell side) w = w
word_after (Turn way new) w = new
word_after (Pull way) w = bit_or w SPENT_BIT
word_after (LookBlock way) w = w
word_after (LookSection way) w = w
word_after (Enter way bits) w = bit_or w bits
word_after (TakeOut way mask) w = bit_and w mask
