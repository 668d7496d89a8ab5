-- Where each shared word of a line stands: word 0 counts the posts taken, then come the tallies, the bells, the
-- instruments and the sections.
use Rattle.std.specs.Prelude.{ℕ, ◌+◌, ◌-◌, ◌*◌, ◌<◌}
use Rattle.line_law.specs.Replies.{way_number}
use Rattle.word_laws.specs.WordNumbers.{BellOf, BlockOf, PlainLineOf, TallyOf, Word}

-- how many shared words a line of n boxes has: the count of posts taken, a tally for each box, and six words for each
-- pair
abbrev pub word_count : ℕ → ℕ
word_count n = 1 + n + 6 * (n - 1)

-- the place of a word of a line of n boxes; of the two words of a kind that a pair has, that of the up line comes first
abbrev pub word_place : ℕ → Word → ℕ
word_place n (TallyOf b) = 1 + b
word_place n (BellOf p way) = 1 + n + (2 * p + way_number way)
word_place n (BlockOf p way) = 1 + n + 2 * (n - 1) + (2 * p + way_number way)
word_place n (PlainLineOf p way) = 1 + n + 4 * (n - 1) + (2 * p + way_number way)

-- a word of a line of n boxes: of one of its boxes, or of one of its pairs
abbrev pub IsWordOf : ℕ → Word → Type 0
IsWordOf n (TallyOf b) = b < n
IsWordOf n (BellOf p way) = p + 1 < n
IsWordOf n (BlockOf p way) = p + 1 < n
IsWordOf n (PlainLineOf p way) = p + 1 < n
