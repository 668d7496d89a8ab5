-- The words of a single line: the number of posts drawn, a tally for each box, and the token word.
use Rattle.std.specs.Prelude.{ℕ, ◌+◌, ◌-◌, ◌*◌, ◌<◌, ◌≤◌, ◌==◌, ◌&&◌, Bool, true, false, List, count_by}
use Rattle.token_law.specs.declared.calls.Shown.{Shown}
use Rattle.token_law.specs.declared.calls.Shown.TheVariants.{Idle, Leave, Held, OnLine}
use Rattle.token_law.specs.declared.calls.TokenEntry.{TokenEntry}
use Rattle.token_law.specs.declared.calls.TokenReply.{TokenReply}
use Rattle.token_law.specs.declared.calls.TokenReply.TheVariants as replies
use Rattle.token_law.specs.History.{token_state_of}
use Rattle.token_block.specs.declared.view.Tokens.{Tokens}

-- ---- the token word

-- the number of what the instruments show: 0 idle, 1 and 2 a leave to box 0 and 1; behind a train's number, 3 and 4 its
-- token held at box 0 and 1, 5 and 6 its token on the line to box 1 and 0
abbrev pub token_word : Shown → ℕ
token_word Idle = 0
token_word (Leave to) = 1 + to
token_word (Held at train) = 8 * train + 3 + at
token_word (OnLine to train) = 8 * train + (6 - to)

-- what the instruments may show: of boxes 0 and 1, and of trains with a number that fits the token word
abbrev pub IsShown : Shown → Type 0
IsShown Idle = Unit {0}
IsShown (Leave to) = to < 2
IsShown (Held at train) = (at < 2) × (1 ≤ train) × (train < 65536)
IsShown (OnLine to train) = (to < 2) × (1 ≤ train) × (train < 65536)

-- ---- tallies

-- a refusal that the box's own instrument gives, whatever the token word shows
abbrev pub is_own_refusal : TokenReply → Bool
is_own_refusal replies.Empty = true
is_own_refusal replies.NoToken = true
is_own_refusal reply = false

-- how many calls of box b were refused so
abbrev pub tally_of : ℕ → List TokenEntry → ℕ
tally_of b es = count_by (λ e. e.call.box_no == b && is_own_refusal e.reply) es

-- ---- the words and their places

-- a word, but for the number of posts
pub data LineWord : Type 0 where
  TallyOf : ℕ → LineWord
  TokenShown : LineWord

-- a word of the line
abbrev pub IsLineWord : LineWord → Type 0
IsLineWord (TallyOf b) = b < 2
IsLineWord TokenShown = Unit {0}

-- its place: the tallies stand behind the number of posts, and the token word last
abbrev pub place_of : LineWord → ℕ
place_of (TallyOf b) = 1 + b
place_of TokenShown = 3

-- how many words a line has
abbrev pub line_words : ℕ
line_words = 4

-- the number of a word after a history of a line that opens with so many tokens
abbrev pub number_after : Tokens → List TokenEntry → LineWord → ℕ
number_after tokens log (TallyOf b) = tally_of b log
number_after tokens log TokenShown = token_word (token_state_of tokens.at_0 tokens.at_1 log).shown
