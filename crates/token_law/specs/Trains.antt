-- Which trains carry a token, by what was replied alone; and which replies are refusals.
use Rattle.std.specs.Prelude.{ℕ, ◌<◌, ◌==◌, Bool, true, false, ◌&&◌, List, count_by}
use Rattle.token_law.specs.declared.calls.TokenAct.{TokenAct}
use Rattle.token_law.specs.declared.calls.TokenAct.TheVariants as acts
use Rattle.token_law.specs.declared.calls.TokenEntry.{TokenEntry}
use Rattle.token_law.specs.declared.calls.TokenReply.{TokenReply}
use Rattle.token_law.specs.declared.calls.TokenReply.TheVariants as replies

-- a token was drawn
abbrev pub is_drawn : TokenReply → Bool
is_drawn replies.Drawn = true
is_drawn reply = false

-- the act is to draw a token for this train
abbrev pub draws_for : ℕ → TokenAct → Bool
draws_for train (acts.Draw other) = other == train
draws_for train act = false

-- the token of this train was put back
abbrev pub is_replaced_of : ℕ → TokenReply → Bool
is_replaced_of train (replies.Replaced other) = other == train
is_replaced_of train reply = false

-- how many tokens were drawn for this train
abbrev pub drawn_for : ℕ → List TokenEntry → ℕ
drawn_for train es = count_by (λ e. is_drawn e.reply && draws_for train e.call.act) es

-- how many tokens of this train were put back
abbrev pub replaced_of : ℕ → List TokenEntry → ℕ
replaced_of train es = count_by (λ e. is_replaced_of train e.reply) es

-- the train carries a token: one that was drawn for it was not put back
abbrev pub Carries : List TokenEntry → ℕ → Type 0
Carries es train = replaced_of train es < drawn_for train es

-- a call that was refused
abbrev pub is_token_refusal : TokenReply → Bool
is_token_refusal replies.LeaveGiven = false
is_token_refusal (replies.LeaveOut to) = true
is_token_refusal (replies.TokenOut train) = true
is_token_refusal replies.Withdrawn = false
is_token_refusal replies.NoLeave = true
is_token_refusal replies.Drawn = false
is_token_refusal replies.Empty = true
is_token_refusal (replies.Departed train) = false
is_token_refusal (replies.Arrived train) = false
is_token_refusal (replies.Replaced train) = false
is_token_refusal replies.NoToken = true
is_token_refusal replies.NoTrain = true
is_token_refusal (replies.Seen shown) = false
