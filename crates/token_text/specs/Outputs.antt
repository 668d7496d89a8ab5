-- What is printed of the calls at a single line, and of their replies.
use Rattle.std.specs.Prelude.{ℕ, ◌+◌, List, [], ◌∷◌, ◌++◌, codes, decimal}
use Rattle.std.specs.List.{join_with_byte}
use Rattle.token_law.specs.declared.calls.Shown.{Shown}
use Rattle.token_law.specs.declared.calls.Shown.TheVariants.{Idle, Leave, Held, OnLine}
use Rattle.token_law.specs.declared.calls.TokenEntry.{TokenEntry}
use Rattle.token_law.specs.declared.calls.TokenReply.{TokenReply}
use Rattle.token_law.specs.declared.calls.TokenReply.TheVariants as replies
use Rattle.token_law.specs.States.{TokenState, out_by}
use Rattle.token_text.specs.Acts.{token_call_text}

-- the words of what the instruments show
abbrev pub shown_words : Shown → List (List ℕ)
shown_words Idle = codes "idle" ∷ []
shown_words (Leave to) = codes "leave" ∷ decimal to ∷ []
shown_words (Held at train) = codes "held" ∷ decimal at ∷ decimal train ∷ []
shown_words (OnLine to train) = codes "line" ∷ decimal to ∷ decimal train ∷ []

-- the words of a reply
abbrev pub reply_words : TokenReply → List (List ℕ)
reply_words replies.LeaveGiven = codes "leave_given" ∷ []
reply_words (replies.LeaveOut to) = codes "leave_out" ∷ decimal to ∷ []
reply_words (replies.TokenOut train) = codes "token_out" ∷ decimal train ∷ []
reply_words replies.Withdrawn = codes "withdrawn" ∷ []
reply_words replies.NoLeave = codes "no_leave" ∷ []
reply_words replies.Drawn = codes "drawn" ∷ []
reply_words replies.Empty = codes "empty" ∷ []
reply_words (replies.Departed train) = codes "departed" ∷ decimal train ∷ []
reply_words (replies.Arrived train) = codes "arrived" ∷ decimal train ∷ []
reply_words (replies.Replaced train) = codes "replaced" ∷ decimal train ∷ []
reply_words replies.NoToken = codes "no_token" ∷ []
reply_words replies.NoTrain = codes "no_train" ∷ []
reply_words (replies.Seen shown) = codes "shown" ∷ shown_words shown

-- a reply as it is printed: its words, with one space between each two
abbrev pub token_reply_text : TokenReply → List ℕ
token_reply_text reply = join_with_byte 32 (reply_words reply)

-- the line of an entry: its number, the call, `->` and the reply
unfoldable pub token_entry_line : ℕ → TokenEntry → List ℕ
token_entry_line number e =
    decimal number ++ 32 ∷ (token_call_text e.call ++ codes " -> " ++ token_reply_text e.reply ++ 10 ∷ [])

-- the lines of entries, numbered from this number on
abbrev pub token_entry_lines : ℕ → List TokenEntry → List ℕ
token_entry_lines number [] = []
token_entry_lines number (e ∷ es) = token_entry_line number e ++ token_entry_lines (number + 1) es

-- the last line: the tokens at each box, and those that are out
unfoldable pub tokens_line : ℕ → ℕ → ℕ → List ℕ
tokens_line at_0 at_1 out =
    codes "tokens " ++ decimal at_0 ++ codes " " ++ decimal at_1 ++ codes " out " ++ decimal out ++ codes "\n"

-- The output of calls that were made: `token 1`, the line of each with its reply, `end`, and the tokens that then stand
-- in both instruments and are out.
unfoldable pub token_output : List TokenEntry → ℕ → ℕ → ℕ → List ℕ
token_output es at_0 at_1 out =
    codes "token 1\n" ++ token_entry_lines 1 es ++ codes "end\n" ++ tokens_line at_0 at_1 out

-- the same of a history, by the state in which it ends
abbrev pub token_history_text : List TokenEntry → TokenState → List ℕ
token_history_text es state = token_output es state.at_0 state.at_1 (out_by state.shown)
