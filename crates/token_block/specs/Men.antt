-- What contracts see of a man at a token instrument, what one call of his does, and what a meeting does.
use Rattle.std.specs.Prelude.{◌≡◌, ◌≢◌, ℕ, ◌+◌, ◌-◌, ◌<◌, ◌≤◌, IfSome, List, [], ◌∷◌, ◌++◌, length, Option, Some, None}
use mathlib.Core.List.{IsPrefix}
use Rattle.atomic_table.specs.Seated.{TableId}
use Rattle.token_law.specs.declared.calls.Shown.{Shown}
use Rattle.token_law.specs.declared.calls.TokenAct.{TokenAct}
use Rattle.token_law.specs.declared.calls.TokenAct.TheVariants as acts
use Rattle.token_law.specs.declared.calls.TokenEntry.{TokenEntry}
use Rattle.token_law.specs.declared.calls.TokenReply.{TokenReply}
use Rattle.token_law.specs.declared.calls.TokenReply.TheVariants as replies
use Rattle.token_law.specs.History.{token_part_of}
use Rattle.token_law.specs.Law.{token_step}
use Rattle.token_law.specs.States.{tokens_at}
use Rattle.token_block.specs.declared.instrument.Instrument.{Instrument}
use Rattle.token_block.specs.declared.opening.TokenOpenError.{TokenOpenError}
use Rattle.token_block.specs.declared.opening.TokenOpenError.TheVariants.{NoMemory, PostTaken}
use Rattle.token_block.specs.declared.view.Tokens.{Tokens}
use Rattle.token_block.specs.declared.view.TokenView.{TokenView}
use Rattle.token_block.specs.Rule.{IsHistoryOf}
use Rattle.token_block.specs.Steps.{call_by, state_after}

-- a man: the table at which he has his seat; what he knows there, with the tokens at the opening and all that he has
-- seen; his box; the tokens in his own instrument, and how many calls he has made
pub record Man : Type 0 where
  pub table_id : TableId
  pub view : TokenView
  pub box_no : ℕ
  pub tokens : ℕ
  pub calls : ℕ

-- he is a man of that line
abbrev pub IsOf : TableId → Tokens → Man → Type 0
IsOf table_id tokens man = (man.table_id ≡ table_id) × (man.view.opened ≡ Some tokens)

-- a man of box b of that line as it opens: he has seen nothing, and made no call
pub record IsFresh (table_id : TableId) (tokens : Tokens) (b : ℕ) (man : Man) : Type 0 where
  pub of_line : IsOf table_id tokens man
  pub box_no : man.box_no ≡ b
  pub seen : man.view.seen ≡ []
  pub calls : man.calls ≡ 0

-- a seat of a line with these tokens that has just drawn the post of box b, and has seen nothing
pub record IsDrawn (tokens : Tokens) (b : ℕ) (v : TokenView) : Type 0 where
  pub opened : v.opened ≡ Some tokens
  pub post : v.post ≡ Some b
  pub seen : v.seen ≡ []
  pub hand : v.hand ≡ None
  pub came : v.came ≡ None
  pub olds : v.olds ≡ None

-- The box is one of the line, and its post wasn't drawn: the draw of this seat found so many posts drawn, which is not
-- the number of the box and no more than there are. The seat holds no post.
abbrev pub WasTaken : TokenOpenError → Type 0
WasTaken (PostTaken box_no found post) =
    (box_no < 2) × (found ≢ box_no) × (found ≤ 2) × (post.seat.me.0.drawn ≡ Some found)
    × (post.seat.me.0.post ≡ None)
WasTaken NoMemory = Unit {0}

-- ---- what the type of a man keeps

-- what he has seen of a line is legal, and his instrument has so many tokens after it
pub record HasTokens (b : ℕ) (seen : List TokenEntry) (count : ℕ) (tokens : Tokens) : Type 0 where
  pub legal : IsHistoryOf tokens seen
  pub count_is : count ≡ tokens_at (state_after tokens seen) b

-- his seat holds the post of his box alone; his instrument has the tokens that it has after what he has seen, the token
-- in his hand is that of his mark, and his calls are counted
pub record IsMan (v : TokenView) (b : ℕ) (own : Instrument) : Type 0 where
  pub box : b < 2
  pub post : v.post ≡ Some b
  pub olds : v.olds ≡ None
  pub came : v.came ≡ None
  pub hand : own.hand ≡ v.hand
  pub calls : own.calls ≡ length (token_part_of b v.seen)
  pub tokens : IfSome v.opened (HasTokens b v.seen own.tokens)

-- ---- one call

-- the entry of a call of box b with this reply
abbrev pub answered : ℕ → TokenAct → TokenReply → TokenEntry
answered b act reply = record { call = call_by b act; reply = reply }

-- A call was performed. What the man has seen after it begins with all that he had seen, and is legal; its last entry
-- is his box, this call and this reply, and it is the one entry more of his part.
pub record Performed (tokens : Tokens) (b : ℕ) (act : TokenAct) (reply : TokenReply) (before after : List TokenEntry)
    : Type 0 where
  pub begins : IsPrefix before after
  pub legal : IsHistoryOf tokens after
  pub last : (log : List TokenEntry) × (after ≡ log ++ answered b act reply ∷ [])
  pub grew : token_part_of b after ≡ token_part_of b before ++ answered b act reply ∷ []

-- the tokens in the caller's instrument after a reply
abbrev pub tokens_then : TokenReply → ℕ → ℕ
tokens_then replies.Drawn tokens = tokens - 1
tokens_then (replies.Replaced train) tokens = tokens + 1
tokens_then reply tokens = tokens

-- the train for which a token is drawn, and else the one in hand
abbrev pub drawn_hand : TokenAct → Option ℕ → Option ℕ
drawn_hand (acts.Draw train) hand = Some train
drawn_hand act hand = hand

-- the train whose token is held at the caller's box after a reply
abbrev pub hand_then : TokenAct → TokenReply → Option ℕ → Option ℕ
hand_then act replies.Drawn hand = drawn_hand act hand
hand_then act (replies.Arrived train) hand = Some train
hand_then act (replies.Departed train) hand = None
hand_then act (replies.Replaced train) hand = None
hand_then act reply hand = hand

-- the reply of a box whose instrument has a token, by what is shown
abbrev pub reply_by : ℕ → TokenAct → Shown → TokenReply
reply_by b act shown = (token_step (record { shown = shown; at_0 = 1; at_1 = 1 }) b act).reply

-- what a box's own instrument refuses: a draw where it has no token, and else a move without one
abbrev pub own_refusal : TokenAct → TokenReply
own_refusal (acts.Draw train) = replies.Empty
own_refusal act = replies.NoToken

-- A call of the seat's box was answered, and performed with that reply. The seat holds the same post at the same line,
-- and its mark and the tokens in the box's instrument are those after the reply.
pub record Answered (tokens : Tokens) (b : ℕ) (act : TokenAct) (reply : TokenReply) (v w : TokenView) : Type 0 where
  pub performed : Performed tokens b act reply v.seen w.seen
  pub same_line : w.opened ≡ v.opened
  pub post : w.post ≡ v.post
  pub olds : w.olds ≡ None
  pub came : w.came ≡ None
  pub hand : w.hand ≡ hand_then act reply v.hand
  pub some : reply ≡ replies.Drawn → 0 < tokens_at (state_after tokens v.seen) b
  pub tokens_are : tokens_at (state_after tokens w.seen) b ≡ tokens_then reply (tokens_at (state_after tokens v.seen) b)

-- ---- a meeting

-- this man as he was, but for what he has seen
abbrev pub having_seen : Man → List TokenEntry → Man
having_seen man seen = record man { view = record man.view { seen = seen } }

-- what a man had seen begins what he has seen now, in which his box has the same entries
pub record SawMore (b : ℕ) (before after : List TokenEntry) : Type 0 where
  pub begins : IsPrefix before after
  pub own : token_part_of b after ≡ token_part_of b before

-- Two men met. They have then seen one legal history, which begins with what each had seen and has no other entry of
-- either box; all else of both stays.
pub record HaveMet (tokens : Tokens) (one other : Man) (one' other' : Man) : Type 0 where
  pub seen : List TokenEntry
  pub legal : IsHistoryOf tokens seen
  pub mine : SawMore one.box_no one.view.seen seen
  pub theirs : SawMore other.box_no other.view.seen seen
  pub one_is : one' ≡ having_seen one seen
  pub other_is : other' ≡ having_seen other seen
