-- The operations of calls, each on one word, and what each step on the words tells its seat.
use Rattle.std.specs.Prelude.{◌≡◌, ◌≢◌, ℕ, ◌+◌, ◌<◌, ◌≤◌, ◌==◌, if◌then◌else◌, IfSome, List, [], ◌∷◌, ◌++◌, length}
use Rattle.std.specs.Prelude.{Option, Some, None}
use mathlib.Core.List.{IsPrefix}
use Rattle.atomic_table.specs.Table.{Me, Step}
use Rattle.token_law.specs.declared.calls.Shown.{Shown}
use Rattle.token_law.specs.declared.calls.Shown.TheVariants.{Idle, Leave, Held, OnLine}
use Rattle.token_law.specs.declared.calls.TokenAct.{TokenAct}
use Rattle.token_law.specs.declared.calls.TokenAct.TheVariants as acts
use Rattle.token_law.specs.declared.calls.TokenCall.{TokenCall}
use Rattle.token_law.specs.declared.calls.TokenEntry.{TokenEntry}
use Rattle.token_law.specs.History.{token_entry_of, token_part_of, token_state_of}
use Rattle.token_law.specs.Law.{NamesTrain, other_end}
use Rattle.token_law.specs.States.{TokenState, tokens_at}
use Rattle.token_block.specs.declared.words.TokenOp.{TokenOp}
use Rattle.token_block.specs.declared.words.TokenOp.TheVariants as ops
use Rattle.token_block.specs.declared.view.Tokens.{Tokens}
use Rattle.token_block.specs.declared.view.TokenView.{TokenView}
use Rattle.token_block.specs.Rule.{AllSeen, IsHistoryOf, held_at, most_box_calls, shown_after}
use Rattle.token_block.specs.Views.{missed, seeing, settled, with_post}
use Rattle.token_block.specs.Words.{IsShown, LineWord, TallyOf, TokenShown, number_after, token_word}

-- ---- operations

-- the word of an operation of box b
abbrev pub op_word : ℕ → TokenOp → LineWord
op_word b ops.Count = TallyOf b
op_word b (ops.Change from to) = TokenShown
op_word b (ops.Move to) = TokenShown
op_word b ops.Look = TokenShown

-- what an operation makes of its word
abbrev pub word_after : TokenOp → ℕ → ℕ
word_after ops.Count n = n + 1
word_after (ops.Change from to) n = if n == token_word from then token_word to else n
word_after (ops.Move to) n = token_word to
word_after ops.Look n = n

-- a token of box b, whose instrument has so many, is drawn for a train under the leave to b
abbrev pub draw_op : ℕ → ℕ → ℕ → TokenOp
draw_op b train tokens = if tokens == 0 then ops.Count else ops.Change (Leave b) (Held b train)

-- the token that is in hand, if there is one, moves on
abbrev pub move_op : (ℕ → Shown) → Option ℕ → TokenOp
move_op to None = ops.Count
move_op to (Some train) = ops.Move (to train)

-- the token of the train that came is held here; before, there is a look whether one came
abbrev pub arrive_op : ℕ → Option ℕ → TokenOp
arrive_op b None = ops.Look
arrive_op b (Some train) = ops.Move (Held b train)

-- the operation that a call of box b takes next, by the tokens in its instrument and its two marks
abbrev pub op_of : ℕ → TokenAct → ℕ → Option ℕ → Option ℕ → TokenOp
op_of b acts.Give tokens hand came = ops.Change Idle (Leave (other_end b))
op_of b acts.Withdraw tokens hand came = ops.Change (Leave (other_end b)) Idle
op_of b (acts.Draw train) tokens hand came = draw_op b train tokens
op_of b acts.Depart tokens hand came = move_op (λ train. OnLine (other_end b) train) hand
op_of b acts.Arrive tokens hand came = arrive_op b came
op_of b acts.Replace tokens hand came = move_op (λ train. Idle) hand
op_of b acts.Look tokens hand came = ops.Look

-- the state in which a history ends, of a line that opens with so many tokens
abbrev pub state_after : Tokens → List TokenEntry → TokenState
state_after tokens log = token_state_of tokens.at_0 tokens.at_1 log

-- the same by what a seat knows
abbrev pub op_by : Tokens → ℕ → TokenAct → TokenView → TokenOp
op_by tokens b act v = op_of b act (tokens_at (state_after tokens v.seen) b) v.hand v.came

-- ---- what an operation shows, and what it adds

-- the train, if there is one, whose token is on the line to box b
abbrev pub bound_for : ℕ → Shown → Option ℕ
bound_for b Idle = None
bound_for b (Leave to) = None
bound_for b (Held at train) = None
bound_for b (OnLine to train) = if to == b then Some train else None

-- the train that the first look of an arrival finds: it makes no entry
abbrev pub found_coming : ℕ → TokenAct → Option ℕ → Shown → Option ℕ
found_coming b acts.Arrive None shown = bound_for b shown
found_coming b acts.Arrive (Some train) shown = None
found_coming b acts.Give came shown = None
found_coming b acts.Withdraw came shown = None
found_coming b (acts.Draw train) came shown = None
found_coming b acts.Depart came shown = None
found_coming b acts.Replace came shown = None
found_coming b acts.Look came shown = None

-- a call of box b
abbrev pub call_by : ℕ → TokenAct → TokenCall
call_by b act = record { box_no = b; act = act }

-- its entry after a history
abbrev pub entry_after : Tokens → List TokenEntry → ℕ → TokenAct → TokenEntry
entry_after tokens log b act = token_entry_of (state_after tokens log) (call_by b act)

-- the history with that entry
abbrev pub with_call : Tokens → List TokenEntry → ℕ → TokenAct → List TokenEntry
with_call tokens log b act = log ++ entry_after tokens log b act ∷ []

-- the view of a seat after an operation for a call that met this history: a train that was found coming is marked, and
-- else the call's entry is made
abbrev pub view_after : Tokens → ℕ → TokenAct → TokenView → List TokenEntry → Option ℕ → TokenView
view_after tokens b act v log (Some train) = seeing v log v.hand (Some train)
view_after tokens b act v log None =
    seeing v (with_call tokens log b act) (held_at b (shown_after tokens (with_call tokens log b act))) None

-- a seat of a line with these tokens, between two joins
abbrev pub Sits : Tokens → TokenView → Type 0
Sits tokens v = (v.opened ≡ Some tokens) × (v.olds ≡ None)

-- the seat holds the post of box b, which may make this call and has room for its entry; a train that it names has a
-- number that fits the token word
pub record MayStep (tokens : Tokens) (b : ℕ) (act : TokenAct) (v : TokenView) : Type 0 where
  pub holds : v.post ≡ Some b
  pub box : b < 2
  pub train : NamesTrain act
  pub small : (train : ℕ) → act ≡ acts.Draw train → train < 65536
  pub spare : length (token_part_of b v.seen) < most_box_calls

-- An operation for a call of box b met a word that read n. That was its number after a legal history which begins with
-- all that the seat had seen, has no other entry of its box, and bears out its marks. The seat has then seen that
-- history, with the call's entry unless a train was found coming.
pub record Stepped (tokens : Tokens) (b : ℕ) (act : TokenAct) (v : TokenView) (n : ℕ) (w : TokenView) : Type 0 where
  pub log : List TokenEntry
  pub begins : IsPrefix v.seen log
  pub own : token_part_of b log ≡ token_part_of b v.seen
  pub legal : IsHistoryOf tokens log
  pub shown : IsShown (shown_after tokens log)
  pub hand : v.hand ≡ held_at b (shown_after tokens log)
  pub came : IfSome v.came (λ train. shown_after tokens log ≡ OnLine b train)
  pub found : n ≡ number_after tokens log (op_word b (op_by tokens b act v))
  pub now : w ≡ view_after tokens b act v log (found_coming b act v.came (shown_after tokens log))

-- legal for the line, if there is one
abbrev pub LegalFor : Option Tokens → List TokenEntry → Type 0
LegalFor (Some tokens) log = IsHistoryOf tokens log
LegalFor None log = Unit {0}

-- ---- what each step on the table tells: by the step, the seat before it, the number found and the seat after it

-- a draw of a post: it found at most 2 posts drawn; the seat holds the post exactly where that was its number, and else
-- it is as it was but for what the draw found
abbrev pub taken : Step (Unit {0}) → Me (Unit {0}) TokenView → ℕ → Me (Unit {0}) TokenView → Type 0
taken st m n m' =
    (m'.1 ≡ m.1) × (n ≡ st.first → m'.0 ≡ with_post m.0 st.first) × (n ≢ st.first → m'.0 ≡ missed m.0 n)
    × (n ≤ 2)

-- an operation for a call
abbrev pub done : Tokens → ℕ → TokenAct → Step (Unit {0}) → Me (Unit {0}) TokenView → ℕ → Me (Unit {0}) TokenView
    → Type 0
done tokens b act st m n m' = (m'.1 ≡ m.1) × Stepped tokens b act m.0 n m'.0

-- the second look of a join: what the two views had seen, and that what the seat has now seen is legal
abbrev pub settles : Step (Unit {0}) → Me (Unit {0}) TokenView → ℕ → Me (Unit {0}) TokenView → Type 0
settles st m n m' =
    (m'.1 ≡ m.1) × AllSeen m.0.seen m.0.post m.0.olds × LegalFor m.0.opened m.0.seen × (m'.0 ≡ settled m.0)
