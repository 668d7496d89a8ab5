-- What a step on the shared words tells its seat.
use Rattle.std.specs.Prelude.{◌≡◌, ◌≢◌, ℕ, ◌^◌, ◌<◌, ◌≤◌, Bool, true, false, IfSome}
use Rattle.std.specs.Prelude.{List, [], ◌∷◌, ◌++◌, length, Option, Some, None}
use Rattle.atomic_table.specs.Table.{Me, Step}
use Rattle.block_words.specs.declared.Way.{Way}
use Rattle.block_words.specs.declared.WordOp.{WordOp}
use Rattle.line_plan.specs.Plans.{PlanFields}
use Rattle.line_law.specs.declared.call.Call.{Call}
use Rattle.line_law.specs.declared.call.Entry.{Entry}
use Rattle.line_law.specs.History.{IsLegal, entry_of, state_of}
use Rattle.line_law.specs.Law.{box_plan_of}
use Rattle.word_laws.specs.Operations.{op_decides}
use Rattle.word_laws.specs.WordNumbers.{Word, number_after, word_of}
use Rattle.instrument_rule.specs.declared.view.View.{View}
use Rattle.instrument_rule.specs.Calls.{DecidedAt, here_at, looks_by, op_word, room_seen}
use Rattle.instrument_rule.specs.Rule.{AllSeen, Seen}
use Rattle.instrument_rule.specs.Views.{caller_of, missed, seeing, settled, with_post}

-- ---- what a word shows

-- A word that read n had that number after a legal history, of fewer than 2^32 entries, which begins with all that the
-- seat had seen and has no other entry of its boxes.
pub record WordRead (plan : PlanFields) (log : List Entry) (word : Word) (v : View) (n : ℕ) : Type 0 where
  pub seen : Seen log v.posts v.seen
  pub legal : IsLegal plan log
  pub few : length log < 2 ^ 32
  pub found : n ≡ number_after plan log word

-- An operation met such a history and added the call of box b to it. The entry is on that word, the law decides the
-- call there, and the seat has then seen the history with the entry.
pub record Made (plan : PlanFields) (b : ℕ) (call : Call) (op : WordOp) (v : View) (n : ℕ) (w : View) : Type 0 where
  pub log : List Entry
  pub met : WordRead plan log (op_word b call.act op) v n
  pub legal : IsLegal plan (log ++ entry_of plan (state_of plan log) b call ∷ [])
  pub its_word : op_word b call.act op ≡ word_of plan (entry_of plan (state_of plan log) b call)
  pub sure : DecidedAt plan b call op v.seen n
  pub now : w ≡ seeing v (log ++ entry_of plan (state_of plan log) b call ∷ []) (looks_by call.act op) 0 None

-- a look at a word met such a history, which the seat has then seen; so many looks were counted, so many as glances
pub record Saw (plan : PlanFields) (word : Word) (looks glances : ℕ) (room : Option Way) (v : View) (n : ℕ) (w : View)
    : Type 0 where
  pub log : List Entry
  pub met : WordRead plan log word v n
  pub now : w ≡ seeing v log looks glances room

-- an operation for a call of the seat's first box makes its entry, or sees
abbrev pub MadeOrSaw : Bool → PlanFields → Call → WordOp → View → ℕ → View → Type 0
MadeOrSaw true plan call op v n w = Made plan (caller_of v.posts) call op v n w
MadeOrSaw false plan call op v n w =
    Saw plan (op_word (caller_of v.posts) call.act op) (looks_by call.act op) 0
    (room_seen (box_plan_of plan (caller_of v.posts)) call.act v.room) v n w

-- the entry is made exactly where the call is decided
abbrev pub Tells : PlanFields → Call → WordOp → Bool → View → ℕ → View → Type 0
Tells plan call op last v n w =
    MadeOrSaw
    (op_decides (box_plan_of plan (caller_of v.posts)) call.act (here_at plan v.seen (caller_of v.posts) call) op last
    n) plan call op v n w

-- legal for the plan, if there is one
abbrev pub LegalFor : Option PlanFields → List Entry → Type 0
LegalFor (Some plan) log = IsLegal plan log
LegalFor None log = Unit {0}

-- ---- what each step on the table tells: by the step, the seat before it, the number found and the seat after it

-- a draw of a post: it found at most as many posts drawn as the line has boxes; the seat holds the box exactly where
-- that was its number, and else it is as it was but for what the draw found
abbrev pub taken : Step (Unit {0}) → Me (Unit {0}) View → ℕ → Me (Unit {0}) View → Type 0
taken st m n m' =
    (m'.1 ≡ m.1) × (n ≡ st.first → m'.0 ≡ with_post m.0 st.first) × (n ≢ st.first → m'.0 ≡ missed m.0 n)
    × IfSome m.0.plan (λ plan. n ≤ length plan.boxes)

-- an operation for a call
abbrev pub done : PlanFields → Call → WordOp → Bool → Step (Unit {0}) → Me (Unit {0}) View → ℕ → Me (Unit {0}) View
    → Type 0
done plan call op last st m n m' = (m'.1 ≡ m.1) × (m'.0.posts ≡ m.0.posts) × Tells plan call op last m.0 n m'.0

-- a look at a word for no call
abbrev pub glanced : PlanFields → Word → Step (Unit {0}) → Me (Unit {0}) View → ℕ → Me (Unit {0}) View → Type 0
glanced plan word st m n m' = (m'.1 ≡ m.1) × (m'.0.posts ≡ m.0.posts) × Saw plan word 1 1 m.0.room m.0 n m'.0

-- the second look of a join: what the two views had seen, and that what the seat has now seen is legal
abbrev pub settles : Step (Unit {0}) → Me (Unit {0}) View → ℕ → Me (Unit {0}) View → Type 0
settles st m n m' =
    (m'.1 ≡ m.1) × AllSeen m.0.seen m.0.olds × LegalFor m.0.plan m.0.seen × (m'.0 ≡ settled m.0)
