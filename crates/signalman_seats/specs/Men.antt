-- What contracts see of a signalman, and what one call of his does.
use Rattle.std.specs.Prelude.{◌≡◌, ℕ, ◌+◌, ◌*◌, ◌≤◌, true, List, [], ◌∷◌, ◌++◌, length, Some, IfSome}
use mathlib.Core.List.{IsPrefix}
use Rattle.atomic_table.specs.Seated.{TableId}
use Rattle.block_words.specs.declared.WordOp.{WordOp}
use Rattle.line_plan.specs.Plans.{PlanFields}
use Rattle.line_law.specs.declared.call.Call.{Call}
use Rattle.line_law.specs.declared.call.Entry.{Entry}
use Rattle.line_law.specs.declared.call.Reply.{Reply}
use Rattle.line_law.specs.History.{IsLegal, part_of, state_of}
use Rattle.line_law.specs.Serial.{is_not_yet}
use Rattle.line_law.specs.Law.{box_plan_of}
use Rattle.line_law.specs.States.{box_at, opening_box}
use Rattle.word_laws.specs.WordNumbers.{word_of}
use Rattle.box_desk.specs.Desks.{DeskFields, IsDeskOf}
use Rattle.train_register.specs.Registers.{RegisterFields}
use Rattle.instrument_rule.specs.declared.view.View.{View}
use Rattle.instrument_rule.specs.Calls.{op_word}
use Rattle.instrument_rule.specs.Rule.{most_entries}
use Rattle.instrument_rule.specs.Told.{WordRead}
use Rattle.instrument_rule.specs.Views.{caller_of}
use Rattle.signalman_seats.specs.declared.notes.PlanNotes.{PlanNotes}
use Rattle.signalman_seats.specs.Looks.{InVain}
use Rattle.signalman_seats.specs.Notes.{AreNotesOf}

-- a signalman: the table at which he has his seat; what he knows of the line there, with its plan, all that he has seen
-- and how many looks he has taken; his box; his entries, how many more he has room for, and the moment of his last call
pub record Man : Type 0 where
  pub table_id : TableId
  pub view : View
  pub box_no : ℕ
  pub entries : List Entry
  pub spare : ℕ
  pub moment : ℕ

-- he is a man of that line
abbrev pub IsOf : TableId → PlanFields → Man → Type 0
IsOf table_id plan man = (man.table_id ≡ table_id) × (man.view.plan ≡ Some plan)

-- a man of box b of that line as it opens: he has seen nothing and done nothing, and has room for so many entries
pub record IsFresh (table_id : TableId) (plan : PlanFields) (b room : ℕ) (man : Man) : Type 0 where
  pub of_line : IsOf table_id plan man
  pub box_no : man.box_no ≡ b
  pub seen : man.view.seen ≡ []
  pub looks : man.view.looks ≡ 0
  pub glances : man.view.glances ≡ 0
  pub entries : man.entries ≡ []
  pub spare : man.spare ≡ room
  pub moment : man.moment ≡ 0

-- a post of a line with that plan that has just drawn box b, and has seen nothing
pub record IsDrawn (plan : PlanFields) (b : ℕ) (v : View) : Type 0 where
  pub plan_is : v.plan ≡ Some plan
  pub posts : v.posts ≡ b ∷ []
  pub olds : v.olds ≡ []
  pub seen : v.seen ≡ []
  pub looks : v.looks ≡ 0
  pub glances : v.glances ≡ 0

-- the desk of box b, its register with so much room and its notes of the plan, as a line with that plan opens
pub record AreFittings (plan : PlanFields) (b room : ℕ) (desk : DeskFields) (register : RegisterFields)
    (notes : PlanNotes) : Type 0 where
  pub desk_of : IsDeskOf plan b desk
  pub here : desk.here ≡ opening_box (length plan.trains) (box_plan_of plan b)
  pub calls : desk.calls ≡ 0
  pub empty : register ≡ record { box_no = b; entries = []; spare = room }
  pub noted : AreNotesOf plan b notes

-- ---- what the type of a signalman keeps

-- a desk of box b after what was seen of a line
pub record IsAtDesk (plan : PlanFields) (b : ℕ) (seen : List Entry) (desk : DeskFields) : Type 0 where
  pub legal : IsLegal plan seen
  pub desk_of : IsDeskOf plan b desk
  pub here : desk.here ≡ box_at (state_of plan seen) b

-- his post holds his box alone; what he has seen is legal, and his desk is that of the box after it; his register has
-- his part of it, and no more room than a box has; his looks are counted, and none was a glance; his notes are of the
-- line's plan
pub record IsMan (v : View) (b : ℕ) (desk : DeskFields) (register : RegisterFields) (taken : ℕ) (notes : PlanNotes)
    : Type 0 where
  pub post : v.posts ≡ b ∷ []
  pub olds : v.olds ≡ []
  pub at_desk : IfSome v.plan (λ plan. IsAtDesk plan b v.seen desk)
  pub box_no : register.box_no ≡ b
  pub entries : register.entries ≡ part_of b v.seen
  pub room : length register.entries + register.spare ≤ most_entries
  pub calls : desk.calls ≡ length register.entries
  pub looks : taken ≡ v.looks
  pub few_looks : taken ≤ 4294967295 * length register.entries
  pub glances : v.glances ≡ 0
  pub noted : IfSome v.plan (λ plan. AreNotesOf plan b notes)

-- ---- one call

-- the entry of a call of box b with this reply
abbrev pub answered : ℕ → Call → Reply → Entry
answered b call reply = record { box_no = b; call = call; reply = reply }

-- A call of box b was decided with this reply at one step, an operation on one word, which is that of its entry. The
-- word read so after a legal history of fewer than 2^32 entries, which begins with all that the man had seen and has no
-- other entry of his; what he has then seen is that history with the entry.
pub record AtOneStep (plan : PlanFields) (b : ℕ) (call : Call) (reply : Reply) (v w : View) : Type 0 where
  pub log : List Entry
  pub op : WordOp
  pub read : ℕ
  pub met : WordRead plan log (op_word b call.act op) v read
  pub its_word : op_word b call.act op ≡ word_of plan (answered b call reply)
  pub now : w.seen ≡ log ++ answered b call reply ∷ []

-- A call was performed. What the man has seen after it begins with all that he had seen, and is legal; its last entry
-- is his box, this call and this reply, and it is the one entry more of his part. He took so many looks at most, and
-- none of them was a glance. An await that was not satisfied has taken all its looks, each at its word and in vain.
pub record Performed (plan : PlanFields) (b : ℕ) (call : Call) (looks : ℕ) (reply : Reply) (v w : View) : Type 0 where
  pub begins : IsPrefix v.seen w.seen
  pub legal : IsLegal plan w.seen
  pub last : AtOneStep plan b call reply v w
  pub grew : part_of b w.seen ≡ part_of b v.seen ++ answered b call reply ∷ []
  pub looked : (l : ℕ) × (w.looks ≡ v.looks + l) × (l ≤ looks) × (is_not_yet reply ≡ true → l ≡ looks)
  pub glances : w.glances ≡ v.glances
  pub in_vain : is_not_yet reply ≡ true
      → InVain plan b call (word_of plan (answered b call reply)) looks v.seen w.seen

-- A call of the post's first box was answered, and performed with that reply. The post is at the same line and holds
-- the same boxes, and the desk stands as the box after what the post has then seen, at the moment of the call.
pub record Answered (plan : PlanFields) (call : Call) (looks : ℕ) (reply : Reply) (v w : View) (desk : DeskFields)
    : Type 0 where
  pub performed : Performed plan (caller_of v.posts) call looks reply v w
  pub same_plan : w.plan ≡ v.plan
  pub posts : w.posts ≡ v.posts
  pub olds : w.olds ≡ []
  pub at_desk : IsAtDesk plan (caller_of v.posts) w.seen desk
  pub moment : desk.here.moment ≡ call.moment
