-- The order of the journal: the next entry is that of the lowest-numbered ready box. A box is ready where the law gives
-- the reply of its next entry, and no remaining entry of the other box on the same word keeps that one back.
use Rattle.std.specs.Prelude.{ℕ, ◌+◌, ◌≡◌, ◌≢◌, ◌<◌, ◌==◌, ◌&&◌, nat_lt, Bool, true}
use Rattle.std.specs.Prelude.{false, List, [], ◌∷◌, slice_index_or, slice_set, drop, length, map, if◌then◌else◌}
use Rattle.std.specs.List.{range_with_len}
use Rattle.line_plan.specs.Frames.{same_way}
use Rattle.line_plan.specs.Plans.{PlanFields}
use Rattle.line_law.specs.declared.call.Entry.{Entry}
use Rattle.line_law.specs.declared.call.Reply.{Reply}
use Rattle.line_law.specs.declared.call.Reply.TheVariants.{Rung, BellBusy, Heard, Silent}
use Rattle.line_law.specs.declared.call.Reply.TheVariants.{BellNotYet, Turned, Seen, BlockNotYet}
use Rattle.line_law.specs.declared.call.Reply.TheVariants.{PulledUnder, HeldByInstrument, Entered, SectionFull}
use Rattle.line_law.specs.declared.call.Reply.TheVariants.{TrainNotYet, Berthed, NoTrainAt, Cleared}
use Rattle.word_laws.specs.Footprint.{Kind, BellWord, BlockWord, PlainLineWord, way_at}
use Rattle.line_law.specs.History.{IsLegal, after_entry, part_of}
use Rattle.line_law.specs.Law.{pair_of, step}
use Rattle.line_law.specs.States.{LineState, opening_state}
use Rattle.word_laws.specs.TellsWord.{kind_told}
use Rattle.train_register.specs.Registers.{AreParts, RegisterFields}

-- ---- what keeps an entry back

-- an entry with the first reply is kept back by a remaining one of the other box on its word with the second
abbrev pub kept_back : Reply → Reply → Bool
kept_back (Rung k) (Silent n) = n + 1 == k
kept_back (Rung k) (BellNotYet shown n) = n + 1 == k
kept_back (Heard code k) (BellBusy held n) = n == k
kept_back (Turned v) (PulledUnder n) = nat_lt n v
kept_back (Turned v) (HeldByInstrument way shown spent n) = nat_lt n v
kept_back (Turned v) (Seen n) = nat_lt n v
kept_back (Turned v) (BlockNotYet shown n) = nat_lt n v
kept_back (Entered train k) (NoTrainAt j) = j == k
kept_back (Entered train k) (TrainNotYet j) = j == k
kept_back (Berthed train j) (SectionFull k) = k == j + 4
kept_back (Cleared train j) (SectionFull k) = k == j + 4
kept_back reply other = false

-- two kinds of word are one, and no tally
abbrev pub same_kind : Kind → Kind → Bool
same_kind BellWord BellWord = true
same_kind BlockWord BlockWord = true
same_kind PlainLineWord PlainLineWord = true
same_kind kind other = false

-- two entries were decided on one shared word
abbrev pub on_one_word : PlanFields → Entry → Entry → Bool
on_one_word plan e x =
    same_kind (kind_told e.reply) (kind_told x.reply)
    && (pair_of plan e.box_no e.call == pair_of plan x.box_no x.call
    && same_way (way_at plan e.box_no e.call) (way_at plan x.box_no x.call))

-- an entry is kept back by another of another box
abbrev pub keeps_back : PlanFields → Entry → Entry → Bool
keeps_back plan e x = on_one_word plan e x && kept_back e.reply x.reply

-- ---- what remains

-- so of each entry of a list
abbrev pub Each : (Entry → Type 0) → List Entry → Type 0
Each P [] = Unit {0}
Each P (x ∷ xs) = P x × Each P xs

-- the entries of box b that remain
abbrev pub list_at : List (List Entry) → ℕ → List Entry
list_at lists b = slice_index_or lists b []

-- the entries that remain after so many of box b are placed
abbrev pub placed_some : List (List Entry) → ℕ → ℕ → List (List Entry)
placed_some lists b n = slice_set lists b (drop n (list_at lists b))

-- the entries that remain after the next of box b is placed
abbrev pub placed : List (List Entry) → ℕ → List (List Entry)
placed lists b = slice_set lists b (drop 1 (list_at lists b))

-- a history without the first entry of a box
abbrev pub without : ℕ → List Entry → List Entry
without b [] = []
without b (x ∷ xs) = if x.box_no == b then xs else x ∷ without b xs

-- ---- the order

-- an entry may be placed: the law gives its reply here, and no remaining entry of another box keeps it back
pub record CanBePlaced (plan : PlanFields) (state : LineState) (lists : List (List Entry)) (e : Entry) : Type 0 where
  pub told : e.reply ≡ (step plan state e.box_no e.call).reply
  pub free : (c : ℕ) → c ≢ e.box_no → Each (λ x. keeps_back plan e x ≡ false) (list_at lists c)

-- a box is ready: its next entry may be placed
pub record IsBoxReady (plan : PlanFields) (state : LineState) (lists : List (List Entry)) (b : ℕ) (e : Entry)
    (rest : List Entry) : Type 0 where
  pub next : list_at lists b ≡ e ∷ rest
  pub ready : CanBePlaced plan state lists e

-- the next entry is that of the lowest-numbered ready box
pub record IsNext (plan : PlanFields) (state : LineState) (lists : List (List Entry)) (e : Entry) : Type 0 where
  pub rest : List Entry
  pub here : IsBoxReady plan state lists e.box_no e rest
  pub lowest : (c : ℕ) → c < e.box_no → (x : Entry) (later : List Entry) → IsBoxReady plan state lists c x later → ⊥

-- these entries are the order of what remains from a state on
abbrev pub IsOrderFrom : PlanFields → LineState → List (List Entry) → List Entry → Type 0
IsOrderFrom plan state lists [] = (b : ℕ) → list_at lists b ≡ []
IsOrderFrom plan state lists (e ∷ es) =
    IsNext plan state lists e
    × IsOrderFrom plan (after_entry plan state e) (placed lists e.box_no) es

-- the entries of registers, in their order
abbrev pub lists_of : List RegisterFields → List (List Entry)
lists_of registers = map (λ register. register.entries) registers

-- the parts of a history, one for each box of a plan, in order
abbrev pub parts_of : PlanFields → List Entry → List (List Entry)
parts_of plan es = map (λ b. part_of b es) (range_with_len 0 (length plan.boxes))

-- a journal stands in the order of its own parts
abbrev pub IsInOrder : PlanFields → List Entry → Type 0
IsInOrder plan es = IsOrderFrom plan (opening_state plan) (parts_of plan es) es

-- a journal is the order of the entries of a line's registers
abbrev pub IsOrder : PlanFields → List RegisterFields → List Entry → Type 0
IsOrder plan registers es = IsOrderFrom plan (opening_state plan) (lists_of registers) es

-- What comes of the merge: the journal is the order of the entries of a line's registers, and a legal history with
-- these registers as its parts; so it stands in the order of its own parts, and has as many entries as any such
-- history.
pub record IsMergeOf (plan : PlanFields) (registers : List RegisterFields) (journal : List Entry) : Type 0 where
  pub order : IsOrder plan registers journal
  pub legal : IsLegal plan journal
  pub parts : AreParts plan journal registers
  pub in_order : IsInOrder plan journal
  pub count : (history : List Entry) → IsLegal plan history → AreParts plan history registers
      → length journal ≡ length history
