-- Of one box's remaining entries the first of a kind on a word decides for all of them whether they keep an entry back.
use Rattle.std.specs.Prelude.{ℕ, ◌+◌, ◌-◌, ◌*◌, ◌==◌, ◌≡◌, ◌<◌, ◌≤◌, ◌⊎◌, Bool, true, false, nat_lt, if◌then◌else◌}
use Rattle.std.specs.Prelude.{All, List, [], ◌∷◌, ◌++◌, Option, Some, None, length, drop, slice_index_or, slice_set}
use Rattle.std.specs.List.{find}
use Rattle.line_plan.specs.Plans.{PlanFields}
use Rattle.line_law.specs.declared.call.Entry.{Entry}
use Rattle.line_law.specs.declared.call.Reply.{Reply}
use Rattle.line_law.specs.declared.call.Reply.TheVariants.{Rung, BellBusy, Heard, Silent}
use Rattle.line_law.specs.declared.call.Reply.TheVariants.{BellNotYet, Turned, Seen, BlockNotYet}
use Rattle.line_law.specs.declared.call.Reply.TheVariants.{PulledUnder, HeldByInstrument, Entered, SectionFull}
use Rattle.line_law.specs.declared.call.Reply.TheVariants.{TrainNotYet, Berthed, NoTrainAt, Cleared}
use Rattle.word_laws.specs.Footprint.{way_at}
use Rattle.word_laws.specs.TellsWord.{kind_told}
use Rattle.line_law.specs.Replies.{way_number}
use Rattle.line_law.specs.declared.state.PairState.{PairState}
use Rattle.line_journal.specs.Order.{keeps_back, list_at, placed}
use Rattle.line_journal.specs.Halves.{Fits, made, pair_for}
use Rattle.line_journal.specs.declared.keeper.Keeper.{Keeper}
use Rattle.line_journal.specs.FitTests.{is_word}

-- a row of the table of keepers: the kind of a reply that may keep others back, and the count that it tells
pub record KeeperRow : Type 0 where
  pub kind : ℕ
  pub count : ℕ

-- the table: a busy bell, or one that has nothing, by the codes rung; an instrument at its rear, by its turns; a full
-- section, by the trains sent; a train that isn't there, by those taken; 0 for any other reply
abbrev pub keeper_row : Reply → KeeperRow
keeper_row (BellBusy code k) = record { kind = 1; count = k }
keeper_row (Silent k) = record { kind = 2; count = k }
keeper_row (BellNotYet shown k) = record { kind = 2; count = k }
keeper_row (PulledUnder v) = record { kind = 3; count = v }
keeper_row (HeldByInstrument way shown spent v) = record { kind = 3; count = v }
keeper_row (Seen v) = record { kind = 3; count = v }
keeper_row (BlockNotYet shown v) = record { kind = 3; count = v }
keeper_row (SectionFull k) = record { kind = 4; count = k }
keeper_row (NoTrainAt j) = record { kind = 5; count = j }
keeper_row (TrainNotYet j) = record { kind = 5; count = j }
keeper_row reply = record { kind = 0; count = 0 }

-- the kind
abbrev pub keeper_no : Reply → ℕ
keeper_no reply = (keeper_row reply).kind

-- the count
abbrev pub keeper_count : Reply → ℕ
keeper_count reply = (keeper_row reply).count

-- the kind of reply that may keep this one back; 0 for none
abbrev pub kept_by : Reply → ℕ
kept_by (Heard code k) = 1
kept_by (Rung k) = 2
kept_by (Turned v) = 3
kept_by (Berthed train j) = 4
kept_by (Cleared train j) = 4
kept_by (Entered train k) = 5
kept_by reply = 0

-- a reply is kept back by one of the kind that may keep it back, where that tells this count
abbrev pub kept_at : Reply → ℕ → Bool
kept_at (Heard code k) n = n == k
kept_at (Rung k) n = n + 1 == k
kept_at (Turned v) n = nat_lt n v
kept_at (Berthed train j) n = n == j + 4
kept_at (Cleared train j) n = n == j + 4
kept_at (Entered train k) n = n == k
kept_at reply n = false

-- a kind of reply, and the way of its word, as one number below 12
abbrev pub keeper_slot : PlanFields → Entry → ℕ
keeper_slot plan e = 2 * keeper_no e.reply + way_number (way_at plan e.box_no e.call)

-- the number of the entries that may keep this one back
abbrev pub kept_slot : PlanFields → Entry → ℕ
kept_slot plan e = 2 * kept_by e.reply + way_number (way_at plan e.box_no e.call)

-- the first of these entries that may keep an entry back
abbrev pub first_keeper : PlanFields → Entry → List Entry → Option Entry
first_keeper plan e list = find (λ x. keeper_slot plan x == kept_slot plan e) list

-- it doesn't keep the entry back, if there is one
abbrev pub LetsPass : PlanFields → Entry → Option Entry → Type 0
LetsPass plan e None = Unit {0}
LetsPass plan e (Some x) = keeps_back plan e x ≡ false

-- ---- what the merge keeps of them

-- how many numbers of keepers there are
abbrev pub slots : ℕ
slots = 12

-- of each of these that has the number: how many entries are left from it on, and its count; on top, at the end, stands
-- the first
abbrev pub keepers_in : PlanFields → ℕ → List Entry → List Keeper
keepers_in plan slot [] = []
keepers_in plan slot (x ∷ list) =
    if keeper_slot plan x == slot
    then keepers_in plan slot list ++ record { rest = length (x ∷ list); count = keeper_count x.reply } ∷ []
    else keepers_in plan slot list

-- these are those keepers, and on top of them some that are placed
pub record AreKeepersOf (plan : PlanFields) (slot : ℕ) (list : List Entry) (keepers : List Keeper) : Type 0 where
  pub over : List Keeper
  pub are : keepers ≡ keepers_in plan slot list ++ over
  pub above : All (λ keeper. length list < keeper.rest) over

-- so for the remaining entries of each box, and each number of replies that may keep others back
pub record AreKeepers (plan : PlanFields) (lists : List (List Entry)) (keepers : List (List Keeper)) : Type 0 where
  pub each : length keepers ≡ slots * length lists
  pub are : (b slot : ℕ) → b < length lists → 2 ≤ slot → slot < slots
      → AreKeepersOf plan slot (list_at lists b) (slice_index_or keepers (slots * b + slot) [])

-- the same of the boxes below this number
pub record AreKeepersBelow (plan : PlanFields) (lists : List (List Entry)) (n : ℕ)
    (keepers : List (List Keeper)) : Type 0 where
  pub each : length keepers ≡ slots * n
  pub are : (b slot : ℕ) → b < n → 2 ≤ slot → slot < slots
      → AreKeepersOf plan slot (list_at lists b) (slice_index_or keepers (slots * b + slot) [])

-- the same of one list, from a place on
pub record AreKeepersFrom (plan : PlanFields) (list : List Entry) (at : ℕ) (keepers : List (List Keeper)) : Type 0 where
  pub within : at ≤ length list
  pub each : length keepers ≡ slots
  pub are : (slot : ℕ) → 2 ≤ slot → slot < slots
      → slice_index_or keepers slot [] ≡ keepers_in plan slot (drop at list)

-- some of these keepers are gone from the top, all with more entries left than the most
pub record AreCut (most : ℕ) (old new : List Keeper) : Type 0 where
  pub over : List Keeper
  pub were : old ≡ new ++ over
  pub above : All (λ keeper. most < keeper.rest) over

-- the keeper on top, if there is one, has no more left
abbrev pub IsTop : ℕ → List Keeper → Option Keeper → Type 0
IsTop most keepers None = keepers ≡ []
IsTop most keepers (Some top) = (below : List Keeper) × (keepers ≡ below ++ top ∷ []) × (top.rest ≤ most)

-- the first of some entries that has the number, by what is told of it
pub record IsFirst (plan : PlanFields) (slot : ℕ) (list : List Entry) (keeper : Keeper) : Type 0 where
  pub entry : Entry
  pub found : find (λ x. keeper_slot plan x == slot) list ≡ Some entry
  pub some : 0 < keeper.rest
  pub few : keeper.rest ≤ length list
  pub at : (d : Entry) → slice_index_or list (length list - keeper.rest) d ≡ entry
  pub count : keeper_count entry.reply ≡ keeper.count

-- the same if there is one; if nothing is told, none has the number
abbrev pub TellsFirst : PlanFields → ℕ → List Entry → Option Keeper → Type 0
TellsFirst plan slot list None = find (λ x. keeper_slot plan x == slot) list ≡ None
TellsFirst plan slot list (Some keeper) = IsFirst plan slot list keeper

-- the first keepers of both neighbours let an entry of box b pass
abbrev pub IsPassed : PlanFields → List (List Entry) → ℕ → Entry → Type 0
IsPassed plan lists b e = (c : ℕ) → (c + 1 ≡ b) ⊎ (c ≡ b + 1) → LetsPass plan e (first_keeper plan e (list_at lists c))

-- the other box of a pair
abbrev pub other_box : ℕ → ℕ → ℕ
other_box b pair = if nat_lt pair b then pair else b + 1

-- the next entry of box b fits its word, and the first keepers of both neighbours let it pass
pub record IsOpen (plan : PlanFields) (pairs : List PairState) (lists : List (List Entry)) (b : ℕ) : Type 0 where
  pub entry : Entry
  pub rest : List Entry
  pub next : list_at lists b ≡ entry ∷ rest
  pub fits : Fits plan pairs entry
  pub passed : IsPassed plan lists b entry

-- of no box below this number
abbrev pub NoneOpenBelow : PlanFields → List PairState → List (List Entry) → ℕ → Type 0
NoneOpenBelow plan pairs lists n = (c : ℕ) → c < n → IsOpen plan pairs lists c → ⊥

-- the lowest box of which that is so, if there is one
abbrev pub IsLowestOpen : PlanFields → List PairState → List (List Entry) → Option ℕ → Type 0
IsLowestOpen plan pairs lists None = (b : ℕ) → IsOpen plan pairs lists b → ⊥
IsLowestOpen plan pairs lists (Some b) = IsOpen plan pairs lists b × ((c : ℕ) → c < b → IsOpen plan pairs lists c → ⊥)

-- the lowest box that an entry may open once it is placed: the lower one of the pair of its word, or where it was
-- decided on its box's tally that box alone
abbrev pub opens_from : PlanFields → Entry → ℕ
opens_from plan e = if is_word (kind_told e.reply) then pair_for plan e else e.box_no

-- of no box that is asleep
abbrev pub NoneAsleepOpen : PlanFields → List PairState → List (List Entry) → List Bool → Type 0
NoneAsleepOpen plan pairs lists awake = (c : ℕ) → slice_index_or awake c true ≡ false → IsOpen plan pairs lists c → ⊥

-- both boxes of a pair are awake
abbrev pub pair_woken : ℕ → List Bool → List Bool
pair_woken pair awake = slice_set (slice_set awake pair true) (pair + 1) true

-- the boxes that are awake once an entry is placed: those of the pair of its word too
abbrev pub woken : PlanFields → Entry → List Bool → List Bool
woken plan e awake = if is_word (kind_told e.reply) then pair_woken (pair_for plan e) awake else awake

-- the first box from a number on that is awake, if there is one
abbrev pub IsFirstAwake : List Bool → ℕ → Option ℕ → Type 0
IsFirstAwake awake from None = (c : ℕ) → from ≤ c → c < length awake → slice_index_or awake c true ≡ false
IsFirstAwake awake from (Some b) =
    (from ≤ b) × (b < length awake) × (slice_index_or awake b true ≡ true)
    × ((c : ℕ) → from ≤ c → c < b → slice_index_or awake c true ≡ false)

-- the next entry of box b was open, and is placed: what became of the pairs and of what remains
pub record IsPlacing (plan : PlanFields) (pairs : List PairState) (lists : List (List Entry)) (b : ℕ) (e : Entry)
    (after : List PairState) (left : List (List Entry)) : Type 0 where
  pub opens : IsOpen plan pairs lists b
  pub next : list_at lists b ≡ e ∷ drop 1 (list_at lists b)
  pub words : after ≡ made plan pairs e
  pub rest : left ≡ placed lists b

-- whether it was placed: if it wasn't, all is as it was, and the search goes on behind the box
abbrev pub IsPlaced : PlanFields → List PairState → List (List Entry) → ℕ → Bool → List PairState
    → List (List Entry) → ℕ → Type 0
IsPlaced plan pairs lists b false after left from = (after ≡ pairs) × (left ≡ lists) × (from ≡ b + 1)
IsPlaced plan pairs lists b true after left from = (e : Entry) × IsPlacing plan pairs lists b e after left
