-- Lists of entries of which some are placed.
use Rattle.std.specs.Prelude.{ℕ, ◌+◌, ◌≡◌, ◌≢◌, ◌<◌, false, List}
use Rattle.std.specs.Prelude.{◌∷◌, Option, Some, None, length, sum_by, All}
use Rattle.line_plan.specs.Plans.{PlanFields}
use Rattle.line_law.specs.declared.call.Entry.{Entry}
use Rattle.line_law.specs.declared.state.PairState.{PairState}
use Rattle.line_law.specs.History.{IsLegal}
use Rattle.train_register.specs.Registers.{AreParts, RegisterFields}
use Rattle.line_journal.specs.Order.{Each, keeps_back, list_at}
use Rattle.word_laws.specs.Footprint.{way_at}
use Rattle.line_law.specs.Ways.{of_way}
use Rattle.line_journal.specs.Halves.{Fits, found_at, pair_for}
use Rattle.line_journal.specs.FitTests.{HasSpace}

-- how many entries are left
abbrev pub count_left : List (List Entry) → ℕ
count_left lists = sum_by (λ list. length list) lists

-- an entry is of box b of the plan's line, and of a pair of it
pub record IsOfBox (plan : PlanFields) (b : ℕ) (e : Entry) : Type 0 where
  pub own : e.box_no ≡ b
  pub box : e.box_no < length plan.boxes
  pub pair : pair_for plan e + 1 < length plan.boxes

-- each entry that is left is of its box
abbrev pub AreOfBoxes : PlanFields → List (List Entry) → Type 0
AreOfBoxes plan lists = (b : ℕ) → All (IsOfBox plan b) (list_at lists b)

-- an entry that no remaining one of another box keeps back
abbrev pub IsFree : PlanFields → List (List Entry) → ℕ → Entry → Type 0
IsFree plan lists b e = (c : ℕ) → c ≢ b → Each (λ x. keeps_back plan e x ≡ false) (list_at lists c)

-- the next entry of box b fits its word, and nothing keeps it back
pub record IsBoxFree (plan : PlanFields) (pairs : List PairState) (lists : List (List Entry)) (b : ℕ) : Type 0 where
  pub entry : Entry
  pub rest : List Entry
  pub next : list_at lists b ≡ entry ∷ rest
  pub fits : Fits plan pairs entry
  pub free : IsFree plan lists b entry

-- the lowest box whose next entry is so, if there is one
abbrev pub IsLowestFree : PlanFields → List PairState → List (List Entry) → Option ℕ → Type 0
IsLowestFree plan pairs lists None = (b : ℕ) → IsBoxFree plan pairs lists b → ⊥
IsLowestFree plan pairs lists (Some b) =
    IsBoxFree plan pairs lists b × ((c : ℕ) → c < b → IsBoxFree plan pairs lists c → ⊥)

-- the registers of a line that has ended: they are the parts of one legal history
pub record HaveEnded (plan : PlanFields) (registers : List RegisterFields) : Type 0 where
  pub history : List Entry
  pub legal : IsLegal plan history
  pub parts : AreParts plan history registers

-- the next entry of box b finds the space that it needs
abbrev pub HasSpaceFor : PlanFields → List PairState → List (List Entry) → ℕ → Type 0
HasSpaceFor plan pairs lists b = (e : Entry) (rest : List Entry) → list_at lists b ≡ e ∷ rest
    → HasSpace e.reply (of_way (found_at pairs (pair_for plan e)).lines (way_at plan e.box_no e.call))
