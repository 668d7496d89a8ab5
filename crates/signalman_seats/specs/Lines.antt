-- A line with its men, as it opens and as it ends.
use Rattle.std.specs.Prelude.{◌≡◌, ◌≢◌, ℕ, ◌<◌, ◌≤◌, List, length, slice_index, slice_index_or, Some}
use mathlib.Core.List.{IsPrefix}
use Rattle.atomic_table.specs.Seated.{TableId}
use Rattle.line_plan.specs.Plans.{PlanFields}
use Rattle.line_law.specs.declared.call.Entry.{Entry}
use Rattle.line_law.specs.History.{IsLegal}
use Rattle.train_register.specs.Registers.{AreParts, RegisterFields, register_at}
use Rattle.instrument_rule.specs.Posts.{view_of}
use Rattle.signalman_seats.specs.declared.opening.OpenError.{OpenError}
use Rattle.signalman_seats.specs.declared.opening.OpenError.TheVariants.{NoMemory, PostTaken}
use Rattle.signalman_seats.specs.Men.{IsFresh, IsOf, Man}

-- ---- opening

-- a man for each of these boxes, in order, who has seen and done nothing; each has the room that is asked for him
pub record AreFresh (table_id : TableId) (plan : PlanFields) (rooms : List ℕ) (men : List Man) : Type 0 where
  pub each : length men ≡ length rooms
  pub fresh : (b : ℕ) (d : Man) → b < length men
      → IsFresh table_id plan b (slice_index rooms b) (slice_index_or men b d)

-- The box is one of the line, and its post wasn't drawn: the post that drew found so many posts drawn, which is not the
-- number of the box and no more than the line has.
abbrev pub WasTaken : PlanFields → OpenError → Type 0
WasTaken plan (PostTaken box_no found post) =
    (box_no < length plan.boxes) × (found ≢ box_no) × (found ≤ length plan.boxes)
    × ((view_of post).drawn ≡ Some found)
WasTaken plan NoMemory = Unit {0}

-- ---- the end

-- all men of a line, in the order of the boxes
pub record AreMen (table_id : TableId) (plan : PlanFields) (men : List Man) : Type 0 where
  pub each : length men ≡ length plan.boxes
  pub of_line : (b : ℕ) (d : Man) → b < length men → IsOf table_id plan (slice_index_or men b d)
  pub box_no : (b : ℕ) (d : Man) → b < length men → (slice_index_or men b d).box_no ≡ b

-- One legal history of the line: what each man had seen is a beginning of it, and each register is its box's part of it
-- and has its man's entries. No man has glanced, so that all his looks were those of his awaits.
pub record Closed (plan : PlanFields) (men : List Man) (registers : List RegisterFields) : Type 0 where
  pub log : List Entry
  pub legal : IsLegal plan log
  pub seen : (b : ℕ) (d : Man) → b < length men → IsPrefix (slice_index_or men b d).view.seen log
  pub parts : AreParts plan log registers
  pub entries : (b : ℕ) (d : Man) → b < length men
      → (register_at registers b).entries ≡ (slice_index_or men b d).entries
  pub glances : (b : ℕ) (d : Man) → b < length men → (slice_index_or men b d).view.glances ≡ 0
