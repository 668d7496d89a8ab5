-- What each kind of finding says of a plan.
use Rattle.std.specs.Prelude.{◌≡◌, ◌≢◌, ◌↔◌, ℕ, ◌-◌, ◌<◌, ◌≤◌, Contains, IsSome, IsNone, List, [], false, length}
use Rattle.std.specs.Prelude.{slice_index_or}
use Rattle.locking_table.specs.declared.row.Row.{Row}
use Rattle.locking_table.specs.declared.row.RowKind.TheVariants.{LocksNormal}
use Rattle.line_plan.specs.Frames.{BoxFields, frame_size}
use Rattle.line_plan.specs.Plans.{PlanFields, box_at}
use Rattle.line_plan.specs.Sections.{IsSection, section_berth, section_starter}
use Rattle.line_plan.specs.declared.frame.Kind.{Kind}
use Rattle.line_plan.specs.declared.frame.Kind.TheVariants.{Spare}
use Rattle.line_plan.specs.declared.section.Section.{Section}
use Rattle.plan_check.specs.declared.finding.Finding.{Finding}
use Rattle.plan_check.specs.declared.finding.Finding.TheVariants.{LeverWithoutRow, NoBerth, NoStarter, RowsClash}
use Rattle.plan_check.specs.Clashes.{Clash}
use Rattle.plan_check.specs.Found.{findings_of, stands_in}

-- no row
abbrev pub no_row : Row
no_row = record { subject = 0; kind = LocksNormal; object = 0; when = [] }

-- the row of a box with this number: rows are numbered from 1
abbrev pub row_at : BoxFields → ℕ → Row
row_at box_plan number = slice_index_or box_plan.rows (number - 1) no_row

-- two rows of box b clash in its frame, and the lever is their subject
pub record RowsClashAt (plan : PlanFields) (b first second lever : ℕ) : Type 0 where
  pub box_no : b < length plan.boxes
  pub low : 1 ≤ first
  pub order : first < second
  pub high : second ≤ length (box_at plan.boxes b).rows
  pub clash : Clash (frame_size (box_at plan.boxes b).levers) (row_at (box_at plan.boxes b) first)
      (row_at (box_at plan.boxes b) second)
  pub subject : (row_at (box_at plan.boxes b) first).subject ≡ lever

-- the frame of box b has the lever, it isn't spare, and no row names it
pub record HasNoRow (plan : PlanFields) (b lever : ℕ) : Type 0 where
  pub box_no : b < length plan.boxes
  pub kind : Kind
  pub there : Contains (box_at plan.boxes b).levers (record { number = lever; kind = kind })
  pub works : kind ≢ Spare
  pub row : stands_in (box_at plan.boxes b).rows lever ≡ false

-- a section of the line has a starter and no berth
pub record LacksBerth (plan : PlanFields) (section : Section) : Type 0 where
  pub is : IsSection plan section
  pub starter : IsSome (section_starter plan section)
  pub berth : IsNone (section_berth plan section)

-- a section of the line has a berth and no starter
pub record LacksStarter (plan : PlanFields) (section : Section) : Type 0 where
  pub is : IsSection plan section
  pub starter : IsNone (section_starter plan section)
  pub berth : IsSome (section_berth plan section)

-- Two rows of a box are found exactly where they clash, a lever exactly where it isn't spare and no row names it, a
-- section exactly where it has a starter and no berth, or a berth and no starter; and they stand in the stated order.
pub record AreFindings (plan : PlanFields) (findings : List Finding) : Type 0 where
  pub order : findings ≡ findings_of plan
  pub clash : (b first second lever : ℕ) → Contains findings (RowsClash b first second lever)
      ↔ RowsClashAt plan b first second lever
  pub lever : (b lever : ℕ) → Contains findings (LeverWithoutRow b lever) ↔ HasNoRow plan b lever
  pub no_berth : (section : Section) → Contains findings (NoBerth section) ↔ LacksBerth plan section
  pub no_starter : (section : Section) → Contains findings (NoStarter section) ↔ LacksStarter plan section
