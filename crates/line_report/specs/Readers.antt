-- A journal's text as far as it is read.
use Rattle.std.specs.Prelude.{◌≡◌, ℕ, ◌+◌, ◌<◌, ◌^◌, List, length, replicate, slice_set}
use Rattle.line_plan.specs.Plans.{PlanFields}
use Rattle.line_law.specs.declared.call.Entry.{Entry}

-- the plan for which it is read, the last moment of each box, and how many entries are read
pub record SoFar : Type 0 where
  pub plan : PlanFields
  pub moments : List ℕ
  pub count : ℕ

-- no entry is read yet: no moment of a day is below the first
abbrev pub start : PlanFields → SoFar
start plan = record { plan = plan; moments = replicate (length plan.boxes) 0; count = 0 }

-- an entry more, whose moment is the last one of its box
abbrev pub entry_onto : SoFar → Entry → SoFar
entry_onto so_far e =
    record so_far { moments = slice_set so_far.moments e.box_no e.call.moment; count = so_far.count + 1 }

-- what is read, and the bytes that are left
pub record ReaderFields : Type 0 where
  pub so_far : SoFar
  pub rest : List ℕ

-- each box of the plan has its last moment, and the lines can be counted
pub record IsReader (reader : ReaderFields) : Type 0 where
  pub each : length reader.so_far.moments ≡ length reader.so_far.plan.boxes
  pub few : reader.so_far.count + 2 + length reader.rest < 2 ^ 32
