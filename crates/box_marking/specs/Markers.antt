-- A marker who goes on entry by entry.
use Rattle.std.specs.Prelude.{◌≡◌, ℕ, ◌+◌, ◌<◌, ◌^◌, Bool, false, List, [], ◌∷◌, ◌++◌, length, replicate, Option}
use Rattle.std.specs.Prelude.{slice_index_or}
use Rattle.line_plan.specs.Plans.{PlanFields}
use Rattle.line_law.specs.declared.call.Entry.{Entry}
use Rattle.line_law.specs.declared.ways.ByWay.{ByWay}
use Rattle.line_law.specs.History.{IsLegal, state_of}
use Rattle.line_law.specs.Lines.{IsLineOf, PlainState}
use Rattle.box_marking.specs.declared.clock.SideClock.{SideClock}
use Rattle.box_marking.specs.declared.marking.Marking.{Marking}
use Rattle.box_marking.specs.declared.page.SidePage.{SidePage}
use Rattle.box_marking.specs.Behind.{clocks_of, pages_of}
use Rattle.box_marking.specs.Clocks.{clocks_at}
use Rattle.box_marking.specs.Markings.{found_of, made_of, struck}
use Rattle.box_marking.specs.Pages.{opening_pages}

-- the pages and the clocks of each box, the line as it stands, how many entries were heard, which of all are made good,
-- and what may be marked
pub record MarkerFields : Type 0 where
  pub pages : List (ByWay SidePage)
  pub clocks : List (ByWay SideClock)
  pub line : PlainState
  pub count : ℕ
  pub done : List Bool
  pub found : List Marking

-- the pages of box b
abbrev pub pages_at : List (ByWay SidePage) → ℕ → ByWay SidePage
pages_at pages b = slice_index_or pages b opening_pages

-- what a marker has after these entries of a legal history, where there are so many in all
pub record HasMarked (plan : PlanFields) (within : Option ℕ) (all : ℕ) (es : List Entry)
    (marker : MarkerFields) : Type 0 where
  pub each : length marker.pages ≡ length plan.boxes
  pub pages : (b : ℕ) → b < length plan.boxes → pages_at marker.pages b ≡ pages_of plan b es
  pub clocked : length marker.clocks ≡ length plan.boxes
  pub clocks : (b : ℕ) → clocks_at marker.clocks b ≡ clocks_of plan b es
  pub line : IsLineOf plan marker.line
  pub state : marker.line.line ≡ state_of plan es
  pub calls : marker.line.calls ≡ length es
  pub count : marker.count ≡ length es
  pub done : marker.done ≡ struck (made_of plan es) (replicate (all + 1) false)
  pub found : marker.found ≡ found_of plan within es

-- the entry comes behind those of a legal history that were heard, which with it is one again
pub record ComesNext (plan : PlanFields) (within : Option ℕ) (all : ℕ) (marker : MarkerFields)
    (e : Entry) : Type 0 where
  pub es : List Entry
  pub has : HasMarked plan within all es marker
  pub legal : IsLegal plan (es ++ e ∷ [])
  pub few : length es + 1 < 2 ^ 32
