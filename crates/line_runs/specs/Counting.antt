-- What is counted of a journal, and how it is told.
use Rattle.std.specs.Prelude.{◌≡◌, ℕ, List}
use Rattle.line_plan.specs.Plans.{PlanFields}
use Rattle.line_law.specs.declared.call.Entry.{Entry}
use Rattle.line_law.specs.declared.ways.ByWay.{ByWay}
use Rattle.line_report.specs.Between.{AreMost}
use Rattle.line_report.specs.Refusals.{refused_count}
use Rattle.line_report.specs.Sections.{sections_text}
use Rattle.line_report.specs.declared.sections.HeldTrains.{HeldTrains}
use Rattle.line_runs.specs.Copying.{refusals_heading}

-- so many calls of a journal were refused, and these are the most trains that the sections of each pair held
pub record AreCounts (plan : PlanFields) (es : List Entry) (refused : ℕ) (trains : List (ByWay HeldTrains))
    : Type 0 where
  pub refused_is : refused ≡ refused_count es
  pub most : AreMost plan es trains

-- these texts stand before the lines of the refused calls, and behind them
pub record AreCountsTold (plan : PlanFields) (es : List Entry) (heading sections : List ℕ) : Type 0 where
  pub before : heading ≡ refusals_heading (refused_count es)
  pub behind : sections ≡ sections_text plan es
