-- How many trains a section holds, as the trains of each pair of neighbours are counted.
use Rattle.std.specs.Prelude.{◌≡◌, ℕ, ◌+◌, ◌-◌, ◌<◌, ◌≤◌, List, length}
use Rattle.block_words.specs.declared.Way.{Way}
use Rattle.block_words.specs.declared.Way.TheVariants.{Up, Down}
use Rattle.line_plan.specs.Plans.{PlanFields}
use Rattle.line_law.specs.declared.ways.ByWay.{ByWay}
use Rattle.line_law.specs.Sections.{held_by}
use Rattle.line_law.specs.States.{LineState}
use Rattle.line_law.specs.Ways.{of_way}
use Rattle.line_report.specs.Between.{section_between, trains_at}
use Rattle.line_report.specs.declared.sections.HeldTrains.{HeldTrains}
use Rattle.reg_audit.specs.declared.deed.Deed.{Deed}
use Rattle.reg_audit.specs.declared.deed.Deed.TheVariants as deeds

-- the pair of neighbours between which an incoming line of box b lies
abbrev pub pair_into : ℕ → Way → ℕ
pair_into b Up = b
pair_into b Down = b - 1

-- how many trains the section of a turned line holds
abbrev pub held_told : List (ByWay HeldTrains) → ℕ → Deed → ℕ
held_told trains b (deeds.Turned way position) = (of_way (trains_at trains (pair_into b way)) way).now
held_told trains b deed = 0

-- the trains of each pair in a state of the line: what each section holds, and no more than there were entries
pub record AreHeld (plan : PlanFields) (state : LineState) (count : ℕ) (trains : List (ByWay HeldTrains)) : Type 0 where
  pub each : length trains + 1 ≡ length plan.boxes
  pub held : (p : ℕ) (way : Way) → p < length trains
      → (of_way (trains_at trains p) way).now ≡ held_by plan state (section_between p way)
  pub few : (p : ℕ) (way : Way) → p < length trains → (of_way (trains_at trains p) way).now ≤ count
