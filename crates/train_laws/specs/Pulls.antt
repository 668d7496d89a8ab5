-- Pulls of a section's starter under Line Clear.
use Rattle.std.specs.Prelude.{◌≡◌, ℕ, Bool, false, IsTrue}
use Rattle.line_plan.specs.Frames.{is_way, signal_of}
use Rattle.line_plan.specs.Plans.{PlanFields}
use Rattle.line_plan.specs.declared.section.Section.{Section}
use Rattle.line_law.specs.declared.call.Act.{Act}
use Rattle.line_law.specs.declared.call.Act.TheVariants as acts
use Rattle.line_law.specs.declared.call.Entry.{Entry}
use Rattle.line_law.specs.declared.call.Reply.TheVariants.{PulledUnder}
use Rattle.line_law.specs.Law.{box_plan_of}
use Rattle.line_law.specs.Levers.{starter_way}

-- a pull of the starter of the section
abbrev pub is_starter_pull : PlanFields → Section → Act → Bool
is_starter_pull plan section (acts.Pull lever) =
    is_way section.way (starter_way (signal_of (box_plan_of plan section.rear) lever))
is_starter_pull plan section act = false

-- the starter of the section was pulled under the Line Clear of its instrument's v-th turn
pub record PullsUnder (plan : PlanFields) (section : Section) (v : ℕ) (e : Entry) : Type 0 where
  pub box : e.box_no ≡ section.rear
  pub starter : IsTrue (is_starter_pull plan section e.call.act)
  pub reply : e.reply ≡ PulledUnder v
