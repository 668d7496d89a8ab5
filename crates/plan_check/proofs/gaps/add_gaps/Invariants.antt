use Rattle.std.proofs.Common.{◌≡◌, ◌-◌, ◌++◌, length}
use Rattle.std.specs.List.{flat_map}
use Rattle.line_plan.specs.Sections.{sections_from, sections_of}
use Rattle.plan_check.specs.Found.{section_findings}
use Rattle.plan_check.proofs.gaps.add_gaps.Given as goal

abbrev pub invariant-loop-rear : goal.invariant-loop-rear
invariant-loop-rear l =
    l.found.items ++ flat_map (section_findings l.plan) (sections_from l.rear (length l.plan.boxes - 1 - l.rear))
    ≡ l.fn.found.items ++ flat_map (section_findings l.plan) (sections_of l.plan)
