use Rattle.std.proofs.Common.{◌≡◌, ◌++◌}
use Rattle.line_scene.specs.Sections.{sections_shown}
use Rattle.line_scene.proofs.section_shown.add_sections.Given as goal

abbrev pub invariant-loop-pair : goal.invariant-loop-pair
invariant-loop-pair l =
    l.shown.items ≡ l.fn.shown.items ++ sections_shown l.plan l.line.line l.pair
