use Rattle.std.proofs.Common.{◌≡◌, ◌-◌}
use Rattle.line_service.specs.Scripts.{script_among, script_in}
use Rattle.line_service.proofs.scripts.script_in.Given as goal

abbrev pub invariant-loop-box_no : goal.invariant-loop-box_no
invariant-loop-box_no l = script_in l.plan l.text ≡ script_among l.plan (l.last - l.box_no) l.box_no l.text
