use Rattle.std.proofs.Common.{◌∙◌, sym, arith}
use Rattle.line_rehearsal.proofs.Free.{none_free}
use Rattle.line_rehearsal.proofs.search.first_free.Goals as goal
use Rattle.serial_working.proofs.LeftOf.{roster-length}
use Rattle.serial_working.specs.Rosters.{calls_of_scripts, left_of}

pub returns : goal.returns
returns c =
    let boxes = roster-length c.args.scripts.now c.args.made.now in
    sym (none_free c.args.plan.now c.args.line.now.line
    (left_of (calls_of_scripts c.args.scripts.now) c.args.made.now) c.loop-box_no.box_no (omega (arith, boxes)))
    ∙ c.loop-box_no.invariant
