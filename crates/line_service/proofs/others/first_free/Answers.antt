use Rattle.std.proofs.Common.{◌∙◌, sym, arith}
use Rattle.line_law.specs.History.{state_of}
use Rattle.line_rehearsal.proofs.Free.{none_free}
use Rattle.line_service.proofs.others.first_free.Goals as goal

pub returns : goal.returns
returns c =
    sym (none_free c.args.plan.now (state_of c.args.plan.now c.args.entries.now) c.args.work.now.roster
    c.loop-box_no.box_no (omega arith))
    ∙ c.loop-box_no.invariant
