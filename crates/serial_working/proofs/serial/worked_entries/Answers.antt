use Rattle.std.proofs.Common.{◌∙◌, sym}
use Rattle.serial_working.proofs.SerialTurns.{no_more}
use Rattle.serial_working.proofs.serial.worked_entries.Goals as goal

pub returns : goal.returns
returns g c =
    no_more c.args.plan.now _ c.loop-box_no.plain.line c.loop-box_no.roster _ c.loop-box_no.invariant.told
    (sym c.next_box.ensures ∙ c.in_default.is)
