use Rattle.std.proofs.Common.{sym, ◌∙◌, arith}
use Rattle.line_journal.proofs.KeepersIn.{cut_one}
use Rattle.line_journal.proofs.keeper.Keepers.cut.Goals as goal

pub loop-keeper-preserved : goal.loop-keeper-preserved
loop-keeper-preserved c =
    cut_one c.args.most c.args.self.now c.loop-keeper.self-inside.list.items c.deref.result.now
    c.pop-keeper.new.self.items c.in-Some.keeper c.loop-keeper.self-inside.list.len c.loop-keeper.invariant
    c.deref.ensures.value c.loop-keeper.self-inside.list.ok.0 (sym c.last.ensures.value ∙ sym c.in-Some.ensures)
    (omega (arith, c.if-keeper-most.false)) c.pop-keeper.ensures.rest
