use Rattle.std.proofs.Common.{[]}
use Rattle.desk_tests.proofs.Lines.{opens}
use Rattle.desk_tests.proofs.line.beside.Goals as goal

pub returns-in-Ok : goal.returns-in-Ok
returns-in-Ok c = (
  [],
  opens c.args.plan.now c.args.desks.items c.args.words.items c.args.boxes c.in-Ok.plain
      c.requires.boxes c.requires.desks c.requires.words c.in-Ok.ensures.opening c.in-Ok.ensures.line,
)
