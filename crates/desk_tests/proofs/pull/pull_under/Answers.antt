use Rattle.std.proofs.Common.{subst, sym}
use Rattle.box_desk.specs.Desks.{WordMeets}
use Rattle.desk_tests.proofs.Pulls.{pull_meets}
use Rattle.desk_tests.proofs.pull.pull_under.Goals as goal

pub finish-requires-clause-asked : goal.finish-requires-clause-asked
finish-requires-clause-asked c =
    let r = c.requires.known in
    let plan = r.0 in
    let b = r.1 in
    let met = pull_meets plan b c.args.call.now c.args.desk.now c.prepare.new.self c.prepare.result c.in-NeedsWord.ask
    _ r.2 r.3 (c.prepare.ensures plan b r.2) c.in-NeedsWord.is c.in-Pull.is
    (record { turns = c.args.turns; position = c.args.shown; spent = c.args.spent }) c.requires.turns in
    let same = sym c.block_word-met.ensures.word in
    (plan, b, met.0, subst (WordMeets plan b c.prepare.new.self c.in-NeedsWord.ask) same met.1)
