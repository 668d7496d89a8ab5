use Rattle.std.proofs.Common.{sym}
use Rattle.line_plan.specs.Frames.{entered_by}
use Rattle.train_moves.proofs.Standings.{first_stands, none_stands}
use Rattle.train_moves.proofs.moves.move_test.Goals as goal

pub returns-in-Some-first_in_way-clause-told : goal.returns-in-Some-first_in_way-clause-told
returns-in-Some-first_in_way-clause-told c =
    first_stands c.args.tracks.now (entered_by c.args.signal.now) c.in-Some-first_in_way.there
    (sym c.in-Some-first_in_way.ensures)

pub returns-in-None-clause-told : goal.returns-in-None-clause-told
returns-in-None-clause-told c =
    (sym c.in-Some.ensures, none_stands c.args.tracks.now (entered_by c.args.signal.now) (sym c.in-None.ensures))
