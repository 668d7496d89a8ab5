use Rattle.std.proofs.lemmas.Option.{slice_get-get_or}
use Rattle.line_races.proofs.Scanning.{nearest_scanned, scanned_more}
use Rattle.line_races.proofs.scan.Scan.pass.Goals as goal

pub returns-clause-nearest : goal.returns-clause-nearest
returns-clause-nearest c =
    nearest_scanned c.args.plan.now c.args.entries.now c.args.at _ c.args.self.now c.look-first.new.self
    c.look-first.result (slice_get-get_or c.args.entries.now c.args.at _ c.requires.within)
    c.requires.scanned c.look-first.ensures

pub returns-clause-scanned : goal.returns-clause-scanned
returns-clause-scanned c =
    scanned_more c.args.plan.now c.args.entries.now c.args.at _ c.args.self.now c.look-first.new.self c.leave.new.self
    c.look-first.result (slice_get-get_or c.args.entries.now c.args.at _ c.requires.within)
    c.requires.scanned c.look-first.ensures c.in_ok-leave.ensures
