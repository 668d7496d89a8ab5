use Rattle.instrument_rule.specs.Posts.{view_of}
use Rattle.signalman_seats.proofs.Fresh.{new_man}
use Rattle.signalman_seats.proofs.man.Signalman.at_post.Goals as goal

pub invariant_of-result : goal.invariant_of-result
invariant_of-result c =
    let d = c.requires.drawn in
    new_man d.0 c.args.box_no d.1 (view_of c.args.post) c.args.fittings.desk c.args.fittings.register
    c.args.fittings.notes d.2 d.3 d.4 d.5
