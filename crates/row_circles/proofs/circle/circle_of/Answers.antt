use Rattle.std.proofs.Common.{◌≡◌, ◌-◌, Some, None, get_or}
use Rattle.row_circles.specs.Circles.{holder_at}
use Rattle.row_circles.proofs.ChainLemmas.{circle_is, followed_more, link_is, passed_here}
use Rattle.row_circles.proofs.circle.circle_of.Goals as goal

pub rows_from-requires : goal.rows_from-requires
rows_from-requires c =
    let closes : get_or c.rows.chain.passed.items (c.rows.chain.here - 1) None ≡ Some c.in-Some.from = cc in
    record {
      from = (passed_here c.args.walk.now c.args.holders.now c.args.lever c.in-Some.from c.rows.chain
          c.rows.invariant closes).within;
    }

pub returns-in-Some : goal.returns-in-Some
returns-in-Some c =
    let closes : get_or c.rows.chain.passed.items (c.rows.chain.here - 1) None ≡ Some c.in-Some.from = cc in
    circle_is c.args.walk.now c.args.holders.now c.args.lever c.in-Some.from c.rows.chain
    c.in_ok-rows_from.field-0.items c.rows.invariant closes c.in_ok-rows_from.ensures

pub rows-preserved : goal.rows-preserved
rows-preserved c =
    let known : holder_at c.args.holders.now c.rows.chain.here ≡ Some c.in-Some-holders.at = cc in
    followed_more c.args.walk.now c.args.holders.now c.args.lever c.in-Some-holders.at c.rows.chain c.push.new.self
    c.rows.invariant
    (link_is c.args.walk.now c.args.holders.now c.rows.chain.here c.in-Some-holders.at c.requires.holders
    c.rows.invariant.ours known)
    c.in_ok-push-in-Some-holders.ensures c.requires.rows
