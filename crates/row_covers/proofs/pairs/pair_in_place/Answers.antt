use Rattle.std.proofs.Common.{◌<◌, List, length, ap, arith}
use Rattle.locking_table.specs.declared.row.Row.{Row}
use Rattle.row_covers.proofs.PairLemmas.{alone_too}
use Rattle.row_covers.proofs.pairs.pair_in_place.Goals as goal

pub loop-one-preserved : goal.loop-one-preserved
loop-one-preserved c = record {
  kept = c.in_ok-two.ensures.failed;
  alone =
      alone_too c.args.walk.now c.args.at c.loop-one.one c.in_ok-two.field-0 c.loop-one.invariant.alone
      c.in_ok-two.ensures.partner c.in_default.is;
}

pub returns : goal.returns
returns c = λ one less.
    let long = ap (λ (rs : List Row). length rs) c.table.ensures in
    let before : one < c.loop-one.one = omega (arith, less, long) in
    c.loop-one.invariant.alone one before
