use Rattle.std.proofs.Common.{◌≡◌, ◌<◌, List, true, false, length, sym, ap, ◌∙◌, arith}
use Rattle.locking_table.specs.declared.row.Row.{Row}
use Rattle.row_covers.proofs.PairLemmas.{alone_on}
use Rattle.row_covers.proofs.pairs.partner_of.Goals as goal

pub loop-two-preserved : goal.loop-two-preserved
loop-two-preserved c = record {
  kept = c.in_ok-is_pair.ensures.failed;
  alone =
      alone_on c.args.walk.now c.args.at c.args.one c.loop-two.two c.loop-two.invariant.alone
      (λ pair. absurd (let e : true ≡ false = sym (c.in_ok-is_pair.ensures.pair.1 pair) ∙ c.if-branch.false in cc));
}

pub returns-clause-partner : goal.returns-clause-partner
returns-clause-partner c = λ two behind less.
    let long = ap (λ (rs : List Row). length rs) c.table.ensures in
    let before : two < c.loop-two.two = omega (arith, less, long) in
    c.loop-two.invariant.alone two behind before
