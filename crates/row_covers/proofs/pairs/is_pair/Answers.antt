use Rattle.std.proofs.Common.{◌<◌, List, length, ap, ◌∙◌, arith}
use Rattle.locking_table.specs.declared.row.Row.{Row}
use Rattle.row_covers.proofs.PairLemmas.{pair_is, row_is}
use Rattle.row_covers.proofs.pairs.is_pair.Goals as goal

pub returns-clause-pair : goal.returns-clause-pair
returns-clause-pair c =
    let same = c.rows-rows.ensures.rows ∙ c.table.ensures in
    let long = ap (λ (rs : List Row). length rs) same in
    let lt : c.args.at < length c.rows-rows.result.now = omega (arith, long, c.requires.at) in
    let lt' : c.args.one < length c.rows-rows.result.now = omega (arith, long, c.requires.one) in
    let lt'' : c.args.two < length c.rows-rows.result.now = omega (arith, long, c.requires.two) in
    pair_is c.args.walk.now c.args.at c.args.one c.args.two c.in_ok-cover.cover c.index-rows-at.result
    c.index-rows-one.result c.index-rows-two.result
    (row_is c.args.walk.now c.rows-rows.result.now c.args.at c.index-rows-at.result same lt c.index-rows-at.is)
    (row_is c.args.walk.now c.rows-rows.result.now c.args.one c.index-rows-one.result same lt' c.index-rows-one.is)
    (row_is c.args.walk.now c.rows-rows.result.now c.args.two c.index-rows-two.result same lt'' c.index-rows-two.is)
    c.if-one-at.false c.if-two-at.false c.in_ok-cover.ensures.cover
