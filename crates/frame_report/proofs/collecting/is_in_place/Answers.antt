use Rattle.std.proofs.Common.{◌<◌, List, length, ap, ◌∙◌, arith}
use Rattle.locking_table.specs.declared.row.Row.{Row}
use Rattle.frame_report.proofs.FrameLemmas.{row_is}
use Rattle.frame_report.proofs.ReportLemmas.{in_place_is}
use Rattle.frame_report.proofs.collecting.is_in_place.Goals as goal

pub returns : goal.returns
returns c =
    let same = c.rows-rows.ensures.rows ∙ c.table.ensures in
    let long = ap (λ (rs : List Row). length rs) same in
    let lt : c.args.at < length c.rows-rows.result.now = omega (arith, long, c.requires.at) in
    let lt' : c.args.other < length c.rows-rows.result.now = omega (arith, long, c.requires.other) in
    in_place_is c.args.walk.now c.args.at c.args.other c.in_ok-does.does c.index-rows-at.result
    c.index-rows-other.result
    (row_is c.args.walk.now.rows c.rows-rows.result.now c.args.at c.index-rows-at.result same lt c.index-rows-at.is)
    (row_is c.args.walk.now.rows c.rows-rows.result.now c.args.other c.index-rows-other.result same lt'
    c.index-rows-other.is)
    c.if-other-at.false c.in_ok-does.ensures
