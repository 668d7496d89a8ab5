use Rattle.std.proofs.Common.{◌≡◌, length, ◌∙◌, arith}
use Rattle.frame_chart.proofs.Told.{made}
use Rattle.frame_chart.proofs.charting.chart_of_spans.Goals as goal

pub returns : goal.returns
returns c =
    let items = c.from_vec-2.ensures in
    let count = c.len.ensures in
    let total : c.len.result ≡ length c.from_vec-2.result = rw items (omega arith) in
    made c.args.spans.now c.from_vec.result c.from_vec-2.result c.len.result c.column_of-column.result
    (c.from_vec.ensures ∙ c.in_ok-channels.ensures) c.column_of-column.ensures
    (c.from_vec-2.ensures ∙ c.in_ok-crossing.ensures.numbers) total
