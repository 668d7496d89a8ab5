use Rattle.std.proofs.Common.{◌∙◌}
use Rattle.frame_chart.proofs.Told.{chart_told}
use Rattle.frame_chart.proofs.charting.chart.Goals as goal

pub returns-clause-holds : goal.returns-clause-holds
returns-clause-holds c =
    chart_told c.args.bridles.now c.deref.result.now c.chart_of_spans.result c.requires.fits
    (c.deref.ensures.value ∙ c.in_ok-spans.ensures) c.chart_of_spans.ensures
