use Rattle.std.proofs.Common.{List, ◌∙◌, sym, ap}
use Rattle.bridle_frame.specs.declared.bridle.Bridle.{Bridle}
use Rattle.line_plan.specs.Frames.{BoxFields}
use Rattle.frame_chart.specs.Laying.{chart_of}
use Rattle.frame_chart.specs.Printing.{bridles_of}
use Rattle.frame_chart.proofs.Told.{box_is, box_told}
use Rattle.frame_chart.proofs.printing.print_box_chart.Goals as goal

pub returns-clause-text : goal.returns-clause-text
returns-clause-text c =
    let same = c.deref.ensures.value ∙ sym c.deref-2.ensures.value in
    box_told c.args.plan.now c.deref-2.result.now c.in_ok-chart.chart c.print_chart.result
    (c.deref-2.ensures.value
    ∙ (c.in_ok-bridles.ensures.bridles ∙ ap (λ (plan : BoxFields). bridles_of plan) c.plan.view_is))
    (c.in_ok-chart.ensures.chart ∙ ap (λ (bridles : List Bridle). chart_of bridles) same) c.print_chart.ensures

pub returns-clause-chart : goal.returns-clause-chart
returns-clause-chart c =
    box_is c.args.plan.now c.in_ok-bridles.bridles.items c.print_chart.result
    (c.in_ok-bridles.ensures.bridles ∙ ap (λ (plan : BoxFields). bridles_of plan) c.plan.view_is)
    c.in_ok-bridles.ensures.fits
