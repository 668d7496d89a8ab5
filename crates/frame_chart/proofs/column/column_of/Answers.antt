use Rattle.std.proofs.Common.{◌+◌, ◌<◌, ◌≤◌, ◌∙◌, sym, arith}
use Rattle.frame_chart.specs.Charts.{count_crossed}
use Rattle.frame_chart.specs.Laying.{most_crossed}
use Rattle.frame_chart.proofs.Columns.{column_more, column_same, column_start}
use Rattle.frame_chart.proofs.column.column_of.Goals as goal
use Rattle.frame_chart.proofs.column.column_of.Goals.{then-most-crossed, else-most-crossed}

pub loop-before-init : goal.loop-before-init
loop-before-init c = let start = column_start c.args.spans.now in record { column = start.0; most = start.1 }

pub loop-before-preserved : goal.loop-before-preserved
loop-before-preserved c =
    let spans = c.args.spans.now in
    let before = c.loop-before.before in
    let count = c.count_crossed-crossed.ensures in
    let most = c.loop-before.invariant.most in
    elim c.if-most-crossed.branch [
      | then-most-crossed w ↦
          let test = w.if-most-crossed.true in
          let more : most_crossed before spans < count_crossed (before + 1) spans = omega arith in
          let step = column_more before spans more in
          record { column = w.column-is ∙ sym step.0; most = w.most-is ∙ (count ∙ sym step.1) }
      | else-most-crossed w ↦
          let test = w.if-most-crossed.false in
          let same : count_crossed (before + 1) spans ≤ most_crossed before spans = omega arith in
          let step = column_same before spans same in
          record {
            column = w.column-is ∙ (c.loop-before.invariant.column ∙ sym step.0);
            most = w.most-is ∙ (most ∙ sym step.1);
          }
    ]
