use Rattle.std.proofs.Common.{◌∙◌, ap, not, sym}
use Rattle.std.proofs.lemmas.Bool.{false≢true, true≢false}
use Rattle.frame_chart.proofs.Judged.{counted_where_shows, not_empty, named_where_shows, shows_where_named}
use Rattle.frame_chart.proofs.checking.column_shows.Goals as goal
use Rattle.frame_chart.proofs.checking.column_shows.Goals.{then-are_crossed, else-are_crossed}

pub returns-then-not-is_empty : goal.returns-then-not-is_empty
returns-then-not-is_empty c =
    let bridles = c.args.bridles.now in
    let chart = c.args.chart.now in
    let crossing = c.as_slice-crossing.result.now in (
      λ some. elim c.if-are_crossed.branch [
        | then-are_crossed w ↦
            shows_where_named bridles chart crossing c.are_crossed.result c.if-are_crossed.value
            c.as_slice-crossing.ensures c.are_crossed.ensures w.if-are_crossed.true w.value-is
            c.if-crossing-chart.true (not_empty bridles chart.column c.is_empty.result c.is_empty.ensures some)
        | else-are_crossed w ↦ absurd
            (true≢false (sym c.if-crossing-chart.true ∙ (w.value-is ∙ w.if-are_crossed.false)))
      ],
      λ shows. ap not c.if-not-is_empty.true,
    )

pub returns-else-crossing-chart : goal.returns-else-crossing-chart
returns-else-crossing-chart c =
    let bridles = c.args.bridles.now in
    let chart = c.args.chart.now in
    let crossing = c.as_slice-crossing.result.now in (
      λ value. absurd (false≢true (sym c.if-crossing-chart.false ∙ value)),
      λ shows. elim c.if-are_crossed.branch [
        | then-are_crossed w ↦ counted_where_shows bridles chart crossing c.if-are_crossed.value
            c.as_slice-crossing.ensures w.value-is shows
        | else-are_crossed w ↦
            absurd (true≢false
            (sym (named_where_shows bridles chart crossing c.are_crossed.result c.as_slice-crossing.ensures
            c.are_crossed.ensures shows) ∙ w.if-are_crossed.false))
      ],
    )
