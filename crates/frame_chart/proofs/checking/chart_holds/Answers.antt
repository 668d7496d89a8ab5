use Rattle.std.proofs.Common.{◌∙◌, sym}
use Rattle.std.proofs.lemmas.Bool.{false≢true, true≢false}
use Rattle.frame_chart.proofs.Judged.{shown_where_all, shows_where_shown, sound_where_shown, within_where_shown}
use Rattle.frame_chart.proofs.Shown.{column_has_fewest}
use Rattle.frame_chart.specs.Spans.{spans_of}
use Rattle.frame_chart.proofs.checking.chart_holds.Goals as goal
use Rattle.frame_chart.proofs.checking.chart_holds.Goals.{then-are_sound, else-are_sound}

pub returns-then-are_within-clause-shown : goal.returns-then-are_within-clause-shown
returns-then-are_within-clause-shown c =
    let bridles = c.args.bridles.now in
    let chart = c.args.chart.now in
    let channels = c.as_slice-channels.result.now in (
      λ shows. elim c.if-are_sound.branch [
        | then-are_sound w ↦
            shown_where_all bridles chart channels c.are_sound.result c.as_slice-channels.ensures c.are_sound.ensures
            w.if-are_sound.true (w.are_within.ensures.0 (sym w.value-is ∙ c.if-are_within.true))
            (c.column_shows.ensures.0 shows)
        | else-are_sound w ↦ absurd (true≢false (sym c.if-are_within.true ∙ (w.value-is ∙ w.if-are_sound.false)))
      ],
      λ shown. c.column_shows.ensures.1 (shows_where_shown bridles chart shown),
    )

pub returns-else-are_within-clause-shown : goal.returns-else-are_within-clause-shown
returns-else-are_within-clause-shown c =
    let bridles = c.args.bridles.now in
    let chart = c.args.chart.now in
    let channels = c.as_slice-channels.result.now in (
      λ value. absurd (false≢true (sym c.if-are_within.false ∙ value)),
      λ shown. elim c.if-are_sound.branch [
        | then-are_sound w ↦ w.value-is
            ∙ w.are_within.ensures.1 (within_where_shown bridles chart channels c.as_slice-channels.ensures shown)
        | else-are_sound w ↦
            absurd (true≢false
            (sym (sound_where_shown bridles chart channels c.are_sound.result c.as_slice-channels.ensures
            c.are_sound.ensures shown) ∙ w.if-are_sound.false))
      ],
    )

pub returns-then-are_within-clause-fewest : goal.returns-then-are_within-clause-fewest
returns-then-are_within-clause-fewest c = λ shows channels sound.
    column_has_fewest (spans_of c.args.bridles.now) c.args.chart.now channels (c.column_shows.ensures.0 shows) sound
