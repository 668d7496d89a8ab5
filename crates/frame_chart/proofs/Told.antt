-- What is known of the chart that is made.
use Rattle.std.proofs.Common.{◌≡◌, ℕ, List, length, sym, ◌∙◌, ap, subst}
use Rattle.std.specs.Prelude.{All, IfOk, OnOk, Result, Ok, Err}
use Rattle.rail_text.specs.declared.fault.NoMemory.{NoMemory}
use Rattle.locking_table.specs.Places.{most_levers}
use Rattle.bridle_frame.specs.declared.bridle.Bridle.{Bridle}
use Rattle.bridle_frame.specs.Seated.{BridleFits}
use Rattle.frame_chart.specs.declared.charts.Chart.{Chart}
use Rattle.frame_chart.specs.declared.span.Span.{Span}
use Rattle.frame_chart.specs.Spans.{spans_of}
use Rattle.frame_chart.specs.Charts.{IsChartOf, count_crossed, crossed_by}
use Rattle.frame_chart.specs.Laying.{channels_of, chart_of, chart_of_spans, column_of}
use Rattle.std.specs.Global.{Vec}
use Rattle.line_plan.specs.Frames.{BoxFields}
use Rattle.frame_chart.specs.Printing.{box_chart_text, bridles_of, chart_text}
use Rattle.frame_chart.proofs.Columns.{length-crossed_by}
use Rattle.frame_chart.proofs.Fits.{spans_fit}
use Rattle.frame_chart.proofs.Shown.{chart_is_shown, column_is_least, laid_by_rule, shown_has_fewest}

-- a frame's bridles have their chart
pub the_chart : (bridles : List Bridle) → All (BridleFits most_levers) bridles
    → IsChartOf (spans_of bridles) (chart_of bridles)
the_chart bridles fits =
    let fit = spans_fit bridles fits in
    let shown = chart_is_shown (spans_of bridles) fit in
    record {
      shown = shown;
      fewest = λ channels sound. shown_has_fewest (spans_of bridles) (chart_of bridles) channels shown sound;
      rule = laid_by_rule (spans_of bridles) fit;
      column = λ lever less. column_is_least (spans_of bridles) lever fit less;
    }

abbrev Charted : Type 0
Charted = Result Chart NoMemory

-- a chart that is made of the spans of bridles that fit a frame is the chart of those bridles
pub chart_told : (bridles : List Bridle) (spans : List Span) (result : Charted) → All (BridleFits most_levers) bridles
    → spans ≡ spans_of bridles → IfOk result (λ chart. chart ≡ chart_of_spans spans)
    → IfOk result (IsChartOf (spans_of bridles))
chart_told bridles spans (Ok chart) fits same is =
    subst (λ (c : Chart). IsChartOf (spans_of bridles) c) (sym (is ∙ ap chart_of_spans same)) (the_chart bridles fits)
chart_told bridles spans (Err e) fits same is = tt

-- its parts, put together
pub made : (spans : List Span) (channels crossing : List ℕ) (count column : ℕ) → channels ≡ channels_of spans
    → column ≡ column_of most_levers spans → crossing ≡ crossed_by column spans → count ≡ length crossing
    → record { channels = channels; count = count; column = column; crossing = crossing } ≡ chart_of_spans spans
made spans channels crossing count column a b d e =
    let all : crossing ≡ crossed_by (column_of most_levers spans) spans = d
    ∙ ap (λ (lever : ℕ). crossed_by lever spans) b in
    let total : count ≡ count_crossed (column_of most_levers spans) spans = e
    ∙ (ap length all ∙ length-crossed_by (column_of most_levers spans) spans) in
    cc

-- the text of the chart of a box's bridles is the text of the box's chart
pub box_told : (plan : BoxFields) (bridles : List Bridle) (chart : Chart) (result : Result (Vec ℕ) NoMemory)
    → bridles ≡ bridles_of plan → chart ≡ chart_of bridles
    → IfOk result (λ text. text.items ≡ chart_text plan bridles chart)
    → IfOk result (λ text. text.items ≡ box_chart_text plan)
unfolding box_chart_text
box_told plan bridles chart (Ok text) same is told = told
    ∙ (ap (λ (c : Chart). chart_text plan bridles c) is
    ∙ ap (λ (bs : List Bridle). chart_text plan bs (chart_of bs)) same)
box_told plan bridles chart (Err e) same is told = tt

-- the chart of a box's bridles is told where its text is made
pub box_is : (plan : BoxFields) (bridles : List Bridle) (result : Result (Vec ℕ) NoMemory) → bridles ≡ bridles_of plan
    → All (BridleFits most_levers) bridles
    → OnOk result (IsChartOf (spans_of (bridles_of plan)) (chart_of (bridles_of plan)))
box_is plan bridles (Ok text) same fits =
    subst (λ (bs : List Bridle). IsChartOf (spans_of bs) (chart_of bs)) same (the_chart bridles fits)
box_is plan bridles (Err e) same fits = tt
