-- The chart is shown, by the rule, and has the fewest channels.
use Rattle.std.proofs.Common.{◌≡◌, ◌≢◌, ℕ, suc, ◌-◌, ◌<◌, ◌≤◌, List, [], ◌∷◌, length, get_or, replicate, Bool, true}
use Rattle.std.proofs.Common.{false, ◌⊎◌, inl, inr, refl, sym, ap, ◌∙◌, subst, arith}
use Rattle.std.specs.Prelude.{All, nat_lt, slice_index}
use Rattle.std.specs.Set.{is_member}
use Rattle.std.proofs.lemmas.Bool.{lt-leb, ltb-true, ltb-false}
use Rattle.std.proofs.lemmas.List.{length-replicate}
use Rattle.std.proofs.lemmas.List.Elements.{All-from_get_or, All-head, All-tail}
use Rattle.locking_table.specs.Places.{most_levers}
use Rattle.frame_chart.specs.declared.span.Span.{Span}
use Rattle.frame_chart.specs.Spans.{AreApart, crosses, no_span, span_at}
use Rattle.frame_chart.specs.declared.charts.Chart.{Chart}
use Rattle.frame_chart.specs.Charts.{IsByRule, IsShownChart, IsSoundLayout, IsTaken, count_crossed, different}
use Rattle.frame_chart.specs.Checking.{ColumnShows}
use Rattle.frame_chart.specs.Laying.{channels_of, chart_of_spans, column_of, in_order, most_crossed, no_entry}
use Rattle.frame_chart.proofs.Columns.{below_column, column_crosses_most, how_many, how_many-crossed, length-crossed_by}
use Rattle.frame_chart.proofs.Columns.{most_is_most, no_column}
use Rattle.frame_chart.proofs.Counts.{at_least, channel_is_there, channels_at, count-channels_at, same}
use Rattle.frame_chart.proofs.Counts.{sound_has_as_many}
use Rattle.frame_chart.proofs.Fits.{SpanFits}
use Rattle.frame_chart.proofs.Layouts.{AreLevers, AreRising, IsFound, entry, laid_apart, laid_at, laid_least}
use Rattle.frame_chart.proofs.Layouts.{length-laid, number_at, place_at}
use Rattle.frame_chart.proofs.Orders.{IsOf, before_in_order, each_in_order, there_in_order}

-- ---- the bridles in their order

-- the entry at each place of the order is of the bridle whose number it has
pub of_at : (spans : List Span) (t : ℕ) → t < length (in_order spans) → IsOf spans (get_or (in_order spans) t no_entry)
of_at spans t h = each_in_order spans t no_entry h

numbers_differ : (spans : List Span) (a b : ℕ) → a < b → b < length (in_order spans)
    → number_at (in_order spans) a ≢ number_at (in_order spans) b
numbers_differ spans a b less h = λ e.
    let one = of_at spans a (omega arith) in
    let other = of_at spans b h in
    let same : entry (in_order spans) a ≡ entry (in_order spans) b = one.span
    ∙ (ap (span_at spans) e ∙ sym other.span) in
    let before = before_in_order spans a b less h in
    let less_still = before.number (ap (λ (s : Span). s.lowest) same) (ap (λ (s : Span). s.highest) same) in
    absurd (omega arith)

rising : (spans : List Span) → AreRising (in_order spans)
rising spans s t less h = let b = before_in_order spans s t less h in b.lowest

levers : (spans : List Span) → All SpanFits spans → AreLevers (in_order spans)
levers spans fits t h =
    let one = of_at spans t h in
    let fit = fits (number_at (in_order spans) t) no_span one.number in
    subst (λ (s : Span). 1 ≤ s.lowest) (sym one.span) fit.first

length-none_laid : (spans : List Span) → length {A = ℕ} (replicate (length spans) 0) ≡ length spans
length-none_laid spans = length-replicate (length spans) 0

numbers_within : (spans : List Span) (t : ℕ) → t < length (in_order spans)
    → number_at (in_order spans) t < length {A = ℕ} (replicate (length spans) 0)
numbers_within spans t h =
    let one = of_at spans t h in
    let less = one.number in
    let wide = length-none_laid spans in
    omega arith

channel_at : (spans : List Span) (t : ℕ) → t < length (in_order spans)
    → slice_index (channels_of spans) (number_at (in_order spans) t) ≡ suc (place_at [] (in_order spans) t)
channel_at spans t h =
    laid_at (replicate (length spans) 0) [] (in_order spans) t (numbers_differ spans) (numbers_within spans) h

-- where a bridle stands in the order
record Stands (spans : List Span) (bridle : ℕ) : Type 0 where
  at : ℕ
  within : at < length (in_order spans)
  number : number_at (in_order spans) at ≡ bridle
  span : entry (in_order spans) at ≡ span_at spans bridle
  channel : slice_index (channels_of spans) bridle ≡ suc (place_at [] (in_order spans) at)

stands : (spans : List Span) (bridle : ℕ) → bridle < length spans → Stands spans bridle
stands spans bridle less =
    let there = there_in_order spans bridle less in
    let one = of_at spans there.place there.within in
    record {
      at = there.place;
      within = there.within;
      number = there.is;
      span = one.span ∙ ap (span_at spans) there.is;
      channel = subst (λ (n : ℕ). slice_index (channels_of spans) n ≡ suc (place_at [] (in_order spans) there.place))
          there.is (channel_at spans there.place there.within);
    }

-- one number is below another, or the other is no higher
pub lower_or_not : (a b : ℕ) → (a < b) ⊎ (b ≤ a)
lower_or_not a b = by (nat_lt a b) refl
  where
    by : (t : Bool) → nat_lt a b ≡ t → (a < b) ⊎ (b ≤ a)
    by true e = inl (ltb-true a b e)
    by false e = inr (ltb-false a b e)

-- ---- it is sound

ends_below : (spans : List Span) (fits : All SpanFits spans) (one other : ℕ) (a : Stands spans one)
    (b : Stands spans other) → slice_index (channels_of spans) one ≡ slice_index (channels_of spans) other → a.at < b.at
    → (span_at spans one).highest < (span_at spans other).lowest
ends_below spans fits one other a b e less =
    let x = a.channel in
    let y = b.channel in
    let apart = laid_apart [] (in_order spans) a.at b.at (rising spans) (levers spans fits) less b.within (omega arith)
    in
    let high = ap (λ (s : Span). s.highest) a.span in
    let low = ap (λ (s : Span). s.lowest) b.span in
    omega arith

apart : (spans : List Span) → All SpanFits spans → (one other : ℕ) → one < other → other < length spans
    → slice_index (channels_of spans) one ≡ slice_index (channels_of spans) other
    → AreApart (span_at spans one) (span_at spans other)
apart spans fits one other less h e lever x y =
    by (stands spans one (omega arith)) (stands spans other h)
  where
    by : Stands spans one → Stands spans other → ⊥
    by a b = again (lower_or_not a.at b.at) (lower_or_not b.at a.at)
      where
        again : (a.at < b.at) ⊎ (b.at ≤ a.at) → (b.at < a.at) ⊎ (a.at ≤ b.at) → ⊥
        again (inl l) s = let below = ends_below spans fits one other a b e l in omega arith
        again (inr m) (inl l) = let below = ends_below spans fits other one b a (sym e) l in omega arith
        again (inr m) (inr n) =
            let same : a.at ≡ b.at = omega arith in
            let is = sym a.number ∙ (ap (number_at (in_order spans)) same ∙ b.number) in
            absurd (omega arith)

numbered : (spans : List Span) → (i : ℕ) → i < length spans → 1 ≤ slice_index (channels_of spans) i
numbered spans i h = let s = stands spans i h in let c = s.channel in omega arith

length-channels_of : (spans : List Span) → length (channels_of spans) ≡ length spans
length-channels_of spans = length-laid (replicate (length spans) 0) [] (in_order spans) ∙ length-none_laid spans

pub laid_soundly : (spans : List Span) → All SpanFits spans → IsSoundLayout spans (channels_of spans)
laid_soundly spans fits = record {
  each = length-channels_of spans;
  numbered = All-from_get_or (λ channel. 1 ≤ channel) (channels_of spans) 0 (λ i h. let e = length-channels_of spans in
      numbered spans i (omega arith));
  apart = apart spans fits;
}

-- ---- it goes by the rule

taken : (spans : List Span) (fits : All SpanFits spans) (bridle channel : ℕ) → bridle < length spans → 1 ≤ channel
    → (s : Stands spans bridle) → (IsFound [] (in_order spans) s.at (channel - 1))
    → IsTaken spans (channels_of spans) bridle channel
taken spans fits bridle channel h low s f =
    let before_it = f.before in
    let in_it = s.within in
    let here : f.by < length (in_order spans) = omega arith in
    let one = of_at spans f.by here in
    let its = channel_at spans f.by here in
    let there = f.there in
    let before = before_in_order spans f.by s.at f.before s.within in
    let own = s.span in
    let fit = fits bridle no_span h in
    let wide = fit.wide in
    let reaches = f.reaches in
    let lowest = before.lowest in
    let own_low = ap (λ (x : Span). x.lowest) own in
    let own_high = ap (λ (x : Span). x.highest) own in
    let one_low = ap (λ (x : Span). x.lowest) one.span in
    let one_high = ap (λ (x : Span). x.highest) one.span in
    let number = s.number in
    record {
      by = number_at (in_order spans) f.by;
      within = one.number;
      there = omega arith;
      before = record {
        lowest = omega arith;
        highest = λ e. let r = before.highest (omega arith) in omega arith;
        number = λ e g. let r = before.number (omega arith) (omega arith) in omega arith;
      };
      lever = (span_at spans bridle).lowest;
      crosses_it = (omega arith, wide);
      crosses_other = (omega arith, omega arith);
    }

-- bridles that fit a frame are laid by the rule
pub laid_by_rule : (spans : List Span) → All SpanFits spans → IsByRule spans (channels_of spans)
laid_by_rule spans fits bridle channel h low less = by (stands spans bridle h)
  where
    by : Stands spans bridle → IsTaken spans (channels_of spans) bridle channel
    by s = again (laid_least [] (in_order spans) s.at (channel - 1) s.within (let c = s.channel in omega arith))
      where
        again : IsFound [] (in_order spans) s.at
            (channel - 1) ⊎ ((entry (in_order spans) s.at).lowest ≤ get_or [] (channel - 1) 0)
            → IsTaken spans (channels_of spans) bridle channel
        again (inl f) = taken spans fits bridle channel h low s f
        again (inr r) = absurd (let l = levers spans fits s.at s.within in omega arith)

-- ---- there are no more channels than bridles that the column crosses

-- a channel that a bridle has, and each lower one, is that of a bridle that its lowest lever crosses
pub ruled_within : (spans : List Span) (channels : List ℕ) → All SpanFits spans → length channels ≡ length spans
    → IsByRule spans channels → (bridle : ℕ) → bridle < length spans
    → slice_index channels bridle ≤ count_crossed (span_at spans bridle).lowest spans
ruled_within spans channels fits wide rule bridle h =
    let lever = (span_at spans bridle).lowest in
    let as_many = count-channels_at lever spans channels wide in
    let least = at_least (slice_index channels bridle) (channels_at lever spans channels)
    (λ channel low high. there channel low (lower_or_not channel (slice_index channels bridle)) high) in
    omega arith
  where
    fit : SpanFits (span_at spans bridle)
    fit = fits bridle no_span h

    there : (channel : ℕ) → 1 ≤ channel
        → (channel < slice_index channels bridle) ⊎ (slice_index channels bridle ≤ channel)
        → channel ≤ slice_index channels bridle
        → is_member same (channels_at (span_at spans bridle).lowest spans channels) channel ≡ true
    there channel low (inl less) high =
        let t = rule bridle channel h low less in
        let before = t.before in
        let lowest = before.lowest in
        let it = t.crosses_it in
        let other = t.crosses_other in
        subst (λ (n : ℕ). is_member same (channels_at (span_at spans bridle).lowest spans channels) n ≡ true) t.there
        (channel_is_there (span_at spans bridle).lowest spans channels t.by wide
        t.within (lowest, omega (arith, it.0, other.1)))
    there channel low (inr more) high =
        let is : slice_index channels bridle ≡ channel = omega arith in
        let own = fit.wide in
        subst (λ (n : ℕ). is_member same (channels_at (span_at spans bridle).lowest spans channels) n ≡ true) is
        (channel_is_there (span_at spans bridle).lowest spans channels bridle wide h (omega arith, own))

-- ---- the chart

-- lever 0 isn't there
none_at_zero : (spans : List Span) → All SpanFits spans → count_crossed 0 spans ≡ 0
none_at_zero spans fits = sym (how_many-crossed 0 spans) ∙ none spans fits
  where
    none : (spans : List Span) → All SpanFits spans → how_many 0 spans ≡ 0
    none [] fits = refl
    none (span ∷ spans) fits =
        let fit = All-head SpanFits span spans fits in
        let first = fit.first in
        let not_crossed : crosses 0 span ≡ false = rw (lt-leb span.lowest 0 (omega arith)) refl in
        rw not_crossed (none spans (All-tail SpanFits span spans fits))

count_is_most : (spans : List Span) → All SpanFits spans → (chart_of_spans spans).count ≡ most_crossed most_levers spans
count_is_most spans fits = column_crosses_most most_levers spans (none_at_zero spans fits)

-- the chart of bridles that fit a frame is shown
pub chart_is_shown : (spans : List Span) → All SpanFits spans → IsShownChart spans (chart_of_spans spans)
chart_is_shown spans fits = record {
  sound = laid_soundly spans fits;
  within = All-from_get_or (λ channel. channel ≤ (chart_of_spans spans).count) (channels_of spans) 0 within;
  crossing = refl;
  count = length-crossed_by (column_of most_levers spans) spans;
  none = no_column most_levers spans;
}
  where
    within : (i : ℕ) → i < length (channels_of spans) → slice_index (channels_of spans) i ≤ (chart_of_spans spans).count
    within i h =
        let wide = length-channels_of spans in
        let here : i < length spans = omega arith in
        let fit = fits i no_span here in
        let first = fit.first in
        let ordered = fit.wide in
        let last = fit.last in
        let few = ruled_within spans (channels_of spans) fits wide (laid_by_rule spans fits) i here in
        let most = most_is_most most_levers (span_at spans i).lowest spans first (omega arith) in
        let is = count_is_most spans fits in
        omega arith

-- a column that shows it leaves no sound layout with fewer channels
pub column_has_fewest : (spans : List Span) (chart : Chart) (channels : List ℕ) → ColumnShows spans chart
    → IsSoundLayout spans channels → chart.count ≤ different channels
column_has_fewest spans chart channels shows sound =
    let many = sound_has_as_many chart.column spans channels sound in
    let is = ap length shows.crossing ∙ length-crossed_by chart.column spans in
    let count = shows.count in
    omega arith

-- a chart that is shown has the fewest channels
pub shown_has_fewest : (spans : List Span) (chart : Chart) (channels : List ℕ) → IsShownChart spans chart
    → IsSoundLayout spans channels → chart.count ≤ different channels
shown_has_fewest spans chart channels shown sound =
    column_has_fewest spans chart channels
    (record { crossing = shown.crossing; count = shown.count; none = shown.none }) sound

-- of bridles that fit a frame, each lever below the column of the chart crosses fewer than its count
pub column_is_least : (spans : List Span) (lever : ℕ) → All SpanFits spans → lever < (chart_of_spans spans).column
    → count_crossed lever spans < (chart_of_spans spans).count
column_is_least spans lever fits less =
    let fewer = below_column most_levers lever spans (none_at_zero spans fits) less in
    let is = count_is_most spans fits in
    omega arith
