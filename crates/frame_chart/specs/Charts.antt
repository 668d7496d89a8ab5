-- What a sound layout of bridles in channels is, and what a shown chart.
use Rattle.std.specs.Prelude.{ℕ, ◌≡◌, ◌+◌, ◌<◌, ◌≤◌, ◌==◌, List, [], ◌∷◌, if◌then◌else◌, All, count_by, length}
use Rattle.std.specs.Prelude.{slice_index}
use Rattle.std.specs.Set.{distinct_count}
use Rattle.frame_chart.specs.declared.charts.Chart.{Chart}
use Rattle.frame_chart.specs.declared.span.Span.{Span}
use Rattle.frame_chart.specs.Spans.{AreApart, Crosses, crosses, span_at}

-- a layout gives each bridle a channel from 1; it is sound where no lever crosses two bridles of one channel
pub record IsSoundLayout (spans : List Span) (channels : List ℕ) : Type 0 where
  pub each : length channels ≡ length spans
  pub numbered : All (λ channel. 1 ≤ channel) channels
  pub apart : (one other : ℕ) → one < other → other < length spans
      → slice_index channels one ≡ slice_index channels other → AreApart (span_at spans one) (span_at spans other)

-- how many different channels a layout has
abbrev pub different : List ℕ → ℕ
different channels = distinct_count (λ one other. one == other) channels

-- how many bridles a lever crosses
abbrev pub count_crossed : ℕ → List Span → ℕ
count_crossed lever spans = count_by (crosses lever) spans

-- the bridles that a lever crosses, in order, by their numbers, which are counted on from a number
abbrev pub crossed_from : ℕ → ℕ → List Span → List ℕ
crossed_from number lever [] = []
crossed_from number lever (span ∷ spans) =
    if crosses lever span then number ∷ crossed_from (number + 1) lever spans
    else crossed_from (number + 1) lever spans

-- the numbers, from 1, of all bridles that a lever crosses, in order
abbrev pub crossed_by : ℕ → List Span → List ℕ
crossed_by lever spans = crossed_from 1 lever spans

-- the channels are a sound layout, each at most `count`; `crossing` names all bridles that the column crosses, in
-- order, and there are `count` of them; without bridles there is no column
pub record IsShownChart (spans : List Span) (chart : Chart) : Type 0 where
  pub sound : IsSoundLayout spans chart.channels
  pub within : All (λ channel. channel ≤ chart.count) chart.channels
  pub crossing : chart.crossing ≡ crossed_by chart.column spans
  pub count : length chart.crossing ≡ chart.count
  pub none : length spans ≡ 0 → chart.column ≡ 0

-- ---- the rule by which bridles are laid

-- one bridle is laid before another: by lowest lever, then highest, then number
pub record IsLaidBefore (spans : List Span) (one other : ℕ) : Type 0 where
  pub lowest : (span_at spans one).lowest ≤ (span_at spans other).lowest
  pub highest : (span_at spans one).lowest ≡ (span_at spans other).lowest
      → (span_at spans one).highest ≤ (span_at spans other).highest
  pub number : (span_at spans one).lowest ≡ (span_at spans other).lowest
      → (span_at spans one).highest ≡ (span_at spans other).highest → one < other

-- a bridle finds a channel taken: a bridle lies there that is laid before it, and a lever crosses both
pub record IsTaken (spans : List Span) (channels : List ℕ) (bridle channel : ℕ) : Type 0 where
  pub by : ℕ
  pub within : by < length spans
  pub there : slice_index channels by ≡ channel
  pub before : IsLaidBefore spans by bridle
  pub lever : ℕ
  pub crosses_it : Crosses lever (span_at spans bridle)
  pub crosses_other : Crosses lever (span_at spans by)

-- each bridle has the least channel that stays sound: it finds each lower one taken
abbrev pub IsByRule : List Span → List ℕ → Type 0
IsByRule spans channels =
    (bridle channel : ℕ) → bridle < length spans → 1 ≤ channel → channel < slice_index channels bridle
    → IsTaken spans channels bridle channel

-- a chart is the chart of these bridles: it is shown, no sound layout has fewer channels, the bridles are laid by the
-- rule, and each lever below its column crosses fewer bridles
pub record IsChartOf (spans : List Span) (chart : Chart) : Type 0 where
  pub shown : IsShownChart spans chart
  pub fewest : (channels : List ℕ) → IsSoundLayout spans channels → chart.count ≤ different channels
  pub rule : IsByRule spans chart.channels
  pub column : (lever : ℕ) → lever < chart.column → count_crossed lever spans < chart.count
