-- The tests by which a chart is judged.
use Rattle.std.specs.Prelude.{ℕ, ◌≡◌, ◌+◌, List, [], ◌∷◌, Bool, true, false, not, ◌&&◌, ◌||◌, ◌==◌, nat_le, length}
use Rattle.std.specs.Prelude.{Option, Some, None, if◌then◌else◌}
use Rattle.frame_chart.specs.declared.charts.Chart.{Chart}
use Rattle.frame_chart.specs.declared.span.Span.{Span}
use Rattle.frame_chart.specs.Charts.{crossed_by}
use Rattle.frame_chart.specs.Spans.{crosses}

-- a lever crosses both
abbrev pub meet : Span → Span → Bool
meet one other = nat_le one.lowest other.highest && nat_le other.lowest one.highest

-- a span meets one of those in this channel
abbrev pub meets_any : Span → ℕ → List Span → List ℕ → Bool
meets_any span channel [] channels = false
meets_any span channel (other ∷ others) [] = false
meets_any span channel (other ∷ others) (its ∷ channels) =
    (its == channel && meet span other) || meets_any span channel others channels

-- each span has a channel from 1, and none meets a later one in its channel
abbrev pub are_sound : List Span → List ℕ → Bool
are_sound [] [] = true
are_sound [] (channel ∷ channels) = false
are_sound (span ∷ spans) [] = false
are_sound (span ∷ spans) (channel ∷ channels) =
    not (channel == 0 || meets_any span channel spans channels) && are_sound spans channels

-- the numbers behind this one, where it is the first
abbrev pub behind : ℕ → List ℕ → Option (List ℕ)
behind number [] = None
behind number (first ∷ others) = if first == number then Some others else None

abbrev pub is_nil : List ℕ → Bool
is_nil [] = true
is_nil (number ∷ numbers) = false

-- a test of what is left, if anything is
abbrev pub left_is : (List ℕ → Bool) → Option (List ℕ) → Bool
left_is test None = false
left_is test (Some left) = test left

-- the numbers are those of the spans that a lever crosses, in order, where spans are numbered from a number on
abbrev pub are_crossed : ℕ → ℕ → List Span → List ℕ → Bool
are_crossed number lever [] numbers = is_nil numbers
are_crossed number lever (span ∷ spans) numbers =
    if crosses lever span then left_is (are_crossed (number + 1) lever spans) (behind number numbers)
    else are_crossed (number + 1) lever spans numbers

-- the part of a shown chart that speaks of its column
pub record ColumnShows (spans : List Span) (chart : Chart) : Type 0 where
  pub crossing : chart.crossing ≡ crossed_by chart.column spans
  pub count : length chart.crossing ≡ chart.count
  pub none : length spans ≡ 0 → chart.column ≡ 0
