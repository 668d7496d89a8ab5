-- Levers, channels and bars are drawn apart.
use Rattle.std.proofs.Common.{◌≡◌, ◌<◌, ◌≤◌, ◌⊎◌, inl, inr, ℕ, List, [], ◌∷◌, max, min, refl, ap, arith}
use Rattle.std.proofs.lemmas.Bool.{cases_lt}
use Rattle.bridle_frame.specs.declared.bridle.Bridle.{Bridle}
use Rattle.bridle_frame.specs.declared.bridle.Dog.{Dog}
use Rattle.frame_chart.specs.declared.span.Span.{Span}
use Rattle.frame_chart.specs.Spans.{AreApart, span_of, span_of_dogs, widened, widened_by}
use Rattle.frame_picture.specs.declared.scene.Bar.{Bar}
use Rattle.frame_picture.specs.Scenes.{AreBesideOneAnother, bar_of, bar_with, span_of_bar, widened_bar}

widened_span : (bar : Bar) (dogs : List Dog) → span_of_bar (widened_bar bar dogs) ≡ widened_by (span_of_bar bar) dogs
widened_span bar [] = refl
widened_span bar (dog ∷ dogs) = widened_span (record {
  row = bar.row;
  channel = bar.channel;
  lowest = min bar.lowest dog.lever;
  highest = max bar.highest dog.lever;
}) dogs

span_with : (row channel : ℕ) (dogs : List Dog) → span_of_bar (bar_with row channel dogs) ≡ span_of_dogs dogs
span_with row channel [] = refl
span_with row channel (dog ∷ dogs) =
    widened_span (record { row = row; channel = channel; lowest = dog.lever; highest = dog.lever }) dogs

-- a bar has its bridle's span
pub bar_span : (bridle : Bridle) (channel : ℕ) → span_of_bar (bar_of bridle channel) ≡ span_of bridle
bar_span bridle channel = span_with bridle.row channel bridle.dogs

widened_rises : (span : Span) (dogs : List Dog) → span.lowest ≤ span.highest
    → (widened_by span dogs).lowest ≤ (widened_by span dogs).highest
widened_rises span [] rises = rises
widened_rises span (dog ∷ dogs) rises = widened_rises (widened span dog.lever) dogs (omega (arith, rises))

-- a span ends at no lower lever than it begins
rises : (dogs : List Dog) → (span_of_dogs dogs).lowest ≤ (span_of_dogs dogs).highest
rises [] = omega arith
rises (dog ∷ dogs) = widened_rises (record { lowest = dog.lever; highest = dog.lever }) dogs (omega arith)

-- of two spans that no lever crosses both, one ends before the other begins
beside : (one other : Span) → one.lowest ≤ one.highest → other.lowest ≤ other.highest → AreApart one other
    → (one.highest < other.lowest) ⊎ (other.highest < one.lowest)
beside one other first second apart =
    elim (cases_lt one.highest other.lowest) [
      | inl before ↦ inl before
      | inr over ↦ elim (cases_lt other.highest one.lowest) [
        | inl behind ↦ inr behind
        | inr under ↦ absurd (apart (max one.lowest other.lowest)
            (omega arith, omega (arith, first, over, under)) (omega arith, omega (arith, second, over, under)))
      ]
    ]

-- the bars of such spans lie beside one another
pub bars_apart : (one other : Bridle) (channel : ℕ) → AreApart (span_of one) (span_of other)
    → AreBesideOneAnother (bar_of one channel) (bar_of other channel)
bars_apart one other channel apart =
    let first = ap (λ (s : Span). s.lowest) (bar_span one channel) in
    let first_end = ap (λ (s : Span). s.highest) (bar_span one channel) in
    let second = ap (λ (s : Span). s.lowest) (bar_span other channel) in
    let second_end = ap (λ (s : Span). s.highest) (bar_span other channel) in
    elim (beside (span_of one) (span_of other) (rises one.dogs) (rises other.dogs) apart) [
      | inl before ↦ inl (omega (arith, before, first_end, second))
      | inr before ↦ inr (omega (arith, before, first, second_end))
    ]

pub ruleset apart_rules = (bar_span, bars_apart)
