-- The spans of bridles that fit a frame.
use Rattle.std.proofs.Common.{◌≤◌, List, [], ◌∷◌, length, arith}
use Rattle.std.specs.Prelude.{All}
use Rattle.std.proofs.lemmas.List.Elements.{All-head, All-tail, All-map, All-weaker}
use Rattle.locking_table.specs.Places.{most_levers}
use Rattle.bridle_frame.specs.declared.bridle.Bridle.{Bridle}
use Rattle.bridle_frame.specs.declared.bridle.Dog.{Dog}
use Rattle.bridle_frame.specs.Seated.{BridleFits, DogFits}
use Rattle.frame_chart.specs.declared.span.Span.{Span}
use Rattle.frame_chart.specs.Spans.{span_of, span_of_dogs, spans_of, widened, widened_by}

-- from one lever of the frame to another that isn't lower
pub record SpanFits (span : Span) : Type 0 where
  pub first : 1 ≤ span.lowest
  pub wide : span.lowest ≤ span.highest
  pub last : span.highest ≤ 120

widened_fits : (span : Span) (dogs : List Dog) → SpanFits span → All (DogFits most_levers) dogs
    → SpanFits (widened_by span dogs)
widened_fits span [] fits each = fits
widened_fits span (dog ∷ dogs) fits each =
    let one = All-head (DogFits most_levers) dog dogs each in
    let low = fits.first in
    let wide = fits.wide in
    let high = fits.last in
    let fitting : SpanFits (widened span dog.lever) = record
    { first = omega arith; wide = omega arith; last = omega arith } in
    widened_fits (widened span dog.lever) dogs fitting (All-tail (DogFits most_levers) dog dogs each)

dogs_fit : (dogs : List Dog) → 2 ≤ length dogs → All (DogFits most_levers) dogs → SpanFits (span_of_dogs dogs)
dogs_fit [] two each = absurd (omega arith)
dogs_fit (dog ∷ dogs) two each =
    let one = All-head (DogFits most_levers) dog dogs each in
    widened_fits (record { lowest = dog.lever; highest = dog.lever }) dogs
    (record { first = one.0; wide = omega arith; last = one.1 }) (All-tail (DogFits most_levers) dog dogs each)

-- the span of each bridle that fits a frame fits it
pub spans_fit : (bridles : List Bridle) → All (BridleFits most_levers) bridles → All SpanFits (spans_of bridles)
spans_fit bridles fits = All-map SpanFits span_of bridles
    (All-weaker (BridleFits most_levers) (λ b. SpanFits (span_of b)) (λ b h. dogs_fit b.dogs h.two h.dogs) bridles fits)
