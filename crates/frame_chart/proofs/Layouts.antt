-- What holds of the channels as they are laid one after another.
use Rattle.std.proofs.Common.{◌≡◌, ◌≢◌, ℕ, zero, suc, ◌+◌, ◌<◌, ◌≤◌, List, [], ◌∷◌, length, get_or, set, Bool, true}
use Rattle.std.proofs.Common.{false, ◌==◌, drop, add-one, if◌then◌else◌, ◌⊎◌, inl, inr, refl, sym, ap, ◌∙◌, arith}
use Rattle.std.specs.Prelude.{nat_lt, slice_set}
use Rattle.std.proofs.Math.ListN.{length-set}
use Rattle.std.proofs.lemmas.Bool.{ltb-true, ltb-false}
use Rattle.std.proofs.lemmas.Bool.Decides.{eqb_tells}
use Rattle.std.proofs.Math.Seq.{drop-cons}
use Rattle.std.proofs.lemmas.List.{get_or-set_other, get_or-set_same}
use Rattle.frame_chart.specs.declared.layout.NumberedSpan.{NumberedSpan}
use Rattle.frame_chart.specs.declared.span.Span.{Span}
use Rattle.frame_chart.specs.Laying.{channel_for, filled_with, laid, no_entry}

-- ---- one channel is filled

-- to which lever a channel, from 1, is filled; 0 for a new one
abbrev filled_to : List ℕ → ℕ → ℕ
filled_to filled channel = get_or (0 ∷ filled) channel 0

-- a span that is laid needs at most one new channel
pub length-filled_with : (filled : List ℕ) (span : Span) → length (filled_with filled span) ≤ length filled + 1
length-filled_with [] span = omega arith
length-filled_with (lever ∷ levers) span = by (nat_lt lever span.lowest) (length-filled_with levers span)
  where
    by : (b : Bool) → length (filled_with levers span) ≤ length levers + 1
        → length (if b then span.highest ∷ levers else lever ∷ filled_with levers span) ≤ length (lever ∷ levers) + 1
    by true r = omega arith
    by false r = omega arith

-- the place of the channel, from 0
place_for : List ℕ → Span → ℕ
place_for [] span = 0
place_for (lever ∷ levers) span = if nat_lt lever span.lowest then 0 else suc (place_for levers span)

channel_by_place : (filled : List ℕ) (span : Span) → channel_for filled span ≡ suc (place_for filled span)
unfolding place_for
channel_by_place [] span = refl
channel_by_place (lever ∷ levers) span = by (nat_lt lever span.lowest) (channel_by_place levers span)
  where
    by : (b : Bool) → channel_for levers span ≡ suc (place_for levers span)
        → (if b then 1 else channel_for levers span + 1) ≡ suc (if b then 0 else suc (place_for levers span))
    by true r = refl
    by false r = omega arith

filled_below : (filled : List ℕ) (span : Span) → 1 ≤ span.lowest → get_or filled (place_for filled span) 0 < span.lowest
unfolding place_for
filled_below [] span low = omega arith
filled_below (lever ∷ levers) span low = by (nat_lt lever span.lowest) refl (filled_below levers span low)
  where
    by : (b : Bool) → nat_lt lever span.lowest ≡ b → get_or levers (place_for levers span) 0 < span.lowest
        → get_or (lever ∷ levers) (if b then 0 else suc (place_for levers span)) 0 < span.lowest
    by true t r = ltb-true lever span.lowest t
    by false t r = r

filled_above : (filled : List ℕ) (span : Span) (place : ℕ) → place < place_for filled span
    → span.lowest ≤ get_or filled place 0
unfolding place_for
filled_above [] span place less = absurd (omega arith)
filled_above (lever ∷ levers) span place less = by (nat_lt lever span.lowest) refl place less (filled_above levers span)
  where
    by : (b : Bool) → nat_lt lever span.lowest ≡ b → (place : ℕ)
        → place < (if b then 0 else suc (place_for levers span))
        → ((place : ℕ) → place < place_for levers span → span.lowest ≤ get_or levers place 0)
        → span.lowest ≤ get_or (lever ∷ levers) place 0
    by true t place less r = absurd (omega arith)
    by false t zero less r = ltb-false lever span.lowest t
    by false t (suc place) less r = r place (omega arith)

filled_there : (filled : List ℕ) (span : Span)
    → get_or (filled_with filled span) (place_for filled span) 0 ≡ span.highest
unfolding place_for
filled_there [] span = refl
filled_there (lever ∷ levers) span = by (nat_lt lever span.lowest) (filled_there levers span)
  where
    by : (b : Bool) → get_or (filled_with levers span) (place_for levers span) 0 ≡ span.highest
        → get_or (if b then span.highest ∷ levers else lever ∷ filled_with levers span)
        (if b then 0 else suc (place_for levers span)) 0 ≡ span.highest
    by true r = refl
    by false r = r

filled_elsewhere : (filled : List ℕ) (span : Span) (place : ℕ) → place ≢ place_for filled span
    → get_or (filled_with filled span) place 0 ≡ get_or filled place 0
unfolding place_for
filled_elsewhere [] span zero other = absurd (other refl)
filled_elsewhere [] span (suc place) other = refl
filled_elsewhere (lever ∷ levers) span place other = by (nat_lt lever span.lowest) place other
    (filled_elsewhere levers span)
  where
    by : (b : Bool) (place : ℕ) → place ≢ (if b then 0 else suc (place_for levers span))
        → ((place : ℕ) → place ≢ place_for levers span
        → get_or (filled_with levers span) place 0 ≡ get_or levers place 0)
        → get_or (if b then span.highest ∷ levers else lever ∷ filled_with levers span) place 0
        ≡ get_or (lever ∷ levers) place 0
    by true zero other r = absurd (other refl)
    by true (suc place) other r = refl
    by false zero other r = refl
    by false (suc place) other r = r place (λ e. other (ap suc e))

-- ---- one bridle after another

-- the places of the channels of bridles that are laid in this order
pub places : List ℕ → List NumberedSpan → List ℕ
places filled [] = []
places filled (next ∷ others) = place_for filled next.span ∷ places (filled_with filled next.span) others

-- the channel, from 0, in which the span at this place of the order is laid
abbrev pub place_at : List ℕ → List NumberedSpan → ℕ → ℕ
place_at filled xs t = get_or (places filled xs) t 0

-- the span at this place of the order
abbrev pub entry : List NumberedSpan → ℕ → Span
entry xs t = (get_or xs t no_entry).span

-- the spans' lowest levers don't fall, and each is a lever
abbrev pub AreRising : List NumberedSpan → Type 0
AreRising xs = (s t : ℕ) → s < t → t < length xs → (entry xs s).lowest ≤ (entry xs t).lowest

-- each span begins at lever 1 or above
abbrev pub AreLevers : List NumberedSpan → Type 0
AreLevers xs = (t : ℕ) → t < length xs → 1 ≤ (entry xs t).lowest

rising_tail : (x : NumberedSpan) (xs : List NumberedSpan) → AreRising (x ∷ xs) → AreRising xs
rising_tail x xs up s t less h = up (suc s) (suc t) (omega arith) (omega arith)

levers_tail : (x : NumberedSpan) (xs : List NumberedSpan) → AreLevers (x ∷ xs) → AreLevers xs
levers_tail x xs low t h = low (suc t) (omega arith)

-- what one bridle does to a channel: it is its own, or it stays as it is
filled_step : (filled : List ℕ) (span : Span) (place : ℕ)
    → ((place ≡ place_for filled span) × (get_or (filled_with filled span) place 0 ≡ span.highest))
    ⊎ (get_or (filled_with filled span) place 0 ≡ get_or filled place 0)
filled_step filled span place = by (eqb_tells place (place_for filled span))
  where
    by : ((place == place_for filled span ≡ true) × (place ≡ place_for filled span))
        ⊎ ((place == place_for filled span ≡ false) × (place ≢ place_for filled span))
        → ((place ≡ place_for filled span) × (get_or (filled_with filled span) place 0 ≡ span.highest))
        ⊎ (get_or (filled_with filled span) place 0 ≡ get_or filled place 0)
    by (inl e) = inl (e.1, ap (λ (n : ℕ). get_or (filled_with filled span) n 0) e.1 ∙ filled_there filled span)
    by (inr e) = inr (filled_elsewhere filled span place e.1)

-- a channel is filled to below each bridle that is laid in it
laid_below : (filled : List ℕ) (xs : List NumberedSpan) (t : ℕ) → AreRising xs → AreLevers xs → t < length xs
    → get_or filled (place_at filled xs t) 0 < (entry xs t).lowest
unfolding places
laid_below filled [] t up low h = absurd (omega arith)
laid_below filled (x ∷ xs) zero up low h = filled_below filled x.span (low 0 (omega arith))
laid_below filled (x ∷ xs) (suc t) up low h =
    by (place_at (filled_with filled x.span) xs t)
    (filled_step filled x.span (place_at (filled_with filled x.span) xs t))
    (filled_below filled x.span (low 0 (omega arith))) (up 0 (suc t) (omega arith) h)
    (laid_below (filled_with filled x.span) xs t (rising_tail x xs up) (levers_tail x xs low) (omega arith))
  where
    by : (place : ℕ)
        → ((place ≡ place_for filled x.span) × (get_or (filled_with filled x.span) place 0 ≡ x.span.highest))
        ⊎ (get_or (filled_with filled x.span) place 0 ≡ get_or filled place 0)
        → get_or filled (place_for filled x.span) 0 < x.span.lowest → x.span.lowest ≤ (entry xs t).lowest
        → get_or (filled_with filled x.span) place 0 < (entry xs t).lowest
        → get_or filled place 0 < (entry xs t).lowest
    by place (inl e) own rise r = let same = ap (λ (n : ℕ). get_or filled n 0) e.0 in omega arith
    by place (inr e) own rise r = omega arith

-- of two bridles in one channel the earlier ends below the later
pub laid_apart : (filled : List ℕ) (xs : List NumberedSpan) (s t : ℕ) → AreRising xs → AreLevers xs → s < t
    → t < length xs → place_at filled xs s ≡ place_at filled xs t → (entry xs s).highest < (entry xs t).lowest
unfolding places
laid_apart filled [] s t up low less h e = absurd (omega arith)
laid_apart filled (x ∷ xs) s zero up low less h e = absurd (omega arith)
laid_apart filled (x ∷ xs) zero (suc t) up low less h e =
    let below = laid_below (filled_with filled x.span) xs t (rising_tail x xs up) (levers_tail x xs low) (omega arith)
    in
    let there = filled_there filled x.span in
    let same = ap (λ (n : ℕ). get_or (filled_with filled x.span) n 0) e in
    omega arith
laid_apart filled (x ∷ xs) (suc s) (suc t) up low less h e =
    laid_apart (filled_with filled x.span) xs s t (rising_tail x xs up) (levers_tail x xs low) (omega arith)
    (omega arith) e

-- a bridle that is laid before another lies in this channel, and doesn't end below the other
pub record IsFound (filled : List ℕ) (xs : List NumberedSpan) (t place : ℕ) : Type 0 where
  pub by : ℕ
  pub before : by < t
  pub there : place_at filled xs by ≡ place
  pub reaches : (entry xs t).lowest ≤ (entry xs by).highest

-- a span finds each channel below its own taken, by one laid before it that reaches its lowest lever, or by how far
-- the channel was filled at first
pub laid_least : (filled : List ℕ) (xs : List NumberedSpan) (t place : ℕ) → t < length xs → place < place_at filled xs t
    → IsFound filled xs t place ⊎ ((entry xs t).lowest ≤ get_or filled place 0)
unfolding places
laid_least filled [] t place h less = absurd (omega arith)
laid_least filled (x ∷ xs) zero place h less = inr (filled_above filled x.span place less)
laid_least filled (x ∷ xs) (suc t) place h less = by
    (laid_least (filled_with filled x.span) xs t place (omega arith) less) (filled_step filled x.span place)
  where
    by : IsFound (filled_with filled x.span) xs t
        place ⊎ ((entry xs t).lowest ≤ get_or (filled_with filled x.span) place 0)
        → ((place ≡ place_for filled x.span) × (get_or (filled_with filled x.span) place 0 ≡ x.span.highest))
        ⊎ (get_or (filled_with filled x.span) place 0 ≡ get_or filled place 0)
        → IsFound filled (x ∷ xs) (suc t) place ⊎ ((entry xs t).lowest ≤ get_or filled place 0)
    by (inl f) s = inl (record {
      by = suc f.by;
      before = let b = f.before in
          omega arith;
      there = f.there;
      reaches = f.reaches;
    })
    by (inr r) (inl e) = inl (record {
      by = 0;
      before = omega arith;
      there = sym e.0;
      reaches = let h = e.1 in
          omega arith;
    })
    by (inr r) (inr e) = inr (omega arith)

-- ---- the channels by the bridles' numbers

-- as bridles are laid, the list of their channels keeps its length
pub length-laid : (channels filled : List ℕ) (xs : List NumberedSpan)
    → length (laid channels filled xs) ≡ length channels
length-laid channels filled [] = refl
length-laid channels filled (x ∷ xs) =
    length-laid (slice_set channels x.number (channel_for filled x.span)) (filled_with filled x.span) xs
    ∙ length-set channels x.number (channel_for filled x.span)

-- the number of the bridle at this place of the order
abbrev pub number_at : List NumberedSpan → ℕ → ℕ
number_at xs t = (get_or xs t no_entry).number

laid_other : (channels filled : List ℕ) (xs : List NumberedSpan) (number : ℕ)
    → ((t : ℕ) → t < length xs → number_at xs t ≢ number)
    → get_or (laid channels filled xs) number 0 ≡ get_or channels number 0
laid_other channels filled [] number other = refl
laid_other channels filled (x ∷ xs) number other =
    laid_other (slice_set channels x.number (channel_for filled x.span)) (filled_with filled x.span) xs number
    (λ t h. other (suc t) (omega arith))
    ∙ get_or-set_other channels x.number number (channel_for filled x.span) 0 (λ e. other 0 (omega arith) (sym e))

-- each bridle has the channel in which it was laid
pub laid_at : (channels filled : List ℕ) (xs : List NumberedSpan) (t : ℕ)
    → ((a b : ℕ) → a < b → b < length xs → number_at xs a ≢ number_at xs b)
    → ((a : ℕ) → a < length xs → number_at xs a < length channels) → t < length xs
    → get_or (laid channels filled xs) (number_at xs t) 0 ≡ suc (place_at filled xs t)
unfolding places
laid_at channels filled [] t differ within h = absurd (omega arith)
laid_at channels filled (x ∷ xs) zero differ within h =
    laid_other (slice_set channels x.number (channel_for filled x.span)) (filled_with filled x.span) xs x.number
    (λ t k e. differ 0 (suc t) (omega arith) (omega arith) (sym e))
    ∙ (get_or-set_same channels x.number (channel_for filled x.span) 0 (within 0 (omega arith))
    ∙ channel_by_place filled x.span)
laid_at channels filled (x ∷ xs) (suc t) differ within h =
    let wide = length-set channels x.number (channel_for filled x.span) in
    laid_at (slice_set channels x.number (channel_for filled x.span)) (filled_with filled x.span) xs t
    (λ a b less k. differ (suc a) (suc b) (omega arith) (omega arith))
    (λ a k. let w = within (suc a) (omega arith) in omega arith) (omega arith)

-- the code's step
pub laid_step : (channels filled new : List ℕ) (channel : ℕ) (xs : List NumberedSpan) (i : ℕ) → i < length xs
    → channel ≡ channel_for filled (entry xs i) → new ≡ filled_with filled (entry xs i)
    → laid (set channels (number_at xs i) channel) new (drop (i + 1) xs) ≡ laid channels filled (drop i xs)
laid_step channels filled new channel xs i h e f = rw (e, f, add-one)
    (sym (ap (laid channels filled) (drop-cons xs i no_entry h)))
