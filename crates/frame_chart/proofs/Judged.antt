-- The tests find a chart shown exactly where it is.
use Rattle.std.proofs.Common.{◌≡◌, ◌≢◌, ℕ, zero, suc, ◌+◌, ◌<◌, ◌≤◌, List, [], ◌∷◌, length, Bool, true, false, not}
use Rattle.std.proofs.Common.{◌&&◌, ◌||◌, ◌==◌, if◌then◌else◌, ◌⊎◌, inl, inr, refl, sym, ap, ◌∙◌, subst, arith}
use Rattle.std.specs.Prelude.{All, IsTrue, Some, None, max, nat_le, slice_index}
use Rattle.std.proofs.lemmas.Bool.{leb-true, le-leb, true≢false}
use Rattle.std.proofs.lemmas.Bool.Decides.{eqb_tells}
use Rattle.std.proofs.lemmas.List.{length-map}
use Rattle.std.proofs.lemmas.List.Elements.{All-cons, All-head, All-nil, All-tail}
use Rattle.bridle_frame.specs.declared.bridle.Bridle.{Bridle}
use Rattle.bridle_frame.specs.declared.bridle.Dog.{Dog}
use Rattle.frame_chart.specs.declared.charts.Chart.{Chart}
use Rattle.frame_chart.specs.declared.span.Span.{Span}
use Rattle.frame_chart.specs.Spans.{AreApart, crosses, span_at, span_of, span_of_dogs, spans_of, widened, widened_by}
use Rattle.frame_chart.specs.Charts.{IsShownChart, IsSoundLayout, crossed_from}
use Rattle.frame_chart.specs.Checking.{ColumnShows, are_sound, behind, left_is, meet, meets_any, are_crossed}

-- ---- a span ends no lower than it begins

abbrev IsWide : Span → Type 0
IsWide span = span.lowest ≤ span.highest

widened_wide : (span : Span) (dogs : List Dog) → IsWide span → IsWide (widened_by span dogs)
widened_wide span [] wide = wide
widened_wide span (dog ∷ dogs) wide = widened_wide (widened span dog.lever) dogs (omega arith)

dogs_wide : (dogs : List Dog) → IsWide (span_of_dogs dogs)
dogs_wide [] = omega arith
dogs_wide (dog ∷ dogs) = widened_wide (record { lowest = dog.lever; highest = dog.lever }) dogs (omega arith)

spans_wide : (bridles : List Bridle) → All IsWide (spans_of bridles)
spans_wide [] = All-nil IsWide
spans_wide (bridle ∷ bridles) = All-cons IsWide (span_of bridle) (spans_of bridles) (dogs_wide bridle.dogs)
    (spans_wide bridles)

-- ---- spans that meet

both : (a b : Bool) → (a && b) ≡ true → (a ≡ true) × (b ≡ true)
both true b h = (refl, h)
both false b h = cc

meet_true : (one other : Span) → meet one other ≡ true → (one.lowest ≤ other.highest) × (other.lowest ≤ one.highest)
meet_true one other h =
    let p = both (nat_le one.lowest other.highest) (nat_le other.lowest one.highest) h in
    (leb-true one.lowest other.highest p.0, leb-true other.lowest one.highest p.1)

meet_false : (one other : Span) → meet one other ≡ false → AreApart one other
meet_false one other h lever x y =
    absurd (true≢false (sym met ∙ h))
  where
    met : meet one other ≡ true
    met = rw (
      le-leb one.lowest other.highest (omega (arith, x.0, y.1)),
      le-leb other.lowest one.highest
          (omega (arith, x.1, y.0)),
    ) refl

apart_false : (one other : Span) → IsWide one → IsWide other → AreApart one other → meet one other ≡ false
apart_false one other wide its apart = by (meet one other) refl
  where
    by : (b : Bool) → meet one other ≡ b → b ≡ false
    by false e = refl
    by true e =
        let p = meet_true one other e in
        absurd (apart (max one.lowest other.lowest) (omega arith, omega (arith, p.0, p.1))
        (omega arith, omega (arith, p.0, p.1)))

-- ---- a sound layout

-- no bridle in this channel has a lever in common with a span
abbrev IsFree : Span → ℕ → List Span → List ℕ → Type 0
IsFree span channel spans channels = (at : ℕ) → at < length spans → slice_index channels at ≡ channel
    → AreApart span (span_at spans at)

neither : (a b : Bool) → (a || b) ≡ false → (a ≡ false) × (b ≡ false)
neither true b h = cc
neither false b h = (refl, h)

free_by_test : (span : Span) (channel : ℕ) (spans : List Span) (channels : List ℕ) → length channels ≡ length spans
    → meets_any span channel spans channels ≡ false → IsFree span channel spans channels
free_by_test span channel [] channels e h at less is = absurd (omega arith)
free_by_test span channel (other ∷ others) [] e h at less is = absurd (omega arith)
free_by_test span channel (other ∷ others) (its ∷ channels) e h zero less is =
    let p = neither (its == channel && meet span other) (meets_any span channel others channels) h in
    by (eqb_tells its channel) p.0
  where
    by : ((its == channel ≡ true) × (its ≡ channel)) ⊎ ((its == channel ≡ false) × (its ≢ channel))
        → (its == channel && meet span other) ≡ false → AreApart span other
    by (inl t) g = meet_false span other (rw t.0 at g)
    by (inr t) g = absurd (t.1 is)
free_by_test span channel (other ∷ others) (its ∷ channels) e h (suc at) less is =
    let p = neither (its == channel && meet span other) (meets_any span channel others channels) h in
    free_by_test span channel others channels (omega arith) p.1 at (omega arith) is

test_by_free : (span : Span) (channel : ℕ) (spans : List Span) (channels : List ℕ) → IsWide span → All IsWide spans
    → IsFree span channel spans channels → meets_any span channel spans channels ≡ false
test_by_free span channel [] channels wide all free = refl
test_by_free span channel (other ∷ others) [] wide all free = refl
test_by_free span channel (other ∷ others) (its ∷ channels) wide all free =
    by (eqb_tells its channel)
    (test_by_free span channel others channels wide (All-tail IsWide other others all)
    (λ at less is. free (suc at) (omega arith) is))
  where
    by : ((its == channel ≡ true) × (its ≡ channel)) ⊎ ((its == channel ≡ false) × (its ≢ channel))
        → meets_any span channel others channels ≡ false
        → ((its == channel && meet span other) || meets_any span channel others channels) ≡ false
    by (inl t) r =
        let m = apart_false span other wide (All-head IsWide other others all) (free 0 (omega arith) t.1) in
        rw (t.0, m) r
    by (inr t) r = rw t.0 r

parts : (a b c : Bool) → (not (a || b) && c) ≡ true → (a ≡ false) × (b ≡ false) × (c ≡ true)
parts true b c h = cc
parts false true c h = cc
parts false false c h = (refl, refl, h)

not_zero : (n : ℕ) → (n == 0) ≡ false → 1 ≤ n
not_zero n h = by (eqb_tells n 0)
  where
    by : ((n == 0 ≡ true) × (n ≡ 0)) ⊎ ((n == 0 ≡ false) × (n ≢ 0)) → 1 ≤ n
    by (inl t) = absurd (true≢false (sym t.0 ∙ h))
    by (inr t) = let p = t.1 in omega arith

zero_not : (n : ℕ) → 1 ≤ n → (n == 0) ≡ false
zero_not n h = by (eqb_tells n 0)
  where
    by : ((n == 0 ≡ true) × (n ≡ 0)) ⊎ ((n == 0 ≡ false) × (n ≢ 0)) → (n == 0) ≡ false
    by (inl t) = absurd (omega (arith, t.1))
    by (inr t) = t.0

sound_by_test : (spans : List Span) (channels : List ℕ) → are_sound spans channels ≡ true → IsSoundLayout spans channels
sound_by_test [] [] h = record
    { each = refl; numbered = All-nil (λ channel. 1 ≤ channel); apart = λ one other less k. absurd (omega arith) }
sound_by_test [] (channel ∷ channels) h = cc
sound_by_test (span ∷ spans) [] h = cc
sound_by_test (span ∷ spans) (channel ∷ channels) h =
    let p = parts (channel == 0) (meets_any span channel spans channels) (are_sound spans channels) h in
    let rest = sound_by_test spans channels p.2 in
    let free = free_by_test span channel spans channels rest.each p.1 in
    record {
      each = ap suc rest.each;
      numbered = All-cons (λ c. 1 ≤ c) channel channels (not_zero channel p.0) rest.numbered;
      apart = apart rest free;
    }
  where
    apart : IsSoundLayout spans channels → IsFree span channel spans channels → (one other : ℕ) → one < other
        → other < length (span ∷ spans)
        → slice_index (channel ∷ channels) one ≡ slice_index (channel ∷ channels) other
        → AreApart (span_at (span ∷ spans) one) (span_at (span ∷ spans) other)
    apart rest free one zero less k is = absurd (omega arith)
    apart rest free zero (suc other) less k is = free other (omega arith) (sym is)
    apart rest free (suc one) (suc other) less k is = rest.apart one other (omega arith) (omega arith) is

test_by_sound : (spans : List Span) (channels : List ℕ) → All IsWide spans → IsSoundLayout spans channels
    → are_sound spans channels ≡ true
test_by_sound [] [] wide sound = refl
test_by_sound [] (channel ∷ channels) wide sound = absurd (let e = sound.each in omega arith)
test_by_sound (span ∷ spans) [] wide sound = absurd (let e = sound.each in omega arith)
test_by_sound (span ∷ spans) (channel ∷ channels) wide sound =
    let own = zero_not channel (All-head (λ c. 1 ≤ c) channel channels sound.numbered) in
    let free = test_by_free span channel spans channels (All-head IsWide span spans wide)
    (All-tail IsWide span spans wide) (λ at less is. sound.apart 0 (suc at) (omega arith) (omega arith) (sym is)) in
    let each : length channels ≡ length spans = let e = sound.each in omega arith in
    let rest = test_by_sound spans channels (All-tail IsWide span spans wide) (record {
      each = each;
      numbered = All-tail (λ c. 1 ≤ c) channel channels sound.numbered;
      apart = λ one other less k is. sound.apart (suc one) (suc other) (omega arith) (omega arith) is;
    }) in
    rw (own, free) rest

-- ---- the bridles that the column crosses

crossed_by_test : (number lever : ℕ) (spans : List Span) (numbers : List ℕ)
    → are_crossed number lever spans numbers ≡ true → numbers ≡ crossed_from number lever spans
crossed_by_test number lever [] [] h = refl
crossed_by_test number lever [] (first ∷ others) h = cc
crossed_by_test number lever (span ∷ spans) numbers h = by (crosses lever span) h
    (crossed_by_test (number + 1) lever spans)
  where
    first_is : (numbers : List ℕ) → left_is (are_crossed (number + 1) lever spans) (behind number numbers) ≡ true
        → ((ns : List ℕ) → are_crossed (number + 1) lever spans ns ≡ true → ns ≡ crossed_from (number + 1) lever spans)
        → numbers ≡ number ∷ crossed_from (number + 1) lever spans
    first_is [] h r = cc
    first_is (first ∷ others) h r = again (eqb_tells first number) h
      where
        again : ((first == number ≡ true) × (first ≡ number)) ⊎ ((first == number ≡ false) × (first ≢ number))
            → left_is (are_crossed (number + 1) lever spans) (if first == number then Some others else None) ≡ true
            → first ∷ others ≡ number ∷ crossed_from (number + 1) lever spans
        again (inl t) g = let tail = r others (rw t.0 at g) in let head = t.1 in cc
        again (inr t) g = let f = rw t.0 at g in cc

    by : (b : Bool)
        → (if b then left_is (are_crossed (number + 1) lever spans) (behind number numbers) else are_crossed
        (number + 1) lever spans numbers) ≡ true
        → ((ns : List ℕ) → are_crossed (number + 1) lever spans ns ≡ true → ns ≡ crossed_from (number + 1) lever spans)
        → numbers ≡ (if b then number ∷ crossed_from (number + 1) lever spans else crossed_from (number + 1) lever
        spans)
    by true g r = first_is numbers g r
    by false g r = r numbers g

test_by_crossed : (number lever : ℕ) (spans : List Span)
    → are_crossed number lever spans (crossed_from number lever spans) ≡ true
test_by_crossed number lever [] = refl
test_by_crossed number lever (span ∷ spans) = by (crosses lever span) (test_by_crossed (number + 1) lever spans)
  where
    by : (b : Bool) → are_crossed (number + 1) lever spans (crossed_from (number + 1) lever spans) ≡ true
        → (if b then left_is (are_crossed (number + 1) lever spans)
        (behind number
        (if b then number ∷ crossed_from (number + 1) lever spans else crossed_from (number + 1) lever spans))
        else are_crossed (number + 1) lever spans
        (if b then number ∷ crossed_from (number + 1) lever spans else crossed_from (number + 1) lever spans))
        ≡ true
    by true r = again (eqb_tells number number)
      where
        again : ((number == number ≡ true) × (number ≡ number)) ⊎ ((number == number ≡ false) × (number ≢ number))
            → left_is (are_crossed (number + 1) lever spans)
            (if number == number then Some (crossed_from (number + 1) lever spans) else None) ≡ true
        again (inl t) = rw t.0 r
        again (inr t) = absurd (t.1 refl)
    by false r = r

-- ---- the whole

counted : (n m : ℕ) → n ≡ m → (n == m) ≡ true
counted n m e = by (eqb_tells n m)
  where
    by : ((n == m ≡ true) × (n ≡ m)) ⊎ ((n == m ≡ false) × (n ≢ m)) → (n == m) ≡ true
    by (inl t) = t.0
    by (inr t) = absurd (t.1 e)

equal : (n m : ℕ) → (n == m) ≡ true → n ≡ m
equal n m h = by (eqb_tells n m)
  where
    by : ((n == m ≡ true) × (n ≡ m)) ⊎ ((n == m ≡ false) × (n ≢ m)) → n ≡ m
    by (inl t) = t.1
    by (inr t) = absurd (true≢false (sym h ∙ t.0))

-- where the tests find that a chart names the bridles its column crosses, and as many as its channels, and it has
-- no column without bridles, the chart shows its column
pub shows_where_named : (bridles : List Bridle) (chart : Chart) (crossing : List ℕ) (names counts : Bool)
    → crossing ≡ chart.crossing → names ≡ are_crossed 1 chart.column (spans_of bridles) crossing → names ≡ true
    → counts ≡ (length crossing == chart.count) → counts ≡ true → (length bridles ≡ 0 → chart.column ≡ 0)
    → ColumnShows (spans_of bridles) chart
shows_where_named bridles chart crossing names counts same is named its counted none = record {
  crossing = sym same ∙ crossed_by_test 1 chart.column (spans_of bridles) crossing (sym is ∙ named);
  count = ap length (sym same) ∙ equal (length crossing) chart.count (sym its ∙ counted);
  none = λ e. none (sym (length-map bridles span_of) ∙ e);
}

-- where a chart shows its column, the test finds that it names the bridles that the column crosses
pub named_where_shows : (bridles : List Bridle) (chart : Chart) (crossing : List ℕ) (names : Bool)
    → crossing ≡ chart.crossing → names ≡ are_crossed 1 chart.column (spans_of bridles) crossing
    → ColumnShows (spans_of bridles) chart → names ≡ true
named_where_shows bridles chart crossing names same is shows =
    is ∙ subst (λ (ns : List ℕ). are_crossed 1 chart.column (spans_of bridles) ns ≡ true) (sym (same ∙ shows.crossing))
    (test_by_crossed 1 chart.column (spans_of bridles))

-- where a chart shows its column, the test finds that it names as many bridles as it has channels
pub counted_where_shows : (bridles : List Bridle) (chart : Chart) (crossing : List ℕ) (counts : Bool)
    → crossing ≡ chart.crossing → counts ≡ (length crossing == chart.count) → ColumnShows (spans_of bridles) chart
    → counts ≡ true
counted_where_shows bridles chart crossing counts same its shows =
    its ∙ counted (length crossing) chart.count (ap length same ∙ shows.count)

pub none_where_shows : (bridles : List Bridle) (chart : Chart) → ColumnShows (spans_of bridles) chart
    → length bridles ≡ 0 → chart.column ≡ 0
none_where_shows bridles chart shows e = shows.none (length-map bridles span_of ∙ e)

-- a chart is shown where the test finds its layout sound, no channel is above its count, and it shows its column
pub shown_where_all : (bridles : List Bridle) (chart : Chart) (channels : List ℕ) (sound : Bool)
    → channels ≡ chart.channels → sound ≡ are_sound (spans_of bridles) channels → sound ≡ true
    → All (λ channel. channel ≤ chart.count) channels → ColumnShows (spans_of bridles) chart
    → IsShownChart (spans_of bridles) chart
shown_where_all bridles chart channels sound same is holds within shows = record {
  sound = subst (λ (cs : List ℕ). IsSoundLayout (spans_of bridles) cs) same
      (sound_by_test (spans_of bridles) channels (sym is ∙ holds));
  within = subst (λ (cs : List ℕ). All (λ channel. channel ≤ chart.count) cs) same within;
  crossing = shows.crossing;
  count = shows.count;
  none = shows.none;
}

-- the test finds the layout of a shown chart sound
pub sound_where_shown : (bridles : List Bridle) (chart : Chart) (channels : List ℕ) (sound : Bool)
    → channels ≡ chart.channels → sound ≡ are_sound (spans_of bridles) channels → IsShownChart (spans_of bridles) chart
    → sound ≡ true
sound_where_shown bridles chart channels sound same is shown =
    is ∙ test_by_sound (spans_of bridles) channels (spans_wide bridles)
    (subst (λ (cs : List ℕ). IsSoundLayout (spans_of bridles) cs) (sym same) shown.sound)

-- no channel of a shown chart is above its count
pub within_where_shown : (bridles : List Bridle) (chart : Chart) (channels : List ℕ) → channels ≡ chart.channels
    → IsShownChart (spans_of bridles) chart → All (λ channel. channel ≤ chart.count) channels
within_where_shown bridles chart channels same shown = subst
    (λ (cs : List ℕ). All (λ channel. channel ≤ chart.count) cs) (sym same) shown.within

-- a shown chart shows its column
pub shows_where_shown : (bridles : List Bridle) (chart : Chart) → IsShownChart (spans_of bridles) chart
    → ColumnShows (spans_of bridles) chart
shows_where_shown bridles chart shown = record { crossing = shown.crossing; count = shown.count; none = shown.none }

-- what is asked of a chart without bridles holds where there is one
pub not_empty : (bridles : List Bridle) (column : ℕ) (empty : Bool) → empty ≡ (length bridles == 0) → IsTrue (not empty)
    → length bridles ≡ 0 → column ≡ 0
not_empty bridles column true is some e = cc
not_empty bridles column false is some e = absurd (true≢false (sym (counted (length bridles) 0 e) ∙ sym is))

differ : (spans : List Span) (channels : List ℕ) → length channels ≢ length spans → false ≡ are_sound spans channels
differ [] [] h = absurd (h refl)
differ [] (channel ∷ channels) h = refl
differ (span ∷ spans) [] h = refl
differ (span ∷ spans) (channel ∷ channels) h = by (not (channel == 0 || meets_any span channel spans channels))
    (differ spans channels (λ e. h (ap suc e)))
  where
    by : (b : Bool) → false ≡ are_sound spans channels → false ≡ (b && are_sound spans channels)
    by true r = r
    by false r = refl

-- channels that are more or fewer than the bridles are found to be no sound layout
pub lengths_differ : (bridles : List Bridle) (channels : List ℕ) → length channels ≢ length bridles
    → false ≡ are_sound (spans_of bridles) channels
lengths_differ bridles channels h = differ (spans_of bridles) channels (λ e. h (e ∙ length-map bridles span_of))
