-- How many different channels there must be.
use Rattle.std.proofs.Common.{◌≡◌, ◌≢◌, ℕ, zero, suc, ◌+◌, ◌<◌, ◌≤◌, List, [], ◌∷◌, length, get_or, Bool, true, false}
use Rattle.std.proofs.Common.{cond, ◌&&◌, ◌||◌, ◌==◌, if◌then◌else◌, ◌⊎◌, inl, inr, refl, sym, ap, ◌∙◌, subst, arith}
use Rattle.std.specs.Prelude.{nat_le}
use Rattle.std.specs.List.{AllByRecursion, IsDistinct}
use Rattle.std.specs.Set.{is_member, unique_keys}
use Rattle.std.specs.Cmp.{IsEquivalence}
use Rattle.std.proofs.lemmas.Bool.{leb-true, le-leb, true≢false}
use Rattle.std.proofs.lemmas.Bool.Decides.{eqb_tells}
use Rattle.std.proofs.lemmas.Map.Made.{length-le_from_is_member}
use Rattle.frame_chart.specs.declared.span.Span.{Span}
use Rattle.frame_chart.specs.Spans.{Crosses, crosses, span_at}
use Rattle.frame_chart.specs.Charts.{IsSoundLayout, count_crossed, different}
use Rattle.frame_chart.proofs.Columns.{how_many, how_many-crossed}

-- two channels are the same
abbrev pub same : ℕ → ℕ → Bool
same one other = one == other

-- ---- the test of a crossing

crosses_by_parts : (a b : Bool) → (a && b) ≡ true → (a ≡ true) × (b ≡ true)
crosses_by_parts true b h = (refl, h)
crosses_by_parts false b h = cc

pub crosses_true : (lever : ℕ) (span : Span) → crosses lever span ≡ true → Crosses lever span
crosses_true lever span h =
    let p = crosses_by_parts (nat_le span.lowest lever) (nat_le lever span.highest) h in
    (leb-true span.lowest lever p.0, leb-true lever span.highest p.1)

pub true_crosses : (lever : ℕ) (span : Span) → Crosses lever span → crosses lever span ≡ true
true_crosses lever span h = rw (le-leb span.lowest lever h.0, le-leb lever span.highest h.1) refl

-- ---- the channels of the bridles that a lever crosses

-- the channels of the bridles that a lever crosses, in order
pub channels_at : ℕ → List Span → List ℕ → List ℕ
channels_at lever [] channels = []
channels_at lever (span ∷ spans) [] = []
channels_at lever (span ∷ spans) (channel ∷ channels) =
    if crosses lever span then channel ∷ channels_at lever spans channels else channels_at lever spans channels

length-channels_at : (lever : ℕ) (spans : List Span) (channels : List ℕ) → length channels ≡ length spans
    → length (channels_at lever spans channels) ≡ how_many lever spans
unfolding channels_at
length-channels_at lever [] channels e = refl
length-channels_at lever (span ∷ spans) [] e = absurd (omega arith)
length-channels_at lever (span ∷ spans) (channel ∷ channels) e = by (crosses lever span)
    (length-channels_at lever spans channels (omega arith))
  where
    by : (b : Bool) → length (channels_at lever spans channels) ≡ how_many lever spans
        → length (if b then channel ∷ channels_at lever spans channels else channels_at lever spans channels)
        ≡ (if b then 1 + how_many lever spans else how_many lever spans)
    by true r = omega arith
    by false r = r

-- where each bridle has a channel, the channels of those that a lever crosses are as many as it crosses
pub count-channels_at : (lever : ℕ) (spans : List Span) (channels : List ℕ) → length channels ≡ length spans
    → length (channels_at lever spans channels) ≡ count_crossed lever spans
count-channels_at lever spans channels e = length-channels_at lever spans channels e ∙ how_many-crossed lever spans

either : (a b : Bool) → (a ≡ true) ⊎ (b ≡ true) → (a || b) ≡ true
either true b s = refl
either false b (inl e) = cc
either false b (inr e) = e

same-refl : (n : ℕ) → same n n ≡ true
same-refl n = by (eqb_tells n n)
  where
    by : ((n == n ≡ true) × (n ≡ n)) ⊎ ((n == n ≡ false) × (n ≢ n)) → n == n ≡ true
    by (inl e) = e.0
    by (inr e) = absurd (e.1 refl)

same_true : (n m : ℕ) → same n m ≡ true → n ≡ m
same_true n m h = by (eqb_tells n m)
  where
    by : ((n == m ≡ true) × (n ≡ m)) ⊎ ((n == m ≡ false) × (n ≢ m)) → n ≡ m
    by (inl e) = e.1
    by (inr e) = absurd (true≢false (sym h ∙ e.0))

same_false : (n m : ℕ) → n ≢ m → same n m ≡ false
same_false n m h = by (eqb_tells n m)
  where
    by : ((n == m ≡ true) × (n ≡ m)) ⊎ ((n == m ≡ false) × (n ≢ m)) → n == m ≡ false
    by (inl e) = absurd (h e.1)
    by (inr e) = e.0

-- the channel of a bridle that the lever crosses is there
pub channel_is_there : (lever : ℕ) (spans : List Span) (channels : List ℕ) (at : ℕ) → length channels ≡ length spans
    → at < length spans → Crosses lever (span_at spans at)
    → is_member same (channels_at lever spans channels) (get_or channels at 0) ≡ true
unfolding channels_at
channel_is_there lever [] channels at e h x = absurd (omega arith)
channel_is_there lever (span ∷ spans) [] at e h x = absurd (omega arith)
channel_is_there lever (span ∷ spans) (channel ∷ channels) zero e h x =
    rw (true_crosses lever span x)
    (either (same channel channel) (is_member same (channels_at lever spans channels) channel)
    (inl (same-refl channel)))
channel_is_there lever (span ∷ spans) (channel ∷ channels) (suc at) e h x = by (crosses lever span)
    (channel_is_there lever spans channels at (omega arith) (omega arith) x)
  where
    by : (b : Bool) → is_member same (channels_at lever spans channels) (get_or channels at 0) ≡ true
        → is_member same (if b then channel ∷ channels_at lever spans channels else channels_at lever spans channels)
        (get_or channels at 0) ≡ true
    by true r = either (same (get_or channels at 0) channel)
        (is_member same (channels_at lever spans channels) (get_or channels at 0)) (inr r)
    by false r = r

-- ---- numbers that are all there

down_from : ℕ → List ℕ
down_from zero = []
down_from (suc n) = suc n ∷ down_from n

length-down_from : (n : ℕ) → length (down_from n) ≡ n
unfolding down_from
length-down_from zero = refl
length-down_from (suc n) = ap suc (length-down_from n)

above_all : (n m : ℕ) → n < m → AllByRecursion (λ y. same m y ≡ false) (down_from n)
unfolding down_from
above_all zero m less = tt
above_all (suc n) m less = (same_false m (suc n) (λ e. omega arith), above_all n m (omega arith))

distinct_down : (n : ℕ) → IsDistinct same (down_from n)
unfolding down_from IsDistinct
distinct_down zero = tt
distinct_down (suc n) = (above_all n (suc n) (omega arith), distinct_down n)

down_holds : (n q : ℕ) → is_member same (down_from n) q ≡ true → (1 ≤ q) × (q ≤ n)
unfolding down_from
down_holds zero q h = absurd (true≢false (sym h))
down_holds (suc n) q h = by (same q (suc n)) refl h (down_holds n q)
  where
    by : (b : Bool) → same q (suc n) ≡ b → (b || is_member same (down_from n) q) ≡ true
        → (is_member same (down_from n) q ≡ true → (1 ≤ q) × (q ≤ n)) → (1 ≤ q) × (q ≤ suc n)
    by true t g r = let e = same_true q (suc n) t in (omega arith, omega arith)
    by false t g r = let p = r g in (p.0, omega (arith, p.1))

same-sym : (n m : ℕ) → same n m ≡ same m n
same-sym n m = by (eqb_tells n m)
  where
    by : ((n == m ≡ true) × (n ≡ m)) ⊎ ((n == m ≡ false) × (n ≢ m)) → same n m ≡ same m n
    by (inl e) = subst (λ (k : ℕ). same n k ≡ same k n) e.1 refl
    by (inr e) = e.0 ∙ sym (same_false m n (λ f. e.1 (sym f)))

laws : IsEquivalence same
laws = record { refl = same-refl; symm = same-sym; congr = λ x y z h. ap (λ (n : ℕ). same n z) (same_true x y h) }

-- a list that has each number from 1 to n has at least n items
pub at_least : (n : ℕ) (ys : List ℕ) → ((q : ℕ) → 1 ≤ q → q ≤ n → is_member same ys q ≡ true) → n ≤ length ys
at_least n ys h =
    let wide = length-down_from n in
    let fits = length-le_from_is_member laws (down_from n) ys (distinct_down n) (λ q m. let p = down_holds n q m in
    h q p.0 p.1) in
    omega arith

-- ---- a sound layout has different channels for bridles that one lever crosses

all_apart : (lever channel : ℕ) (spans : List Span) (channels : List ℕ)
    → ((at : ℕ) → at < length spans → Crosses lever (span_at spans at) → channel ≢ get_or channels at 0)
    → AllByRecursion (λ y. same channel y ≡ false) (channels_at lever spans channels)
unfolding channels_at
all_apart lever channel [] channels h = tt
all_apart lever channel (span ∷ spans) [] h = tt
all_apart lever channel (span ∷ spans) (its ∷ channels) h = by (crosses lever span) refl
    (all_apart lever channel spans channels (λ at less x. h (suc at) (omega arith) x))
  where
    by : (b : Bool) → crosses lever span ≡ b
        → AllByRecursion (λ y. same channel y ≡ false) (channels_at lever spans channels)
        → AllByRecursion (λ y. same channel y ≡ false)
        (if b then its ∷ channels_at lever spans channels else channels_at lever spans channels)
    by true t r = (same_false channel its (h 0 (omega arith) (crosses_true lever span t)), r)
    by false t r = r

pub distinct_channels : (lever : ℕ) (spans : List Span) (channels : List ℕ)
    → ((one other : ℕ) → one < other → other < length spans → Crosses lever (span_at spans one)
    → Crosses lever (span_at spans other) → get_or channels one 0 ≢ get_or channels other 0)
    → IsDistinct same (channels_at lever spans channels)
unfolding channels_at IsDistinct
distinct_channels lever [] channels h = tt
distinct_channels lever (span ∷ spans) [] h = tt
distinct_channels lever (span ∷ spans) (channel ∷ channels) h =
    by (crosses lever span) refl
    (distinct_channels lever spans channels
    (λ one other less k. h (suc one) (suc other) (omega arith) (omega arith)))
  where
    by : (b : Bool) → crosses lever span ≡ b → IsDistinct same (channels_at lever spans channels)
        → IsDistinct same (if b then channel ∷ channels_at lever spans channels else channels_at lever spans channels)
    by true t r = (
      all_apart lever channel spans channels
          (λ at less x. h 0 (suc at) (omega arith) (omega arith) (crosses_true lever span t) x),
      r,
    )
    by false t r = r

unique_holds : (xs : List ℕ) (q : ℕ) → is_member same xs q ≡ true → is_member same (unique_keys same xs) q ≡ true
unique_holds [] q h = h
unique_holds (x ∷ xs) q h = by (is_member same xs x) refl (same q x) refl h (unique_holds xs q)
  where
    by : (b : Bool) → is_member same xs x ≡ b → (c : Bool) → same q x ≡ c → (c || is_member same xs q) ≡ true
        → (is_member same xs q ≡ true → is_member same (unique_keys same xs) q ≡ true)
        → is_member same (cond b (unique_keys same xs) (x ∷ unique_keys same xs)) q ≡ true
    by true m true t g r = r (subst (λ (n : ℕ). is_member same xs n ≡ true) (sym (same_true q x t)) m)
    by true m false t g r = r g
    by false m c t g r = either (same q x) (is_member same (unique_keys same xs) q) (again c t g r)
      where
        again : (c : Bool) → same q x ≡ c → (c || is_member same xs q) ≡ true
            → (is_member same xs q ≡ true → is_member same (unique_keys same xs) q ≡ true)
            → (same q x ≡ true) ⊎ (is_member same (unique_keys same xs) q ≡ true)
        again true t g r = inl t
        again false t g r = inr (r g)

channels_are_of : (lever : ℕ) (spans : List Span) (channels : List ℕ) (q : ℕ)
    → is_member same (channels_at lever spans channels) q ≡ true → is_member same channels q ≡ true
unfolding channels_at
channels_are_of lever [] channels q h = absurd (true≢false (sym h))
channels_are_of lever (span ∷ spans) [] q h = absurd (true≢false (sym h))
channels_are_of lever (span ∷ spans) (channel ∷ channels) q h = by (crosses lever span) h
    (channels_are_of lever spans channels q)
  where
    split : (a b c : Bool) → (a || b) ≡ true → (b ≡ true → c ≡ true) → (a || c) ≡ true
    split true b c h f = refl
    split false b c h f = f h

    by : (b : Bool)
        → is_member same (if b then channel ∷ channels_at lever spans channels else channels_at lever spans channels) q
        ≡ true
        → (is_member same (channels_at lever spans channels) q ≡ true → is_member same channels q ≡ true)
        → (same q channel || is_member same channels q) ≡ true
    by true g r = split (same q channel) (is_member same (channels_at lever spans channels) q)
        (is_member same channels q) g r
    by false g r = either (same q channel) (is_member same channels q) (inr (r g))

-- no sound layout has fewer different channels than bridles that one lever crosses
pub sound_has_as_many : (lever : ℕ) (spans : List Span) (channels : List ℕ) → IsSoundLayout spans channels
    → count_crossed lever spans ≤ different channels
sound_has_as_many lever spans channels sound =
    let wide = count-channels_at lever spans channels sound.each in
    let fits = length-le_from_is_member laws (channels_at lever spans channels) (unique_keys same channels)
    (distinct_channels lever spans channels (λ one other less k x y e. sound.apart one other less k e lever x y))
    (λ q m. unique_holds channels q (channels_are_of lever spans channels q m)) in
    omega arith
