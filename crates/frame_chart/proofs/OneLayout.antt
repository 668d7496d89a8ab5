-- The rule leaves one sound layout.
use Rattle.std.proofs.Common.{◌≡◌, ℕ, zero, suc, ◌<◌, ◌≤◌, List, length, get_or, ◌⊎◌, inl, inr, sym, ap, ◌∙◌, arith}
use Rattle.std.specs.Prelude.{slice_index}
use Rattle.std.proofs.lemmas.List.{ext_get_or}
use Rattle.frame_chart.specs.declared.span.Span.{Span}
use Rattle.frame_chart.specs.Spans.{span_at}
use Rattle.frame_chart.specs.Charts.{IsByRule, IsLaidBefore, IsSoundLayout, IsTaken}
use Rattle.frame_chart.specs.Laying.{in_order}
use Rattle.frame_chart.proofs.Layouts.{entry, number_at}
use Rattle.frame_chart.proofs.Orders.{before_in_order, there_in_order}
use Rattle.frame_chart.proofs.Shown.{lower_or_not, of_at}

-- a bridle's place in the order
record IsPlaced (spans : List Span) (bridle : ℕ) : Type 0 where
  at : ℕ
  within : at < length (in_order spans)
  number : number_at (in_order spans) at ≡ bridle
  span : entry (in_order spans) at ≡ span_at spans bridle

placed : (spans : List Span) (bridle : ℕ) → bridle < length spans → IsPlaced spans bridle
placed spans bridle less =
    let there = there_in_order spans bridle less in
    let one = of_at spans there.place there.within in
    record { at = there.place; within = there.within; number = there.is; span = one.span ∙ ap (span_at spans) there.is }

-- what is laid before another has a lower place
lower_place : (spans : List Span) (one other : ℕ) (p : IsPlaced spans one) (q : IsPlaced spans other)
    → IsLaidBefore spans one other → p.at < q.at
lower_place spans one other p q before = by (lower_or_not p.at q.at) (lower_or_not q.at p.at)
  where
    by : (p.at < q.at) ⊎ (q.at ≤ p.at) → (q.at < p.at) ⊎ (p.at ≤ q.at) → p.at < q.at
    by (inl l) s = l
    by (inr m) (inl l) =
        let back = before_in_order spans q.at p.at l p.within in
        let p_low = ap (λ (s : Span). s.lowest) p.span in
        let p_high = ap (λ (s : Span). s.highest) p.span in
        let q_low = ap (λ (s : Span). s.lowest) q.span in
        let q_high = ap (λ (s : Span). s.highest) q.span in
        let low = back.lowest in
        let up = before.lowest in
        let same_low : (span_at spans one).lowest ≡ (span_at spans other).lowest = omega arith in
        let high = back.highest (omega arith) in
        let reach = before.highest same_low in
        let same_high : (span_at spans one).highest ≡ (span_at spans other).highest = omega arith in
        let less = before.number same_low same_high in
        let more = back.number (omega arith) (omega arith) in
        let p_number = p.number in
        let q_number = q.number in
        absurd (omega arith)
    by (inr m) (inr n) =
        let same : p.at ≡ q.at = omega arith in
        let is : one ≡ other = sym p.number ∙ (ap (number_at (in_order spans)) same ∙ q.number) in
        let less = before.number (ap (λ (n : ℕ). (span_at spans n).lowest) is)
        (ap (λ (n : ℕ). (span_at spans n).highest) is) in
        absurd (omega arith)

-- where a layout is sound, no bridle finds its own channel taken
not_its_own : (spans : List Span) (channels others : List ℕ) (bridle : ℕ) → bridle < length spans
    → IsSoundLayout spans channels → (t : IsTaken spans others bridle (slice_index channels bridle))
    → slice_index channels t.by ≡ slice_index channels bridle → ⊥
not_its_own spans channels others bridle h sound t same = by (lower_or_not t.by bridle) (lower_or_not bridle t.by)
  where
    by : (t.by < bridle) ⊎ (bridle ≤ t.by) → (bridle < t.by) ⊎ (t.by ≤ bridle) → ⊥
    by (inl l) s = sound.apart t.by bridle l h same t.lever t.crosses_other t.crosses_it
    by (inr m) (inl l) = sound.apart bridle t.by l t.within (sym same) t.lever t.crosses_it t.crosses_other
    by (inr m) (inr n) =
        let is : t.by ≡ bridle = omega arith in
        let before = t.before in
        let less = before.number (ap (λ (n : ℕ). (span_at spans n).lowest) is)
        (ap (λ (n : ℕ). (span_at spans n).highest) is) in
        omega arith

channel_is : (spans : List Span) (channels : List ℕ) (bridle : ℕ) → IsSoundLayout spans channels → bridle < length spans
    → 1 ≤ slice_index channels bridle
channel_is spans channels bridle sound h = let e = sound.each in sound.numbered bridle 0 (omega arith)

-- two layouts give the bridles the same channels, up to a place in the order
same_below : (top : ℕ) (spans : List Span) (one other : List ℕ) → IsSoundLayout spans one → IsSoundLayout spans other
    → IsByRule spans one → IsByRule spans other → (bridle : ℕ) → bridle < length spans → (p : IsPlaced spans bridle)
    → p.at < top
    → slice_index one bridle ≡ slice_index other bridle
same_below zero spans one other a b rule its bridle h p less = absurd (omega arith)
same_below (suc top) spans one other a b rule its bridle h p less =
    by (lower_or_not (slice_index one bridle) (slice_index other bridle))
    (lower_or_not (slice_index other bridle) (slice_index one bridle)) (same_below top spans one other a b rule its)
  where
    by : (slice_index one bridle < slice_index other bridle) ⊎ (slice_index other bridle ≤ slice_index one bridle)
        → (slice_index other bridle < slice_index one bridle) ⊎ (slice_index one bridle ≤ slice_index other bridle)
        → ((k : ℕ) → k < length spans → (q : IsPlaced spans k) → q.at < top → slice_index one k ≡ slice_index other k)
        → slice_index one bridle ≡ slice_index other bridle
    by (inl l) s r =
        let t = its bridle (slice_index one bridle) h (channel_is spans one bridle a h) l in
        let q = placed spans t.by t.within in
        let lower = lower_place spans t.by bridle q p t.before in
        absurd (not_its_own spans one other bridle h a t (r t.by t.within q (omega arith) ∙ t.there))
    by (inr m) (inl l) r =
        let t = rule bridle (slice_index other bridle) h (channel_is spans other bridle b h) l in
        let q = placed spans t.by t.within in
        let lower = lower_place spans t.by bridle q p t.before in
        absurd (not_its_own spans other one bridle h b t (sym (r t.by t.within q (omega arith)) ∙ t.there))
    by (inr m) (inr n) r = omega arith

-- two sound layouts by the rule are the same
pub one_layout : (spans : List Span) (one other : List ℕ) → IsSoundLayout spans one → IsSoundLayout spans other
    → IsByRule spans one → IsByRule spans other → one ≡ other
one_layout spans one other a b rule its = ext_get_or 0 one other (a.each ∙ sym b.each) same
  where
    same : (i : ℕ) → i < length one → get_or one i 0 ≡ get_or other i 0
    same i h =
        let wide = a.each in
        let here : i < length spans = omega arith in
        let p = placed spans i here in
        same_below (suc p.at) spans one other a b rule its i here p (omega arith)
