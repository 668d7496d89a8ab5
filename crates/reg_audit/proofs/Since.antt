-- Whether there was one of a kind since the last mark, place by place.
use Rattle.std.proofs.Common.{◌≡◌, ℕ, ◌+◌, Bool, true, false, inl, inr, refl, subst, arith}
use Rattle.std.specs.Prelude.{◌↔◌}
use Rattle.std.proofs.lemmas.Bool.{cases_lt}
use Rattle.reg_audit.specs.Breaches.{HasSince}
use Rattle.reg_audit.specs.Marks.{since_after}

-- one place more, where there is no mark
since_still : (mark such : ℕ → Type 0) (i : ℕ) → ¬ mark i → HasSince mark such i → HasSince mark such (i + 1)
since_still mark such i none h = record {
  there = h.there;
  earlier = omega (arith, h.earlier);
  is = h.is;
  none_since = λ other from below m. elim (cases_lt other i) [
    | inl lt ↦ h.none_since other from lt m
    | inr le ↦
        let same : other ≡ i = omega (arith, below, le) in
        none (subst mark same m)
  ];
}

-- one place more, where there is one of the kind and no mark
since_here : (mark such : ℕ → Type 0) (i : ℕ) → ¬ mark i → such i → HasSince mark such (i + 1)
since_here mark such i none here = record {
  there = i;
  earlier = omega arith;
  is = here;
  none_since = λ other from below m.
      let same : other ≡ i = omega (arith, from, below) in
      none (subst mark same m);
}

-- one place less: it was at the last place, or before it
since_back : (mark such : ℕ → Type 0) (i : ℕ) (s before : Bool) → (s ≡ true ↔ such i)
    → (before ≡ true ↔ HasSince mark such i) → HasSince mark such (i + 1) → since_after false s before ≡ true
since_back mark such i true before such_is before_is h = refl
since_back mark such i false before such_is before_is h = elim (cases_lt h.there i) [
  | inl lt ↦ before_is.1 (record {
    there = h.there;
    earlier = lt;
    is = h.is;
    none_since = λ other from below. h.none_since other from (omega (arith, below));
  })
  | inr le ↦
      let below = h.earlier in
      let same : h.there ≡ i = omega (arith, le, below) in
      absurd (let f = such_is.1 (subst such same h.is) in cc)
]

-- whether such a thing was done since the mark, after one entry more
pub since_more : (mark such : ℕ → Type 0) (i : ℕ) (m s before : Bool) → (m ≡ true ↔ mark i) → (s ≡ true ↔ such i)
    → (before ≡ true ↔ HasSince mark such i) → (since_after m s before ≡ true ↔ HasSince mark such (i + 1))
since_more mark such i true s before mark_is such_is before_is = (
  λ f. absurd cc,
  λ h. absurd (h.none_since i (let e = h.earlier in omega (arith, e)) (omega arith) (mark_is.0 refl)),
)
since_more mark such i false true before mark_is such_is before_is =
    (λ f. since_here mark such i (λ m. let e = mark_is.1 m in absurd cc) (such_is.0 refl), λ h. refl)
since_more mark such i false false before mark_is such_is before_is = (
  λ f. since_still mark such i (λ m. let e = mark_is.1 m in absurd cc) (before_is.0 f),
  λ h. since_back mark such i false before such_is before_is h,
)

-- before the first place there was none
pub since_none : (mark such : ℕ → Type 0) → (false ≡ true ↔ HasSince mark such 0)
since_none mark such = (λ f. absurd cc, λ h. absurd (let e = h.earlier in omega (arith, e)))
