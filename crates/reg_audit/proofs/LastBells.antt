-- The last bell entry of a side, place by place, and which bell entry is no answer.
use Rattle.std.proofs.Common.{◌≡◌, ◌≢◌, ℕ, ◌+◌, ◌<◌, Bool, true, false, inl, inr, List, Option, Some, None}
use Rattle.std.proofs.Common.{cond, slice_get, refl, sym, ap, subst, ◌∙◌, arith}
use Rattle.std.specs.Prelude.{◌↔◌, ◌==◌, ◌&&◌}
use Rattle.std.proofs.lemmas.Bool.{cases_lt}
use Rattle.std.proofs.lemmas.Bool.Decides.{eqb_tells}
use Rattle.block_words.specs.declared.Way.{Way}
use Rattle.line_plan.specs.Plans.{PlanFields}
use Rattle.line_law.specs.declared.call.Entry.{Entry}
use Rattle.reg_audit.specs.declared.bell.BellEntry.{BellEntry}
use Rattle.reg_audit.specs.declared.bell.BellKind.{BellKind}
use Rattle.reg_audit.specs.declared.bell.BellKind.TheVariants as kinds
use Rattle.reg_audit.specs.declared.deed.Deed.{Deed}
use Rattle.reg_audit.specs.Bells.{IsBell, IsLastBell, IsUnprompted, answered_by, bell_on}
use Rattle.reg_audit.specs.Deeds.{HasDone, deed_of}
use Rattle.reg_audit.specs.Marks.{is_bell, later_bell, same_bell, same_kind, unprompted}

-- ---- one entry

-- what is done at a place, by the entry that stands there
pub done_there : (plan : PlanFields) (es : List Entry) (b : ℕ) (kind : Deed → Type 0) (i : ℕ) (e : Entry)
    → slice_get es i ≡ Some e → HasDone plan es b kind i → (e.box_no ≡ b) × kind (deed_of plan e)
done_there plan es b kind i e at h =
    let same : h.entry ≡ e = let there = h.at in cc in (
      subst (λ (x : Entry). x.box_no ≡ b) same h.box_no,
      subst (λ (x : Entry). kind (deed_of plan x)) same h.done,
    )

-- what an entry does is done at its place
pub done_here : (plan : PlanFields) (es : List Entry) (kind : Deed → Type 0) (i : ℕ) (e : Entry)
    → slice_get es i ≡ Some e → kind (deed_of plan e) → HasDone plan es e.box_no kind i
done_here plan es kind i e at done = record { entry = e; at = at; box_no = refl; done = done }

-- at a place of another box nothing is done
pub done_elsewhere : (plan : PlanFields) (es : List Entry) (b : ℕ) (kind : Deed → Type 0) (i : ℕ) (e : Entry)
    → slice_get es i ≡ Some e → e.box_no ≢ b → ¬ HasDone plan es b kind i
done_elsewhere plan es b kind i e at other h = other (done_there plan es b kind i e at h).0

-- ---- bell entries that are the same

kind_is : (one other : BellKind) → same_kind one other ≡ true → one ≡ other
kind_is kinds.Rung kinds.Rung e = refl
kind_is kinds.Rung kinds.Heard e = absurd cc
kind_is kinds.Heard kinds.Rung e = absurd cc
kind_is kinds.Heard kinds.Heard e = refl

kind_same : (one : BellKind) → same_kind one one ≡ true
kind_same kinds.Rung = refl
kind_same kinds.Heard = refl

abbrev bell_of_kind : BellKind → ℕ → BellEntry
bell_of_kind kind code = record { kind = kind; code = code }

bell_is : (one other : BellEntry) → same_bell one other ≡ true → one ≡ other
bell_is one other e = go (same_kind one.kind other.kind) refl e where
  go : (k : Bool) → same_kind one.kind other.kind ≡ k → (k && (one.code == other.code)) ≡ true → one ≡ other
  go true same f = elim (eqb_tells one.code other.code) [
    | inl code ↦
        let kind : one.kind ≡ other.kind = kind_is one.kind other.kind same in
        ap (λ (k : BellKind). bell_of_kind k one.code) kind ∙ ap (λ (c : ℕ). bell_of_kind other.kind c) code.1
    | inr differ ↦ absurd (let d = differ.0 in cc)
  ]
  go false same f = absurd cc

code_same : (code : ℕ) → (code == code) ≡ true
code_same code = elim (eqb_tells code code) [ inl same ↦ same.0 | inr differ ↦ absurd (differ.1 refl) ]

bell_same : (one : BellEntry) → same_bell one one ≡ true
bell_same one = rw (kind_same one.kind) (code_same one.code)

-- the test of a bell entry tells whether it is that one
pub bell_tells : (one : Option BellEntry) (bell : BellEntry) → (is_bell one bell ≡ true ↔ one ≡ Some bell)
bell_tells None bell = (λ e. absurd cc, λ e. absurd cc)
bell_tells (Some one) bell = (
  λ e. ap (λ (x : BellEntry). Some x) (bell_is one bell e),
  λ e. let same : one ≡ bell = cc in subst (λ (x : BellEntry). same_bell one x ≡ true) same (bell_same one),
)

-- ---- the last one

-- the bell entry at a place, if there is one
abbrev pub IsBellAt : PlanFields → List Entry → ℕ → Way → ℕ → Option BellEntry → Type 0
IsBellAt plan es b side i bell = (x : BellEntry) → (bell ≡ Some x ↔ IsBell plan es b side x i)

-- the last one before a place, if there is one
abbrev pub IsLastBefore : PlanFields → List Entry → ℕ → Way → ℕ → Option BellEntry → Type 0
IsLastBefore plan es b side i last = (x : BellEntry) → (last ≡ Some x ↔ IsLastBell plan es b side x i)

-- an entry of the box is the bell entry that it tells of
pub bell_here : (plan : PlanFields) (es : List Entry) (side : Way) (i : ℕ) (e : Entry) → slice_get es i ≡ Some e
    → IsBellAt plan es e.box_no side i (bell_on side (deed_of plan e))
bell_here plan es side i e at x = (
  λ f. done_here plan es (λ deed. bell_on side deed ≡ Some x) i e at f,
  λ h. (done_there plan es e.box_no (λ deed. bell_on side deed ≡ Some x) i e at h).1,
)

-- an entry of another box is no bell entry of this one
pub bell_elsewhere : (plan : PlanFields) (es : List Entry) (b : ℕ) (side : Way) (i : ℕ) (e : Entry)
    → slice_get es i ≡ Some e → e.box_no ≢ b → IsBellAt plan es b side i None
bell_elsewhere plan es b side i e at other x =
    (λ f. absurd cc, λ h. absurd (done_elsewhere plan es b (λ deed. bell_on side deed ≡ Some x) i e at other h))

last_at : (plan : PlanFields) (es : List Entry) (b : ℕ) (side : Way) (i : ℕ) (x : BellEntry)
    → IsBell plan es b side x i → IsLastBell plan es b side x (i + 1)
last_at plan es b side i x is = record {
  last = i;
  earlier = omega arith;
  is = is;
  none_between = λ other another above below. absurd (omega (arith, above, below));
}

last_still : (plan : PlanFields) (es : List Entry) (b : ℕ) (side : Way) (i : ℕ) (x : BellEntry)
    → IsBellAt plan es b side i None → IsLastBell plan es b side x i → IsLastBell plan es b side x (i + 1)
last_still plan es b side i x none h = record {
  last = h.last;
  earlier = let e = h.earlier in omega (arith, e);
  is = h.is;
  none_between = λ other another above below bell. elim (cases_lt other i) [
    | inl lt ↦ h.none_between other another above lt bell
    | inr le ↦
        let same : other ≡ i = omega (arith, below, le) in
        absurd (let f = (none another).1 (subst (λ (k : ℕ). IsBell plan es b side another k) same bell) in cc)
  ];
}

last_back : (plan : PlanFields) (es : List Entry) (b : ℕ) (side : Way) (i : ℕ) (x : BellEntry)
    → (h : IsLastBell plan es b side x (i + 1)) → h.last < i → IsLastBell plan es b side x i
last_back plan es b side i x h lt = record {
  last = h.last;
  earlier = lt;
  is = h.is;
  none_between = λ other another above below. h.none_between other another above (omega (arith, below));
}

-- the last one before the next place: the one at this place, or else the last before it
pub last_more : (plan : PlanFields) (es : List Entry) (b : ℕ) (side : Way) (i : ℕ) (bell last : Option BellEntry)
    → IsBellAt plan es b side i bell → IsLastBefore plan es b side i last
    → IsLastBefore plan es b side (i + 1) (later_bell bell last)
last_more plan es b side i None last here before x = (
  λ f. last_still plan es b side i x here ((before x).0 f),
  λ h. elim (cases_lt h.last i) [
    | inl lt ↦ (before x).1 (last_back plan es b side i x h lt)
    | inr le ↦
        let below = h.earlier in
        let same : h.last ≡ i = omega (arith, below, le) in
        absurd (let f = (here x).1 (subst (λ (k : ℕ). IsBell plan es b side x k) same h.is) in cc)
  ],
)
last_more plan es b side i (Some bell) last here before x = (
  λ f. last_at plan es b side i x ((here x).0 f),
  λ h. elim (cases_lt h.last i) [
    | inl lt ↦ absurd (h.none_between i bell lt (omega arith) ((here bell).0 refl))
    | inr le ↦
        let below = h.earlier in
        let same : h.last ≡ i = omega (arith, below, le) in
        (here x).1 (subst (λ (k : ℕ). IsBell plan es b side x k) same h.is)
  ],
)

-- before the first entry there was no bell entry
pub last_none : (plan : PlanFields) (es : List Entry) (b : ℕ) (side : Way) → IsLastBefore plan es b side 0 None
last_none plan es b side x = (λ f. absurd cc, λ h. absurd (let e = h.earlier in omega (arith, e)))

-- ---- which one is no answer

-- an unprompted bell entry is found by the last one before it
pub unprompted_is : (plan : PlanFields) (es : List Entry) (b : ℕ) (side : Way) (i : ℕ) (bell last : Option BellEntry)
    → IsBellAt plan es b side i bell → IsLastBefore plan es b side i last → (x : BellEntry)
    → (unprompted last bell ≡ Some x ↔ IsUnprompted plan es b side x i)
unprompted_is plan es b side i None last here before x =
    (λ f. absurd cc, λ h. absurd (let f = (here x).1 h.is in cc))
unprompted_is plan es b side i (Some bell) last here before x = go (is_bell last (answered_by bell)) refl where
  same_as : IsBell plan es b side x i → bell ≡ x
  same_as is = let f = (here x).1 is in cc

  go : (answers : Bool) → is_bell last (answered_by bell) ≡ answers
      → (cond answers None (Some bell) ≡ Some x ↔ IsUnprompted plan es b side x i)
  go true is = (
    λ f. absurd cc,
    λ h.
        let answers : last ≡ Some (answered_by bell) = (bell_tells last (answered_by bell)).0 is in
        let told : last ≡ Some (answered_by x) =
        subst (λ (y : BellEntry). last ≡ Some (answered_by y)) (same_as h.is) answers in
        absurd (h.no_answer ((before (answered_by x)).0 told)),
  )
  go false is = (
    λ f.
        let same : bell ≡ x = cc in
        record {
          is = (here x).0 f;
          no_answer = λ answer.
              let told : last ≡ Some (answered_by x) = (before (answered_by x)).1 answer in
              let back : last ≡ Some (answered_by bell) =
              subst (λ (y : BellEntry). last ≡ Some (answered_by y)) (sym same) told in
              absurd (let yes = (bell_tells last (answered_by bell)).1 back in cc);
        },
    λ h. ap (λ (y : BellEntry). Some y) (same_as h.is),
  )
