-- What a box has in hand behind a legal journal, entry by entry.
use Rattle.std.proofs.Common.{◌≡◌, ◌≢◌, ℕ, ◌+◌, ◌<◌, ◌≤◌, inl, inr, List, [], ◌∷◌, length, take, drop, get_or}
use Rattle.std.proofs.Common.{Option, Some, None, refl, sym, ap, subst, cond, arith}
use Rattle.std.specs.Prelude.{◌↔◌, ◌==◌, Bool, true, false}
use Rattle.std.proofs.lemmas.Bool.{cases_lt}
use Rattle.std.proofs.lemmas.Bool.Decides.{eqb_tells}
use Rattle.std.proofs.lemmas.List.{drop_more, length-drop}
use Rattle.block_words.specs.declared.Way.{Way}
use Rattle.block_words.specs.declared.Way.TheVariants.{Up, Down}
use Rattle.line_plan.specs.Plans.{PlanFields}
use Rattle.line_law.specs.declared.call.Entry.{Entry}
use Rattle.line_law.specs.History.{IsLegal}
use Rattle.line_law.specs.Ways.{of_way}
use Rattle.reg_audit.specs.declared.behind.InHand.{InHand}
use Rattle.reg_audit.specs.declared.bell.BellEntry.{BellEntry}
use Rattle.reg_audit.specs.Behind.{IsInHand, IsLastUnprompted, asked_after, hand_after, hand_from, in_hand}
use Rattle.reg_audit.specs.Behind.{opening_hand}
use Rattle.reg_audit.specs.Bells.{IsBell, IsUnprompted, bell_on}
use Rattle.reg_audit.specs.Deeds.{deed_of}
use Rattle.reg_audit.specs.Marks.{unprompted}
use Rattle.reg_audit.proofs.BoxMarks.{box_first, marks_of_box, marks_of_other}
use Rattle.reg_audit.proofs.Exactly.{no_entry}
use Rattle.reg_audit.proofs.LastBells.{IsBellAt, IsLastBefore, bell_elsewhere, bell_here, unprompted_is}
use Rattle.reg_audit.proofs.Places.{IsEntryAt, entry_at}
use Rattle.reg_audit.proofs.RuleTells.{HasMarks}

-- the last bell entry before a place, where it is no answer
abbrev IsAskedBefore : PlanFields → List Entry → ℕ → Way → ℕ → Option BellEntry → Type 0
IsAskedBefore plan es b side i asked = (x : BellEntry) → (asked ≡ Some x ↔ IsLastUnprompted plan es b side x i)

-- ---- one place more

asked_here : (plan : PlanFields) (es : List Entry) (b : ℕ) (side : Way) (i : ℕ) (x : BellEntry)
    → IsUnprompted plan es b side x i → IsLastUnprompted plan es b side x (i + 1)
asked_here plan es b side i x is = record {
  last = i;
  earlier = omega arith;
  is = is;
  none_between = λ other another above below. absurd (omega (arith, above, below));
}

asked_still : (plan : PlanFields) (es : List Entry) (b : ℕ) (side : Way) (i : ℕ) (x : BellEntry)
    → IsBellAt plan es b side i None → IsLastUnprompted plan es b side x i
    → IsLastUnprompted plan es b side x (i + 1)
asked_still plan es b side i x none h = record {
  last = h.last;
  earlier = let e = h.earlier in omega (arith, e);
  is = h.is;
  none_between = λ other another above below bell. elim (cases_lt other i) [
    | inl lt ↦ h.none_between other another above lt bell
    | inr le ↦
        let same : other ≡ i = omega (arith, below, le) in
        absurd (let f = (none another).1 (subst (λ (k : ℕ). IsBell plan es b side another k) same bell) in cc)
  ];
}

asked_back : (plan : PlanFields) (es : List Entry) (b : ℕ) (side : Way) (i : ℕ) (x : BellEntry)
    → (h : IsLastUnprompted plan es b side x (i + 1)) → h.last < i → IsLastUnprompted plan es b side x i
asked_back plan es b side i x h lt = record {
  last = h.last;
  earlier = lt;
  is = h.is;
  none_between = λ other another above below. h.none_between other another above (omega (arith, below));
}

-- the one at this place, where it is no answer; else the last before it
asked_more : (plan : PlanFields) (es : List Entry) (b : ℕ) (side : Way) (i : ℕ) (bell last asked : Option BellEntry)
    → IsBellAt plan es b side i bell → IsLastBefore plan es b side i last → IsAskedBefore plan es b side i asked
    → IsAskedBefore plan es b side (i + 1) (asked_after last bell asked)
asked_more plan es b side i None last asked here before was x = (
  λ f. asked_still plan es b side i x here ((was x).0 f),
  λ h. elim (cases_lt h.last i) [
    | inl lt ↦ (was x).1 (asked_back plan es b side i x h lt)
    | inr le ↦
        let below = h.earlier in
        let same : h.last ≡ i = omega (arith, below, le) in
        let there : IsBell plan es b side x i = subst (λ (k : ℕ). IsBell plan es b side x k) same h.is.is in
        absurd (let f = (here x).1 there in cc)
  ],
)
asked_more plan es b side i (Some bell) last asked here before was x =
    let told = unprompted_is plan es b side i (Some bell) last here before x in (
      λ f. asked_here plan es b side i x (told.0 f),
      λ h. elim (cases_lt h.last i) [
        | inl lt ↦ absurd (h.none_between i bell lt (omega arith) ((here bell).0 refl))
        | inr le ↦
            let below = h.earlier in
            let same : h.last ≡ i = omega (arith, below, le) in
            told.1 (subst (λ (k : ℕ). IsUnprompted plan es b side x k) same h.is)
      ],
    )

asked_first : (plan : PlanFields) (es : List Entry) (b : ℕ) (side : Way) → IsAskedBefore plan es b side 0 None
asked_first plan es b side x = (λ f. absurd cc, λ h. absurd (let e = h.earlier in omega (arith, e)))

-- ---- what a box has in hand before a place

record HasInHand (plan : PlanFields) (es : List Entry) (b i : ℕ) (hand : InHand) : Type 0 where
  marks : HasMarks plan es b i hand.marks
  asked : (side : Way) → IsAskedBefore plan es b side i (of_way hand.asked side)

hand_first : (plan : PlanFields) (es : List Entry) (b : ℕ) → b < length plan.boxes
    → HasInHand plan es b 0 opening_hand
hand_first plan es b within = record {
  marks = box_first plan es b within;
  asked = λ side. first_on side;
} where
  first_on : (side : Way) → IsAskedBefore plan es b side 0 (of_way opening_hand.asked side)
  first_on Up = asked_first plan es b Up
  first_on Down = asked_first plan es b Down

-- an entry of this box
hand_here : (plan : PlanFields) (es : List Entry) (i : ℕ) (e : Entry) (hand : InHand) → IsEntryAt plan es i e
    → HasInHand plan es e.box_no i hand → HasInHand plan es e.box_no (i + 1) (hand_after plan (deed_of plan e) hand)
hand_here plan es i e hand h has = record {
  marks = marks_of_box plan es i e hand.marks h has.marks;
  asked = λ side. more_on side;
} where
  more_on : (side : Way)
      → IsAskedBefore plan es e.box_no side (i + 1) (of_way (hand_after plan (deed_of plan e) hand).asked side)
  more_on Up =
      asked_more plan es e.box_no Up i (bell_on Up (deed_of plan e)) hand.marks.up.last_bell hand.asked.up
      (bell_here plan es Up i e h.at) (has.marks Up).last_bell (has.asked Up)
  more_on Down =
      asked_more plan es e.box_no Down i (bell_on Down (deed_of plan e)) hand.marks.down.last_bell hand.asked.down
      (bell_here plan es Down i e h.at) (has.marks Down).last_bell (has.asked Down)

-- an entry of another box
hand_elsewhere : (plan : PlanFields) (es : List Entry) (i : ℕ) (e : Entry) (b : ℕ) (hand : InHand)
    → IsEntryAt plan es i e → e.box_no ≢ b → HasInHand plan es b i hand → HasInHand plan es b (i + 1) hand
hand_elsewhere plan es i e b hand h other has = record {
  marks = marks_of_other plan es i e b hand.marks h other has.marks;
  asked = λ side.
      asked_more plan es b side i None (of_way hand.marks side).last_bell (of_way hand.asked side)
      (bell_elsewhere plan es b side i e h.at other) (has.marks side).last_bell (has.asked side);
}

-- one entry more
hand_more : (plan : PlanFields) (es : List Entry) (i : ℕ) (e : Entry) (b : ℕ) (hand : InHand) → IsEntryAt plan es i e
    → HasInHand plan es b i hand
    → HasInHand plan es b (i + 1) (cond (e.box_no == b) (hand_after plan (deed_of plan e) hand) hand)
hand_more plan es i e b hand h has = elim (eqb_tells e.box_no b) [
  | inl same ↦
      let here : HasInHand plan es e.box_no i hand =
      subst (λ (c : ℕ). HasInHand plan es c i hand) (sym same.1) has in
      let after : HasInHand plan es b (i + 1) (hand_after plan (deed_of plan e) hand) =
      subst (λ (c : ℕ). HasInHand plan es c (i + 1) (hand_after plan (deed_of plan e) hand)) same.1
      (hand_here plan es i e hand h here) in
      subst (λ (c : Bool). HasInHand plan es b (i + 1) (cond c (hand_after plan (deed_of plan e) hand) hand))
      (sym same.0) after
  | inr differ ↦
      subst (λ (c : Bool). HasInHand plan es b (i + 1) (cond c (hand_after plan (deed_of plan e) hand) hand))
      (sym differ.0) (hand_elsewhere plan es i e b hand h differ.1 has)
]

-- ---- behind all entries

hand_all : (plan : PlanFields) (es : List Entry) (b : ℕ) → IsLegal plan es → (rest : List Entry) (i : ℕ)
    (hand : InHand) → drop i es ≡ rest → i ≤ length es → HasInHand plan es b i hand
    → HasInHand plan es b (length es) (hand_from plan b hand rest)
hand_all plan es b legal [] i hand is within has =
    let none = ap length is in
    let left = length-drop i es in
    let all : i ≡ length es = omega (arith, none, left, within) in
    subst (λ (k : ℕ). HasInHand plan es b k hand) all has
hand_all plan es b legal (e ∷ rest) i hand is within has =
    let some = ap length is in
    let left = length-drop i es in
    let below : i < length es = omega (arith, some, left) in
    let split = drop_more es i no_entry below in
    let same : get_or es i no_entry ≡ e = cc in
    let behind : drop (i + 1) es ≡ rest = cc in
    let h : IsEntryAt plan es i e =
    subst (λ (x : Entry). IsEntryAt plan es i x) same (entry_at plan es i no_entry legal below) in
    hand_all plan es b legal rest (i + 1) _ behind (omega (arith, below)) (hand_more plan es i e b hand h has)

-- what a box has in hand behind a legal journal is what the words say
pub in_hand_is : (plan : PlanFields) (es : List Entry) (b : ℕ) (side : Way) → IsLegal plan es → b < length plan.boxes
    → IsInHand plan es b side (of_way (in_hand plan b es).marks side) (of_way (in_hand plan b es).asked side)
in_hand_is plan es b side legal within =
    let has = hand_all plan es b legal es 0 opening_hand refl (omega arith) (hand_first plan es b within) in
    record {
      offered = (has.marks side).offered;
      entering = (has.marks side).entering;
      left = (has.marks side).left;
      asked = has.asked side;
    }
