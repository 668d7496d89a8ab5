-- What is told behind a legal journal is due there.
use Rattle.std.proofs.Common.{◌≡◌, ℕ, ◌<◌, Bool, true, false, ◌⊎◌, inl, inr, List, length, Option, Some, None, cond}
use Rattle.std.proofs.Common.{refl, sym, ap, subst}
use Rattle.std.specs.Prelude.{◌↔◌, ◌&&◌, ◌==◌, not, is_some}
use Rattle.block_words.specs.Ways.{opposite}
use Rattle.block_words.specs.declared.Position.{Position}
use Rattle.block_words.specs.declared.Position.TheVariants as shows
use Rattle.block_words.specs.declared.Way.{Way}
use Rattle.block_words.specs.declared.Way.TheVariants.{Up, Down}
use Rattle.line_plan.specs.Plans.{PlanFields}
use Rattle.line_law.specs.declared.call.Entry.{Entry}
use Rattle.line_law.specs.declared.state.Control.{Control}
use Rattle.line_law.specs.declared.state.Incoming.{Incoming}
use Rattle.line_law.specs.declared.state.Passage.{Passage}
use Rattle.line_law.specs.History.{IsLegal, state_of}
use Rattle.line_law.specs.Known.{knows_berth, knows_side}
use Rattle.line_law.specs.Law.{box_plan_of}
use Rattle.line_law.specs.States.{LineState, box_at}
use Rattle.reg_audit.specs.declared.behind.InHand.{InHand}
use Rattle.reg_audit.specs.declared.bell.BellEntry.{BellEntry}
use Rattle.reg_audit.specs.declared.bell.BellKind.{BellKind}
use Rattle.reg_audit.specs.declared.bell.BellKind.TheVariants as kinds
use Rattle.reg_audit.specs.declared.marks.SideMarks.{SideMarks}
use Rattle.reg_audit.specs.Behind.{IsInHand, IsLastUnprompted, in_hand}
use Rattle.reg_audit.specs.Bells.{heard, is_class_code, train_entering_section}
use Rattle.reg_audit.proofs.HandKept.{in_hand_is}
use Rattle.reg_audit.proofs.SideKept.{both_true}
use Rattle.box_view.specs.Look.{first_coming, unheard_from}
use Rattle.due_hints.specs.declared.hint.Due.{Due}
use Rattle.due_hints.specs.declared.hint.Due.TheVariants.{Nothing, One, Several}
use Rattle.due_hints.specs.declared.hint.Hint.{Hint}
use Rattle.due_hints.specs.declared.hint.Hint.TheVariants.{RingBack, Hear, TurnTrainOnLine, RingOut, TurnNormal}
use Rattle.due_hints.specs.declared.hint.Hint.TheVariants.{RingEntering}
use Rattle.due_hints.specs.Dues.{HasAnnounced, HasLeft, HasOffer, IsDue}
use Rattle.due_hints.specs.Hints.{back_due, bell_due, coming_due, due_of, due_with, going_due, heard_by, heard_code}
use Rattle.due_hints.specs.Hints.{hint_of, incoming_at, is_coming, is_free_at, is_over, is_rung_back, normal_due, only}
use Rattle.due_hints.specs.Hints.{or_next, out_due, ring_due, shows_clear, side_due, together, train_due, train_dues}
use Rattle.due_hints.specs.Hints.{waits_at_starter}

-- ---- which of several is due

or_is : (due next : Option Hint) (hint : Hint) → or_next due next ≡ Some hint
    → (due ≡ Some hint) ⊎ (next ≡ Some hint)
or_is None next hint e = inr e
or_is (Some one) next hint e = inl e

of_is : (due : Option Hint) (hint : Hint) → due_of due ≡ One hint → due ≡ Some hint
of_is None hint e = absurd cc
of_is (Some one) hint e = cc

-- what alone is due in two parts is what alone is due in one of them
both_is : (one other : Due) (hint : Hint) → together one other ≡ One hint → (one ≡ One hint) ⊎ (other ≡ One hint)
both_is Nothing other hint e = inr e
both_is (One one) Nothing hint e = inl e
both_is (One one) (One other) hint e = absurd cc
both_is (One one) Several hint e = absurd cc
both_is Several other hint e = absurd cc

only_is : (due : Due) (hint : Hint) → only due ≡ Some hint → due ≡ One hint
only_is Nothing hint e = absurd cc
only_is (One one) hint e = cc
only_is Several hint e = absurd cc

-- what is due where a test holds
if_is : (test : Bool) (told hint : Hint) → cond test (Some told) None ≡ Some hint → (test ≡ true) × (told ≡ hint)
if_is true told hint e = (refl, cc)
if_is false told hint e = absurd cc

if_due : (test : Bool) (due : Option Hint) (hint : Hint) → cond test due None ≡ Some hint → due ≡ Some hint
if_due true due hint e = e
if_due false due hint e = absurd cc

-- what a mark tells isn't so where it isn't set
not_so : (mark : Bool) (P : Type 0) → not mark ≡ true → (mark ≡ true ↔ P) → ¬ P
not_so true P e tells p = absurd cc
not_so false P e tells p = let f = tells.1 p in absurd cc

twice : (side : Way) → opposite (opposite side) ≡ side
twice Up = refl
twice Down = refl

-- ---- a code that was heard

abbrev bell_of : BellKind → ℕ → BellEntry
bell_of kind code = record { kind = kind; code = code }

-- whether Train Entering Section, or any other code but an offer, is rung back
abbrev is_other_rung : PlanFields → LineState → ℕ → Way → ℕ → Bool
is_other_rung plan state b side code =
    cond (code == train_entering_section)
    (shows_clear state b (opposite side) && not (is_coming plan state b (opposite side))) true

back_is : (plan : PlanFields) (es : List Entry) (b : ℕ) (side : Way) (marks : SideMarks) (asked : Option BellEntry)
    (hint : Hint) → IsInHand plan es b side marks asked
    → back_due plan (state_of plan es) b side marks (heard_code asked) ≡ Some hint → IsDue plan es b hint
back_is plan es b side marks None hint has e = absurd cc
back_is plan es b side marks (Some bell) hint has e = go bell.kind refl e where
  given : is_class_code plan bell.code ≡ true → is_rung_back plan (state_of plan es) b side marks bell.code ≡ true
      → not marks.offered ≡ true
  given class back =
      let clear : Bool = shows_clear (state_of plan es) b (opposite side) in
      let other : Bool = is_other_rung plan (state_of plan es) b side bell.code in
      (both_true clear (not marks.offered)
      (subst (λ (c : Bool). cond c (clear && not marks.offered) other ≡ true) class back)).1

  rings : bell ≡ heard bell.code
      → back_due plan (state_of plan es) b side marks (Some bell.code) ≡ Some hint → IsDue plan es b hint
  rings is f =
      let told = if_is (is_rung_back plan (state_of plan es) b side marks bell.code) (RingBack side bell.code) hint f in
      subst (λ (h : Hint). IsDue plan es b h) told.1 (
        subst (λ (x : BellEntry). IsLastUnprompted plan es b side x (length es)) is ((has.asked bell).0 refl),
        λ class. not_so marks.offered (HasOffer plan es b side) (given class told.0) has.offered,
      )

  go : (kind : BellKind) → bell.kind ≡ kind
      → back_due plan (state_of plan es) b side marks (heard_by kind bell.code) ≡ Some hint → IsDue plan es b hint
  go kinds.Rung is f = absurd cc
  go kinds.Heard is f = rings (ap (λ (k : BellKind). bell_of k bell.code) is) f

bell_is : (plan : PlanFields) (es : List Entry) (b : ℕ) (side : Way) (hint : Hint)
    → bell_due plan (state_of plan es) b side ≡ Some hint → IsDue plan es b hint
bell_is plan es b side hint e =
    let stands : Bool = is_some (unheard_from (state_of plan es) b side) in
    let told = if_is (knows_side plan b side && stands) (Hear side) hint e in
    subst (λ (h : Hint). IsDue plan es b h) told.1 (both_true (knows_side plan b side) stands told.0).1

-- ---- a train that comes in

train_is : (way : Way) (position : Position) (first : Option Passage) (hint : Hint)
    → train_due way position first ≡ Some hint
    → ((position ≡ shows.LineClear) × (is_some first ≡ true)) × (TurnTrainOnLine way ≡ hint)
train_is way shows.Normal first hint e = absurd cc
train_is way shows.LineClear None hint e = absurd cc
train_is way shows.LineClear (Some passage) hint e = ((refl, refl), cc)
train_is way shows.TrainOnLine first hint e = absurd cc

out_is : (side : Way) (left : Bool) (portion : Option ℕ) (hint : Hint) → out_due side left portion ≡ Some hint
    → ((left ≡ true) × (portion ≡ None)) × (RingOut side ≡ hint)
out_is side true None hint e = ((refl, refl), cc)
out_is side true (Some train) hint e = absurd cc
out_is side false portion hint e = absurd cc

normal_is : (way : Way) (left free : Bool) (position : Position) (control : Control) (first : Option Passage)
    (hint : Hint) → normal_due way left free position control first ≡ Some hint
    → ((position ≡ shows.TrainOnLine) × (first ≡ None))
    × (((not left ≡ true) × (free ≡ true)) × (TurnNormal way ≡ hint))
normal_is way left free shows.Normal control first hint e = absurd cc
normal_is way left free shows.LineClear control first hint e = absurd cc
normal_is way left free shows.TrainOnLine control None hint e =
    let told = if_is ((not left && free) && is_over control) (TurnNormal way) hint e in
    let both = both_true (not left && free) (is_over control) told.0 in
    ((refl, refl), (both_true (not left) free both.0, told.1))
normal_is way left free shows.TrainOnLine control (Some passage) hint e = absurd cc

coming_is : (plan : PlanFields) (es : List Entry) (b : ℕ) (side : Way) (marks : SideMarks) (asked : Option BellEntry)
    (hint : Hint) → IsInHand plan es b side marks asked
    → coming_due plan (state_of plan es) b side marks ≡ Some hint → IsDue plan es b hint
coming_is plan es b side marks asked hint has e =
    let way : Way = opposite side in
    let incoming : Incoming = incoming_at (state_of plan es) b way in
    let first : Option Passage = first_coming (state_of plan es) b way in
    let out : Option Hint = out_due side marks.left incoming.portion in
    let free : Bool = is_free_at plan (state_of plan es) b way in
    let normal : Option Hint = normal_due way marks.left free incoming.position incoming.control first in
    let due = if_due (knows_berth plan b way) (train_dues side incoming marks free first) hint e in
    elim (or_is (train_due way incoming.position first) (or_next out normal) hint due) [
      | inl train ↦
          let told = train_is way incoming.position first hint train in
          subst (λ (h : Hint). IsDue plan es b h) told.1 told.0
      | inr later ↦ elim (or_is out normal hint later) [
        | inl rings ↦
            let told = out_is side marks.left incoming.portion hint rings in
            subst (λ (h : Hint). IsDue plan es b h) told.1 (has.left.0 told.0.0, told.0.1)
        | inr turns ↦
            let told = normal_is way marks.left free incoming.position incoming.control first hint turns in
            let unleft : ¬ HasLeft plan es b side =
            not_so marks.left (HasLeft plan es b side) told.1.0.0 has.left in
            subst (λ (h : Hint). IsDue plan es b h) told.1.1 (
              told.0.0,
              told.0.1,
              told.1.0.1,
              subst (λ (s : Way). ¬ HasLeft plan es b s) (sym (twice side)) unleft,
            )
      ]
    ]

-- ---- a train that goes away

going_is : (plan : PlanFields) (es : List Entry) (b : ℕ) (side : Way) (marks : SideMarks) (asked : Option BellEntry)
    (hint : Hint) → IsInHand plan es b side marks asked
    → going_due plan (state_of plan es) b side marks ≡ Some hint → IsDue plan es b hint
going_is plan es b side marks asked hint has e =
    let waits : Bool = waits_at_starter (box_plan_of plan b) (box_at (state_of plan es) b) side in
    let told = if_is (waits && not marks.entering) (RingEntering side) hint e in
    let parts = both_true waits (not marks.entering) told.0 in
    subst (λ (h : Hint). IsDue plan es b h) told.1
    (parts.0, not_so marks.entering (HasAnnounced plan es b side) parts.1 has.entering)

-- ---- a box

ring_is : (plan : PlanFields) (es : List Entry) (b : ℕ) (side : Way) (marks : SideMarks) (asked : Option BellEntry)
    (hint : Hint) → IsInHand plan es b side marks asked
    → ring_due plan (state_of plan es) b side marks asked ≡ Some hint → IsDue plan es b hint
ring_is plan es b side marks asked hint has e =
    let back : Option Hint = back_due plan (state_of plan es) b side marks (heard_code asked) in
    elim (or_is back (bell_due plan (state_of plan es) b side) hint e) [
      | inl due ↦ back_is plan es b side marks asked hint has due
      | inr due ↦ bell_is plan es b side hint due
    ]

side_is : (plan : PlanFields) (es : List Entry) (b : ℕ) (side : Way) (marks : SideMarks) (asked : Option BellEntry)
    (hint : Hint) → IsInHand plan es b side marks asked
    → side_due plan (state_of plan es) b side marks asked ≡ One hint → IsDue plan es b hint
side_is plan es b side marks asked hint has e =
    let state : LineState = state_of plan es in
    let ring : Option Hint = ring_due plan state b side marks asked in
    let coming : Option Hint = coming_due plan state b side marks in
    let going : Option Hint = going_due plan state b side marks in
    elim (both_is (due_of ring) (together (due_of coming) (due_of going)) hint e) [
      | inl due ↦ ring_is plan es b side marks asked hint has (of_is ring hint due)
      | inr later ↦ elim (both_is (due_of coming) (due_of going) hint later) [
        | inl due ↦ coming_is plan es b side marks asked hint has (of_is coming hint due)
        | inr due ↦ going_is plan es b side marks asked hint has (of_is going hint due)
      ]
    ]

-- what is told behind a legal journal is due there
pub hint_is : (plan : PlanFields) (es : List Entry) (b : ℕ) (hint : Hint) → IsLegal plan es → b < length plan.boxes
    → hint_of plan (state_of plan es) b es ≡ Some hint → IsDue plan es b hint
unfolding due_with
hint_is plan es b hint legal within e =
    let hand : InHand = in_hand plan b es in
    let up : Due = side_due plan (state_of plan es) b Up hand.marks.up hand.asked.up in
    let down : Due = side_due plan (state_of plan es) b Down hand.marks.down hand.asked.down in
    elim (both_is up down hint (only_is (together up down) hint e)) [
      | inl due ↦
          side_is plan es b Up hand.marks.up hand.asked.up hint (in_hand_is plan es b Up legal within) due
      | inr due ↦
          side_is plan es b Down hand.marks.down hand.asked.down hint (in_hand_is plan es b Down legal within) due
    ]
