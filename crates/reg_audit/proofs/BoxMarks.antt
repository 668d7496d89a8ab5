-- The marks of every box are those of the journal so far.
use Rattle.std.proofs.Common.{◌≡◌, ◌≢◌, ℕ, ◌+◌, ◌<◌, List, length, take, replicate}
use Rattle.std.proofs.Common.{slice_set, inl, inr, refl, sym, ap, subst, ◌∙◌, arith}
use Rattle.std.proofs.lemmas.Bool.Decides.{eqb_tells}
use Rattle.std.proofs.lemmas.List.{get_or-replicate, get_or-set_other, get_or-set_same, length-replicate, length-set}
use Rattle.block_words.specs.Ways.{opposite}
use Rattle.block_words.specs.declared.Position.{Position}
use Rattle.block_words.specs.declared.Position.TheVariants as shows
use Rattle.block_words.specs.declared.Way.{Way}
use Rattle.block_words.specs.declared.Way.TheVariants.{Up, Down}
use Rattle.line_plan.specs.Frames.{BoxFields}
use Rattle.line_plan.specs.Plans.{PlanFields}
use Rattle.line_law.specs.declared.call.Entry.{Entry}
use Rattle.line_law.specs.declared.call.Reply.{Reply}
use Rattle.line_law.specs.declared.state.BoxState.{BoxState}
use Rattle.line_law.specs.declared.ways.ByWay.{ByWay}
use Rattle.line_law.specs.History.{state_of}
use Rattle.line_law.specs.Law.{box_plan_of}
use Rattle.line_law.specs.States.{LineState, box_at, opening_box, opening_state}
use Rattle.line_law.specs.Ways.{of_way}
use Rattle.line_law.proofs.Left.{other_box}
use Rattle.line_law.proofs.Opens.{opening_at}
use Rattle.reg_audit.specs.declared.marks.SideMarks.{SideMarks}
use Rattle.reg_audit.specs.Deeds.{deed_by, deed_of}
use Rattle.reg_audit.specs.Marks.{marks_after, marks_at, opening_marks, opening_side, shown_after}
use Rattle.reg_audit.proofs.Commutators.{shown_in, step_shows}
use Rattle.reg_audit.proofs.LastBells.{last_none}
use Rattle.reg_audit.proofs.Places.{IsEntryAt}
use Rattle.reg_audit.proofs.RuleTells.{HasMarks}
use Rattle.reg_audit.proofs.SideKept.{AreMarks, marks_elsewhere, marks_here}
use Rattle.reg_audit.proofs.Since.{since_none}

-- the marks of all boxes are those of the journal before this place
pub record AllMarks (plan : PlanFields) (es : List Entry) (i : ℕ) (marks : List (ByWay SideMarks)) : Type 0 where
  pub each : length marks ≡ length plan.boxes
  pub has : (b : ℕ) → b < length plan.boxes → HasMarks plan es b i (marks_at marks b)

-- ---- before the first entry

opens_normal : (way : Way) (trains : ℕ) (box_plan : BoxFields)
    → shown_in way (opening_box trains box_plan) ≡ shows.Normal
opens_normal Up trains box_plan = refl
opens_normal Down trains box_plan = refl

opening_shows : (plan : PlanFields) (b : ℕ) (way : Way) → b < length plan.boxes
    → shows.Normal ≡ shown_in way (box_at (opening_state plan) b)
opening_shows plan b way within =
    sym (ap (λ (here : BoxState). shown_in way here) (opening_at plan b within)
    ∙ opens_normal way (length plan.trains) (box_plan_of plan b))

side_first : (plan : PlanFields) (es : List Entry) (b : ℕ) (side : Way) → b < length plan.boxes
    → AreMarks plan es b side 0 opening_side
side_first plan es b side within = record {
  last_bell = last_none plan es b side;
  offered = since_none _ _;
  entering = since_none _ _;
  left = since_none _ _;
  shown = opening_shows plan b (opposite side) within;
}

-- before the first entry the marks of a box are the opening ones
pub box_first : (plan : PlanFields) (es : List Entry) (b : ℕ) → b < length plan.boxes
    → HasMarks plan es b 0 opening_marks
box_first plan es b within Up = side_first plan es b Up within
box_first plan es b within Down = side_first plan es b Down within

-- before the first entry each box has its opening marks
pub marks_first : (plan : PlanFields) (es : List Entry)
    → AllMarks plan es 0 (replicate (length plan.boxes) opening_marks)
marks_first plan es = record {
  each = length-replicate (length plan.boxes) opening_marks;
  has = λ b within.
      subst (λ (marks : ByWay SideMarks). HasMarks plan es b 0 marks)
      (sym (get_or-replicate (length plan.boxes) b opening_marks opening_marks within)) (box_first plan es b within);
}

-- ---- one entry more

-- the marks of all boxes after an entry
abbrev pub marks_then : PlanFields → Entry → List (ByWay SideMarks) → List (ByWay SideMarks)
marks_then plan e marks =
    slice_set marks e.box_no (marks_after plan (deed_of plan e) (marks_at marks e.box_no))

-- what the commutators of the entry's box show after it
shows_then : (plan : PlanFields) (es : List Entry) (i : ℕ) (e : Entry) (way : Way) (before : Position)
    → IsEntryAt plan es i e → before ≡ shown_in way (box_at (state_of plan (take i es)) e.box_no)
    → shown_after way (deed_of plan e) before
    ≡ shown_in way (box_at (state_of plan (take (i + 1) es)) e.box_no)
shows_then plan es i e way before h shown =
    let state : LineState = state_of plan (take i es) in
    let within : e.box_no < length state.boxes =
    let boxes = h.shape.boxes in
    let there = h.box_no in
    omega (arith, boxes, there)
    in
    ap (λ (p : Position). shown_after way (deed_of plan e) p) shown
    ∙ ap (λ (reply : Reply).
    shown_after way (deed_by (box_plan_of plan e.box_no) e.call.act reply) (shown_in way (box_at state e.box_no)))
    h.told
    ∙ sym (step_shows way plan state e.box_no e.call within)
    ∙ ap (λ (s : LineState). shown_in way (box_at s e.box_no)) (sym h.state)

-- behind an entry of a box its marks are those before, moved on by what was done
pub marks_of_box : (plan : PlanFields) (es : List Entry) (i : ℕ) (e : Entry) (marks : ByWay SideMarks)
    → IsEntryAt plan es i e → HasMarks plan es e.box_no i marks
    → HasMarks plan es e.box_no (i + 1) (marks_after plan (deed_of plan e) marks)
marks_of_box plan es i e marks h has Up =
    marks_here plan es Up i e marks.up h.at (shows_then plan es i e Down marks.up.shown h (has Up).shown) (has Up)
marks_of_box plan es i e marks h has Down =
    marks_here plan es Down i e marks.down h.at (shows_then plan es i e Up marks.down.shown h (has Down).shown)
    (has Down)

-- an entry of another box leaves the marks of a box as they are
pub marks_of_other : (plan : PlanFields) (es : List Entry) (i : ℕ) (e : Entry) (b : ℕ) (marks : ByWay SideMarks)
    → IsEntryAt plan es i e → e.box_no ≢ b → HasMarks plan es b i marks → HasMarks plan es b (i + 1) marks
marks_of_other plan es i e b marks h other has side =
    marks_elsewhere plan es b side i e (of_way marks side) h.at other
    (ap (λ (s : LineState). box_at s b) h.state
    ∙ other_box plan (state_of plan (take i es)) e.box_no b e.call (λ f. other (sym f)))
    (has side)

-- an entry changes the marks of its own box alone, by what was done
pub marks_more : (plan : PlanFields) (es : List Entry) (i : ℕ) (e : Entry) (marks : List (ByWay SideMarks))
    → IsEntryAt plan es i e → AllMarks plan es i marks → AllMarks plan es (i + 1) (marks_then plan e marks)
marks_more plan es i e marks h all =
    let after : ByWay SideMarks = marks_after plan (deed_of plan e) (marks_at marks e.box_no) in
    record {
      each = length-set marks e.box_no after ∙ all.each;
      has = λ b within. elim (eqb_tells b e.box_no) [
        | inl same ↦
            let there : e.box_no < length marks =
            let each = all.each in
            let box_no = h.box_no in
            omega (arith, each, box_no)
            in
            subst (λ (c : ℕ). HasMarks plan es c (i + 1) (marks_at (marks_then plan e marks) c)) (sym same.1)
            (subst (λ (m : ByWay SideMarks). HasMarks plan es e.box_no (i + 1) m)
            (sym (get_or-set_same marks e.box_no after opening_marks there))
            (marks_of_box plan es i e (marks_at marks e.box_no) h (all.has e.box_no h.box_no)))
        | inr differ ↦
            subst (λ (m : ByWay SideMarks). HasMarks plan es b (i + 1) m)
            (sym (get_or-set_other marks e.box_no b after opening_marks differ.1))
            (marks_of_other plan es i e b (marks_at marks b) h (λ f. differ.1 (sym f)) (all.has b within))
      ];
    }
