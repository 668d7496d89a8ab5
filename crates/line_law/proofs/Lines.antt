-- What a call that may be made on a line of a plan finds there.
use Rattle.std.specs.Prelude.{◌↔◌, nat_le}
use Rattle.std.proofs.Common.{◌≡◌, ℕ, ◌<◌, ◌≤◌, IsTrue, Some, length, sym, subst, arith}
use Rattle.std.proofs.lemmas.Bool.{leb-true}
use Rattle.std.proofs.lemmas.Bool.Decides.{nat_tests}
use Rattle.line_plan.specs.Plans.{IsPlan, PlanFields}
use Rattle.line_plan.specs.Sections.{IsSection, advance_of, section_berth}
use Rattle.line_plan.specs.declared.berth.Berth.{Berth}
use Rattle.line_plan.specs.declared.section.Section.{Section}
use Rattle.line_law.specs.declared.call.Call.{Call}
use Rattle.line_law.specs.Known.{KnowsCall}
use Rattle.line_law.specs.Law.{MayCall, pair_of}
use Rattle.line_law.specs.Lines.{IsLineOf, PlainState}
use Rattle.line_law.specs.States.{IsStateOf, LineState, box_at}
use Rattle.line_law.proofs.PlanFacts.{plan_sound}
use Rattle.line_law.proofs.SectionSteps.{has_boxes}
use Rattle.line_law.proofs.Sides.{call_within, known_box}

-- a state has the box and the pair of a call
pub record HasPlaces (plan : PlanFields) (b : ℕ) (call : Call) (state : LineState) : Type 0 where
  pub box : b < length state.boxes
  pub pair : pair_of plan b call < length state.pairs

-- a known call finds its box and its pair in the state
pub has_places : (plan : PlanFields) (state : LineState) (b : ℕ) (call : Call) → IsPlan plan → IsStateOf plan state
    → KnowsCall plan b call → HasPlaces plan b call state
has_places plan state b call is h known =
    let within = call_within plan b call is known in
    record { box = omega (arith, h.boxes, within.box); pair = omega (arith, h.pairs, within.pair) }

-- the box of a known call is one of the line in one hand
pub box_fits : (plan : PlanFields) (plain : PlainState) (b : ℕ) (call : Call) → IsLineOf plan plain
    → KnowsCall plan b call → b < length plain.line.boxes
box_fits plan plain b call line known = omega (arith, line.shape.boxes, known_box plan b call known)

-- the pair of a known call is one of the line in one hand
pub pair_fits : (plan : PlanFields) (plain : PlainState) (b : ℕ) (call : Call) → IsPlan plan → IsLineOf plan plain
    → KnowsCall plan b call → pair_of plan b call < length plain.line.pairs
pair_fits plan plain b call is line known = omega (arith, line.shape.pairs, (call_within plan b call is known).pair)

-- the place of a section's berth is one of its box
pub berth_place : (plan : PlanFields) (plain : PlainState) (x : Section) (berth : Berth) → IsPlan plan
    → IsLineOf plan plain → IsSection plan x → section_berth plan x ≡ Some berth
    → berth.place < length (box_at plain.line (advance_of x)).places
berth_place plan plain x berth is line in_line e =
    let has = has_boxes (length plan.boxes) x.rear x.way in_line in
    let says = (plan_sound plan (advance_of x) is has.advance).berth x.way berth e in
    omega (arith, says.place, (line.boxes (advance_of x) has.advance).shape.frame.places)

-- a call that may be made
pub may_exactly : (plan : PlanFields) (state : LineState) (b moment : ℕ) (call : Call) → KnowsCall plan b call
    → moment ≡ (box_at state b).moment → IsTrue (nat_le moment call.moment) ↔ MayCall plan state b call
may_exactly plan state b moment call known same = (
  λ h. record { known = known; later = subst (λ (m : ℕ). m ≤ call.moment) same (leb-true moment call.moment h) },
  λ may. let later : moment ≤ call.moment =
      subst (λ (m : ℕ). m ≤ call.moment) (sym same) may.later in grind (arith, nat_tests),
)
