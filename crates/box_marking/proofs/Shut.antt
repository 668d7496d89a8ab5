-- Whether the law would refuse Line Clear to a box that makes a call.
use Rattle.std.proofs.Common.{◌≡◌, ℕ, ◌<◌, Bool, true, false, sym, ap, arith}
use Rattle.std.specs.Prelude.{IsTrue, length, nat_lt, ◌&&◌}
use Rattle.std.proofs.lemmas.Bool.Decides.{nat_tests}
use Rattle.block_words.specs.declared.Way.{Way}
use Rattle.line_plan.specs.Plans.{PlanFields}
use Rattle.line_law.specs.declared.call.Call.{Call}
use Rattle.line_law.specs.declared.call.Entry.{Entry}
use Rattle.line_law.specs.Known.{KnowsCall, knows_berth, knows_call, moments_of}
use Rattle.line_law.specs.Law.{MayCall, step}
use Rattle.line_law.specs.Refusals.{is_refused}
use Rattle.line_law.specs.States.{LineState}
use Rattle.line_law.proofs.Sides.{known_parts}
use Rattle.box_marking.specs.Lapses.{clear_call, is_shut}

known_where : (b moment boxes moments : ℕ) (t : Bool) → b < boxes → moment < moments → IsTrue t
    → IsTrue (nat_lt b boxes && nat_lt moment moments && t)
known_where b moment boxes moments t at day h =
    let one : IsTrue (nat_lt b boxes) = grind (arith, nat_tests) in
    let two : IsTrue (nat_lt moment moments) = grind (arith, nat_tests) in
    rw (one, two) h

clear_known : (plan : PlanFields) (b moment : ℕ) (way : Way) → b < length plan.boxes
    → moment < moments_of plan.version → IsTrue (knows_berth plan b way) → KnowsCall plan b (clear_call moment way)
unfolding knows_call
clear_known plan b moment way at day knows =
    known_where b moment (length plan.boxes) (moments_of plan.version) (knows_berth plan b way) at day knows

-- where a box may make a call, it may give Line Clear on a line whose commutator it has, at that moment
pub clear_may : (plan : PlanFields) (state : LineState) (b : ℕ) (call : Call) (way : Way) → MayCall plan state b call
    → IsTrue (knows_berth plan b way) → MayCall plan state b (clear_call call.moment way)
clear_may plan state b call way may knows =
    let parts = known_parts plan b call may.known in
    record { known = clear_known plan b call.moment way parts.box parts.moment knows; later = may.later }

-- without a commutator nothing is refused
pub shut_without : (plan : PlanFields) (state : LineState) (e : Entry) (way : Way)
    → knows_berth plan e.box_no way ≡ false → false ≡ is_shut plan state e way
unfolding is_shut
shut_without plan state e way none =
    sym (ap (λ (has : Bool). has && is_refused (step plan state e.box_no (clear_call e.call.moment way)).reply) none)

-- with one, what the law answers decides
pub shut_with : (plan : PlanFields) (state : LineState) (e : Entry) (way : Way)
    → knows_berth plan e.box_no way ≡ true
    → is_refused (step plan state e.box_no (clear_call e.call.moment way)).reply ≡ is_shut plan state e way
unfolding is_shut
shut_with plan state e way some =
    sym (ap (λ (has : Bool). has && is_refused (step plan state e.box_no (clear_call e.call.moment way)).reply) some)
