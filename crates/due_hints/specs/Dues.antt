-- What makes a thing due that a hint tells, in the words of the nine rules.
use Rattle.std.specs.Prelude.{◌≡◌, ℕ, true, List, length, None, is_some}
use Rattle.block_words.specs.Ways.{opposite}
use Rattle.block_words.specs.declared.Position.TheVariants as shows
use Rattle.block_words.specs.declared.Way.{Way}
use Rattle.line_plan.specs.Plans.{PlanFields}
use Rattle.line_law.specs.declared.call.Entry.{Entry}
use Rattle.line_law.specs.History.{state_of}
use Rattle.line_law.specs.Law.{box_plan_of}
use Rattle.line_law.specs.States.{box_at}
use Rattle.reg_audit.specs.Behind.{IsLastUnprompted}
use Rattle.reg_audit.specs.Bells.{IsUnprompted, heard, is_class_code, rung, train_entering_section}
use Rattle.reg_audit.specs.Bells.{train_out_of_section}
use Rattle.reg_audit.specs.Breaches.{HasSince, IsEntered, IsLeaving, IsOffered, IsTurned}
use Rattle.box_view.specs.Look.{first_coming, unheard_from}
use Rattle.due_hints.specs.declared.hint.Hint.{Hint}
use Rattle.due_hints.specs.declared.hint.Hint.TheVariants.{RingBack, Hear, TurnTrainOnLine, RingOut, TurnNormal}
use Rattle.due_hints.specs.declared.hint.Hint.TheVariants.{RingEntering}
use Rattle.due_hints.specs.Hints.{incoming_at, is_free_at, waits_at_starter}

-- since Train Out of Section was last rung towards a side, no answer, a train has left the berth of the line from there
abbrev pub HasLeft : PlanFields → List Entry → ℕ → Way → Type 0
HasLeft plan es b side =
    HasSince (IsUnprompted plan es b side (rung train_out_of_section)) (IsLeaving plan es b (opposite side)) (length es)

-- since a train last entered the section towards a side, Train Entering Section was rung towards it, no answer
abbrev pub HasAnnounced : PlanFields → List Entry → ℕ → Way → Type 0
HasAnnounced plan es b side =
    HasSince (IsEntered plan es b side) (IsUnprompted plan es b side (rung train_entering_section)) (length es)

-- since Line Clear was last given on the line from a side, a train was offered from there
abbrev pub HasOffer : PlanFields → List Entry → ℕ → Way → Type 0
HasOffer plan es b side =
    HasSince (IsTurned plan es b (opposite side) shows.LineClear) (IsOffered plan es b side) (length es)

-- What is due is due behind a journal by which
-- - the code was heard last on that side, and is no answer; and if it is an offer, Line Clear was given to it;
-- - a code stands unheard;
-- - a train is on the plain line, under Line Clear;
-- - a train has left the berth, Train Out of Section wasn't rung for it, and no portion is left: so to ring it breaks
--   none of the nine rules;
-- - no train is on the plain line or in the berth, under Train on Line, so the section is empty, and for each that has
--   left Train Out of Section was rung;
-- - a train stands at the starter, whose arm is off, and wasn't announced: if it went on, it would break a rule.
abbrev pub IsDue : PlanFields → List Entry → ℕ → Hint → Type 0
IsDue plan es b (RingBack side code) =
    IsLastUnprompted plan es b side (heard code) (length es)
    × (is_class_code plan code ≡ true → ¬ HasOffer plan es b side)
IsDue plan es b (Hear side) = is_some (unheard_from (state_of plan es) b side) ≡ true
IsDue plan es b (TurnTrainOnLine way) =
    ((incoming_at (state_of plan es) b way).position ≡ shows.LineClear)
    × (is_some (first_coming (state_of plan es) b way) ≡ true)
IsDue plan es b (RingOut side) =
    HasLeft plan es b side × ((incoming_at (state_of plan es) b (opposite side)).portion ≡ None)
IsDue plan es b (TurnNormal way) =
    ((incoming_at (state_of plan es) b way).position ≡ shows.TrainOnLine)
    × (first_coming (state_of plan es) b way ≡ None) × (is_free_at plan (state_of plan es) b way ≡ true)
    × (¬ HasLeft plan es b (opposite way))
IsDue plan es b (RingEntering side) =
    (waits_at_starter (box_plan_of plan b) (box_at (state_of plan es) b) side ≡ true)
    × (¬ HasAnnounced plan es b side)
