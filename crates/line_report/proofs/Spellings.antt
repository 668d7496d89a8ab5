-- What a reply of a legal history tells can be spelled.
use Rattle.std.proofs.Common.{ℕ, ◌+◌, ◌<◌, ◌≤◌, ◌^◌, ◌&&◌, ◌==◌, Bool, true, false, cond, IsTrue, Option, Some, None}
use Rattle.std.proofs.Common.{IfSome, length, refl, arith}
use Rattle.std.specs.Prelude.{nat_le}
use Rattle.std.proofs.lemmas.Bool.Decides.{nat_tests}
use Rattle.block_words.specs.declared.WelwynState.{WelwynState}
use Rattle.block_words.specs.declared.WelwynState.TheVariants as welwyn
use Rattle.line_plan.specs.Limits.{most_delay}
use Rattle.line_plan.specs.Plans.{IsPlan, PlanFields, is_train}
use Rattle.line_law.specs.declared.call.Reply.{Reply}
use Rattle.line_law.specs.declared.call.Reply.TheVariants as replies
use Rattle.line_law.specs.Known.{is_code_no, knows_lever, moments_of}
use Rattle.line_law.specs.Law.{box_plan_of}
use Rattle.line_law.specs.Tellings.{HasRow, HoldsBack, IsCode, IsReadyMoment, IsStand, IsTold}
use Rattle.script_text.specs.Moments.{ready_moments}
use Rattle.script_text.specs.Replies.{is_count, is_holding, is_place, is_ready_moment, is_row, is_small}
use Rattle.script_text.specs.Replies.{is_spelled_reply, is_stand, shows_code}

and_true : (a b : Bool) → IsTrue a → IsTrue b → IsTrue (a && b)
and_true true true h g = refl
and_true true false h g = g
and_true false b h g = h

count_is : (k m : ℕ) → k ≤ m → m < 10 ^ 10 → IsTrue (is_count k)
count_is k m h few = grind (arith, nat_tests)

small_is : (out : ℕ) → out ≤ 3 → IsTrue (is_small out)
small_is out h = grind (arith, nat_tests)

stand_is : (plan : PlanFields) (b place train : ℕ) → IsStand plan b place train → IsTrue (is_stand plan b place train)
stand_is plan b place train h =
    let within : IsTrue (is_place plan b place) = (let p = h.0 in grind (arith, nat_tests)) in
    and_true (is_place plan b place) (is_train plan.trains train) within h.1

row_is : (plan : PlanFields) (b row : ℕ) → HasRow plan b row → IsTrue (is_row plan b row)
row_is plan b row h =
    let low : IsTrue (nat_le 1 row) = (let p = h.0 in grind (arith, nat_tests)) in
    let high : IsTrue (nat_le row (length (box_plan_of plan b).rows)) = (let p = h.1 in grind (arith, nat_tests)) in
    and_true (nat_le 1 row) (nat_le row (length (box_plan_of plan b).rows)) low high

shown_is : (plan : PlanFields) (shown : Option ℕ) → IfSome shown (IsCode plan) → IsTrue (shows_code plan shown)
shown_is plan None h = refl
shown_is plan (Some code) h = h

holding_is : (state : WelwynState) → HoldsBack state → IsTrue (is_holding state)
holding_is welwyn.Ready h = absurd h
holding_is welwyn.Given h = refl
holding_is welwyn.Berthed h = refl

-- the longest delay is an hour
within_hour : (first : Bool) → cond first 1440 86400 + cond first 60 3600 ≤ cond first 1500 90000
within_hour true = omega arith
within_hour false = omega arith

ready_is : (plan : PlanFields) (moment : ℕ) → IsPlan plan → IsReadyMoment plan moment
    → IsTrue (is_ready_moment plan moment)
ready_is plan moment is h =
    let hour : moments_of plan.version + most_delay plan.version ≤ ready_moments plan.version =
    within_hour (plan.version == 1) in
    let few : moment < ready_moments plan.version = omega (arith, h, is.delay, hour) in
    grind (arith, nat_tests)

-- a reply that tells what is there after so many calls of a plan's line
pub told_spelled : (reply : Reply) (plan : PlanFields) (b calls : ℕ) → IsPlan plan → calls < 10 ^ 10
    → IsTold plan b calls reply → IsTrue (is_spelled_reply plan b reply)
unfolding IsTold is_spelled_reply
told_spelled (replies.Rung k) plan b calls is few h = count_is k calls h few
told_spelled (replies.BellBusy code k) plan b calls is few h =
    and_true (is_count k) (is_code_no plan code) (count_is k calls h.0 few) h.1
told_spelled (replies.Heard code k) plan b calls is few h =
    and_true (is_count k) (is_code_no plan code) (count_is k calls h.0 few) h.1
told_spelled (replies.Silent k) plan b calls is few h = count_is k calls h few
told_spelled (replies.BellNotYet shown k) plan b calls is few h =
    and_true (is_count k) (shows_code plan shown) (count_is k calls h.0 few) (shown_is plan shown h.1)
told_spelled (replies.Turned v) plan b calls is few h = count_is v calls h few
told_spelled (replies.HomeReversed lever) plan b calls is few h = h
told_spelled (replies.TrackOccupied place train) plan b calls is few h = stand_is plan b place train h
told_spelled (replies.WelwynHolds state) plan b calls is few h = holding_is state h
told_spelled (replies.CountFull out) plan b calls is few h = small_is out h
told_spelled (replies.Seen v) plan b calls is few h = count_is v calls h few
told_spelled (replies.BlockNotYet shown v) plan b calls is few h = count_is v calls h few
told_spelled (replies.PulledUnder v) plan b calls is few h = count_is v calls h few
told_spelled (replies.HeldByLever lever row) plan b calls is few h =
    and_true (knows_lever plan b lever) (is_row plan b row) h.0 (row_is plan b row h.1)
told_spelled (replies.HeldByTrack place train) plan b calls is few h = stand_is plan b place train h
told_spelled (replies.HeldByInstrument way shown spent v) plan b calls is few h = count_is v calls h few
told_spelled (replies.Occupied place train) plan b calls is few h = stand_is plan b place train h
told_spelled (replies.Passed train) plan b calls is few h = h
told_spelled (replies.Entered train k) plan b calls is few h =
    and_true (is_count k) (is_train plan.trains train) (count_is k calls h.0 few) h.1
told_spelled (replies.SectionFull k) plan b calls is few h = count_is k calls h few
told_spelled (replies.Approaching train j) plan b calls is few h =
    and_true (is_count j) (is_train plan.trains train) (count_is j calls h.0 few) h.1
told_spelled (replies.TrainNotYet j) plan b calls is few h = count_is j calls h few
told_spelled (replies.Berthed train j) plan b calls is few h =
    and_true (is_count j) (is_train plan.trains train) (count_is j calls h.0 few) h.1
told_spelled (replies.PartBerthed train j) plan b calls is few h =
    and_true (is_count j) (is_train plan.trains train) (count_is j calls h.0 few) h.1
told_spelled (replies.NoTrainAt j) plan b calls is few h = count_is j calls h few
told_spelled (replies.BerthOccupied train) plan b calls is few h = h
told_spelled (replies.PortionAhead train) plan b calls is few h = h
told_spelled (replies.Cleared train j) plan b calls is few h =
    and_true (is_count j) (is_train plan.trains train) (count_is j calls h.0 few) h.1
told_spelled (replies.Winding ready_at) plan b calls is few h = ready_is plan ready_at is h
told_spelled (replies.TooSoon ready_at) plan b calls is few h = ready_is plan ready_at is h
told_spelled reply plan b calls is few h = refl
