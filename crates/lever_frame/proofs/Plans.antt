-- What is kept of the plans of a box's levers, and what the frame of a box answers by them.
use Rattle.std.proofs.Common.{◌≡◌, ◌≢◌, ℕ, ◌+◌, ◌-◌, ◌<◌, List, [], ◌∷◌, ◌++◌, length, replicate, Bool, true, false}
use Rattle.std.proofs.Common.{◌==◌, ◌⊎◌, inl, inr, refl, sym, ap, ◌∙◌, subst, arith, length-append}
use Rattle.std.specs.Prelude.{All, Option, Some, None, is_some, option_map, slice_set}
use Rattle.std.proofs.Math.ListN.{length-set}
use Rattle.std.proofs.lemmas.Bool.Decides.{eqb_tells}
use Rattle.std.proofs.lemmas.List.{get_or_append_left, get_or_push, length-replicate}
use Rattle.locking_table.specs.declared.places.End.{End}
use Rattle.locking_table.specs.declared.places.End.TheVariants.{Normal as NormalEnd, Reversed as ReversedEnd}
use Rattle.locking_table.specs.declared.row.Row.{Row}
use Rattle.locking_table.specs.Places.{IsLever}
use Rattle.bridle_frame.specs.Frames.{FrameState}
use Rattle.tappet_compiler.specs.Compiled.{compiled}
use Rattle.line_plan.specs.Frames.{BoxFields, frame_size, track_of}
use Rattle.lever_frame.specs.declared.lever_plan.LeverPlan.{LeverPlan}
use Rattle.lever_frame.specs.declared.reply.LeverReply.{LeverReply}
use Rattle.lever_frame.specs.LeverPlans.{AreLeverPlans, lever_plan_of, no_lever_plan, plan_at}
use Rattle.lever_frame.specs.declared.reply.LeverReply.TheVariants.{Free, AlreadyThere, Spare, HeldByLever, HeldByTrack}
use Rattle.lever_frame.specs.LeverFrames.{HasPlacesOf, IsFrameOf, IsLeverFrame, LeverFrameFields, arm_pulled, moved_by}
use Rattle.lever_frame.specs.LeverFrames.{passed, pull_answer, pull_reply, pulled, put_answer, put_back, put_reply}
use Rattle.lever_frame.specs.Rows.{rows_of}
use Rattle.lever_frame.proofs.Rows.{made_of, rows_are}

-- ---- how they are made

pub no_plans : (box_plan : BoxFields) → AreLeverPlans box_plan 0 []
no_plans box_plan = record { wide = refl; each = λ lever own. absurd (let o = own in omega arith) }

at_more : (box_plan : BoxFields) (n : ℕ) (plans : List LeverPlan) (plan : LeverPlan) (lever : ℕ) (test : Bool)
    → AreLeverPlans box_plan n plans → plan ≡ lever_plan_of box_plan (n + 1) → IsLever (n + 1) lever
    → ((test ≡ true) × (lever ≡ n + 1)) ⊎ ((test ≡ false) × (lever ≢ n + 1))
    → plan_at (plans ++ plan ∷ []) lever ≡ lever_plan_of box_plan lever
at_more box_plan n plans plan lever test are is own (inl last) =
    let w = are.wide in let e = last.1 in
    get_or_push plans plan no_lever_plan (lever - 1) (omega arith) ∙ (is ∙ ap (lever_plan_of box_plan) (sym e))
at_more box_plan n plans plan lever test are is own (inr before) =
    let w = are.wide in let o = own in let away = before.1 in
    get_or_append_left plans (plan ∷ []) no_lever_plan (lever - 1) (omega arith) ∙ are.each lever (o.0, omega arith)

pub more_plans : (box_plan : BoxFields) (n : ℕ) (plans : List LeverPlan) (plan : LeverPlan)
    → AreLeverPlans box_plan n plans → plan ≡ lever_plan_of box_plan (n + 1)
    → AreLeverPlans box_plan (n + 1) (plans ++ plan ∷ [])
more_plans box_plan n plans plan are is = record {
  wide = let w = are.wide in length-append plans (plan ∷ []) ∙ omega arith;
  each = λ lever own. at_more box_plan n plans plan lever (lever == n + 1) are is own (eqb_tells lever (n + 1));
}

pub is_some_of : {A B : Type 0} (f : A → B) (o : Option A) (p : Option B) → option_map f o ≡ p → is_some o ≡ is_some p
is_some_of f None p h = ap is_some h
is_some_of f (Some x) p h = ap is_some h

-- ---- a frame as it opens

-- a frame with all levers at normal and the bridles of a box's table, with the plans of its levers and no arm off,
-- is a lever frame
pub opens : (box_plan : BoxFields) (frame : FrameState) (levers : List LeverPlan) (off : List Bool)
    → frame ≡ record { ends = replicate (frame_size box_plan.levers) NormalEnd; bridles = compiled 1 box_plan.rows }
    → AreLeverPlans box_plan (frame_size box_plan.levers) levers → off ≡ replicate (frame_size box_plan.levers) false
    → IsLeverFrame frame levers off
opens box_plan frame levers off is are arms =
    let wide : length frame.ends ≡ frame_size box_plan.levers =
    ap (λ (f : FrameState). length f.ends) is ∙ length-replicate (frame_size box_plan.levers) NormalEnd in
    record {
      made = made_of frame.bridles box_plan.rows (ap (λ (f : FrameState). f.bridles) is);
      planned = are.wide ∙ sym wide;
      arms = ap length arms ∙ (length-replicate (frame_size box_plan.levers) false ∙ sym wide);
    }

-- a frame with all levers at normal and the bridles of a box's table, with the plans of its levers, is that of the
-- box
pub opens_of : (box_plan : BoxFields) (frame : FrameState) (levers : List LeverPlan) (off : List Bool)
    → frame ≡ record { ends = replicate (frame_size box_plan.levers) NormalEnd; bridles = compiled 1 box_plan.rows }
    → AreLeverPlans box_plan (frame_size box_plan.levers) levers
    → IsFrameOf box_plan (record { rows = rows_of frame.bridles; levers = levers; ends = frame.ends; off = off })
opens_of box_plan frame levers off is are = record {
  table = rows_are frame.bridles box_plan.rows (ap (λ (f : FrameState). f.bridles) is);
  size = ap (λ (f : FrameState). length f.ends) is ∙ length-replicate (frame_size box_plan.levers) NormalEnd;
  each = are.each;
}

-- ---- the frame of a box answers by the box's plan

-- what is kept of a lever's plan
pub plan_is : (box_plan : BoxFields) (frame : LeverFrameFields) (lever : ℕ) → IsFrameOf box_plan frame
    → IsLever (length frame.ends) lever → plan_at frame.levers lever ≡ lever_plan_of box_plan lever
plan_is box_plan frame lever is own = is.each lever (subst (λ (n : ℕ). IsLever n lever) is.size own)

-- the frame of a box answers a pull by the box's plan of the lever and its table
pub pull_by_plan : (box_plan : BoxFields) (frame : LeverFrameFields) (lever : ℕ) (tracks : List (Option ℕ))
    → IsFrameOf box_plan frame → IsLever (length frame.ends) lever
    → pull_reply frame lever tracks ≡ pull_answer (lever_plan_of box_plan lever) box_plan.rows frame.ends lever tracks
pull_by_plan box_plan frame lever tracks is own =
    ap (λ (plan : LeverPlan). pull_answer plan frame.rows frame.ends lever tracks) (plan_is box_plan frame lever is own)
    ∙ ap (λ (rows : List Row). pull_answer (lever_plan_of box_plan lever) rows frame.ends lever tracks) is.table

-- the frame of a box answers a lever that is put back by the box's plan of the lever and its table
pub put_by_plan : (box_plan : BoxFields) (frame : LeverFrameFields) (lever : ℕ) (tracks : List (Option ℕ))
    → IsFrameOf box_plan frame → IsLever (length frame.ends) lever
    → put_reply frame lever tracks ≡ put_answer (lever_plan_of box_plan lever) box_plan.rows frame.ends lever tracks
put_by_plan box_plan frame lever tracks is own =
    ap (λ (plan : LeverPlan). put_answer plan frame.rows frame.ends lever tracks) (plan_is box_plan frame lever is own)
    ∙ ap (λ (rows : List Row). put_answer (lever_plan_of box_plan lever) rows frame.ends lever tracks) is.table

-- a pull sets the lever's arm off where the box's plan gives the lever one
pub arm_by_plan : (box_plan : BoxFields) (frame : LeverFrameFields) (lever : ℕ) → IsFrameOf box_plan frame
    → IsLever (length frame.ends) lever
    → (pulled frame lever).off ≡ arm_pulled (lever_plan_of box_plan lever).arm frame.off lever
arm_by_plan box_plan frame lever is own =
    ap (λ (plan : LeverPlan). arm_pulled plan.arm frame.off lever) (plan_is box_plan frame lever is own)

-- where the track circuits have every place that locks a lever in the box's plan, they have every place that locks
-- it in the frame
pub places_by_plan : (box_plan : BoxFields) (frame : LeverFrameFields) (lever : ℕ) (tracks : List (Option ℕ))
    → IsFrameOf box_plan frame → IsLever (length frame.ends) lever
    → All (λ place. place < length tracks) (track_of box_plan lever) → HasPlacesOf frame lever tracks
places_by_plan box_plan frame lever tracks is own all =
    subst (λ (plan : LeverPlan). All (λ place. place < length tracks) plan.places)
    (sym (plan_is box_plan frame lever is own)) all

-- ---- the frame of a box stays that of the box

stays_of : (box_plan : BoxFields) (frame : LeverFrameFields) (ends : List End) (off : List Bool)
    → IsFrameOf box_plan frame → length ends ≡ length frame.ends
    → IsFrameOf box_plan (record frame { ends = ends; off = off })
stays_of box_plan frame ends off is wide = record { table = is.table; size = wide ∙ is.size; each = is.each }

moved_of : (box_plan : BoxFields) (reply : LeverReply) (after before : LeverFrameFields) → IsFrameOf box_plan after
    → IsFrameOf box_plan before → IsFrameOf box_plan (moved_by reply after before)
moved_of box_plan Free after before new old = new
moved_of box_plan AlreadyThere after before new old = old
moved_of box_plan Spare after before new old = old
moved_of box_plan (HeldByLever lever row) after before new old = old
moved_of box_plan (HeldByTrack place train) after before new old = old

-- the frame of a box is that of the box still once a lever was pulled, or held
pub pulled_of : (box_plan : BoxFields) (frame : LeverFrameFields) (lever : ℕ) (reply : LeverReply)
    → IsFrameOf box_plan frame → IsFrameOf box_plan (moved_by reply (pulled frame lever) frame)
pulled_of box_plan frame lever reply is =
    moved_of box_plan reply (pulled frame lever) frame
    (stays_of box_plan frame (slice_set frame.ends (lever - 1) ReversedEnd)
    (arm_pulled (plan_at frame.levers lever).arm frame.off lever) is
    (length-set frame.ends (lever - 1) ReversedEnd)) is

-- the frame of a box is that of the box still once a lever was put back, or held
pub put_of : (box_plan : BoxFields) (frame : LeverFrameFields) (lever : ℕ) (reply : LeverReply)
    → IsFrameOf box_plan frame → IsFrameOf box_plan (moved_by reply (put_back frame lever) frame)
put_of box_plan frame lever reply is =
    moved_of box_plan reply (put_back frame lever) frame
    (stays_of box_plan frame (slice_set frame.ends (lever - 1) NormalEnd) (slice_set frame.off (lever - 1) false) is
    (length-set frame.ends (lever - 1) NormalEnd)) is

-- the frame of a box is that of the box still once a train has passed a lever's arm
pub passed_of : (box_plan : BoxFields) (frame : LeverFrameFields) (lever : ℕ) → IsFrameOf box_plan frame
    → IsFrameOf box_plan (passed frame lever)
passed_of box_plan frame lever is = stays_of box_plan frame frame.ends (slice_set frame.off (lever - 1) false) is refl
