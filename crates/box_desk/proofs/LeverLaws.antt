-- The lever frame answers what the law answers.
use Rattle.std.proofs.Common.{◌≡◌, ℕ, ◌-◌, List, [], ◌∷◌, Bool, true, false, if◌then◌else◌, refl, sym, ap, ◌∙◌}
use Rattle.std.specs.Prelude.{Option, Some, None, is_some, slice_set}
use Rattle.locking_table.specs.declared.places.End.{End}
use Rattle.locking_table.specs.declared.places.End.TheVariants as ends
use Rattle.locking_table.specs.declared.row.Holder.{Holder}
use Rattle.locking_table.specs.Meaning.{holder_of}
use Rattle.locking_table.specs.Places.{end_at, is_reversed, stand_at}
use Rattle.line_plan.specs.declared.frame.Kind.{Kind}
use Rattle.line_plan.specs.declared.frame.Kind.TheVariants as kinds
use Rattle.line_plan.specs.declared.signal.Signal.{Signal}
use Rattle.line_plan.specs.Frames.{BoxFields, kind_of, signal_of, track_of}
use Rattle.track_circuits.specs.Tracks.{occupant_of}
use Rattle.lever_frame.specs.declared.reply.LeverReply.{LeverReply}
use Rattle.lever_frame.specs.declared.reply.LeverReply.TheVariants as frame
use Rattle.lever_frame.specs.LeverFrames.{LeverFrameFields, arm_pulled, lock_answer, moved_by, pull_answer, put_answer}
use Rattle.lever_frame.specs.LeverFrames.{lock_reply, pull_reply, pulled as frame_pulled, put_back as frame_put_back}
use Rattle.lever_frame.specs.LeverPlans.{is_spare, lever_plan_of, plan_at}
use Rattle.lever_frame.specs.Replies.{place_reply, row_reply, track_reply}
use Rattle.line_law.specs.declared.call.Reply.{Reply}
use Rattle.line_law.specs.declared.call.Reply.TheVariants.{AlreadyNormal, AlreadyReversed, Put}
use Rattle.line_law.specs.declared.state.BoxState.{BoxState}
use Rattle.line_law.specs.declared.tracks.Standing.{Standing}
use Rattle.line_law.specs.Decisions.{Decision, Here, or_later, unless}
use Rattle.line_law.specs.LeverEnds.{is_reversed_end}
use Rattle.line_law.specs.Levers.{lock_refusal, pull_refusal, pulled, put, put_refusal, row_refusal, spare_refusal}
use Rattle.line_law.specs.Levers.{track_refusal}
use Rattle.line_law.specs.Tracks.{first_standing, standing_at}
use Rattle.box_desk.specs.declared.equipment.Equipment.{Equipment}
use Rattle.box_desk.specs.Boxes.{here_of}
use Rattle.box_desk.specs.LeverReplies.{refusal_of}

place_tells : (there : Reply) (t : Option ℕ) (place : ℕ) (later : LeverReply) (law : Option Standing)
    → refusal_of there later ≡ track_refusal law
    → refusal_of there (place_reply t place later) ≡ track_refusal (standing_at t place law)
place_tells there None place later law same = same
place_tells there (Some train) place later law same = refl

tracks_tell : (there : Reply) (tracks : List (Option ℕ)) (places : List ℕ)
    → refusal_of there (track_reply tracks places) ≡ track_refusal (first_standing tracks places)
tracks_tell there tracks [] = refl
tracks_tell there tracks (place ∷ places) =
    place_tells there (occupant_of tracks place) place (track_reply tracks places) (first_standing tracks places)
    (tracks_tell there tracks places)

row_tells : (there : Reply) (holder : Option Holder) (later : LeverReply) (law : Option Reply)
    → refusal_of there later ≡ law
    → refusal_of there (row_reply holder later) ≡ or_later (row_refusal holder) law
row_tells there None later law same = same
row_tells there (Some holder) later law same = refl

lock_tells : (there : Reply) (box_plan : BoxFields) (here : BoxState) (lever : ℕ)
    → refusal_of there (lock_answer (lever_plan_of box_plan lever) box_plan.rows here.ends lever here.places)
    ≡ lock_refusal box_plan here lever
lock_tells there box_plan here lever =
    row_tells there (holder_of here.ends lever box_plan.rows) (track_reply here.places (track_of box_plan lever))
    (track_refusal (first_standing here.places (track_of box_plan lever)))
    (tracks_tell there here.places (track_of box_plan lever))

spare_tells : (there : Reply) (kind : Option Kind) (later : LeverReply) (law : Option Reply)
    → refusal_of there later ≡ law
    → refusal_of there (if is_spare kind then frame.Spare else later) ≡ or_later (spare_refusal kind) law
spare_tells there None later law same = same
spare_tells there (Some kinds.Signal) later law same = same
spare_tells there (Some kinds.Points) later law same = same
spare_tells there (Some kinds.Lock) later law same = same
spare_tells there (Some kinds.Distant) later law same = same
spare_tells there (Some kinds.Spare) later law same = refl

pull_at : (there : Reply) (end : End) (later : LeverReply) (law : Option Reply) → refusal_of there later ≡ law
    → refusal_of there (if is_reversed (stand_at end) then frame.AlreadyThere else later)
    ≡ (if is_reversed_end end then Some there else law)
pull_at there ends.Normal later law same = same
pull_at there ends.Reversed later law same = refl

put_at : (there : Reply) (end : End) (later : LeverReply) (law : Option Reply) → refusal_of there later ≡ law
    → refusal_of there (if is_reversed (stand_at end) then later else frame.AlreadyThere)
    ≡ (if is_reversed_end end then law else Some there)
put_at there ends.Normal later law same = refl
put_at there ends.Reversed later law same = same

-- what a pull is refused for
pub pull_tells : (box_plan : BoxFields) (here : BoxState) (lever : ℕ)
    → refusal_of AlreadyReversed
    (pull_answer (lever_plan_of box_plan lever) box_plan.rows here.ends lever here.places)
    ≡ pull_refusal box_plan here lever
pull_tells box_plan here lever =
    pull_at AlreadyReversed (end_at here.ends lever)
    (if is_spare (kind_of box_plan lever) then frame.Spare
    else lock_answer (lever_plan_of box_plan lever) box_plan.rows here.ends lever here.places)
    (or_later (spare_refusal (kind_of box_plan lever)) (lock_refusal box_plan here lever))
    (spare_tells AlreadyReversed (kind_of box_plan lever)
    (lock_answer (lever_plan_of box_plan lever) box_plan.rows here.ends lever here.places)
    (lock_refusal box_plan here lever) (lock_tells AlreadyReversed box_plan here lever))

-- what putting a lever back is refused for
pub put_tells : (box_plan : BoxFields) (here : BoxState) (lever : ℕ)
    → refusal_of AlreadyNormal
    (put_answer (lever_plan_of box_plan lever) box_plan.rows here.ends lever here.places)
    ≡ put_refusal box_plan here lever
put_tells box_plan here lever =
    put_at AlreadyNormal (end_at here.ends lever)
    (lock_answer (lever_plan_of box_plan lever) box_plan.rows here.ends lever here.places)
    (lock_refusal box_plan here lever) (lock_tells AlreadyNormal box_plan here lever)

-- ---- how the frame moves, in the box state

freed : (there : Reply) (answer : LeverReply) (after before new : LeverFrameFields) → refusal_of there answer ≡ None
    → new ≡ moved_by answer after before → new ≡ after
freed there frame.Free after before new none moved = moved
freed there frame.AlreadyThere after before new none moved = absurd cc
freed there frame.Spare after before new none moved = absurd cc
freed there (frame.HeldByLever lever row) after before new none moved = absurd cc
freed there (frame.HeldByTrack place train) after before new none moved = absurd cc

held : (there reply : Reply) (answer : LeverReply) (after before new : LeverFrameFields)
    → refusal_of there answer ≡ Some reply → new ≡ moved_by answer after before → new ≡ before
held there reply frame.Free after before new some moved = absurd cc
held there reply frame.AlreadyThere after before new some moved = moved
held there reply frame.Spare after before new some moved = moved
held there reply (frame.HeldByLever lever row) after before new some moved = moved
held there reply (frame.HeldByTrack place train) after before new some moved = moved

arm_goes : (box : Equipment) (lever : ℕ) (signal : Option Signal)
    → record (here_of box) {
      ends = slice_set box.frame.ends (lever - 1) ends.Reversed;
      off = arm_pulled (is_some signal) box.frame.off lever;
    } ≡ pulled (here_of box) lever signal
arm_goes box lever None = refl
arm_goes box lever (Some signal) = refl

-- a lever that is free is reversed, with its arm
pub reversed_here : (box_plan : BoxFields) (box : Equipment) (lever : ℕ) (new : LeverFrameFields)
    → new ≡ frame_pulled box.frame lever
    → (frame_pulled box.frame lever).off ≡ arm_pulled (lever_plan_of box_plan lever).arm box.frame.off lever
    → here_of (record box { frame = new }) ≡ pulled (here_of box) lever (signal_of box_plan lever)
reversed_here box_plan box lever new moved arm =
    ap (λ (f : LeverFrameFields). here_of (record box { frame = f })) moved
    ∙ ap (λ (off : List Bool). record (here_of box) {
      ends = slice_set box.frame.ends (lever - 1) ends.Reversed;
      off = off;
    }) arm
    ∙ arm_goes box lever (signal_of box_plan lever)

-- ---- a lever whose pull nothing refuses

free_end : (end : End) (later : LeverReply)
    → refusal_of AlreadyReversed (if is_reversed (stand_at end) then frame.AlreadyThere else later) ≡ None
    → (end ≡ ends.Normal) × (refusal_of AlreadyReversed later ≡ None)
free_end ends.Normal later none = (refl, none)
free_end ends.Reversed later none = absurd cc

free_plan : (spare : Bool) (later : LeverReply)
    → refusal_of AlreadyReversed (if spare then frame.Spare else later) ≡ None
    → (spare ≡ false) × (refusal_of AlreadyReversed later ≡ None)
free_plan true later none = absurd cc
free_plan false later none = (refl, none)

free_rows : (holder : Option Holder) (later : LeverReply) → refusal_of AlreadyReversed (row_reply holder later) ≡ None
    → holder ≡ None
free_rows None later none = refl
free_rows (Some holder) later none = absurd cc

-- the lever is normal and not spare, and no row of the table holds it
pub record IsFree (box_frame : LeverFrameFields) (lever : ℕ) : Type 0 where
  pub normal : end_at box_frame.ends lever ≡ ends.Normal
  pub used : (plan_at box_frame.levers lever).spare ≡ false
  pub rows : holder_of box_frame.ends lever box_frame.rows ≡ None

is_free : (box_frame : LeverFrameFields) (lever : ℕ) (tracks : List (Option ℕ))
    → refusal_of AlreadyReversed (pull_reply box_frame lever tracks) ≡ None → IsFree box_frame lever
is_free box_frame lever tracks none =
    let lock = lock_reply box_frame lever tracks in
    let spare = (plan_at box_frame.levers lever).spare in
    let at_end = free_end (end_at box_frame.ends lever) (if spare then frame.Spare else lock) none in
    let planned = free_plan spare lock at_end.1 in
    record {
      normal = at_end.0;
      used = planned.0;
      rows = free_rows (holder_of box_frame.ends lever box_frame.rows)
          (track_reply tracks (plan_at box_frame.levers lever).places) planned.1;
    }

-- a lever that the law lets be pulled is free in the frame
pub free_here : (box_plan : BoxFields) (box : Equipment) (lever : ℕ)
    → pull_reply box.frame lever box.tracks
    ≡ pull_answer (lever_plan_of box_plan lever) box_plan.rows box.frame.ends lever box.tracks
    → pull_refusal box_plan (here_of box) lever ≡ None → IsFree box.frame lever
free_here box_plan box lever answer none =
    is_free box.frame lever box.tracks
    (ap (λ (reply : LeverReply). refusal_of AlreadyReversed reply) answer
    ∙ (pull_tells box_plan (here_of box) lever ∙ none))

-- one that is refused stays
refused : (r : Option Reply) (reply : Reply) (here : BoxState) (rest : Decision) → r ≡ Some reply
    → unless r here rest ≡ Here reply here
refused None reply here rest is = absurd cc
refused (Some other) reply here rest is =
    let same : other ≡ reply = cc in ap (λ (x : Reply). Here x here) same

-- a lever that the frame doesn't put back stays, with the law's reply
pub put_refused : (box_plan : BoxFields) (box : Equipment) (lever : ℕ) (answer : LeverReply) (reply : Reply)
    (new : LeverFrameFields) → refusal_of AlreadyNormal answer ≡ put_refusal box_plan (here_of box) lever
    → refusal_of AlreadyNormal answer ≡ Some reply
    → new ≡ moved_by answer (frame_put_back box.frame lever) box.frame
    → put box_plan (here_of box) lever ≡ Here reply (here_of (record box { frame = new }))
put_refused box_plan box lever answer reply new law some moved =
    refused (put_refusal box_plan (here_of box) lever) reply (here_of box) _ (sym law ∙ some)
    ∙ ap (λ (f : LeverFrameFields). Here reply (here_of (record box { frame = f })))
    (sym (held AlreadyNormal reply answer (frame_put_back box.frame lever) box.frame new some moved))

allowed : (r : Option Reply) (here : BoxState) (rest : Decision) → r ≡ None → unless r here rest ≡ rest
allowed None here rest none = refl
allowed (Some reply) here rest none = absurd cc

-- and one that it puts back is back in the law
pub put_done : (box_plan : BoxFields) (box : Equipment) (lever : ℕ) (answer : LeverReply) (new : LeverFrameFields)
    → refusal_of AlreadyNormal answer ≡ put_refusal box_plan (here_of box) lever
    → refusal_of AlreadyNormal answer ≡ None → new ≡ moved_by answer (frame_put_back box.frame lever) box.frame
    → put box_plan (here_of box) lever ≡ Here Put (here_of (record box { frame = new }))
put_done box_plan box lever answer new law none moved =
    allowed (put_refusal box_plan (here_of box) lever) (here_of box) _ (sym law ∙ none)
    ∙ ap (λ (f : LeverFrameFields). Here Put (here_of (record box { frame = f })))
    (sym (freed AlreadyNormal answer (frame_put_back box.frame lever) box.frame new none moved))
