-- A box's lever frame: what it is, what it answers, and how its levers and arms move.
use Rattle.std.specs.Prelude.{◌≡◌, ℕ, ◌-◌, ◌<◌, List, Option, Bool, true, false, if◌then◌else◌, All, length}
use Rattle.std.specs.Prelude.{slice_index_or, slice_set}
use Rattle.locking_table.specs.declared.places.End.{End}
use Rattle.locking_table.specs.declared.places.End.TheVariants.{Normal as NormalEnd, Reversed as ReversedEnd}
use Rattle.locking_table.specs.declared.row.Row.{Row}
use Rattle.locking_table.specs.Meaning.{holder_of}
use Rattle.locking_table.specs.Places.{IsLever, at_ends, is_reversed}
use Rattle.bridle_frame.specs.Frames.{FrameState}
use Rattle.tappet_compiler.specs.Compiled.{compiled}
use Rattle.line_plan.specs.Frames.{BoxFields, frame_size}
use Rattle.lever_frame.specs.declared.lever_plan.LeverPlan.{LeverPlan}
use Rattle.lever_frame.specs.declared.reply.LeverReply.{LeverReply}
use Rattle.lever_frame.specs.declared.reply.LeverReply.TheVariants.{Free, AlreadyThere, Spare, HeldByLever, HeldByTrack}
use Rattle.lever_frame.specs.LeverPlans.{lever_plan_of, plan_at}
use Rattle.lever_frame.specs.Replies.{row_reply, track_reply}
use Rattle.lever_frame.specs.Rows.{rows_of}

-- the rows of the locking table, what is kept of the plan of each lever, the end at which each lever stands, and which
-- levers have their arm off; lever 1 stands first
pub record LeverFrameFields : Type 0 where
  pub rows : List Row
  pub levers : List LeverPlan
  pub ends : List End
  pub off : List Bool

-- what the type keeps: the bridles are those that are compiled of rows, and each lever has its plan and its arm
pub record IsLeverFrame (frame : FrameState) (levers : List LeverPlan) (off : List Bool) : Type 0 where
  pub made : frame.bridles ≡ compiled 1 (rows_of frame.bridles)
  pub planned : length levers ≡ length frame.ends
  pub arms : length off ≡ length frame.ends

-- the lever frame of that box: its rows are those of the box's table, and its levers those of the box
pub record IsFrameOf (box_plan : BoxFields) (frame : LeverFrameFields) : Type 0 where
  pub table : frame.rows ≡ box_plan.rows
  pub size : length frame.ends ≡ frame_size box_plan.levers
  pub each : (lever : ℕ) → IsLever (frame_size box_plan.levers) lever
      → plan_at frame.levers lever ≡ lever_plan_of box_plan lever

-- the track circuits have every place that locks the lever
abbrev pub HasPlacesOf : LeverFrameFields → ℕ → List (Option ℕ) → Type 0
HasPlacesOf frame lever tracks = All (λ place. place < length tracks) (plan_at frame.levers lever).places

-- a lever's arm is off
abbrev pub is_off : List Bool → ℕ → Bool
is_off off lever = slice_index_or off (lever - 1) false

-- ---- what a lever is answered, by its plan, the rows, and the ends at which the levers stand

-- the first row that holds the lever, then the first occupied place that locks it
abbrev pub lock_answer : LeverPlan → List Row → List End → ℕ → List (Option ℕ) → LeverReply
lock_answer plan rows ends lever tracks = row_reply (holder_of ends lever rows) (track_reply tracks plan.places)

-- a reversed lever isn't pulled again, and a spare one never
abbrev pub pull_answer : LeverPlan → List Row → List End → ℕ → List (Option ℕ) → LeverReply
pull_answer plan rows ends lever tracks =
    if is_reversed (at_ends ends lever) then AlreadyThere
    else if plan.spare then Spare else lock_answer plan rows ends lever tracks

-- a normal lever isn't put back
abbrev pub put_answer : LeverPlan → List Row → List End → ℕ → List (Option ℕ) → LeverReply
put_answer plan rows ends lever tracks =
    if is_reversed (at_ends ends lever) then lock_answer plan rows ends lever tracks else AlreadyThere

abbrev pub lock_reply : LeverFrameFields → ℕ → List (Option ℕ) → LeverReply
lock_reply frame lever tracks = lock_answer (plan_at frame.levers lever) frame.rows frame.ends lever tracks

abbrev pub pull_reply : LeverFrameFields → ℕ → List (Option ℕ) → LeverReply
pull_reply frame lever tracks = pull_answer (plan_at frame.levers lever) frame.rows frame.ends lever tracks

abbrev pub put_reply : LeverFrameFields → ℕ → List (Option ℕ) → LeverReply
put_reply frame lever tracks = put_answer (plan_at frame.levers lever) frame.rows frame.ends lever tracks

-- ---- how levers and arms move

-- a pull sets the arm off, where the lever has one
abbrev pub arm_pulled : Bool → List Bool → ℕ → List Bool
arm_pulled arm off lever = if arm then slice_set off (lever - 1) true else off

-- the frame with the lever reversed, and its arm off if it has one
abbrev pub pulled : LeverFrameFields → ℕ → LeverFrameFields
pulled frame lever =
    record frame {
      ends = slice_set frame.ends (lever - 1) ReversedEnd;
      off = arm_pulled (plan_at frame.levers lever).arm frame.off lever;
    }

-- the frame with the lever normal and its arm at danger
abbrev pub put_back : LeverFrameFields → ℕ → LeverFrameFields
put_back frame lever =
    record frame {
      ends = slice_set frame.ends (lever - 1) NormalEnd;
      off = slice_set frame.off (lever - 1) false;
    }

-- the frame with the lever's arm at danger, once a train has passed it
abbrev pub passed : LeverFrameFields → ℕ → LeverFrameFields
passed frame lever = record frame { off = slice_set frame.off (lever - 1) false }

-- a lever moves where nothing holds it
abbrev pub moved_by : LeverReply → LeverFrameFields → LeverFrameFields → LeverFrameFields
moved_by Free after before = after
moved_by AlreadyThere after before = before
moved_by Spare after before = before
moved_by (HeldByLever lever row) after before = before
moved_by (HeldByTrack place train) after before = before
