-- What a box refuses a call with is a refusal.
use Rattle.std.proofs.Common.{ℕ, Bool, true, false, cond, IsTrue, Option, Some, None, IfSome, refl}
use Rattle.std.specs.Prelude.{◌==◌, ◌∷◌, nat_lt, not}
use Rattle.block_words.specs.declared.Position.{Position}
use Rattle.block_words.specs.declared.Position.TheVariants as shows
use Rattle.block_words.specs.declared.Way.{Way}
use Rattle.block_words.specs.declared.WelwynState.{WelwynState}
use Rattle.block_words.specs.declared.WelwynState.TheVariants as welwyn
use Rattle.locking_table.specs.Meaning.{holder_of}
use Rattle.locking_table.specs.declared.row.Holder.{Holder}
use Rattle.line_plan.specs.Frames.{BoxFields, kind_of, track_of}
use Rattle.line_plan.specs.Sections.{most_of}
use Rattle.line_plan.specs.declared.berth.Berth.{Berth}
use Rattle.line_plan.specs.declared.frame.Kind.{Kind}
use Rattle.line_plan.specs.declared.frame.Kind.TheVariants as kinds
use Rattle.line_plan.specs.declared.signal.Signal.{Signal}
use Rattle.line_law.specs.declared.call.Reply.{Reply}
use Rattle.line_law.specs.declared.call.Reply.TheVariants as replies
use Rattle.line_law.specs.declared.state.BoxState.{BoxState}
use Rattle.line_law.specs.declared.state.Control.{Control}
use Rattle.line_law.specs.declared.state.Control.TheVariants.{Absolute, Permissive}
use Rattle.line_law.specs.declared.state.Incoming.{Incoming}
use Rattle.line_law.specs.declared.tracks.Standing.{Standing}
use Rattle.line_law.specs.Arrivals.{berth_occupied, berth_refusal, clear_portion_refusal, portion_refusal}
use Rattle.line_law.specs.Controls.{normal_refusal, release_refusal, soon_refusal, wind_refusal, winding_refusal}
use Rattle.line_law.specs.Decisions.{or_later}
use Rattle.line_law.specs.Instruments.{clear_refusal, clearing_refusal, control_refusal, from_refusal, home_refusal}
use Rattle.line_law.specs.Instruments.{position_refusal, same_position, turn_refusal, welwyn_refusal}
use Rattle.line_law.specs.LeverEnds.{first_reversed, is_off, is_pulled}
use Rattle.line_law.specs.Levers.{lock_refusal, pull_refusal, put_refusal, row_refusal, spare_refusal, track_refusal}
use Rattle.line_law.specs.Refusals.{is_refused, is_refused_here, is_refused_there}
use Rattle.line_law.specs.Tracks.{first_standing, train_on}
use Rattle.line_law.specs.Trains.{bring_refusal, danger_refusal, end_of, off_refusal, overrun_refusal, pass_refusal}
use Rattle.line_law.specs.Trains.{place_refusal, standing_refusal, was_brought, way_refusal}
use Rattle.line_law.specs.Ways.{of_way}
use Rattle.line_law.proofs.Found.{both}

-- a reason for a refusal, if there is one, is a refusal by the box alone
abbrev pub Refuses : Option Reply → Type 0
Refuses r = IfSome r (λ reply. IsTrue (is_refused_here reply))

-- a refusal by the box alone is a refusal
pub here_refused : (reply : Reply) → IsTrue (is_refused_here reply) → IsTrue (is_refused reply)
here_refused reply h = (both (is_refused reply) (not (is_refused_there reply)) h).0

later_refuses : (r s : Option Reply) → Refuses r → Refuses s → Refuses (or_later r s)
later_refuses (Some reply) s h k = h
later_refuses None s h k = k

either_refuses : (b : Bool) (r s : Option Reply) → Refuses r → Refuses s → Refuses (cond b r s)
either_refuses true r s h k = h
either_refuses false r s h k = k

-- ---- turn

from_refuses : (position : Position) → Refuses (from_refusal position)
from_refuses shows.Normal = tt
from_refuses position = refl

home_refuses : (lever : Option ℕ) → Refuses (home_refusal lever)
home_refuses None = tt
home_refuses (Some lever) = refl

clearing_refuses : (there : Option Standing) → Refuses (clearing_refusal there)
clearing_refuses None = tt
clearing_refuses (Some there) = refl

welwyn_refuses : (state : WelwynState) → Refuses (welwyn_refusal state)
welwyn_refuses welwyn.Ready = tt
welwyn_refuses state = refl

control_refuses : (control : Control) (here : BoxState) (berth : Berth) → Refuses (control_refusal control here berth)
control_refuses (Absolute state) here berth =
    later_refuses (clearing_refusal (first_standing here.places (berth.place ∷ berth.clearing))) (welwyn_refusal state)
    (clearing_refuses (first_standing here.places (berth.place ∷ berth.clearing))) (welwyn_refuses state)
control_refuses (Permissive out) here berth =
    either_refuses (out == most_of berth.permissive) (Some (replies.CountFull out)) None refl tt

clear_refuses : (here : BoxState) (berth : Berth) (line : Incoming) → Refuses (clear_refusal here berth line)
clear_refuses here berth line =
    later_refuses (from_refusal line.position) _ (from_refuses line.position)
    (later_refuses (home_refusal (first_reversed here.ends berth.homes)) _
    (home_refuses (first_reversed here.ends berth.homes)) (control_refuses line.control here berth))

position_refuses : (position : Position) (here : BoxState) (berth : Berth) (line : Incoming)
    → Refuses (position_refusal position here berth line)
position_refuses shows.LineClear here berth line = clear_refuses here berth line
position_refuses position here berth line = tt

-- what a turn is refused for is a refusal
pub turn_refuses : (here : BoxState) (berth : Berth) (line : Incoming) (position : Position)
    → Refuses (turn_refusal here berth line position)
turn_refuses here berth line position =
    either_refuses (same_position line.position position) (Some replies.AlreadyThere) _ refl
    (position_refuses position here berth line)

-- ---- pull and put

row_refuses : (holder : Option Holder) → Refuses (row_refusal holder)
row_refuses None = tt
row_refuses (Some holder) = refl

track_refuses : (there : Option Standing) → Refuses (track_refusal there)
track_refuses None = tt
track_refuses (Some there) = refl

lock_refuses : (box_plan : BoxFields) (here : BoxState) (lever : ℕ) → Refuses (lock_refusal box_plan here lever)
lock_refuses box_plan here lever =
    later_refuses (row_refusal (holder_of here.ends lever box_plan.rows)) _
    (row_refuses (holder_of here.ends lever box_plan.rows))
    (track_refuses (first_standing here.places (track_of box_plan lever)))

spare_refuses : (kind : Option Kind) → Refuses (spare_refusal kind)
spare_refuses (Some kinds.Spare) = refl
spare_refuses kind = tt

-- what a pull is refused for is a refusal
pub pull_refuses : (box_plan : BoxFields) (here : BoxState) (lever : ℕ) → Refuses (pull_refusal box_plan here lever)
pull_refuses box_plan here lever =
    either_refuses (is_pulled here.ends lever) (Some replies.AlreadyReversed) _ refl
    (later_refuses (spare_refusal (kind_of box_plan lever)) _ (spare_refuses (kind_of box_plan lever))
    (lock_refuses box_plan here lever))

-- what putting a lever back is refused for is a refusal
pub put_refuses : (box_plan : BoxFields) (here : BoxState) (lever : ℕ) → Refuses (put_refusal box_plan here lever)
put_refuses box_plan here lever =
    either_refuses (is_pulled here.ends lever) _ (Some replies.AlreadyNormal) (lock_refuses box_plan here lever) refl

-- ---- bring, pass and overrun

place_refuses : (place : ℕ) (there : Option ℕ) → Refuses (place_refusal place there)
place_refuses place None = tt
place_refuses place (Some there) = refl

-- what bringing a train is refused for is a refusal
pub bring_refuses : (here : BoxState) (train place : ℕ) → Refuses (bring_refusal here train place)
bring_refuses here train place =
    either_refuses (was_brought here.brought train) (Some replies.AlreadyBrought) _ refl
    (place_refuses place (train_on here.places place))

danger_refuses : (off : Bool) → Refuses (danger_refusal off)
danger_refuses true = tt
danger_refuses false = refl

off_refuses : (off : Bool) → Refuses (off_refusal off)
off_refuses true = refl
off_refuses false = tt

standing_refuses : (there : Option Standing) → Refuses (standing_refusal there)
standing_refuses None = tt
standing_refuses (Some there) = refl

way_refuses : (here : BoxState) (signal : Signal) → Refuses (way_refusal here signal)
way_refuses here signal =
    later_refuses (standing_refusal (first_standing here.places signal.over)) _
    (standing_refuses (first_standing here.places signal.over))
    (standing_refuses (first_standing here.places (end_of signal.to)))

-- what passing a signal is refused for is a refusal
pub pass_refuses : (here : BoxState) (signal : Signal) → Refuses (pass_refusal here signal)
pass_refuses here signal =
    later_refuses (danger_refusal (is_off here.off signal.lever)) _
    (danger_refuses (is_off here.off signal.lever)) (way_refuses here signal)

-- what overrunning a signal is refused for is a refusal
pub overrun_refuses : (here : BoxState) (signal : Signal) → Refuses (overrun_refusal here signal)
overrun_refuses here signal =
    later_refuses (off_refusal (is_off here.off signal.lever)) _
    (off_refuses (is_off here.off signal.lever)) (way_refuses here signal)

-- ---- arrivals

portion_refuses : (portion : Option ℕ) → Refuses (portion_refusal portion)
portion_refuses None = tt
portion_refuses (Some train) = refl

occupied_refuses : (there : Option ℕ) → Refuses (berth_occupied there)
occupied_refuses None = tt
occupied_refuses (Some train) = refl

-- what coming into a berth is refused for is a refusal
pub berth_refuses : (here : BoxState) (way : Way) (berth : Berth) → Refuses (berth_refusal here way berth)
berth_refuses here way berth =
    later_refuses (portion_refusal (of_way here.incoming way).portion) _
    (portion_refuses (of_way here.incoming way).portion) (occupied_refuses (train_on here.places berth.place))

-- what clearing a portion away is refused for is a refusal
pub clear_portion_refuses : (portion : Option ℕ) → Refuses (clear_portion_refusal portion)
clear_portion_refuses None = refl
clear_portion_refuses (Some train) = tt

-- ---- wind and release

winding_refuses : (ready_at : Option ℕ) → Refuses (winding_refusal ready_at)
winding_refuses None = tt
winding_refuses (Some ready_at) = refl

normal_refuses : (position : Position) → Refuses (normal_refusal position)
normal_refuses shows.Normal = tt
normal_refuses position = refl

-- what winding is refused for is a refusal
pub wind_refuses : (line : Incoming) → Refuses (wind_refusal line)
wind_refuses line =
    later_refuses (winding_refusal line.ready_at) _ (winding_refuses line.ready_at) (normal_refuses line.position)

soon_refuses : (soon : Bool) (ready_at : ℕ) → Refuses (soon_refusal soon ready_at)
soon_refuses true ready_at = refl
soon_refuses false ready_at = tt

-- what a release is refused for is a refusal
pub release_refuses : (moment : ℕ) (ready_at : Option ℕ) → Refuses (release_refusal moment ready_at)
release_refuses moment None = refl
release_refuses moment (Some ready_at) = soon_refuses (nat_lt moment ready_at) ready_at
