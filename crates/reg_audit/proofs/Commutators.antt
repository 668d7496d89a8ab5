-- What the commutator of an incoming line shows after a call: another position only where the call turned it.
use Rattle.std.proofs.Common.{◌≡◌, ℕ, ◌<◌, Bool, true, false, cond, IfSome, List, Option, Some, None, length}
use Rattle.std.proofs.Common.{refl, sym, ap, ◌∙◌}
use Rattle.std.proofs.lemmas.List.{get_or-set_same}
use Rattle.block_words.specs.declared.Position.{Position}
use Rattle.block_words.specs.declared.Position.TheVariants as shows
use Rattle.block_words.specs.declared.Way.{Way}
use Rattle.block_words.specs.declared.Way.TheVariants.{Up, Down}
use Rattle.block_words.specs.declared.WelwynState.{WelwynState}
use Rattle.block_words.specs.declared.WelwynState.TheVariants as welwyn
use Rattle.line_plan.specs.Frames.{BoxFields, berth_of, signal_of}
use Rattle.line_plan.specs.Plans.{PlanFields}
use Rattle.line_plan.specs.declared.berth.Berth.{Berth}
use Rattle.line_plan.specs.declared.signal.Signal.{Signal}
use Rattle.line_law.specs.declared.call.Act.{Act}
use Rattle.line_law.specs.declared.call.Act.TheVariants as acts
use Rattle.line_law.specs.declared.call.Call.{Call}
use Rattle.line_law.specs.declared.call.Reply.{Reply}
use Rattle.line_law.specs.declared.call.Reply.TheVariants as replies
use Rattle.line_law.specs.declared.state.Block.{Block}
use Rattle.line_law.specs.declared.state.BoxState.{BoxState}
use Rattle.line_law.specs.declared.state.Control.{Control}
use Rattle.line_law.specs.declared.state.Control.TheVariants.{Absolute, Permissive}
use Rattle.line_law.specs.declared.state.Incoming.{Incoming}
use Rattle.line_law.specs.declared.state.PairState.{PairState}
use Rattle.line_law.specs.declared.state.Passage.{Passage}
use Rattle.line_law.specs.declared.tracks.Standing.{Standing}
use Rattle.line_law.specs.declared.ways.ByWay.{ByWay}
use Rattle.line_law.specs.Arrivals.{next_number, next_train, train_berthed, train_cleared, train_parted}
use Rattle.line_law.specs.Bells.{rung}
use Rattle.line_law.specs.Decisions.{Told, Decision, Here, OnBell, OnBlock, OnPlainLine, on_pair, or_later, unless}
use Rattle.line_law.specs.Instruments.{clearing_refusal, control_refusal, from_refusal, home_refusal}
use Rattle.line_law.specs.Instruments.{line_turned, position_refusal, same_position, turn, turn_refusal, turned}
use Rattle.line_law.specs.Instruments.{welwyn_refusal}
use Rattle.line_law.specs.Law.{at_moment, box_plan_of, decide, link_of, pair_of, step}
use Rattle.line_law.specs.LeverEnds.{first_reversed}
use Rattle.line_law.specs.Levers.{is_unspent_clear, pulled}
use Rattle.line_law.specs.Links.{way_of}
use Rattle.line_law.specs.Outcomes.{Outcome, Refused, Rings, Hears, AwaitsBell, Turns, AwaitsBlock, Pulls, PullsStarter}
use Rattle.line_law.specs.Outcomes.{Puts, Brings, GoesTo, GoesAway, Enters, AwaitsTrain, Berths, Parts, Clears, Winds}
use Rattle.line_law.specs.Outcomes.{Releases}
use Rattle.line_law.specs.States.{LineState, box_at, no_state, pair_at}
use Rattle.line_law.specs.Trains.{holds, is_berth_at, left_by}
use Rattle.line_law.specs.Ways.{of_way, with_way}
use Rattle.line_law.proofs.Outcomes.{outcome_of}
use Rattle.train_laws.proofs.GuardedSections.{elsewhere_weaker, told_either}
use Rattle.train_laws.proofs.OneTrainRear.{awaited_here, heard_here, train_awaited_here}
use Rattle.train_laws.proofs.SectionReplies.{ThenElsewhere}
use Rattle.reg_audit.specs.declared.deed.Deed.{Deed}
use Rattle.reg_audit.specs.declared.deed.Deed.TheVariants as deeds
use Rattle.reg_audit.specs.Deeds.{deed_by, done_if, heard_from, is_turned, went_past}
use Rattle.reg_audit.specs.Marks.{shown_after}

-- what the commutator of an incoming line shows
abbrev pub shown_in : Way → BoxState → Position
shown_in w here = (of_way here.incoming w).position

-- it shows what it has shown
abbrev IsKept : Way → BoxState → BoxState → Type 0
IsKept w before after = shown_in w after ≡ shown_in w before

-- ---- calls that don't turn it

with_kept : (both : ByWay Incoming) (way w : Way) (line : Incoming) → line.position ≡ (of_way both way).position
    → (of_way (with_way both way line) w).position ≡ (of_way both w).position
with_kept both Up Up line e = e
with_kept both Up Down line e = refl
with_kept both Down Up line e = refl
with_kept both Down Down line e = e

same_kept : (w : Way) (here after : BoxState) → after ≡ here → IsKept w here after
same_kept w here after e = ap (λ (h : BoxState). shown_in w h) e

rung_kept : (w : Way) (here : BoxState) (side : Way) (code count : ℕ) (unheard : Option ℕ)
    → IsKept w here (rung here side code count unheard).here
rung_kept w here side code count None = refl
rung_kept w here side code count (Some held) = refl

pulled_kept : (w : Way) (here : BoxState) (lever : ℕ) (signal : Option Signal)
    → IsKept w here (pulled here lever signal)
pulled_kept w here lever None = refl
pulled_kept w here lever (Some signal) = refl

line_left_kept : (there : Bool) (left line : Incoming) → left.position ≡ line.position
    → (cond there left line).position ≡ line.position
line_left_kept true left line e = e
line_left_kept false left line e = refl

left_kept : (w : Way) (box_plan : BoxFields) (here : BoxState) (signal : Signal)
    → IsKept w here (left_by box_plan here signal)
left_kept Up box_plan here signal =
    line_left_kept (is_berth_at box_plan.berth_up signal.from) _ here.incoming.up refl
left_kept Down box_plan here signal =
    line_left_kept (is_berth_at box_plan.berth_down signal.from) _ here.incoming.down refl

berthed_kept : (train : Option ℕ) (w : Way) (here : BoxState) (way : Way) (place j : ℕ) (line : List Passage)
    → IsKept w here (train_berthed train here way place j line).here
berthed_kept None w here way place j line = refl
berthed_kept (Some train) w here way place j line = with_kept here.incoming way w _ refl

parted_kept : (train : Option ℕ) (w : Way) (here : BoxState) (way : Way) (place j : ℕ) (line : List Passage)
    → IsKept w here (train_parted train here way place j line).here
parted_kept None w here way place j line = refl
parted_kept (Some train) w here way place j line = with_kept here.incoming way w _ refl

cleared_kept : (train : Option ℕ) (w : Way) (here : BoxState) (way : Way) (j : ℕ) (line : List Passage)
    → IsKept w here (train_cleared train here way j line).here
cleared_kept None w here way j line = refl
cleared_kept (Some train) w here way j line = with_kept here.incoming way w _ refl

-- the call turns no commutator
abbrev IsNoTurn : Act → Type 0
IsNoTurn (acts.Turn way position) = ⊥
IsNoTurn act = Unit {0}

kept_by : (w : Way) (plan : PlanFields) (box_plan : BoxFields) (here : BoxState) (act : Act) (d : Decision)
    → Outcome plan box_plan here act d → IsNoTurn act → ThenElsewhere d (λ reply h. IsKept w here h)
kept_by w plan box_plan here a d (Refused act reply refused) other = refl
kept_by w plan box_plan here a d (Rings side code) other = λ bell. rung_kept w here side code bell.count bell.unheard
kept_by w plan box_plan here a d (Hears side) other =
    λ bell. same_kept w here _ (heard_here here bell.count bell.unheard)
kept_by w plan box_plan here a d (AwaitsBell side code) other =
    λ bell. same_kept w here _ (awaited_here here code bell.count bell.unheard)
kept_by w plan box_plan here a d (Turns way position berth at free) other = absurd other
kept_by w plan box_plan here a d (AwaitsBlock way position) other =
    λ block. told_either (same_position block.position position) _ _ (λ (told : Told Block). IsKept w here told.here)
    refl refl
kept_by w plan box_plan here a d (Pulls lever none free) other = pulled_kept w here lever (signal_of box_plan lever)
kept_by w plan box_plan here a d (PullsStarter lever way starts free) other =
    λ block. told_either (is_unspent_clear block) _ _ (λ (told : Told Block). IsKept w here told.here)
    (pulled_kept w here lever (signal_of box_plan lever)) refl
kept_by w plan box_plan here a d (Puts lever free) other = refl
kept_by w plan box_plan here a d (Brings train free) other = refl
kept_by w plan box_plan here a d (GoesTo act lever signal train place found to there moves) other =
    left_kept w box_plan here signal
kept_by w plan box_plan here a d (GoesAway act lever signal train found to there moves) other =
    left_kept w box_plan here signal
kept_by w plan box_plan here a d (Enters act lever signal train way found to there moves) other =
    λ line. told_either (holds line _) _ _ (λ (told : Told (List Passage)). IsKept w here told.here) refl
    (left_kept w box_plan here signal)
kept_by w plan box_plan here a d (AwaitsTrain way) other =
    λ line. same_kept w here _ (train_awaited_here (next_train here way line) here (next_number here way) line)
kept_by w plan box_plan here a d (Berths way berth at free) other =
    λ line. berthed_kept (next_train here way line) w here way berth.place (next_number here way) line
kept_by w plan box_plan here a d (Parts way berth at free) other =
    λ line. parted_kept (next_train here way line) w here way berth.place (next_number here way) line
kept_by w plan box_plan here a d (Clears way free) other =
    λ line. cleared_kept (next_train here way line) w here way (next_number here way) line
kept_by w plan box_plan here a d (Winds way free) other = with_kept here.incoming way w _ refl
kept_by w plan box_plan here a d (Releases way free) other = with_kept here.incoming way w _ refl

-- what is done by such a call turns no commutator
abbrev IsStill : Way → Deed → Type 0
IsStill w deed = (before : Position) → shown_after w deed before ≡ before

still_if : (w : Way) (done : Bool) (deed : Deed) → IsStill w deed → IsStill w (done_if done deed)
still_if w true deed still = still
still_if w false deed still = λ before. refl

heard_still : (w side : Way) (reply : Reply) → IsStill w (heard_from side reply)
heard_still w side (replies.Heard code k) = λ before. refl
heard_still w side reply = λ before. refl

went_still : (w : Way) (box_plan : BoxFields) (signal : Option Signal) (at_danger : Bool) (reply : Reply)
    → IsStill w (went_past box_plan signal at_danger reply)
went_still w box_plan signal at_danger (replies.Passed train) = λ before. refl
went_still w box_plan signal at_danger (replies.Entered train k) = λ before. refl
went_still w box_plan signal at_danger reply = λ before. refl

act_still : (w : Way) (box_plan : BoxFields) (act : Act) (reply : Reply) → IsNoTurn act
    → IsStill w (deed_by box_plan act reply)
act_still w box_plan (acts.Ring side code) reply other = still_if w _ (deeds.Rang side code) (λ before. refl)
act_still w box_plan (acts.Hear side) reply other = heard_still w side reply
act_still w box_plan (acts.AwaitBell side code) reply other = heard_still w side reply
act_still w box_plan (acts.Turn way position) reply other = absurd other
act_still w box_plan (acts.Pass lever) reply other = went_still w box_plan (signal_of box_plan lever) false reply
act_still w box_plan (acts.Overrun lever) reply other = went_still w box_plan (signal_of box_plan lever) true reply
act_still w box_plan (acts.Berth way) reply other = still_if w _ (deeds.Berthed way) (λ before. refl)
act_still w box_plan (acts.BerthPart way) reply other = still_if w _ (deeds.PartBerthed way) (λ before. refl)
act_still w box_plan (acts.Release way) reply other = still_if w _ deeds.Released (λ before. refl)
act_still w box_plan act reply other = λ before. refl

-- ---- a turn

-- a refusal doesn't say that it was turned
abbrev IsNotTurned : Option Reply → Type 0
IsNotTurned refusal = IfSome refusal (λ reply. is_turned reply ≡ false)

later_not : (first later : Option Reply) → IsNotTurned first → IsNotTurned later → IsNotTurned (or_later first later)
later_not (Some reply) later p q = p
later_not None later p q = q

if_not : (c : Bool) (first later : Option Reply) → IsNotTurned first → IsNotTurned later
    → IsNotTurned (cond c first later)
if_not true first later p q = p
if_not false first later p q = q

from_not : (position : Position) → IsNotTurned (from_refusal position)
from_not shows.Normal = tt
from_not shows.LineClear = refl
from_not shows.TrainOnLine = refl

home_not : (lever : Option ℕ) → IsNotTurned (home_refusal lever)
home_not None = tt
home_not (Some lever) = refl

clearing_not : (there : Option Standing) → IsNotTurned (clearing_refusal there)
clearing_not None = tt
clearing_not (Some there) = refl

welwyn_not : (state : WelwynState) → IsNotTurned (welwyn_refusal state)
welwyn_not welwyn.Ready = tt
welwyn_not welwyn.Given = refl
welwyn_not welwyn.Berthed = refl

control_not : (control : Control) (here : BoxState) (berth : Berth)
    → IsNotTurned (control_refusal control here berth)
control_not (Absolute state) here berth = later_not _ _ (clearing_not _) (welwyn_not state)
control_not (Permissive out) here berth = if_not _ (Some (replies.CountFull out)) None refl tt

position_not : (position : Position) (here : BoxState) (berth : Berth) (line : Incoming)
    → IsNotTurned (position_refusal position here berth line)
position_not shows.Normal here berth line = tt
position_not shows.LineClear here berth line =
    later_not (from_refusal line.position) _ (from_not line.position)
    (later_not (home_refusal (first_reversed here.ends berth.homes)) _ (home_not _)
    (control_not line.control here berth))
position_not shows.TrainOnLine here berth line = tt

turn_not : (here : BoxState) (berth : Berth) (line : Incoming) (position : Position)
    → IsNotTurned (turn_refusal here berth line position)
turn_not here berth line position =
    if_not (same_position line.position position) (Some replies.AlreadyThere) _ refl
    (position_not position here berth line)

line_shows : (line : Incoming) (position : Position) (v : ℕ) → (line_turned line position v).position ≡ position
line_shows line shows.Normal v = refl
line_shows line shows.LineClear v = refl
line_shows line shows.TrainOnLine v = refl

turned_shows : (w : Way) (here : BoxState) (way : Way) (position : Position) (block : Block)
    → shown_in w (turned here way position block).here
    ≡ shown_after w (deeds.Turned way position) (shown_in w here)
turned_shows Up here Up position block = line_shows here.incoming.up position _
turned_shows Up here Down position block = refl
turned_shows Down here Up position block = refl
turned_shows Down here Down position block = line_shows here.incoming.down position _

-- what a call leaves shown, by what it has done
abbrev ShowsBy : Way → BoxState → Act → BoxFields → Reply → BoxState → Type 0
ShowsBy w before act box_plan reply after =
    shown_in w after ≡ shown_after w (deed_by box_plan act reply) (shown_in w before)

refused_shows : (refusal : Option Reply) (w : Way) (here : BoxState) (way : Way) (position : Position)
    (box_plan : BoxFields) → IsNotTurned refusal
    → ThenElsewhere (unless refusal here (OnBlock (turned here way position)))
    (λ reply h. ShowsBy w here (acts.Turn way position) box_plan reply h)
refused_shows (Some reply) w here way position box_plan not_turned =
    sym (ap (λ (done : Bool). shown_after w (done_if done (deeds.Turned way position)) (shown_in w here)) not_turned)
refused_shows None w here way position box_plan not_turned = λ block. turned_shows w here way position block

turn_shows : (berth : Option Berth) (w : Way) (here : BoxState) (way : Way) (position : Position)
    (box_plan : BoxFields) → ThenElsewhere (turn berth here way position)
    (λ reply h. ShowsBy w here (acts.Turn way position) box_plan reply h)
turn_shows None w here way position box_plan = refl
turn_shows (Some berth) w here way position box_plan =
    refused_shows (turn_refusal here berth (of_way here.incoming way) position) w here way position box_plan
    (turn_not here berth (of_way here.incoming way) position)

-- ---- any call

other_shows : (w : Way) (plan : PlanFields) (box_plan : BoxFields) (here : BoxState) (act : Act) → IsNoTurn act
    → ThenElsewhere (decide plan box_plan act here) (λ reply h. ShowsBy w here act box_plan reply h)
other_shows w plan box_plan here act other =
    elsewhere_weaker (decide plan box_plan act here) (λ reply h. IsKept w here h)
    (λ reply h. ShowsBy w here act box_plan reply h)
    (λ reply h kept. kept ∙ sym (act_still w box_plan act reply other (shown_in w here)))
    (kept_by w plan box_plan here act _ (outcome_of plan box_plan act here) other)

call_shows : (w : Way) (plan : PlanFields) (box_plan : BoxFields) (here : BoxState) (act : Act)
    → ThenElsewhere (decide plan box_plan act here) (λ reply h. ShowsBy w here act box_plan reply h)
call_shows w plan box_plan here (acts.Turn way position) =
    turn_shows (berth_of box_plan way) w here way position box_plan
call_shows w plan box_plan here act = other_shows w plan box_plan here act tt

on_any : (d : Decision) (v : Way) (pair : PairState) (P : Reply → BoxState → Type 0) → ThenElsewhere d P
    → P (on_pair v d pair).reply (on_pair v d pair).here
on_any (Here reply here) v pair P h = h
on_any (OnBell act) v pair P h = h (of_way pair.bells v)
on_any (OnBlock act) v pair P h = h (of_way pair.blocks v)
on_any (OnPlainLine act) v pair P h = h (of_way pair.lines v)

-- what the commutators of its box show after a call
pub step_shows : (w : Way) (plan : PlanFields) (state : LineState) (b : ℕ) (call : Call) → b < length state.boxes
    → shown_in w (box_at (step plan state b call).after b)
    ≡ shown_after w (deed_by (box_plan_of plan b) call.act (step plan state b call).reply)
    (shown_in w (box_at state b))
unfolding step
step_shows w plan state b call within =
    let box_plan : BoxFields = box_plan_of plan b in
    let here : BoxState = at_moment (box_at state b) call.moment in
    let pair : PairState = pair_at state (pair_of plan b call) in
    let d : Decision = decide plan box_plan call.act here in
    let v : Way = way_of (link_of box_plan call.act) in
    let told = on_any d v pair (λ reply h. ShowsBy w here call.act box_plan reply h)
    (call_shows w plan box_plan here call.act) in
    ap (λ (h : BoxState). shown_in w h)
    (get_or-set_same state.boxes b (on_pair v d pair).here no_state within) ∙ told
