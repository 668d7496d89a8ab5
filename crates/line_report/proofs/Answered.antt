-- Every reply of a legal history is a reply of its call's row.
use Rattle.std.proofs.Common.{◌≡◌, ℕ, ◌+◌, ◌-◌, ◌<◌, ◌∷◌, List, [], Bool, true, false, cond, IsTrue, Option}
use Rattle.std.proofs.Common.{Some, None, IfSome, All, length, refl, sym, subst, arith}
use Rattle.std.specs.Prelude.{◌==◌, nat_lt, is_some}
use Rattle.std.proofs.lemmas.Bool.Decides.{nat_tests}
use Rattle.std.proofs.lemmas.List.Elements.{All-cons, All-nil}
use Rattle.block_words.specs.declared.Position.{Position}
use Rattle.block_words.specs.declared.Position.TheVariants as shows
use Rattle.block_words.specs.declared.Way.{Way}
use Rattle.block_words.specs.declared.Way.TheVariants.{Up, Down}
use Rattle.block_words.specs.declared.WelwynState.{WelwynState}
use Rattle.block_words.specs.declared.WelwynState.TheVariants as welwyn
use Rattle.locking_table.specs.Meaning.{holder_of}
use Rattle.locking_table.specs.declared.row.Holder.{Holder}
use Rattle.line_plan.specs.Frames.{BoxFields, berth_of, kind_of, signal_of, track_of}
use Rattle.line_plan.specs.Plans.{IsPlan, PlanFields, train_at}
use Rattle.line_plan.specs.Sections.{advance_of, most_of}
use Rattle.line_plan.specs.Ways.{comes_in, leaves}
use Rattle.line_plan.specs.declared.berth.Berth.{Berth}
use Rattle.line_plan.specs.declared.frame.Kind.{Kind}
use Rattle.line_plan.specs.declared.frame.Kind.TheVariants as kinds
use Rattle.line_plan.specs.declared.section.Section.{Section}
use Rattle.line_plan.specs.declared.signal.Signal.{Signal}
use Rattle.line_plan.specs.declared.signal.To.{To}
use Rattle.line_plan.specs.declared.signal.To.TheVariants as leads
use Rattle.line_law.specs.declared.call.Act.{Act}
use Rattle.line_law.specs.declared.call.Act.TheVariants as acts
use Rattle.line_law.specs.declared.call.Call.{Call}
use Rattle.line_law.specs.declared.call.Entry.{Entry}
use Rattle.line_law.specs.declared.call.Reply.{Reply}
use Rattle.line_law.specs.declared.call.Reply.TheVariants as replies
use Rattle.line_law.specs.declared.link.Link.TheVariants.{Out, In}
use Rattle.line_law.specs.declared.state.BoxState.{BoxState}
use Rattle.line_law.specs.declared.state.Control.{Control}
use Rattle.line_law.specs.declared.state.Control.TheVariants.{Absolute, Permissive}
use Rattle.line_law.specs.declared.state.Incoming.{Incoming}
use Rattle.line_law.specs.declared.state.PairState.{PairState}
use Rattle.line_law.specs.declared.state.Passage.{Passage}
use Rattle.line_law.specs.declared.tracks.Standing.{Standing}
use Rattle.line_law.specs.Arrivals.{berth, berth_occupied, berth_part, berth_refusal, berthed, clear_portion_refusal}
use Rattle.line_law.specs.Arrivals.{cleared, first_train, next_number, next_train, parted, portion_refusal}
use Rattle.line_law.specs.Arrivals.{train_awaited, train_berthed, train_cleared, train_parted}
use Rattle.line_law.specs.Bells.{awaited, heard, rung}
use Rattle.line_law.specs.Controls.{normal_refusal, release_refusal, soon_refusal, wind_refusal, winding_refusal}
use Rattle.line_law.specs.Controls.{released_here, wound_here}
use Rattle.line_law.specs.Decisions.{Decision, Here, OnBlock, OnPlainLine, Told, on_pair, or_later, unless}
use Rattle.line_law.specs.History.{IsLegal, IsLegalFrom, after_entry}
use Rattle.line_law.specs.Instruments.{clearing_refusal, control_refusal, from_refusal, home_refusal}
use Rattle.line_law.specs.Instruments.{position_refusal, same_position, turn, turn_refusal, turned, welwyn_refusal}
use Rattle.line_law.specs.Known.{KnowsCall, knows_act}
use Rattle.line_law.specs.Law.{at_moment, box_plan_of, decide, link_of, pair_of, step}
use Rattle.line_law.specs.LeverEnds.{first_reversed, is_off, is_pulled}
use Rattle.line_law.specs.Levers.{is_unspent_clear, pull_at, pull_refusal, pulled, put_back, put_refusal}
use Rattle.line_law.specs.Levers.{row_refusal, spare_refusal, starter_way, track_refusal}
use Rattle.line_law.specs.Lines.{AreNumbered, IsFirst, IsLineOf, PlainState, plain_line_of}
use Rattle.line_law.specs.Links.{pair_no, way_of}
use Rattle.line_law.specs.States.{box_at, opening_state, pair_at}
use Rattle.line_law.specs.Tracks.{first_standing, train_on}
use Rattle.line_law.specs.Trains.{bring_refusal, brought_here, danger_refusal, end_of, go, holds, left_by, move}
use Rattle.line_law.specs.Trains.{off_refusal, overrun_refusal, overrun_signal, pass_refusal, pass_signal}
use Rattle.line_law.specs.Trains.{place_refusal, standing_refusal, was_brought, way_refusal}
use Rattle.line_law.specs.Ways.{of_way}
use Rattle.line_law.proofs.Found.{both}
use Rattle.line_law.proofs.Keeping.{stays}
use Rattle.line_law.proofs.Opens.{opens}
use Rattle.line_law.proofs.Sides.{known_parts}
use Rattle.script_text.specs.PossibleReplies.{answers_await_bell, answers_await_block, answers_await_train}
use Rattle.script_text.specs.PossibleReplies.{answers_berth, answers_berth_part, answers_bring, answers_clear_portion}
use Rattle.script_text.specs.PossibleReplies.{answers_hear, answers_overrun, answers_pass, answers_pull, answers_put}
use Rattle.script_text.specs.PossibleReplies.{answers_release, answers_ring, answers_turn, answers_wind, may_answer}
use Rattle.line_report.specs.Spelled.{IsAnswered}

-- ---- refusals of a row

-- a reason for a refusal, if there is one, is a reply of the row
abbrev Row : (Reply → Bool) → Option Reply → Type 0
Row answers r = IfSome r (λ reply. IsTrue (answers reply))

later_row : (answers : Reply → Bool) (r s : Option Reply) → Row answers r → Row answers s → Row answers (or_later r s)
later_row answers (Some reply) s h k = h
later_row answers None s h k = k

either_row : (answers : Reply → Bool) (b : Bool) (r s : Option Reply) → Row answers r → Row answers s
    → Row answers (cond b r s)
either_row answers true r s h k = h
either_row answers false r s h k = k

either : {W : Type 0} (answers : Reply → Bool) (b : Bool) (x y : Told W) → IsTrue (answers x.reply)
    → IsTrue (answers y.reply) → IsTrue (answers (cond b x y).reply)
either answers true x y h k = h
either answers false x y h k = k

unless_row : (answers : Reply → Bool) (r : Option Reply) (here : BoxState) (rest : Decision) (v : Way)
    (pair : PairState)
    → Row answers r → IsTrue (answers (on_pair v rest pair).reply)
    → IsTrue (answers (on_pair v (unless r here rest) pair).reply)
unless_row answers (Some reply) here rest v pair h k = h
unless_row answers None here rest v pair h k = k

-- ---- bells

ring_row : (here : BoxState) (side : Way) (code count : ℕ) (unheard : Option ℕ)
    → IsTrue (answers_ring (rung here side code count unheard).reply)
ring_row here side code count None = refl
ring_row here side code count (Some held) = refl

hear_row : (here : BoxState) (count : ℕ) (unheard : Option ℕ) → IsTrue (answers_hear (heard here count unheard).reply)
hear_row here count None = refl
hear_row here count (Some code) = refl

await_bell_row : (here : BoxState) (code count : ℕ) (unheard : Option ℕ)
    → IsTrue (answers_await_bell (awaited here code count unheard).reply)
await_bell_row here code count None = refl
await_bell_row here code count (Some held) = either answers_await_bell (held == code) _ _ refl refl

-- ---- instruments

from_row : (position : Position) → Row answers_turn (from_refusal position)
from_row shows.Normal = tt
from_row shows.LineClear = refl
from_row shows.TrainOnLine = refl

home_row : (lever : Option ℕ) → Row answers_turn (home_refusal lever)
home_row None = tt
home_row (Some lever) = refl

clearing_row : (there : Option Standing) → Row answers_turn (clearing_refusal there)
clearing_row None = tt
clearing_row (Some there) = refl

welwyn_row : (state : WelwynState) → Row answers_turn (welwyn_refusal state)
welwyn_row welwyn.Ready = tt
welwyn_row welwyn.Given = refl
welwyn_row welwyn.Berthed = refl

control_row : (control : Control) (here : BoxState) (b : Berth) → Row answers_turn (control_refusal control here b)
control_row (Absolute state) here b =
    later_row answers_turn (clearing_refusal (first_standing here.places (b.place ∷ b.clearing))) (welwyn_refusal state)
    (clearing_row (first_standing here.places (b.place ∷ b.clearing))) (welwyn_row state)
control_row (Permissive out) here b =
    either_row answers_turn (out == most_of b.permissive) (Some (replies.CountFull out)) None refl tt

position_row : (position : Position) (here : BoxState) (b : Berth) (line : Incoming)
    → Row answers_turn (position_refusal position here b line)
position_row shows.Normal here b line = tt
position_row shows.LineClear here b line =
    later_row answers_turn (from_refusal line.position) _ (from_row line.position)
    (later_row answers_turn (home_refusal (first_reversed here.ends b.homes)) _
    (home_row (first_reversed here.ends b.homes)) (control_row line.control here b))
position_row shows.TrainOnLine here b line = tt

turn_row : (o : Option Berth) (here : BoxState) (way : Way) (position : Position) (v : Way) (pair : PairState)
    → IsTrue (answers_turn (on_pair v (turn o here way position) pair).reply)
turn_row None here way position v pair = refl
turn_row (Some b) here way position v pair =
    unless_row answers_turn (turn_refusal here b (of_way here.incoming way) position) here
    (OnBlock (turned here way position)) v pair
    (either_row answers_turn (same_position (of_way here.incoming way).position position) (Some replies.AlreadyThere) _
    refl (position_row position here b (of_way here.incoming way))) refl

-- ---- levers

row_pull : (holder : Option Holder) → Row answers_pull (row_refusal holder)
row_pull None = tt
row_pull (Some holder) = refl

track_pull : (there : Option Standing) → Row answers_pull (track_refusal there)
track_pull None = tt
track_pull (Some there) = refl

spare_pull : (kind : Option Kind) → Row answers_pull (spare_refusal kind)
spare_pull None = tt
spare_pull (Some kinds.Signal) = tt
spare_pull (Some kinds.Points) = tt
spare_pull (Some kinds.Lock) = tt
spare_pull (Some kinds.Distant) = tt
spare_pull (Some kinds.Spare) = refl

pull_row : (bp : BoxFields) (here : BoxState) (lever : ℕ) → Row answers_pull (pull_refusal bp here lever)
pull_row bp here lever =
    either_row answers_pull (is_pulled here.ends lever) (Some replies.AlreadyReversed) _ refl
    (later_row answers_pull (spare_refusal (kind_of bp lever)) _ (spare_pull (kind_of bp lever))
    (later_row answers_pull (row_refusal (holder_of here.ends lever bp.rows)) _
    (row_pull (holder_of here.ends lever bp.rows)) (track_pull (first_standing here.places (track_of bp lever)))))

pulled_row : (o : Option Way) (here after : BoxState) (v : Way) (pair : PairState)
    → IsTrue (answers_pull (on_pair v (pull_at here after o) pair).reply)
pulled_row None here after v pair = refl
pulled_row (Some way) here after v pair =
    either answers_pull (is_unspent_clear (of_way pair.blocks v)) _ _ refl refl

row_put : (holder : Option Holder) → Row answers_put (row_refusal holder)
row_put None = tt
row_put (Some holder) = refl

track_put : (there : Option Standing) → Row answers_put (track_refusal there)
track_put None = tt
track_put (Some there) = refl

put_row : (bp : BoxFields) (here : BoxState) (lever : ℕ) → Row answers_put (put_refusal bp here lever)
put_row bp here lever =
    either_row answers_put (is_pulled here.ends lever) _ (Some replies.AlreadyNormal)
    (later_row answers_put (row_refusal (holder_of here.ends lever bp.rows)) _
    (row_put (holder_of here.ends lever bp.rows)) (track_put (first_standing here.places (track_of bp lever)))) refl

-- ---- trains

place_row : (place : ℕ) (there : Option ℕ) → Row answers_bring (place_refusal place there)
place_row place None = tt
place_row place (Some there) = refl

bring_row : (here : BoxState) (train place : ℕ) → Row answers_bring (bring_refusal here train place)
bring_row here train place =
    either_row answers_bring (was_brought here.brought train) (Some replies.AlreadyBrought) _ refl
    (place_row place (train_on here.places place))

-- a reply of every move is one of both rows
record Moves (answers : Reply → Bool) : Type 0 where
  no_train : IsTrue (answers replies.NoTrain)
  occupied : (place train : ℕ) → IsTrue (answers (replies.Occupied place train))
  passed : (train : ℕ) → IsTrue (answers (replies.Passed train))
  entered : (k train : ℕ) → IsTrue (answers (replies.Entered train k))
  full : (k : ℕ) → IsTrue (answers (replies.SectionFull k))

standing_row : (answers : Reply → Bool) (there : Option Standing) → Moves answers → Row answers (standing_refusal there)
standing_row answers None moves = tt
standing_row answers (Some there) moves = moves.occupied there.place there.train

way_row : (answers : Reply → Bool) (here : BoxState) (signal : Signal) → Moves answers
    → Row answers (way_refusal here signal)
way_row answers here signal moves =
    later_row answers (standing_refusal (first_standing here.places signal.over)) _
    (standing_row answers (first_standing here.places signal.over) moves)
    (standing_row answers (first_standing here.places (end_of signal.to)) moves)

go_row : (answers : Reply → Bool) (to : To) (here left : BoxState) (train : ℕ) (v : Way) (pair : PairState)
    → Moves answers
    → IsTrue (answers (on_pair v (go here left train to) pair).reply)
go_row answers (leads.Place place) here left train v pair moves = moves.passed train
go_row answers (leads.Section way) here left train v pair moves =
    either answers (holds (of_way pair.lines v) (of_way here.sent way + 1)) _ _
    (moves.full (of_way here.sent way + 1)) (moves.entered (of_way here.sent way + 1) train)
go_row answers leads.Away here left train v pair moves = moves.passed train

move_row : (answers : Reply → Bool) (t : Option ℕ) (r : Option Reply) (bp : BoxFields) (here : BoxState)
    (signal : Signal)
    (v : Way) (pair : PairState) → Moves answers → Row answers r
    → IsTrue (answers (on_pair v (move t r bp here signal) pair).reply)
move_row answers None r bp here signal v pair moves h = moves.no_train
move_row answers (Some train) (Some reply) bp here signal v pair moves h = h
move_row answers (Some train) None bp here signal v pair moves h =
    go_row answers signal.to here (left_by bp here signal) train v pair moves

danger_row : (off : Bool) → Row answers_pass (danger_refusal off)
danger_row true = tt
danger_row false = refl

off_row : (off : Bool) → Row answers_overrun (off_refusal off)
off_row true = refl
off_row false = tt

pass_moves : Moves answers_pass
pass_moves = record {
  no_train = refl;
  occupied = λ place train. refl;
  passed = λ train. refl;
  entered = λ k train. refl;
  full = λ k. refl;
}

overrun_moves : Moves answers_overrun
overrun_moves = record {
  no_train = refl;
  occupied = λ place train. refl;
  passed = λ train. refl;
  entered = λ k train. refl;
  full = λ k. refl;
}

pass_row : (o : Option Signal) (bp : BoxFields) (here : BoxState) (v : Way) (pair : PairState)
    → IsTrue (answers_pass (on_pair v (pass_signal o bp here) pair).reply)
pass_row None bp here v pair = refl
pass_row (Some signal) bp here v pair =
    move_row answers_pass (train_on here.places signal.from) (pass_refusal here signal) bp here signal v pair pass_moves
    (later_row answers_pass (danger_refusal (is_off here.off signal.lever)) _
    (danger_row (is_off here.off signal.lever)) (way_row answers_pass here signal pass_moves))

overrun_row : (o : Option Signal) (bp : BoxFields) (here : BoxState) (v : Way) (pair : PairState)
    → IsTrue (answers_overrun (on_pair v (overrun_signal o bp here) pair).reply)
overrun_row None bp here v pair = refl
overrun_row (Some signal) bp here v pair =
    move_row answers_overrun (train_on here.places signal.from) (overrun_refusal here signal) bp here signal v pair
    overrun_moves
    (later_row answers_overrun (off_refusal (is_off here.off signal.lever)) _
    (off_row (is_off here.off signal.lever)) (way_row answers_overrun here signal overrun_moves))

-- ---- arrivals

await_row : (t : Option ℕ) (here : BoxState) (j : ℕ) (line : List Passage)
    → IsTrue (answers_await_train (train_awaited t here j line).reply)
await_row None here j line = refl
await_row (Some train) here j line = refl

portion_row : (answers : Reply → Bool) (portion : Option ℕ) → ((train : ℕ) → IsTrue (answers
    (replies.PortionAhead train)))
    → Row answers (portion_refusal portion)
portion_row answers None h = tt
portion_row answers (Some train) h = h train

occupied_row : (answers : Reply → Bool) (there : Option ℕ) → ((train : ℕ) → IsTrue (answers
    (replies.BerthOccupied train)))
    → Row answers (berth_occupied there)
occupied_row answers None h = tt
occupied_row answers (Some train) h = h train

ahead_row : (answers : Reply → Bool) (here : BoxState) (way : Way) (b : Berth)
    → ((train : ℕ) → IsTrue (answers (replies.PortionAhead train)))
    → ((train : ℕ) → IsTrue (answers (replies.BerthOccupied train))) → Row answers (berth_refusal here way b)
ahead_row answers here way b h k =
    later_row answers (portion_refusal (of_way here.incoming way).portion) _
    (portion_row answers (of_way here.incoming way).portion h)
    (occupied_row answers (train_on here.places b.place) k)

berthed_row : (t : Option ℕ) (here : BoxState) (way : Way) (place j : ℕ) (line : List Passage)
    → IsTrue (answers_berth (train_berthed t here way place j line).reply)
berthed_row None here way place j line = refl
berthed_row (Some train) here way place j line = refl

parted_row : (t : Option ℕ) (here : BoxState) (way : Way) (place j : ℕ) (line : List Passage)
    → IsTrue (answers_berth_part (train_parted t here way place j line).reply)
parted_row None here way place j line = refl
parted_row (Some train) here way place j line = refl

berth_row : (o : Option Berth) (here : BoxState) (way v : Way) (pair : PairState)
    → IsTrue (answers_berth (on_pair v (berth o here way) pair).reply)
berth_row None here way v pair = refl
berth_row (Some b) here way v pair =
    unless_row answers_berth (berth_refusal here way b) here (OnPlainLine (berthed here way b.place)) v pair
    (ahead_row answers_berth here way b (λ train. refl) (λ train. refl))
    (berthed_row (next_train here way (of_way pair.lines v)) here way b.place (next_number here way)
    (of_way pair.lines v))

part_row : (o : Option Berth) (here : BoxState) (way v : Way) (pair : PairState)
    → IsTrue (answers_berth_part (on_pair v (berth_part o here way) pair).reply)
part_row None here way v pair = refl
part_row (Some b) here way v pair =
    unless_row answers_berth_part (berth_refusal here way b) here (OnPlainLine (parted here way b.place)) v pair
    (ahead_row answers_berth_part here way b (λ train. refl) (λ train. refl))
    (parted_row (next_train here way (of_way pair.lines v)) here way b.place (next_number here way)
    (of_way pair.lines v))

-- a left portion is that of the train that is taken next, which is on the plain line
portion_there : (taken sent train : ℕ) (line : List Passage) → IsFirst (Some train) line → AreNumbered taken sent line
    → (found : ℕ) × (first_train (taken + 1) line ≡ Some found)
portion_there taken sent train [] first numbered = absurd first
portion_there taken sent train (passage ∷ line) first numbered =
    let number : passage.number ≡ taken + 1 = numbered.0 in
    let test : (passage.number == taken + 1) ≡ true = grind (arith, nat_tests, number) in
    (passage.train, rw test refl)

cleared_row : (t : Option ℕ) (found : ℕ) (here : BoxState) (way : Way) (j : ℕ) (line : List Passage) → t ≡ Some found
    → IsTrue (answers_clear_portion (train_cleared t here way j line).reply)
cleared_row None found here way j line e = absurd cc
cleared_row (Some train) found here way j line e = refl

clear_row : (portion : Option ℕ) (sent : ℕ) (here : BoxState) (way v : Way) (pair : PairState)
    → (of_way here.incoming way).portion ≡ portion → IsFirst (of_way here.incoming way).portion (of_way pair.lines v)
    → AreNumbered (of_way here.incoming way).taken sent (of_way pair.lines v)
    → IsTrue (answers_clear_portion
    (on_pair v (unless (clear_portion_refusal portion) here (OnPlainLine (cleared here way))) pair).reply)
clear_row None sent here way v pair is first numbered = refl
clear_row (Some train) sent here way v pair is first numbered =
    let one : IsFirst (Some train) (of_way pair.lines v) =
    subst (λ (o : Option ℕ). IsFirst o (of_way pair.lines v)) is first in
    let found = portion_there (of_way here.incoming way).taken sent train (of_way pair.lines v) one numbered in
    cleared_row (next_train here way (of_way pair.lines v)) found.0 here way (next_number here way)
    (of_way pair.lines v)
    found.1

-- ---- wind and release

winding_row : (ready_at : Option ℕ) → Row answers_wind (winding_refusal ready_at)
winding_row None = tt
winding_row (Some ready_at) = refl

normal_row : (position : Position) → Row answers_wind (normal_refusal position)
normal_row shows.Normal = tt
normal_row shows.LineClear = refl
normal_row shows.TrainOnLine = refl

soon_row : (soon : Bool) (ready_at : ℕ) → Row answers_release (soon_refusal soon ready_at)
soon_row true ready_at = refl
soon_row false ready_at = tt

release_row : (moment : ℕ) (ready_at : Option ℕ) → Row answers_release (release_refusal moment ready_at)
release_row moment None = refl
release_row moment (Some ready_at) = soon_row (nat_lt moment ready_at) ready_at

-- ---- any call

-- what the call that clears a portion away finds on its plain line
record FindsPortion (here : BoxState) (way : Way) (line : List Passage) : Type 0 where
  sent : ℕ
  first : IsFirst (of_way here.incoming way).portion line
  numbered : AreNumbered (of_way here.incoming way).taken sent line

abbrev FindsFor : Act → BoxState → PairState → Type 0
FindsFor (acts.ClearPortion way) here pair = FindsPortion here way (of_way pair.lines way)
FindsFor act here pair = Unit {0}

answered : (plan : PlanFields) (bp : BoxFields) (act : Act) (here : BoxState) (pair : PairState)
    → FindsFor act here pair
    → IsTrue (may_answer act (on_pair (way_of (link_of bp act)) (decide plan bp act here) pair).reply)
unfolding may_answer
answered plan bp (acts.Ring side code) here pair finds =
    ring_row here side code (of_way pair.bells side).count (of_way pair.bells side).unheard
answered plan bp (acts.Hear side) here pair finds = hear_row here _ (of_way pair.bells (way_of (link_of bp
    (acts.Hear side)))).unheard
answered plan bp (acts.AwaitBell side code) here pair finds =
    await_bell_row here code _ (of_way pair.bells (way_of (link_of bp (acts.AwaitBell side code)))).unheard
answered plan bp (acts.Turn way position) here pair finds = turn_row (berth_of bp way) here way position way pair
answered plan bp (acts.AwaitBlock way position) here pair finds =
    either answers_await_block (same_position (of_way pair.blocks way).position position) _ _ refl refl
answered plan bp (acts.Pull lever) here pair finds =
    unless_row answers_pull (pull_refusal bp here lever) here
    (pull_at here (pulled here lever (signal_of bp lever)) (starter_way (signal_of bp lever)))
    (way_of (link_of bp (acts.Pull lever))) pair (pull_row bp here lever)
    (pulled_row (starter_way (signal_of bp lever)) here (pulled here lever (signal_of bp lever))
    (way_of (link_of bp (acts.Pull lever))) pair)
answered plan bp (acts.Put lever) here pair finds =
    unless_row answers_put (put_refusal bp here lever) here (Here replies.Put (put_back here lever)) Down pair
    (put_row bp here lever) refl
answered plan bp (acts.Bring train) here pair finds =
    unless_row answers_bring (bring_refusal here train (train_at plan.trains train).place) here
    (Here replies.Brought (brought_here here train (train_at plan.trains train).place)) Down pair
    (bring_row here train (train_at plan.trains train).place) refl
answered plan bp (acts.Pass lever) here pair finds =
    pass_row (signal_of bp lever) bp here (way_of (link_of bp (acts.Pass lever))) pair
answered plan bp (acts.Overrun lever) here pair finds =
    overrun_row (signal_of bp lever) bp here (way_of (link_of bp (acts.Overrun lever))) pair
answered plan bp (acts.AwaitTrain way) here pair finds =
    await_row (next_train here way (of_way pair.lines way)) here (next_number here way) (of_way pair.lines way)
answered plan bp (acts.Berth way) here pair finds = berth_row (berth_of bp way) here way way pair
answered plan bp (acts.BerthPart way) here pair finds = part_row (berth_of bp way) here way way pair
answered plan bp (acts.ClearPortion way) here pair finds =
    clear_row (of_way here.incoming way).portion finds.sent here way way pair refl finds.first finds.numbered
answered plan bp (acts.Wind way) here pair finds =
    unless_row answers_wind (wind_refusal (of_way here.incoming way)) here
    (Here (replies.Winding (here.moment + plan.delay)) (wound_here here way (here.moment + plan.delay))) way pair
    (later_row answers_wind (winding_refusal (of_way here.incoming way).ready_at) _
    (winding_row (of_way here.incoming way).ready_at) (normal_row (of_way here.incoming way).position)) refl
answered plan bp (acts.Release way) here pair finds =
    unless_row answers_release (release_refusal here.moment (of_way here.incoming way).ready_at) here
    (Here replies.Released (released_here here way)) way pair
    (release_row here.moment (of_way here.incoming way).ready_at) refl

-- ---- a call of a line

-- the section of a line that comes into a box
record ComesFrom (n b : ℕ) (way : Way) : Type 0 where
  rear : ℕ
  leaves : IsTrue (leaves n rear way)
  advance : advance_of (record { rear = rear; way = way }) ≡ b
  pair : pair_no rear (Out way) ≡ pair_no b (In way)

comes_from : (n b : ℕ) (way : Way) → IsTrue (comes_in n b way) → ComesFrom n b way
comes_from n b Up h =
    let high : b + 1 < n = grind (arith, nat_tests) in
    record {
      rear = b + 1;
      leaves = (let low : nat_lt 0 (b + 1) ≡ true = grind (arith, nat_tests) in let below : nat_lt
          (b + 1) n ≡ true = h in rw (low, below) refl);
      advance = omega arith;
      pair = omega arith;
    }
comes_from n b Down h =
    let parts = both (nat_lt 0 b) (nat_lt b n) h in
    let low : 0 < b = (let p = parts.0 in grind (arith, nat_tests)) in
    let high : b < n = (let p = parts.1 in grind (arith, nat_tests)) in
    let same : b - 1 + 1 ≡ b = omega (arith, low) in
    record {
      rear = b - 1;
      leaves = rw same parts.1;
      advance = same;
      pair = refl;
    }

finds_portion : (plan : PlanFields) (plain : PlainState) (b moment : ℕ) (way : Way) → IsLineOf plan plain
    → IsTrue (comes_in (length plan.boxes) b way)
    → FindsPortion (at_moment (box_at plain.line b) moment) way (of_way (pair_at plain.line (pair_no b
    (In way))).lines way)
finds_portion plan plain b moment way line comes =
    let from = comes_from (length plan.boxes) b way comes in
    let section : Section = record { rear = from.rear; way = way } in
    let keeps = line.sections section from.leaves in
    let there : FindsPortion (box_at plain.line (advance_of section)) way (plain_line_of plain.line section) = record {
      sent = of_way (box_at plain.line section.rear).sent way;
      first = keeps.portion;
      numbered = keeps.numbered;
    } in
    let at_box : FindsPortion (box_at plain.line b) way (plain_line_of plain.line section) =
    subst (λ (k : ℕ). FindsPortion (box_at plain.line k) way (plain_line_of plain.line section)) from.advance there in
    let found : FindsPortion (box_at plain.line b) way (of_way (pair_at plain.line (pair_no b (In way))).lines way) =
    subst (λ (p : ℕ). FindsPortion (box_at plain.line b) way (of_way
    (pair_at plain.line p).lines way)) from.pair at_box in
    record { sent = found.sent; first = found.first; numbered = found.numbered }

finds_for : (plan : PlanFields) (plain : PlainState) (b moment : ℕ) (act : Act) → IsLineOf plan plain
    → IsTrue (knows_act plan b act)
    → FindsFor act (at_moment (box_at plain.line b) moment) (pair_at plain.line (pair_no b (link_of
    (box_plan_of plan b) act)))
finds_for plan plain b moment (acts.ClearPortion way) line known =
    finds_portion plan plain b moment way line
    (both (comes_in (length plan.boxes) b way) (is_some (berth_of (box_plan_of plan b) way)) known).0
finds_for plan plain b moment act line known = tt

-- the law answers a call of a plain line by a reply that such a call may have
pub step_answered : (plan : PlanFields) (plain : PlainState) (b : ℕ) (call : Call) → IsLineOf plan plain
    → KnowsCall plan b call → IsTrue (may_answer call.act (step plan plain.line b call).reply)
unfolding step
step_answered plan plain b call line known =
    answered plan (box_plan_of plan b) call.act (at_moment (box_at plain.line b) call.moment)
    (pair_at plain.line (pair_of plan b call))
    (finds_for plan plain b call.moment call.act line (known_parts plan b call known).act)

-- ---- histories

answered_from : (plan : PlanFields) (plain : PlainState) (es : List Entry) → IsPlan plan → IsLineOf plan plain
    → IsLegalFrom plan plain.line es → All IsAnswered es
answered_from plan plain [] is line legal = All-nil IsAnswered
answered_from plan plain (e ∷ es) is line legal =
    let known = legal.0.known in
    All-cons IsAnswered e es
    (subst (λ (r : Reply). IsTrue (may_answer e.call.act r)) (sym legal.1)
    (step_answered plan plain e.box_no e.call line known))
    (answered_from plan (record { line = after_entry plan plain.line e; calls = plain.calls + 1 }) es is
    (stays plan plain e.box_no e.call is line known) legal.2)

-- each reply of a legal history is one that its call may have
pub history_answered : (plan : PlanFields) (es : List Entry) → IsPlan plan → IsLegal plan es → All IsAnswered es
history_answered plan es is legal =
    answered_from plan (record { line = opening_state plan; calls = 0 }) es is (opens plan) legal
