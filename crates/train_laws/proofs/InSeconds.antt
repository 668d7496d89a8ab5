-- A call in seconds is decided as the call in minutes is.
use Rattle.std.proofs.Common.{ℕ, ◌+◌, ◌*◌, ◌≡◌, List, ◌∷◌, Bool, true, false, cond, Option, Some, None, option_map}
use Rattle.std.proofs.Common.{refl, ap, ◌∙◌, arith}
use Rattle.std.specs.Prelude.{nat_lt, ◌==◌}
use Rattle.std.proofs.lemmas.Bool.Decides.{nat_tests}
use Rattle.block_words.specs.declared.Position.{Position}
use Rattle.block_words.specs.declared.Position.TheVariants as shows
use Rattle.block_words.specs.declared.Way.{Way}
use Rattle.block_words.specs.declared.Way.TheVariants.{Up, Down}
use Rattle.block_words.specs.declared.WelwynState.{WelwynState}
use Rattle.block_words.specs.declared.WelwynState.TheVariants as welwyn
use Rattle.line_plan.specs.Frames.{BoxFields, berth_of, kind_of, signal_of, track_of}
use Rattle.line_plan.specs.Plans.{PlanFields, train_at}
use Rattle.line_plan.specs.Sections.{most_of}
use Rattle.line_plan.specs.declared.berth.Berth.{Berth}
use Rattle.line_plan.specs.declared.frame.Kind.{Kind}
use Rattle.line_plan.specs.declared.frame.Kind.TheVariants as kinds
use Rattle.line_plan.specs.declared.signal.Signal.{Signal}
use Rattle.line_plan.specs.declared.signal.To.{To}
use Rattle.line_plan.specs.declared.signal.To.TheVariants as leads
use Rattle.locking_table.specs.Meaning.{holder_of}
use Rattle.line_law.specs.declared.call.Act.{Act}
use Rattle.line_law.specs.declared.call.Act.TheVariants as acts
use Rattle.line_law.specs.declared.call.Reply.{Reply}
use Rattle.line_law.specs.declared.call.Reply.TheVariants as replies
use Rattle.line_law.specs.declared.state.Bell.{Bell}
use Rattle.line_law.specs.declared.state.Block.{Block}
use Rattle.line_law.specs.declared.state.BoxState.{BoxState}
use Rattle.line_law.specs.declared.state.Control.{Control}
use Rattle.line_law.specs.declared.state.Control.TheVariants.{Absolute, Permissive}
use Rattle.line_law.specs.declared.state.Incoming.{Incoming}
use Rattle.line_law.specs.declared.state.PairState.{PairState}
use Rattle.line_law.specs.declared.state.Passage.{Passage}
use Rattle.line_law.specs.Arrivals.{await_train, berth, berth_occupied, berth_part, berth_refusal, berthed}
use Rattle.line_law.specs.Arrivals.{clear_portion, clear_portion_refusal, cleared, next_number, next_train, parted}
use Rattle.line_law.specs.Arrivals.{portion_refusal, train_awaited, train_berthed, train_cleared, train_parted}
use Rattle.line_law.specs.Bells.{awaited, heard, rung}
use Rattle.line_law.specs.Controls.{left_control, normal_refusal, release, release_refusal, released_here, soon_refusal}
use Rattle.line_law.specs.Controls.{wind, wind_refusal, winding_refusal, wound_here}
use Rattle.line_law.specs.Decisions.{Told, Decision, Here, OnBell, OnBlock, OnPlainLine, on_pair, or_later, unless}
use Rattle.line_law.specs.Instruments.{clearing_refusal, control_refusal, from_refusal, home_refusal, position_refusal}
use Rattle.line_law.specs.Instruments.{same_position, turn, turn_refusal, turned, welwyn_refusal}
use Rattle.line_law.specs.Law.{decide}
use Rattle.line_law.specs.Levers.{is_unspent_clear, lock_refusal, pull, pull_at, pull_refusal, pulled, pulled_under}
use Rattle.line_law.specs.Levers.{put, put_refusal, row_refusal, spare_refusal, starter_way, track_refusal}
use Rattle.line_law.specs.LeverEnds.{first_reversed, is_off, is_pulled}
use Rattle.line_law.specs.Tracks.{first_standing, train_on}
use Rattle.line_law.specs.Trains.{bring, bring_refusal, danger_refusal, end_of, enter, go, holds, is_berth_at, left_by}
use Rattle.line_law.specs.Trains.{line_left, move, off_refusal, overrun_refusal, overrun_signal, pass_refusal}
use Rattle.line_law.specs.Trains.{pass_signal, place_refusal, standing_refusal, was_brought, way_refusal}
use Rattle.line_law.specs.Ways.{of_way}
use Rattle.line_plan.specs.Upgrades.{plan_in_seconds}
use Rattle.train_laws.specs.Upgrades.{box_in_seconds, line_in_seconds, reply_in_seconds}

-- what a call leaves, in seconds
abbrev pub told_in_seconds : {W : Type 0} → Told W → Told W
told_in_seconds told = record { reply = reply_in_seconds told.reply; here = box_in_seconds told.here; word = told.word }

-- a decision in minutes, and the same in seconds
pub data Alike : Decision → Decision → Type 0 where
  Heres : (reply other : Reply) (here there : BoxState) → other ≡ reply_in_seconds reply → there ≡ box_in_seconds here
      → Alike (Here reply here) (Here other there)
  Bells : (f g : Bell → Told Bell) → ((bell : Bell) → g bell ≡ told_in_seconds (f bell)) → Alike (OnBell f) (OnBell g)
  Blocks : (f g : Block → Told Block) → ((block : Block) → g block ≡ told_in_seconds (f block))
      → Alike (OnBlock f) (OnBlock g)
  Lines : (f g : List Passage → Told (List Passage)) → ((line : List Passage) → g line ≡ told_in_seconds (f line))
      → Alike (OnPlainLine f) (OnPlainLine g)

-- ---- refusals

-- a reason for a refusal that tells no ready moment is the same in seconds
abbrev IsSame : Option Reply → Type 0
IsSame refusal = refusal ≡ option_map reply_in_seconds refusal

same_later : (first later : Option Reply) → IsSame first → IsSame later → IsSame (or_later first later)
same_later (Some reply) later f g = f
same_later None later f g = g

same_if : (test : Bool) (first later : Option Reply) → IsSame first → IsSame later → IsSame (cond test first later)
same_if true first later f g = f
same_if false first later f g = g

unless_alike : (refusal other : Option Reply) (here : BoxState) (d e : Decision)
    → other ≡ option_map reply_in_seconds refusal → Alike d e
    → Alike (unless refusal here d) (unless other (box_in_seconds here) e)
unless_alike (Some reply) other here d e same alike =
    rw same (Heres reply (reply_in_seconds reply) here (box_in_seconds here) refl refl)
unless_alike None other here d e same alike = rw same alike

-- a refusal by what is found, if anything is
same_by : {A : Type 0} (refusal : Option A → Option Reply) → IsSame (refusal None)
    → ((x : A) → IsSame (refusal (Some x))) → (found : Option A) → IsSame (refusal found)
same_by refusal none some None = none
same_by refusal none some (Some x) = some x

either_told : {W : Type 0} (test : Bool) (x y x' y' : Told W) → x' ≡ told_in_seconds x → y' ≡ told_in_seconds y
    → cond test x' y' ≡ told_in_seconds (cond test x y)
either_told true x y x' y' f g = f
either_told false x y x' y' f g = g

same_from : (position : Position) → IsSame (from_refusal position)
same_from shows.Normal = refl
same_from position = refl

same_welwyn : (state : WelwynState) → IsSame (welwyn_refusal state)
same_welwyn welwyn.Ready = refl
same_welwyn state = refl

same_control : (control : Control) (here : BoxState) (b : Berth)
    → control_refusal control (box_in_seconds here) b ≡ option_map reply_in_seconds (control_refusal control here b)
same_control (Absolute state) here b =
    same_later (clearing_refusal (first_standing here.places (b.place ∷ b.clearing))) (welwyn_refusal state)
    (same_by clearing_refusal refl (λ there. refl) (first_standing here.places (b.place ∷ b.clearing)))
    (same_welwyn state)
same_control (Permissive out) here b =
    same_if (out == most_of b.permissive) (Some (replies.CountFull out)) None refl refl

later_same : (first later other : Option Reply) → IsSame first → other ≡ option_map reply_in_seconds later
    → or_later first other ≡ option_map reply_in_seconds (or_later first later)
later_same (Some reply) later other f g = f
later_same None later other f g = g

if_same : (test : Bool) (first later other : Option Reply) → IsSame first → other ≡ option_map reply_in_seconds later
    → cond test first other ≡ option_map reply_in_seconds (cond test first later)
if_same true first later other f g = f
if_same false first later other f g = g

same_position_refusal : (position : Position) (here : BoxState) (b : Berth) (line : Incoming)
    → position_refusal position (box_in_seconds here) b (line_in_seconds line)
    ≡ option_map reply_in_seconds (position_refusal position here b line)
same_position_refusal shows.LineClear here b line =
    later_same (from_refusal line.position)
    (or_later (home_refusal (first_reversed here.ends b.homes)) (control_refusal line.control here b)) _
    (same_from line.position)
    (later_same (home_refusal (first_reversed here.ends b.homes)) (control_refusal line.control here b) _
    (same_by home_refusal refl (λ lever. refl) (first_reversed here.ends b.homes)) (same_control line.control here b))
same_position_refusal position here b line = refl

same_turn : (here : BoxState) (b : Berth) (line : Incoming) (position : Position)
    → turn_refusal (box_in_seconds here) b (line_in_seconds line) position
    ≡ option_map reply_in_seconds (turn_refusal here b line position)
same_turn here b line position =
    if_same (same_position line.position position) (Some replies.AlreadyThere) (position_refusal position here b line) _
    refl (same_position_refusal position here b line)

same_spare : (kind : Option Kind) → IsSame (spare_refusal kind)
same_spare (Some kinds.Spare) = refl
same_spare kind = refl

same_lock : (box_plan : BoxFields) (here : BoxState) (lever : ℕ) → IsSame (lock_refusal box_plan here lever)
same_lock box_plan here lever =
    same_later (row_refusal (holder_of here.ends lever box_plan.rows)) _
    (same_by row_refusal refl (λ holder. refl) (holder_of here.ends lever box_plan.rows))
    (same_by track_refusal refl (λ there. refl) (first_standing here.places (track_of box_plan lever)))

same_pull : (box_plan : BoxFields) (here : BoxState) (lever : ℕ) → IsSame (pull_refusal box_plan here lever)
same_pull box_plan here lever =
    same_if (is_pulled here.ends lever) (Some replies.AlreadyReversed)
    (or_later (spare_refusal (kind_of box_plan lever)) (lock_refusal box_plan here lever)) refl
    (same_later (spare_refusal (kind_of box_plan lever)) (lock_refusal box_plan here lever)
    (same_spare (kind_of box_plan lever)) (same_lock box_plan here lever))

same_put : (box_plan : BoxFields) (here : BoxState) (lever : ℕ) → IsSame (put_refusal box_plan here lever)
same_put box_plan here lever =
    same_if (is_pulled here.ends lever) (lock_refusal box_plan here lever) (Some replies.AlreadyNormal)
    (same_lock box_plan here lever) refl

same_bring : (here : BoxState) (train place : ℕ) → IsSame (bring_refusal here train place)
same_bring here train place =
    same_if (was_brought here.brought train) (Some replies.AlreadyBrought)
    (place_refusal place (train_on here.places place)) refl
    (same_by (place_refusal place) refl (λ train. refl) (train_on here.places place))

same_way : (here : BoxState) (signal : Signal) → IsSame (way_refusal here signal)
same_way here signal =
    same_later (standing_refusal (first_standing here.places signal.over))
    (standing_refusal (first_standing here.places (end_of signal.to)))
    (same_by standing_refusal refl (λ there. refl) (first_standing here.places signal.over))
    (same_by standing_refusal refl (λ there. refl) (first_standing here.places (end_of signal.to)))

same_danger : (off : Bool) → IsSame (danger_refusal off)
same_danger true = refl
same_danger false = refl

same_off : (off : Bool) → IsSame (off_refusal off)
same_off true = refl
same_off false = refl

same_pass : (here : BoxState) (signal : Signal) → IsSame (pass_refusal here signal)
same_pass here signal =
    same_later (danger_refusal (is_off here.off signal.lever)) (way_refusal here signal)
    (same_danger (is_off here.off signal.lever)) (same_way here signal)

same_overrun : (here : BoxState) (signal : Signal) → IsSame (overrun_refusal here signal)
same_overrun here signal =
    same_later (off_refusal (is_off here.off signal.lever)) (way_refusal here signal)
    (same_off (is_off here.off signal.lever)) (same_way here signal)

same_berth : (here : BoxState) (way : Way) (b : Berth)
    → berth_refusal (box_in_seconds here) way b ≡ option_map reply_in_seconds (berth_refusal here way b)
same_berth here Up b =
    same_later (portion_refusal here.incoming.up.portion) (berth_occupied (train_on here.places b.place))
    (same_by portion_refusal refl (λ train. refl) here.incoming.up.portion)
    (same_by berth_occupied refl (λ train. refl) (train_on here.places b.place))
same_berth here Down b =
    same_later (portion_refusal here.incoming.down.portion) (berth_occupied (train_on here.places b.place))
    (same_by portion_refusal refl (λ train. refl) here.incoming.down.portion)
    (same_by berth_occupied refl (λ train. refl) (train_on here.places b.place))

same_winding : (ready_at : Option ℕ)
    → winding_refusal (option_map (λ m. m * 60) ready_at) ≡ option_map reply_in_seconds (winding_refusal ready_at)
same_winding None = refl
same_winding (Some m) = refl

same_normal : (position : Position) → IsSame (normal_refusal position)
same_normal shows.Normal = refl
same_normal position = refl

both_later : (first first' later later' : Option Reply) → first' ≡ option_map reply_in_seconds first
    → later' ≡ option_map reply_in_seconds later
    → or_later first' later' ≡ option_map reply_in_seconds (or_later first later)
both_later (Some reply) first' later later' f g = rw f refl
both_later None first' later later' f g = rw f g

same_wind : (line : Incoming) → wind_refusal (line_in_seconds line) ≡ option_map reply_in_seconds (wind_refusal line)
same_wind line =
    both_later (winding_refusal line.ready_at) _ (normal_refusal line.position) _ (same_winding line.ready_at)
    (same_normal line.position)

-- moments are compared in seconds as in minutes
pub less_in_seconds : (a b : ℕ) → nat_lt (a * 60) (b * 60) ≡ nat_lt a b
less_in_seconds a b = grind (arith, nat_tests)

same_soon : (soon : Bool) (ready_at : ℕ)
    → soon_refusal soon (ready_at * 60) ≡ option_map reply_in_seconds (soon_refusal soon ready_at)
same_soon true ready_at = refl
same_soon false ready_at = refl

same_release : (moment : ℕ) (ready_at : Option ℕ)
    → release_refusal (moment * 60) (option_map (λ m. m * 60) ready_at)
    ≡ option_map reply_in_seconds (release_refusal moment ready_at)
same_release moment None = refl
same_release moment (Some ready_at) = rw (less_in_seconds moment ready_at) (same_soon (nat_lt moment ready_at) ready_at)

-- ---- calls on bells

rung_alike : (here : BoxState) (side : Way) (code count : ℕ) (unheard : Option ℕ)
    → rung (box_in_seconds here) side code count unheard ≡ told_in_seconds (rung here side code count unheard)
rung_alike here side code count (Some u) = refl
rung_alike here side code count None = refl

heard_alike : (here : BoxState) (count : ℕ) (unheard : Option ℕ)
    → heard (box_in_seconds here) count unheard ≡ told_in_seconds (heard here count unheard)
heard_alike here count (Some u) = refl
heard_alike here count None = refl

awaited_alike : (here : BoxState) (code count : ℕ) (unheard : Option ℕ)
    → awaited (box_in_seconds here) code count unheard ≡ told_in_seconds (awaited here code count unheard)
awaited_alike here code count (Some u) = either_told (u == code) _ _ _ _ refl refl
awaited_alike here code count None = refl

-- ---- calls on instruments

turned_alike : (here : BoxState) (way : Way) (position : Position) (block : Block)
    → turned (box_in_seconds here) way position block ≡ told_in_seconds (turned here way position block)
turned_alike here Up shows.Normal block = refl
turned_alike here Up shows.LineClear block = refl
turned_alike here Up shows.TrainOnLine block = refl
turned_alike here Down shows.Normal block = refl
turned_alike here Down shows.LineClear block = refl
turned_alike here Down shows.TrainOnLine block = refl

of_way_alike : (here : BoxState) (way : Way)
    → of_way (box_in_seconds here).incoming way ≡ line_in_seconds (of_way here.incoming way)
of_way_alike here Up = refl
of_way_alike here Down = refl

turn_alike : (b : Option Berth) (here : BoxState) (way : Way) (position : Position)
    → Alike (turn b here way position) (turn b (box_in_seconds here) way position)
turn_alike None here way position = Heres _ _ _ _ refl refl
turn_alike (Some b) here way position =
    unless_alike (turn_refusal here b (of_way here.incoming way) position) _ here _ _
    (ap (λ (line : Incoming). turn_refusal (box_in_seconds here) b line position) (of_way_alike here way)
    ∙ same_turn here b (of_way here.incoming way) position)
    (Blocks _ _ (λ block. turned_alike here way position block))

-- ---- levers

pulled_alike : (here : BoxState) (lever : ℕ) (signal : Option Signal)
    → pulled (box_in_seconds here) lever signal ≡ box_in_seconds (pulled here lever signal)
pulled_alike here lever None = refl
pulled_alike here lever (Some signal) = refl

under_alike : (here after : BoxState) (way : Way) (block : Block)
    → pulled_under (box_in_seconds here) (box_in_seconds after) way block
    ≡ told_in_seconds (pulled_under here after way block)
under_alike here after way block = either_told (is_unspent_clear block) _ _ _ _ refl refl

pull_at_alike : (way : Option Way) (here after after' : BoxState) → after' ≡ box_in_seconds after
    → Alike (pull_at here after way) (pull_at (box_in_seconds here) after' way)
pull_at_alike None here after after' e = Heres _ _ _ _ refl e
pull_at_alike (Some way) here after after' e = rw e (Blocks _ _ (λ block. under_alike here after way block))

pull_alike : (box_plan : BoxFields) (here : BoxState) (lever : ℕ)
    → Alike (pull box_plan here lever) (pull box_plan (box_in_seconds here) lever)
pull_alike box_plan here lever =
    unless_alike (pull_refusal box_plan here lever) (pull_refusal box_plan (box_in_seconds here) lever) here _ _
    (same_pull box_plan here lever)
    (pull_at_alike (starter_way (signal_of box_plan lever)) here (pulled here lever (signal_of box_plan lever)) _
    (pulled_alike here lever (signal_of box_plan lever)))

put_alike : (box_plan : BoxFields) (here : BoxState) (lever : ℕ)
    → Alike (put box_plan here lever) (put box_plan (box_in_seconds here) lever)
put_alike box_plan here lever =
    unless_alike (put_refusal box_plan here lever) (put_refusal box_plan (box_in_seconds here) lever) here _ _
    (same_put box_plan here lever) (Heres _ _ _ _ refl refl)

-- ---- trains

bring_alike : (here : BoxState) (train place : ℕ)
    → Alike (bring here train place) (bring (box_in_seconds here) train place)
bring_alike here train place =
    unless_alike (bring_refusal here train place) (bring_refusal (box_in_seconds here) train place) here _ _
    (same_bring here train place) (Heres _ _ _ _ refl refl)

left_line_alike : (b : Option Berth) (place : ℕ) (line : Incoming)
    → line_left b place (line_in_seconds line) ≡ line_in_seconds (line_left b place line)
left_line_alike b place line = either (is_berth_at b place) where
  either : (at : Bool)
      → cond at (record (line_in_seconds line) { control = left_control line.control }) (line_in_seconds line)
      ≡ line_in_seconds (cond at (record line { control = left_control line.control }) line)
  either true = refl
  either false = refl

left_alike : (box_plan : BoxFields) (here : BoxState) (signal : Signal)
    → left_by box_plan (box_in_seconds here) signal ≡ box_in_seconds (left_by box_plan here signal)
left_alike box_plan here signal =
    rw (
      left_line_alike box_plan.berth_up signal.from here.incoming.up,
      left_line_alike box_plan.berth_down signal.from here.incoming.down,
    ) refl

enter_alike : (here left : BoxState) (way : Way) (train : ℕ) (line : List Passage)
    → enter (box_in_seconds here) (box_in_seconds left) way train line
    ≡ told_in_seconds (enter here left way train line)
enter_alike here left way train line = either_told (holds line (of_way here.sent way + 1)) _ _ _ _ refl refl

go_alike : (to : To) (here left left' : BoxState) (train : ℕ) → left' ≡ box_in_seconds left
    → Alike (go here left train to) (go (box_in_seconds here) left' train to)
go_alike (leads.Place place) here left left' train e = Heres _ _ _ _ refl (rw e refl)
go_alike (leads.Section way) here left left' train e = rw e (Lines _ _ (λ line. enter_alike here left way train line))
go_alike leads.Away here left left' train e = Heres _ _ _ _ refl e

move_alike : (train : Option ℕ) (refusal : Option Reply) (box_plan : BoxFields) (here : BoxState) (signal : Signal)
    → IsSame refusal
    → Alike (move train refusal box_plan here signal) (move train refusal box_plan (box_in_seconds here) signal)
move_alike None refusal box_plan here signal same = Heres _ _ _ _ refl refl
move_alike (Some train) (Some reply) box_plan here signal same =
    Heres _ _ _ _ (let e : reply ≡ reply_in_seconds reply = cc in e) refl
move_alike (Some train) None box_plan here signal same =
    go_alike signal.to here (left_by box_plan here signal) _ train (left_alike box_plan here signal)

pass_alike : (signal : Option Signal) (box_plan : BoxFields) (here : BoxState)
    → Alike (pass_signal signal box_plan here) (pass_signal signal box_plan (box_in_seconds here))
pass_alike None box_plan here = Heres _ _ _ _ refl refl
pass_alike (Some signal) box_plan here =
    move_alike (train_on here.places signal.from) (pass_refusal here signal) box_plan here signal
    (same_pass here signal)

overrun_alike : (signal : Option Signal) (box_plan : BoxFields) (here : BoxState)
    → Alike (overrun_signal signal box_plan here) (overrun_signal signal box_plan (box_in_seconds here))
overrun_alike None box_plan here = Heres _ _ _ _ refl refl
overrun_alike (Some signal) box_plan here =
    move_alike (train_on here.places signal.from) (overrun_refusal here signal) box_plan here signal
    (same_overrun here signal)

-- ---- arrivals

train_awaited_alike : (train : Option ℕ) (here : BoxState) (j : ℕ) (line : List Passage)
    → train_awaited train (box_in_seconds here) j line ≡ told_in_seconds (train_awaited train here j line)
train_awaited_alike None here j line = refl
train_awaited_alike (Some train) here j line = refl

await_train_alike : (here : BoxState) (way : Way) (line : List Passage)
    → await_train (box_in_seconds here) way line ≡ told_in_seconds (await_train here way line)
await_train_alike here Up line = train_awaited_alike (next_train here Up line) here (next_number here Up) line
await_train_alike here Down line = train_awaited_alike (next_train here Down line) here (next_number here Down) line

train_berthed_alike : (train : Option ℕ) (here : BoxState) (way : Way) (place j : ℕ) (line : List Passage)
    → train_berthed train (box_in_seconds here) way place j line
    ≡ told_in_seconds (train_berthed train here way place j line)
train_berthed_alike None here way place j line = refl
train_berthed_alike (Some train) here Up place j line = refl
train_berthed_alike (Some train) here Down place j line = refl

berthed_alike : (here : BoxState) (way : Way) (place : ℕ) (line : List Passage)
    → berthed (box_in_seconds here) way place line ≡ told_in_seconds (berthed here way place line)
berthed_alike here Up place line =
    train_berthed_alike (next_train here Up line) here Up place (next_number here Up) line
berthed_alike here Down place line =
    train_berthed_alike (next_train here Down line) here Down place (next_number here Down) line

berth_alike : (b : Option Berth) (here : BoxState) (way : Way)
    → Alike (berth b here way) (berth b (box_in_seconds here) way)
berth_alike None here way = Heres _ _ _ _ refl refl
berth_alike (Some b) here way =
    unless_alike (berth_refusal here way b) _ here _ _ (same_berth here way b)
    (Lines _ _ (λ line. berthed_alike here way b.place line))

train_parted_alike : (train : Option ℕ) (here : BoxState) (way : Way) (place j : ℕ) (line : List Passage)
    → train_parted train (box_in_seconds here) way place j line
    ≡ told_in_seconds (train_parted train here way place j line)
train_parted_alike None here way place j line = refl
train_parted_alike (Some train) here Up place j line = refl
train_parted_alike (Some train) here Down place j line = refl

parted_alike : (here : BoxState) (way : Way) (place : ℕ) (line : List Passage)
    → parted (box_in_seconds here) way place line ≡ told_in_seconds (parted here way place line)
parted_alike here Up place line = train_parted_alike (next_train here Up line) here Up place (next_number here Up) line
parted_alike here Down place line =
    train_parted_alike (next_train here Down line) here Down place (next_number here Down) line

berth_part_alike : (b : Option Berth) (here : BoxState) (way : Way)
    → Alike (berth_part b here way) (berth_part b (box_in_seconds here) way)
berth_part_alike None here way = Heres _ _ _ _ refl refl
berth_part_alike (Some b) here way =
    unless_alike (berth_refusal here way b) _ here _ _ (same_berth here way b)
    (Lines _ _ (λ line. parted_alike here way b.place line))

train_cleared_alike : (train : Option ℕ) (here : BoxState) (way : Way) (j : ℕ) (line : List Passage)
    → train_cleared train (box_in_seconds here) way j line ≡ told_in_seconds (train_cleared train here way j line)
train_cleared_alike None here way j line = refl
train_cleared_alike (Some train) here Up j line = refl
train_cleared_alike (Some train) here Down j line = refl

cleared_alike : (here : BoxState) (way : Way) (line : List Passage)
    → cleared (box_in_seconds here) way line ≡ told_in_seconds (cleared here way line)
cleared_alike here Up line = train_cleared_alike (next_train here Up line) here Up (next_number here Up) line
cleared_alike here Down line = train_cleared_alike (next_train here Down line) here Down (next_number here Down) line

clear_portion_alike : (here : BoxState) (way : Way)
    → Alike (clear_portion here way) (clear_portion (box_in_seconds here) way)
clear_portion_alike here Up =
    unless_alike (clear_portion_refusal here.incoming.up.portion) _ here _ _
    (same_by clear_portion_refusal refl (λ train. refl) here.incoming.up.portion)
    (Lines _ _ (λ line. cleared_alike here Up line))
clear_portion_alike here Down =
    unless_alike (clear_portion_refusal here.incoming.down.portion) _ here _ _
    (same_by clear_portion_refusal refl (λ train. refl) here.incoming.down.portion)
    (Lines _ _ (λ line. cleared_alike here Down line))

-- ---- winding and release

wound_alike : (here : BoxState) (way : Way) (ready_at later : ℕ) → later ≡ ready_at * 60
    → wound_here (box_in_seconds here) way later ≡ box_in_seconds (wound_here here way ready_at)
wound_alike here Up ready_at later e = rw e refl
wound_alike here Down ready_at later e = rw e refl

wind_alike : (delay : ℕ) (here : BoxState) (way : Way)
    → Alike (wind delay here way) (wind (delay * 60) (box_in_seconds here) way)
wind_alike delay here way =
    let later : here.moment * 60 + delay * 60 ≡ (here.moment + delay) * 60 = omega arith in
    unless_alike (wind_refusal (of_way here.incoming way)) _ here _ _
    (ap wind_refusal (of_way_alike here way) ∙ same_wind (of_way here.incoming way))
    (Heres _ _ _ _ (ap (λ (m : ℕ). replies.Winding m) later) (wound_alike here way (here.moment + delay) _ later))

released_alike : (here : BoxState) (way : Way)
    → released_here (box_in_seconds here) way ≡ box_in_seconds (released_here here way)
released_alike here Up = refl
released_alike here Down = refl

release_alike : (here : BoxState) (way : Way) → Alike (release here way) (release (box_in_seconds here) way)
release_alike here way =
    unless_alike (release_refusal here.moment (of_way here.incoming way).ready_at) _ here _ _
    (ap (λ (line : Incoming). release_refusal (here.moment * 60) line.ready_at) (of_way_alike here way)
    ∙ same_release here.moment (of_way here.incoming way).ready_at)
    (Heres _ _ _ _ refl (released_alike here way))

-- ---- every call

-- a call in seconds is decided as the call in minutes is
pub decided_alike : (plan : PlanFields) (box_plan : BoxFields) (act : Act) (here : BoxState)
    → Alike (decide plan box_plan act here) (decide (plan_in_seconds plan) box_plan act (box_in_seconds here))
decided_alike plan box_plan (acts.Ring side code) here =
    Bells _ _ (λ bell. rung_alike here side code bell.count bell.unheard)
decided_alike plan box_plan (acts.Hear side) here = Bells _ _ (λ bell. heard_alike here bell.count bell.unheard)
decided_alike plan box_plan (acts.AwaitBell side code) here =
    Bells _ _ (λ bell. awaited_alike here code bell.count bell.unheard)
decided_alike plan box_plan (acts.Turn way position) here = turn_alike (berth_of box_plan way) here way position
decided_alike plan box_plan (acts.AwaitBlock way position) here =
    Blocks _ _ (λ block. either_told (same_position block.position position) _ _ _ _ refl refl)
decided_alike plan box_plan (acts.Pull lever) here = pull_alike box_plan here lever
decided_alike plan box_plan (acts.Put lever) here = put_alike box_plan here lever
decided_alike plan box_plan (acts.Bring train) here = bring_alike here train (train_at plan.trains train).place
decided_alike plan box_plan (acts.Pass lever) here = pass_alike (signal_of box_plan lever) box_plan here
decided_alike plan box_plan (acts.Overrun lever) here = overrun_alike (signal_of box_plan lever) box_plan here
decided_alike plan box_plan (acts.AwaitTrain way) here = Lines _ _ (λ line. await_train_alike here way line)
decided_alike plan box_plan (acts.Berth way) here = berth_alike (berth_of box_plan way) here way
decided_alike plan box_plan (acts.BerthPart way) here = berth_part_alike (berth_of box_plan way) here way
decided_alike plan box_plan (acts.ClearPortion way) here = clear_portion_alike here way
decided_alike plan box_plan (acts.Wind way) here = wind_alike plan.delay here way
decided_alike plan box_plan (acts.Release way) here = release_alike here way

-- what it leaves in the pair
pub pair_alike : (way : Way) (d e : Decision) (pair : PairState) → Alike d e
    → on_pair way e pair ≡ told_in_seconds (on_pair way d pair)
pair_alike way d e pair (Heres reply other here there f g) = rw (f, g) refl
pair_alike way d e pair (Bells f g h) = rw (h (of_way pair.bells way)) refl
pair_alike way d e pair (Blocks f g h) = rw (h (of_way pair.blocks way)) refl
pair_alike way d e pair (Lines f g h) = rw (h (of_way pair.lines way)) refl
