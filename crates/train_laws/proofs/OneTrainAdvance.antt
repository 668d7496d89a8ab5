-- The calls of the box in advance keep its section guarded.
use Rattle.std.proofs.Common.{ℕ, ◌+◌, ◌≡◌, ◌≢◌, ◌≤◌, List, [], ◌∷◌, length, Bool, true, false, cond, IsTrue, Option}
use Rattle.std.proofs.Common.{Some, None, refl, sym, ap, subst, ◌∙◌, arith, slice_set, drop}
use Rattle.std.specs.Prelude.{◌==◌}
use Rattle.std.proofs.lemmas.Bool.{eqb-true, eqb-false}
use Rattle.block_words.specs.declared.Position.{Position}
use Rattle.block_words.specs.declared.Position.TheVariants as shows
use Rattle.block_words.specs.declared.Way.{Way}
use Rattle.block_words.specs.declared.Way.TheVariants.{Up, Down}
use Rattle.block_words.specs.declared.WelwynState.{WelwynState}
use Rattle.block_words.specs.declared.WelwynState.TheVariants as welwyn
use Rattle.line_plan.specs.Frames.{BoxFields, berth_of, signal_of}
use Rattle.line_plan.specs.Plans.{IsBox, IsPlan, PlanFields, box_at, is_train, train_at}
use Rattle.line_plan.specs.Sections.{most_of}
use Rattle.line_plan.specs.declared.berth.Berth.{Berth}
use Rattle.line_plan.specs.declared.signal.Signal.{Signal}
use Rattle.line_law.specs.declared.call.Act.{Act}
use Rattle.line_law.specs.declared.call.Act.TheVariants as acts
use Rattle.line_law.specs.declared.call.Reply.{Reply}
use Rattle.line_law.specs.declared.call.Reply.TheVariants as replies
use Rattle.line_law.specs.declared.link.Link.{Link}
use Rattle.line_law.specs.declared.state.Bell.{Bell}
use Rattle.line_law.specs.declared.state.Block.{Block}
use Rattle.line_law.specs.declared.state.BoxState.{BoxState}
use Rattle.line_law.specs.declared.state.Control.{Control}
use Rattle.line_law.specs.declared.state.Control.TheVariants.{Absolute, Permissive}
use Rattle.line_law.specs.declared.state.Incoming.{Incoming}
use Rattle.line_law.specs.declared.state.Passage.{Passage}
use Rattle.line_law.specs.declared.ways.ByWay.{ByWay}
use Rattle.line_law.specs.Arrivals.{berth_occupied, berth_refusal, berthed, cleared, first_train, line_berthed}
use Rattle.line_law.specs.Arrivals.{line_cleared, line_parted, next_number, next_train, portion_refusal, train_awaited}
use Rattle.line_law.specs.Arrivals.{train_berthed, train_cleared, train_parted}
use Rattle.train_laws.specs.Authorities.{count_if}
use Rattle.line_law.specs.Bells.{rung}
use Rattle.line_law.specs.Controls.{berthed_control, given, released_line, wound, wound_here}
use Rattle.line_law.specs.Decisions.{Told, Decision, or_later}
use Rattle.line_law.specs.Instruments.{clearing_refusal, control_refusal, from_refusal, home_refusal, line_turned}
use Rattle.line_law.specs.Instruments.{same_position, turn_refusal, turned, welwyn_refusal}
use Rattle.line_law.specs.Known.{knows_act}
use Rattle.line_law.specs.Law.{link_of}
use Rattle.line_law.specs.Levers.{is_unspent_clear, pulled, starter_link}
use Rattle.line_law.specs.Lines.{FitsLine}
use Rattle.line_law.specs.Outcomes.{Moves, Passes, Overruns, Outcome, Refused, Rings, Hears, AwaitsBell, Turns}
use Rattle.line_law.specs.Outcomes.{AwaitsBlock, Pulls, PullsStarter, Puts, Brings, GoesTo, GoesAway, Enters}
use Rattle.line_law.specs.Outcomes.{AwaitsTrain, Berths, Parts, Clears, Winds, Releases}
use Rattle.line_law.specs.Sections.{berth_count, count_of}
use Rattle.line_law.specs.LeverEnds.{first_reversed}
use Rattle.line_law.specs.Tracks.{first_standing, train_on}
use Rattle.line_law.specs.Trains.{holds, left_by, line_left}
use Rattle.line_law.specs.Ways.{of_way, with_way}
use Rattle.line_law.proofs.Found.{both}
use Rattle.train_laws.proofs.GuardedSections.{allowed_by, IsEased, IsGuarded, ease_here, ease_left, ease_place}
use Rattle.train_laws.proofs.GuardedSections.{ease_same, eased_guarded, of_with_other, then_eased, told_either}
use Rattle.train_laws.proofs.SectionReplies.{ThenOwn, ThenElsewhere}
use Rattle.train_laws.proofs.OneTrainRear.{awaited_here, heard_here, moves_line, starter_line, train_awaited_here}
use Rattle.line_law.proofs.Words.{of_way-with}
use Rattle.train_laws.proofs.StarterFacts.{berths_apart, brought_off_berth, none_into_berth}

-- ---- what the calls on other words do

rung_eased : (berth : Option Berth) (w : Way) (here : BoxState) (side : Way) (code count : ℕ) (unheard : Option ℕ)
    → IsEased berth w here (rung here side code count unheard).here
rung_eased berth w here side code count (Some u) = ease_same berth w here _ refl refl
rung_eased berth w here side code count None = ease_same berth w here _ refl refl

pulled_eased : (signal : Option Signal) (berth : Option Berth) (w : Way) (here : BoxState) (lever : ℕ)
    → IsEased berth w here (pulled here lever signal)
pulled_eased None berth w here lever = ease_same berth w here _ refl refl
pulled_eased (Some signal) berth w here lever = ease_same berth w here _ refl refl

left_line : (box_plan : BoxFields) (w : Way) (here : BoxState) (signal : Signal)
    → of_way (left_by box_plan here signal).incoming w
    ≡ line_left (berth_of box_plan w) signal.from (of_way here.incoming w)
left_line box_plan Up here signal = refl
left_line box_plan Down here signal = refl

left_eased : (box_plan : BoxFields) (w : Way) (here : BoxState) (signal : Signal) (train : ℕ)
    → train_on here.places signal.from ≡ Some train
    → IsEased (berth_of box_plan w) w here (left_by box_plan here signal)
left_eased box_plan w here signal train there =
    ease_left (berth_of box_plan w) w here (left_by box_plan here signal) signal.from train there refl
    (left_line box_plan w here signal)

other_line : (both : ByWay Incoming) (v w : Way) (line : Incoming) → (v ≡ w → ⊥)
    → (of_way (with_way both v line) w).control ≡ (of_way both w).control
other_line both v w line ne = ap (λ (x : Incoming). x.control) (of_with_other both v w line ne)

berthed_eased : (train : Option ℕ) (berth : Option Berth) (w : Way) (here : BoxState) (v : Way) (place j : ℕ)
    (line : List Passage) → (v ≡ w → ⊥) → ((b : Berth) → berth ≡ Some b → b.place ≢ place)
    → IsEased berth w here (train_berthed train here v place j line).here
berthed_eased None berth w here v place j line ne apart = ease_same berth w here _ refl refl
berthed_eased (Some train) berth w here v place j line ne apart =
    ease_place berth w here _ place (Some train) refl apart
    (other_line here.incoming v w (line_berthed (of_way here.incoming v) j) ne)

parted_eased : (train : Option ℕ) (berth : Option Berth) (w : Way) (here : BoxState) (v : Way) (place j : ℕ)
    (line : List Passage) → (v ≡ w → ⊥) → ((b : Berth) → berth ≡ Some b → b.place ≢ place)
    → IsEased berth w here (train_parted train here v place j line).here
parted_eased None berth w here v place j line ne apart = ease_same berth w here _ refl refl
parted_eased (Some train) berth w here v place j line ne apart =
    ease_place berth w here _ place (Some train) refl apart
    (other_line here.incoming v w (line_parted (of_way here.incoming v) train) ne)

cleared_eased : (train : Option ℕ) (berth : Option Berth) (w : Way) (here : BoxState) (v : Way) (j : ℕ)
    (line : List Passage) → (v ≡ w → ⊥) → IsEased berth w here (train_cleared train here v j line).here
cleared_eased None berth w here v j line ne = ease_same berth w here _ refl refl
cleared_eased (Some train) berth w here v j line ne =
    ease_same berth w here _ refl (other_line here.incoming v w (line_cleared (of_way here.incoming v) j) ne)

known_train : (plan : PlanFields) (b train : ℕ) → IsTrue (knows_act plan b (acts.Bring train))
    → IsTrue (is_train plan.trains train) × ((train_at plan.trains train).box_no ≡ b)
known_train plan b train h =
    let parts = both (is_train plan.trains train) ((train_at plan.trains train).box_no == b) h in
    (parts.0, eqb-true (train_at plan.trains train).box_no b parts.1)

-- the call isn't one on the incoming line of that way that may change its berth or its control
abbrev IsOther : Way → Act → Type 0
IsOther w (acts.Turn way position) = way ≡ w → ⊥
IsOther w (acts.Berth way) = way ≡ w → ⊥
IsOther w (acts.BerthPart way) = way ≡ w → ⊥
IsOther w (acts.ClearPortion way) = way ≡ w → ⊥
IsOther w (acts.Wind way) = way ≡ w → ⊥
IsOther w (acts.Release way) = way ≡ w → ⊥
IsOther w act = Unit {0}

-- a call that is not on the incoming line of a way is on another
pub other_line_of : (box_plan : BoxFields) (w : Way) (act : Act) → (link_of box_plan act ≡ Link.In w → ⊥)
    → IsOther w act
other_line_of box_plan w (acts.Turn way position) off = λ e. off (ap (λ (x : Way). Link.In x) e)
other_line_of box_plan w (acts.Berth way) off = λ e. off (ap (λ (x : Way). Link.In x) e)
other_line_of box_plan w (acts.BerthPart way) off = λ e. off (ap (λ (x : Way). Link.In x) e)
other_line_of box_plan w (acts.ClearPortion way) off = λ e. off (ap (λ (x : Way). Link.In x) e)
other_line_of box_plan w (acts.Wind way) off = λ e. off (ap (λ (x : Way). Link.In x) e)
other_line_of box_plan w (acts.Release way) off = λ e. off (ap (λ (x : Way). Link.In x) e)
other_line_of box_plan w act off = tt

moves_other : (w : Way) (here : BoxState) (lever : ℕ) (signal : Signal) (act : Act) → Moves here lever signal act
    → IsOther w act
moves_other w here lever signal act (Passes free) = tt
moves_other w here lever signal act (Overruns free) = tt

-- a call of the box in advance elsewhere leaves its berth and the control of the line, or a train leaves the berth
pub advance_eased : (plan : PlanFields) (b : ℕ) (w : Way) (here : BoxState) (act : Act) (d : Decision) → IsPlan plan
    → IsBox (length plan.boxes) b (box_at plan.boxes b) → IsTrue (knows_act plan b act)
    → Outcome plan (box_at plan.boxes b) here act d
    → IsOther w act → ThenElsewhere d (λ reply h. IsEased (berth_of (box_at plan.boxes b) w) w here h)
advance_eased plan b w here a d sound is known (Refused act reply refused) other = ease_same _ w here here refl refl
advance_eased plan b w here a d sound is known (Rings side code) other =
    λ bell. rung_eased _ w here side code bell.count bell.unheard
advance_eased plan b w here a d sound is known (Hears side) other =
    λ bell. ease_here _ w here _ (heard_here here bell.count bell.unheard)
advance_eased plan b w here a d sound is known (AwaitsBell side code) other =
    λ bell. ease_here _ w here _ (awaited_here here code bell.count bell.unheard)
advance_eased plan b w here a d sound is known (Turns way position berth at free) other =
    λ block. ease_same _ w here _ refl
    (other_line here.incoming way w (line_turned (of_way here.incoming way) position (block.turns + 1)) other)
advance_eased plan b w here a d sound is known (AwaitsBlock way position) other =
    λ block. told_either (same_position block.position position) _ _
    (λ (told : Told Block). IsEased (berth_of (box_at plan.boxes b) w) w here told.here)
    (ease_same _ w here here refl refl) (ease_same _ w here here refl refl)
advance_eased plan b w here a d sound is known (Pulls lever none free) other =
    pulled_eased (signal_of (box_at plan.boxes b) lever) _ w here lever
advance_eased plan b w here a d sound is known (PullsStarter lever way starts free) other =
    λ block. told_either (is_unspent_clear block) _ _
    (λ (told : Told Block). IsEased (berth_of (box_at plan.boxes b) w) w here told.here)
    (pulled_eased (signal_of (box_at plan.boxes b) lever) _ w here lever) (ease_same _ w here here refl refl)
advance_eased plan b w here a d sound is known (Puts lever free) other = ease_same _ w here _ refl refl
advance_eased plan b w here a d sound is known (Brings train free) other =
    let says = known_train plan b train known in
    ease_place _ w here _ (train_at plan.trains train).place (Some train) refl
    (λ berth at. brought_off_berth plan b w berth train sound at says.0 says.1) refl
advance_eased plan b w here a d sound is known (GoesTo act lever signal train place found to there moves) other =
    then_eased _ w here (left_by (box_at plan.boxes b) here signal) _
    (left_eased (box_at plan.boxes b) w here signal train there)
    (ease_place _ w (left_by (box_at plan.boxes b) here signal) _ place (Some train) refl
    (λ berth at. none_into_berth (length plan.boxes) b (box_at plan.boxes b) w berth lever signal place is at found
    to) refl)
advance_eased plan b w here a d sound is known (GoesAway act lever signal train found to there moves) other =
    left_eased (box_at plan.boxes b) w here signal train there
advance_eased plan b w here a d sound is known (Enters act lever signal train way found to there moves) other =
    λ line. told_either (holds line (of_way here.sent way + 1)) _ _
    (λ (told : Told (List Passage)). IsEased (berth_of (box_at plan.boxes b) w) w here told.here)
    (ease_same _ w here here refl refl)
    (then_eased _ w here (left_by (box_at plan.boxes b) here signal) _
    (left_eased (box_at plan.boxes b) w here signal train there)
    (ease_same _ w (left_by (box_at plan.boxes b) here signal) _ refl refl))
advance_eased plan b w here a d sound is known (AwaitsTrain way) other =
    λ line. ease_here _ w here _ (train_awaited_here (next_train here way line) here (next_number here way) line)
advance_eased plan b w here a d sound is known (Berths way berth at free) other =
    λ line. berthed_eased (next_train here way line) _ w here way berth.place (next_number here way) line other
    (λ mine here_at. berths_apart (length plan.boxes) b (box_at plan.boxes b) way w berth mine is at here_at other)
advance_eased plan b w here a d sound is known (Parts way berth at free) other =
    λ line. parted_eased (next_train here way line) _ w here way berth.place (next_number here way) line other
    (λ mine here_at. berths_apart (length plan.boxes) b (box_at plan.boxes b) way w berth mine is at here_at other)
advance_eased plan b w here a d sound is known (Clears way free) other =
    λ line. cleared_eased (next_train here way line) _ w here way (next_number here way) line other
advance_eased plan b w here a d sound is known (Winds way free) other =
    ease_same _ w here _ refl
    (other_line here.incoming way w (wound (of_way here.incoming way) (here.moment + plan.delay)) other)
advance_eased plan b w here a d sound is known (Releases way free) other =
    ease_same _ w here _ refl (other_line here.incoming way w (released_line (of_way here.incoming way)) other)

-- ---- the commutator is turned

none_later : (first later : Option Reply) → or_later first later ≡ None → later ≡ None
none_later (Some reply) later e = cc
none_later None later e = e

none_first : (first later : Option Reply) → or_later first later ≡ None → first ≡ None
none_first (Some reply) later e = cc
none_first None later e = refl

unless_there : (there : Bool) (reply : Reply) (rest : Option Reply) → cond there (Some reply) rest ≡ None → rest ≡ None
unless_there true reply rest e = cc
unless_there false reply rest e = e

-- Line Clear is refused by the control no longer
free_control : (here : BoxState) (berth : Berth) (line : Incoming) → turn_refusal here berth line shows.LineClear ≡ None
    → control_refusal line.control here berth ≡ None
free_control here berth line e =
    none_later (home_refusal (first_reversed here.ends berth.homes)) _
    (none_later (from_refusal line.position) _
    (unless_there (same_position line.position shows.LineClear) replies.AlreadyThere _ e))

ready_room : (state : WelwynState) → welwyn_refusal state ≡ None
    → 1 + allowed_by (Absolute state) ≤ allowed_by (given (Absolute state))
ready_room welwyn.Ready e = omega arith
ready_room welwyn.Given e = cc
ready_room welwyn.Berthed e = cc

-- where Line Clear may be given, the control then allows one authority more
given_room : (control : Control) (here : BoxState) (berth : Berth) → control_refusal control here berth ≡ None
    → 1 + allowed_by control ≤ allowed_by (given control)
given_room (Absolute state) here berth e =
    ready_room state (none_later (clearing_refusal (first_standing here.places (berth.place ∷ berth.clearing))) _ e)
given_room (Permissive out) here berth e = omega arith

more_out : (is : Bool) (out n : ℕ) → (out == n) ≡ is → cond is (Some (replies.CountFull out)) None ≡ None → out ≤ n
    → out + 1 ≤ n
more_out true out n is e h = cc
more_out false out n is e h = let apart : out ≢ n = eqb-false out n is in omega (arith, apart, h)

given_fits : (permissive : Option ℕ) (control : Control) (here : BoxState) (berth : Berth)
    → berth.permissive ≡ permissive → control_refusal control here berth ≡ None → FitsLine permissive control
    → FitsLine permissive (given control)
given_fits None (Absolute state) here berth p e k = tt
given_fits None (Permissive out) here berth p e k = absurd k
given_fits (Some n) (Absolute state) here berth p e k = absurd k
given_fits (Some n) (Permissive out) here berth p e k =
    let same : most_of berth.permissive ≡ n = ap most_of p in
    let free : cond (out == n) (Some (replies.CountFull out)) None ≡ None =
    subst (λ (m : ℕ). cond (out == m) (Some (replies.CountFull out)) None ≡ None) same e in
    more_out (out == n) out n refl free k

-- what the turned line allows: an authority more where Line Clear was turned to
turned_room : (position : Position) (here : BoxState) (berth : Berth) (line : Incoming) (v : ℕ) (block : Block)
    → turn_refusal here berth line position ≡ None
    → let after : Block =
    record { turns = v; position = position; spent = false } in
    count_if (is_unspent_clear after) + allowed_by line.control ≤ allowed_by (line_turned line position v).control
turned_room shows.Normal here berth line v block free = omega arith
turned_room shows.LineClear here berth line v block free =
    given_room line.control here berth (free_control here berth line free)
turned_room shows.TrainOnLine here berth line v block free = omega arith

turned_fits : (position : Position) (here : BoxState) (berth : Berth) (line : Incoming) (v : ℕ)
    → turn_refusal here berth line position ≡ None → FitsLine berth.permissive line.control
    → FitsLine berth.permissive (line_turned line position v).control
turned_fits shows.Normal here berth line v free k = k
turned_fits shows.LineClear here berth line v free k =
    given_fits berth.permissive line.control here berth refl (free_control here berth line free) k
turned_fits shows.TrainOnLine here berth line v free k = k

turned_guarded : (starter : Option Signal) (berth : Berth) (w : Way) (rear here : BoxState) (position : Position)
    (k : Block) (t : List Passage) → turn_refusal here berth (of_way here.incoming w) position ≡ None
    → IsGuarded starter (Some berth) w rear here k t
    → IsGuarded starter (Some berth) w rear (turned here w position k).here (turned here w position k).word t
turned_guarded starter berth w rear here position k t free g =
    let line : Incoming = of_way here.incoming w in
    let after : (of_way (turned here w position k).here.incoming w).control
    ≡ (line_turned line position (k.turns + 1)).control =
    ap (λ (x : Incoming). x.control) (of_way-with here.incoming w (line_turned line position (k.turns + 1))) in
    let room = turned_room position here berth line (k.turns + 1) k free in
    let allowed = g.allowed in
    record {
      allowed = rw after (omega (arith, room, allowed));
      kind =
          rw after (turned_fits position here berth line (k.turns + 1) free g.kind);
    }

-- ---- a train comes into the berth

not_portion : (portion : Option ℕ) (there : Option ℕ) → or_later (portion_refusal portion) (berth_occupied there) ≡ None
    → there ≡ None
not_portion (Some train) there e = cc
not_portion None (Some train) e = cc
not_portion None None e = refl

berthed_room : (control : Control) → 1 ≤ allowed_by control → allowed_by control ≤ allowed_by (berthed_control control)
berthed_room (Absolute welwyn.Ready) h = omega arith
berthed_room (Absolute welwyn.Given) h = omega arith
berthed_room (Absolute welwyn.Berthed) h = omega arith
berthed_room (Permissive out) h = omega arith

berthed_fits : (permissive : Option ℕ) (control : Control) → FitsLine permissive control
    → FitsLine permissive (berthed_control control)
berthed_fits None (Absolute state) k = tt
berthed_fits None (Permissive out) k = absurd k
berthed_fits (Some n) (Absolute state) k = absurd k
berthed_fits (Some n) (Permissive out) k = k

count_of-le : (there : Option ℕ) → count_of there ≤ 1
count_of-le None = omega arith
count_of-le (Some train) = omega arith

some_there : (j : ℕ) (line : List Passage) (train : ℕ) → first_train j line ≡ Some train
    → length (drop 1 line) + 1 ≡ length line
some_there j [] train e = cc
some_there j (first ∷ later) train e = omega arith

came_guarded : (next : Option ℕ) (starter : Option Signal) (berth : Berth) (w : Way) (rear here : BoxState) (k : Block)
    (t : List Passage) (j : ℕ) → first_train j t ≡ next → train_on here.places berth.place ≡ None
    → IsGuarded starter (Some berth) w rear here k t
    → IsGuarded starter (Some berth) w rear (train_berthed next here w berth.place j t).here k
    (train_berthed next here w berth.place j t).word
came_guarded None starter berth w rear here k t j e empty g = g
came_guarded (Some train) starter berth w rear here k t j e empty g =
    let line : Incoming = of_way here.incoming w in
    let after : (of_way (train_berthed (Some train) here w berth.place j t).here.incoming w).control
    ≡ berthed_control line.control =
    ap (λ (x : Incoming). x.control) (of_way-with here.incoming w (line_berthed line j)) in
    let was : berth_count (Some berth) here ≡ 0 = ap count_of empty in
    let now = count_of-le (train_on (slice_set here.places berth.place (Some train)) berth.place) in
    let fewer = some_there j t train e in
    let allowed = g.allowed in
    let some : 1 ≤ allowed_by line.control = omega (arith, fewer, allowed) in
    let room = berthed_room line.control some in
    record {
      allowed = rw after (omega (arith, was, now, fewer, allowed, room));
      kind =
          rw after (berthed_fits berth.permissive line.control g.kind);
    }

berthed_guarded : (starter : Option Signal) (berth : Berth) (w : Way) (rear here : BoxState) (k : Block)
    (t : List Passage) → berth_refusal here w berth ≡ None
    → IsGuarded starter (Some berth) w rear here k t
    → IsGuarded starter (Some berth) w rear (berthed here w berth.place t).here k (berthed here w berth.place t).word
berthed_guarded starter berth w rear here k t free g =
    came_guarded (next_train here w t) starter berth w rear here k t (next_number here w) refl
    (not_portion (of_way here.incoming w).portion (train_on here.places berth.place) free) g

-- a train comes in part: only where it isn't there
not_parted : (next : Option ℕ) (N : Reply → Type 0) (starter : Option Signal) (berth : Option Berth) (w way : Way)
    (rear here : BoxState) (place j : ℕ) (k : Block) (t : List Passage)
    → ((j train : ℕ) → N (replies.PartBerthed train j) → ⊥)
    → IsGuarded starter berth w rear here k t → N (train_parted next here way place j t).reply
    → IsGuarded starter berth w rear (train_parted next here way place j t).here k
    (train_parted next here way place j t).word
not_parted None N starter berth w way rear here place j k t clean g = λ n. g
not_parted (Some train) N starter berth w way rear here place j k t clean g = λ n. absurd (clean j train n)

-- ---- a portion is cleared away, and a train is awaited

fewer_later : (line : List Passage) → length (drop 1 line) ≤ length line
fewer_later [] = omega arith
fewer_later (first ∷ later) = omega arith

fewer_guarded : (starter : Option Signal) (berth : Option Berth) (w : Way) (rear here after : BoxState) (k : Block)
    (t : List Passage) → IsEased berth w here after → IsGuarded starter berth w rear here k t
    → IsGuarded starter berth w rear after k (drop 1 t)
fewer_guarded starter berth w rear here after k t eased g =
    let all = eased_guarded starter berth w rear here after k t eased g in
    let allowed = all.allowed in
    let fewer = fewer_later t in
    record { allowed = omega (arith, allowed, fewer); kind = all.kind }

cleared_guarded : (next : Option ℕ) (starter : Option Signal) (berth : Option Berth) (w : Way) (rear here : BoxState)
    (j : ℕ) (k : Block) (t : List Passage) → IsGuarded starter berth w rear here k t
    → IsGuarded starter berth w rear (train_cleared next here w j t).here k (train_cleared next here w j t).word
cleared_guarded None starter berth w rear here j k t g = g
cleared_guarded (Some train) starter berth w rear here j k t g =
    fewer_guarded starter berth w rear here _ k t
    (ease_same berth w here _ refl (ap (λ (x : Incoming). x.control) (of_way-with here.incoming w _))) g

await_guarded : (next : Option ℕ) (starter : Option Signal) (berth : Option Berth) (w : Way) (rear here : BoxState)
    (j : ℕ) (k : Block) (t : List Passage) → IsGuarded starter berth w rear here k t
    → IsGuarded starter berth w rear (train_awaited next here j t).here k (train_awaited next here j t).word
await_guarded None starter berth w rear here j k t g = g
await_guarded (Some train) starter berth w rear here j k t g = g

-- winding leaves the control
wound_control : (here : BoxState) (v w : Way) (ready_at : ℕ)
    → (of_way (wound_here here v ready_at).incoming w).control ≡ (of_way here.incoming w).control
wound_control here Up Up ready_at = refl
wound_control here Up Down ready_at = refl
wound_control here Down Up ready_at = refl
wound_control here Down Down ready_at = refl

-- ---- a call on the section's own words

in_is : (v w : Way) → Link.In v ≡ Link.In w → v ≡ w
in_is v w e = cc

out_not_in : (v w : Way) → Link.Out v ≡ Link.In w → ⊥
out_not_in v w e = cc

-- a call of the box in advance on its incoming line keeps the section guarded, where no train comes in part and nothing
-- is released
pub advance_guarded : (plan : PlanFields) (b : ℕ) (w : Way) (starter : Option Signal) (N : Act → Reply → Type 0)
    (rear here : BoxState) (l : Bell) (k : Block) (t : List Passage) (act : Act) (d : Decision)
    → IsPlan plan → IsBox (length plan.boxes) b (box_at plan.boxes b) → IsTrue (knows_act plan b act)
    → ((j train : ℕ) → N (acts.BerthPart w) (replies.PartBerthed train j) → ⊥)
    → (N (acts.Release w) replies.Released → ⊥)
    → Outcome plan (box_at plan.boxes b) here act d → link_of (box_at plan.boxes b) act ≡ Link.In w
    → IsGuarded starter (berth_of (box_at plan.boxes b) w) w rear here k t
    → ThenOwn d (λ reply h l k t. N act reply → IsGuarded starter (berth_of (box_at plan.boxes b) w) w rear h k t) l k t
advance_guarded plan b w starter N rear here l k t a d sound is known parts releases (Refused act reply refused) line
    g = λ n. g
advance_guarded plan b w starter N rear here l k t a d sound is known parts releases (Rings side code) line g =
    absurd (out_not_in side w line)
advance_guarded plan b w starter N rear here l k t a d sound is known parts releases (Hears side) line g =
    λ n. eased_guarded starter _ w rear here _ k t (ease_here _ w here _ (heard_here here l.count l.unheard)) g
advance_guarded plan b w starter N rear here l k t a d sound is known parts releases (AwaitsBell side code) line g =
    λ n. eased_guarded starter _ w rear here _ k t (ease_here _ w here _ (awaited_here here code l.count l.unheard)) g
advance_guarded plan b w starter N rear here l k t a d sound is known parts releases (Turns way position berth at free)
    line g =
    let same : way ≡ w = in_is way w line in
    let here_at : berth_of (box_at plan.boxes b) w ≡ Some berth =
    subst (λ (v : Way). berth_of (box_at plan.boxes b) v ≡ Some berth) same at in
    let free_there : turn_refusal here berth (of_way here.incoming w) position ≡ None =
    subst (λ (v : Way). turn_refusal here berth (of_way here.incoming v) position ≡ None) same free in
    let with_it : IsGuarded starter (Some berth) w rear here k t =
    subst (λ (o : Option Berth). IsGuarded starter o w rear here k t) here_at g in
    let after = turned_guarded starter berth w rear here position k t free_there with_it in
    λ n. subst
    (λ (v : Way). IsGuarded starter (berth_of (box_at plan.boxes b) w) w rear (turned here v position k).here
    (turned here v position k).word t) (sym same)
    (subst (λ (o : Option Berth). IsGuarded starter o w rear (turned here w position k).here
    (turned here w position k).word t) (sym here_at) after)
advance_guarded plan b w starter N rear here l k t a d sound is known parts releases (AwaitsBlock way position) line g =
    absurd (out_not_in way w line)
advance_guarded plan b w starter N rear here l k t a d sound is known parts releases (Pulls lever none free) line g =
    λ n. eased_guarded starter _ w rear here _ k t
    (advance_eased plan b w here _ _ sound is known (Pulls lever none free) tt) g
advance_guarded plan b w starter N rear here l k t a d sound is known parts releases
    (PullsStarter lever way starts free) line g = absurd (out_not_in way w (sym (ap starter_link starts) ∙ line))
advance_guarded plan b w starter N rear here l k t a d sound is known parts releases (Puts lever free) line g =
    λ n. eased_guarded starter _ w rear here _ k t (advance_eased plan b w here _ _ sound is known (Puts lever free) tt)
    g
advance_guarded plan b w starter N rear here l k t a d sound is known parts releases (Brings train free) line g =
    λ n. eased_guarded starter _ w rear here _ k t
    (advance_eased plan b w here _ _ sound is known (Brings train free) tt) g
advance_guarded plan b w starter N rear here l k t a d sound is known parts releases
    (GoesTo act lever signal train place found to there moves) line g =
    λ n. eased_guarded starter _ w rear here _ k t
    (advance_eased plan b w here _ _ sound is known (GoesTo act lever signal train place found to there moves)
    (moves_other w here lever signal act moves)) g
advance_guarded plan b w starter N rear here l k t a d sound is known parts releases
    (GoesAway act lever signal train found to there moves) line g =
    λ n. eased_guarded starter _ w rear here _ k t
    (advance_eased plan b w here _ _ sound is known (GoesAway act lever signal train found to there moves)
    (moves_other w here lever signal act moves)) g
advance_guarded plan b w starter N rear here l k t a d sound is known parts releases
    (Enters act lever signal train way found to there moves) line g =
    absurd (out_not_in way w
    (sym (ap starter_link (starter_line (box_at plan.boxes b) lever signal way found to))
    ∙ (sym (moves_line (box_at plan.boxes b) here lever signal act moves) ∙ line)))
advance_guarded plan b w starter N rear here l k t a d sound is known parts releases (AwaitsTrain way) line g =
    λ n. await_guarded (next_train here way t) starter _ w rear here (next_number here way) k t g
advance_guarded plan b w starter N rear here l k t a d sound is known parts releases (Berths way berth at free) line g =
    let same : way ≡ w = in_is way w line in
    let here_at : berth_of (box_at plan.boxes b) w ≡ Some berth =
    subst (λ (v : Way). berth_of (box_at plan.boxes b) v ≡ Some berth) same at in
    let free_there : berth_refusal here w berth ≡ None =
    subst (λ (v : Way). berth_refusal here v berth ≡ None) same free in
    let with_it : IsGuarded starter (Some berth) w rear here k t =
    subst (λ (o : Option Berth). IsGuarded starter o w rear here k t) here_at g in
    let after = berthed_guarded starter berth w rear here k t free_there with_it in
    λ n. subst
    (λ (v : Way). IsGuarded starter (berth_of (box_at plan.boxes b) w) w rear (berthed here v berth.place t).here k
    (berthed here v berth.place t).word) (sym same)
    (subst (λ (o : Option Berth). IsGuarded starter o w rear (berthed here w berth.place t).here k
    (berthed here w berth.place t).word) (sym here_at) after)
advance_guarded plan b w starter N rear here l k t a d sound is known parts releases (Parts way berth at free) line g =
    let same : way ≡ w = in_is way w line in
    not_parted (next_train here way t) (N (acts.BerthPart way)) starter _ w way rear here berth.place
    (next_number here way) k t
    (λ j train n. parts j train (subst (λ (v : Way). N (acts.BerthPart v) (replies.PartBerthed train j)) same n)) g
advance_guarded plan b w starter N rear here l k t a d sound is known parts releases (Clears way free) line g =
    let same : way ≡ w = in_is way w line in
    λ n. subst
    (λ (v : Way). IsGuarded starter (berth_of (box_at plan.boxes b) w) w rear (cleared here v t).here k
    (cleared here v t).word) (sym same)
    (cleared_guarded (next_train here w t) starter _ w rear here (next_number here w) k t g)
advance_guarded plan b w starter N rear here l k t a d sound is known parts releases (Winds way free) line g =
    λ n. eased_guarded starter _ w rear here _ k t (ease_same _ w here _ refl (wound_control here way w _)) g
advance_guarded plan b w starter N rear here l k t a d sound is known parts releases (Releases way free) line g =
    let same : way ≡ w = in_is way w line in
    λ n. absurd (releases (subst (λ (v : Way). N (acts.Release v) replies.Released) same n))
