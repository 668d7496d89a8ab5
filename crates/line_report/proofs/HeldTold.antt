-- What an entry tells of the trains that a section holds.
use Rattle.std.proofs.Common.{ℕ, zero, suc, ◌+◌, ◌≡◌, ◌≢◌, ◌<◌, List, [], ◌∷◌, length, drop, Bool, true, false}
use Rattle.std.proofs.Common.{IsTrue, Option, Some, None, inl, inr, IfSome, refl, sym, ap, subst, ◌∙◌, arith}
use Rattle.std.proofs.Common.{length-append, eqb-true}
use Rattle.std.specs.Prelude.{◌==◌, ◌&&◌, ◌||◌, slice_index_or, slice_set}
use Rattle.std.proofs.lemmas.Bool.{eqb-false}
use Rattle.std.proofs.lemmas.Bool.Decides.{eqb_tells}
use Rattle.std.proofs.lemmas.List.{get_or-set_other, get_or-set_same}
use Rattle.block_words.specs.declared.Position.{Position}
use Rattle.block_words.specs.declared.Way.{Way}
use Rattle.block_words.specs.declared.Way.TheVariants.{Up, Down}
use Rattle.line_plan.specs.Frames.{BoxFields, berth_of, is_way, same_way, signal_of, way_to}
use Rattle.line_plan.specs.Plans.{IsBox, IsPlan, PlanFields, is_train, train_at}
use Rattle.line_plan.specs.Sections.{IsSection, advance_of, section_berth}
use Rattle.line_plan.specs.declared.berth.Berth.{Berth}
use Rattle.line_plan.specs.declared.section.Section.{Section}
use Rattle.line_plan.specs.declared.signal.Signal.{Signal}
use Rattle.line_plan.specs.declared.signal.To.{To}
use Rattle.line_plan.specs.declared.signal.To.TheVariants as leads
use Rattle.line_law.specs.declared.call.Act.{Act}
use Rattle.line_law.specs.declared.call.Act.TheVariants as acts
use Rattle.line_law.specs.declared.call.Call.{Call}
use Rattle.line_law.specs.declared.call.Entry.{Entry}
use Rattle.line_law.specs.declared.call.Reply.{Reply}
use Rattle.line_law.specs.declared.call.Reply.TheVariants as replies
use Rattle.line_law.specs.declared.link.Link.{Link}
use Rattle.line_law.specs.declared.state.Bell.{Bell}
use Rattle.line_law.specs.declared.state.Block.{Block}
use Rattle.line_law.specs.declared.state.BoxState.{BoxState}
use Rattle.line_law.specs.declared.state.Passage.{Passage}
use Rattle.line_law.specs.declared.tracks.Standing.{Standing}
use Rattle.line_law.specs.Arrivals.{berth, berth_occupied, berth_part, berth_refusal, clear_portion}
use Rattle.line_law.specs.Arrivals.{clear_portion_refusal, cleared_here, first_train, in_berth, line_berthed}
use Rattle.line_law.specs.Arrivals.{line_parted, next_number, next_train, portion_refusal, train_awaited}
use Rattle.line_law.specs.Arrivals.{train_berthed, train_cleared, train_parted}
use Rattle.line_law.specs.Bells.{rung}
use Rattle.line_law.specs.Controls.{release_refusal, wind_refusal}
use Rattle.line_law.specs.Decisions.{Told, Decision, Here, OnBell, OnBlock, OnPlainLine, or_later, unless}
use Rattle.line_law.specs.History.{after_entry}
use Rattle.line_law.specs.Instruments.{same_position, turn, turn_refusal}
use Rattle.line_law.specs.Known.{knows_act}
use Rattle.line_law.specs.Law.{MayCall, at_moment, box_plan_of, decide, link_of, step}
use Rattle.line_law.specs.LeverEnds.{is_off}
use Rattle.line_law.specs.Levers.{is_unspent_clear, pull_at, pull_refusal, pulled, put_refusal, starter_link}
use Rattle.line_law.specs.Levers.{starter_way}
use Rattle.line_law.specs.Lines.{IsLineOf, PlainState}
use Rattle.line_law.specs.SectionFacts.{Fact}
use Rattle.line_law.specs.Sections.{berth_count, count_of, held_by, is_entered, is_part_berthed, is_parting}
use Rattle.line_law.specs.Tracks.{first_standing, train_on}
use Rattle.line_law.specs.Trains.{bring_refusal, danger_refusal, end_of, enter, go, holds, left_by, move, off_refusal}
use Rattle.line_law.specs.Trains.{overrun_refusal, overrun_signal, pass_refusal, pass_signal, put_at}
use Rattle.line_law.specs.Trains.{standing_refusal, way_refusal}
use Rattle.line_law.specs.Ways.{of_way, with_way}
use Rattle.line_law.proofs.Found.{both}
use Rattle.line_law.proofs.PlanFacts.{berth_is}
use Rattle.line_law.proofs.SectionSteps.{HasBoxes, has_boxes}
use Rattle.line_law.proofs.Sides.{known_parts}
use Rattle.line_report.specs.Gains.{counts_trains, gains, gains_at_rear, gains_in_advance, has_passed, is_cleared}
use Rattle.line_report.specs.Gains.{is_clearing, is_entering, is_leaving}
use Rattle.line_report.specs.Gains.{is_home, loses, loses_in_advance}
use Rattle.train_laws.specs.Authorities.{count_if}
use Rattle.train_laws.proofs.GuardedSections.{elsewhere_weaker, told_either}
use Rattle.train_laws.proofs.OneTrainRear.{awaited_here, heard_here, train_awaited_here}
use Rattle.train_laws.proofs.SectionReplies.{Leads, ReplyFact, ThenElsewhere, ThenOwn, step_leads}
use Rattle.train_laws.proofs.StarterFacts.{berths_apart, brought_off_berth, eqb_refl, none_into_berth}
use Rattle.train_laws.proofs.StarterFacts.{same_way_refl}

-- ---- decisions

own_weaker : (d : Decision) (P Q : Reply → BoxState → Bell → Block → List Passage → Type 0) (l : Bell) (k : Block)
    (t : List Passage) → ((reply : Reply) (h : BoxState) (l : Bell) (k : Block) (t : List Passage) → P reply h l k t
    → Q reply h l k t)
    → ThenOwn d P l k t → ThenOwn d Q l k t
own_weaker (Here reply here) P Q l k t f p = f reply here l k t p
own_weaker (OnBell act) P Q l k t f p = f _ _ _ k t p
own_weaker (OnBlock act) P Q l k t f p = f _ _ l _ t p
own_weaker (OnPlainLine act) P Q l k t f p = f _ _ l k _ p

elsewhere_const : (d : Decision) (P : Type 0) → P → ThenElsewhere d (λ reply h. P)
elsewhere_const (Here reply here) P p = p
elsewhere_const (OnBell act) P p = λ x. p
elsewhere_const (OnBlock act) P p = λ x. p
elsewhere_const (OnPlainLine act) P p = λ x. p

-- what is refused in the box, and what comes past the refusal
unless_elsewhere : (r : Option Reply) (here : BoxState) (rest : Decision) (P : Reply → BoxState → Type 0)
    → IfSome r (λ reply. P reply here) → (r ≡ None → ThenElsewhere rest P) → ThenElsewhere (unless r here rest) P
unless_elsewhere (Some reply) here rest P p q = p
unless_elsewhere None here rest P p q = q refl

unless_own : (r : Option Reply) (here : BoxState) (rest : Decision)
    (P : Reply → BoxState → Bell → Block → List Passage → Type 0) (l : Bell) (k : Block) (t : List Passage)
    → IfSome r (λ reply. P reply here l k t) → (r ≡ None → ThenOwn rest P l k t)
    → ThenOwn (unless r here rest) P l k t
unless_own (Some reply) here rest P l k t p q = p
unless_own None here rest P l k t p q = q refl

if_any : (r : Option Reply) (P : Reply → Type 0) → ((reply : Reply) → P reply) → IfSome r P
if_any None P p = tt
if_any (Some reply) P p = p reply

-- the decision isn't on the plain line
abbrev IsOffLine : Decision → Type 0
IsOffLine (Here reply here) = Unit {0}
IsOffLine (OnBell act) = Unit {0}
IsOffLine (OnBlock act) = Unit {0}
IsOffLine (OnPlainLine act) = ⊥

unless_off : (r : Option Reply) (here : BoxState) (rest : Decision) → IsOffLine rest → IsOffLine (unless r here rest)
unless_off (Some reply) here rest off = tt
unless_off None here rest off = off

-- such a decision leaves the plain line as it is
off_own : (d : Decision) (P : Reply → BoxState → Type 0) (l : Bell) (k : Block) (t : List Passage) → IsOffLine d
    → ThenElsewhere d P → ThenOwn d (λ reply h l k u. P reply h × (u ≡ t)) l k t
off_own (Here reply here) P l k t off p = (p, refl)
off_own (OnBell act) P l k t off p = (p l, refl)
off_own (OnBlock act) P l k t off p = (p k, refl)
off_own (OnPlainLine act) P l k t off p = absurd off

-- ---- tests

and_false : (b : Bool) → (b && false) ≡ false
and_false true = refl
and_false false = refl

or_false : (b : Bool) → (b || false) ≡ b
or_false true = refl
or_false false = refl

differ : (m n : ℕ) → m ≢ n → (m == n) ≡ false
differ m n ne = elim (eqb_tells m n) [ inl same ↦ absurd (ne same.1) | inr apart ↦ apart.0 ]

ways_differ : (v w : Way) → (v ≡ w → ⊥) → same_way v w ≡ false
ways_differ Up Up ne = absurd (ne refl)
ways_differ Up Down ne = refl
ways_differ Down Up ne = refl
ways_differ Down Down ne = absurd (ne refl)

out_is : (v w : Way) → Link.Out v ≡ Link.Out w → v ≡ w
out_is v w e = cc

in_is : (v w : Way) → Link.In v ≡ Link.In w → v ≡ w
in_is v w e = cc

in_not_out : (v w : Way) → Link.In v ≡ Link.Out w → ⊥
in_not_out v w e = cc

-- ---- how a train goes past a signal

-- a reply by which no train went past a signal
record IsStill (reply : Reply) : Type 0 where
  entered : is_entered reply ≡ false
  passed : has_passed reply ≡ false

-- how a call by which a train is to go past the signal of a lever comes out
data Goes (box_plan : BoxFields) (here : BoxState) (lever : ℕ) : Decision → Type 0 where
  Stays : (reply : Reply) → IsStill reply → Goes box_plan here lever (Here reply here)
  GoesTo : (signal : Signal) (train place : ℕ) → signal_of box_plan lever ≡ Some signal → signal.to ≡ leads.Place place
      → train_on here.places signal.from ≡ Some train
      → Goes box_plan here lever (Here (replies.Passed train) (put_at (left_by box_plan here signal) place train))
  GoesAway : (signal : Signal) (train : ℕ) → signal_of box_plan lever ≡ Some signal → signal.to ≡ leads.Away
      → train_on here.places signal.from ≡ Some train
      → Goes box_plan here lever (Here (replies.Passed train) (left_by box_plan here signal))
  Enters : (signal : Signal) (train : ℕ) (way : Way) → signal_of box_plan lever ≡ Some signal
      → signal.to ≡ leads.Section way → train_on here.places signal.from ≡ Some train
      → Goes box_plan here lever (OnPlainLine (enter here (left_by box_plan here signal) way train))

still_later : (first later : Option Reply) → IfSome first IsStill → IfSome later IsStill
    → IfSome (or_later first later) IsStill
still_later (Some reply) later p q = p
still_later None later p q = q

still_standing : (there : Option Standing) → IfSome (standing_refusal there) IsStill
still_standing None = tt
still_standing (Some there) = record { entered = refl; passed = refl }

still_danger : (off : Bool) → IfSome (danger_refusal off) IsStill
still_danger true = tt
still_danger false = record { entered = refl; passed = refl }

still_off : (off : Bool) → IfSome (off_refusal off) IsStill
still_off true = record { entered = refl; passed = refl }
still_off false = tt

still_way : (here : BoxState) (signal : Signal) → IfSome (way_refusal here signal) IsStill
still_way here signal = still_later (standing_refusal (first_standing here.places signal.over)) _
    (still_standing (first_standing here.places signal.over))
    (still_standing (first_standing here.places (end_of signal.to)))

still_pass : (here : BoxState) (signal : Signal) → IfSome (pass_refusal here signal) IsStill
still_pass here signal = still_later (danger_refusal (is_off here.off signal.lever)) _
    (still_danger (is_off here.off signal.lever)) (still_way here signal)

still_overrun : (here : BoxState) (signal : Signal) → IfSome (overrun_refusal here signal) IsStill
still_overrun here signal = still_later (off_refusal (is_off here.off signal.lever)) _
    (still_off (is_off here.off signal.lever)) (still_way here signal)

go_goes : (to : To) (box_plan : BoxFields) (here : BoxState) (lever : ℕ) (signal : Signal) (train : ℕ)
    → signal_of box_plan lever ≡ Some signal → signal.to ≡ to → train_on here.places signal.from ≡ Some train
    → Goes box_plan here lever (go here (left_by box_plan here signal) train to)
go_goes (leads.Place place) box_plan here lever signal train is to there = GoesTo signal train place is to there
go_goes (leads.Section way) box_plan here lever signal train is to there = Enters signal train way is to there
go_goes leads.Away box_plan here lever signal train is to there = GoesAway signal train is to there

move_goes : (t : Option ℕ) (r : Option Reply) (box_plan : BoxFields) (here : BoxState) (lever : ℕ) (signal : Signal)
    → signal_of box_plan lever ≡ Some signal → train_on here.places signal.from ≡ t → IfSome r IsStill
    → Goes box_plan here lever (move t r box_plan here signal)
move_goes None r box_plan here lever signal is there still =
    Stays replies.NoTrain (record { entered = refl; passed = refl })
move_goes (Some train) (Some reply) box_plan here lever signal is there still = Stays reply still
move_goes (Some train) None box_plan here lever signal is there still =
    go_goes signal.to box_plan here lever signal train is refl there

pass_goes : (s : Option Signal) (box_plan : BoxFields) (here : BoxState) (lever : ℕ) → signal_of box_plan lever ≡ s
    → Goes box_plan here lever (pass_signal s box_plan here)
pass_goes None box_plan here lever is = Stays replies.NoTrain (record { entered = refl; passed = refl })
pass_goes (Some signal) box_plan here lever is =
    move_goes (train_on here.places signal.from) (pass_refusal here signal) box_plan here lever signal is refl
    (still_pass here signal)

overrun_goes : (s : Option Signal) (box_plan : BoxFields) (here : BoxState) (lever : ℕ) → signal_of box_plan lever ≡ s
    → Goes box_plan here lever (overrun_signal s box_plan here)
overrun_goes None box_plan here lever is = Stays replies.NoTrain (record { entered = refl; passed = refl })
overrun_goes (Some signal) box_plan here lever is =
    move_goes (train_on here.places signal.from) (overrun_refusal here signal) box_plan here lever signal is refl
    (still_overrun here signal)

-- ---- past the starter

-- the section gains a train by a call past the signal of a lever of its rear box
abbrev starts : BoxFields → Way → ℕ → Bool
starts box_plan w lever = is_way w (starter_way (signal_of box_plan lever))

line_of : (box_plan : BoxFields) (lever : ℕ) (signal : Signal) (way : Way) → signal_of box_plan lever ≡ Some signal
    → signal.to ≡ leads.Section way → starter_way (signal_of box_plan lever) ≡ Some way
line_of box_plan lever signal way found to = ap starter_way found ∙ ap way_to to

entered_length : (full : Bool) (here left : BoxState) (way : Way) (train : ℕ) (t : List Passage)
    → holds t (of_way here.sent way + 1) ≡ full
    → length (enter here left way train t).word ≡ length t + count_if (is_entered (enter here left way train t).reply)
entered_length true here left way train t full = rw full (omega arith)
entered_length false here left way train t full = rw full (simp length-append (omega arith))

goes_own : (box_plan : BoxFields) (here : BoxState) (lever : ℕ) (w : Way) (d : Decision) (l : Bell) (k : Block)
    (t : List Passage) → Goes box_plan here lever d → starter_link (starter_way (signal_of box_plan lever)) ≡ Link.Out w
    → ThenOwn d (λ reply h l k u. length u ≡ length t + count_if (starts box_plan w lever && is_entered reply)) l k t
goes_own box_plan here lever w d l k t (Stays reply still) line =
    rw still.entered (rw (and_false (starts box_plan w lever)) (omega arith))
goes_own box_plan here lever w d l k t (GoesTo signal train place is to there) line =
    rw (and_false (starts box_plan w lever)) (omega arith)
goes_own box_plan here lever w d l k t (GoesAway signal train is to there) line =
    rw (and_false (starts box_plan w lever)) (omega arith)
goes_own box_plan here lever w d l k t (Enters signal train way is to there) line =
    let leads_there : starter_way (signal_of box_plan lever) ≡ Some way = line_of box_plan lever signal way is to in
    let same : way ≡ w = out_is way w (sym (ap starter_link leads_there) ∙ line) in
    let starts_it : starts box_plan w lever ≡ true =
    ap (λ (o : Option Way). is_way w o) leads_there ∙ (ap (λ (v : Way). same_way w v) same ∙ same_way_refl w) in
    rw starts_it (entered_length (holds t (of_way here.sent way + 1)) here (left_by box_plan here signal) way train t
    refl)

-- off the section's line no train enters the section
starts_off : (box_plan : BoxFields) (lever : ℕ) (w : Way) (o : Option Way) → starter_way (signal_of box_plan lever) ≡ o
    → (starter_link o ≡ Link.Out w → ⊥) → starts box_plan w lever ≡ false
starts_off box_plan lever w None e off = ap (λ (o : Option Way). is_way w o) e
starts_off box_plan lever w (Some way) e off = ap (λ (o : Option Way). is_way w o) e ∙ ways_differ w way
    (λ f. off (ap (λ (v : Way). Link.Out v) (sym f)))

pass_off : (box_plan : BoxFields) (lever : ℕ) (w : Way) (d : Decision)
    → (starter_link (starter_way (signal_of box_plan lever)) ≡ Link.Out w → ⊥)
    → ThenElsewhere d (λ reply h. (starts box_plan w lever && is_entered reply) ≡ false)
pass_off box_plan lever w d off = rw (starts_off box_plan lever w (starter_way (signal_of box_plan lever)) refl off)
    (elsewhere_const d (false ≡ false) refl)

-- ---- the berth

same_places : (berth : Option Berth) (here after : BoxState) → after.places ≡ here.places
    → berth_count berth after ≡ berth_count berth here
same_places None here after e = refl
same_places (Some b) here after e = ap (λ (places : List (Option ℕ)). count_of (train_on places b.place)) e

other_place : (berth : Option Berth) (here after : BoxState) (place : ℕ) (there : Option ℕ)
    → after.places ≡ slice_set here.places place there → ((b : Berth) → berth ≡ Some b → b.place ≢ place)
    → berth_count berth after ≡ berth_count berth here
other_place None here after place there e apart = refl
other_place (Some b) here after place there e apart =
    ap (λ (places : List (Option ℕ)). count_of (train_on places b.place)) e ∙ ap count_of
    (get_or-set_other here.places place b.place there None (apart b refl))

emptied : (places : List (Option ℕ)) (i : ℕ) → slice_index_or (slice_set places i None) i None ≡ None
emptied [] i = refl
emptied (x ∷ places) zero = refl
emptied (x ∷ places) (suc i) = emptied places i

-- a train leaves a place: where that is the berth, a train less is there
left_place : (berth : Option Berth) (here after : BoxState) (signal : Signal) (train : ℕ)
    → train_on here.places signal.from ≡ Some train → after.places ≡ slice_set here.places signal.from None
    → berth_count berth after + count_if (is_home berth (Some signal)) ≡ berth_count berth here
left_place None here after signal train there e = refl
left_place (Some b) here after signal train there e = go (signal.from == b.place) refl where
  go : (at : Bool) → (signal.from == b.place) ≡ at → berth_count (Some b) after + count_if (signal.from == b.place)
      ≡ berth_count (Some b) here
  go true at =
      let same : b.place ≡ signal.from = sym (eqb-true signal.from b.place at) in
      let was : berth_count (Some b) here ≡ 1 = ap (λ (n : ℕ). count_of (train_on here.places n)) same
      ∙ ap count_of there in
      let now : berth_count (Some b) after ≡ 0 = ap (λ (places : List (Option ℕ)). count_of (train_on places b.place)) e
      ∙ (ap (λ (n : ℕ). count_of (train_on (slice_set here.places signal.from None) n)) same ∙ ap count_of
      (emptied here.places signal.from)) in
      let one : count_if (signal.from == b.place) ≡ 1 = ap count_if at in
      omega (arith, was, now, one)
  go false at =
      let apart : signal.from ≢ b.place = eqb-false signal.from b.place at in
      let stays : berth_count (Some b) after ≡ berth_count (Some b) here =
      other_place (Some b) here after signal.from None e
      (λ c is f. apart (let same : b ≡ c = cc in sym (subst (λ (x : Berth). x.place ≡ signal.from) (sym same) f)))
      in
      let none : count_if (signal.from == b.place) ≡ 0 = ap count_if at in
      omega (arith, stays, none)

and_true : (b : Bool) → (b && true) ≡ b
and_true true = refl
and_true false = refl

-- what a call past a signal does to the berth
goes_berth : (boxes b : ℕ) (box_plan : BoxFields) (here : BoxState) (lever : ℕ) (w : Way) (d : Decision)
    → IsBox boxes b box_plan → Goes box_plan here lever d
    → ThenElsewhere d (λ reply h. berth_count (berth_of box_plan w) h + count_if
    (is_home (berth_of box_plan w) (signal_of box_plan lever) && has_passed reply) ≡ berth_count
    (berth_of box_plan w) here + 0)
goes_berth boxes b box_plan here lever w d sound (Stays reply still) =
    rw still.passed (rw (and_false (is_home (berth_of box_plan w) (signal_of box_plan lever))) refl)
goes_berth boxes b box_plan here lever w d sound (GoesTo signal train place is to there) =
    let berth : Option Berth = berth_of box_plan w in
    let left : BoxState = left_by box_plan here signal in
    let gone : berth_count berth left + count_if (is_home berth (Some signal)) ≡ berth_count berth here =
    left_place berth here left signal train there refl in
    let put : berth_count berth (put_at left place train) ≡ berth_count berth left =
    other_place berth left (put_at left place train) place (Some train) refl
    (λ c at. none_into_berth boxes b box_plan w c lever signal place sound at is to) in
    rw is (rw (and_true (is_home berth (Some signal))) (omega (arith, gone, put)))
goes_berth boxes b box_plan here lever w d sound (GoesAway signal train is to there) =
    let berth : Option Berth = berth_of box_plan w in
    let left : BoxState = left_by box_plan here signal in
    let gone : berth_count berth left + count_if (is_home berth (Some signal)) ≡ berth_count berth here =
    left_place berth here left signal train there refl in
    rw is (rw (and_true (is_home berth (Some signal))) (omega (arith, gone)))
goes_berth boxes b box_plan here lever w d sound (Enters signal train way is to there) = λ line.
    let berth : Option Berth = berth_of box_plan w in
    let left : BoxState = left_by box_plan here signal in
    told_either (holds line (of_way here.sent way + 1)) _ _
    (λ (told : Told (List Passage)). berth_count berth told.here + count_if
    (is_home berth (signal_of box_plan lever) && has_passed told.reply) ≡ berth_count berth here + 0)
    (rw (and_false (is_home berth (signal_of box_plan lever))) refl) (
    let after : BoxState = record left { sent = with_way left.sent way (of_way here.sent way + 1) } in
    let gone : berth_count berth after + count_if (is_home berth (Some signal)) ≡ berth_count berth here =
    left_place berth here after signal train there refl in
    rw is (rw (and_true (is_home berth (Some signal))) (omega (arith, gone))))

-- ---- what a call tells at the box in advance

-- what a call elsewhere tells of the berth
abbrev BerthTold : PlanFields → Section → Act → BoxState → Reply → BoxState → Type 0
BerthTold plan x act here reply h =
    berth_count (section_berth plan x) h + count_if (loses_in_advance plan x act reply) ≡ berth_count
    (section_berth plan x) here + count_if (gains_in_advance x act reply)

known_train : (plan : PlanFields) (b train : ℕ) → IsTrue (knows_act plan b (acts.Bring train))
    → IsTrue (is_train plan.trains train) × ((train_at plan.trains train).box_no ≡ b)
known_train plan b train h =
    let parts = both (is_train plan.trains train) ((train_at plan.trains train).box_no == b) h in
    (parts.0, eqb-true (train_at plan.trains train).box_no b parts.1)

-- the call isn't one on the section's line by which a train may come into its berth, or be cleared off the line
abbrev IsOther : Way → Act → Type 0
IsOther w (acts.Berth way) = way ≡ w → ⊥
IsOther w (acts.BerthPart way) = way ≡ w → ⊥
IsOther w (acts.ClearPortion way) = way ≡ w → ⊥
IsOther w act = Unit {0}

other_act : (box_plan : BoxFields) (w : Way) (act : Act) → (link_of box_plan act ≡ Link.In w → ⊥) → IsOther w act
other_act box_plan w (acts.Berth way) off = λ e. off (ap (λ (x : Way). Link.In x) e)
other_act box_plan w (acts.BerthPart way) off = λ e. off (ap (λ (x : Way). Link.In x) e)
other_act box_plan w (acts.ClearPortion way) off = λ e. off (ap (λ (x : Way). Link.In x) e)
other_act box_plan w act off = tt

same_told : (berth : Option Berth) (here after : BoxState) → after.places ≡ here.places
    → berth_count berth after + 0 ≡ berth_count berth here + 0
same_told berth here after e = ap (λ (n : ℕ). n + 0) (same_places berth here after e)

here_told : (berth : Option Berth) (here after : BoxState) → after ≡ here
    → berth_count berth after + 0 ≡ berth_count berth here + 0
here_told berth here after e = ap (λ (h : BoxState). berth_count berth h + 0) e

other_told : (berth : Option Berth) (here after : BoxState) (place : ℕ) (there : Option ℕ)
    → after.places ≡ slice_set here.places place there → ((b : Berth) → berth ≡ Some b → b.place ≢ place)
    → berth_count berth after + 0 ≡ berth_count berth here + 0
other_told berth here after place there e apart =
    ap (λ (n : ℕ). n + 0) (other_place berth here after place there e apart)

rung_places : (here : BoxState) (side : Way) (code count : ℕ) (unheard : Option ℕ)
    → (rung here side code count unheard).here.places ≡ here.places
rung_places here side code count (Some u) = refl
rung_places here side code count None = refl

pulled_places : (signal : Option Signal) (here : BoxState) (lever : ℕ) → (pulled here lever signal).places ≡ here.places
pulled_places None here lever = refl
pulled_places (Some signal) here lever = refl

-- the two of a lever that is pulled
pull_at_told : (o : Option Way) (berth : Option Berth) (here after : BoxState) → after.places ≡ here.places
    → ThenElsewhere (pull_at here after o) (λ reply h. berth_count berth h + 0 ≡ berth_count berth here + 0)
pull_at_told None berth here after e = same_told berth here after e
pull_at_told (Some way) berth here after e =
    λ block. told_either (is_unspent_clear block) _ _
    (λ (told : Told Block). berth_count berth told.here + 0 ≡ berth_count berth here + 0)
    (same_told berth here after e) refl

turn_told : (b : Option Berth) (berth : Option Berth) (here : BoxState) (way : Way) (position : Position)
    → ThenElsewhere (turn b here way position) (λ reply h. berth_count berth h + 0 ≡ berth_count berth here + 0)
turn_told None berth here way position = refl
turn_told (Some b) berth here way position =
    unless_elsewhere (turn_refusal here b (of_way here.incoming way) position) here _ _
    (if_any (turn_refusal here b (of_way here.incoming way) position) _ (λ reply. refl))
    (λ free block. same_told berth here _ refl)

-- a train comes into the berth of another line
berthed_other : (train : Option ℕ) (berth : Option Berth) (here : BoxState) (v : Way) (place j : ℕ)
    (line : List Passage) → ((b : Berth) → berth ≡ Some b → b.place ≢ place)
    → berth_count berth (train_berthed train here v place j line).here + 0 ≡ berth_count berth here + 0
berthed_other None berth here v place j line apart = refl
berthed_other (Some train) berth here v place j line apart = other_told berth here _ place (Some train) refl apart

parted_other : (train : Option ℕ) (berth : Option Berth) (here : BoxState) (v : Way) (place j : ℕ) (line : List Passage)
    → ((b : Berth) → berth ≡ Some b → b.place ≢ place) → berth_count berth (train_parted train here v place j line).here
    + 0 ≡ berth_count berth here + 0
parted_other None berth here v place j line apart = refl
parted_other (Some train) berth here v place j line apart = other_told berth here _ place (Some train) refl apart

cleared_places : (train : Option ℕ) (here : BoxState) (v : Way) (j : ℕ) (line : List Passage)
    → (train_cleared train here v j line).here.places ≡ here.places
cleared_places None here v j line = refl
cleared_places (Some train) here v j line = refl

berth_other : (b : Option Berth) (boxes n : ℕ) (box_plan : BoxFields) (here : BoxState) (v w : Way)
    → IsBox boxes n box_plan → berth_of box_plan v ≡ b → (v ≡ w → ⊥)
    → ThenElsewhere (berth b here v) (λ reply h. berth_count (berth_of box_plan w) h + 0 ≡ berth_count
    (berth_of box_plan w) here + 0)
berth_other None boxes n box_plan here v w sound at other = refl
berth_other (Some b) boxes n box_plan here v w sound at other =
    unless_elsewhere (berth_refusal here v b) here _ _ (if_any (berth_refusal here v b) _ (λ reply. refl))
    (λ free line. berthed_other (next_train here v line) (berth_of box_plan w) here v b.place (next_number here v) line
    (λ mine is. berths_apart boxes n box_plan v w b mine sound at is other))

part_other : (b : Option Berth) (boxes n : ℕ) (box_plan : BoxFields) (here : BoxState) (v w : Way)
    → IsBox boxes n box_plan → berth_of box_plan v ≡ b → (v ≡ w → ⊥)
    → ThenElsewhere (berth_part b here v) (λ reply h. berth_count (berth_of box_plan w) h + 0 ≡ berth_count
    (berth_of box_plan w) here + 0)
part_other None boxes n box_plan here v w sound at other = refl
part_other (Some b) boxes n box_plan here v w sound at other =
    unless_elsewhere (berth_refusal here v b) here _ _ (if_any (berth_refusal here v b) _ (λ reply. refl))
    (λ free line. parted_other (next_train here v line) (berth_of box_plan w) here v b.place (next_number here v) line
    (λ mine is. berths_apart boxes n box_plan v w b mine sound at is other))

clear_other : (berth : Option Berth) (here : BoxState) (v : Way) → ThenElsewhere (clear_portion here v)
    (λ reply h. berth_count berth h + 0 ≡ berth_count berth here + 0)
clear_other berth here v = unless_elsewhere (clear_portion_refusal (of_way here.incoming v).portion) here _ _
    (if_any (clear_portion_refusal (of_way here.incoming v).portion) _ (λ reply. refl))
    (λ free line. same_told berth here _ (cleared_places (next_train here v line) here v (next_number here v) line))

-- a call elsewhere changes what stands in the berth as its reply tells
elsewhere_told : (plan : PlanFields) (x : Section) (here : BoxState) (act : Act) → IsPlan plan
    → IsBox (length plan.boxes) (advance_of x) (box_plan_of plan (advance_of x))
    → IsTrue (knows_act plan (advance_of x) act) → IsOther x.way act
    → ThenElsewhere (decide plan (box_plan_of plan (advance_of x)) act here) (BerthTold plan x act here)
elsewhere_told plan x here (acts.Ring side code) sound is known other =
    λ bell. same_told (section_berth plan x) here _ (rung_places here side code bell.count bell.unheard)
elsewhere_told plan x here (acts.Hear side) sound is known other =
    λ bell. here_told (section_berth plan x) here _ (heard_here here bell.count bell.unheard)
elsewhere_told plan x here (acts.AwaitBell side code) sound is known other =
    λ bell. here_told (section_berth plan x) here _ (awaited_here here code bell.count bell.unheard)
elsewhere_told plan x here (acts.Turn way position) sound is known other =
    turn_told (berth_of (box_plan_of plan (advance_of x)) way) (section_berth plan x) here way position
elsewhere_told plan x here (acts.AwaitBlock way position) sound is known other =
    λ block. told_either (same_position block.position position) _ _
    (λ (told : Told Block). berth_count (section_berth plan x) told.here + 0 ≡ berth_count
    (section_berth plan x) here + 0) refl refl
elsewhere_told plan x here (acts.Pull lever) sound is known other =
    let bp : BoxFields = box_plan_of plan (advance_of x) in
    unless_elsewhere (pull_refusal bp here lever) here _ _ (if_any (pull_refusal bp here lever) _ (λ reply. refl))
    (λ free. pull_at_told (starter_way (signal_of bp lever)) (section_berth plan x) here _
    (pulled_places (signal_of bp lever) here lever))
elsewhere_told plan x here (acts.Put lever) sound is known other =
    let bp : BoxFields = box_plan_of plan (advance_of x) in
    unless_elsewhere (put_refusal bp here lever) here _ _ (if_any (put_refusal bp here lever) _ (λ reply. refl))
    (λ free. same_told (section_berth plan x) here _ refl)
elsewhere_told plan x here (acts.Bring train) sound is known other =
    let place : ℕ = (train_at plan.trains train).place in
    let says = known_train plan (advance_of x) train known in
    unless_elsewhere (bring_refusal here train place) here _ _
    (if_any (bring_refusal here train place) _ (λ reply. refl))
    (λ free. other_told (section_berth plan x) here _ place (Some train) refl
    (λ b at. brought_off_berth plan (advance_of x) x.way b train sound at says.0 says.1))
elsewhere_told plan x here (acts.Pass lever) sound is known other =
    let bp : BoxFields = box_plan_of plan (advance_of x) in
    goes_berth (length plan.boxes) (advance_of x) bp here lever x.way _ is
    (pass_goes (signal_of bp lever) bp here lever refl)
elsewhere_told plan x here (acts.Overrun lever) sound is known other =
    let bp : BoxFields = box_plan_of plan (advance_of x) in
    goes_berth (length plan.boxes) (advance_of x) bp here lever x.way _ is
    (overrun_goes (signal_of bp lever) bp here lever refl)
elsewhere_told plan x here (acts.AwaitTrain way) sound is known other =
    λ line. here_told (section_berth plan x) here _
    (train_awaited_here (next_train here way line) here (next_number here way) line)
elsewhere_told plan x here (acts.Berth way) sound is known other = let bp : BoxFields =
    box_plan_of plan (advance_of x) in berth_other (berth_of bp way) (length plan.boxes) (advance_of x) bp here way
    x.way is refl other
elsewhere_told plan x here (acts.BerthPart way) sound is known other =
    let bp : BoxFields = box_plan_of plan (advance_of x) in
    elsewhere_weaker (berth_part (berth_of bp way) here way) _ (BerthTold plan x (acts.BerthPart way) here)
    (λ reply h p. rw (ways_differ way x.way other) p)
    (part_other (berth_of bp way) (length plan.boxes) (advance_of x) bp here way x.way is refl other)
elsewhere_told plan x here (acts.ClearPortion way) sound is known other =
    elsewhere_weaker (clear_portion here way) _ (BerthTold plan x (acts.ClearPortion way) here)
    (λ reply h p. rw (ways_differ way x.way other) p) (clear_other (section_berth plan x) here way)
elsewhere_told plan x here (acts.Wind way) sound is known other =
    unless_elsewhere (wind_refusal (of_way here.incoming way)) here _ _
    (if_any (wind_refusal (of_way here.incoming way)) _ (λ reply. refl))
    (λ free. same_told (section_berth plan x) here _ refl)
elsewhere_told plan x here (acts.Release way) sound is known other =
    unless_elsewhere (release_refusal here.moment (of_way here.incoming way).ready_at) here _ _
    (if_any (release_refusal here.moment (of_way here.incoming way).ready_at) _ (λ reply. refl))
    (λ free. same_told (section_berth plan x) here _ refl)

-- ---- what a call on the section's line tells

-- what a call tells of the section at its box in advance
abbrev AdvanceTold : PlanFields → Section → Act → BoxState → ℕ → Reply → BoxState → List Passage → Type 0
AdvanceTold plan x act here n reply h u =
    length u + berth_count (section_berth plan x) h + count_if (loses_in_advance plan x act reply) ≡ n + berth_count
    (section_berth plan x) here + count_if (gains_in_advance x act reply)

off_told : (plan : PlanFields) (x : Section) (act : Act) (here : BoxState) (d : Decision) (l : Bell) (k : Block)
    (t : List Passage) → IsOffLine d → ThenElsewhere d (BerthTold plan x act here)
    → ThenOwn d (λ reply h l k u. AdvanceTold plan x act here (length t) reply h u) l k t
off_told plan x act here d l k t off told =
    own_weaker d (λ reply h l k u. BerthTold plan x act here reply h × (u ≡ t)) _ l k t
    (λ reply h l k u p. let one = p.0 in let same : length u ≡ length t = ap length p.1 in omega (arith, one, same))
    (off_own d (BerthTold plan x act here) l k t off told)

awaits_told : (train : Option ℕ) (berth : Option Berth) (here : BoxState) (j : ℕ) (t : List Passage)
    → length (train_awaited train here j t).word + berth_count berth (train_awaited train here j t).here + 0
    ≡ length t + berth_count berth here + 0
awaits_told None berth here j t = refl
awaits_told (Some train) berth here j t = refl

first_there : (j train : ℕ) (t : List Passage) → first_train j t ≡ Some train → length (drop 1 t) + 1 ≡ length t
first_there j train [] e = absurd cc
first_there j train (p ∷ t) e = omega arith

-- the berth is empty where nothing keeps a train out of it
empty_berth : (first : Option Reply) (there : Option ℕ) → or_later first (berth_occupied there) ≡ None → there ≡ None
empty_berth (Some reply) there e = absurd cc
empty_berth None None e = refl
empty_berth None (Some train) e = absurd cc

-- a train stands in the berth, which was empty
one_more : (b : Berth) (here after : BoxState) (train : ℕ) → b.place < length here.places → train_on here.places b.place
    ≡ None → after.places ≡ slice_set here.places b.place (Some train)
    → (berth_count (Some b) after ≡ 1) × (berth_count (Some b) here ≡ 0)
one_more b here after train within empty e = (
  ap (λ (places : List (Option ℕ)). count_of (train_on places b.place)) e ∙ ap count_of
      (get_or-set_same here.places b.place (Some train) None within),
  ap count_of empty,
)

berthed_told : (train : Option ℕ) (b : Berth) (here : BoxState) (v : Way) (j : ℕ) (t : List Passage)
    → first_train j t ≡ train → b.place < length here.places → train_on here.places b.place ≡ None
    → length (train_berthed train here v b.place j t).word + berth_count (Some b)
    (train_berthed train here v b.place j t).here + 0 ≡ length t + berth_count (Some b) here + 0
berthed_told None b here v j t first within empty = refl
berthed_told (Some train) b here v j t first within empty =
    let counts = one_more b here (in_berth here v b.place train (line_berthed (of_way here.incoming v) j)) train within
    empty refl in
    let now = counts.0 in
    let was = counts.1 in
    let less = first_there j train t first in
    omega (arith, now, was, less)

parted_told : (train : Option ℕ) (b : Berth) (here : BoxState) (v : Way) (j : ℕ) (t : List Passage)
    → b.place < length here.places → train_on here.places b.place ≡ None
    → length (train_parted train here v b.place j t).word + berth_count (Some b)
    (train_parted train here v b.place j t).here + 0 ≡ length t + berth_count (Some b) here + count_if
    (is_part_berthed (train_parted train here v b.place j t).reply)
parted_told None b here v j t within empty = refl
parted_told (Some train) b here v j t within empty =
    let counts = one_more b here (in_berth here v b.place train (line_parted (of_way here.incoming v) train)) train
    within empty refl in
    let now = counts.0 in
    let was = counts.1 in
    omega (arith, now, was)

cleared_told : (train : Option ℕ) (berth : Option Berth) (here : BoxState) (v : Way) (j : ℕ) (t : List Passage)
    → first_train j t ≡ train
    → length (train_cleared train here v j t).word + berth_count berth (train_cleared train here v j t).here + count_if
    (is_cleared (train_cleared train here v j t).reply) ≡ length t + berth_count berth here + 0
cleared_told None berth here v j t first = refl
cleared_told (Some train) berth here v j t first =
    let less = first_there j train t first in
    let same = same_places berth here (cleared_here here v j) refl in
    omega (arith, less, same)

turn_off : (b : Option Berth) (here : BoxState) (way : Way) (position : Position) → IsOffLine (turn b here way position)
turn_off None here way position = tt
turn_off (Some b) here way position = unless_off (turn_refusal here b (of_way here.incoming way) position) here _ tt

pull_at_off : (o : Option Way) (here after : BoxState) → IsOffLine (pull_at here after o)
pull_at_off None here after = tt
pull_at_off (Some way) here after = tt

-- a call that is never decided on a plain line
abbrev IsOffLineAct : Act → Type 0
IsOffLineAct (acts.Pass lever) = ⊥
IsOffLineAct (acts.Overrun lever) = ⊥
IsOffLineAct (acts.AwaitTrain way) = ⊥
IsOffLineAct (acts.Berth way) = ⊥
IsOffLineAct (acts.BerthPart way) = ⊥
IsOffLineAct (acts.ClearPortion way) = ⊥
IsOffLineAct act = Unit {0}

act_off : (plan : PlanFields) (bp : BoxFields) (act : Act) (here : BoxState) → IsOffLineAct act
    → IsOffLine (decide plan bp act here)
act_off plan bp (acts.Turn way position) here off = turn_off (berth_of bp way) here way position
act_off plan bp (acts.Pull lever) here off =
    unless_off (pull_refusal bp here lever) here _ (pull_at_off (starter_way (signal_of bp lever)) here _)
act_off plan bp (acts.Put lever) here off = unless_off (put_refusal bp here lever) here _ tt
act_off plan bp (acts.Bring train) here off =
    unless_off (bring_refusal here train (train_at plan.trains train).place) here _ tt
act_off plan bp (acts.Pass lever) here off = absurd off
act_off plan bp (acts.Overrun lever) here off = absurd off
act_off plan bp (acts.AwaitTrain way) here off = absurd off
act_off plan bp (acts.Berth way) here off = absurd off
act_off plan bp (acts.BerthPart way) here off = absurd off
act_off plan bp (acts.ClearPortion way) here off = absurd off
act_off plan bp (acts.Wind way) here off = unless_off (wind_refusal (of_way here.incoming way)) here _ tt
act_off plan bp (acts.Release way) here off =
    unless_off (release_refusal here.moment (of_way here.incoming way).ready_at) here _ tt
act_off plan bp act here off = tt

goes_off : (box_plan : BoxFields) (here : BoxState) (lever : ℕ) (w : Way) (d : Decision) → Goes box_plan here lever d
    → starter_link (starter_way (signal_of box_plan lever)) ≡ Link.In w → IsOffLine d
goes_off box_plan here lever w d (Stays reply still) line = tt
goes_off box_plan here lever w d (GoesTo signal train place is to there) line = tt
goes_off box_plan here lever w d (GoesAway signal train is to there) line = tt
goes_off box_plan here lever w d (Enters signal train way is to there) line =
    absurd (in_not_out w way (sym line ∙ ap starter_link (line_of box_plan lever signal way is to)))

-- ---- at the rear box

off_length : (d : Decision) (l : Bell) (k : Block) (t : List Passage) → IsOffLine d
    → ThenOwn d (λ reply h l k u. length u ≡ length t + 0) l k t
off_length (Here reply here) l k t off = omega arith
off_length (OnBell act) l k t off = omega arith
off_length (OnBlock act) l k t off = omega arith
off_length (OnPlainLine act) l k t off = absurd off

-- a call of the rear box on the section's line changes its plain line as the reply tells
rear_told : (plan : PlanFields) (x : Section) (here : BoxState) (act : Act) (l : Bell) (k : Block) (t : List Passage)
    → link_of (box_plan_of plan x.rear) act ≡ Link.Out x.way
    → ThenOwn (decide plan (box_plan_of plan x.rear) act here)
    (λ reply h l k u. length u ≡ length t + count_if (gains_at_rear plan x act reply)) l k t
rear_told plan x here (acts.Pass lever) l k t line =
    let bp : BoxFields = box_plan_of plan x.rear in
    goes_own bp here lever x.way _ l k t (pass_goes (signal_of bp lever) bp here lever refl) line
rear_told plan x here (acts.Overrun lever) l k t line =
    let bp : BoxFields = box_plan_of plan x.rear in
    goes_own bp here lever x.way _ l k t (overrun_goes (signal_of bp lever) bp here lever refl) line
rear_told plan x here (acts.AwaitTrain way) l k t line = absurd (in_not_out way x.way line)
rear_told plan x here (acts.Berth way) l k t line = absurd (in_not_out way x.way line)
rear_told plan x here (acts.BerthPart way) l k t line = absurd (in_not_out way x.way line)
rear_told plan x here (acts.ClearPortion way) l k t line = absurd (in_not_out way x.way line)
rear_told plan x here act l k t line =
    off_length (decide plan (box_plan_of plan x.rear) act here) l k t
    (act_off plan (box_plan_of plan x.rear) act here tt)

-- a call of the rear box elsewhere tells of no train more
rear_elsewhere : (plan : PlanFields) (x : Section) (here : BoxState) (act : Act)
    → (link_of (box_plan_of plan x.rear) act ≡ Link.Out x.way → ⊥)
    → ThenElsewhere (decide plan (box_plan_of plan x.rear) act here) (λ reply h. gains_at_rear plan x act reply ≡ false)
rear_elsewhere plan x here (acts.Pass lever) off = pass_off (box_plan_of plan x.rear) lever x.way _ off
rear_elsewhere plan x here (acts.Overrun lever) off = pass_off (box_plan_of plan x.rear) lever x.way _ off
rear_elsewhere plan x here act off =
    elsewhere_const (decide plan (box_plan_of plan x.rear) act here) (false ≡ false) refl

-- ---- at the box in advance

berth_own : (b : Option Berth) (here : BoxState) (v : Way) (l : Bell) (k : Block) (t : List Passage)
    → IfSome b (λ berth. berth.place < length here.places)
    → ThenOwn (berth b here v) (λ reply h l k u. length u + berth_count b h + 0 ≡ length t + berth_count b here + 0) l k
    t
berth_own None here v l k t within = refl
berth_own (Some b) here v l k t within = unless_own (berth_refusal here v b) here _ _ l k t
    (if_any (berth_refusal here v b) _ (λ reply. refl))
    (λ free. berthed_told (next_train here v t) b here v (next_number here v) t refl within
    (empty_berth (portion_refusal (of_way here.incoming v).portion) (train_on here.places b.place) free))

no_part : (first later : Option Reply) → IfSome first (λ reply. is_part_berthed reply ≡ false)
    → IfSome later (λ reply. is_part_berthed reply ≡ false)
    → IfSome (or_later first later) (λ reply. is_part_berthed reply ≡ false)
no_part (Some reply) later p q = p
no_part None later p q = q

no_part_ahead : (portion : Option ℕ) → IfSome (portion_refusal portion) (λ reply. is_part_berthed reply ≡ false)
no_part_ahead None = tt
no_part_ahead (Some train) = refl

no_part_there : (there : Option ℕ) → IfSome (berth_occupied there) (λ reply. is_part_berthed reply ≡ false)
no_part_there None = tt
no_part_there (Some train) = refl

refused_same : (r : Option Reply) (test : Reply → Bool) (n : ℕ) → IfSome r (λ reply. test reply ≡ false)
    → IfSome r (λ reply. n + 0 ≡ n + count_if (test reply))
refused_same None test n p = tt
refused_same (Some reply) test n p = rw p refl

refused_lost : (r : Option Reply) (test : Reply → Bool) (n : ℕ) → IfSome r (λ reply. test reply ≡ false)
    → IfSome r (λ reply. n + count_if (test reply) ≡ n + 0)
refused_lost None test n p = tt
refused_lost (Some reply) test n p = rw p refl

part_own : (b : Option Berth) (here : BoxState) (v : Way) (l : Bell) (k : Block) (t : List Passage)
    → IfSome b (λ berth. berth.place < length here.places)
    → ThenOwn (berth_part b here v) (λ reply h l k u. length u + berth_count b h + 0 ≡ length t + berth_count b here
    + count_if (is_part_berthed reply)) l k t
part_own None here v l k t within = refl
part_own (Some b) here v l k t within = unless_own (berth_refusal here v b) here _ _ l k t
    (refused_same (berth_refusal here v b) (λ reply. is_part_berthed reply) (length t + berth_count (Some b) here)
    (no_part (portion_refusal (of_way here.incoming v).portion) (berth_occupied (train_on here.places b.place))
    (no_part_ahead (of_way here.incoming v).portion) (no_part_there (train_on here.places b.place))))
    (λ free. parted_told (next_train here v t) b here v (next_number here v) t within
    (empty_berth (portion_refusal (of_way here.incoming v).portion) (train_on here.places b.place) free))

no_clear : (portion : Option ℕ) → IfSome (clear_portion_refusal portion) (λ reply. is_cleared reply ≡ false)
no_clear None = refl
no_clear (Some train) = tt

clear_own : (berth : Option Berth) (here : BoxState) (v : Way) (l : Bell) (k : Block) (t : List Passage)
    → ThenOwn (clear_portion here v) (λ reply h l k u. length u + berth_count berth h + count_if (is_cleared reply)
    ≡ length t + berth_count berth here + 0) l k t
clear_own berth here v l k t = unless_own (clear_portion_refusal (of_way here.incoming v).portion) here _ _ l k t
    (refused_lost (clear_portion_refusal (of_way here.incoming v).portion) (λ reply. is_cleared reply)
    (length t + berth_count berth here) (no_clear (of_way here.incoming v).portion))
    (λ free. cleared_told (next_train here v t) berth here v (next_number here v) t refl)

berth_within : (boxes b : ℕ) (bp : BoxFields) (w : Way) (here : BoxState) (o : Option Berth) → IsBox boxes b bp
    → length here.places ≡ length bp.places → berth_of bp w ≡ o → IfSome o (λ berth. berth.place < length here.places)
berth_within boxes b bp w here None sound places at = tt
berth_within boxes b bp w here (Some berth) sound places at = let place =
    (berth_is boxes b bp w berth sound at).place in omega (arith, place, places)

-- a call that is never on a plain line tells there what it tells elsewhere
off_act : (plan : PlanFields) (x : Section) (here : BoxState) (act : Act) (l : Bell) (k : Block) (t : List Passage)
    → IsPlan plan → IsBox (length plan.boxes) (advance_of x) (box_plan_of plan (advance_of x))
    → IsTrue (knows_act plan (advance_of x) act)
    → IsOffLineAct act → IsOther x.way act → ThenOwn (decide plan (box_plan_of plan (advance_of x)) act here)
    (λ reply h l k u. AdvanceTold plan x act here (length t) reply h u) l k t
off_act plan x here act l k t sound is known off other =
    off_told plan x act here (decide plan (box_plan_of plan (advance_of x)) act here) l k t
    (act_off plan (box_plan_of plan (advance_of x)) act here off)
    (elsewhere_told plan x here act sound is known other)

-- a call of the box in advance on the section's line changes what the section holds as the reply tells
advance_told : (plan : PlanFields) (x : Section) (here : BoxState) (act : Act) (l : Bell) (k : Block) (t : List Passage)
    → IsPlan plan → IsBox (length plan.boxes) (advance_of x) (box_plan_of plan (advance_of x))
    → IsTrue (knows_act plan (advance_of x) act)
    → length here.places ≡ length (box_plan_of plan (advance_of x)).places
    → link_of (box_plan_of plan (advance_of x)) act ≡ Link.In x.way
    → ThenOwn (decide plan (box_plan_of plan (advance_of x)) act here)
    (λ reply h l k u. AdvanceTold plan x act here (length t) reply h u) l k t
advance_told plan x here (acts.Pass lever) l k t sound is known places line =
    let bp : BoxFields = box_plan_of plan (advance_of x) in
    off_told plan x (acts.Pass lever) here (decide plan bp (acts.Pass lever) here) l k t
    (goes_off bp here lever x.way (decide plan bp (acts.Pass lever) here)
    (pass_goes (signal_of bp lever) bp here lever refl) line)
    (elsewhere_told plan x here (acts.Pass lever) sound is known tt)
advance_told plan x here (acts.Overrun lever) l k t sound is known places line =
    let bp : BoxFields = box_plan_of plan (advance_of x) in
    off_told plan x (acts.Overrun lever) here (decide plan bp (acts.Overrun lever) here) l k t
    (goes_off bp here lever x.way (decide plan bp (acts.Overrun lever) here)
    (overrun_goes (signal_of bp lever) bp here lever refl) line)
    (elsewhere_told plan x here (acts.Overrun lever) sound is known tt)
advance_told plan x here (acts.AwaitTrain way) l k t sound is known places line =
    awaits_told (next_train here way t) (section_berth plan x) here (next_number here way) t
advance_told plan x here (acts.Berth way) l k t sound is known places line =
    let bp : BoxFields = box_plan_of plan (advance_of x) in
    let same : way ≡ x.way = in_is way x.way line in
    subst (λ (v : Way). ThenOwn (decide plan bp (acts.Berth v) here)
    (λ reply h l k u. AdvanceTold plan x (acts.Berth v) here (length t) reply h u) l k t) (sym same)
    (berth_own (section_berth plan x) here x.way l k t
    (berth_within (length plan.boxes) (advance_of x) bp x.way here _ is places refl))
advance_told plan x here (acts.BerthPart way) l k t sound is known places line =
    let bp : BoxFields = box_plan_of plan (advance_of x) in
    let same : way ≡ x.way = in_is way x.way line in
    subst (λ (v : Way). ThenOwn (decide plan bp (acts.BerthPart v) here)
    (λ reply h l k u. AdvanceTold plan x (acts.BerthPart v) here (length t) reply h u) l k t) (sym same)
    (own_weaker (berth_part (section_berth plan x) here x.way) _ _ l k t (λ reply h l k u p. rw (same_way_refl x.way) p)
    (part_own (section_berth plan x) here x.way l k t
    (berth_within (length plan.boxes) (advance_of x) bp x.way here _ is places refl)))
advance_told plan x here (acts.ClearPortion way) l k t sound is known places line =
    let bp : BoxFields = box_plan_of plan (advance_of x) in
    let same : way ≡ x.way = in_is way x.way line in
    subst (λ (v : Way). ThenOwn (decide plan bp (acts.ClearPortion v) here)
    (λ reply h l k u. AdvanceTold plan x (acts.ClearPortion v) here (length t) reply h u) l k t) (sym same)
    (own_weaker (clear_portion here x.way) _ _ l k t
    (λ reply h l k u p. rw (same_way_refl x.way) (rw (or_false (is_cleared reply)) p))
    (clear_own (section_berth plan x) here x.way l k t))
advance_told plan x here act l k t sound is known places line =
    off_act plan x here act l k t sound is known tt tt

-- ---- one call

-- of an entry of a box
abbrev entry_at : ℕ → Call → Reply → Entry
entry_at b call reply = record { box_no = b; call = call; reply = reply }

rear_gains : (plan : PlanFields) (x : Section) (call : Call) (reply : Reply) → x.rear ≢ advance_of x
    → gains plan x (entry_at x.rear call reply) ≡ gains_at_rear plan x call.act reply
rear_gains plan x call reply two =
    let here : (x.rear == x.rear) ≡ true = eqb_refl x.rear in
    let there : (x.rear == advance_of x) ≡ false = differ x.rear (advance_of x) two in
    rw (here, there) (or_false (gains_at_rear plan x call.act reply))

rear_loses : (plan : PlanFields) (x : Section) (call : Call) (reply : Reply) → x.rear ≢ advance_of x
    → loses plan x (entry_at x.rear call reply) ≡ false
rear_loses plan x call reply two = rw (differ x.rear (advance_of x) two) refl

advance_gains : (plan : PlanFields) (x : Section) (call : Call) (reply : Reply) → x.rear ≢ advance_of x
    → gains plan x (entry_at (advance_of x) call reply) ≡ gains_in_advance x call.act reply
advance_gains plan x call reply two =
    let here : (advance_of x == advance_of x) ≡ true = eqb_refl (advance_of x) in
    let there : (advance_of x == x.rear) ≡ false = differ (advance_of x) x.rear (λ e. two (sym e)) in
    rw (here, there) refl

advance_loses : (plan : PlanFields) (x : Section) (call : Call) (reply : Reply)
    → loses plan x (entry_at (advance_of x) call reply) ≡ loses_in_advance plan x call.act reply
advance_loses plan x call reply = rw (eqb_refl (advance_of x)) refl

-- an entry of a third box tells nothing of the section
pub third_gains : (plan : PlanFields) (x : Section) (e : Entry) → e.box_no ≢ x.rear → e.box_no ≢ advance_of x
    → gains plan x e ≡ false
third_gains plan x e nr na = rw (differ e.box_no x.rear nr) (rw (differ e.box_no (advance_of x) na) refl)

-- an entry of another box than the one in advance tells of no train less
pub third_loses : (plan : PlanFields) (x : Section) (e : Entry) → e.box_no ≢ advance_of x → loses plan x e ≡ false
third_loses plan x e na = rw (differ e.box_no (advance_of x) na) refl

no_entered : (reply : Reply) → counts_trains reply ≡ false → is_entered reply ≡ false
no_entered (replies.Entered train k) none = absurd cc
no_entered reply none = refl

no_part_berthed : (reply : Reply) → counts_trains reply ≡ false → is_part_berthed reply ≡ false
no_part_berthed (replies.PartBerthed train j) none = absurd cc
no_part_berthed reply none = refl

no_cleared : (reply : Reply) → counts_trains reply ≡ false → is_cleared reply ≡ false
no_cleared (replies.Cleared train j) none = absurd cc
no_cleared reply none = refl

no_passed : (reply : Reply) → counts_trains reply ≡ false → has_passed reply ≡ false
no_passed (replies.Passed train) none = absurd cc
no_passed (replies.Entered train k) none = absurd cc
no_passed reply none = refl

-- an entry whose reply tells of no train more or less tells nothing of any section
pub none_gains : (plan : PlanFields) (x : Section) (e : Entry) → counts_trains e.reply ≡ false → gains plan x e ≡ false
none_gains plan x e none =
    rw (no_entered e.reply none) (rw (no_part_berthed e.reply none) (rw (and_false (is_entering plan x e.call.act))
    (rw (and_false (is_parting x e.call.act)) (rw (and_false (e.box_no == x.rear))
    (rw (and_false (e.box_no == advance_of x)) refl)))))

-- and so it tells of no train less
pub none_loses : (plan : PlanFields) (x : Section) (e : Entry) → counts_trains e.reply ≡ false → loses plan x e ≡ false
none_loses plan x e none =
    rw (no_cleared e.reply none) (rw (no_passed e.reply none) (rw (and_false (is_clearing x e.call.act))
    (rw (and_false (is_leaving plan x e.call.act)) (rw (and_false (e.box_no == advance_of x)) refl))))

-- how many trains are on the plain line and in the berth
abbrev counts : PlanFields → Section → BoxState → List Passage → ℕ
counts plan x a t = length t + berth_count (section_berth plan x) a

-- so many trains are held, and the box in advance has its places
abbrev HoldsNow : PlanFields → Section → ℕ → Fact
HoldsNow plan x n = λ r a l k t. (counts plan x a t ≡ n) × (length a.places ≡ length
    (box_plan_of plan (advance_of x)).places)

-- after a call as many as its reply tells
abbrev HoldsThen : PlanFields → Section → Call → ℕ → ReplyFact
HoldsThen plan x call n = λ b reply r a l k t. counts plan x a t + count_if (loses plan x (entry_at b call reply))
    ≡ n + count_if (gains plan x (entry_at b call reply))

at_moment_counts : (berth : Option Berth) (here : BoxState) (moment : ℕ) → berth_count berth (at_moment here moment)
    ≡ berth_count berth here
at_moment_counts berth here moment = same_places berth here (at_moment here moment) refl

told_leads : (plan : PlanFields) (x : Section) (n b : ℕ) (call : Call) → IsPlan plan → IsSection plan x
    → IsTrue (knows_act plan b call.act) → Leads (HoldsNow plan x n) (HoldsThen plan x call n) plan b x call
told_leads plan x n b call sound is known =
    let has : HasBoxes (length plan.boxes) x = has_boxes (length plan.boxes) x.rear x.way is in
    let advance_box : IsBox (length plan.boxes) (advance_of x) (box_plan_of plan (advance_of x)) =
    sound.each (advance_of x) has.advance in
    record {
      rear_own = λ here line r a l k t q. own_weaker
          (decide plan (box_plan_of plan x.rear) call.act (at_moment r call.moment)) _ _ l k t
          (λ reply h l k u p. rw (rear_loses plan x call reply has.two)
          (rw (rear_gains plan x call reply has.two) (let now = q.0 in omega (arith, now, p))))
          (rear_told plan x (at_moment r call.moment) call.act l k t line);
      rear_off = λ here line r a l k t q. elsewhere_weaker
          (decide plan (box_plan_of plan x.rear) call.act (at_moment r call.moment)) _ _
          (λ reply h p. rw (rear_loses plan x call reply has.two)
          (rw (rear_gains plan x call reply has.two) (rw p (let now = q.0 in omega (arith, now)))))
          (rear_elsewhere plan x (at_moment r call.moment) call.act line);
      advance_own = λ here line r a l k t q. own_weaker
          (decide plan (box_plan_of plan (advance_of x)) call.act (at_moment a call.moment)) _ _ l k t
          (λ reply h l k u p. rw (advance_loses plan x call reply)
          (rw (advance_gains plan x call reply has.two)
          (let now = q.0 in let same = at_moment_counts (section_berth plan x) a call.moment in
          omega (arith, now, same, p))))
          (advance_told plan x (at_moment a call.moment) call.act l k t sound advance_box
          (subst (λ (c : ℕ). IsTrue (knows_act plan c call.act)) here known) q.1 line);
      advance_off = λ here line r a l k t q. elsewhere_weaker
          (decide plan (box_plan_of plan (advance_of x)) call.act (at_moment a call.moment)) _ _
          (λ reply h p. rw (advance_loses plan x call reply)
          (rw (advance_gains plan x call reply has.two)
          (let now = q.0 in let same = at_moment_counts (section_berth plan x) a call.moment in
          omega (arith, now, same, p))))
          (elsewhere_told plan x (at_moment a call.moment) call.act sound advance_box
          (subst (λ (c : ℕ). IsTrue (knows_act plan c call.act)) here known)
          (other_act (box_plan_of plan (advance_of x)) x.way call.act line));
      third = λ nr na reply r a l k t q. rw (third_loses plan x (entry_at b call reply) na)
          (rw (third_gains plan x (entry_at b call reply) nr na) (let now = q.0 in omega (arith, now)));
    }

-- after an entry that the law allows a section holds the trains that it held before, and those that the entry tells it
-- gains, less those that it tells it loses
pub held_told : (plan : PlanFields) (plain : PlainState) (e : Entry) (section : Section) → IsPlan plan
    → IsLineOf plan plain → IsSection plan section → MayCall plan plain.line e.box_no e.call
    → e.reply ≡ (step plan plain.line e.box_no e.call).reply
    → held_by plan (after_entry plan plain.line e) section + count_if (loses plan section e)
    ≡ held_by plan plain.line section + count_if (gains plan section e)
held_told plan plain e section sound line is may told =
    let advance = (has_boxes (length plan.boxes) section.rear section.way is).advance in
    let places = (line.boxes (advance_of section) advance).shape.frame.places in
    let n : ℕ = held_by plan plain.line section in
    let leads = told_leads plan section n e.box_no e.call sound is (known_parts plan e.box_no e.call may.known).act in
    let then = step_leads (HoldsNow plan section n) (HoldsThen plan section e.call n) plan plain.line e.box_no section
    e.call sound line.shape is may.known leads (refl, places) in
    subst (λ (reply : Reply). held_by plan (after_entry plan plain.line e) section + count_if
    (loses plan section (entry_at e.box_no e.call reply)) ≡ n + count_if
    (gains plan section (entry_at e.box_no e.call reply))) (sym told) then
