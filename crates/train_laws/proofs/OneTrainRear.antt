-- The calls of the rear box keep its section guarded.
use Rattle.std.proofs.Common.{ℕ, ◌+◌, ◌-◌, ◌≡◌, List, Bool, true, false, Option, Some, None, refl, sym, ap, subst, ◌∙◌}
use Rattle.std.proofs.Common.{arith, length-append}
use Rattle.std.specs.Prelude.{◌&&◌, ◌==◌}
use Rattle.block_words.specs.Ways.{opposite}
use Rattle.block_words.specs.declared.Position.{Position}
use Rattle.block_words.specs.declared.Way.{Way}
use Rattle.block_words.specs.declared.Way.TheVariants.{Down}
use Rattle.line_plan.specs.Frames.{BoxFields, signal_of, starter_of, way_to}
use Rattle.line_plan.specs.Plans.{IsBox, PlanFields}
use Rattle.line_plan.specs.declared.berth.Berth.{Berth}
use Rattle.line_plan.specs.declared.signal.Signal.{Signal}
use Rattle.line_plan.specs.declared.signal.To.TheVariants as leads
use Rattle.line_law.specs.declared.call.Act.{Act}
use Rattle.line_law.specs.declared.call.Act.TheVariants as acts
use Rattle.line_law.specs.declared.call.Reply.{Reply}
use Rattle.line_law.specs.declared.call.Reply.TheVariants as replies
use Rattle.line_law.specs.declared.link.Link.{Link}
use Rattle.line_law.specs.declared.state.Bell.{Bell}
use Rattle.line_law.specs.declared.state.Block.{Block}
use Rattle.line_law.specs.declared.state.BoxState.{BoxState}
use Rattle.line_law.specs.declared.state.Passage.{Passage}
use Rattle.line_law.specs.Arrivals.{train_awaited, train_berthed, train_parted, train_cleared, next_train, next_number}
use Rattle.train_laws.specs.Authorities.{count_if}
use Rattle.line_law.specs.Bells.{rung, heard, awaited}
use Rattle.line_law.specs.Decisions.{Told, Decision, or_later}
use Rattle.line_law.specs.Instruments.{same_position}
use Rattle.line_law.specs.Law.{link_of}
use Rattle.line_law.specs.Levers.{is_unspent_clear, pulled, pulled_under, starter_link, starter_way}
use Rattle.line_law.specs.Outcomes.{Moves, Passes, Overruns, Outcome, Refused, Rings, Hears, AwaitsBell, Turns}
use Rattle.line_law.specs.Outcomes.{AwaitsBlock, Pulls, PullsStarter, Puts, Brings, GoesTo, GoesAway, Enters}
use Rattle.line_law.specs.Outcomes.{AwaitsTrain, Berths, Parts, Clears, Winds, Releases}
use Rattle.line_law.specs.LeverEnds.{is_off}
use Rattle.line_law.specs.Trains.{danger_refusal, enter, holds, left_by, way_refusal}
use Rattle.line_law.specs.Ways.{of_way}
use Rattle.train_laws.proofs.GuardedSections.{IsGuarded, IsQuiet, arm_count-le, arm_danger, arm_other, arm_same}
use Rattle.train_laws.proofs.GuardedSections.{at_danger, quiet_guarded, told_either}
use Rattle.train_laws.proofs.SectionReplies.{ThenOwn, ThenElsewhere}
use Rattle.train_laws.proofs.StarterFacts.{levers_apart, only_starter}

-- ---- what a call elsewhere does to the arms

pub rung_off : (here : BoxState) (side : Way) (code count : ℕ) (unheard : Option ℕ)
    → (rung here side code count unheard).here.off ≡ here.off
rung_off here side code count (Some u) = refl
rung_off here side code count None = refl

-- hearing leaves the box
pub heard_here : (here : BoxState) (count : ℕ) (unheard : Option ℕ) → (heard here count unheard).here ≡ here
heard_here here count (Some u) = refl
heard_here here count None = refl

-- an await of a bell leaves the box
pub awaited_here : (here : BoxState) (code count : ℕ) (unheard : Option ℕ)
    → (awaited here code count unheard).here ≡ here
awaited_here here code count (Some u) = told_either (u == code) _ _ (λ (told : Told Bell). told.here ≡ here) refl refl
awaited_here here code count None = refl

-- an await of a train leaves the box
pub train_awaited_here : (train : Option ℕ) (here : BoxState) (j : ℕ) (line : List Passage)
    → (train_awaited train here j line).here ≡ here
train_awaited_here None here j line = refl
train_awaited_here (Some train) here j line = refl

train_berthed_off : (train : Option ℕ) (here : BoxState) (way : Way) (place j : ℕ) (line : List Passage)
    → (train_berthed train here way place j line).here.off ≡ here.off
train_berthed_off None here way place j line = refl
train_berthed_off (Some train) here way place j line = refl

train_parted_off : (train : Option ℕ) (here : BoxState) (way : Way) (place j : ℕ) (line : List Passage)
    → (train_parted train here way place j line).here.off ≡ here.off
train_parted_off None here way place j line = refl
train_parted_off (Some train) here way place j line = refl

train_cleared_off : (train : Option ℕ) (here : BoxState) (way : Way) (j : ℕ) (line : List Passage)
    → (train_cleared train here way j line).here.off ≡ here.off
train_cleared_off None here way j line = refl
train_cleared_off (Some train) here way j line = refl

-- a lever that isn't the starter's leaves its arm
pulled_quiet : (signal : Option Signal) (boxes b : ℕ) (box_plan : BoxFields) (w : Way) (here : BoxState) (lever : ℕ)
    → IsBox boxes b box_plan → signal_of box_plan lever ≡ signal → (starter_way signal ≡ Some w → ⊥)
    → IsQuiet (starter_of box_plan w) here (pulled here lever signal)
pulled_quiet None boxes b box_plan w here lever is found other = arm_same (starter_of box_plan w) here _ refl
pulled_quiet (Some signal) boxes b box_plan w here lever is found other =
    arm_other (starter_of box_plan w) here _ (lever - 1) refl
    (λ s e. levers_apart boxes b box_plan w lever s signal is e found other)

off_same : (starter : Option Signal) (here after : BoxState) → after ≡ here → IsQuiet starter here after
off_same starter here after e = arm_same starter here after (ap (λ (h : BoxState). h.off) e)

-- a call of the rear box elsewhere leaves the starter's arm, or sets it to danger
pub rear_quiet : (plan : PlanFields) (boxes b : ℕ) (box_plan : BoxFields) (w : Way) (here : BoxState) (act : Act)
    (d : Decision) → IsBox boxes b box_plan → Outcome plan box_plan here act d → (link_of box_plan act ≡ Link.Out w → ⊥)
    → ThenElsewhere d (λ reply h. IsQuiet (starter_of box_plan w) here h)
rear_quiet plan boxes b box_plan w here a d is (Refused act reply refused) other = arm_same _ here here refl
rear_quiet plan boxes b box_plan w here a d is (Rings side code) other =
    λ bell. arm_same _ here _ (rung_off here side code bell.count bell.unheard)
rear_quiet plan boxes b box_plan w here a d is (Hears side) other =
    λ bell. off_same _ here _ (heard_here here bell.count bell.unheard)
rear_quiet plan boxes b box_plan w here a d is (AwaitsBell side code) other =
    λ bell. off_same _ here _ (awaited_here here code bell.count bell.unheard)
rear_quiet plan boxes b box_plan w here a d is (Turns way position berth at free) other =
    λ block. arm_same _ here _ refl
rear_quiet plan boxes b box_plan w here a d is (AwaitsBlock way position) other =
    λ block. told_either (same_position block.position position) _ _
    (λ (told : Told Block). IsQuiet (starter_of box_plan w) here told.here) (arm_same _ here here refl)
    (arm_same _ here here refl)
rear_quiet plan boxes b box_plan w here a d is (Pulls lever none free) other =
    pulled_quiet (signal_of box_plan lever) boxes b box_plan w here lever is refl (λ f. other (ap starter_link f))
rear_quiet plan boxes b box_plan w here a d is (PullsStarter lever way starts free) other =
    λ block. told_either (is_unspent_clear block) _ _
    (λ (told : Told Block). IsQuiet (starter_of box_plan w) here told.here)
    (pulled_quiet (signal_of box_plan lever) boxes b box_plan w here lever is refl (λ f. other (ap starter_link f)))
    (arm_same _ here here refl)
rear_quiet plan boxes b box_plan w here a d is (Puts lever free) other = arm_danger _ here _ (lever - 1) refl
rear_quiet plan boxes b box_plan w here a d is (Brings train free) other = arm_same _ here _ refl
rear_quiet plan boxes b box_plan w here a d is (GoesTo act lever signal train place found to there moves) other =
    arm_danger _ here _ (signal.lever - 1) refl
rear_quiet plan boxes b box_plan w here a d is (GoesAway act lever signal train found to there moves) other =
    arm_danger _ here _ (signal.lever - 1) refl
rear_quiet plan boxes b box_plan w here a d is (Enters act lever signal train way found to there moves) other =
    λ line. told_either (holds line (of_way here.sent way + 1)) _ _
    (λ (told : Told (List Passage)). IsQuiet (starter_of box_plan w) here told.here) (arm_same _ here here refl)
    (arm_danger _ here _ (signal.lever - 1) refl)
rear_quiet plan boxes b box_plan w here a d is (AwaitsTrain way) other =
    λ line. off_same _ here _ (train_awaited_here (next_train here way line) here (next_number here way) line)
rear_quiet plan boxes b box_plan w here a d is (Berths way berth at free) other =
    λ line. arm_same _ here _
    (train_berthed_off (next_train here way line) here way berth.place (next_number here way) line)
rear_quiet plan boxes b box_plan w here a d is (Parts way berth at free) other =
    λ line. arm_same _ here _
    (train_parted_off (next_train here way line) here way berth.place (next_number here way) line)
rear_quiet plan boxes b box_plan w here a d is (Clears way free) other =
    λ line. arm_same _ here _ (train_cleared_off (next_train here way line) here way (next_number here way) line)
rear_quiet plan boxes b box_plan w here a d is (Winds way free) other = arm_same _ here _ refl
rear_quiet plan boxes b box_plan w here a d is (Releases way free) other = arm_same _ here _ refl

-- ---- the starter is pulled

and_false : (b : Bool) → count_if (b && false) ≡ 0
and_false true = refl
and_false false = refl

under_guarded : (ok : Bool) (starter : Option Signal) (berth : Option Berth) (w way : Way)
    (here after advance : BoxState) (k : Block) (t : List Passage) → is_unspent_clear k ≡ ok
    → IsGuarded starter berth w here advance k t
    → IsGuarded starter berth w (pulled_under here after way k).here advance (pulled_under here after way k).word t
under_guarded true starter berth w way here after advance k t e g =
    let had : count_if (is_unspent_clear k) ≡ 1 = ap count_if e in
    let spent = and_false (same_position k.position Position.LineClear) in
    let arm = arm_count-le starter after in
    let allowed = g.allowed in
    rw e (record { allowed = omega (arith, had, spent, arm, allowed); kind = g.kind })
under_guarded false starter berth w way here after advance k t e g =
    let spent = and_false (same_position k.position Position.LineClear) in
    let allowed = g.allowed in
    rw e (record { allowed = omega (arith, spent, allowed); kind = g.kind })

-- ---- a train passes the starter

off_true : (b : Bool) (later : Option Reply) → or_later (danger_refusal b) later ≡ None → b ≡ true
off_true true later e = refl
off_true false later e = cc

entered_guarded : (full : Bool) (s : Signal) (berth : Option Berth) (w way : Way) (box_plan : BoxFields)
    (here advance : BoxState) (train : ℕ) (k : Block) (t : List Passage)
    → holds t (of_way here.sent way + 1) ≡ full → is_off here.off s.lever ≡ true
    → IsGuarded (Some s) berth w here advance k t
    → IsGuarded (Some s) berth w (enter here (left_by box_plan here s) way train t).here advance k
    (enter here (left_by box_plan here s) way train t).word
entered_guarded true s berth w way box_plan here advance train k t full off g = rw full g
entered_guarded false s berth w way box_plan here advance train k t full off g =
    let was : count_if (is_off here.off s.lever) ≡ 1 = ap count_if off in
    let now : count_if (is_off (left_by box_plan here s).off s.lever) ≡ 0 =
    ap count_if (at_danger here.off (s.lever - 1)) in
    let allowed = g.allowed in
    rw full (record { allowed = simp length-append (omega (arith, was, now, allowed)); kind = g.kind })

-- a train overruns the starter: it doesn't enter
kept_out : (full : Bool) (N : Reply → Type 0) (starter : Option Signal) (berth : Option Berth) (w way : Way)
    (here left advance : BoxState) (train : ℕ) (k : Block) (t : List Passage)
    → holds t (of_way here.sent way + 1) ≡ full → (N (replies.Entered train (of_way here.sent way + 1)) → ⊥)
    → IsGuarded starter berth w here advance k t
    → N (enter here left way train t).reply
    → IsGuarded starter berth w (enter here left way train t).here advance k (enter here left way train t).word
kept_out true N starter berth w way here left advance train k t full clean g = rw full (λ n. g)
kept_out false N starter berth w way here left advance train k t full clean g = rw full (λ n. absurd (clean n))

-- the line of a signal's lever that leads into a section
pub starter_line : (box_plan : BoxFields) (lever : ℕ) (signal : Signal) (way : Way)
    → signal_of box_plan lever ≡ Some signal → signal.to ≡ leads.Section way
    → starter_way (signal_of box_plan lever) ≡ Some way
starter_line box_plan lever signal way found to = ap starter_way found ∙ ap way_to to

enters_guarded : (act : Act) (N : Act → Reply → Type 0) (boxes b : ℕ) (box_plan : BoxFields) (w way : Way)
    (berth : Option Berth) (here advance : BoxState) (k : Block) (t : List Passage) (lever train : ℕ) (signal : Signal)
    → IsBox boxes b box_plan
    → ((lever k train : ℕ) → starter_way (signal_of box_plan lever) ≡ Some w
    → N (acts.Overrun lever) (replies.Entered train k) → ⊥)
    → signal_of box_plan lever ≡ Some signal → signal.to ≡ leads.Section way → way ≡ w → Moves here lever signal act
    → IsGuarded (starter_of box_plan w) berth w here advance k t
    → N act (enter here (left_by box_plan here signal) way train t).reply
    → IsGuarded (starter_of box_plan w) berth w (enter here (left_by box_plan here signal) way train t).here advance k
    (enter here (left_by box_plan here signal) way train t).word
enters_guarded act N boxes b box_plan w way berth here advance k t lever train signal is clean found to same
    (Passes free) g =
    let starter : starter_of box_plan w ≡ Some signal =
    only_starter boxes b box_plan w lever signal is found (ap way_to to ∙ ap (λ (x : Way). Some x) same) in
    let off : is_off here.off signal.lever ≡ true =
    off_true (is_off here.off signal.lever) (way_refusal here signal) free in
    let with_it : IsGuarded (Some signal) berth w here advance k t =
    subst (λ (o : Option Signal). IsGuarded o berth w here advance k t) starter g in
    λ n. subst
    (λ (o : Option Signal). IsGuarded o berth w (enter here (left_by box_plan here signal) way train t).here advance
    k (enter here (left_by box_plan here signal) way train t).word) (sym starter)
    (entered_guarded (holds t (of_way here.sent way + 1)) signal berth w way box_plan here advance train k t refl off
    with_it)
enters_guarded act N boxes b box_plan w way berth here advance k t lever train signal is clean found to same
    (Overruns free) g =
    kept_out (holds t (of_way here.sent way + 1)) (N (acts.Overrun lever)) (starter_of box_plan w) berth w way here
    (left_by box_plan here signal) advance train k t refl
    (clean lever (of_way here.sent way + 1) train
    (starter_line box_plan lever signal way found to ∙ ap (λ (x : Way). Some x) same)) g

-- a train that moves past a signal is on the line of the signal's lever
pub moves_line : (box_plan : BoxFields) (here : BoxState) (lever : ℕ) (signal : Signal) (act : Act)
    → Moves here lever signal act → link_of box_plan act ≡ starter_link (starter_way (signal_of box_plan lever))
moves_line box_plan here lever signal act (Passes free) = refl
moves_line box_plan here lever signal act (Overruns free) = refl

out_is : (v w : Way) → Link.Out v ≡ Link.Out w → v ≡ w
out_is v w e = cc

in_not_out : (v w : Way) → Link.In v ≡ Link.Out w → ⊥
in_not_out v w e = cc

-- ---- a call on the section's own words

-- a call of the rear box on its outgoing line keeps the section guarded, where it is no overrun into the section
pub rear_guarded : (plan : PlanFields) (boxes b : ℕ) (box_plan : BoxFields) (w : Way) (berth : Option Berth)
    (N : Act → Reply → Type 0) (here advance : BoxState) (l : Bell) (k : Block) (t : List Passage) (act : Act)
    (d : Decision)
    → IsBox boxes b box_plan
    → ((lever k train : ℕ) → starter_way (signal_of box_plan lever) ≡ Some w
    → N (acts.Overrun lever) (replies.Entered train k) → ⊥)
    → Outcome plan box_plan here act d → link_of box_plan act ≡ Link.Out w
    → IsGuarded (starter_of box_plan w) berth w here advance k t
    → ThenOwn d (λ reply h l k t. N act reply → IsGuarded (starter_of box_plan w) berth w h advance k t) l k t
rear_guarded plan boxes b box_plan w berth N here advance l k t a d is clean (Refused act reply refused) line g = λ n. g
rear_guarded plan boxes b box_plan w berth N here advance l k t a d is clean (Rings side code) line g =
    λ n. quiet_guarded _ berth w here _ advance k t (arm_same _ here _ (rung_off here side code l.count l.unheard)) g
rear_guarded plan boxes b box_plan w berth N here advance l k t a d is clean (Hears side) line g =
    absurd (in_not_out (opposite side) w line)
rear_guarded plan boxes b box_plan w berth N here advance l k t a d is clean (AwaitsBell side code) line g =
    absurd (in_not_out (opposite side) w line)
rear_guarded plan boxes b box_plan w berth N here advance l k t a d is clean (Turns way position at_berth at free) line
    g = absurd (in_not_out way w line)
rear_guarded plan boxes b box_plan w berth N here advance l k t a d is clean (AwaitsBlock way position) line g =
    told_either (same_position k.position position) _ _
    (λ (told : Told Block). N a told.reply
    → IsGuarded (starter_of box_plan w) berth w told.here advance told.word t) (λ n. g) (λ n. g)
rear_guarded plan boxes b box_plan w berth N here advance l k t a d is clean (Pulls lever none free) line g =
    absurd (in_not_out Down w (sym (ap starter_link none) ∙ line))
rear_guarded plan boxes b box_plan w berth N here advance l k t a d is clean (PullsStarter lever way starts free) line
    g =
    λ n. under_guarded (is_unspent_clear k) (starter_of box_plan w) berth w way here
    (pulled here lever (signal_of box_plan lever)) advance k t refl g
rear_guarded plan boxes b box_plan w berth N here advance l k t a d is clean (Puts lever free) line g =
    absurd (in_not_out Down w line)
rear_guarded plan boxes b box_plan w berth N here advance l k t a d is clean (Brings train free) line g =
    absurd (in_not_out Down w line)
rear_guarded plan boxes b box_plan w berth N here advance l k t a d is clean
    (GoesTo act lever signal train place found to there moves) line g =
    λ n. quiet_guarded _ berth w here _ advance k t (arm_danger _ here _ (signal.lever - 1) refl) g
rear_guarded plan boxes b box_plan w berth N here advance l k t a d is clean
    (GoesAway act lever signal train found to there moves) line g =
    λ n. quiet_guarded _ berth w here _ advance k t (arm_danger _ here _ (signal.lever - 1) refl) g
rear_guarded plan boxes b box_plan w berth N here advance l k t a d is clean
    (Enters act lever signal train way found to there moves) line g =
    let same : way ≡ w =
    out_is way w
    (sym (ap starter_link (starter_line box_plan lever signal way found to))
    ∙ (sym (moves_line box_plan here lever signal act moves) ∙ line)) in
    enters_guarded act N boxes b box_plan w way berth here advance k t lever train signal is clean found to same moves g
rear_guarded plan boxes b box_plan w berth N here advance l k t a d is clean (AwaitsTrain way) line g =
    absurd (in_not_out way w line)
rear_guarded plan boxes b box_plan w berth N here advance l k t a d is clean (Berths way at_berth at free) line g =
    absurd (in_not_out way w line)
rear_guarded plan boxes b box_plan w berth N here advance l k t a d is clean (Parts way at_berth at free) line g =
    absurd (in_not_out way w line)
rear_guarded plan boxes b box_plan w berth N here advance l k t a d is clean (Clears way free) line g =
    absurd (in_not_out way w line)
rear_guarded plan boxes b box_plan w berth N here advance l k t a d is clean (Winds way free) line g =
    absurd (in_not_out way w line)
rear_guarded plan boxes b box_plan w berth N here advance l k t a d is clean (Releases way free) line g =
    absurd (in_not_out way w line)
