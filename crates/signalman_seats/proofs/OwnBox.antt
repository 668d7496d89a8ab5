-- A box is as its own entries left it, whatever the others did.
use Rattle.std.proofs.Common.{◌≡◌, ◌≢◌, ⊎_elim, ℕ, ◌+◌, ◌<◌, Bool, true, false, List, [], ◌∷◌, Option, Some, None}
use Rattle.std.proofs.Common.{refl, sym, ap, ◌∙◌, subst, arith, length, get_or-set_same}
use Rattle.std.specs.Prelude.{◌==◌, if◌then◌else◌}
use Rattle.std.proofs.lemmas.Bool.Decides.{eqb_tells}
use Rattle.block_words.specs.declared.Position.{Position}
use Rattle.block_words.specs.declared.Way.{Way}
use Rattle.line_plan.specs.Frames.{BoxFields, signal_of}
use Rattle.line_plan.specs.Plans.{PlanFields}
use Rattle.line_law.specs.declared.call.Act.{Act}
use Rattle.line_law.specs.declared.call.Call.{Call}
use Rattle.line_law.specs.declared.call.Entry.{Entry}
use Rattle.line_law.specs.declared.call.Reply.{Reply}
use Rattle.line_law.specs.declared.call.Reply.TheVariants as replies
use Rattle.line_law.specs.declared.state.Bell.{Bell}
use Rattle.line_law.specs.declared.state.Block.{Block}
use Rattle.line_law.specs.declared.state.BoxState.{BoxState}
use Rattle.line_law.specs.declared.state.PairState.{PairState}
use Rattle.line_law.specs.declared.state.Passage.{Passage}
use Rattle.line_law.specs.Arrivals.{first_train, next_number, train_awaited}
use Rattle.line_law.specs.Arrivals.{train_berthed, train_cleared, train_parted}
use Rattle.line_law.specs.Bells.{awaited, heard, rung}
use Rattle.line_law.specs.Decisions.{Decision, Told, on_pair}
use Rattle.line_law.specs.History.{IsLegal, IsLegalFrom, after_entry, part_of, state_after, state_of}
use Rattle.line_law.specs.Instruments.{line_turned, same_position, turned}
use Rattle.line_law.specs.Law.{Done, at_moment, box_plan_of, decide, link_of, pair_of, step, step_at}
use Rattle.line_law.specs.Levers.{is_unspent_clear, pulled, pulled_under}
use Rattle.line_law.specs.Links.{way_of}
use Rattle.line_law.specs.Outcomes.{Outcome, Refused, Rings, Hears, AwaitsBell, Turns, AwaitsBlock, Pulls}
use Rattle.line_law.specs.Outcomes.{PullsStarter, Puts, Brings, GoesTo, GoesAway, Enters, AwaitsTrain, Berths}
use Rattle.line_law.specs.Outcomes.{Parts, Clears, Winds, Releases}
use Rattle.line_law.specs.States.{IsStateOf, LineState, box_at, no_state, opening_state, pair_at}
use Rattle.line_law.specs.Trains.{enter, holds, left_by}
use Rattle.line_law.specs.Ways.{of_way, with_way}
use Rattle.line_law.proofs.Histories.{states_after}
use Rattle.line_law.proofs.Left.{other_box, step_is}
use Rattle.line_law.proofs.Opens.{opening_shape}
use Rattle.line_law.proofs.Outcomes.{outcome_of}
use Rattle.line_law.proofs.Sides.{known_box}
use Rattle.instrument_rule.proofs.Parts.{part_other, part_own}

-- ---- the reply tells what becomes of the box

-- two words that give one reply leave one box
abbrev OneBox : {Word : Type 0} → (Word → Told Word) → Type 0
OneBox {Word} f = (a b : Word) → (f a).reply ≡ (f b).reply → (f a).here ≡ (f b).here

-- the count that a reply tells of a code rung, or of an instrument turned
abbrev count_of : Reply → ℕ
count_of (replies.Rung k) = k
count_of (replies.Turned v) = v
count_of reply = 0

-- the train that a reply tells
abbrev train_of : Reply → ℕ
train_of (replies.Berthed train j) = train
train_of (replies.PartBerthed train j) = train
train_of reply = 0

rung_one : (here : BoxState) (side : Way) (code : ℕ) (k m : ℕ) (u v : Option ℕ)
    → (rung here side code k u).reply ≡ (rung here side code m v).reply
    → (rung here side code k u).here ≡ (rung here side code m v).here
rung_one here side code k m None None e = ap
    (λ (n : ℕ). record here { rung = with_way here.rung side n }) (ap count_of e)
rung_one here side code k m None (Some b) e = absurd cc
rung_one here side code k m (Some a) None e = absurd cc
rung_one here side code k m (Some a) (Some b) e = refl

heard_here : (here : BoxState) (k : ℕ) (u : Option ℕ) → (heard here k u).here ≡ here
heard_here here k None = refl
heard_here here k (Some code) = refl

-- of two that leave the box, by a test
either_here : {Word : Type 0} (here : BoxState) (b : Bool) (x y : Told Word) → x.here ≡ here → y.here ≡ here
    → (if b then x else y).here ≡ here
either_here here true x y h k = h
either_here here false x y h k = k

awaited_here : (here : BoxState) (code k : ℕ) (u : Option ℕ) → (awaited here code k u).here ≡ here
awaited_here here code k None = refl
awaited_here here code k (Some held) = either_here {Word = Bell} here (held == code) _ _ refl refl

-- by a test that the reply tells
either_one : {Word : Type 0} (a b : Bool) (x y z w : Told Word) → x.here ≡ z.here → y.here ≡ w.here
    → x.reply ≢ w.reply → y.reply ≢ z.reply → (if a then x else y).reply ≡ (if b then z else w).reply
    → (if a then x else y).here ≡ (if b then z else w).here
either_one true true x y z w p q m n e = p
either_one true false x y z w p q m n e = absurd (m e)
either_one false true x y z w p q m n e = absurd (n e)
either_one false false x y z w p q m n e = q

turned_one : (here : BoxState) (way : Way) (position : Position) → OneBox (turned here way position)
turned_one here way position a b e = ap (λ (v : ℕ). record here {
  incoming = with_way here.incoming way (line_turned (of_way here.incoming way) position v);
}) (ap count_of e)

pulled_one : (here after : BoxState) (way : Way) → OneBox (pulled_under here after way)
pulled_one here after way a b e = either_one {Word = Block} (is_unspent_clear a) (is_unspent_clear b) _ _ _ _ refl refl
    (λ h. cc) (λ h. cc) e

entered_one : (here left : BoxState) (way : Way) (train : ℕ) → OneBox (enter here left way train)
entered_one here left way train a b e = either_one {Word = List Passage} (holds a (of_way here.sent way + 1))
    (holds b (of_way here.sent way + 1)) _ _ _ _ refl refl (λ h. cc) (λ h. cc) e

awaits_here : (t : Option ℕ) (here : BoxState) (j : ℕ) (line : List Passage) → (train_awaited t here j line).here ≡ here
awaits_here None here j line = refl
awaits_here (Some train) here j line = refl

berthed_one : (t s : Option ℕ) (here : BoxState) (way : Way) (place j : ℕ) (a b : List Passage)
    → (train_berthed t here way place j a).reply ≡ (train_berthed s here way place j b).reply
    → (train_berthed t here way place j a).here ≡ (train_berthed s here way place j b).here
berthed_one None None here way place j a b e = refl
berthed_one None (Some train) here way place j a b e = absurd cc
berthed_one (Some train) None here way place j a b e = absurd cc
berthed_one (Some train) (Some other) here way place j a b e = ap
    (λ (t : ℕ). (train_berthed (Some t) here way place j a).here) (ap train_of e)

parted_one : (t s : Option ℕ) (here : BoxState) (way : Way) (place j : ℕ) (a b : List Passage)
    → (train_parted t here way place j a).reply ≡ (train_parted s here way place j b).reply
    → (train_parted t here way place j a).here ≡ (train_parted s here way place j b).here
parted_one None None here way place j a b e = refl
parted_one None (Some train) here way place j a b e = absurd cc
parted_one (Some train) None here way place j a b e = absurd cc
parted_one (Some train) (Some other) here way place j a b e = ap
    (λ (t : ℕ). (train_parted (Some t) here way place j a).here) (ap train_of e)

cleared_one : (t s : Option ℕ) (here : BoxState) (way : Way) (j : ℕ) (a b : List Passage)
    → (train_cleared t here way j a).reply ≡ (train_cleared s here way j b).reply
    → (train_cleared t here way j a).here ≡ (train_cleared s here way j b).here
cleared_one None None here way j a b e = refl
cleared_one None (Some train) here way j a b e = absurd cc
cleared_one (Some train) None here way j a b e = absurd cc
cleared_one (Some train) (Some other) here way j a b e = refl

-- of every call
abbrev OneHere : Decision → Way → Type 0
OneHere d way = (p q : PairState) → (on_pair way d p).reply ≡ (on_pair way d q).reply
    → (on_pair way d p).here ≡ (on_pair way d q).here

here_told : (plan : PlanFields) (box_plan : BoxFields) (act : Act) (here : BoxState) (d : Decision) (way : Way)
    → Outcome plan box_plan here act d → OneHere d way
here_told plan box_plan act here d way (Refused a reply refused) p q e = refl
here_told plan box_plan act here d way (Rings side code) p q e = rung_one here side code (of_way p.bells way).count
    (of_way q.bells way).count (of_way p.bells way).unheard (of_way q.bells way).unheard e
here_told plan box_plan act here d way (Hears side) p q e = heard_here here _ (of_way p.bells way).unheard
    ∙ sym (heard_here here _ (of_way q.bells way).unheard)
here_told plan box_plan act here d way (AwaitsBell side code) p q e = awaited_here here code _
    (of_way p.bells way).unheard ∙ sym (awaited_here here code _ (of_way q.bells way).unheard)
here_told plan box_plan act here d way (Turns w position berth is free) p q e = turned_one here w position
    (of_way p.blocks way) (of_way q.blocks way) e
here_told plan box_plan act here d way (AwaitsBlock w position) p q e = either_here {Word = Block} here
    (same_position (of_way p.blocks way).position position) _ _ refl refl
    ∙ sym (either_here {Word = Block} here (same_position (of_way q.blocks way).position position) _ _ refl refl)
here_told plan box_plan act here d way (Pulls lever is free) p q e = refl
here_told plan box_plan act here d way (PullsStarter lever w is free) p q e = pulled_one here
    (pulled here lever (signal_of box_plan lever)) w (of_way p.blocks way) (of_way q.blocks way) e
here_told plan box_plan act here d way (Puts lever free) p q e = refl
here_told plan box_plan act here d way (Brings train free) p q e = refl
here_told plan box_plan act here d way (GoesTo a lever signal train place is to there moves) p q e = refl
here_told plan box_plan act here d way (GoesAway a lever signal train is to there moves) p q e = refl
here_told plan box_plan act here d way (Enters a lever signal train w is to there moves) p q e = entered_one here
    (left_by box_plan here signal) w train (of_way p.lines way) (of_way q.lines way) e
here_told plan box_plan act here d way (AwaitsTrain w) p q e = awaits_here _ here (next_number here w)
    (of_way p.lines way) ∙ sym (awaits_here _ here (next_number here w) (of_way q.lines way))
here_told plan box_plan act here d way (Berths w berth is free) p q e = berthed_one
    (first_train (next_number here w) (of_way p.lines way)) (first_train (next_number here w) (of_way q.lines way))
    here w
    berth.place (next_number here w) (of_way p.lines way) (of_way q.lines way) e
here_told plan box_plan act here d way (Parts w berth is free) p q e = parted_one
    (first_train (next_number here w) (of_way p.lines way)) (first_train (next_number here w) (of_way q.lines way))
    here w
    berth.place (next_number here w) (of_way p.lines way) (of_way q.lines way) e
here_told plan box_plan act here d way (Clears w free) p q e = cleared_one
    (first_train (next_number here w) (of_way p.lines way)) (first_train (next_number here w) (of_way q.lines way))
    here w
    (next_number here w) (of_way p.lines way) (of_way q.lines way) e
here_told plan box_plan act here d way (Winds w free) p q e = refl
here_told plan box_plan act here d way (Releases w free) p q e = refl

-- ---- along a history

-- the entries of box b, one after another, take it from one state to another
abbrev Follows : PlanFields → ℕ → BoxState → List Entry → BoxState → Type 0
Follows plan b here [] after = here ≡ after
Follows plan b here (e ∷ es) after =
    (pair : PairState) × ((step_at plan (box_plan_of plan b) e.call here pair).reply ≡ e.reply)
    × Follows plan b (step_at plan (box_plan_of plan b) e.call here pair).here es after

-- to one state alone
one_follows : (plan : PlanFields) (b : ℕ) (here : BoxState) (es : List Entry) (x y : BoxState)
    → Follows plan b here es x → Follows plan b here es y → x ≡ y
one_follows plan b here [] x y h k = sym h ∙ k
one_follows plan b here (e ∷ es) x y h k =
    let box_plan = box_plan_of plan b in
    let now = at_moment here e.call.moment in
    let same = here_told plan box_plan e.call.act now (decide plan box_plan e.call.act now)
    (way_of (link_of box_plan e.call.act)) (outcome_of plan box_plan e.call.act now) h.0 k.0 (h.1 ∙ sym k.1) in
    one_follows plan b (step_at plan box_plan e.call here k.0).here es x y
    (subst (λ (z : BoxState). Follows plan b z es x) same h.2) k.2

-- what a call of box b leaves there
box_after : (plan : PlanFields) (state : LineState) (b : ℕ) (call : Call) → b < length state.boxes
    → box_at (step plan state b call).after b
    ≡ (step_at plan (box_plan_of plan b) call (box_at state b) (pair_at state (pair_of plan b call))).here
unfolding step
box_after plan state b call within = get_or-set_same state.boxes b _ no_state within

-- from before an entry on, where it does so after it
one_more : (plan : PlanFields) (b : ℕ) (state : LineState) (e : Entry) (es : List Entry) (x : BoxState)
    → e.box_no < length state.boxes → e.reply ≡ (step plan state e.box_no e.call).reply
    → Follows plan b (box_at (after_entry plan state e) b) (part_of b es) x
    → Follows plan b (box_at state b) (part_of b (e ∷ es)) x
one_more plan b state e es x within told rest = ⊎_elim
    (λ (t : ((e.box_no == b) ≡ true) × (e.box_no ≡ b)).
    subst (λ (part : List Entry). Follows plan b (box_at state b) part x) (sym (part_own b e es t.1))
    (called b t.1 rest))
    (λ (t : ((e.box_no == b) ≡ false) × (e.box_no ≢ b)).
    subst (λ (part : List Entry). Follows plan b (box_at state b) part x) (sym (part_other b e es t.1))
    (subst (λ (z : BoxState). Follows plan b z (part_of b es) x)
    (other_box plan state e.box_no b e.call (λ same. t.1 (sym same))) rest))
    (eqb_tells e.box_no b)
  where
    called : (c : ℕ) → e.box_no ≡ c → Follows plan c (box_at (after_entry plan state e) c) (part_of c es) x
        → Follows plan c (box_at state c) (e ∷ part_of c es) x
    called c is follows = subst
        (λ (d : ℕ). Follows plan d (box_at (after_entry plan state e) d) (part_of d es) x
        → Follows plan d (box_at state d) (e ∷ part_of d es) x) is
        (λ h. (
          pair_at state (pair_of plan e.box_no e.call),
          sym (told ∙ ap (λ (d : Done). d.reply) (step_is plan state e.box_no e.call)),
          subst (λ (z : BoxState). Follows plan e.box_no z (part_of e.box_no es) x)
              (box_after plan state e.box_no e.call within) h,
        )) follows

-- the part of a box in a legal history
part_follows : (plan : PlanFields) (b : ℕ) (state : LineState) (es : List Entry) → IsStateOf plan state
    → IsLegalFrom plan state es → Follows plan b (box_at state b) (part_of b es) (box_at (state_after plan state es) b)
part_follows plan b state [] shape legal = refl
part_follows plan b state (e ∷ es) shape legal =
    let known = known_box plan e.box_no e.call legal.0.known in
    let count = shape.boxes in
    one_more plan b state e es (box_at (state_after plan (after_entry plan state e) es) b) (omega arith) legal.1
    (part_follows plan b (after_entry plan state e) es (states_after plan state (e ∷ []) shape) legal.2)

-- two legal histories with the same part of a box leave it the same
pub one_box : (plan : PlanFields) (b : ℕ) (es others : List Entry) → IsLegal plan es → IsLegal plan others
    → part_of b others ≡ part_of b es → box_at (state_of plan others) b ≡ box_at (state_of plan es) b
one_box plan b es others legal legal' same = one_follows plan b (box_at (opening_state plan) b) (part_of b es)
    (box_at (state_of plan others) b) (box_at (state_of plan es) b)
    (subst
    (λ (part : List Entry). Follows plan b (box_at (opening_state plan) b) part (box_at (state_of plan others) b))
    same (part_follows plan b (opening_state plan) others (opening_shape plan) legal'))
    (part_follows plan b (opening_state plan) es (opening_shape plan) legal)
