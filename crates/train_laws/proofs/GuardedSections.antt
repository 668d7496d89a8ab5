-- A section whose control allows the authorities that stand in it.
use Rattle.std.proofs.Common.{subst, ℕ, zero, suc, ◌+◌, ◌-◌, ◌≡◌, ◌≢◌, ◌≤◌, List, [], ◌∷◌, Bool, true, false, cond}
use Rattle.std.proofs.Common.{Option, Some, None, refl, ap, ◌∙◌, arith, slice_index_or, slice_set, get_or-set_other}
use Rattle.std.specs.Prelude.{◌==◌}
use Rattle.std.proofs.lemmas.Bool.{eqb-true, eqb-false}
use Rattle.block_words.specs.declared.Way.{Way}
use Rattle.block_words.specs.declared.WelwynState.TheVariants as welwyn
use Rattle.line_plan.specs.declared.berth.Berth.{Berth}
use Rattle.line_plan.specs.declared.signal.Signal.{Signal}
use Rattle.line_law.specs.declared.call.Reply.{Reply}
use Rattle.line_law.specs.declared.state.Block.{Block}
use Rattle.line_law.specs.declared.state.BoxState.{BoxState}
use Rattle.line_law.specs.declared.state.Control.{Control}
use Rattle.line_law.specs.declared.state.Control.TheVariants.{Absolute, Permissive}
use Rattle.line_law.specs.declared.state.Passage.{Passage}
use Rattle.line_law.specs.declared.state.Incoming.{Incoming}
use Rattle.line_law.specs.declared.ways.ByWay.{ByWay}
use Rattle.block_words.specs.declared.Way.TheVariants.{Up, Down}
use Rattle.line_law.specs.Controls.{left_control}
use Rattle.train_laws.specs.Authorities.{arm_count, authority_count, count_if}
use Rattle.line_law.specs.Decisions.{Told, Decision, Here, OnBell, OnBlock, OnPlainLine}
use Rattle.line_law.specs.Law.{at_moment}
use Rattle.line_law.specs.Lines.{FitsLine, IsControlOf}
use Rattle.line_law.specs.Sections.{berth_count, count_of}
use Rattle.line_law.specs.LeverEnds.{is_off}
use Rattle.line_law.specs.Tracks.{train_on}
use Rattle.line_law.specs.Trains.{line_left}
use Rattle.line_law.specs.Ways.{of_way, with_way}
use Rattle.train_laws.proofs.SectionReplies.{ThenElsewhere}

-- how many authorities a control lets stand: on an absolute line none where it is Ready, else one; on a permissive line
-- as many as are out
abbrev pub allowed_by : Control → ℕ
allowed_by (Absolute welwyn.Ready) = 0
allowed_by (Absolute welwyn.Given) = 1
allowed_by (Absolute welwyn.Berthed) = 1
allowed_by (Permissive out) = out

-- no more authorities stand than the section's control allows, and that is of the line's kind
pub record IsGuarded (starter : Option Signal) (berth : Option Berth) (w : Way) (rear advance : BoxState)
    (block : Block) (line : List Passage) : Type 0 where
  pub allowed : authority_count starter berth rear advance block line ≤ allowed_by (of_way advance.incoming w).control
  pub kind : IsControlOf berth (of_way advance.incoming w).control

-- ---- the moment of a call is no part of it

-- a section stays guarded at another moment of its rear box
pub rear_at_moment : (starter : Option Signal) (berth : Option Berth) (w : Way) (rear advance : BoxState)
    (block : Block) (line : List Passage) (moment : ℕ)
    → IsGuarded starter berth w rear advance block line
    → IsGuarded starter berth w (at_moment rear moment) advance block line
rear_at_moment (Some s) berth w rear advance block line moment g = record { allowed = g.allowed; kind = g.kind }
rear_at_moment None berth w rear advance block line moment g = record { allowed = g.allowed; kind = g.kind }

-- a section stays guarded at another moment of its box in advance
pub advance_at_moment : (starter : Option Signal) (berth : Option Berth) (w : Way) (rear advance : BoxState)
    (block : Block) (line : List Passage) (moment : ℕ)
    → IsGuarded starter berth w rear advance block line
    → IsGuarded starter berth w rear (at_moment advance moment) block line
advance_at_moment starter (Some b) w rear advance block line moment g = record { allowed = g.allowed; kind = g.kind }
advance_at_moment starter None w rear advance block line moment g = record { allowed = g.allowed; kind = g.kind }

-- ---- by cases

-- what holds of both outcomes holds of the one that a test chooses
pub told_either : {W : Type 0} (c : Bool) (x y : Told W) (P : Told W → Type 0) → P x → P y → P (cond c x y)
told_either true x y P px py = px
told_either false x y P px py = py

-- what is weaker holds of a decision elsewhere too
pub elsewhere_weaker : (d : Decision) (P Q : Reply → BoxState → Type 0)
    → ((reply : Reply) (h : BoxState) → P reply h → Q reply h) → ThenElsewhere d P → ThenElsewhere d Q
elsewhere_weaker (Here reply h) P Q f p = f reply h p
elsewhere_weaker (OnBell act) P Q f p = λ x. f (act x).reply (act x).here (p x)
elsewhere_weaker (OnBlock act) P Q f p = λ x. f (act x).reply (act x).here (p x)
elsewhere_weaker (OnPlainLine act) P Q f p = λ x. f (act x).reply (act x).here (p x)

-- ---- the arm of the starter

-- the arm of the starter isn't off where it was on
abbrev pub IsQuiet : Option Signal → BoxState → BoxState → Type 0
IsQuiet starter here after = arm_count starter after ≤ arm_count starter here

danger : (off : List Bool) (i j : ℕ)
    → count_if (slice_index_or (slice_set off i false) j false) ≤ count_if (slice_index_or off j false)
danger [] i j = omega arith
danger (x ∷ off) zero zero = omega arith
danger (x ∷ off) zero (suc j) = omega arith
danger (x ∷ off) (suc i) zero = omega arith
danger (x ∷ off) (suc i) (suc j) = danger off i j

-- an arm that goes to danger is at danger
pub at_danger : (off : List Bool) (i : ℕ) → slice_index_or (slice_set off i false) i false ≡ false
at_danger [] i = refl
at_danger (x ∷ off) zero = refl
at_danger (x ∷ off) (suc i) = at_danger off i

-- a box with the same arms is quiet for the section
pub arm_same : (starter : Option Signal) (here after : BoxState) → after.off ≡ here.off → IsQuiet starter here after
arm_same None here after e = omega arith
arm_same (Some s) here after e = rw e (omega arith)

-- an arm goes to danger
pub arm_danger : (starter : Option Signal) (here after : BoxState) (i : ℕ) → after.off ≡ slice_set here.off i false
    → IsQuiet starter here after
arm_danger None here after i e = omega arith
arm_danger (Some s) here after i e = rw e (danger here.off i (s.lever - 1))

-- another arm comes off
pub arm_other : (starter : Option Signal) (here after : BoxState) (i : ℕ) → after.off ≡ slice_set here.off i true
    → ((s : Signal) → starter ≡ Some s → s.lever - 1 ≢ i) → IsQuiet starter here after
arm_other None here after i e apart = omega arith
arm_other (Some s) here after i e apart =
    rw e (rw (get_or-set_other here.off i (s.lever - 1) true false (apart s refl)) (omega arith))

count_if-le : (b : Bool) → count_if b ≤ 1
count_if-le true = omega arith
count_if-le false = omega arith

-- a starter's arm counts for at most one train
pub arm_count-le : (starter : Option Signal) (here : BoxState) → arm_count starter here ≤ 1
arm_count-le None here = omega arith
arm_count-le (Some s) here = count_if-le (is_off here.off s.lever)

-- a section stays guarded where its rear box is quiet
pub quiet_guarded : (starter : Option Signal) (berth : Option Berth) (w : Way) (rear after advance : BoxState)
    (block : Block) (line : List Passage)
    → IsQuiet starter rear after → IsGuarded starter berth w rear advance block line
    → IsGuarded starter berth w after advance block line
quiet_guarded starter berth w rear after advance block line quiet g =
    let allowed = g.allowed in record { allowed = omega (arith, allowed, quiet); kind = g.kind }

-- ---- the berth and the control

-- a box in advance after a call: where a train less is in the berth, the control may allow one less
pub record IsEased (berth : Option Berth) (w : Way) (here after : BoxState) : Type 0 where
  pub room : berth_count berth after + allowed_by (of_way here.incoming w).control ≤ berth_count berth here + allowed_by
      (of_way after.incoming w).control
  pub kind : IsControlOf berth (of_way here.incoming w).control → IsControlOf berth (of_way after.incoming w).control

-- a section stays guarded where its box in advance eases its control
pub eased_guarded : (starter : Option Signal) (berth : Option Berth) (w : Way) (rear advance after : BoxState)
    (block : Block) (line : List Passage)
    → IsEased berth w advance after → IsGuarded starter berth w rear advance block line
    → IsGuarded starter berth w rear after block line
eased_guarded starter berth w rear advance after block line eased g =
    let allowed = g.allowed in let room =
    eased.room in record { allowed = omega (arith, allowed, room); kind = eased.kind g.kind }

-- a box that eases twice has eased
pub then_eased : (berth : Option Berth) (w : Way) (here middle after : BoxState) → IsEased berth w here middle
    → IsEased berth w middle after → IsEased berth w here after
then_eased berth w here middle after f g = let one = f.room in let two =
    g.room in record { room = omega (arith, one, two); kind = λ k. g.kind (f.kind k) }

same_berth : (berth : Option Berth) (here after : BoxState) → after.places ≡ here.places
    → berth_count berth after ≡ berth_count berth here
same_berth None here after e = refl
same_berth (Some b) here after e = ap (λ (places : List (Option ℕ)). count_of (train_on places b.place)) e

ease : (berth : Option Berth) (w : Way) (here after : BoxState) → berth_count berth after ≡ berth_count berth here
    → (of_way after.incoming w).control ≡ (of_way here.incoming w).control → IsEased berth w here after
ease berth w here after e f = record { room = rw (e, f) (omega arith); kind = λ k. rw f k }

-- neither its places nor the control of the line change
pub ease_same : (berth : Option Berth) (w : Way) (here after : BoxState) → after.places ≡ here.places
    → (of_way after.incoming w).control ≡ (of_way here.incoming w).control → IsEased berth w here after
ease_same berth w here after e f = ease berth w here after (same_berth berth here after e) f

-- a box that stays as it was has eased
pub ease_here : (berth : Option Berth) (w : Way) (here after : BoxState) → after ≡ here → IsEased berth w here after
ease_here berth w here after e =
    ease_same berth w here after (ap (λ (h : BoxState). h.places) e)
    (ap (λ (h : BoxState). (of_way h.incoming w).control) e)

other_place : (berth : Option Berth) (here after : BoxState) (place : ℕ) (there : Option ℕ)
    → after.places ≡ slice_set here.places place there → ((b : Berth) → berth ≡ Some b → b.place ≢ place)
    → berth_count berth after ≡ berth_count berth here
other_place None here after place there e apart = refl
other_place (Some b) here after place there e apart =
    ap (λ (places : List (Option ℕ)). count_of (train_on places b.place)) e
    ∙ ap count_of (get_or-set_other here.places place b.place there None (apart b refl))

-- a place that isn't the berth changes
pub ease_place : (berth : Option Berth) (w : Way) (here after : BoxState) (place : ℕ) (there : Option ℕ)
    → after.places ≡ slice_set here.places place there → ((b : Berth) → berth ≡ Some b → b.place ≢ place)
    → (of_way after.incoming w).control ≡ (of_way here.incoming w).control → IsEased berth w here after
ease_place berth w here after place there e apart f =
    ease berth w here after (other_place berth here after place there e apart) f

-- what is written for one way leaves the other
pub of_with_other : {A : Type 0} → (both : ByWay A) (v w : Way) (x : A) → (v ≡ w → ⊥)
    → of_way (with_way both v x) w ≡ of_way both w
of_with_other both Up Up x ne = absurd (ne refl)
of_with_other both Up Down x ne = refl
of_with_other both Down Up x ne = refl
of_with_other both Down Down x ne = absurd (ne refl)

-- ---- a train leaves the berth

left_room : (control : Control) → allowed_by control ≤ 1 + allowed_by (left_control control)
left_room (Absolute welwyn.Ready) = omega arith
left_room (Absolute welwyn.Given) = omega arith
left_room (Absolute welwyn.Berthed) = omega arith
left_room (Permissive out) = omega arith

left_fits : (permissive : Option ℕ) (control : Control) → FitsLine permissive control
    → FitsLine permissive (left_control control)
left_fits None (Absolute state) k = tt
left_fits None (Permissive out) k = absurd k
left_fits (Some n) (Absolute state) k = absurd k
left_fits (Some n) (Permissive out) k = omega (arith, k)

emptied : (places : List (Option ℕ)) (i : ℕ) → slice_index_or (slice_set places i None) i None ≡ None
emptied [] i = refl
emptied (x ∷ places) zero = refl
emptied (x ∷ places) (suc i) = emptied places i

left_at : (at : Bool) (b : Berth) (w : Way) (here after : BoxState) (from train : ℕ) → (b.place == from) ≡ at
    → train_on here.places from ≡ Some train → after.places ≡ slice_set here.places from None
    → of_way after.incoming w ≡ line_left (Some b) from (of_way here.incoming w) → IsEased (Some b) w here after
left_at true b w here after from train at there e f =
    let same : b.place ≡ from = eqb-true b.place from at in
    let was : berth_count (Some b) here ≡ 1 =
    ap (λ (n : ℕ). count_of (train_on here.places n)) same ∙ ap count_of there in
    let now : berth_count (Some b) after ≡ 0 =
    ap (λ (places : List (Option ℕ)). count_of (train_on places b.place)) e
    ∙ (ap (λ (n : ℕ). count_of (train_on (slice_set here.places from None) n)) same
    ∙ ap count_of (emptied here.places from)) in
    let line : (of_way after.incoming w).control ≡ left_control (of_way here.incoming w).control =
    ap (λ (x : Incoming). x.control) f
    ∙ ap (λ (is : Bool).
    (cond is (record (of_way here.incoming w) { control = left_control (of_way here.incoming w).control })
    (of_way here.incoming w)).control) at in
    let room = left_room (of_way here.incoming w).control in
    record {
      room = rw line (omega (arith, was, now, room));
      kind =
          λ k. rw line (left_fits b.permissive (of_way here.incoming w).control k);
    }
left_at false b w here after from train at there e f =
    let apart : b.place ≢ from = eqb-false b.place from at in
    let line : (of_way after.incoming w).control ≡ (of_way here.incoming w).control =
    ap (λ (x : Incoming). x.control) f
    ∙ ap (λ (is : Bool).
    (cond is (record (of_way here.incoming w) { control = left_control (of_way here.incoming w).control })
    (of_way here.incoming w)).control) at in
    ease_place (Some b) w here after from None e
    (λ c is. let same : b ≡ c = cc in subst (λ (x : Berth). x.place ≢ from) same apart) line

-- a train leaves a place: where that is the berth, a train less is in it
pub ease_left : (berth : Option Berth) (w : Way) (here after : BoxState) (from train : ℕ)
    → train_on here.places from ≡ Some train → after.places ≡ slice_set here.places from None
    → of_way after.incoming w ≡ line_left berth from (of_way here.incoming w) → IsEased berth w here after
ease_left None w here after from train there e f = ease None w here after refl (ap (λ (x : Incoming). x.control) f)
ease_left (Some b) w here after from train there e f =
    left_at (b.place == from) b w here after from train refl there e f
