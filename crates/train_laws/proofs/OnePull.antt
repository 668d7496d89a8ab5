-- A starter is pulled once under one Line Clear.
use Rattle.std.proofs.Common.{ℕ, ◌+◌, ◌≡◌, ◌<◌, List, [], ◌∷◌, ◌++◌, length, Bool, true, false, cond, Option, Some}
use Rattle.std.proofs.Common.{None, ◌⊎◌, inl, inr, IsTrue, refl, sym, ap, subst, ◌∙◌, arith}
use Rattle.std.specs.Prelude.{◌&&◌, not}
use Rattle.block_words.specs.declared.Way.{Way}
use Rattle.line_plan.specs.Frames.{BoxFields, kind_of, signal_of, track_of}
use Rattle.line_plan.specs.Plans.{IsPlan, PlanFields}
use Rattle.line_plan.specs.Sections.{IsSection, advance_of}
use Rattle.line_plan.specs.declared.frame.Kind.{Kind}
use Rattle.line_plan.specs.declared.frame.Kind.TheVariants as kinds
use Rattle.line_plan.specs.declared.section.Section.{Section}
use Rattle.locking_table.specs.Meaning.{holder_of}
use Rattle.locking_table.specs.declared.row.Holder.{Holder}
use Rattle.line_law.specs.declared.call.Act.{Act}
use Rattle.line_law.specs.declared.call.Act.TheVariants as acts
use Rattle.line_law.specs.declared.call.Call.{Call}
use Rattle.line_law.specs.declared.call.Entry.{Entry}
use Rattle.line_law.specs.declared.call.Reply.{Reply}
use Rattle.line_law.specs.declared.call.Reply.TheVariants as replies
use Rattle.line_law.specs.declared.link.Link.TheVariants.{Out}
use Rattle.line_law.specs.declared.state.Block.{Block}
use Rattle.line_law.specs.declared.state.BoxState.{BoxState}
use Rattle.line_law.specs.declared.state.Passage.{Passage}
use Rattle.line_law.specs.declared.tracks.Standing.{Standing}
use Rattle.line_law.specs.Decisions.{Told, Decision, Here, OnBell, OnBlock, OnPlainLine, or_later, unless}
use Rattle.line_law.specs.History.{IsLegal, IsLegalFrom, after_entry}
use Rattle.line_law.specs.Instruments.{same_position}
use Rattle.line_law.specs.Law.{at_moment, decide, link_of, box_plan_of}
use Rattle.line_law.specs.Levers.{is_unspent_clear, lock_refusal, pull_at, pull_refusal, pulled, pulled_under}
use Rattle.line_law.specs.Levers.{row_refusal, spare_refusal, starter_link, starter_way, track_refusal}
use Rattle.line_law.specs.Outcomes.{Outcome, Turns, AwaitsBlock, PullsStarter}
use Rattle.train_laws.specs.Pulls.{PullsUnder, is_starter_pull}
use Rattle.line_law.specs.States.{IsStateOf, LineState, opening_state}
use Rattle.line_law.specs.LeverEnds.{is_pulled}
use Rattle.line_law.specs.Tracks.{first_standing}
use Rattle.train_laws.proofs.GuardedSections.{told_either}
use Rattle.line_law.proofs.Keeping.{shape_stays}
use Rattle.line_law.proofs.Opens.{opening_shape}
use Rattle.train_laws.proofs.SectionReplies.{Leads, ThenElsewhere, ThenOwn, step_leads}
use Rattle.line_law.proofs.SectionSteps.{has_boxes}
use Rattle.line_law.specs.SectionFacts.{Fact, Holds, decided}
use Rattle.line_law.specs.declared.state.Bell.{Bell}
use Rattle.line_law.proofs.Outcomes.{outcome_of}
use Rattle.train_laws.proofs.StarterFacts.{way_is}

-- the Line Clear of the v-th turn is spent
abbrev IsPast : ℕ → Block → Type 0
IsPast v block = (v < block.turns) ⊎ ((v ≡ block.turns) × (block.spent ≡ true))

-- ---- every call keeps it

elsewhere_const : (d : Decision) (P : Type 0) → P → ThenElsewhere d (λ reply h. P)
elsewhere_const (Here reply here) P p = p
elsewhere_const (OnBell act) P p = λ x. p
elsewhere_const (OnBlock act) P p = λ x. p
elsewhere_const (OnPlainLine act) P p = λ x. p

spent_past : (v : ℕ) (block : Block) → IsPast v block
    → (let after : Block = record block { spent = true } in IsPast v after)
spent_past v block (inl less) = inl less
spent_past v block (inr same) = inr (same.0, refl)

turned_past : (v : ℕ) (block : Block) → IsPast v block → v < block.turns + 1
turned_past v block (inl less) = omega (arith, less)
turned_past v block (inr same) = let e = same.0 in omega (arith, e)

own_past : (v : ℕ) (plan : PlanFields) (box_plan : BoxFields) (here : BoxState) (act : Act) (d : Decision) (l : Bell)
    (k : Block) (t : List Passage) → Outcome plan box_plan here act d → IsPast v k
    → ThenOwn d (λ reply h l k t. IsPast v k) l k t
own_past v plan box_plan here a d l k t (Turns way position berth at free) past = inl (turned_past v k past)
own_past v plan box_plan here a d l k t (AwaitsBlock way position) past =
    told_either (same_position k.position position) _ _ (λ (told : Told Block). IsPast v told.word) past past
own_past v plan box_plan here a d l k t (PullsStarter lever way starts free) past =
    told_either (is_unspent_clear k) _ _ (λ (told : Told Block). IsPast v told.word) (spent_past v k past)
    (spent_past v k past)
own_past v plan box_plan here a d l k t out past = past

-- ---- a pull under Line Clear

-- a reply of a starter's pull: where it was pulled, its instrument was at that turn unspent, and is spent at it
record IsUnder (before : Block) (reply : Reply) (after : Block) : Type 0 where
  turns : (u : ℕ) → reply ≡ replies.PulledUnder u → u ≡ before.turns
  unspent : (u : ℕ) → reply ≡ replies.PulledUnder u → before.spent ≡ false
  same : after.turns ≡ before.turns
  spent : (u : ℕ) → reply ≡ replies.PulledUnder u → after.spent ≡ true

no_spare : (kind : Option Kind) (u : ℕ) → spare_refusal kind ≡ Some (replies.PulledUnder u) → ⊥
no_spare None u e = cc
no_spare (Some kinds.Signal) u e = cc
no_spare (Some kinds.Points) u e = cc
no_spare (Some kinds.Lock) u e = cc
no_spare (Some kinds.Distant) u e = cc
no_spare (Some kinds.Spare) u e = cc

no_row : (holder : Option Holder) (u : ℕ) → row_refusal holder ≡ Some (replies.PulledUnder u) → ⊥
no_row None u e = cc
no_row (Some holder) u e = cc

no_track : (there : Option Standing) (u : ℕ) → track_refusal there ≡ Some (replies.PulledUnder u) → ⊥
no_track None u e = cc
no_track (Some there) u e = cc

no_either : (first later : Option Reply) (u : ℕ) → (first ≡ Some (replies.PulledUnder u) → ⊥)
    → (later ≡ Some (replies.PulledUnder u) → ⊥) → or_later first later ≡ Some (replies.PulledUnder u) → ⊥
no_either (Some reply) later u f g e = f e
no_either None later u f g e = g e

no_reversed : (there : Bool) (later : Option Reply) (u : ℕ) → (later ≡ Some (replies.PulledUnder u) → ⊥)
    → cond there (Some replies.AlreadyReversed) later ≡ Some (replies.PulledUnder u) → ⊥
no_reversed true later u f e = cc
no_reversed false later u f e = f e

-- a pull that is refused in the box tells no turn
no_refusal : (box_plan : BoxFields) (here : BoxState) (lever u : ℕ)
    → pull_refusal box_plan here lever ≡ Some (replies.PulledUnder u) → ⊥
no_refusal box_plan here lever u e =
    no_reversed (is_pulled here.ends lever)
    (or_later (spare_refusal (kind_of box_plan lever)) (lock_refusal box_plan here lever)) u
    (no_either (spare_refusal (kind_of box_plan lever)) (lock_refusal box_plan here lever) u
    (no_spare (kind_of box_plan lever) u)
    (no_either (row_refusal (holder_of here.ends lever box_plan.rows)) _ u
    (no_row (holder_of here.ends lever box_plan.rows) u)
    (no_track (first_standing here.places (track_of box_plan lever)) u))) e

and_not : (a b : Bool) → (a && not b) ≡ true → b ≡ false
and_not true true e = cc
and_not true false e = refl
and_not false b e = absurd cc

reached : (ok : Bool) (here after : BoxState) (way : Way) (k : Block) → is_unspent_clear k ≡ ok
    → IsUnder k (pulled_under here after way k).reply (pulled_under here after way k).word
reached true here after way k e =
    rw e (record { turns = λ u f. cc; unspent = λ u f. and_not _ k.spent e; same = refl; spent = λ u f. refl })
reached false here after way k e =
    rw e (record { turns = λ u f. absurd cc; unspent = λ u f. absurd cc; same = refl; spent = λ u f. refl })

pull_by : (refusal : Option Reply) (box_plan : BoxFields) (here after : BoxState) (way : Way) (l : Bell) (k : Block)
    (t : List Passage) → ((u : ℕ) → refusal ≡ Some (replies.PulledUnder u) → ⊥)
    → ThenOwn (unless refusal here (pull_at here after (Some way))) (λ reply h l k' t. IsUnder k reply k') l k t
pull_by (Some reply) box_plan here after way l k t no_under =
    record {
      turns = λ u e. absurd (no_under u (ap (λ (x : Reply). Some x) e));
      unspent =
          λ u e. absurd (no_under u (ap (λ (x : Reply). Some x) e));
      same = refl;
      spent =
          λ u e. absurd (no_under u (ap (λ (x : Reply). Some x) e));
    }
pull_by None box_plan here after way l k t no_under = reached (is_unspent_clear k) here after way k refl

starter_pull : (plan : PlanFields) (section : Section) (act : Act) → IsTrue (is_starter_pull plan section act)
    → (lever : ℕ) × (act ≡ acts.Pull lever)
    × (starter_way (signal_of (box_plan_of plan section.rear) lever) ≡ Some section.way)
starter_pull plan section (acts.Pull lever) h =
    (lever, refl, way_is section.way (starter_way (signal_of (box_plan_of plan section.rear) lever)) h)
starter_pull plan section act h = absurd cc

-- what the pull of the section's starter does to its instrument
pull_under : (plan : PlanFields) (section : Section) (act : Act) (here : BoxState) (l : Bell) (k : Block)
    (t : List Passage) → IsTrue (is_starter_pull plan section act)
    → ThenOwn (decide plan (box_plan_of plan section.rear) act here) (λ reply h l k' t. IsUnder k reply k') l k t
pull_under plan section act here l k t pulls =
    let found = starter_pull plan section act pulls in
    let lever : ℕ = found.0 in
    let box_plan : BoxFields = box_plan_of plan section.rear in
    let after : BoxState = pulled here lever (signal_of box_plan lever) in
    subst (λ (x : Act). ThenOwn (decide plan box_plan x here) (λ reply h l k' t. IsUnder k reply k') l k t)
    (sym found.1)
    (subst (λ (o : Option Way). ThenOwn (unless (pull_refusal box_plan here lever) here (pull_at here after o))
    (λ reply h l k' t. IsUnder k reply k') l k t) (sym found.2)
    (pull_by (pull_refusal box_plan here lever) box_plan here after section.way l k t
    (λ u. no_refusal box_plan here lever u)))

pull_line : (plan : PlanFields) (section : Section) (act : Act) → IsTrue (is_starter_pull plan section act)
    → link_of (box_plan_of plan section.rear) act ≡ Out section.way
pull_line plan section act pulls =
    let found = starter_pull plan section act pulls in
    ap (λ (x : Act). link_of (box_plan_of plan section.rear) x) found.1 ∙ ap starter_link found.2

own_then : (d : Decision) (P Q : Reply → BoxState → Bell → Block → List Passage → Type 0) (l : Bell) (k : Block)
    (t : List Passage)
    → ((reply : Reply) (h : BoxState) (l : Bell) (k : Block) (t : List Passage) → P reply h l k t → Q reply h l k t)
    → ThenOwn d P l k t → ThenOwn d Q l k t
own_then (Here reply here) P Q l k t f p = f reply here l k t p
own_then (OnBell act) P Q l k t f p = f _ _ _ k t p
own_then (OnBlock act) P Q l k t f p = f _ _ l _ t p
own_then (OnPlainLine act) P Q l k t f p = f _ _ l k _ p

-- ---- one call

-- the Line Clear of the v-th turn is spent in a state
abbrev IsPastIn : ℕ → LineState → Section → Type 0
IsPastIn v s section = Holds (λ r a l k t. IsPast v k) s section

past_leads : (v : ℕ) (plan : PlanFields) (b : ℕ) (section : Section) (call : Call)
    → Leads (λ r a l k t. IsPast v k) (λ b reply r a l k t. IsPast v k) plan b section call
past_leads v plan b section call =
    let r : ℕ = section.rear in
    let a : ℕ = advance_of section in
    record {
      rear_own =
          λ here line rear advance l k t past. own_past v plan (box_plan_of plan r) (at_moment rear call.moment)
          call.act _ l k t (outcome_of plan (box_plan_of plan r) call.act (at_moment rear call.moment)) past;
      rear_off = λ here line rear advance l k t past. elsewhere_const (decided plan r call rear) (IsPast v k) past;
      advance_own =
          λ here line rear advance l k t past. own_past v plan (box_plan_of plan a) (at_moment advance call.moment)
          call.act _ l k t (outcome_of plan (box_plan_of plan a) call.act (at_moment advance call.moment)) past;
      advance_off =
          λ here line rear advance l k t past. elsewhere_const (decided plan a call advance) (IsPast v k) past;
      third = λ nr na reply rear advance l k t past. past;
    }

later_turn : (v u : ℕ) (before after : Block) (reply : Reply) → IsUnder before reply after → IsPast v before
    → reply ≡ replies.PulledUnder u → v < u
later_turn v u before after reply under (inl less) e = let turns = under.turns u e in omega (arith, turns, less)
later_turn v u before after reply under (inr same) e = let unspent = under.unspent u e in let spent =
    same.1 in absurd cc

now_past : (v : ℕ) (before after : Block) (reply : Reply) → IsUnder before reply after → reply ≡ replies.PulledUnder v
    → IsPast v after
now_past v before after reply under e = inr (under.turns v e ∙ sym under.same, under.spent v e)

-- where a pull of the section's starter leads, by what it does to its instrument
starter_leads : (Q : Fact) (After : Reply → Block → Type 0) (plan : PlanFields) (section : Section) (b : ℕ)
    (call : Call) → IsSection plan section → b ≡ section.rear → IsTrue (is_starter_pull plan section call.act)
    → ((r a : BoxState) (l : Bell) (k k' : Block) (t : List Passage) (reply : Reply) → Q r a l k t → IsUnder k reply k'
    → After reply k') → Leads Q (λ b reply r a l k t. After reply k) plan b section call
starter_leads Q After plan section b call is mine pulls told =
    let apart = (has_boxes (length plan.boxes) section.rear section.way is).two in
    record {
      rear_own = λ here line rear advance l k t q.
          own_then (decided plan section.rear call rear) (λ reply h l k' t. IsUnder k reply k')
          (λ reply h l k' t. After reply k') l k t
          (λ reply h m k' u under. told rear advance l k k' t reply q under)
          (pull_under plan section call.act (at_moment rear call.moment) l k t pulls);
      rear_off = λ here off rear advance l k t q. absurd (off (pull_line plan section call.act pulls));
      advance_own = λ here line rear advance l k t q. absurd (apart (sym mine ∙ here));
      advance_off = λ here off rear advance l k t q. absurd (apart (sym mine ∙ here));
      third = λ nr na reply rear advance l k t q. absurd (nr mine);
    }

-- ---- a history

later_pull : (plan : PlanFields) (section : Section) (v u : ℕ) (between more : List Entry) (f : Entry) (s : LineState)
    → IsPlan plan → IsSection plan section → IsStateOf plan s → IsLegalFrom plan s (between ++ f ∷ more)
    → PullsUnder plan section u f
    → IsPastIn v s section → v < u
later_pull plan section v u [] more f s sound is shape legal pulled past =
    step_leads _ _ plan s f.box_no section f.call sound shape is legal.0.known
    (starter_leads (λ r a l k t. IsPast v k) (λ reply k. (u : ℕ) → reply ≡ replies.PulledUnder u → v < u) plan section
    f.box_no f.call is pulled.box pulled.starter
    (λ r a l k k' t reply past under u e. later_turn v u k k' reply under past e))
    past u (sym legal.1 ∙ pulled.reply)
later_pull plan section v u (e ∷ between) more f s sound is shape legal pulled past =
    later_pull plan section v u between more f (after_entry plan s e) sound is
    (shape_stays plan s e.box_no e.call shape) legal.2 pulled
    (step_leads _ _ plan s e.box_no section e.call sound shape is legal.0.known
    (past_leads v plan e.box_no section e.call) past)

two_pulls : (plan : PlanFields) (section : Section) (v u : ℕ) (es between more : List Entry) (e f : Entry)
    (s : LineState) → IsPlan plan → IsSection plan section → IsStateOf plan s
    → IsLegalFrom plan s (es ++ e ∷ (between ++ f ∷ more)) → PullsUnder plan section v e → PullsUnder plan section u f
    → v < u
two_pulls plan section v u [] between more e f s sound is shape legal first second =
    later_pull plan section v u between more f (after_entry plan s e) sound is
    (shape_stays plan s e.box_no e.call shape) legal.2 second
    (step_leads _ _ plan s e.box_no section e.call sound shape is legal.0.known
    (starter_leads (λ r a l k t. Unit {0}) (λ reply k. reply ≡ replies.PulledUnder v → IsPast v k) plan section e.box_no
    e.call is first.box first.starter (λ r a l k k' t reply any under e. now_past v k k' reply under e))
    tt (sym legal.1 ∙ first.reply))
two_pulls plan section v u (x ∷ es) between more e f s sound is shape legal first second =
    two_pulls plan section v u es between more e f (after_entry plan s x) sound is
    (shape_stays plan s x.box_no x.call shape) legal.2 first second

-- of two pulls of a starter the later tells the later turn
pub one_pull : (plan : PlanFields) (es between more : List Entry) (e f : Entry) (section : Section) (v u : ℕ)
    → IsPlan plan → IsSection plan section → IsLegal plan (es ++ e ∷ (between ++ f ∷ more))
    → PullsUnder plan section v e → PullsUnder plan section u f → v < u
one_pull plan es between more e f section v u sound is legal first second =
    two_pulls plan section v u es between more e f (opening_state plan) sound is (opening_shape plan) legal first second
