-- An arm that a train has passed stays at danger until its lever has been put back and pulled again.
use Rattle.std.proofs.Common.{◌≡◌, ◌≢◌, ℕ, ◌+◌, ◌-◌, ◌<◌, ◌≤◌, List, [], ◌∷◌, ◌++◌, length, Bool, true, false, cond}
use Rattle.std.proofs.Common.{Option, Some, None, ◌⊎◌, inl, inr, IsTrue, refl, sym, ap, subst, ◌∙◌, arith, eqb-true}
use Rattle.std.specs.Prelude.{◌==◌, is_some, slice_index_or, slice_set}
use Rattle.std.proofs.lemmas.Bool.{cases_lt}
use Rattle.std.proofs.lemmas.Bool.Decides.{eqb_tells}
use Rattle.std.proofs.lemmas.List.{get_or_past, get_or-set_other, get_or-set_same, length-set}
use Rattle.block_words.specs.declared.Way.{Way}
use Rattle.locking_table.specs.declared.places.End.{End}
use Rattle.locking_table.specs.declared.places.End.TheVariants as ends
use Rattle.line_plan.specs.Frames.{BoxFields, kind_of, signal_of}
use Rattle.line_plan.specs.Plans.{IsPlan, PlanFields}
use Rattle.line_plan.specs.declared.signal.Signal.{Signal}
use Rattle.line_law.specs.declared.call.Act.{Act}
use Rattle.line_law.specs.declared.call.Act.TheVariants as acts
use Rattle.line_law.specs.declared.call.Entry.{Entry}
use Rattle.line_law.specs.declared.call.Reply.{Reply}
use Rattle.line_law.specs.declared.call.Reply.TheVariants as replies
use Rattle.line_law.specs.declared.state.BoxState.{BoxState}
use Rattle.line_law.specs.declared.state.PairState.{PairState}
use Rattle.line_law.specs.declared.state.Passage.{Passage}
use Rattle.line_law.specs.Arrivals.{next_number, next_train, train_awaited, train_berthed, train_cleared, train_parted}
use Rattle.line_law.specs.Bells.{awaited, heard, rung}
use Rattle.line_law.specs.Decisions.{Decision, Here, OnBlock, OnPlainLine, Told, on_pair, or_later}
use Rattle.line_law.specs.History.{IsLegal, IsLegalFrom, after_entry, state_after, state_of}
use Rattle.line_law.specs.Instruments.{same_position}
use Rattle.line_law.specs.Known.{KnowsCall, knows_act, knows_lever}
use Rattle.line_law.specs.Law.{at_moment, box_plan_of, decide, link_of, pair_of, step}
use Rattle.line_law.specs.LeverEnds.{is_off, is_pulled, is_reversed_end}
use Rattle.line_law.specs.Levers.{is_unspent_clear, lock_refusal, pull_refusal, pulled, pulled_under}
use Rattle.line_law.specs.Levers.{spare_refusal}
use Rattle.line_law.specs.Lines.{ArmsFollow}
use Rattle.line_law.specs.Links.{way_of}
use Rattle.line_law.specs.Outcomes.{Moves, Passes, Overruns, Outcome, Refused, Rings, Hears, AwaitsBell}
use Rattle.line_law.specs.Outcomes.{AwaitsBlock, Pulls, PullsStarter, Puts, GoesTo, GoesAway, Enters}
use Rattle.line_law.specs.Outcomes.{AwaitsTrain, Berths, Parts, Clears}
use Rattle.line_law.specs.Ready.{FitsHere}
use Rattle.line_law.specs.Refusals.{is_refused_here}
use Rattle.line_law.specs.States.{IsStateOf, LineState, box_at, no_state, opening_state, pair_at}
use Rattle.line_law.specs.Trains.{danger_refusal, enter, holds, left_by}
use Rattle.line_law.specs.Ways.{of_way}
use Rattle.line_law.proofs.Found.{both}
use Rattle.line_law.proofs.Histories.{history_states, legal_then, prefix_legal, state_both}
use Rattle.line_law.proofs.Keeping.{known_fits, shape_stays}
use Rattle.line_law.proofs.KeepingLaws.{history_keeps}
use Rattle.line_law.proofs.Left.{other_box}
use Rattle.line_law.proofs.Outcomes.{outcome_of}
use Rattle.line_law.proofs.PlanFacts.{known_lever, signal_lever}
use Rattle.line_law.proofs.Sides.{known_box, known_parts}
use Rattle.train_laws.specs.Arms.{GoesPast, PullsLever, PutsBack, WasPulled, WasPulledAgain, arm_off, lever_reversed}
use Rattle.train_laws.specs.Arms.{moves_past, tells_moved}
use Rattle.train_laws.specs.MayPull.{tells_pulled}

-- ---- arms in a list

-- an arm at danger stays there where one is set to danger
set_danger : (off : List Bool) (i j : ℕ) → slice_index_or off j false ≡ false
    → slice_index_or (slice_set off i false) j false ≡ false
set_danger off i j h = elim (eqb_tells j i) [
  | inl same ↦ elim (cases_lt i (length off)) [
    | inl lt ↦
        subst (λ (k : ℕ). slice_index_or (slice_set off i false) k false ≡ false) (sym same.1)
        (get_or-set_same off i false false lt)
    | inr le ↦
        let n = length-set off i false in
        let e = same.1 in
        get_or_past (slice_set off i false) j false (omega (arith, le, n, e))
  ]
  | inr differ ↦ get_or-set_other off i j false false differ.1 ∙ h
]

-- the arm that is set to danger is there
set_here : (off : List Bool) (i : ℕ) → slice_index_or (slice_set off i false) i false ≡ false
set_here off i = elim (cases_lt i (length off)) [
  | inl lt ↦ get_or-set_same off i false false lt
  | inr le ↦ let n = length-set off i false in get_or_past (slice_set off i false) i false (omega (arith, le, n))
]

-- levers of the frame, which are numbered from 1, that differ, also do as they are counted from 0
counted_apart : (lever other : ℕ) → 1 ≤ lever → 1 ≤ other → other ≢ lever → lever - 1 ≢ other - 1
counted_apart lever other low also ne = λ e. ne (omega (arith, low, also, e))

-- ---- one call in its box

-- What a call does to a lever of its box and the arm: an arm at danger goes off only by a pull; a lever that is
-- reversed becomes normal only as it is put back, and is not pulled.
record Works (lever : ℕ) (here : BoxState) (act : Act) (told : Told PairState) : Type 0 where
  danger : is_off here.off lever ≡ false
      → (is_off told.here.off lever ≡ false) ⊎ ((act ≡ acts.Pull lever) × IsTrue (tells_pulled told.reply))
  stands : is_pulled here.ends lever ≡ true
      → (is_pulled told.here.ends lever ≡ true) ⊎ ((act ≡ acts.Put lever) × (told.reply ≡ replies.Put))
  held : is_pulled here.ends lever ≡ true → act ≡ acts.Pull lever → IsTrue (tells_pulled told.reply) → ⊥

-- a call after which both stand as they stood, and that is no pull
idle : (lever : ℕ) (here : BoxState) (act : Act) (told : Told PairState) → told.here.off ≡ here.off
    → told.here.ends ≡ here.ends → (act ≡ acts.Pull lever → IsTrue (tells_pulled told.reply) → ⊥)
    → Works lever here act told
idle lever here act told off ends none =
    record {
      danger = λ h. inl (ap (λ (l : List Bool). is_off l lever) off ∙ h);
      stands = λ h. inl (ap (λ (l : List End). is_pulled l lever) ends ∙ h);
      held = λ h. none;
    }

-- a call that sets an arm to danger, and that is no pull
lowers : (lever i : ℕ) (here : BoxState) (act : Act) (told : Told PairState)
    → told.here.off ≡ slice_set here.off i false
    → told.here.ends ≡ here.ends → (act ≡ acts.Pull lever → IsTrue (tells_pulled told.reply) → ⊥)
    → Works lever here act told
lowers lever i here act told off ends none =
    record {
      danger = λ h. inl (ap (λ (l : List Bool). is_off l lever) off ∙ set_danger here.off i (lever - 1) h);
      stands = λ h. inl (ap (λ (l : List End). is_pulled l lever) ends ∙ h);
      held = λ h. none;
    }

not_pulled : (reply : Reply) → IsTrue (is_refused_here reply) → IsTrue (tells_pulled reply) → ⊥
not_pulled replies.Pulled h k = absurd cc
not_pulled (replies.PulledUnder v) h k = absurd cc
not_pulled reply h k = absurd cc

-- ---- what most calls leave

told_one : {W : Type 0} (P : BoxState → Type 0) (b : Bool) (x y : Told W) → P x.here → P y.here → P (cond b x y).here
told_one P true x y p q = p
told_one P false x y p q = q

-- the arms and the levers stay
abbrev Same : BoxState → BoxState → Type 0
Same here after = (after.off ≡ here.off) × (after.ends ≡ here.ends)

rung_same : (here : BoxState) (side : Way) (code count : ℕ) (u : Option ℕ) → Same here
    (rung here side code count u).here
rung_same here side code count (Some held) = (refl, refl)
rung_same here side code count None = (refl, refl)

heard_same : (here : BoxState) (count : ℕ) (u : Option ℕ) → Same here (heard here count u).here
heard_same here count (Some code) = (refl, refl)
heard_same here count None = (refl, refl)

awaited_same : (here : BoxState) (code count : ℕ) (u : Option ℕ) → Same here (awaited here code count u).here
awaited_same here code count (Some held) = told_one (Same here) (held == code) _ _ (refl, refl) (refl, refl)
awaited_same here code count None = (refl, refl)

awaits_same : (t : Option ℕ) (here : BoxState) (j : ℕ) (line : List Passage) → Same here
    (train_awaited t here j line).here
awaits_same None here j line = (refl, refl)
awaits_same (Some train) here j line = (refl, refl)

berthed_same : (t : Option ℕ) (here : BoxState) (way : Way) (place j : ℕ) (line : List Passage)
    → Same here (train_berthed t here way place j line).here
berthed_same None here way place j line = (refl, refl)
berthed_same (Some train) here way place j line = (refl, refl)

parted_same : (t : Option ℕ) (here : BoxState) (way : Way) (place j : ℕ) (line : List Passage)
    → Same here (train_parted t here way place j line).here
parted_same None here way place j line = (refl, refl)
parted_same (Some train) here way place j line = (refl, refl)

cleared_same : (t : Option ℕ) (here : BoxState) (way : Way) (j : ℕ) (line : List Passage)
    → Same here (train_cleared t here way j line).here
cleared_same None here way j line = (refl, refl)
cleared_same (Some train) here way j line = (refl, refl)

-- ---- pulls

pull_normal : (bp : BoxFields) (here : BoxState) (lever : ℕ) → pull_refusal bp here lever ≡ None
    → is_pulled here.ends lever ≡ false
pull_normal bp here lever free = go (is_pulled here.ends lever) refl free where
  go : (t : Bool) → is_pulled here.ends lever ≡ t
      → cond t (Some replies.AlreadyReversed) (or_later (spare_refusal (kind_of bp lever))
      (lock_refusal bp here lever)) ≡ None
      → is_pulled here.ends lever ≡ false
  go true e f = absurd cc
  go false e f = e

-- another lever's pull leaves the lever and its arm
pulled_other : (here : BoxState) (lever other : ℕ) (signal : Option Signal) → lever - 1 ≢ other - 1
    → (is_off (pulled here other signal).off lever ≡ is_off here.off lever)
    × (is_pulled (pulled here other signal).ends lever ≡ is_pulled here.ends lever)
pulled_other here lever other None apart =
    (refl, ap is_reversed_end (get_or-set_other here.ends (other - 1) (lever - 1) ends.Reversed ends.Normal apart))
pulled_other here lever other (Some signal) apart = (
  get_or-set_other here.off (other - 1) (lever - 1) true false apart,
  ap is_reversed_end (get_or-set_other here.ends (other - 1) (lever - 1) ends.Reversed ends.Normal apart),
)

-- a pull that was not refused, of the lever or of another
pull_works : (bp : BoxFields) (here : BoxState) (lever other : ℕ) (told : Told PairState) → 1 ≤ lever → 1 ≤ other
    → pull_refusal bp here other ≡ None → told.here ≡ pulled here other (signal_of bp other)
    → IsTrue (tells_pulled told.reply) → Works lever here (acts.Pull other) told
pull_works bp here lever other told low also free at reply = elim (eqb_tells other lever) [
  | inl same ↦
      let normal : is_pulled here.ends lever ≡ false =
      subst (λ (n : ℕ). is_pulled here.ends n ≡ false) same.1 (pull_normal bp here other free) in
      record {
        danger = λ h. inr (ap (λ (n : ℕ). acts.Pull n) same.1, reply);
        stands = λ h. absurd cc;
        held = λ h e r. absurd cc;
      }
  | inr differ ↦
      let stays = pulled_other here lever other (signal_of bp other) (counted_apart lever other low also differ.1) in
      record {
        danger = λ h. inl (ap (λ (x : BoxState). is_off x.off lever) at ∙ stays.0 ∙ h);
        stands = λ h. inl (ap (λ (x : BoxState). is_pulled x.ends lever) at ∙ stays.1 ∙ h);
        held = λ h e r. differ.1 (pulls_one other lever e);
      }
] where
  pulls_one : (m n : ℕ) → acts.Pull m ≡ acts.Pull n → m ≡ n
  pulls_one m n e = cc

put_works : (here : BoxState) (lever other : ℕ) (told : Told PairState) → 1 ≤ lever → 1 ≤ other
    → told.here.off ≡ slice_set here.off (other - 1) false → told.here.ends ≡ slice_set here.ends
    (other - 1) ends.Normal
    → told.reply ≡ replies.Put → Works lever here (acts.Put other) told
put_works here lever other told low also off ends reply =
    record {
      danger = λ h. inl (ap (λ (l : List Bool). is_off l lever) off ∙ set_danger here.off (other - 1) (lever - 1) h);
      stands = λ h. elim (eqb_tells other lever) [
        | inl same ↦ inr (ap (λ (n : ℕ). acts.Put n) same.1, reply)
        | inr differ ↦
            inl (ap (λ (l : List End). is_pulled l lever) ends
            ∙ ap is_reversed_end (get_or-set_other here.ends (other - 1) (lever - 1) _ _
            (counted_apart lever other low also differ.1))
            ∙ h)
      ];
      held = λ h e r. absurd cc;
    }

-- ---- any call of a box

-- a call that leaves arms and levers, and that is no pull
still : (lever : ℕ) (here : BoxState) (act : Act) (told : Told PairState) → Same here told.here
    → (act ≡ acts.Pull lever → ⊥) → Works lever here act told
still lever here act told same none = idle lever here act told same.0 same.1 (λ e r. none e)

no_pull : (bp : BoxFields) (here : BoxState) (n lever : ℕ) (signal : Signal) (act : Act) → Moves here n signal act
    → act ≡ acts.Pull lever → ⊥
no_pull bp here n lever signal act (Passes free) e = cc
no_pull bp here n lever signal act (Overruns free) e = cc

-- a train that goes from a signal leaves the levers, and sets the signal's arm to danger
entered_works : (full : Bool) (bp : BoxFields) (here : BoxState) (lever n : ℕ) (signal : Signal) (act : Act) (v : Way)
    (pair : PairState) (x y : Told (List Passage)) → Moves here n signal act → x.here ≡ here
    → y.here.off ≡ slice_set here.off (signal.lever - 1) false → y.here.ends ≡ here.ends
    → (line : Told (List Passage)) → line ≡ cond full x y
    → (told : Told PairState) → told.here ≡ line.here → Works lever here act told
entered_works true bp here lever n signal act v pair x y moves same off ends line is told at =
    let kept : told.here ≡ here = at ∙ ap (λ (z : Told (List Passage)). z.here) is ∙ same in
    idle lever here act told (ap (λ (z : BoxState). z.off) kept) (ap (λ (z : BoxState). z.ends) kept)
    (λ e r. no_pull bp here n lever signal act moves e)
entered_works false bp here lever n signal act v pair x y moves same off ends line is told at =
    let after : told.here ≡ y.here = at ∙ ap (λ (z : Told (List Passage)). z.here) is in
    lowers lever (signal.lever - 1) here act told (ap (λ (z : BoxState). z.off) after ∙ off)
    (ap (λ (z : BoxState). z.ends) after ∙ ends) (λ e r. no_pull bp here n lever signal act moves e)

starter_works : (clear : Bool) (bp : BoxFields) (here : BoxState) (lever n : ℕ) (way v : Way) (pair : PairState)
    → 1 ≤ lever
    → 1 ≤ n → pull_refusal bp here n ≡ None → is_unspent_clear (of_way pair.blocks v) ≡ clear
    → Works lever here (acts.Pull n) (on_pair v (OnBlock (pulled_under here (pulled here n (signal_of bp n)) way)) pair)
starter_works true bp here lever n way v pair low also free is =
    rw is (pull_works bp here lever n _ low also free refl refl)
starter_works false bp here lever n way v pair low also free is =
    rw is (idle lever here (acts.Pull n) _ refl refl (λ e r. absurd cc))

call_works : (plan : PlanFields) (bp : BoxFields) (here : BoxState) (pair : PairState) (v : Way) (lever : ℕ) (act : Act)
    (d : Decision) → 1 ≤ lever → FitsHere plan bp act → Outcome plan bp here act d
    → Works lever here act (on_pair v d pair)
call_works plan bp here pair v lever act d low fits (Refused a reply refused) =
    idle lever here a (on_pair v (Here reply here) pair) refl refl (λ e r. not_pulled reply refused r)
call_works plan bp here pair v lever act d low fits (Rings side code) =
    still lever here _ _
    (rung_same here side code (of_way pair.bells v).count (of_way pair.bells v).unheard) (λ e. cc)
call_works plan bp here pair v lever act d low fits (Hears side) =
    still lever here _ _ (heard_same here (of_way pair.bells v).count (of_way pair.bells v).unheard)
    (λ e. cc)
call_works plan bp here pair v lever act d low fits (AwaitsBell side code) =
    still lever here _ _
    (awaited_same here code (of_way pair.bells v).count (of_way pair.bells v).unheard) (λ e. cc)
call_works plan bp here pair v lever act d low fits (AwaitsBlock way position) =
    still lever here _ _
    (told_one (Same here) (same_position (of_way pair.blocks v).position position) _ _ (refl, refl) (refl, refl))
    (λ e. cc)
call_works plan bp here pair v lever act d low fits (Pulls n e free) =
    pull_works bp here lever n _ low fits.0 free refl refl
call_works plan bp here pair v lever act d low fits (PullsStarter n way e free) =
    starter_works (is_unspent_clear (of_way pair.blocks v)) bp here lever n way v pair low fits.0 free refl
call_works plan bp here pair v lever act d low fits (Puts n free) =
    put_works here lever n _ low fits.0 refl refl refl
call_works plan bp here pair v lever act d low fits (GoesTo a n signal train place e to there moves) =
    lowers lever (signal.lever - 1) here a _ refl refl (λ f r. no_pull bp here n lever signal a moves f)
call_works plan bp here pair v lever act d low fits (GoesAway a n signal train e to there moves) =
    lowers lever (signal.lever - 1) here a _ refl refl (λ f r. no_pull bp here n lever signal a moves f)
call_works plan bp here pair v lever act d low fits (Enters a n signal train way e to there moves) =
    entered_works (holds (of_way pair.lines v)
    (of_way here.sent way + 1)) bp here lever n signal a v pair _ _ moves refl refl
    refl (enter here (left_by bp here signal) way train (of_way pair.lines v)) refl _ refl
call_works plan bp here pair v lever act d low fits (AwaitsTrain way) =
    still lever here _ _
    (awaits_same (next_train here way (of_way pair.lines v)) here (next_number here way) (of_way pair.lines v))
    (λ e. cc)
call_works plan bp here pair v lever act d low fits (Berths way berth e free) =
    still lever here _ _
    (berthed_same (next_train here way (of_way pair.lines v)) here way berth.place (next_number here way)
    (of_way pair.lines v))
    (λ e. cc)
call_works plan bp here pair v lever act d low fits (Parts way berth e free) =
    still lever here _ _
    (parted_same (next_train here way (of_way pair.lines v)) here way berth.place (next_number here way)
    (of_way pair.lines v))
    (λ e. cc)
call_works plan bp here pair v lever act d low fits (Clears way free) =
    still lever here _ _
    (cleared_same (next_train here way (of_way pair.lines v)) here way (next_number here way) (of_way pair.lines v))
    (λ e. cc)
call_works plan bp here pair v lever act d low fits out = still lever here act _ (refl, refl) (λ e. cc)

-- ---- a train that goes past

-- a train that went past the lever's signal has left the arm at danger
abbrev Lowers : ℕ → Act → Told PairState → Type 0
Lowers lever act told =
    IsTrue (moves_past lever act) → IsTrue (tells_moved told.reply) → is_off told.here.off lever ≡ false

not_moved : (reply : Reply) → IsTrue (is_refused_here reply) → IsTrue (tells_moved reply) → ⊥
not_moved (replies.Passed train) h k = absurd cc
not_moved reply h k = absurd cc

moves_of : (here : BoxState) (n lever : ℕ) (signal : Signal) (act : Act) → Moves here n signal act
    → IsTrue (moves_past lever act) → n ≡ lever
moves_of here n lever signal act (Passes free) h = eqb-true n lever h
moves_of here n lever signal act (Overruns free) h = eqb-true n lever h

-- the arm is that of the lever
arm_here : (bp : BoxFields) (here : BoxState) (off : List Bool) (n lever : ℕ) (signal : Signal) (act : Act)
    → signal_of bp n ≡ Some signal → Moves here n signal act → IsTrue (moves_past lever act)
    → slice_index_or (slice_set off (signal.lever - 1) false) (lever - 1) false ≡ false
arm_here bp here off n lever signal act found moves h =
    let same : signal.lever ≡ lever = signal_lever bp n signal found ∙ moves_of here n lever signal act moves h in
    subst (λ (k : ℕ). slice_index_or (slice_set off (signal.lever - 1) false) (k - 1) false ≡ false) same
    (set_here off (signal.lever - 1))

entered_lowers : (full : Bool) (bp : BoxFields) (here : BoxState) (lever n : ℕ) (signal : Signal) (act : Act)
    (x y : Told (List Passage)) → signal_of bp n ≡ Some signal → Moves here n signal act
    → (IsTrue (tells_moved x.reply) → ⊥) → y.here.off ≡ slice_set here.off (signal.lever - 1) false
    → (told : Told PairState) → told.here ≡ (cond full x y).here → told.reply ≡ (cond full x y).reply
    → Lowers lever act told
entered_lowers true bp here lever n signal act x y found moves full off told at reply h r =
    absurd (full (subst (λ (z : Reply). IsTrue (tells_moved z)) reply r))
entered_lowers false bp here lever n signal act x y found moves full off told at reply h r =
    ap (λ (z : BoxState). is_off z.off lever) at ∙ ap (λ (l : List Bool). is_off l lever) off
    ∙ arm_here bp here here.off n lever signal act found moves h

call_lowers : (plan : PlanFields) (bp : BoxFields) (here : BoxState) (pair : PairState) (v : Way) (lever : ℕ)
    (act : Act)
    (d : Decision) → Outcome plan bp here act d → Lowers lever act (on_pair v d pair)
call_lowers plan bp here pair v lever act d (Refused a reply refused) h r = absurd (not_moved reply refused r)
call_lowers plan bp here pair v lever act d (GoesTo a n signal train place e to there moves) h r =
    arm_here bp here here.off n lever signal a e moves h
call_lowers plan bp here pair v lever act d (GoesAway a n signal train e to there moves) h r =
    arm_here bp here here.off n lever signal a e moves h
call_lowers plan bp here pair v lever act d (Enters a n signal train way e to there moves) h r =
    entered_lowers (holds (of_way pair.lines v) (of_way here.sent way + 1)) bp here lever n signal a _ _ e moves
    (λ f. absurd cc) refl (on_pair v (OnPlainLine (enter here (left_by bp here signal) way train)) pair) refl refl h r
call_lowers plan bp here pair v lever act d out h r = absurd cc

-- a signal that was passed was off
off_before : (off : Bool) (later : Option Reply) → or_later (danger_refusal off) later ≡ None → off ≡ true
off_before true later e = refl
off_before false later e = absurd cc

passes_one : (here : BoxState) (n lever : ℕ) (signal : Signal) (act : Act) → Moves here n signal act
    → act ≡ acts.Pass lever → n ≡ lever
passes_one here n lever signal act (Passes free) e = cc
passes_one here n lever signal act (Overruns free) e = absurd cc

pass_free : (here : BoxState) (n : ℕ) (signal : Signal) (act : Act) → Moves here n signal act → act ≡ acts.Pass n
    → is_off here.off signal.lever ≡ true
pass_free here n signal act (Passes free) e = off_before _ _ free
pass_free here n signal act (Overruns free) e = absurd cc

-- ---- an entry of a line

-- what an entry does to box b's lever and the arm
record EntryWorks (b lever : ℕ) (state : LineState) (e : Entry) (after : LineState) : Type 0 where
  danger : arm_off state b lever ≡ false → (arm_off after b lever ≡ false) ⊎ PullsLever b lever e
  stands : lever_reversed state b lever ≡ true → (lever_reversed after b lever ≡ true) ⊎ PutsBack b lever e
  held : lever_reversed state b lever ≡ true → PullsLever b lever e → ⊥

-- the box that calls, after its call
called : (plan : PlanFields) (state : LineState) (e : Entry) → IsPlan plan → IsStateOf plan state
    → KnowsCall plan e.box_no e.call
    → box_at (after_entry plan state e) e.box_no
    ≡ (on_pair (way_of (link_of (box_plan_of plan e.box_no) e.call.act))
    (decide plan (box_plan_of plan e.box_no) e.call.act (at_moment (box_at state e.box_no) e.call.moment))
    (pair_at state (pair_of plan e.box_no e.call))).here
unfolding step
called plan state e is shape known =
    get_or-set_same state.boxes e.box_no _ no_state
    (let boxes = shape.boxes in let within = known_box plan e.box_no e.call known in omega (arith, boxes, within))

entry_works : (plan : PlanFields) (state : LineState) (b lever : ℕ) (e : Entry) (more : List Entry) → IsPlan plan
    → IsStateOf plan state → 1 ≤ lever → IsLegalFrom plan state (e ∷ more)
    → EntryWorks b lever state e (after_entry plan state e)
unfolding step
entry_works plan state b lever e more is shape low legal = elim (eqb_tells e.box_no b) [
  | inl same ↦
      let bp : BoxFields = box_plan_of plan e.box_no in
      let here : BoxState = at_moment (box_at state e.box_no) e.call.moment in
      let pair : PairState = pair_at state (pair_of plan e.box_no e.call) in
      let v : Way = way_of (link_of bp e.call.act) in
      let works = call_works plan bp here pair v lever e.call.act _ low
      (known_fits plan e.box_no e.call is legal.0.known) (outcome_of plan bp e.call.act here) in
      let at = called plan state e is shape legal.0.known in
      let F : ℕ → Type 0 = λ k. EntryWorks k lever state e (after_entry plan state e) in
      subst F same.1
      (record {
        danger = λ h. elim (works.danger h) [
          | inl d ↦ inl (ap (λ (x : BoxState). is_off x.off lever) at ∙ d)
          | inr p ↦ inr (record {
            box = refl;
            act = p.0;
            reply = subst (λ (r : Reply). IsTrue (tells_pulled r)) (sym legal.1) p.1;
          })
        ];
        stands = λ h. elim (works.stands h) [
          | inl d ↦ inl (ap (λ (x : BoxState). is_pulled x.ends lever) at ∙ d)
          | inr p ↦ inr (record { box = refl; act = p.0; reply = legal.1 ∙ p.1 })
        ];
        held = λ h p. works.held h p.act (subst (λ (r : Reply). IsTrue (tells_pulled r)) legal.1 p.reply);
      })
  | inr differ ↦
      let same = other_box plan state e.box_no b e.call (λ f. differ.1 (sym f)) in
      record {
        danger = λ h. inl (ap (λ (x : BoxState). is_off x.off lever) same ∙ h);
        stands = λ h. inl (ap (λ (x : BoxState). is_pulled x.ends lever) same ∙ h);
        held = λ h p. differ.1 p.box;
      }
]

-- ---- entries of a line

one_pull_more : (b lever : ℕ) (e : Entry) (es : List Entry) → WasPulled b lever es → WasPulled b lever (e ∷ es)
one_pull_more b lever e es h =
    record {
      before = e ∷ h.before;
      pull = h.pull;
      after = h.after;
      split = ap (λ (l : List Entry). e ∷ l) h.split;
      pulled = h.pulled;
    }

one_more : (b lever : ℕ) (e : Entry) (es : List Entry) → WasPulledAgain b lever es → WasPulledAgain b lever (e ∷ es)
one_more b lever e es h =
    record {
      before = e ∷ h.before;
      put = h.put;
      after = h.after;
      split = ap (λ (l : List Entry). e ∷ l) h.split;
      back = h.back;
      again = h.again;
    }

-- an arm at danger goes off only by a pull
pulled_since : (plan : PlanFields) (state : LineState) (b lever : ℕ) (es : List Entry) → IsPlan plan
    → IsStateOf plan state
    → 1 ≤ lever → IsLegalFrom plan state es → arm_off state b lever ≡ false
    → arm_off (state_after plan state es) b lever ≡ true → WasPulled b lever es
pulled_since plan state b lever [] is shape low legal danger off = absurd cc
pulled_since plan state b lever (e ∷ es) is shape low legal danger off =
    elim ((entry_works plan state b lever e es is shape low legal).danger danger) [
      | inl still_there ↦
          one_pull_more b lever e es
          (pulled_since plan (after_entry plan state e) b lever es is (shape_stays plan state e.box_no e.call shape) low
          legal.2 still_there off)
      | inr pulls ↦ record { before = []; pull = e; after = es; split = refl; pulled = pulls }
    ]

-- an arm at danger whose lever is reversed goes off only after that was put back and pulled again
again_since : (plan : PlanFields) (state : LineState) (b lever : ℕ) (es : List Entry) → IsPlan plan
    → IsStateOf plan state
    → 1 ≤ lever → IsLegalFrom plan state es → arm_off state b lever ≡ false → lever_reversed state b lever ≡ true
    → arm_off (state_after plan state es) b lever ≡ true → WasPulledAgain b lever es
again_since plan state b lever [] is shape low legal danger reversed off = absurd cc
again_since plan state b lever (e ∷ es) is shape low legal danger reversed off =
    let works = entry_works plan state b lever e es is shape low legal in
    let next : IsStateOf plan (after_entry plan state e) = shape_stays plan state e.box_no e.call shape in
    elim (works.danger danger) [
      | inl still_there ↦ elim (works.stands reversed) [
        | inl stands ↦
            one_more b lever e es
            (again_since plan (after_entry plan state e) b lever es is next low legal.2 still_there stands off)
        | inr puts ↦ record {
          before = [];
          put = e;
          after = es;
          split = refl;
          back = puts;
          again = pulled_since plan (after_entry plan state e) b lever es is next low legal.2 still_there off;
        }
      ]
      | inr pulls ↦ absurd (works.held reversed pulls)
    ]

-- ---- after a train

-- the lever of a call by which a train goes past is one of the frame
lever_counted : (plan : PlanFields) (b lever : ℕ) (act : Act) → IsPlan plan → b < length plan.boxes
    → IsTrue (knows_act plan b act) → IsTrue (moves_past lever act) → 1 ≤ lever
lever_counted plan b lever (acts.Pass n) is within known h =
    let lever_known = (both (knows_lever plan b n) (is_some (signal_of (box_plan_of plan b) n)) known).0 in
    let counted = known_lever (length plan.boxes) b (box_plan_of plan b) n (is.each b within) lever_known in
    subst (λ (k : ℕ). 1 ≤ k) (eqb-true n lever h) counted.0
lever_counted plan b lever (acts.Overrun n) is within known h =
    let lever_known = (both (knows_lever plan b n) (is_some (signal_of (box_plan_of plan b) n)) known).0 in
    let counted = known_lever (length plan.boxes) b (box_plan_of plan b) n (is.each b within) lever_known in
    subst (λ (k : ℕ). 1 ≤ k) (eqb-true n lever h) counted.0
lever_counted plan b lever act is within known h = absurd cc

counts_lever : (plan : PlanFields) (b lever : ℕ) (e : Entry) → IsPlan plan → KnowsCall plan e.box_no e.call
    → GoesPast b lever e → 1 ≤ lever
counts_lever plan b lever e is known past =
    let parts = known_parts plan e.box_no e.call known in
    lever_counted plan e.box_no lever e.call.act is parts.box parts.act past.act

-- right after it the arm is at danger
lowered : (plan : PlanFields) (state : LineState) (b lever : ℕ) (e : Entry) (more : List Entry) → IsPlan plan
    → IsStateOf plan state → IsLegalFrom plan state (e ∷ more) → GoesPast b lever e
    → arm_off (after_entry plan state e) b lever ≡ false
unfolding step
lowered plan state b lever e more is shape legal past =
    let bp : BoxFields = box_plan_of plan e.box_no in
    let here : BoxState = at_moment (box_at state e.box_no) e.call.moment in
    let pair : PairState = pair_at state (pair_of plan e.box_no e.call) in
    let v : Way = way_of (link_of bp e.call.act) in
    let danger = call_lowers plan bp here pair v lever e.call.act _ (outcome_of plan bp e.call.act here) past.act
    (subst (λ (r : Reply). IsTrue (tells_moved r)) legal.1 past.reply) in
    let at = called plan state e is shape legal.0.known in
    subst (λ (k : ℕ). arm_off (after_entry plan state e) k lever ≡ false) past.box
    (ap (λ (x : BoxState). is_off x.off lever) at ∙ danger)

-- the lever of a train that goes past stays as it stood
kept_reversed : (plan : PlanFields) (state : LineState) (b lever : ℕ) (e : Entry) (more : List Entry) → IsPlan plan
    → IsStateOf plan state → IsLegalFrom plan state (e ∷ more) → GoesPast b lever e
    → lever_reversed state b lever ≡ true
    → lever_reversed (after_entry plan state e) b lever ≡ true
kept_reversed plan state b lever e more is shape legal past reversed =
    let low = counts_lever plan b lever e is legal.0.known past in
    elim ((entry_works plan state b lever e more is shape low legal).stands reversed) [
      | inl stands ↦ stands
      | inr puts ↦ absurd (no_put e.call.act past.act puts.act)
    ] where
      no_put : (act : Act) → IsTrue (moves_past lever act) → act ≡ acts.Put lever → ⊥
      no_put act h f = let g : IsTrue (moves_past lever (acts.Put lever)) = subst (λ (x : Act). IsTrue
          (moves_past lever x)) f h in cc

by_arm : (bp : BoxFields) (here : BoxState) (n lever : ℕ) (signal : Signal) (act : Act) → signal_of bp n ≡ Some signal
    → Moves here n signal act → act ≡ acts.Pass lever → ArmsFollow here → is_pulled here.ends lever ≡ true
by_arm bp here n lever signal act found moves e arms =
    let one : n ≡ lever = passes_one here n lever signal act moves e in
    let same : signal.lever ≡ lever = signal_lever bp n signal found ∙ one in
    let free = pass_free here n signal act moves (e ∙ ap (λ (k : ℕ). acts.Pass k) (sym one)) in
    arms lever (subst (λ (k : ℕ). is_off here.off k ≡ true) same free)

-- a passed signal had its lever reversed
pass_reversed : (plan : PlanFields) (bp : BoxFields) (here : BoxState) (pair : PairState) (v : Way) (lever : ℕ)
    (act : Act)
    (d : Decision) → Outcome plan bp here act d → act ≡ acts.Pass lever → IsTrue (tells_moved (on_pair v d pair).reply)
    → ArmsFollow here → is_pulled here.ends lever ≡ true
pass_reversed plan bp here pair v lever act d (Refused a reply refused) e r arms = absurd (not_moved reply refused r)
pass_reversed plan bp here pair v lever act d (GoesTo a n signal train place is to there moves) e r arms =
    by_arm bp here n lever signal a is moves e arms
pass_reversed plan bp here pair v lever act d (GoesAway a n signal train is to there moves) e r arms =
    by_arm bp here n lever signal a is moves e arms
pass_reversed plan bp here pair v lever act d (Enters a n signal train way is to there moves) e r arms =
    by_arm bp here n lever signal a is moves e arms
pass_reversed plan bp here pair v lever act d out e r arms = absurd cc

-- ---- the laws

-- a train that goes past a signal leaves its arm at danger
pub at_danger : (plan : PlanFields) (es : List Entry) (e : Entry) (b lever : ℕ) → IsPlan plan
    → IsLegal plan (es ++ e ∷ [])
    → GoesPast b lever e → arm_off (state_of plan (es ++ e ∷ [])) b lever ≡ false
at_danger plan es e b lever is legal past =
    ap (λ (s : LineState). arm_off s b lever) (state_both plan (opening_state plan) es (e ∷ []))
    ∙ lowered plan (state_of plan es) b lever e [] is (history_states plan es)
    (legal_then plan (opening_state plan) es (e ∷ []) legal) past

-- an arm that is off again was pulled since the train went past
pub stays_at_danger : (plan : PlanFields) (es between : List Entry) (e : Entry) (b lever : ℕ) → IsPlan plan
    → IsLegal plan (es ++ e ∷ between) → GoesPast b lever e
    → arm_off (state_of plan (es ++ e ∷ between)) b lever ≡ true → WasPulled b lever between
stays_at_danger plan es between e b lever is legal past off =
    let state : LineState = state_of plan es in
    let rest = legal_then plan (opening_state plan) es (e ∷ between) legal in
    let shape = history_states plan es in
    let last = sym (ap (λ (s : LineState). arm_off s b lever) (state_both plan (opening_state plan) es
    (e ∷ between))) ∙ off in
    pulled_since plan (after_entry plan state e) b lever between is (shape_stays plan state e.box_no e.call shape)
    (counts_lever plan b lever e is rest.0.known past) rest.2
    (lowered plan state b lever e between is shape rest past) last

-- where its lever was reversed, the lever was put back and pulled again since
pub put_back_first : (plan : PlanFields) (es between : List Entry) (e : Entry) (b lever : ℕ) → IsPlan plan
    → IsLegal plan (es ++ e ∷ between) → GoesPast b lever e → lever_reversed (state_of plan es) b lever ≡ true
    → arm_off (state_of plan (es ++ e ∷ between)) b lever ≡ true → WasPulledAgain b lever between
put_back_first plan es between e b lever is legal past reversed off =
    let state : LineState = state_of plan es in
    let rest = legal_then plan (opening_state plan) es (e ∷ between) legal in
    let shape = history_states plan es in
    let last = sym (ap (λ (s : LineState). arm_off s b lever) (state_both plan (opening_state plan) es
    (e ∷ between))) ∙ off in
    again_since plan (after_entry plan state e) b lever between is (shape_stays plan state e.box_no e.call shape)
    (counts_lever plan b lever e is rest.0.known past) rest.2
    (lowered plan state b lever e between is shape rest past)
    (kept_reversed plan state b lever e between is shape rest past reversed) last

pub passed_reversed : (plan : PlanFields) (es more : List Entry) (e : Entry) (b lever : ℕ) → IsPlan plan
    → IsLegal plan (es ++ e ∷ more) → GoesPast b lever e → e.call.act ≡ acts.Pass lever
    → lever_reversed (state_of plan es) b lever ≡ true
unfolding step
passed_reversed plan es more e b lever is legal past act =
    let state : LineState = state_of plan es in
    let rest = legal_then plan (opening_state plan) es (e ∷ more) legal in
    let before = prefix_legal plan es (e ∷ more) legal in
    let bp : BoxFields = box_plan_of plan e.box_no in
    let here : BoxState = at_moment (box_at state e.box_no) e.call.moment in
    let pair : PairState = pair_at state (pair_of plan e.box_no e.call) in
    let arms : ArmsFollow (box_at state e.box_no) =
    ((history_keeps plan es is before).boxes e.box_no (known_box plan e.box_no e.call rest.0.known)).arms in
    subst (λ (k : ℕ). lever_reversed state k lever ≡ true) past.box
    (pass_reversed plan bp here pair (way_of (link_of bp e.call.act)) lever e.call.act _
    (outcome_of plan bp e.call.act here) act (subst (λ (r : Reply). IsTrue (tells_moved r)) rest.1 past.reply) arms)

-- where the train passed the signal, the lever was put back and pulled again since
pub passed_again : (plan : PlanFields) (es between : List Entry) (e : Entry) (b lever : ℕ) → IsPlan plan
    → IsLegal plan (es ++ e ∷ between) → GoesPast b lever e → e.call.act ≡ acts.Pass lever
    → arm_off (state_of plan (es ++ e ∷ between)) b lever ≡ true → WasPulledAgain b lever between
passed_again plan es between e b lever is legal past act off =
    put_back_first plan es between e b lever is legal past
    (passed_reversed plan es between e b lever is legal past act) off
