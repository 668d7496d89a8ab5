-- The line of a train of a legal journal begins with its bringing: a train that isn't on the line does nothing before it
-- is brought.
use Rattle.std.proofs.Common.{◌≡◌, ◌≢◌, ◌∙◌, ℕ, zero, suc, ◌+◌, ◌-◌, Bool, true, false, cond, IsTrue, List, []}
use Rattle.std.proofs.Common.{◌∷◌, ◌++◌, Option, Some, None, ◌⊎◌, inl, inr, get_or, set, map, length}
use Rattle.std.proofs.Common.{replicate, drop, refl, ap, sym, subst, eqb}
use Rattle.std.proofs.lemmas.Bool.Decides.{eqb_tells}
use Rattle.std.specs.Prelude.{option_to_list}
use Rattle.block_words.specs.declared.Way.{Way}
use Rattle.block_words.specs.declared.Way.TheVariants.{Up, Down}
use Rattle.line_plan.specs.Frames.{BoxFields, berth_of, signal_of}
use Rattle.line_plan.specs.Plans.{PlanFields, is_train, train_at}
use Rattle.line_plan.specs.declared.berth.Berth.{Berth}
use Rattle.line_plan.specs.declared.signal.Signal.{Signal}
use Rattle.line_law.specs.declared.call.Act.{Act}
use Rattle.line_law.specs.declared.call.Act.TheVariants as acts
use Rattle.line_law.specs.declared.call.Call.{Call}
use Rattle.line_law.specs.declared.call.Entry.{Entry}
use Rattle.line_law.specs.declared.call.Reply.{Reply}
use Rattle.line_law.specs.declared.call.Reply.TheVariants as replies
use Rattle.line_law.specs.declared.state.Bell.{Bell}
use Rattle.line_law.specs.declared.state.Block.{Block}
use Rattle.line_law.specs.declared.state.BoxState.{BoxState}
use Rattle.line_law.specs.declared.state.PairState.{PairState}
use Rattle.line_law.specs.declared.state.Passage.{Passage}
use Rattle.line_law.specs.declared.ways.ByWay.{ByWay}
use Rattle.line_law.specs.Arrivals.{first_train, next_number}
use Rattle.line_law.specs.Arrivals.{next_train, train_awaited, train_berthed, train_cleared, train_parted}
use Rattle.line_law.specs.Bells.{await_bell, awaited, hear, heard, ring, rung}
use Rattle.line_law.specs.Decisions.{Decision, Here, OnBell, OnBlock, OnPlainLine, Told, on_pair}
use Rattle.line_law.specs.History.{IsLegal, IsLegalFrom, after_entry}
use Rattle.line_law.specs.Instruments.{await_block, same_position, turned}
use Rattle.line_law.specs.Law.{at_moment, box_plan_of, decide, link_of, pair_of, step}
use Rattle.line_law.specs.Controls.{released_here, wound_here}
use Rattle.line_law.specs.Levers.{is_unspent_clear, pulled, pulled_under, put_back}
use Rattle.line_law.specs.Links.{way_of}
use Rattle.line_law.specs.Outcomes.{Outcome, Moves, Passes, Overruns, Refused, Rings, Hears, AwaitsBell, Turns}
use Rattle.line_law.specs.Outcomes.{AwaitsBlock, Pulls, PullsStarter, Puts, Brings, GoesTo, GoesAway, Enters}
use Rattle.line_law.specs.Outcomes.{AwaitsTrain, Berths, Parts, Clears, Winds, Releases}
use Rattle.line_law.specs.Refusals.{is_refused_here}
use Rattle.line_law.specs.States.{LineState, box_at, no_state, opening_box, opening_pair, opening_state, pair_at}
use Rattle.line_law.specs.Tracks.{train_on}
use Rattle.line_law.specs.Trains.{brought_here, enter, holds, left_by, put_at}
use Rattle.line_law.specs.Ways.{of_way, with_way}
use Rattle.line_law.specs.Known.{knows_act}
use Rattle.line_law.proofs.Found.{both}
use Rattle.line_law.proofs.Outcomes.{outcome_of}
use Rattle.line_law.proofs.Sides.{known_parts}
use Rattle.graph_scene.specs.declared.deeds.Deed.{Deed}
use Rattle.graph_scene.specs.declared.deeds.Deed.TheVariants as deeds
use Rattle.graph_scene.specs.declared.deeds.TrainDeed.{TrainDeed}
use Rattle.graph_scene.specs.Deeds.{Done, berthed, berthed_at, brought, cleared, deed_at, deeds_from, deeds_of}
use Rattle.graph_scene.specs.Deeds.{done_by, gone, gone_past, went_past}
use Rattle.graph_scene.specs.Lines.{IsBringing, deeds_by, line_of}

-- ---- where a train is

-- the train stands at a place of the box
abbrev IsAt : BoxState → ℕ → Type 0
IsAt here t = (place : ℕ) × (train_on here.places place ≡ Some t)

-- the train is on the plain line
abbrev IsOn : List Passage → ℕ → Type 0
IsOn [] t = ⊥
IsOn (first ∷ later) t = (first.train ≡ t) ⊎ IsOn later t

-- it is there, or in a box beside it
abbrev IsBeside : BoxState → List Passage → ℕ → Type 0
IsBeside here line t = IsAt here t ⊎ IsOn line t

on_push : (line : List Passage) (passage : Passage) (t : ℕ) → IsOn (line ++ passage ∷ []) t
    → IsOn line t ⊎ (passage.train ≡ t)
on_push [] passage t (inl is) = inr is
on_push [] passage t (inr none) = absurd none
on_push (first ∷ later) passage t (inl is) = inl (inl is)
on_push (first ∷ later) passage t (inr on) = push (on_push later passage t on) where
  push : IsOn later t ⊎ (passage.train ≡ t) → IsOn (first ∷ later) t ⊎ (passage.train ≡ t)
  push (inl is) = inl (inr is)
  push (inr is) = inr is

on_drop : (line : List Passage) (t : ℕ) → IsOn (drop 1 line) t → IsOn line t
on_drop [] t on = on
on_drop (first ∷ later) t on = inr on

on_first : (j : ℕ) (line : List Passage) (t : ℕ) → first_train j line ≡ Some t → IsOn line t
on_first j [] t is = absurd cc
on_first j (first ∷ later) t is = go (eqb first.number j) is where
  go : (b : Bool) → cond b (Some first.train) None ≡ Some t → IsOn (first ∷ later) t
  go true e = inl cc
  go false e = absurd cc

-- an element of a list in which one was set
set_either : {X : Type 0} (xs : List X) (i j : ℕ) (x d : X)
    → (get_or (set xs i x) j d ≡ x) ⊎ (get_or (set xs i x) j d ≡ get_or xs j d)
set_either [] i j x d = inr refl
set_either (y ∷ ys) zero zero x d = inl refl
set_either (y ∷ ys) zero (suc j) x d = inr refl
set_either (y ∷ ys) (suc i) zero x d = inr refl
set_either (y ∷ ys) (suc i) (suc j) x d = set_either ys i j x d

-- ---- what a call does to trains

-- the train is brought to a place
abbrev IsBrought : Deed → Type 0
IsBrought deed = (place : ℕ) × (deed ≡ deeds.Brought place)

-- the call brings the train
abbrev IsBringingOf : PlanFields → BoxFields → Act → Reply → ℕ → Type 0
IsBringingOf plan bp act reply t = (place : ℕ) × (done_by plan bp act reply ≡ Some (t, deeds.Brought place))

-- A train that does something is brought, or was there before; and one that is there after it was there before, or is
-- brought.
record Follows (plan : PlanFields) (bp : BoxFields) (act : Act) (before : ℕ → Type 0) (reply : Reply)
    (after : ℕ → Type 0) : Type 0 where
  told : (t : ℕ) (deed : Deed) → done_by plan bp act reply ≡ Some (t, deed) → IsBrought deed ⊎ before t
  kept : (t : ℕ) → after t → before t ⊎ IsBringingOf plan bp act reply t

-- so it is after a decision, whatever the word
abbrev ThenFollows : PlanFields → BoxFields → Act → BoxState → Decision → Type 0
ThenFollows plan bp act here (Here reply next) = Follows plan bp act (IsAt here) reply (IsAt next)
ThenFollows plan bp act here (OnBell f) =
    (bell : Bell) → Follows plan bp act (IsAt here) (f bell).reply (IsAt (f bell).here)
ThenFollows plan bp act here (OnBlock f) =
    (block : Block) → Follows plan bp act (IsAt here) (f block).reply (IsAt (f block).here)
ThenFollows plan bp act here (OnPlainLine f) =
    (line : List Passage)
    → Follows plan bp act (IsBeside here line) (f line).reply (IsBeside (f line).here (f line).word)

same_at : (here next : BoxState) (t : ℕ) → next.places ≡ here.places → IsAt next t → IsAt here t
same_at here next t same at =
    subst (λ (places : List (Option ℕ)). (place : ℕ) × (train_on places place ≡ Some t)) same at

-- nothing is done, and the places stay
quiet : (plan : PlanFields) (bp : BoxFields) (act : Act) (here next : BoxState) (reply : Reply)
    → done_by plan bp act reply ≡ None → next.places ≡ here.places
    → Follows plan bp act (IsAt here) reply (IsAt next)
quiet plan bp act here next reply none same =
    record {
      told = λ t deed is. (let e : None ≡ Some (t, deed) = sym none ∙ is in absurd cc);
      kept = λ t at. inl (same_at here next t same at);
    }

quiet_told : {W : Type 0} (plan : PlanFields) (bp : BoxFields) (act : Act) (here : BoxState) (told : Told W)
    → done_by plan bp act told.reply ≡ None → told.here.places ≡ here.places
    → Follows plan bp act (IsAt here) told.reply (IsAt told.here)
quiet_told plan bp act here told none same = quiet plan bp act here told.here told.reply none same

quiet_line : (plan : PlanFields) (bp : BoxFields) (act : Act) (here : BoxState) (line : List Passage) (reply : Reply)
    → done_by plan bp act reply ≡ None
    → Follows plan bp act (IsBeside here line) reply (IsBeside here line)
quiet_line plan bp act here line reply none =
    record {
      told = λ t deed is. (let e : None ≡ Some (t, deed) = sym none ∙ is in absurd cc);
      kept = λ t at. inl at;
    }

-- ---- a refused call does nothing

refused_bring : (plan : PlanFields) (train : ℕ) (reply : Reply) → IsTrue (is_refused_here reply)
    → brought plan train reply ≡ None
refused_bring plan train replies.Brought h = absurd cc
refused_bring plan train reply h = refl

refused_past : (signal : Option Signal) (at_danger : Bool) (reply : Reply) → IsTrue (is_refused_here reply)
    → went_past signal at_danger reply ≡ None
refused_past None at_danger reply h = refl
refused_past (Some signal) at_danger (replies.Passed train) h = absurd cc
refused_past (Some signal) at_danger (replies.Entered train k) h = absurd cc
refused_past (Some signal) at_danger reply h = refl

refused_berth : (berth : Option Berth) (way : Way) (reply : Reply) → IsTrue (is_refused_here reply)
    → berthed berth way reply ≡ None
refused_berth None way reply h = refl
refused_berth (Some berth) way (replies.Berthed train j) h = absurd cc
refused_berth (Some berth) way (replies.PartBerthed train j) h = absurd cc
refused_berth (Some berth) way reply h = refl

refused_clear : (way : Way) (reply : Reply) → IsTrue (is_refused_here reply) → cleared way reply ≡ None
refused_clear way (replies.Cleared train j) h = absurd cc
refused_clear way reply h = refl

refused_done : (plan : PlanFields) (bp : BoxFields) (act : Act) (reply : Reply) → IsTrue (is_refused_here reply)
    → done_by plan bp act reply ≡ None
refused_done plan bp (acts.Bring train) reply h = refused_bring plan train reply h
refused_done plan bp (acts.Pass lever) reply h = refused_past (signal_of bp lever) false reply h
refused_done plan bp (acts.Overrun lever) reply h = refused_past (signal_of bp lever) true reply h
refused_done plan bp (acts.Berth way) reply h = refused_berth (berth_of bp way) way reply h
refused_done plan bp (acts.BerthPart way) reply h = refused_berth (berth_of bp way) way reply h
refused_done plan bp (acts.ClearPortion way) reply h = refused_clear way reply h
refused_done plan bp act reply h = refl

-- ---- calls that move no train

either : {W : Type 0} (b : Bool) (x y : Told W) (P : Told W → Type 0) → P x → P y → P (cond b x y)
either true x y P p q = p
either false x y P p q = q

rung_places : (here : BoxState) (side : Way) (code count : ℕ) (unheard : Option ℕ)
    → (rung here side code count unheard).here.places ≡ here.places
rung_places here side code count (Some it) = refl
rung_places here side code count None = refl

heard_places : (here : BoxState) (count : ℕ) (unheard : Option ℕ) → (heard here count unheard).here.places ≡ here.places
heard_places here count (Some it) = refl
heard_places here count None = refl

awaited_places : (here : BoxState) (code count : ℕ) (unheard : Option ℕ)
    → (awaited here code count unheard).here.places ≡ here.places
awaited_places here code count (Some it) =
    either (eqb it code) _ _ (λ (told : Told Bell). told.here.places ≡ here.places) refl refl
awaited_places here code count None = refl

pulled_places : (signal : Option Signal) (here : BoxState) (lever : ℕ)
    → (pulled here lever signal).places ≡ here.places
pulled_places None here lever = refl
pulled_places (Some signal) here lever = refl

-- ---- a train that is brought

train_is : (x y : Done) → Some x ≡ Some y → x.0 ≡ y.0
train_is x y e = (let f : x ≡ y = cc in ap (λ (done : Done). done.0) f)

brought_told : (known : Bool) (train place t : ℕ) (deed : Deed)
    → cond {A = Option Done} known (Some (train, deeds.Brought place)) None ≡ Some (t, deed) → IsBrought deed
brought_told true train place t deed is =
    (place, (let f : (train, deeds.Brought place) ≡ (t, deed) = cc in ap (λ (done : Done). done.1) (sym f)))
brought_told false train place t deed is = absurd cc

is_done : (known : Bool) (train place t : ℕ) → IsTrue known → train ≡ t
    → cond {A = Option Done} known (Some (train, deeds.Brought place)) None ≡ Some (t, deeds.Brought place)
is_done true train place t known same = ap (λ (u : ℕ). Some (u, deeds.Brought place)) same
is_done false train place t known same = absurd cc

same_train : (train t : ℕ) → Some train ≡ Some t → train ≡ t
same_train train t e = cc

bring_follows : (plan : PlanFields) (bp : BoxFields) (here : BoxState) (train : ℕ) → IsTrue (is_train plan.trains train)
    → Follows plan bp (acts.Bring train) (IsAt here) replies.Brought
    (IsAt (brought_here here train (train_at plan.trains train).place))
bring_follows plan bp here train known =
    let place : ℕ = (train_at plan.trains train).place in
    record {
      told = λ t deed is. inl (brought_told (is_train plan.trains train) train place t deed is);
      kept = λ t at. go t at.0 at.1 (set_either here.places place at.0 (Some train) None);
    } where
      go : (t k : ℕ) → get_or (set here.places (train_at plan.trains train).place (Some train)) k None ≡ Some t
          → (get_or (set here.places (train_at plan.trains train).place (Some train)) k None ≡ Some train)
          ⊎ (get_or (set here.places (train_at plan.trains train).place (Some train)) k None ≡ get_or here.places k None)
          → IsAt here t ⊎ IsBringingOf plan bp (acts.Bring train) replies.Brought t
      go t k is (inl it) =
          inr (
            (train_at plan.trains train).place,
            is_done (is_train plan.trains train) train
                (train_at plan.trains train).place t known (same_train train t (sym it ∙ is)),
          )
      go t k is (inr other) = inl (k, sym other ∙ is)

-- ---- a train that moves past a signal

past_reply : (plan : PlanFields) (bp : BoxFields) (here : BoxState) (n : ℕ) (signal : Signal) (act : Act) (reply : Reply)
    → Moves here n signal act → signal_of bp n ≡ Some signal → ((b : Bool) → gone_past signal b reply ≡ None)
    → done_by plan bp act reply ≡ None
past_reply plan bp here n signal act reply (Passes free) found none =
    ap (λ (s : Option Signal). went_past s false reply) found ∙ none false
past_reply plan bp here n signal act reply (Overruns free) found none =
    ap (λ (s : Option Signal). went_past s true reply) found ∙ none true

past_train : (plan : PlanFields) (bp : BoxFields) (here : BoxState) (n : ℕ) (signal : Signal) (act : Act) (reply : Reply)
    (train t : ℕ) (deed : Deed) → Moves here n signal act → signal_of bp n ≡ Some signal
    → ((b : Bool) → (it : Deed) × (gone_past signal b reply ≡ Some (train, it)))
    → done_by plan bp act reply ≡ Some (t, deed) → train ≡ t
past_train plan bp here n signal act reply train t deed (Passes free) found gone is =
    let it = gone false in
    train_is (train, it.0) (t, deed)
    (sym (ap (λ (s : Option Signal). went_past s false reply) found ∙ it.1) ∙ is)
past_train plan bp here n signal act reply train t deed (Overruns free) found gone is =
    let it = gone true in
    train_is (train, it.0) (t, deed)
    (sym (ap (λ (s : Option Signal). went_past s true reply) found ∙ it.1) ∙ is)

-- what stands behind a train that has left a place stood there before
left_at : (places : List (Option ℕ)) (from k t : ℕ) → get_or (set places from None) k None ≡ Some t
    → get_or places k None ≡ Some t
left_at places from k t is = go (set_either places from k None None) where
  go : (get_or (set places from None) k None ≡ None) ⊎ (get_or (set places from None) k None ≡ get_or places k None)
      → get_or places k None ≡ Some t
  go (inl none) = absurd (let e : None ≡ Some t = sym none ∙ is in cc)
  go (inr same) = sym same ∙ is

-- the train at a place, or one that stood somewhere before
put_either : (places : List (Option ℕ)) (place train k t : ℕ) → get_or (set places place (Some train)) k None ≡ Some t
    → (train ≡ t) ⊎ (get_or places k None ≡ Some t)
put_either places place train k t is = go (set_either places place k (Some train) None) where
  go : (get_or (set places place (Some train)) k None ≡ Some train)
      ⊎ (get_or (set places place (Some train)) k None ≡ get_or places k None)
      → (train ≡ t) ⊎ (get_or places k None ≡ Some t)
  go (inl it) = inl (same_train train t (sym it ∙ is))
  go (inr same) = inr (sym same ∙ is)

stood : (here : BoxState) (place train t : ℕ) → train_on here.places place ≡ Some train → train ≡ t → IsAt here t
stood here place train t there same = (place, there ∙ ap (λ (u : ℕ). Some u) same)

goes_to : (plan : PlanFields) (bp : BoxFields) (here : BoxState) (n : ℕ) (signal : Signal) (act : Act)
    (train place : ℕ) → Moves here n signal act → signal_of bp n ≡ Some signal
    → train_on here.places signal.from ≡ Some train
    → Follows plan bp act (IsAt here) (replies.Passed train) (IsAt (put_at (left_by bp here signal) place train))
goes_to plan bp here n signal act train place moves found there =
    record {
      told = λ t deed is. inr (stood here signal.from train t there
          (past_train plan bp here n signal act (replies.Passed train) train t deed moves found
          (λ b. (gone signal.from signal.to b, refl)) is));
      kept = λ t at. inl (go t at.0 (put_either (set here.places signal.from None) place train at.0 t at.1));
    } where
      go : (t k : ℕ) → (train ≡ t) ⊎ (get_or (set here.places signal.from None) k None ≡ Some t) → IsAt here t
      go t k (inl same) = stood here signal.from train t there same
      go t k (inr is) = (k, left_at here.places signal.from k t is)

goes_away : (plan : PlanFields) (bp : BoxFields) (here : BoxState) (n : ℕ) (signal : Signal) (act : Act)
    (train : ℕ) → Moves here n signal act → signal_of bp n ≡ Some signal
    → train_on here.places signal.from ≡ Some train
    → Follows plan bp act (IsAt here) (replies.Passed train) (IsAt (left_by bp here signal))
goes_away plan bp here n signal act train moves found there =
    record {
      told = λ t deed is. inr (stood here signal.from train t there
          (past_train plan bp here n signal act (replies.Passed train) train t deed moves found
          (λ b. (gone signal.from signal.to b, refl)) is));
      kept = λ t at. inl (at.0, left_at here.places signal.from at.0 t at.1);
    }

enters : (plan : PlanFields) (bp : BoxFields) (here : BoxState) (n : ℕ) (signal : Signal) (act : Act) (train : ℕ)
    (way : Way) (line : List Passage) → Moves here n signal act → signal_of bp n ≡ Some signal
    → train_on here.places signal.from ≡ Some train
    → Follows plan bp act (IsBeside here line) (enter here (left_by bp here signal) way train line).reply
    (IsBeside (enter here (left_by bp here signal) way train line).here
    (enter here (left_by bp here signal) way train line).word)
enters plan bp here n signal act train way line moves found there =
    let k : ℕ = of_way here.sent way + 1 in
    either (holds line k) _ _
    (λ (told : Told (List Passage)).
    Follows plan bp act (IsBeside here line) told.reply (IsBeside told.here told.word))
    (quiet_line plan bp act here line (replies.SectionFull k)
    (past_reply plan bp here n signal act (replies.SectionFull k) moves found (λ b. refl)))
    (record {
      told = λ t deed is. inr (inl (stood here signal.from train t there
          (past_train plan bp here n signal act (replies.Entered train k) train t deed moves found
          (λ b. (gone signal.from signal.to b, refl)) is)));
      kept = λ t near. inl (go t near);
    }) where
      come : (t : ℕ) → IsOn line t ⊎ (train ≡ t) → IsBeside here line t
      come t (inl on) = inr on
      come t (inr same) = inl (stood here signal.from train t there same)

      go : (t : ℕ) → IsAt (left_by bp here signal) t
          ⊎ IsOn (line ++ record { number = of_way here.sent way + 1; train = train } ∷ []) t → IsBeside here line t
      go t (inl at) = inl (at.0, left_at here.places signal.from at.0 t at.1)
      go t (inr on) = come t (on_push line (record { number = of_way here.sent way + 1; train = train }) t on)

-- ---- a train that comes from a section

awaits : (plan : PlanFields) (bp : BoxFields) (here : BoxState) (way : Way) (line : List Passage) (o : Option ℕ) (j : ℕ)
    → Follows plan bp (acts.AwaitTrain way) (IsBeside here line) (train_awaited o here j line).reply
    (IsBeside (train_awaited o here j line).here (train_awaited o here j line).word)
awaits plan bp here way line None j = quiet_line plan bp (acts.AwaitTrain way) here line (replies.TrainNotYet j) refl
awaits plan bp here way line (Some train) j =
    quiet_line plan bp (acts.AwaitTrain way) here line (replies.Approaching train j) refl

-- a train that came into the berth was on the plain line
came : (here : BoxState) (line : List Passage) (place train k t : ℕ) → IsOn line train
    → get_or (set here.places place (Some train)) k None ≡ Some t → IsBeside here line t
came here line place train k t on is = go (put_either here.places place train k t is) where
  go : (train ≡ t) ⊎ (get_or here.places k None ≡ Some t) → IsBeside here line t
  go (inl same) = inr (subst (λ (u : ℕ). IsOn line u) same on)
  go (inr at) = inl (k, at)

berth_reply : (berth : Option Berth) (b : Berth) (way : Way) (reply : Reply) → berth ≡ Some b
    → berthed_at b.place way reply ≡ None → berthed berth way reply ≡ None
berth_reply berth b way reply is none = ap (λ (o : Option Berth). berthed o way reply) is ∙ none

berth_train : (berth : Option Berth) (b : Berth) (way : Way) (reply : Reply) (train t : ℕ) (it deed : Deed)
    → berth ≡ Some b → berthed_at b.place way reply ≡ Some (train, it) → berthed berth way reply ≡ Some (t, deed)
    → train ≡ t
berth_train berth b way reply train t it deed is done told =
    train_is (train, it) (t, deed) (sym (ap (λ (o : Option Berth). berthed o way reply) is ∙ done) ∙ told)

berths : (plan : PlanFields) (bp : BoxFields) (here : BoxState) (way : Way) (b : Berth) (line : List Passage) (j : ℕ)
    (o : Option ℕ) → berth_of bp way ≡ Some b → ((train : ℕ) → o ≡ Some train → IsOn line train)
    → Follows plan bp (acts.Berth way) (IsBeside here line) (train_berthed o here way b.place j line).reply
    (IsBeside (train_berthed o here way b.place j line).here (train_berthed o here way b.place j line).word)
berths plan bp here way b line j None is on =
    quiet_line plan bp (acts.Berth way) here line (replies.NoTrainAt j)
    (berth_reply (berth_of bp way) b way (replies.NoTrainAt j) is refl)
berths plan bp here way b line j (Some train) is on =
    record {
      told = λ t deed done. inr (inr (subst (λ (u : ℕ). IsOn line u)
          (berth_train (berth_of bp way) b way (replies.Berthed train j) train t (deeds.Berthed b.place way) deed is refl
          done) (on train refl)));
      kept = λ t near. inl (go t near);
    } where
      go : (t : ℕ) → ((k : ℕ) × (get_or (set here.places b.place (Some train)) k None ≡ Some t)) ⊎ IsOn (drop 1 line) t
          → IsBeside here line t
      go t (inl at) = came here line b.place train at.0 t (on train refl) at.1
      go t (inr it) = inr (on_drop line t it)

parts : (plan : PlanFields) (bp : BoxFields) (here : BoxState) (way : Way) (b : Berth) (line : List Passage) (j : ℕ)
    (o : Option ℕ) → berth_of bp way ≡ Some b → ((train : ℕ) → o ≡ Some train → IsOn line train)
    → Follows plan bp (acts.BerthPart way) (IsBeside here line) (train_parted o here way b.place j line).reply
    (IsBeside (train_parted o here way b.place j line).here (train_parted o here way b.place j line).word)
parts plan bp here way b line j None is on =
    quiet_line plan bp (acts.BerthPart way) here line (replies.NoTrainAt j)
    (berth_reply (berth_of bp way) b way (replies.NoTrainAt j) is refl)
parts plan bp here way b line j (Some train) is on =
    record {
      told = λ t deed done. inr (inr (subst (λ (u : ℕ). IsOn line u)
          (berth_train (berth_of bp way) b way (replies.PartBerthed train j) train t (deeds.PartBerthed b.place way)
          deed is refl done) (on train refl)));
      kept = λ t near. inl (go t near);
    } where
      go : (t : ℕ) → ((k : ℕ) × (get_or (set here.places b.place (Some train)) k None ≡ Some t)) ⊎ IsOn line t
          → IsBeside here line t
      go t (inl at) = came here line b.place train at.0 t (on train refl) at.1
      go t (inr it) = inr it

clears : (plan : PlanFields) (bp : BoxFields) (here : BoxState) (way : Way) (line : List Passage) (j : ℕ)
    (o : Option ℕ) → ((train : ℕ) → o ≡ Some train → IsOn line train)
    → Follows plan bp (acts.ClearPortion way) (IsBeside here line) (train_cleared o here way j line).reply
    (IsBeside (train_cleared o here way j line).here (train_cleared o here way j line).word)
clears plan bp here way line j None on =
    quiet_line plan bp (acts.ClearPortion way) here line (replies.NoTrainAt j) refl
clears plan bp here way line j (Some train) on =
    record {
      told = λ t deed done. inr (inr (subst (λ (u : ℕ). IsOn line u)
          (train_is (train, deeds.Cleared way) (t, deed) done) (on train refl)));
      kept = λ t near. inl (go t near);
    } where
      go : (t : ℕ) → IsAt here t ⊎ IsOn (drop 1 line) t → IsBeside here line t
      go t (inl at) = inl at
      go t (inr it) = inr (on_drop line t it)

-- ---- one call

follows : (plan : PlanFields) (b : ℕ) (bp : BoxFields) (here : BoxState) (act : Act) (d : Decision)
    → IsTrue (knows_act plan b act) → Outcome plan bp here act d → ThenFollows plan bp act here d
follows plan b bp here act d known (Refused a reply h) =
    quiet plan bp a here here reply (refused_done plan bp a reply h) refl
follows plan b bp here act d known (Rings side code) =
    λ bell. quiet_told plan bp (acts.Ring side code) here (ring here side code bell) refl
    (rung_places here side code bell.count bell.unheard)
follows plan b bp here act d known (Hears side) =
    λ bell. quiet_told plan bp (acts.Hear side) here (hear here bell) refl (heard_places here bell.count bell.unheard)
follows plan b bp here act d known (AwaitsBell side code) =
    λ bell. quiet_told plan bp (acts.AwaitBell side code) here (await_bell here code bell) refl
    (awaited_places here code bell.count bell.unheard)
follows plan b bp here act d known (Turns way position berth is free) =
    λ block. quiet_told plan bp (acts.Turn way position) here (turned here way position block) refl refl
follows plan b bp here act d known (AwaitsBlock way position) =
    λ block. quiet_told plan bp (acts.AwaitBlock way position) here (await_block here position block) refl
    (either (same_position block.position position) _ _ (λ (told : Told Block). told.here.places ≡ here.places)
    refl refl)
follows plan b bp here act d known (Pulls n starter free) =
    quiet plan bp (acts.Pull n) here (pulled here n (signal_of bp n)) replies.Pulled refl
    (pulled_places (signal_of bp n) here n)
follows plan b bp here act d known (PullsStarter n way starter free) =
    let next : BoxState = pulled here n (signal_of bp n) in
    λ block. quiet_told plan bp (acts.Pull n) here (pulled_under here next way block) refl
    (either (is_unspent_clear block) _ _ (λ (told : Told Block). told.here.places ≡ here.places)
    (pulled_places (signal_of bp n) here n) refl)
follows plan b bp here act d known (Puts n free) =
    quiet plan bp (acts.Put n) here (put_back here n) replies.Put refl refl
follows plan b bp here act d known (Brings train free) =
    bring_follows plan bp here train
    (both (is_train plan.trains train) (eqb (train_at plan.trains train).box_no b) known).0
follows plan b bp here act d known (GoesTo a n signal train place found to there moves) =
    goes_to plan bp here n signal a train place moves found there
follows plan b bp here act d known (GoesAway a n signal train found to there moves) =
    goes_away plan bp here n signal a train moves found there
follows plan b bp here act d known (Enters a n signal train way found to there moves) =
    λ line. enters plan bp here n signal a train way line moves found there
follows plan b bp here act d known (AwaitsTrain way) =
    λ line. awaits plan bp here way line (next_train here way line) (next_number here way)
follows plan b bp here act d known (Berths way berth is free) =
    λ line. berths plan bp here way berth line (next_number here way) (next_train here way line) is
    (λ train e. on_first (next_number here way) line train e)
follows plan b bp here act d known (Parts way berth is free) =
    λ line. parts plan bp here way berth line (next_number here way) (next_train here way line) is
    (λ train e. on_first (next_number here way) line train e)
follows plan b bp here act d known (Clears way free) =
    λ line. clears plan bp here way line (next_number here way) (next_train here way line)
    (λ train e. on_first (next_number here way) line train e)
follows plan b bp here act d known (Winds way free) =
    let at : ℕ = here.moment + plan.delay in
    quiet plan bp (acts.Wind way) here (wound_here here way at) (replies.Winding at) refl refl
follows plan b bp here act d known (Releases way free) =
    quiet plan bp (acts.Release way) here (released_here here way) replies.Released refl refl

-- ---- a pair, and a line

-- the train is in the box, or on a plain line of the pair
abbrev IsNear : BoxState → PairState → ℕ → Type 0
IsNear here pair t = IsAt here t ⊎ ((w : Way) × IsOn (of_way pair.lines w) t)

-- the train is in a box of the line, or on a plain line
abbrev IsInside : LineState → ℕ → Type 0
IsInside s t = ((b : ℕ) × IsAt (box_at s b) t) ⊎ ((p : ℕ) × (w : Way) × IsOn (of_way (pair_at s p).lines w) t)

-- a fact of trains follows from another
widen : {A B C D : Type 0} → (A → B) → (C → D) → A ⊎ C → B ⊎ D
widen f g (inl a) = inl (f a)
widen f g (inr c) = inr (g c)

local : (plan : PlanFields) (bp : BoxFields) (act : Act) (here next : BoxState) (reply : Reply) (pair after : PairState)
    → after.lines ≡ pair.lines → Follows plan bp act (IsAt here) reply (IsAt next)
    → Follows plan bp act (IsNear here pair) reply (IsNear next after)
local plan bp act here next reply pair after same h =
    record {
      told = λ t deed is. widen (λ it. it) (λ at. inl at) (h.told t deed is);
      kept = λ t near. go t near;
    } where
      go : (t : ℕ) → IsNear next after t → IsNear here pair t ⊎ IsBringingOf plan bp act reply t
      go t (inl at) = widen (λ it. inl it) (λ it. it) (h.kept t at)
      go t (inr on) = inl (inr (on.0, subst (λ (lines : ByWay (List Passage)). IsOn (of_way lines on.0) t) same on.1))

on_with : (lines : ByWay (List Passage)) (w v : Way) (line : List Passage) (t : ℕ)
    → IsOn (of_way (with_way lines w line) v) t → IsOn line t ⊎ IsOn (of_way lines v) t
on_with lines Up Up line t on = inl on
on_with lines Up Down line t on = inr on
on_with lines Down Up line t on = inr on
on_with lines Down Down line t on = inl on

on_line : (plan : PlanFields) (bp : BoxFields) (act : Act) (here next : BoxState) (reply : Reply) (pair : PairState)
    (w : Way) (line : List Passage)
    → Follows plan bp act (IsBeside here (of_way pair.lines w)) reply (IsBeside next line)
    → Follows plan bp act (IsNear here pair) reply
    (IsNear next (record pair { lines = with_way pair.lines w line }))
on_line plan bp act here next reply pair w line h =
    record {
      told = λ t deed is. widen (λ it. it) (near t) (h.told t deed is);
      kept = λ t after. go t after;
    } where
      near : (t : ℕ) → IsBeside here (of_way pair.lines w) t → IsNear here pair t
      near t (inl at) = inl at
      near t (inr on) = inr (w, on)

      on_either : (t : ℕ) (v : Way) → IsOn line t ⊎ IsOn (of_way pair.lines v) t
          → IsNear here pair t ⊎ IsBringingOf plan bp act reply t
      on_either t v (inl on) = widen (near t) (λ it. it) (h.kept t (inr on))
      on_either t v (inr on) = inl (inr (v, on))

      go : (t : ℕ) → IsNear next (record pair { lines = with_way pair.lines w line }) t
          → IsNear here pair t ⊎ IsBringingOf plan bp act reply t
      go t (inl at) = widen (near t) (λ it. it) (h.kept t (inl at))
      go t (inr on) = on_either t on.0 (on_with pair.lines w on.0 line t on.1)

near_follows : (plan : PlanFields) (bp : BoxFields) (act : Act) (here : BoxState) (w : Way) (d : Decision)
    (pair : PairState) → ThenFollows plan bp act here d
    → Follows plan bp act (IsNear here pair) (on_pair w d pair).reply
    (IsNear (on_pair w d pair).here (on_pair w d pair).word)
near_follows plan bp act here w (Here reply next) pair h = local plan bp act here next reply pair pair refl h
near_follows plan bp act here w (OnBell f) pair h =
    let told : Told PairState = on_pair w (OnBell f) pair in
    local plan bp act here told.here told.reply pair told.word refl (h (of_way pair.bells w))
near_follows plan bp act here w (OnBlock f) pair h =
    let told : Told PairState = on_pair w (OnBlock f) pair in
    local plan bp act here told.here told.reply pair told.word refl (h (of_way pair.blocks w))
near_follows plan bp act here w (OnPlainLine f) pair h =
    let told : Told (List Passage) = f (of_way pair.lines w) in
    on_line plan bp act here told.here told.reply pair w told.word (h (of_way pair.lines w))

inside : (plan : PlanFields) (bp : BoxFields) (act : Act) (s : LineState) (b p : ℕ) (next : BoxState) (reply : Reply)
    (after : PairState)
    → Follows plan bp act (IsNear (box_at s b) (pair_at s p)) reply (IsNear next after)
    → Follows plan bp act (IsInside s) reply
    (IsInside (record { boxes = set s.boxes b next; pairs = set s.pairs p after }))
inside plan bp act s b p next reply after h =
    record {
      told = λ t deed is. widen (λ it. it) (out t) (h.told t deed is);
      kept = λ t it. go t it;
    } where
      out : (t : ℕ) → IsNear (box_at s b) (pair_at s p) t → IsInside s t
      out t (inl at) = inl (b, at)
      out t (inr on) = inr (p, on.0, on.1)

      box : (t k : ℕ) → IsAt (get_or (set s.boxes b next) k no_state) t
          → (get_or (set s.boxes b next) k no_state ≡ next) ⊎ (get_or (set s.boxes b next) k no_state ≡ box_at s k)
          → IsInside s t ⊎ IsBringingOf plan bp act reply t
      box t k at (inl is) =
          widen (out t) (λ it. it) (h.kept t (inl (subst (λ (here : BoxState). IsAt here t) is at)))
      box t k at (inr is) = inl (inl (k, subst (λ (here : BoxState). IsAt here t) is at))

      pair : (t q : ℕ) (w : Way) → IsOn (of_way (get_or (set s.pairs p after) q opening_pair).lines w) t
          → (get_or (set s.pairs p after) q opening_pair ≡ after)
          ⊎ (get_or (set s.pairs p after) q opening_pair ≡ pair_at s q)
          → IsInside s t ⊎ IsBringingOf plan bp act reply t
      pair t q w on (inl is) =
          widen (out t) (λ it. it)
          (h.kept t (inr (w, subst (λ (x : PairState). IsOn (of_way x.lines w) t) is on)))
      pair t q w on (inr is) = inl (inr (q, w, subst (λ (x : PairState). IsOn (of_way x.lines w) t) is on))

      go : (t : ℕ) → IsInside (record { boxes = set s.boxes b next; pairs = set s.pairs p after }) t
          → IsInside s t ⊎ IsBringingOf plan bp act reply t
      go t (inl it) = box t it.0 it.1 (set_either s.boxes b it.0 next no_state)
      go t (inr it) = pair t it.0 it.1 it.2 (set_either s.pairs p it.0 after opening_pair)

step_follows : (plan : PlanFields) (s : LineState) (b : ℕ) (call : Call) → IsTrue (knows_act plan b call.act)
    → Follows plan (box_plan_of plan b) call.act (IsInside s) (step plan s b call).reply
    (IsInside (step plan s b call).after)
unfolding step
step_follows plan s b call known =
    let bp : BoxFields = box_plan_of plan b in
    let here : BoxState = at_moment (box_at s b) call.moment in
    let d : Decision = decide plan bp call.act here in
    let p : ℕ = pair_of plan b call in
    let w : Way = way_of (link_of bp call.act) in
    inside plan bp call.act s b p _ _ _
    (near_follows plan bp call.act here w d (pair_at s p)
    (follows plan b bp here call.act d known (outcome_of plan bp call.act here)))

-- ---- a history

-- the deeds of a train are none, or begin with its bringing
abbrev Begins : List TrainDeed → Type 0
Begins its = (its ≡ []) ⊎ ((first : TrainDeed) × (later : List TrainDeed) × (its ≡ first ∷ later) × IsBringing first)

by_entry : (t n b : ℕ) (o : Option Done) (rest : List TrainDeed)
    → ((deed : Deed) → o ≡ Some (t, deed) → IsBrought deed)
    → (((place : ℕ) → o ≡ Some (t, deeds.Brought place) → ⊥) → Begins (deeds_by t rest))
    → Begins (deeds_by t (option_to_list (deed_at n b o) ++ rest))
by_entry t n b None rest told next = next (λ place is. cc)
by_entry t n b (Some done) rest told next = go (eqb_tells done.0 t) where
  it : TrainDeed
  it = record { entry = n; box_no = b; train = done.0; deed = done.1 }

  go : ((eqb done.0 t ≡ true) × (done.0 ≡ t)) ⊎ ((eqb done.0 t ≡ false) × (done.0 ≢ t))
      → Begins (cond (eqb done.0 t) (it ∷ deeds_by t rest) (deeds_by t rest))
  go (inl is) =
      subst (λ (test : Bool). Begins (cond test (it ∷ deeds_by t rest) (deeds_by t rest))) (sym is.0)
      (inr (it, deeds_by t rest, refl, told done.1 (ap (λ (u : ℕ). Some (u, done.1)) is.1)))
  go (inr is) =
      subst (λ (test : Bool). Begins (cond test (it ∷ deeds_by t rest) (deeds_by t rest))) (sym is.0)
      (next (λ place e. is.1 (train_is done (t, deeds.Brought place) e)))

begins_from : (plan : PlanFields) (s : LineState) (n : ℕ) (es : List Entry) (t : ℕ) → IsLegalFrom plan s es
    → (IsInside s t → ⊥) → Begins (deeds_by t (deeds_from plan n es))
begins_from plan s n [] t legal out = inl refl
begins_from plan s n (e ∷ es) t legal out =
    by_entry t n e.box_no (done_by plan (box_plan_of plan e.box_no) e.call.act e.reply) (deeds_from plan (n + 1) es)
    (λ deed is. brought (h.told t deed is))
    (λ none. begins_from plan (after_entry plan s e) (n + 1) es t legal.2 (λ it. gone none (h.kept t it))) where
      h : Follows plan (box_plan_of plan e.box_no) e.call.act (IsInside s) e.reply (IsInside (after_entry plan s e))
      h =
          subst
          (λ (reply : Reply). Follows plan (box_plan_of plan e.box_no) e.call.act (IsInside s) reply
          (IsInside (after_entry plan s e)))
          (sym legal.1) (step_follows plan s e.box_no e.call (known_parts plan e.box_no e.call legal.0.known).act)

      brought : {deed : Deed} → IsBrought deed ⊎ IsInside s t → IsBrought deed
      brought (inl is) = is
      brought (inr it) = absurd (out it)

      gone : ((place : ℕ) → done_by plan (box_plan_of plan e.box_no) e.call.act e.reply ≡ Some (t, deeds.Brought place) → ⊥)
          → IsInside s t ⊎ IsBringingOf plan (box_plan_of plan e.box_no) e.call.act e.reply t → ⊥
      gone none (inl it) = out it
      gone none (inr it) = none it.0 it.1

-- ---- a line as it opens

none_stands : (m place t : ℕ) → get_or (replicate m None) place None ≡ Some t → ⊥
none_stands zero place t e = cc
none_stands (suc m) zero t e = cc
none_stands (suc m) (suc place) t e = none_stands m place t e

none_at : (trains : ℕ) (boxes : List BoxFields) (k t : ℕ)
    → IsAt (get_or (map (λ (bp : BoxFields). opening_box trains bp) boxes) k no_state) t → ⊥
none_at trains [] k t at = (let e = at.1 in cc)
none_at trains (bp ∷ boxes) zero t at = none_stands (length bp.places) at.0 t at.1
none_at trains (bp ∷ boxes) (suc k) t at = none_at trains boxes k t at

none_opens : (w : Way) (t : ℕ) → IsOn (of_way opening_pair.lines w) t → ⊥
none_opens Up t on = on
none_opens Down t on = on

none_on : (m q : ℕ) (w : Way) (t : ℕ) → IsOn (of_way (get_or (replicate m opening_pair) q opening_pair).lines w) t → ⊥
none_on zero q w t on = none_opens w t on
none_on (suc m) zero w t on = none_opens w t on
none_on (suc m) (suc q) w t on = none_on m q w t on

none_inside : (plan : PlanFields) (t : ℕ) → IsInside (opening_state plan) t → ⊥
unfolding opening_state
none_inside plan t (inl it) = none_at (length plan.trains) plan.boxes it.0 t it.1
none_inside plan t (inr it) = none_on (length plan.boxes - 1) it.0 it.1 t it.2

head_is : (x y : TrainDeed) (xs ys : List TrainDeed) → x ∷ xs ≡ y ∷ ys → x ≡ y
head_is x y xs ys e = cc

-- the first deed of a train in a legal journal is its bringing
pub first_brought : (plan : PlanFields) (es : List Entry) (train : ℕ) (first : TrainDeed) (later : List TrainDeed)
    → IsLegal plan es → (line_of (deeds_of plan es) train).deeds ≡ first ∷ later → IsBringing first
first_brought plan es train first later legal is =
    go (begins_from plan (opening_state plan) 0 es train legal (none_inside plan train)) where
      go : Begins (deeds_by train (deeds_from plan 0 es)) → IsBringing first
      go (inl none) = absurd (let e : [] ≡ first ∷ later = sym none ∙ is in cc)
      go (inr it) =
          subst IsBringing (head_is it.0 first it.1 later (sym it.2 ∙ is)) it.3
