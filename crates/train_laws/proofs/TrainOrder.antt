-- Trains leave a plain line in the order in which they entered.
use Rattle.std.proofs.Common.{◌≡◌, ◌≢◌, ℕ, ◌+◌, ◌<◌, List, [], ◌∷◌, ◌++◌, length, drop, Bool, true, false, cond}
use Rattle.std.proofs.Common.{Option, Some, None, ◌⊎◌, inl, inr, IsTrue, refl, sym, ap, subst, ◌∙◌, arith, eqb-true}
use Rattle.std.proofs.Common.{append_assoc}
use Rattle.std.specs.Prelude.{◌==◌, ◌&&◌}
use Rattle.std.proofs.lemmas.Bool.Decides.{eqb_tells}
use Rattle.std.proofs.lemmas.List.{append-nil}
use Rattle.std.proofs.lemmas.List.Elements.{Contains-append_cases, Contains-append_left, Contains-append_right}
use Rattle.std.proofs.lemmas.List.Elements.{Contains-push, Contains-push_cases}
use Rattle.std.specs.List.{Contains}
use Rattle.block_words.specs.Ways.{opposite}
use Rattle.block_words.specs.declared.Way.{Way}
use Rattle.block_words.specs.declared.Way.TheVariants.{Up, Down}
use Rattle.line_plan.specs.Frames.{BoxFields, is_way, same_way, signal_of}
use Rattle.line_plan.specs.Plans.{IsPlan, PlanFields}
use Rattle.line_plan.specs.Sections.{IsSection, advance_of}
use Rattle.line_plan.specs.declared.section.Section.{Section}
use Rattle.line_plan.specs.declared.signal.Signal.{Signal}
use Rattle.line_law.specs.declared.call.Act.{Act}
use Rattle.line_law.specs.declared.call.Call.{Call}
use Rattle.line_law.specs.declared.call.Entry.{Entry}
use Rattle.line_law.specs.declared.call.Reply.{Reply}
use Rattle.line_law.specs.declared.call.Reply.TheVariants as replies
use Rattle.line_law.specs.declared.link.Link.{Link}
use Rattle.line_law.specs.declared.link.Link.TheVariants.{Out, In}
use Rattle.line_law.specs.declared.state.Bell.{Bell}
use Rattle.line_law.specs.declared.state.Block.{Block}
use Rattle.line_law.specs.declared.state.BoxState.{BoxState}
use Rattle.line_law.specs.declared.state.PairState.{PairState}
use Rattle.line_law.specs.declared.state.Passage.{Passage}
use Rattle.line_law.specs.declared.ways.ByWay.{ByWay}
use Rattle.line_law.specs.Arrivals.{first_train, next_number, next_train, train_awaited, train_berthed, train_cleared}
use Rattle.line_law.specs.Arrivals.{train_parted}
use Rattle.line_law.specs.Bells.{awaited, heard, rung}
use Rattle.line_law.specs.Decisions.{Decision, Here, OnBell, OnBlock, OnPlainLine, Told}
use Rattle.line_law.specs.History.{IsLegal, IsLegalFrom, after_entry, state_after, state_of}
use Rattle.line_law.specs.Instruments.{same_position}
use Rattle.line_law.specs.Law.{at_moment, box_plan_of, link_of}
use Rattle.line_law.specs.Levers.{is_unspent_clear, pulled, starter_link, starter_way}
use Rattle.line_law.specs.Lines.{AreNumbered, plain_line_of}
use Rattle.line_law.specs.Outcomes.{Moves, Passes, Overruns, Outcome, Refused, Rings, Hears, AwaitsBell, Turns}
use Rattle.line_law.specs.Outcomes.{AwaitsBlock, Pulls, PullsStarter, Puts, Brings, GoesTo, GoesAway, Enters}
use Rattle.line_law.specs.Outcomes.{AwaitsTrain, Berths, Parts, Clears, Winds, Releases}
use Rattle.line_law.specs.Refusals.{is_refused_here}
use Rattle.line_law.specs.SectionFacts.{Fact, decided}
use Rattle.line_law.specs.States.{IsStateOf, LineState, box_at, opening_box, opening_pair, opening_state}
use Rattle.line_law.specs.Trains.{enter, holds, left_by}
use Rattle.line_law.specs.Ways.{of_way, with_way}
use Rattle.line_law.proofs.Keeping.{shape_stays}
use Rattle.line_law.proofs.Opens.{opening_at, opening_pair_at, opening_shape}
use Rattle.line_law.proofs.Outcomes.{outcome_of}
use Rattle.line_law.proofs.SectionSteps.{has_boxes}
use Rattle.line_law.proofs.Words.{of_way-with, of_way-with_opposite}
use Rattle.train_laws.specs.Passages.{EntersAs, LeavesAs, entering, is_entering, is_leaving, leaving, train_entered}
use Rattle.train_laws.specs.Passages.{train_left, trains_entered, trains_left}
use Rattle.train_laws.proofs.GuardedSections.{told_either}
use Rattle.train_laws.proofs.OneTrainRear.{moves_line, starter_line}
use Rattle.train_laws.proofs.SectionReplies.{Leads, ThenElsewhere, ThenOwn, step_leads}
use Rattle.train_laws.proofs.StarterFacts.{same_way_is, same_way_refl, way_is}

-- ---- ways and lists

out_is : (v w : Way) → Link.Out v ≡ Link.Out w → v ≡ w
out_is v w e = cc

in_is : (v w : Way) → Link.In v ≡ Link.In w → v ≡ w
in_is v w e = cc

one_way : (v w : Way) → (v ≡ w → ⊥) → v ≡ opposite w
one_way Up Up h = absurd (h refl)
one_way Up Down h = refl
one_way Down Up h = refl
one_way Down Down h = absurd (h refl)

none_of : (b : Bool) (xs : List Passage) → xs ≡ [] → cond b xs [] ≡ []
none_of true xs e = e
none_of false xs e = refl

not_so : (b : Bool) (xs : List Passage) → (b ≡ true → ⊥) → cond b xs [] ≡ []
not_so true xs h = absurd (h refl)
not_so false xs h = refl

so : (b : Bool) (xs : List Passage) → b ≡ true → cond b xs [] ≡ xs
so true xs h = refl
so false xs h = absurd cc

numbered_both : (a b c : ℕ) (xs ys : List Passage) → AreNumbered a b xs → AreNumbered b c ys
    → AreNumbered a c (xs ++ ys)
numbered_both a b c [] ys h k = subst (λ (n : ℕ). AreNumbered n c ys) (sym h) k
numbered_both a b c (x ∷ xs) ys h k = (h.0, numbered_both (a + 1) b c xs ys h.1 k)

numbered_length : (a b : ℕ) (xs : List Passage) → AreNumbered a b xs → b ≡ a + length xs
numbered_length a b [] h = omega (arith, h)
numbered_length a b (x ∷ xs) h = let more = numbered_length (a + 1) b xs h.1 in omega (arith, more)

-- ---- the rear box

-- the trains that a call of the rear box brings onto the plain line
abbrev comes_on : PlanFields → Section → Act → Reply → List Passage
comes_on plan x act reply = cond (is_entering plan x act) (train_entered reply) []

refused_none : (reply : Reply) → IsTrue (is_refused_here reply) → train_entered reply ≡ []
refused_none (replies.Entered train k) h = absurd cc
refused_none reply h = refl

-- the plain line grew by these, numbered on from the trains sent
abbrev Grows : Way → ByWay ℕ → List Passage → List Passage → ByWay ℕ → List Passage → Type 0
Grows w before t more after t' = (t ++ more ≡ t') × AreNumbered (of_way before w) (of_way after w) more

-- no train came on
stays : (w : Way) (before after : ByWay ℕ) (t more : List Passage) → more ≡ [] → after ≡ before
    → Grows w before t more after t
stays w before after t more none same =
    subst (λ (l : List Passage). Grows w before t l after t) (sym none)
    (append-nil t, ap (λ (s : ByWay ℕ). of_way s w) (sym same))

entering_is : (plan : PlanFields) (x : Section) (bp : BoxFields) (here : BoxState) (n : ℕ) (signal : Signal) (act : Act)
    → Moves here n signal act → is_entering plan x act ≡ is_way x.way (starter_way (signal_of
    (box_plan_of plan x.rear) n))
entering_is plan x bp here n signal act (Passes free) = refl
entering_is plan x bp here n signal act (Overruns free) = refl

is_own : (w : Way) (o : Option Way) → o ≡ Some w → is_way w o ≡ true
is_own w None e = absurd cc
is_own w (Some v) e = let same : v ≡ w = cc in subst (λ (u : Way). same_way w u ≡ true) (sym same) (same_way_refl w)

rung_sent : (here : BoxState) (side : Way) (code count : ℕ) (u : Option ℕ)
    → (rung here side code count u).here.sent ≡ here.sent
rung_sent here side code count (Some held) = refl
rung_sent here side code count None = refl

heard_sent : (here : BoxState) (count : ℕ) (u : Option ℕ) → (heard here count u).here.sent ≡ here.sent
heard_sent here count (Some code) = refl
heard_sent here count None = refl

awaited_sent : (here : BoxState) (code count : ℕ) (u : Option ℕ) → (awaited here code count u).here.sent ≡ here.sent
awaited_sent here code count (Some held) =
    told_either (held == code) _ _ (λ (told : Told Bell). told.here.sent ≡ here.sent) refl refl
awaited_sent here code count None = refl

pulled_sent : (signal : Option Signal) (here : BoxState) (n : ℕ) → (pulled here n signal).sent ≡ here.sent
pulled_sent None here n = refl
pulled_sent (Some signal) here n = refl

awaits_sent : (t : Option ℕ) (here : BoxState) (j : ℕ) (line : List Passage)
    → (train_awaited t here j line).here.sent ≡ here.sent
awaits_sent None here j line = refl
awaits_sent (Some train) here j line = refl

berthed_sent : (t : Option ℕ) (here : BoxState) (way : Way) (place j : ℕ) (line : List Passage)
    → (train_berthed t here way place j line).here.sent ≡ here.sent
berthed_sent None here way place j line = refl
berthed_sent (Some train) here way place j line = refl

parted_sent : (t : Option ℕ) (here : BoxState) (way : Way) (place j : ℕ) (line : List Passage)
    → (train_parted t here way place j line).here.sent ≡ here.sent
parted_sent None here way place j line = refl
parted_sent (Some train) here way place j line = refl

cleared_sent : (t : Option ℕ) (here : BoxState) (way : Way) (j : ℕ) (line : List Passage)
    → (train_cleared t here way j line).here.sent ≡ here.sent
cleared_sent None here way j line = refl
cleared_sent (Some train) here way j line = refl

-- a train enters the section, or is refused for want of room
enter_grows : (full : Bool) (w : Way) (here left : BoxState) (train : ℕ) (t : List Passage) → left.sent ≡ here.sent
    → holds t (of_way here.sent w + 1) ≡ full
    → Grows w here.sent t (train_entered (enter here left w train t).reply) (enter here left w train t).here.sent
    (enter here left w train t).word
enter_grows true w here left train t same is = rw is (stays w here.sent here.sent t [] refl refl)
enter_grows false w here left train t same is =
    rw is (refl, (refl, sym (of_way-with left.sent w (of_way here.sent w + 1))))

rear_grows : (plan : PlanFields) (x : Section) (here : BoxState) (act : Act) (d : Decision) (l : Bell) (k : Block)
    (t : List Passage) → Outcome plan (box_plan_of plan x.rear) here act d
    → link_of (box_plan_of plan x.rear) act ≡ Out x.way
    → ThenOwn d (λ reply h l k t'. Grows x.way here.sent t (comes_on plan x act reply) h.sent t') l k t
rear_grows plan x here act d l k t (Refused a reply refused) to =
    stays x.way here.sent here.sent t _ (none_of (is_entering plan x a) _ (refused_none reply refused)) refl
rear_grows plan x here act d l k t (Rings side code) to =
    stays x.way here.sent _ t _ refl (rung_sent here side code l.count l.unheard)
rear_grows plan x here act d l k t (AwaitsBlock way position) to =
    stays x.way here.sent _ t _ refl
    (told_either (same_position k.position position) _ _ (λ (told : Told Block). told.here.sent ≡ here.sent) refl refl)
rear_grows plan x here act d l k t (Pulls n is free) to =
    stays x.way here.sent _ t _ refl (pulled_sent (signal_of (box_plan_of plan x.rear) n) here n)
rear_grows plan x here act d l k t (PullsStarter n way is free) to =
    stays x.way here.sent _ t _ refl
    (told_either (is_unspent_clear k) _ _ (λ (told : Told Block). told.here.sent ≡ here.sent)
    (pulled_sent (signal_of (box_plan_of plan x.rear) n) here n) refl)
rear_grows plan x here act d l k t (Puts n free) to = stays x.way here.sent _ t _ refl refl
rear_grows plan x here act d l k t (Brings train free) to = stays x.way here.sent _ t _ refl refl
rear_grows plan x here act d l k t (GoesTo a n signal train place found to_place there moves) to =
    stays x.way here.sent _ t _ (none_of (is_entering plan x a) _ refl) refl
rear_grows plan x here act d l k t (GoesAway a n signal train found away there moves) to =
    stays x.way here.sent _ t _ (none_of (is_entering plan x a) _ refl) refl
rear_grows plan x here act d l k t (Enters a n signal train way found into there moves) to =
    let bp : BoxFields = box_plan_of plan x.rear in
    let starter : starter_way (signal_of bp n) ≡ Some way = starter_line bp n signal way found into in
    let same : way ≡ x.way = out_is way x.way (sym (ap starter_link starter) ∙ (sym
    (moves_line bp here n signal a moves) ∙ to)) in
    let mine : is_entering plan x a ≡ true = entering_is plan x bp here n signal a moves
    ∙ is_own x.way (starter_way (signal_of bp n)) (starter ∙ ap (λ (v : Way). Some v) same) in
    let left : BoxState = left_by bp here signal in
    let grown = enter_grows (holds t (of_way here.sent x.way + 1)) x.way here left train t refl refl in
    let as_is = subst (λ (more : List Passage). Grows x.way here.sent t more
    (enter here left x.way train t).here.sent (enter here left x.way train t).word)
    (sym (so (is_entering plan x a) (train_entered (enter here left x.way train t).reply) mine)) grown in
    subst (λ (v : Way). Grows x.way here.sent t (comes_on plan x a (enter here left v train t).reply)
    (enter here left v train t).here.sent (enter here left v train t).word) (sym same) as_is
rear_grows plan x here act d l k t (Winds way free) to = stays x.way here.sent _ t _ refl refl
rear_grows plan x here act d l k t (Releases way free) to = stays x.way here.sent _ t _ refl refl
rear_grows plan x here act d l k t out to = absurd cc

-- off the words of the section no train comes on
abbrev Quiet : Way → ByWay ℕ → List Passage → ByWay ℕ → Type 0
Quiet w before more after = (more ≡ []) × (of_way after w ≡ of_way before w)

quiet : (w : Way) (before after : ByWay ℕ) (more : List Passage) → more ≡ [] → after ≡ before
    → Quiet w before more after
quiet w before after more none same = (none, ap (λ (s : ByWay ℕ). of_way s w) same)

enter_quiet : (full : Bool) (w v : Way) (b : Bool) (here left : BoxState) (train : ℕ) (t : List Passage)
    → left.sent ≡ here.sent → (b ≡ true → ⊥) → (v ≡ w → ⊥) → holds t (of_way here.sent v + 1) ≡ full
    → Quiet w here.sent (cond b (train_entered (enter here left v train t).reply) [])
    (enter here left v train t).here.sent
enter_quiet true w v b here left train t same none other is =
    rw is (quiet w here.sent here.sent _ (not_so b _ none) refl)
enter_quiet false w v b here left train t same none other is =
    let apart : v ≡ opposite w = one_way v w other in
    rw is (
      not_so b _ none,
      subst (λ (u : Way). of_way (with_way left.sent u (of_way here.sent v + 1)) w ≡ of_way here.sent w) (sym apart)
          (of_way-with_opposite left.sent w (of_way here.sent v + 1) ∙ ap (λ (s : ByWay ℕ). of_way s w) same),
    )

rear_quiet : (plan : PlanFields) (x : Section) (here : BoxState) (act : Act) (d : Decision)
    → Outcome plan (box_plan_of plan x.rear) here act d
    → (link_of (box_plan_of plan x.rear) act ≡ Out x.way → ⊥)
    → ThenElsewhere d (λ reply h. Quiet x.way here.sent (comes_on plan x act reply) h.sent)
rear_quiet plan x here act d (Refused a reply refused) off =
    quiet x.way here.sent here.sent _ (none_of (is_entering plan x a) _ (refused_none reply refused)) refl
rear_quiet plan x here act d (Rings side code) off =
    λ bell. quiet x.way here.sent _ _ refl (rung_sent here side code bell.count bell.unheard)
rear_quiet plan x here act d (Hears side) off =
    λ bell. quiet x.way here.sent _ _ refl (heard_sent here bell.count bell.unheard)
rear_quiet plan x here act d (AwaitsBell side code) off =
    λ bell. quiet x.way here.sent _ _ refl (awaited_sent here code bell.count bell.unheard)
rear_quiet plan x here act d (Turns way position berth is free) off = λ block. quiet x.way here.sent _ _ refl refl
rear_quiet plan x here act d (AwaitsBlock way position) off =
    λ block. quiet x.way here.sent _ _ refl
    (told_either (same_position block.position position) _ _ (λ
    (told : Told Block). told.here.sent ≡ here.sent) refl refl)
rear_quiet plan x here act d (Pulls n is free) off =
    quiet x.way here.sent _ _ refl (pulled_sent (signal_of (box_plan_of plan x.rear) n) here n)
rear_quiet plan x here act d (PullsStarter n way is free) off =
    λ block. quiet x.way here.sent _ _ refl
    (told_either (is_unspent_clear block) _ _ (λ (told : Told Block). told.here.sent ≡ here.sent)
    (pulled_sent (signal_of (box_plan_of plan x.rear) n) here n) refl)
rear_quiet plan x here act d (Puts n free) off = quiet x.way here.sent _ _ refl refl
rear_quiet plan x here act d (Brings train free) off = quiet x.way here.sent _ _ refl refl
rear_quiet plan x here act d (GoesTo a n signal train place found to_place there moves) off =
    quiet x.way here.sent _ _ (none_of (is_entering plan x a) _ refl) refl
rear_quiet plan x here act d (GoesAway a n signal train found away there moves) off =
    quiet x.way here.sent _ _ (none_of (is_entering plan x a) _ refl) refl
rear_quiet plan x here act d (Enters a n signal train way found into there moves) off =
    let bp : BoxFields = box_plan_of plan x.rear in
    let starter : starter_way (signal_of bp n) ≡ Some way = starter_line bp n signal way found into in
    let line : link_of bp a ≡ Out way = moves_line bp here n signal a moves ∙ ap starter_link starter in
    let other : way ≡ x.way → ⊥ = λ e. off (line ∙ ap (λ (v : Way). Link.Out v) e) in
    let none : is_entering plan x a ≡ true → ⊥ = λ e.
    other (some_is way x.way (sym starter ∙ way_is x.way (starter_way (signal_of bp n)) (sym
    (entering_is plan x bp here n signal a moves) ∙ e))) in
    λ t. enter_quiet (holds t (of_way here.sent way + 1)) x.way way (is_entering plan x a) here
    (left_by bp here signal) train t
    refl none other refl where
      some_is : (v w : Way) → Option.Some v ≡ Option.Some w → v ≡ w
      some_is v w e = cc
rear_quiet plan x here act d (AwaitsTrain way) off =
    λ t. quiet x.way here.sent _ _ refl (awaits_sent (next_train here way t) here (next_number here way) t)
rear_quiet plan x here act d (Berths way berth is free) off =
    λ t. quiet x.way here.sent _ _ refl (berthed_sent (next_train here way t) here way berth.place
    (next_number here way) t)
rear_quiet plan x here act d (Parts way berth is free) off =
    λ t. quiet x.way here.sent _ _ refl (parted_sent (next_train here way t) here way berth.place
    (next_number here way) t)
rear_quiet plan x here act d (Clears way free) off =
    λ t. quiet x.way here.sent _ _ refl (cleared_sent (next_train here way t) here way (next_number here way) t)
rear_quiet plan x here act d (Winds way free) off = quiet x.way here.sent _ _ refl refl
rear_quiet plan x here act d (Releases way free) off = quiet x.way here.sent _ _ refl refl

-- ---- the box in advance

-- the trains that a call of the box in advance takes off the plain line
abbrev goes_off : Section → Act → Reply → List Passage
goes_off x act reply = cond (is_leaving x act) (train_left reply) []

refused_leaves : (reply : Reply) → IsTrue (is_refused_here reply) → train_left reply ≡ []
refused_leaves (replies.Berthed train j) h = absurd cc
refused_leaves (replies.Cleared train j) h = absurd cc
refused_leaves reply h = refl

not_moving : (x : Section) (here : BoxState) (n : ℕ) (signal : Signal) (act : Act) (xs : List Passage)
    → Moves here n signal act → cond (is_leaving x act) xs [] ≡ []
not_moving x here n signal act xs (Passes free) = refl
not_moving x here n signal act xs (Overruns free) = refl

-- the first train of a plain line is the one with its number
first_is : (j train : ℕ) (t : List Passage) → first_train j t ≡ Some train
    → t ≡ record { number = j; train = train } ∷ drop 1 t
first_is j train [] e = absurd cc
first_is j train (p ∷ t) e = go (p.number == j) refl e where
  go : (b : Bool) → (p.number == j) ≡ b → cond b (Some p.train) None ≡ Some train
      → p ∷ t ≡ record { number = j; train = train } ∷ t
  go true is same =
      let number : p.number ≡ j = eqb-true p.number j is in
      let one : p.train ≡ train = cc in
      ap (λ (n : ℕ). (let q : Passage = record { number = n; train = p.train } in q) ∷ t) number
      ∙ ap (λ (n : ℕ). (let q : Passage = record { number = j; train = n } in q) ∷ t) one
  go false is same = absurd cc

berthed_leaves : (o : Option ℕ) (here : BoxState) (way : Way) (place j : ℕ) (t : List Passage) → first_train j t ≡ o
    → t ≡ train_left (train_berthed o here way place j t).reply ++ (train_berthed o here way place j t).word
berthed_leaves None here way place j t is = refl
berthed_leaves (Some train) here way place j t is = first_is j train t is

cleared_leaves : (o : Option ℕ) (here : BoxState) (way : Way) (j : ℕ) (t : List Passage) → first_train j t ≡ o
    → t ≡ train_left (train_cleared o here way j t).reply ++ (train_cleared o here way j t).word
cleared_leaves None here way j t is = refl
cleared_leaves (Some train) here way j t is = first_is j train t is

awaits_word : (o : Option ℕ) (here : BoxState) (j : ℕ) (t : List Passage) → t ≡ (train_awaited o here j t).word
awaits_word None here j t = refl
awaits_word (Some train) here j t = refl

parted_word : (o : Option ℕ) (here : BoxState) (way : Way) (place j : ℕ) (t : List Passage)
    → t ≡ (train_parted o here way place j t).word
parted_word None here way place j t = refl
parted_word (Some train) here way place j t = refl

-- where nothing goes off
none_off : (t more : List Passage) → more ≡ [] → t ≡ more ++ t
none_off t more none = subst (λ (l : List Passage). t ≡ l ++ t) (sym none) refl

-- the trains that go off are the first
own_off : (b : Bool) (t more rest : List Passage) → b ≡ true → t ≡ more ++ rest → t ≡ cond b more [] ++ rest
own_off true t more rest h e = e
own_off false t more rest h e = absurd cc

own_way : (v w : Way) → Link.In v ≡ Link.In w → same_way v w ≡ true
own_way v w e = subst (λ (u : Way). same_way u w ≡ true) (sym (in_is v w e)) (same_way_refl w)

advance_shrinks : (plan : PlanFields) (x : Section) (bp : BoxFields) (here : BoxState) (act : Act) (d : Decision)
    (l : Bell)
    (k : Block) (t : List Passage) → Outcome plan bp here act d → link_of bp act ≡ In x.way
    → ThenOwn d (λ reply h l k t'. t ≡ goes_off x act reply ++ t') l k t
advance_shrinks plan x bp here act d l k t (Refused a reply refused) at =
    none_off t _ (none_of (is_leaving x a) _ (refused_leaves reply refused))
advance_shrinks plan x bp here act d l k t (GoesTo a n signal train place found to_place there moves) at =
    none_off t _ (not_moving x here n signal a _ moves)
advance_shrinks plan x bp here act d l k t (GoesAway a n signal train found away there moves) at =
    none_off t _ (not_moving x here n signal a _ moves)
advance_shrinks plan x bp here act d l k t (Enters a n signal train way found into there moves) at =
    absurd (let line = sym (moves_line bp here n signal a moves ∙ ap starter_link
    (starter_line bp n signal way found into)) ∙ at in cc)
advance_shrinks plan x bp here act d l k t (AwaitsTrain way) at =
    awaits_word (next_train here way t) here (next_number here way) t
advance_shrinks plan x bp here act d l k t (Berths way berth is free) at =
    own_off (same_way way x.way) t _ _ (own_way way x.way at)
    (berthed_leaves (next_train here way t) here way berth.place (next_number here way) t refl)
advance_shrinks plan x bp here act d l k t (Parts way berth is free) at =
    parted_word (next_train here way t) here way berth.place (next_number here way) t
advance_shrinks plan x bp here act d l k t (Clears way free) at =
    own_off (same_way way x.way) t _ _ (own_way way x.way at)
    (cleared_leaves (next_train here way t) here way (next_number here way) t refl)
advance_shrinks plan x bp here act d l k t out at = none_off t _ refl

other_way : (v w : Way) → (Link.In v ≡ Link.In w → ⊥) → same_way v w ≡ true → ⊥
other_way v w off e = off (ap (λ (u : Way). Link.In u) (same_way_is v w e))

advance_quiet : (plan : PlanFields) (x : Section) (bp : BoxFields) (here : BoxState) (act : Act) (d : Decision)
    → Outcome plan bp here act d → (link_of bp act ≡ In x.way → ⊥)
    → ThenElsewhere d (λ reply h. goes_off x act reply ≡ [])
advance_quiet plan x bp here act d (Refused a reply refused) off =
    none_of (is_leaving x a) _ (refused_leaves reply refused)
advance_quiet plan x bp here act d (Rings side code) off = λ bell. refl
advance_quiet plan x bp here act d (Hears side) off = λ bell. refl
advance_quiet plan x bp here act d (AwaitsBell side code) off = λ bell. refl
advance_quiet plan x bp here act d (Turns way position berth is free) off = λ block. refl
advance_quiet plan x bp here act d (AwaitsBlock way position) off = λ block. refl
advance_quiet plan x bp here act d (PullsStarter n way is free) off = λ block. refl
advance_quiet plan x bp here act d (GoesTo a n signal train place found to_place there moves) off =
    not_moving x here n signal a _ moves
advance_quiet plan x bp here act d (GoesAway a n signal train found away there moves) off =
    not_moving x here n signal a _ moves
advance_quiet plan x bp here act d (Enters a n signal train way found into there moves) off =
    λ t. not_moving x here n signal a _ moves
advance_quiet plan x bp here act d (AwaitsTrain way) off = λ t. refl
advance_quiet plan x bp here act d (Berths way berth is free) off = λ t. not_so (same_way way x.way) _
    (other_way way x.way off)
advance_quiet plan x bp here act d (Parts way berth is free) off = λ t. refl
advance_quiet plan x bp here act d (Clears way free) off = λ t. not_so (same_way way x.way) _ (other_way way x.way off)
advance_quiet plan x bp here act d out off = refl

-- ---- an entry

abbrev entry_as : ℕ → Call → Reply → Entry
entry_as b call reply = record { box_no = b; call = call; reply = reply }

-- where an entry of box b with this reply leads: the plain line held t0, and s0 trains were sent
abbrev Moved : PlanFields → Section → Call → ℕ → List Passage → ℕ → Reply → BoxState → List Passage → Type 0
Moved plan x call s0 t0 b reply r t =
    (t0 ++ entering plan x (entry_as b call reply) ≡ leaving x (entry_as b call reply) ++ t)
    × AreNumbered s0 (of_way r.sent x.way) (entering plan x (entry_as b call reply))

-- the plain line holds t0, and s0 trains were sent
abbrev Stood : Way → ℕ → List Passage → Fact
Stood w s0 t0 r a l k t = (t ≡ t0) × (of_way r.sent w ≡ s0)

same_number : (n : ℕ) → (n == n) ≡ true
same_number n = elim (eqb_tells n n) [ inl same ↦ same.0 | inr differ ↦ absurd (differ.1 refl) ]

other_number : (m n : ℕ) → m ≢ n → (m == n) ≡ false
other_number m n ne = elim (eqb_tells m n) [ inl same ↦ absurd (ne same.1) | inr differ ↦ differ.0 ]

own_map : (d : Decision) (P Q : Reply → BoxState → Bell → Block → List Passage → Type 0) (l : Bell) (k : Block)
    (t : List Passage) → ((reply : Reply) (h : BoxState) (l : Bell) (k : Block) (t : List Passage)
    → P reply h l k t → Q reply h l k t)
    → ThenOwn d P l k t → ThenOwn d Q l k t
own_map (Here reply here) P Q l k t f p = f reply here l k t p
own_map (OnBell act) P Q l k t f p = f _ _ _ k t p
own_map (OnBlock act) P Q l k t f p = f _ _ l _ t p
own_map (OnPlainLine act) P Q l k t f p = f _ _ l k _ p

elsewhere_map : (d : Decision) (P Q : Reply → BoxState → Type 0) → ((reply : Reply) (h : BoxState) → P reply h
    → Q reply h)
    → ThenElsewhere d P → ThenElsewhere d Q
elsewhere_map (Here reply here) P Q f p = f reply here p
elsewhere_map (OnBell act) P Q f p = λ x. f _ _ (p x)
elsewhere_map (OnBlock act) P Q f p = λ x. f _ _ (p x)
elsewhere_map (OnPlainLine act) P Q f p = λ x. f _ _ (p x)

-- at the rear box
moved_rear : (plan : PlanFields) (x : Section) (call : Call) (s0 : ℕ) (t0 : List Passage) (reply : Reply)
    (before after : BoxState) (t' : List Passage) → x.rear ≢ advance_of x → of_way before.sent x.way ≡ s0
    → Grows x.way before.sent t0 (comes_on plan x call.act reply) after.sent t'
    → Moved plan x call s0 t0 x.rear reply after t'
moved_rear plan x call s0 t0 reply before after t' two sent grows =
    let mine = same_number x.rear in
    let other = other_number x.rear (advance_of x) two in
    rw (mine, other) (
      grows.0,
      subst (λ (n : ℕ). AreNumbered n (of_way after.sent x.way)
          (comes_on plan x call.act reply)) sent grows.1,
    )

-- at the box in advance
moved_advance : (plan : PlanFields) (x : Section) (call : Call) (s0 : ℕ) (t0 : List Passage) (reply : Reply)
    (r : BoxState)
    (t' : List Passage) → x.rear ≢ advance_of x → of_way r.sent x.way ≡ s0 → t0 ≡ goes_off x call.act reply ++ t'
    → Moved plan x call s0 t0 (advance_of x) reply r t'
moved_advance plan x call s0 t0 reply r t' two sent shrinks =
    let mine = same_number (advance_of x) in
    let other = other_number (advance_of x) x.rear (λ e. two (sym e)) in
    rw (mine, other) (append-nil t0 ∙ shrinks, sym sent)

-- at a third box
moved_third : (plan : PlanFields) (x : Section) (call : Call) (s0 : ℕ) (t0 : List Passage) (b : ℕ) (reply : Reply)
    (r : BoxState) (t : List Passage) → b ≢ x.rear → b ≢ advance_of x → t ≡ t0 → of_way r.sent x.way ≡ s0
    → Moved plan x call s0 t0 b reply r t
moved_third plan x call s0 t0 b reply r t nr na same sent =
    let rear = other_number b x.rear nr in
    let advance = other_number b (advance_of x) na in
    rw (rear, advance) (append-nil t0 ∙ sym same, sym sent)

entry_leads : (plan : PlanFields) (x : Section) (call : Call) (s0 : ℕ) (t0 : List Passage) (b : ℕ) → IsSection plan x
    → Leads (Stood x.way s0 t0) (λ b reply r a l k t. Moved plan x call s0 t0 b reply r t) plan b x call
entry_leads plan x call s0 t0 b is =
    let two = (has_boxes (length plan.boxes) x.rear x.way is).two in
    let rear : BoxFields = box_plan_of plan x.rear in
    let ahead : BoxFields = box_plan_of plan (advance_of x) in
    record {
      rear_own = λ mine to r a l k t stood.
          own_map (decided plan x.rear call r) _ (λ reply h l k t'. Moved plan x call s0 t0 x.rear reply h t') l k t
          (λ reply h l k t' grows. moved_rear plan x call s0 t0 reply (at_moment r call.moment) h t' two stood.1
          (subst (λ (line : List Passage). Grows x.way r.sent line
          (comes_on plan x call.act reply) h.sent t') stood.0 grows))
          (rear_grows plan x (at_moment r call.moment) call.act _ l k t (outcome_of plan rear call.act
          (at_moment r call.moment)) to);
      rear_off = λ mine off r a l k t stood.
          elsewhere_map (decided plan x.rear call r) _ (λ reply h. Moved plan x call s0 t0 x.rear reply h t)
          (λ reply h quiet. moved_rear plan x call s0 t0 reply (at_moment r call.moment) h t two stood.1
          (subst (λ (more : List Passage). Grows x.way r.sent t0 more h.sent t) (sym quiet.0)
          (append-nil t0 ∙ sym stood.0, sym quiet.1)))
          (rear_quiet plan x (at_moment r call.moment) call.act _ (outcome_of plan rear call.act
          (at_moment r call.moment)) off);
      advance_own = λ mine at r a l k t stood.
          own_map (decided plan (advance_of x) call a) _ (λ reply h l k t'. Moved plan x call s0 t0
          (advance_of x) reply r t') l k t
          (λ reply h l k t' shrinks. moved_advance plan x call s0 t0 reply r t' two stood.1 (sym stood.0 ∙ shrinks))
          (advance_shrinks plan x ahead (at_moment a call.moment) call.act _ l k t (outcome_of plan ahead call.act
          (at_moment a call.moment)) at);
      advance_off = λ mine off r a l k t stood.
          elsewhere_map (decided plan (advance_of x) call a) _ (λ reply h. Moved plan x call s0 t0
          (advance_of x) reply r t)
          (λ reply h quiet. moved_advance plan x call s0 t0 reply r t two stood.1
          (sym stood.0 ∙ ap (λ (more : List Passage). more ++ t) (sym quiet)))
          (advance_quiet plan x ahead (at_moment a call.moment) call.act _ (outcome_of plan ahead call.act
          (at_moment a call.moment)) off);
      third = λ nr na reply r a l k t stood. moved_third plan x call s0 t0 b reply r t nr na stood.0 stood.1;
    }

-- the trains sent into a section
abbrev sent_in : LineState → Section → ℕ
sent_in state x = of_way (box_at state x.rear).sent x.way

entry_moves : (plan : PlanFields) (x : Section) (state : LineState) (e : Entry) (more : List Entry) → IsPlan plan
    → IsSection plan x → IsStateOf plan state → IsLegalFrom plan state (e ∷ more)
    → (plain_line_of state x ++ entering plan x e ≡ leaving x e ++ plain_line_of (after_entry plan state e) x)
    × AreNumbered (sent_in state x) (sent_in (after_entry plan state e) x) (entering plan x e)
entry_moves plan x state e more sound is shape legal =
    let s0 : ℕ = sent_in state x in
    let t0 : List Passage = plain_line_of state x in
    let moved = step_leads (Stood x.way s0 t0) _ plan state e.box_no x e.call sound shape is legal.0.known
    (entry_leads plan x e.call s0 t0 e.box_no is) (refl, refl) in
    subst (λ (reply : Reply). Moved plan x e.call s0 t0 e.box_no reply (box_at (after_entry plan state e) x.rear)
    (plain_line_of (after_entry plan state e) x))
    (sym legal.1) moved

-- ---- a history

chained : (line on more off left after last : List Passage) → line ++ on ≡ off ++ after → after ++ more ≡ left ++ last
    → line ++ (on ++ more) ≡ (off ++ left) ++ last
chained line on more off left after last h k =
    sym (append_assoc line on more) ∙ ap (λ (l : List Passage). l ++ more) h ∙ append_assoc off after more
    ∙ ap (λ (l : List Passage). off ++ l) k ∙ sym (append_assoc off left last)

history_moves : (plan : PlanFields) (x : Section) (state : LineState) (es : List Entry) → IsPlan plan → IsSection plan x
    → IsStateOf plan state → IsLegalFrom plan state es
    → (plain_line_of state x ++ trains_entered plan x es ≡ trains_left x es ++ plain_line_of
    (state_after plan state es) x)
    × AreNumbered (sent_in state x) (sent_in (state_after plan state es) x) (trains_entered plan x es)
history_moves plan x state [] sound is shape legal = (append-nil (plain_line_of state x), refl)
history_moves plan x state (e ∷ es) sound is shape legal =
    let first = entry_moves plan x state e es sound is shape legal in
    let next : IsStateOf plan (after_entry plan state e) = shape_stays plan state e.box_no e.call shape in
    let rest = history_moves plan x (after_entry plan state e) es sound is next legal.2 in (
      chained (plain_line_of state x) (entering plan x e) (trains_entered plan x es) (leaving x e) (trains_left x es)
          (plain_line_of (after_entry plan state e) x) (plain_line_of (state_after plan
          (after_entry plan state e) es) x) first.0 rest.0,
      numbered_both (sent_in state x) (sent_in (after_entry plan state e) x) (sent_in (state_after plan
          (after_entry plan state e) es) x)
          (entering plan x e) (trains_entered plan x es) first.1 rest.1,
    )

no_train_yet : (plan : PlanFields) (x : Section) → plain_line_of (opening_state plan) x ≡ []
no_train_yet plan x = ap (λ (pair : PairState). of_way pair.lines x.way) (opening_pair_at plan _) ∙ empty x.way where
  empty : (way : Way) → of_way opening_pair.lines way ≡ []
  empty Up = refl
  empty Down = refl

none_sent_yet : (plan : PlanFields) (x : Section) → IsSection plan x → sent_in (opening_state plan) x ≡ 0
none_sent_yet plan x is =
    let within = (has_boxes (length plan.boxes) x.rear x.way is).rear in
    ap (λ (here : BoxState). of_way here.sent x.way) (opening_at plan x.rear within) ∙ zero_sent x.way where
      zero_sent : (way : Way) → of_way (opening_box (length plan.trains) (box_plan_of plan x.rear)).sent way ≡ 0
      zero_sent Up = refl
      zero_sent Down = refl

-- the trains that entered a section are those that left it, and then those on its plain line
pub in_order : (plan : PlanFields) (es : List Entry) (x : Section) → IsPlan plan → IsSection plan x → IsLegal plan es
    → trains_entered plan x es ≡ trains_left x es ++ plain_line_of (state_of plan es) x
in_order plan es x sound is legal =
    ap (λ (l : List Passage). l ++ trains_entered plan x es) (sym (no_train_yet plan x))
    ∙ (history_moves plan x (opening_state plan) es sound is (opening_shape plan) legal).0

-- the trains that entered a section are numbered in turn from 1
pub all_numbered : (plan : PlanFields) (es : List Entry) (x : Section) → IsPlan plan → IsSection plan x
    → IsLegal plan es
    → AreNumbered 0 (length (trains_entered plan x es)) (trains_entered plan x es)
all_numbered plan es x sound is legal =
    let numbered = (history_moves plan x (opening_state plan) es sound is (opening_shape plan) legal).1 in
    let from_zero : AreNumbered 0 (sent_in (state_of plan es) x) (trains_entered plan x es) =
    subst (λ (n : ℕ). AreNumbered n (sent_in (state_of plan es) x) (trains_entered plan x es))
    (none_sent_yet plan x is) numbered in
    let counted = numbered_length 0 (sent_in (state_of plan es) x) (trains_entered plan x es) from_zero in
    subst (λ (n : ℕ). AreNumbered 0 n (trains_entered plan x es)) (omega (arith, counted)) from_zero

-- ---- one train

abbrev numbered_train : ℕ → ℕ → Passage
numbered_train k train = record { number = k; train = train }

head_or_tail : {A : Type 0} (y : A) (ys : List A) (z : A) → Contains (y ∷ ys) z → (y ≡ z) ⊎ Contains ys z
head_or_tail {A} y ys z h = elim (Contains-append_cases (y ∷ []) ys z h) [
  | inl first ↦ elim (Contains-push_cases [] y z first) [
    | inl none ↦ absurd (let low = none.1 in omega (arith, low))
    | inr same ↦ inl same
  ]
  | inr later ↦ inr later
]

one_there : {A : Type 0} (y : A) → Contains (y ∷ []) y
one_there {A} y = Contains-push [] y

numbered_above : (a b : ℕ) (xs : List Passage) (q : Passage) → AreNumbered a b xs → Contains xs q → a < q.number
numbered_above a b [] q h there = absurd (let low = there.1 in omega (arith, low))
numbered_above a b (x ∷ xs) q h there = elim (head_or_tail x xs q there) [
  | inl same ↦ let number : q.number ≡ a + 1 = ap (λ (p : Passage). p.number) (sym same) ∙ h.0 in omega (arith, number)
  | inr later ↦ let more = numbered_above (a + 1) b xs q h.1 later in omega (arith, more)
]

one_number : (a b : ℕ) (xs : List Passage) (p q : Passage) → AreNumbered a b xs → Contains xs p → Contains xs q
    → p.number ≡ q.number → p.train ≡ q.train
one_number a b [] p q h one other same = absurd (let low = one.1 in omega (arith, low))
one_number a b (x ∷ xs) p q h one other same =
    by_cases (head_or_tail x xs p one) (head_or_tail x xs q other) (one_number (a + 1) b xs p q h.1) where
      by_cases : (x ≡ p) ⊎ Contains xs p → (x ≡ q) ⊎ Contains xs q
          → (Contains xs p → Contains xs q → p.number ≡ q.number → p.train ≡ q.train) → p.train ≡ q.train
      by_cases (inl e) (inl f) rec = ap (λ (z : Passage). z.train) (sym e ∙ f)
      by_cases (inl e) (inr later) rec =
          let above = numbered_above (a + 1) b xs q h.1 later in
          let number : p.number ≡ a + 1 = ap (λ (z : Passage). z.number) (sym e) ∙ h.0 in
          absurd (omega (arith, above, number, same))
      by_cases (inr later) (inl f) rec =
          let above = numbered_above (a + 1) b xs p h.1 later in
          let number : q.number ≡ a + 1 = ap (λ (z : Passage). z.number) (sym f) ∙ h.0 in
          absurd (omega (arith, above, number, same))
      by_cases (inr one) (inr two) rec = rec one two same

entered_there : (plan : PlanFields) (x : Section) (k train : ℕ) (e : Entry) (es : List Entry)
    → EntersAs plan x k train e
    → Contains es e → Contains (trains_entered plan x es) (numbered_train k train)
entered_there plan x k train e [] enters there = absurd (let low = there.1 in omega (arith, low))
entered_there plan x k train e (f ∷ es) enters there = by_cases (head_or_tail f es e there)
    (entered_there plan x k train e es enters) where
      by_cases : (f ≡ e) ⊎ Contains es e
          → (Contains es e → Contains (trains_entered plan x es) (numbered_train k train))
          → Contains (trains_entered plan x (f ∷ es)) (numbered_train k train)
      by_cases (inl same) rec =
          let box : (e.box_no == x.rear) ≡ true = subst (λ (n : ℕ). (n == x.rear) ≡ true) (sym enters.box)
          (same_number x.rear) in
          let act : is_entering plan x e.call.act ≡ true = enters.act in
          let one : entering plan x e ≡ numbered_train k train ∷ [] =
          so ((e.box_no == x.rear) && is_entering plan x e.call.act) (train_entered e.reply) (rw (box, act) refl)
          ∙ ap (λ (r : Reply). train_entered r) enters.reply in
          let mine : entering plan x f ≡ numbered_train k train ∷ [] =
          ap (λ (z : Entry). entering plan x z) same ∙ one in
          Contains-append_left (entering plan x f) (trains_entered plan x es) (numbered_train k train)
          (subst (λ (l : List Passage). Contains l (numbered_train k train)) (sym mine) (one_there
          (numbered_train k train)))
      by_cases (inr later) rec =
          Contains-append_right (entering plan x f) (trains_entered plan x es) (numbered_train k train) (rec later)

left_reply : (k train : ℕ) (reply : Reply) → (reply ≡ replies.Berthed train k) ⊎ (reply ≡ replies.Cleared train k)
    → train_left reply ≡ numbered_train k train ∷ []
left_reply k train reply (inl e) = ap (λ (r : Reply). train_left r) e
left_reply k train reply (inr e) = ap (λ (r : Reply). train_left r) e

left_there : (x : Section) (k train : ℕ) (e : Entry) (es : List Entry) → LeavesAs x k train e
    → Contains es e → Contains (trains_left x es) (numbered_train k train)
left_there x k train e [] leaves there = absurd (let low = there.1 in omega (arith, low))
left_there x k train e (f ∷ es) leaves there = by_cases (head_or_tail f es e there)
    (left_there x k train e es leaves) where
      by_cases : (f ≡ e) ⊎ Contains es e → (Contains es e → Contains (trains_left x es) (numbered_train k train))
          → Contains (trains_left x (f ∷ es)) (numbered_train k train)
      by_cases (inl same) rec =
          let box : (e.box_no == advance_of x) ≡ true = subst (λ (n : ℕ). (n == advance_of x) ≡ true) (sym leaves.box)
          (same_number (advance_of x)) in
          let act : is_leaving x e.call.act ≡ true = leaves.act in
          let one : leaving x e ≡ numbered_train k train ∷ [] =
          so ((e.box_no == advance_of x) && is_leaving x e.call.act) (train_left e.reply) (rw (box, act) refl)
          ∙ left_reply k train e.reply leaves.reply in
          let mine : leaving x f ≡ numbered_train k train ∷ [] = ap (λ (z : Entry). leaving x z) same ∙ one in
          Contains-append_left (leaving x f) (trains_left x es) (numbered_train k train)
          (subst (λ (l : List Passage). Contains l (numbered_train k train)) (sym mine) (one_there
          (numbered_train k train)))
      by_cases (inr later) rec =
          Contains-append_right (leaving x f) (trains_left x es) (numbered_train k train) (rec later)

-- the train that leaves a section as its k-th entered it as its k-th
pub one_train : (plan : PlanFields) (es : List Entry) (e f : Entry) (x : Section) (k train other : ℕ) → IsPlan plan
    → IsSection plan x → IsLegal plan es → Contains es e → Contains es f → EntersAs plan x k train e
    → LeavesAs x k other f → train ≡ other
one_train plan es e f x k train other sound is legal e_there f_there enters leaves =
    let order = in_order plan es x sound is legal in
    let left : Contains (trains_left x es ++ plain_line_of (state_of plan es) x) (numbered_train k other) =
    Contains-append_left (trains_left x es) (plain_line_of (state_of plan es) x) (numbered_train k other)
    (left_there x k other f es leaves f_there) in
    one_number 0 (length (trains_entered plan x es)) (trains_entered plan x es) (numbered_train k train)
    (numbered_train k other) (all_numbered plan es x sound is legal) (entered_there plan x k train e es enters e_there)
    (subst (λ (l : List Passage). Contains l (numbered_train k other)) (sym order) left) refl
