-- What each reply tells of its word: where the law gives it again, and what becomes of the word.
use Rattle.std.proofs.Common.{ℕ, ◌+◌, ◌≡◌, List, Option, Some, None, Bool, true, false, refl, sym, ap, ◌∙◌, arith}
use Rattle.std.specs.Prelude.{◌==◌}
use Rattle.block_words.specs.declared.Position.{Position}
use Rattle.block_words.specs.declared.Position.TheVariants.{Normal, LineClear, TrainOnLine}
use Rattle.block_words.specs.declared.Way.{Way}
use Rattle.line_plan.specs.Frames.{BoxFields}
use Rattle.line_plan.specs.Plans.{PlanFields}
use Rattle.line_law.specs.declared.call.Act.{Act}
use Rattle.line_law.specs.declared.call.Act.TheVariants as acts
use Rattle.line_law.specs.declared.call.Reply.{Reply}
use Rattle.line_law.specs.declared.call.Reply.TheVariants.{Turned}
use Rattle.line_law.specs.declared.state.Bell.{Bell}
use Rattle.line_law.specs.declared.state.Block.{Block}
use Rattle.line_law.specs.declared.state.BoxState.{BoxState}
use Rattle.line_law.specs.declared.state.Passage.{Passage}
use Rattle.line_law.specs.Arrivals.{first_train, next_number, train_awaited, train_berthed, train_cleared, train_parted}
use Rattle.line_law.specs.Bells.{await_bell, awaited, hear, heard, ring, rung}
use Rattle.line_law.specs.Decisions.{Decision, Here, OnBell, OnBlock, OnPlainLine, Told}
use Rattle.line_law.specs.Instruments.{await_block, line_turned, same_position, turned}
use Rattle.line_law.specs.Levers.{is_unspent_clear, pulled_under}
use Rattle.line_law.specs.Outcomes.{Outcome, Refused, Rings, Hears, AwaitsBell, Turns, AwaitsBlock}
use Rattle.line_law.specs.Outcomes.{Pulls, PullsStarter, Puts, Brings, GoesTo, GoesAway, Enters}
use Rattle.line_law.specs.Outcomes.{AwaitsTrain, Berths, Parts, Clears, Winds, Releases}
use Rattle.line_law.specs.Trains.{entered, holds}
use Rattle.line_law.specs.Ways.{of_way, with_way}
use Rattle.line_journal.specs.Fits.{FitsBell, FitsBlock, FitsPlainLine, bell_made, block_made, plain_line_made}

-- two outcomes have one reply and one box
abbrev pub Alike : {W : Type 0} → Told W → Told W → Type 0
Alike x y = (x.reply ≡ y.reply) × (x.here ≡ y.here)

-- a function of a word gives a reply that fits the word, makes of the word what the reply says, and comes out alike
-- wherever that reply fits
pub record WordLaw {W : Type 0} (F : Reply → W → Type 0) (made : Reply → W → W) (f : W → Told W) : Type 0 where
  pub fits : (w : W) → F (f w).reply w
  pub makes : (w : W) → (f w).word ≡ made (f w).reply w
  pub again : (w v : W) → F (f w).reply v → Alike (f v) (f w)

-- ---- bells

abbrev bell_of : ℕ → Option ℕ → Bell
bell_of count unheard = record { count = count; unheard = unheard }

one_bell : (f : Bell → Told Bell) (n count : ℕ) (x u : Option ℕ) → n ≡ count → x ≡ u
    → Alike (f (bell_of n x)) (f (bell_of count u))
one_bell f n count x u e g =
    let same : bell_of n x ≡ bell_of count u =
    ap (λ (k : ℕ). bell_of k x) e ∙ ap (λ (y : Option ℕ). bell_of count y) g in
    (ap (λ (b : Bell). (f b).reply) same, ap (λ (b : Bell). (f b).here) same)

rung_fits : (here : BoxState) (side : Way) (code count : ℕ) (u : Option ℕ)
    → FitsBell (rung here side code count u).reply (bell_of count u)
rung_fits here side code count None = (refl, refl)
rung_fits here side code count (Some held) = (refl, refl)

rung_makes : (here : BoxState) (side : Way) (code count : ℕ) (u : Option ℕ)
    → (rung here side code count u).word ≡ bell_made (acts.Ring side code) (rung here side code count u).reply
    (bell_of count u)
rung_makes here side code count None = refl
rung_makes here side code count (Some held) = refl

rung_again : (here : BoxState) (side : Way) (code count : ℕ) (u : Option ℕ) (n : ℕ) (x : Option ℕ)
    → FitsBell (rung here side code count u).reply (bell_of n x)
    → Alike (ring here side code (bell_of n x)) (ring here side code (bell_of count u))
rung_again here side code count None n x h = one_bell (ring here side code) n count x None (omega (arith, h.0)) h.1
rung_again here side code count (Some held) n x h = one_bell (ring here side code) n count x (Some held) h.0 h.1

ring_law : (here : BoxState) (side : Way) (code : ℕ) → WordLaw FitsBell (bell_made (acts.Ring side code))
    (ring here side code)
ring_law here side code =
    record {
      fits = λ w. rung_fits here side code w.count w.unheard;
      makes = λ w. rung_makes here side code w.count w.unheard;
      again = λ w v h. rung_again here side code w.count w.unheard v.count v.unheard h;
    }

heard_fits : (here : BoxState) (count : ℕ) (u : Option ℕ) → FitsBell (heard here count u).reply (bell_of count u)
heard_fits here count None = (refl, refl)
heard_fits here count (Some held) = (refl, refl)

heard_makes : (act : Act) (here : BoxState) (count : ℕ) (u : Option ℕ)
    → (heard here count u).word ≡ bell_made act (heard here count u).reply (bell_of count u)
heard_makes act here count None = refl
heard_makes act here count (Some held) = refl

heard_again : (here : BoxState) (count : ℕ) (u : Option ℕ) (n : ℕ) (x : Option ℕ)
    → FitsBell (heard here count u).reply (bell_of n x) → Alike (hear here (bell_of n x)) (hear here (bell_of count u))
heard_again here count None n x h = one_bell (hear here) n count x None h.0 h.1
heard_again here count (Some held) n x h = one_bell (hear here) n count x (Some held) h.0 h.1

hear_law : (act : Act) (here : BoxState) → WordLaw FitsBell (bell_made act) (hear here)
hear_law act here =
    record {
      fits = λ w. heard_fits here w.count w.unheard;
      makes = λ w. heard_makes act here w.count w.unheard;
      again = λ w v h. heard_again here w.count w.unheard v.count v.unheard h;
    }

awaited_fits_by : (here : BoxState) (code count held : ℕ) (is : Bool) → (held == code) ≡ is
    → FitsBell (awaited here code count (Some held)).reply (bell_of count (Some held))
awaited_fits_by here code count held true e = rw e (refl, refl)
awaited_fits_by here code count held false e = rw e (refl, refl)

awaited_fits : (here : BoxState) (code count : ℕ) (u : Option ℕ)
    → FitsBell (awaited here code count u).reply (bell_of count u)
awaited_fits here code count None = (refl, refl)
awaited_fits here code count (Some held) = awaited_fits_by here code count held (held == code) refl

awaited_makes_by : (act : Act) (here : BoxState) (code count held : ℕ) (is : Bool) → (held == code) ≡ is
    → (awaited here code count (Some held)).word ≡ bell_made act (awaited here code count (Some held)).reply
    (bell_of count (Some held))
awaited_makes_by act here code count held true e = rw e refl
awaited_makes_by act here code count held false e = rw e refl

awaited_makes : (act : Act) (here : BoxState) (code count : ℕ) (u : Option ℕ)
    → (awaited here code count u).word ≡ bell_made act (awaited here code count u).reply (bell_of count u)
awaited_makes act here code count None = refl
awaited_makes act here code count (Some held) = awaited_makes_by act here code count held (held == code) refl

awaited_one_by : (here : BoxState) (code count held n : ℕ) (x : Option ℕ) (is : Bool) → (held == code) ≡ is
    → FitsBell (awaited here code count (Some held)).reply (bell_of n x) → (n ≡ count) × (x ≡ Some held)
awaited_one_by here code count held n x true e = rw e (λ h. h)
awaited_one_by here code count held n x false e = rw e (λ h. h)

awaited_again : (here : BoxState) (code count : ℕ) (u : Option ℕ) (n : ℕ) (x : Option ℕ)
    → FitsBell (awaited here code count u).reply (bell_of n x)
    → Alike (await_bell here code (bell_of n x)) (await_bell here code (bell_of count u))
awaited_again here code count None n x h = one_bell (await_bell here code) n count x None h.0 h.1
awaited_again here code count (Some held) n x h =
    let same = awaited_one_by here code count held n x (held == code) refl h in
    one_bell (await_bell here code) n count x (Some held) same.0 same.1

await_bell_law : (act : Act) (here : BoxState) (code : ℕ) → WordLaw FitsBell (bell_made act) (await_bell here code)
await_bell_law act here code =
    record {
      fits = λ w. awaited_fits here code w.count w.unheard;
      makes = λ w. awaited_makes act here code w.count w.unheard;
      again = λ w v h. awaited_again here code w.count w.unheard v.count v.unheard h;
    }

-- ---- instruments

turn_law : (here : BoxState) (way : Way) (p : Position) → WordLaw (FitsBlock (acts.Turn way p))
    (block_made (acts.Turn way p)) (turned here way p)
turn_law here way p =
    record {
      fits = λ w. refl;
      makes = λ w. refl;
      again =
          λ w v h. (
            ap Turned h,
            ap (λ (k : ℕ). let there : BoxState =
                record here { incoming = with_way here.incoming way (line_turned (of_way here.incoming way) p k) } in
                there) h,
          );
    }

-- positions that test as the same are equal
pub one_position : (p q : Position) → same_position p q ≡ true → p ≡ q
one_position Normal Normal e = refl
one_position Normal LineClear e = absurd cc
one_position Normal TrainOnLine e = absurd cc
one_position LineClear Normal e = absurd cc
one_position LineClear LineClear e = refl
one_position LineClear TrainOnLine e = absurd cc
one_position TrainOnLine Normal e = absurd cc
one_position TrainOnLine LineClear e = absurd cc
one_position TrainOnLine TrainOnLine e = refl

seen_fits : (here : BoxState) (way : Way) (p : Position) (w : Block) (is : Bool) → same_position w.position p ≡ is
    → FitsBlock (acts.AwaitBlock way p) (await_block here p w).reply w
seen_fits here way p w true e = rw e (refl, one_position w.position p e)
seen_fits here way p w false e = rw e (refl, refl)

seen_makes : (here : BoxState) (way : Way) (p : Position) (w : Block) (is : Bool) → same_position w.position p ≡ is
    → (await_block here p w).word ≡ block_made (acts.AwaitBlock way p) (await_block here p w).reply w
seen_makes here way p w true e = rw e refl
seen_makes here way p w false e = rw e refl

-- the reply on an instrument that shows the same at the same turn
seen_alike : (here : BoxState) (p : Position) (w v : Block) (is : Bool) → same_position w.position p ≡ is
    → v.turns ≡ w.turns → v.position ≡ w.position → Alike (await_block here p v) (await_block here p w)
seen_alike here p w v true e t s =
    let f : same_position v.position p ≡ true = ap (λ (x : Position). same_position x p) s ∙ e in
    (rw (e, f, t) refl, rw (e, f) refl)
seen_alike here p w v false e t s =
    let f : same_position v.position p ≡ false = ap (λ (x : Position). same_position x p) s ∙ e in
    (rw (e, f, t, s) refl, rw (e, f) refl)

seen_again : (here : BoxState) (way : Way) (p : Position) (w v : Block) (is : Bool) → same_position w.position p ≡ is
    → FitsBlock (acts.AwaitBlock way p) (await_block here p w).reply v → (v.turns ≡ w.turns) × (v.position ≡ w.position)
seen_again here way p w v true e = rw e (λ h. (h.0, h.1 ∙ sym (one_position w.position p e)))
seen_again here way p w v false e = rw e (λ h. h)

look_law : (here : BoxState) (way : Way) (p : Position) → WordLaw (FitsBlock (acts.AwaitBlock way p))
    (block_made (acts.AwaitBlock way p)) (await_block here p)
look_law here way p =
    record {
      fits = λ w. seen_fits here way p w (same_position w.position p) refl;
      makes = λ w. seen_makes here way p w (same_position w.position p) refl;
      again =
          λ w v h. let same = seen_again here way p w v (same_position w.position p) refl h in
          seen_alike here p w v (same_position w.position p) refl same.0 same.1;
    }

pull_fits : (act : Act) (here after : BoxState) (way : Way) (w : Block) (is : Bool) → is_unspent_clear w ≡ is
    → FitsBlock act (pulled_under here after way w).reply w
pull_fits act here after way w true e = rw e (refl, e)
pull_fits act here after way w false e = rw e (refl, refl, refl)

pull_makes : (act : Act) (here after : BoxState) (way : Way) (w : Block) (is : Bool) → is_unspent_clear w ≡ is
    → (pulled_under here after way w).word ≡ block_made act (pulled_under here after way w).reply w
pull_makes act here after way w true e = rw e refl
pull_makes act here after way w false e = rw e refl

abbrev block_of : ℕ → Position → Bool → Block
block_of turns shown spent = record { turns = turns; position = shown; spent = spent }

one_block : (f : Block → Told Block) (v w : Block) → v.turns ≡ w.turns → v.position ≡ w.position → v.spent ≡ w.spent
    → Alike (f v) (f w)
one_block f v w t p s =
    let same : block_of v.turns v.position v.spent ≡ block_of w.turns w.position w.spent =
    ap (λ (k : ℕ). block_of k v.position v.spent) t ∙ ap (λ (x : Position). block_of w.turns x v.spent) p
    ∙ ap (λ (b : Bool). block_of w.turns w.position b) s in
    (ap (λ (b : Block). (f b).reply) same, ap (λ (b : Block). (f b).here) same)

pull_under : (here after : BoxState) (way : Way) (w v : Block) → is_unspent_clear w ≡ true → is_unspent_clear v ≡ true
    → v.turns ≡ w.turns → Alike (pulled_under here after way v) (pulled_under here after way w)
pull_under here after way w v e f t = (rw (e, f, t) refl, rw (e, f) refl)

pull_told : (act : Act) (here after : BoxState) (way : Way) (w v : Block) → is_unspent_clear w ≡ true
    → FitsBlock act (pulled_under here after way w).reply v → (v.turns ≡ w.turns) × (is_unspent_clear v ≡ true)
pull_told act here after way w v e = rw e (λ h. h)

held_told : (act : Act) (here after : BoxState) (way : Way) (w v : Block) → is_unspent_clear w ≡ false
    → FitsBlock act (pulled_under here after way w).reply v → (v.turns ≡ w.turns) × (v.position ≡ w.position)
    × (v.spent ≡ w.spent)
held_told act here after way w v e = rw e (λ h. h)

pull_again : (act : Act) (here after : BoxState) (way : Way) (w v : Block) (is : Bool) → is_unspent_clear w ≡ is
    → FitsBlock act (pulled_under here after way w).reply v → Alike (pulled_under here after way v)
    (pulled_under here after way w)
pull_again act here after way w v true e h =
    let told = pull_told act here after way w v e h in pull_under here after way w v e told.1 told.0
pull_again act here after way w v false e h =
    let told = held_told act here after way w v e h in one_block (pulled_under here after way) v w told.0 told.1 told.2

pull_law : (act : Act) (here after : BoxState) (way : Way) → WordLaw (FitsBlock act) (block_made act)
    (pulled_under here after way)
pull_law act here after way =
    record {
      fits = λ w. pull_fits act here after way w (is_unspent_clear w) refl;
      makes = λ w. pull_makes act here after way w (is_unspent_clear w) refl;
      again = λ w v h. pull_again act here after way w v (is_unspent_clear w) refl h;
    }

-- ---- plain lines

enter_fits : (k : ℕ) (here left : BoxState) (way : Way) (train : ℕ) (w : List Passage) (is : Bool) → holds w k ≡ is
    → FitsPlainLine (entered k here left way train w).reply w
enter_fits k here left way train w true e = rw e e
enter_fits k here left way train w false e = rw e e

enter_makes : (k : ℕ) (here left : BoxState) (way : Way) (train : ℕ) (w : List Passage) (is : Bool) → holds w k ≡ is
    → (entered k here left way train w).word ≡ plain_line_made (entered k here left way train w).reply w
enter_makes k here left way train w true e = rw e refl
enter_makes k here left way train w false e = rw e refl

enter_same : (k : ℕ) (here left : BoxState) (way : Way) (train : ℕ) (w v : List Passage) (is : Bool) → holds w k ≡ is
    → holds v k ≡ is → Alike (entered k here left way train v) (entered k here left way train w)
enter_same k here left way train w v true e f = (rw (e, f) refl, rw (e, f) refl)
enter_same k here left way train w v false e f = (rw (e, f) refl, rw (e, f) refl)

enter_holds : (k : ℕ) (here left : BoxState) (way : Way) (train : ℕ) (w v : List Passage) (is : Bool) → holds w k ≡ is
    → FitsPlainLine (entered k here left way train w).reply v → holds v k ≡ is
enter_holds k here left way train w v true e = rw e (λ h. h)
enter_holds k here left way train w v false e = rw e (λ h. h)

enter_law : (k : ℕ) (here left : BoxState) (way : Way) (train : ℕ)
    → WordLaw FitsPlainLine plain_line_made (entered k here left way train)
enter_law k here left way train =
    record {
      fits = λ w. enter_fits k here left way train w (holds w k) refl;
      makes = λ w. enter_makes k here left way train w (holds w k) refl;
      again =
          λ w v h. enter_same k here left way train w v (holds w k) refl
          (enter_holds k here left way train w v (holds w k) refl h);
    }

-- the calls at the end in advance go by the next train
abbrev ByTrain : ℕ → (Option ℕ → List Passage → Told (List Passage)) → Type 0
ByTrain j by = (o : Option ℕ) (w : List Passage)
    → (first_train j w ≡ o → FitsPlainLine (by o w).reply w) × ((by o w).word ≡ plain_line_made (by o w).reply w)
    × ((v : List Passage) → FitsPlainLine (by o w).reply v → first_train j v ≡ o)
    × ((v : List Passage) → Alike (by o v) (by o w))

by_train : (j : ℕ) (by : Option ℕ → List Passage → Told (List Passage)) → ByTrain j by
    → WordLaw FitsPlainLine plain_line_made (λ w. by (first_train j w) w)
by_train j by law =
    record {
      fits = λ w. (law (first_train j w) w).0 refl;
      makes = λ w. (law (first_train j w) w).1;
      again = λ w v h.
          let same : first_train j v ≡ first_train j w = (law (first_train j w) w).2 v h in
          let alike = (law (first_train j w) w).3 v in
          (ap (λ (o : Option ℕ). (by o v).reply) same ∙ alike.0, ap (λ (o : Option ℕ). (by o v).here) same ∙ alike.1);
    }

awaits_train : (here : BoxState) (j : ℕ) → ByTrain j (λ o w. train_awaited o here j w)
awaits_train here j None w = (λ e. e, refl, λ v h. h, λ v. (refl, refl))
awaits_train here j (Some train) w = (λ e. e, refl, λ v h. h, λ v. (refl, refl))

berths_train : (here : BoxState) (way : Way) (place j : ℕ) → ByTrain j (λ o w. train_berthed o here way place j w)
berths_train here way place j None w = (λ e. e, refl, λ v h. h, λ v. (refl, refl))
berths_train here way place j (Some train) w = (λ e. e, refl, λ v h. h, λ v. (refl, refl))

parts_train : (here : BoxState) (way : Way) (place j : ℕ) → ByTrain j (λ o w. train_parted o here way place j w)
parts_train here way place j None w = (λ e. e, refl, λ v h. h, λ v. (refl, refl))
parts_train here way place j (Some train) w = (λ e. e, refl, λ v h. h, λ v. (refl, refl))

clears_train : (here : BoxState) (way : Way) (j : ℕ) → ByTrain j (λ o w. train_cleared o here way j w)
clears_train here way j None w = (λ e. e, refl, λ v h. h, λ v. (refl, refl))
clears_train here way j (Some train) w = (λ e. e, refl, λ v h. h, λ v. (refl, refl))

-- ---- each call

-- the law of a decision on a word
abbrev pub LawOf : Act → Decision → Type 0
LawOf act (Here reply here) = Unit {0}
LawOf act (OnBell f) = WordLaw FitsBell (bell_made act) f
LawOf act (OnBlock f) = WordLaw (FitsBlock act) (block_made act) f
LawOf act (OnPlainLine f) = WordLaw FitsPlainLine plain_line_made f

-- what each kind of decision makes of its word
pub law_of : (plan : PlanFields) (box_plan : BoxFields) (here : BoxState) (act : Act) (d : Decision)
    → Outcome plan box_plan here act d → LawOf act d
law_of plan box_plan here act d (Refused a reply refused) = tt
law_of plan box_plan here act d (Rings side code) = ring_law here side code
law_of plan box_plan here act d (Hears side) = hear_law (acts.Hear side) here
law_of plan box_plan here act d (AwaitsBell side code) = await_bell_law (acts.AwaitBell side code) here code
law_of plan box_plan here act d (Turns way p b e free) = turn_law here way p
law_of plan box_plan here act d (AwaitsBlock way p) = look_law here way p
law_of plan box_plan here act d (Pulls lever e free) = tt
law_of plan box_plan here act d (PullsStarter lever way e free) = pull_law (acts.Pull lever) here _ way
law_of plan box_plan here act d (Puts lever free) = tt
law_of plan box_plan here act d (Brings train free) = tt
law_of plan box_plan here act d (GoesTo a lever signal train place e to there moves) = tt
law_of plan box_plan here act d (GoesAway a lever signal train e to there moves) = tt
law_of plan box_plan here act d (Enters a lever signal train way e to there moves) =
    enter_law (of_way here.sent way + 1) here _ way train
law_of plan box_plan here act d (AwaitsTrain way) =
    by_train (next_number here way) (λ o w. train_awaited o here (next_number here way) w)
    (awaits_train here (next_number here way))
law_of plan box_plan here act d (Berths way b e free) =
    by_train (next_number here way) (λ o w. train_berthed o here way b.place (next_number here way) w)
    (berths_train here way b.place (next_number here way))
law_of plan box_plan here act d (Parts way b e free) =
    by_train (next_number here way) (λ o w. train_parted o here way b.place (next_number here way) w)
    (parts_train here way b.place (next_number here way))
law_of plan box_plan here act d (Clears way free) =
    by_train (next_number here way) (λ o w. train_cleared o here way (next_number here way) w)
    (clears_train here way (next_number here way))
law_of plan box_plan here act d (Winds way free) = tt
law_of plan box_plan here act d (Releases way free) = tt
