-- The plan of the made line knows the calls of its scripts.
use Rattle.std.proofs.Common.{◌≡◌, ℕ, ◌+◌, ◌-◌, ◌*◌, ◌%◌, ◌<◌, ◌≤◌, zero, suc, Bool, true, false, cond, eqb, leb, ltb}
use Rattle.std.proofs.Common.{◌&&◌, List, [], ◌∷◌, ◌++◌, length, get_or, slice_get, Some, None, Result, Ok, refl, sym}
use Rattle.std.proofs.Common.{ap, subst, ◌∙◌, arith}
use Rattle.std.specs.List.{list_all}
use Rattle.std.proofs.lemmas.Bool.Decides.{nat_tests}
use Rattle.std.proofs.lemmas.List.{length-append, get_or_append_left}
use Rattle.std.proofs.lemmas.List.Folds.{list_all-append}
use Rattle.std.proofs.lemmas.Option.{slice_get-get_or}
use Rattle.std.proofs.Math.Seq.{get_or-append_seam}
use Rattle.rail_text.specs.Gives.{Fault}
use Rattle.rail_text.proofs.PrintedLines.{both}
use Rattle.bell_codes.specs.Table.{opening_codes}
use Rattle.block_words.specs.declared.Way.TheVariants.{Up, Down}
use Rattle.line_plan.specs.Plans.{PlanFields, no_train, is_train, train_at}
use Rattle.plan_draft.specs.Reading.{plan_of}
use Rattle.line_law.specs.Known.{knows_act, knows_call}
use Rattle.line_law.specs.Serial.{AreCalls}
use Rattle.line_law.specs.declared.call.Act.{Act}
use Rattle.line_law.specs.declared.call.Act.TheVariants.{Bring}
use Rattle.line_law.specs.declared.call.Call.{Call}
use Rattle.script_text.specs.Scripts.{IsScriptOf}
use Rattle.script_text.specs.declared.script.Script.{Script}
use Rattle.line_maker.specs.MadeTrains.{class_code, runs_down, train_moment}
use Rattle.line_maker.specs.MadeTexts.{made_plan_text}
use Rattle.line_maker.specs.MadeCalls.{send, take_in, off, down_acts, up_acts, acts_for, calls_at, made_calls}
use Rattle.line_maker.specs.MadeCalls.{made_scripts, AreLineScripts}
use Rattle.line_maker.specs.declared.working.MadeBox.{MadeBox}
use Rattle.line_maker.specs.declared.working.MadeBox.TheVariants.{Ash, Beech, Cedar}
use Rattle.line_maker.proofs.MadeLine.{ash, beech, cedar, made_train, made_trains, made_plan, brought_at}
use Rattle.line_maker.proofs.TrainNames.{trains_count}
use Rattle.line_maker.proofs.PlanRead.{made_read}

-- the number of a box
abbrev number_of : MadeBox → ℕ
number_of Ash = 0
number_of Beech = 1
number_of Cedar = 2

-- ---- acts

-- the plan of n trains knows these acts of a box
abbrev Knows : ℕ → ℕ → List Act → Type 0
Knows n b acts = list_all (knows_act (made_plan n) b) acts ≡ true

knows_both : (n b : ℕ) (front acts : List Act) → Knows n b front → Knows n b acts → Knows n b (front ++ acts)
knows_both n b front acts h k = rw (list_all-append (knows_act (made_plan n) b) front acts, h, k) refl

knows_more : (n b : ℕ) (act : Act) (acts : List Act) → knows_act (made_plan n) b act ≡ true → Knows n b acts
    → Knows n b (act ∷ acts)
knows_more n b act acts h k = rw (h, k) refl

-- the number of a code of the plan's table
abbrev IsCode : ℕ → Type 0
IsCode code = leb 1 code && leb code 10 ≡ true

sent_from_ash : (n code : ℕ) → IsCode code → Knows n 0 (send Down 2 code)
unfolding send opening_codes ash beech cedar
sent_from_ash n code good = rw good refl

sent_from_beech : (n code : ℕ) → IsCode code → Knows n 1 (send Down 2 code)
unfolding send opening_codes ash beech cedar
sent_from_beech n code good = rw good refl

sent_up_from_beech : (n code : ℕ) → IsCode code → Knows n 1 (send Up 4 code)
unfolding send opening_codes ash beech cedar
sent_up_from_beech n code good = rw good refl

sent_from_cedar : (n code : ℕ) → IsCode code → Knows n 2 (send Up 4 code)
unfolding send opening_codes ash beech cedar
sent_from_cedar n code good = rw good refl

taken_at_ash : (n code : ℕ) → IsCode code → Knows n 0 (take_in Down Up 3 code)
unfolding take_in opening_codes ash beech cedar
taken_at_ash n code good = rw good refl

taken_at_beech : (n code : ℕ) → IsCode code → Knows n 1 (take_in Up Down 1 code)
unfolding take_in opening_codes ash beech cedar
taken_at_beech n code good = rw good refl

taken_up_at_beech : (n code : ℕ) → IsCode code → Knows n 1 (take_in Down Up 3 code)
unfolding take_in opening_codes ash beech cedar
taken_up_at_beech n code good = rw good refl

taken_at_cedar : (n code : ℕ) → IsCode code → Knows n 2 (take_in Up Down 1 code)
unfolding take_in opening_codes ash beech cedar
taken_at_cedar n code good = rw good refl

off_at_ash : (n : ℕ) → Knows n 0 (off 4)
unfolding off ash beech cedar
off_at_ash n = refl

off_at_cedar : (n : ℕ) → Knows n 2 (off 2)
unfolding off ash beech cedar
off_at_cedar n = refl

class_is_code : (i : ℕ) → IsCode (class_code i)
class_is_code i = go (eqb (i % 4) 1) (eqb (i % 4) 2) (eqb (i % 4) 3) where
  go : (a b c : Bool) → IsCode (cond a 1 (cond b 0 (cond c 2 3)) + 2)
  go true b c = refl
  go false true c = refl
  go false false true = refl
  go false false false = refl

-- ---- trains

is_below : (k n : ℕ) → ltb k n ≡ true → k < n
is_below k n h = grind (arith, nat_tests)

is_not_below : (k n : ℕ) → ltb k n ≡ false → n ≤ k
is_not_below k n h = grind (arith, nat_tests)

train_is : (n k : ℕ) → k < n → get_or (made_trains n) k no_train ≡ made_train (k + 1)
unfolding made_trains
train_is zero k h = absurd (omega arith)
train_is (suc n) k h = go (ltb k n) refl (train_is n k) where
  seam : k ≡ n → get_or (made_trains n ++ made_train (suc n) ∷ []) k no_train ≡ made_train (k + 1)
  seam e =
      ap (λ (i : ℕ). get_or (made_trains n ++ made_train (suc n) ∷ []) i no_train) (e ∙ sym (trains_count n))
      ∙ get_or-append_seam (made_trains n) (made_train (suc n)) [] no_train ∙ ap made_train (omega arith)

  go : (t : Bool) → ltb k n ≡ t → (k < n → get_or (made_trains n) k no_train ≡ made_train (k + 1))
      → get_or (made_trains n ++ made_train (suc n) ∷ []) k no_train ≡ made_train (k + 1)
  go true f before =
      get_or_append_left (made_trains n) (made_train (suc n) ∷ []) no_train k
      (omega (arith, trains_count n, is_below k n f)) ∙ before (is_below k n f)
  go false f before = seam (omega (arith, is_not_below k n f))

-- a train of the plan, brought at its box
train_known : (n i : ℕ) → 1 ≤ i → i ≤ n → knows_act (made_plan n) (brought_at i) (Bring i) ≡ true
train_known n i low high =
    let at : train_at (made_trains n) i ≡ made_train i =
    train_is n (i - 1) (omega arith) ∙ ap made_train (omega arith) in
    let some : is_train (made_trains n) i ≡ true = some_train n i low high in
    rw (some, at) (grind (arith, nat_tests)) where
      counted : (m i n : ℕ) → m ≡ n → 1 ≤ i → i ≤ n → ltb 0 i && ltb (i - 1) m ≡ true
      counted m i n e low high = grind (arith, nat_tests)

      some_train : (n i : ℕ) → 1 ≤ i → i ≤ n → is_train (made_trains n) i ≡ true
      some_train n i low high = counted (length (made_trains n)) i n (trains_count n) low high

brought_known : (n i b : ℕ) → brought_at i ≡ b → 1 ≤ i → i ≤ n → knows_act (made_plan n) b (Bring i) ≡ true
brought_known n i b e low high = ap (λ (x : ℕ). knows_act (made_plan n) x (Bring i)) (sym e) ∙ train_known n i low high

down_known : (n i : ℕ) (at : MadeBox) → runs_down i ≡ true → 1 ≤ i → i ≤ n → Knows n (number_of at) (down_acts at i)
unfolding down_acts
down_known n i Ash e low high =
    knows_more n 0 (Bring i) (send Down 2 (class_code i))
    (brought_known n i 0 (ap (λ (t : Bool). cond t 0 2) e) low high) (sent_from_ash n (class_code i) (class_is_code i))
down_known n i Beech e low high =
    knows_both n 1 (take_in Up Down 1 (class_code i)) (send Down 2 (class_code i))
    (taken_at_beech n (class_code i) (class_is_code i)) (sent_from_beech n (class_code i) (class_is_code i))
down_known n i Cedar e low high =
    knows_both n 2 (take_in Up Down 1 (class_code i)) (off 2) (taken_at_cedar n (class_code i) (class_is_code i))
    (off_at_cedar n)

up_known : (n i : ℕ) (at : MadeBox) → runs_down i ≡ false → 1 ≤ i → i ≤ n → Knows n (number_of at) (up_acts at i)
unfolding up_acts
up_known n i Ash e low high =
    knows_both n 0 (take_in Down Up 3 (class_code i)) (off 4) (taken_at_ash n (class_code i) (class_is_code i))
    (off_at_ash n)
up_known n i Beech e low high =
    knows_both n 1 (take_in Down Up 3 (class_code i)) (send Up 4 (class_code i))
    (taken_up_at_beech n (class_code i) (class_is_code i)) (sent_up_from_beech n (class_code i) (class_is_code i))
up_known n i Cedar e low high =
    knows_more n 2 (Bring i) (send Up 4 (class_code i)) (brought_known n i 2 (ap (λ (t : Bool). cond t 0 2) e) low high)
    (sent_from_cedar n (class_code i) (class_is_code i))

acts_known : (n i : ℕ) (at : MadeBox) → 1 ≤ i → i ≤ n → Knows n (number_of at) (acts_for at i)
acts_known n i at low high = go (runs_down i) refl where
  go : (t : Bool) → runs_down i ≡ t → Knows n (number_of at) (cond t (down_acts at i) (up_acts at i))
  go true e = down_known n i at e low high
  go false e = up_known n i at e low high

-- ---- calls

-- no moment of these calls is above that one
abbrev EndBy : ℕ → List Call → Type 0
EndBy moment [] = Unit {0}
EndBy moment (call ∷ calls) = (call.moment ≤ moment) × EndBy moment calls

end_later : (before moment : ℕ) (calls : List Call) → before ≤ moment → EndBy before calls → EndBy moment calls
end_later before moment [] l h = tt
end_later before moment (call ∷ calls) l h = (omega (arith, h.0), end_later before moment calls l h.1)

end_both : (moment : ℕ) (front calls : List Call) → EndBy moment front → EndBy moment calls
    → EndBy moment (front ++ calls)
end_both moment [] calls h k = k
end_both moment (call ∷ front) calls h k = (h.0, end_both moment front calls h.1 k)

end_at : (moment : ℕ) (acts : List Act) → EndBy moment (calls_at moment acts)
end_at moment [] = tt
end_at moment (act ∷ acts) = (omega arith, end_at moment acts)

calls_end : (at : MadeBox) (n : ℕ) → EndBy (train_moment n) (made_calls at n)
unfolding made_calls
calls_end at zero = tt
calls_end at (suc n) =
    end_both (train_moment (suc n)) (made_calls at n) (calls_at (train_moment (suc n)) (acts_for at (suc n)))
    (end_later (train_moment n) (train_moment (suc n)) (made_calls at n) (omega arith) (calls_end at n))
    (end_at (train_moment (suc n)) (acts_for at (suc n)))

sooner : (plan : PlanFields) (b moment later : ℕ) (calls : List Call) → moment ≤ later → AreCalls plan b later calls
    → AreCalls plan b moment calls
sooner plan b moment later [] l h = tt
sooner plan b moment later (call ∷ calls) l h = (h.0, omega (arith, h.1), h.2)

calls_both : (plan : PlanFields) (b moment later : ℕ) (front calls : List Call) → moment ≤ later
    → AreCalls plan b moment front → EndBy later front → AreCalls plan b later calls
    → AreCalls plan b moment (front ++ calls)
calls_both plan b moment later [] calls l h e k = sooner plan b moment later calls l k
calls_both plan b moment later (call ∷ front) calls l h e k =
    (h.0, h.1, calls_both plan b call.moment later front calls e.0 h.2 e.1 k)

call_known : (n b moment : ℕ) (act : Act) → b < 3 → moment < 1440 → knows_act (made_plan n) b act ≡ true
    → knows_call (made_plan n) b (record { moment = moment; act = act }) ≡ true
unfolding knows_call
call_known n b moment act small day h =
    let one : ltb b 3 ≡ true = below b 3 small in let two : ltb moment 1440 ≡ true =
    below moment 1440 day in rw (one, two, h) refl where
      below : (x y : ℕ) → x < y → ltb x y ≡ true
      below x y h = grind (arith, nat_tests)

at_once : (n b moment : ℕ) (acts : List Act) → b < 3 → moment < 1440 → Knows n b acts
    → AreCalls (made_plan n) b moment (calls_at moment acts)
at_once n b moment [] small day h = tt
at_once n b moment (act ∷ acts) small day h =
    let p = both (knows_act (made_plan n) b act) (list_all (knows_act (made_plan n) b) acts) h in
    (call_known n b moment act small day p.0, omega arith, at_once n b moment acts small day p.1)

number_small : (at : MadeBox) → number_of at < 3
number_small Ash = omega arith
number_small Beech = omega arith
number_small Cedar = omega arith

calls_known : (n : ℕ) (at : MadeBox) (k : ℕ) → k ≤ n → n ≤ 200
    → AreCalls (made_plan n) (number_of at) 0 (made_calls at k)
unfolding made_calls
calls_known n at zero h most = tt
calls_known n at (suc k) h most =
    let moment = train_moment (suc k) in
    calls_both (made_plan n) (number_of at) 0 moment (made_calls at k) (calls_at moment (acts_for at (suc k)))
    (omega arith)
    (calls_known n at k (omega arith) most)
    (end_later (train_moment k) moment (made_calls at k) (omega arith) (calls_end at k))
    (at_once n (number_of at) moment (acts_for at (suc k)) (number_small at) (omega arith)
    (acts_known n (suc k) at (omega arith) h))

-- ---- scripts

down_few : (at : MadeBox) (i : ℕ) → length (down_acts at i) ≤ 28
unfolding down_acts send take_in off
down_few Ash i = omega arith
down_few Beech i = omega arith
down_few Cedar i = omega arith

up_few : (at : MadeBox) (i : ℕ) → length (up_acts at i) ≤ 28
unfolding up_acts send take_in off
up_few Ash i = omega arith
up_few Beech i = omega arith
up_few Cedar i = omega arith

acts_few : (at : MadeBox) (i : ℕ) → length (acts_for at i) ≤ 28
acts_few at i = go (runs_down i) at where
  go : (t : Bool) (at : MadeBox) → length (cond t (down_acts at i) (up_acts at i)) ≤ 28
  go true at = down_few at i
  go false at = up_few at i

calls_count : (moment : ℕ) (acts : List Act) → length (calls_at moment acts) ≡ length acts
calls_count moment [] = refl
calls_count moment (act ∷ acts) = ap suc (calls_count moment acts)

calls_few : (at : MadeBox) (n : ℕ) → length (made_calls at n) ≤ 28 * n
unfolding made_calls
calls_few at zero = omega arith
calls_few at (suc n) =
    let acts = acts_for at (suc n) in
    omega (
      arith,
      length-append (made_calls at n) (calls_at (train_moment (suc n)) acts),
      calls_count (train_moment (suc n)) acts,
      calls_few at n,
      acts_few at (suc n),
    )

script_known : (n : ℕ) (at : MadeBox) → n ≤ 200
    → IsScriptOf (made_plan n) (number_of at) (record { box_no = number_of at; calls = made_calls at n })
script_known n at h =
    record { box = refl; calls = calls_known n at n (omega arith) h; few = omega (arith, calls_few at n) }

same_script : (x y : Script) → Some x ≡ Some y → x ≡ y
same_script x y e = cc

nothing : (x : Script) → None ≡ Some x → ⊥
nothing x e = cc

own_script : (n b : ℕ) (script : Script) → n ≤ 200 → slice_get (made_scripts n) b ≡ Some script
    → IsScriptOf (made_plan n) b script
unfolding made_scripts
own_script n zero script h e = subst (IsScriptOf (made_plan n) 0) (same_script _ _ e) (script_known n Ash h)
own_script n (suc zero) script h e = subst (IsScriptOf (made_plan n) 1) (same_script _ _ e) (script_known n Beech h)
own_script n (suc (suc zero)) script h e =
    subst (IsScriptOf (made_plan n) 2) (same_script _ _ e) (script_known n Cedar h)
own_script n (suc (suc (suc b))) script h e = absurd (nothing script e)

same_plan : (x y : PlanFields) (r : Result PlanFields Fault) → r ≡ Ok x → r ≡ Ok y → x ≡ y
same_plan x y r e f = cc

-- the plan that the text spells
plan_is : (n : ℕ) (plan : PlanFields) → n ≤ 200 → plan_of (made_plan_text n) ≡ Ok plan → made_plan n ≡ plan
plan_is n plan h e = same_plan (made_plan n) plan (plan_of (made_plan_text n)) (made_read n h) e

-- each script is one of its box
scripts_known : (n b : ℕ) (plan : PlanFields) (script : Script) → n ≤ 200 → plan_of (made_plan_text n) ≡ Ok plan
    → slice_get (made_scripts n) b ≡ Some script → IsScriptOf plan b script
scripts_known n b plan script h e f =
    subst (λ (p : PlanFields). IsScriptOf p b script) (plan_is n plan h e) (own_script n b script h f)

-- there is one for each box
scripts_each : (n : ℕ) (plan : PlanFields) → n ≤ 200 → plan_of (made_plan_text n) ≡ Ok plan
    → length (made_scripts n) ≡ length plan.boxes
unfolding made_scripts
scripts_each n plan h e = ap (λ (p : PlanFields). length p.boxes) (plan_is n plan h e)

-- the line can be worked by its scripts
pub made_scripts_work : (n : ℕ) (plan : PlanFields) (scripts : List Script) → n ≤ 200
    → plan_of (made_plan_text n) ≡ Ok plan → scripts ≡ made_scripts n → AreLineScripts plan scripts
made_scripts_work n plan scripts h e same =
    let are : AreLineScripts plan (made_scripts n) =
    record { each = scripts_each n plan h e; own = λ b script f. scripts_known n b plan script h e f } in
    subst (AreLineScripts plan) (sym same) are

is_own : (plan : PlanFields) (scripts : List Script) (b : ℕ) (script : Script) → AreLineScripts plan scripts
    → b < length scripts → script ≡ get_or scripts b script → IsScriptOf plan b script
is_own plan scripts b script are l e = are.own b script (slice_get-get_or scripts b script l ∙ ap Some (sym e))

-- a script of the line is that of its own box
pub own_box : (plan : PlanFields) (scripts : List Script) (b : ℕ) (script : Script) → AreLineScripts plan scripts
    → b < length scripts → script ≡ get_or scripts b script → script.box_no < length plan.boxes
own_box plan scripts b script are l e = let is =
    is_own plan scripts b script are l e in omega (arith, is.box, l, are.each)

-- a script of the line is one of the box that it names, which may make its calls
pub own_calls : (plan : PlanFields) (scripts : List Script) (b : ℕ) (script : Script) → AreLineScripts plan scripts
    → b < length scripts → script ≡ get_or scripts b script → IsScriptOf plan script.box_no script
own_calls plan scripts b script are l e = let is =
    is_own plan scripts b script are l e in subst (λ (x : ℕ). IsScriptOf plan x script) (sym is.box) is
