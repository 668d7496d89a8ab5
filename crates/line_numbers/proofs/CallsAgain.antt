-- A call is found again from its numbers, and the numbers from their call.
use Rattle.std.proofs.Common.{◌≡◌, ℕ, ◌≤◌, ◌<◌, Bool, true, false, Option, Some, None, refl, ap, ◌∙◌, sym}
use Rattle.std.proofs.lemmas.Bool.{and_from, and_parts, eq-eqb, eqb-true}
use Rattle.std.proofs.lemmas.Option.{slice_get_past}
use Rattle.std.specs.Prelude.{◌==◌, ◌&&◌, if◌then◌else◌, slice_get}
use Rattle.block_words.specs.Instruments.{position_code}
use Rattle.block_words.specs.declared.Position.{Position}
use Rattle.block_words.specs.declared.Way.{Way}
use Rattle.line_law.specs.declared.call.Act.{Act}
use Rattle.line_law.specs.declared.call.Act.TheVariants.{Ring, Hear, AwaitBell, Turn, AwaitBlock}
use Rattle.line_law.specs.declared.call.Act.TheVariants.{AwaitTrain, Berth, BerthPart, ClearPortion}
use Rattle.line_law.specs.declared.call.Act.TheVariants.{Wind, Release}
use Rattle.line_law.specs.declared.call.Call.{Call}
use Rattle.line_numbers.specs.declared.calls.CallNumbers.{CallNumbers}
use Rattle.line_numbers.specs.CallParts.{act_number, act_of, act_value, act_way, acts_with, call_if, call_in}
use Rattle.line_numbers.specs.CallParts.{call_numbers, code_named, has_numbers}
use Rattle.line_numbers.specs.Parts.{code_of, position_of}
use Rattle.line_numbers.proofs.PartsAgain.{code_again, position_again, way_again}

-- no act has a number above 15
pub no_act : (w v n : ℕ) → 16 ≤ n → slice_get (acts_with w v) n ≡ None
no_act w v n above = slice_get_past (acts_with w v) n above

-- the act is found again
act_again : (b m : ℕ) (act : Act) → code_named act < 256
    → act_of (call_numbers b (record { moment = m; act = act })) ≡ Some act
act_again b m (Ring side code) small =
    ap (λ (w : Way). Some (Ring w (code_of code))) (way_again side)
    ∙ ap (λ (c : ℕ). Some (Ring side c)) (code_again code small)
act_again b m (Hear side) small = ap (λ (w : Way). Some (Hear w)) (way_again side)
act_again b m (AwaitBell side code) small =
    ap (λ (w : Way). Some (AwaitBell w (code_of code))) (way_again side)
    ∙ ap (λ (c : ℕ). Some (AwaitBell side c)) (code_again code small)
act_again b m (Turn way position) small =
    ap (λ (w : Way). Some (Turn w (position_of (position_code position)))) (way_again way)
    ∙ ap (λ (p : Position). Some (Turn way p)) (position_again position)
act_again b m (AwaitBlock way position) small =
    ap (λ (w : Way). Some (AwaitBlock w (position_of (position_code position)))) (way_again way)
    ∙ ap (λ (p : Position). Some (AwaitBlock way p)) (position_again position)
act_again b m (AwaitTrain way) small = ap (λ (w : Way). Some (AwaitTrain w)) (way_again way)
act_again b m (Berth way) small = ap (λ (w : Way). Some (Berth w)) (way_again way)
act_again b m (BerthPart way) small = ap (λ (w : Way). Some (BerthPart w)) (way_again way)
act_again b m (ClearPortion way) small = ap (λ (w : Way). Some (ClearPortion w)) (way_again way)
act_again b m (Wind way) small = ap (λ (w : Way). Some (Wind w)) (way_again way)
act_again b m (Release way) small = ap (λ (w : Way). Some (Release w)) (way_again way)
act_again b m act small = refl

-- an act has its own numbers
own_numbers : (b m : ℕ) (act : Act) → has_numbers act (call_numbers b (record { moment = m; act = act })) ≡ true
own_numbers b m act =
    and_from _ _ (and_from _ _ (is_own (act_number act)) (is_own (act_way act))) (is_own (act_value act))
  where
    is_own : (n : ℕ) → (n == n) ≡ true
    is_own n = eq-eqb n n refl

-- the call is found again
pub call_again : (b : ℕ) (call : Call) → code_named call.act < 256 → call_in (call_numbers b call) ≡ Some call
call_again b call small =
    ap (λ (found : Option Act). call_if (call_numbers b call) found) (act_again b call.moment call.act small)
    ∙ ap (λ (own : Bool). if own then Some call else None) (own_numbers b call.moment call.act)

-- numbers whose fields are these are these numbers
same_fields : (n : CallNumbers) (a w v : ℕ) → a ≡ n.act → w ≡ n.way → v ≡ n.value
    → record n { act = a; way = w; value = v } ≡ n
same_fields n a w v act_same way_same value_same =
    ap (λ (x : ℕ). record n { act = x; way = w; value = v }) act_same
    ∙ (ap (λ (x : ℕ). record n { way = x; value = v }) way_same
    ∙ ap (λ (x : ℕ). record n { value = x }) value_same)

-- where these are the numbers of an act, they are those of its call
same_numbers : (n : CallNumbers) (act : Act) → has_numbers act n ≡ true
    → call_numbers n.box_no (record { moment = n.moment; act = act }) ≡ n
same_numbers n act own =
    let all : ((act_number act == n.act && act_way act == n.way) ≡ true) × ((act_value act == n.value) ≡ true)
    = and_parts _ _ own in
    let two : ((act_number act == n.act) ≡ true) × ((act_way act == n.way) ≡ true) = and_parts _ _ all.0 in
    same_fields n (act_number act) (act_way act) (act_value act)
    (eqb-true _ _ two.0) (eqb-true _ _ two.1) (eqb-true _ _ all.1)

-- so are they where a call is made of the act
taken : (n : CallNumbers) (call : Call) (act : Act) (own : Bool) → has_numbers act n ≡ own
    → (if own then Some (record { moment = n.moment; act = act }) else None) ≡ Some call
    → call_numbers n.box_no call ≡ n
taken n call act true is_own some =
    let same : record { moment = n.moment; act = act } ≡ call = some_is_one _ _ some in
    ap (λ (c : Call). call_numbers n.box_no c) (sym same) ∙ same_numbers n act is_own
  where
    some_is_one : (c other : Call) → Some c ≡ Some other → c ≡ other
    some_is_one c other e = cc
taken n call act false is_own none = absurd (not_some call none)
  where
    not_some : (c : Call) → None ≡ Some c → ⊥
    not_some c e = cc

-- the numbers are found again
again_if : (n : CallNumbers) (call : Call) (found : Option Act) → call_if n found ≡ Some call
    → call_numbers n.box_no call ≡ n
again_if n call None none = cc
again_if n call (Some act) some = taken n call act (has_numbers act n) refl some

pub numbers_again : (n : CallNumbers) (call : Call) → call_in n ≡ Some call → call_numbers n.box_no call ≡ n
numbers_again n call some = again_if n call (act_of n) some
