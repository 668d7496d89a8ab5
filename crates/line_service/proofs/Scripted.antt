-- Scripts that are given.
use Rattle.std.proofs.Common.{◌≡◌, ℕ, suc, ◌+◌, ◌-◌, ◌<◌, ◌≤◌, Bool, true, false, cond, List, [], ◌∷◌, length, set}
use Rattle.std.proofs.Common.{refl, sym, ap, subst, ◌∙◌, arith, inl, inr}
use Rattle.std.specs.Prelude.{IfOk, Result, Ok, Err, not}
use Rattle.std.proofs.lemmas.Bool.{ltb-false}
use Rattle.std.proofs.lemmas.Bool.Decides.{eqb_tells}
use Rattle.std.proofs.lemmas.List.{get_or-set_other, get_or-set_same, length-set}
use Rattle.std.proofs.lemmas.List.Sums.{sum_by-set}
use Rattle.rail_text.specs.Gives.{Fault, GivesText}
use Rattle.rail_text.specs.declared.cause.ReadError.{ReadError}
use Rattle.rail_text.specs.declared.cause.ReadError.TheVariants as errors
use Rattle.line_plan.specs.Plans.{PlanFields}
use Rattle.line_law.specs.declared.call.Call.{Call}
use Rattle.line_law.specs.Lines.{PlainState}
use Rattle.line_law.specs.Serial.{AreCalls, calls_left, count_left}
use Rattle.line_law.specs.declared.call.Entry.{Entry}
use Rattle.script_text.specs.declared.script.Script.{Script}
use Rattle.script_text.specs.Scripts.{IsScriptOf, script_of}
use Rattle.line_service.specs.Scripts.{MayWork, begins_before, is_of_other, read_counts, read_or, script_among}
use Rattle.line_service.specs.Services.{IsWorked}
use Rattle.line_service.proofs.Kept.{shown}

-- ---- the box that a text names

chosen : (t : Bool) (fault : Fault) (other : Result Script Fault) → not t ≡ false → cond t other (Err fault) ≡ other
chosen true fault other e = refl
chosen false fault other e = absurd cc

kept : (t : Bool) (fault : Fault) (other : Result Script Fault) → not t ≡ true → cond t other (Err fault) ≡ Err fault
kept true fault other e = absurd cc
kept false fault other e = refl

-- where what was read doesn't count, the text is read for the boxes behind
other_read : (read : Result Script ReadError) (given other : Result Script Fault)
    → GivesText (λ script. script) read given → read_counts read ≡ false → read_or given other ≡ other
other_read (Ok script) given other h e = absurd cc
other_read (Err (errors.Refused line cause)) given other h e =
    ap (λ (g : Result Script Fault). read_or g other) h
    ∙ chosen (is_of_other cause) (record { line = line; cause = cause }) other e
other_read (Err errors.NoMemory) given other h e = absurd cc

-- where it counts, it is what was read
first_read : (read : Result Script ReadError) (given other : Result Script Fault)
    → GivesText (λ script. script) read given → read_counts read ≡ true
    → GivesText (λ script. script) read (read_or given other)
first_read (Ok script) given other h e = ap (λ (g : Result Script Fault). read_or g other) h
first_read (Err (errors.Refused line cause)) given other h e =
    ap (λ (g : Result Script Fault). read_or g other) h
    ∙ kept (is_of_other cause) (record { line = line; cause = cause }) other e
first_read (Err errors.NoMemory) given other h e = tt

one_less : (last at : ℕ) → at < last → last - at ≡ suc (last - (at + 1))
one_less last at lt = omega (arith, lt)

-- the boxes behind this one are what is left
pub passed_on : (plan : PlanFields) (bytes : List ℕ) (last at : ℕ) (read : Result Script ReadError) → at < last
    → GivesText (λ script. script) read (script_of plan at bytes) → read_counts read ≡ false
    → script_among plan (last - at) at bytes ≡ script_among plan (last - (at + 1)) (at + 1) bytes
passed_on plan bytes last at read lt h e =
    ap (λ (n : ℕ). script_among plan n at bytes) (one_less last at lt)
    ∙ other_read read (script_of plan at bytes) (script_among plan (last - (at + 1)) (at + 1) bytes) h e

-- this box is the one
pub found_here : (plan : PlanFields) (bytes : List ℕ) (last at : ℕ) (read : Result Script ReadError) → at < last
    → GivesText (λ script. script) read (script_of plan at bytes) → read_counts read ≡ true
    → GivesText (λ script. script) read (script_among plan (last - at) at bytes)
found_here plan bytes last at read lt h e =
    subst (λ (r : Result Script Fault). GivesText (λ script. script) read r)
    (sym (ap (λ (n : ℕ). script_among plan n at bytes) (one_less last at lt)))
    (first_read read (script_of plan at bytes) (script_among plan (last - (at + 1)) (at + 1) bytes) h e)

-- the last box is the one
pub found_last : (plan : PlanFields) (bytes : List ℕ) (last at : ℕ) (read : Result Script ReadError) → last ≤ at
    → at ≤ last → GivesText (λ script. script) read (script_of plan last bytes)
    → GivesText (λ script. script) read (script_among plan (last - at) at bytes)
found_last plan bytes last at read le ge h =
    let same : last ≡ at = omega (arith, le, ge) in
    let none : last - at ≡ 0 = omega (arith, le) in
    subst (λ (r : Result Script Fault). GivesText (λ script. script) read r)
    (ap (λ (b : ℕ). script_of plan b bytes) same ∙ sym (ap (λ (n : ℕ). script_among plan n at bytes) none)) h

-- a script of box b is one of its own box
pub own_at : (plan : PlanFields) (b : ℕ) (read : Result Script ReadError) → b < length plan.boxes
    → IfOk read (λ script. IsScriptOf plan b script) → IfOk read (λ script. script.box_no < length plan.boxes)
own_at plan b (Ok script) lt h = rw h.box lt
own_at plan b (Err error) lt h = tt

pub own_script : (plan : PlanFields) (b : ℕ) (read : Result Script ReadError)
    → IfOk read (λ script. IsScriptOf plan b script) → IfOk read (λ script. IsScriptOf plan script.box_no script)
own_script plan b (Ok script) h =
    subst (λ (c : ℕ). IsScriptOf plan c script) (sym h.box) h
own_script plan b (Err error) h = tt

-- ---- the script that a box may work by

-- calls that may be made in turn from the start of the day, and don't begin before a moment, may be made from there
pub later_calls : (plan : PlanFields) (b moment : ℕ) (calls : List Call) → AreCalls plan b 0 calls
    → begins_before moment calls ≡ false → AreCalls plan b moment calls
later_calls plan b moment [] h e = tt
later_calls plan b moment (call ∷ calls) h e = (h.0, ltb-false call.moment moment e, h.2)

-- what is left in all, with a script in the place of what is left of its box's earlier one
pub count_given : (left : List (List Call)) (b : ℕ) (calls : List Call) → b < length left
    → count_left (set left b calls) + length (calls_left left b) ≡ count_left left + length calls
count_given left b calls lt = sum_by-set (λ (cs : List Call). length cs) left b calls [] lt

-- behind a script that is given, what is left may be made in turn
pub worked_given : (plan : PlanFields) (es : List Entry) (left rest : List (List Call)) (plain : PlainState)
    (script : Script) → IsWorked plan es left plain → MayWork (shown plan es left) script
    → rest ≡ set left script.box_no script.calls → IsWorked plan es rest plain
worked_given plan es left rest plain script h may is =
    let b = script.box_no in
    let within : b < length left = omega (arith, h.may.each, may.at) in
    rw is (record {
      kept = h.kept;
      may = record {
        each = length-set left b script.calls ∙ h.may.each;
        calls = λ c. elim (eqb_tells c b) [
          | inl same ↦ rw (same.1, get_or-set_same left b script.calls [] within) may.calls
          | inr differ ↦ rw (get_or-set_other left b c script.calls [] differ.1) (h.may.calls c)
        ];
      };
      few = may.room;
    })
