-- A line whose scripts are worked, by its men or on one thread, and what its registers are merged into.
use Rattle.std.proofs.Common.{◌≡◌, ◌≢◌, ◌⊎◌, ⊎_elim, ℕ, zero, suc, ◌<◌, ◌≤◌, List, [], ◌∷◌, ◌++◌, ◌==◌}
use Rattle.std.proofs.Common.{true, false, cond, drop, take, length, get_or, All, Some, map, slice_get, refl, sym, ap}
use Rattle.std.proofs.Common.{subst, ◌∙◌}
use Rattle.std.proofs.Common.{arith, inl, inr}
use Rattle.std.proofs.lemmas.Bool.{cases_lt}
use Rattle.std.proofs.lemmas.Bool.Decides.{eqb_tells}
use Rattle.std.proofs.lemmas.List.Elements.{All-cons, All-map, All-nil}
use Rattle.std.proofs.lemmas.List.{get_or-map, get_or_past, length-map, take-append-le, take_all}
use Rattle.atomic_table.specs.Seated.{TableId}
use Rattle.line_plan.specs.Plans.{IsPlan, PlanFields}
use Rattle.line_law.specs.declared.call.Entry.{Entry}
use Rattle.line_law.specs.History.{IsLegal, IsLegalFrom, after_entry, calls_of, part_of}
use Rattle.line_law.specs.Serial.{calls_left, serial_journal}
use Rattle.line_law.specs.States.{LineState, opening_state}
use Rattle.line_law.proofs.SerialLaws.{journal_legal, journal_parts}
use Rattle.line_law.proofs.Sides.{known_box}
use Rattle.instrument_rule.proofs.Parts.{length_by_parts}
use Rattle.train_laws.proofs.OneTrain.{held_few_before}
use Rattle.train_laws.proofs.PullTold.{each_pull_told}
use Rattle.script_text.specs.Scripts.{IsScriptOf, most_calls}
use Rattle.script_text.specs.declared.script.Script.{Script}
use Rattle.train_register.specs.Registers.{AreParts, IsPrintable, RegisterFields}
use Rattle.train_register.proofs.Parts.{parts_printable}
use Rattle.signalman_seats.specs.Lines.{AreFresh, AreMen, Closed}
use Rattle.signalman_seats.specs.Men.{IsFresh, Man}
use Rattle.line_journal.specs.Order.{IsInOrder}
use Rattle.line_report.specs.Asked.{AreFewEntries}
use Rattle.line_report.proofs.Histories.{legal_spelled}
use Rattle.line_report.proofs.PrintedJournals.{legal_judged, legal_read}
use Rattle.line_working.specs.Working.{CanWork, DidWork}
use Rattle.line_working.proofs.FreshMen.{fresh_works}
use Rattle.text_fetch.specs.Runs.{AreScriptsOf, Run}
use Rattle.serial_working.specs.Rosters.{calls_of_scripts}
use Rattle.line_runs.specs.Worked.{AreOfMen, ArePullsTold, AreWorked, HasCallsOf, HaveWorked, HoldsFew, IsJournalOf}
use Rattle.line_runs.specs.Worked.{IsWorkedLine, lengths_of}
use Rattle.serial_working.proofs.SerialTurns.{boxes_few, entries_few, scripts_are, scripts_few}

-- ---- scripts by their boxes

no_script : Script
no_script = record { box_no = 0; calls = [] }

script_there : (scripts : List Script) (b : ℕ) (e : Script) → b < length scripts
    → slice_get scripts b ≡ Some (get_or scripts b e)
script_there [] b e lt = absurd (omega arith)
script_there (script ∷ scripts) zero e lt = refl
script_there (script ∷ scripts) (suc b) e lt = script_there scripts b e (omega arith)

script_of_box : (plan : PlanFields) (scripts : List Script) → AreScriptsOf plan scripts → (b : ℕ) (e : Script)
    → b < length scripts → IsScriptOf plan b (get_or scripts b e)
script_of_box plan scripts own b e lt = own.own b (get_or scripts b e) (script_there scripts b e lt)

length_there : (scripts : List Script) (b : ℕ) (e : Script) → b < length scripts
    → get_or (lengths_of scripts) b 0 ≡ length (get_or scripts b e).calls
length_there scripts b e lt = get_or-map (λ (script : Script). length script.calls) scripts b e 0 lt

calls_there : (scripts : List Script) (b : ℕ) (e : Script) → b < length scripts
    → calls_left (calls_of_scripts scripts) b ≡ (get_or scripts b e).calls
calls_there scripts b e lt = get_or-map (λ (script : Script). script.calls) scripts b e [] lt

calls_past : (scripts : List Script) (b : ℕ) → length scripts ≤ b → calls_left (calls_of_scripts scripts) b ≡ []
calls_past scripts b ge = get_or_past (calls_of_scripts scripts) b []
    (omega (arith, length-map scripts (λ (script : Script). script.calls)))

-- no script of a line has more than 10000 calls
pub lengths_few : (plan : PlanFields) (scripts : List Script) → AreScriptsOf plan scripts
    → All (λ n. n ≤ 10000) (lengths_of scripts)
lengths_few plan scripts own = All-map (λ (n : ℕ). n ≤ 10000) (λ (script : Script). length script.calls) scripts
    (scripts_few plan scripts own)

-- ---- a legal history by its parts

-- no box past the last has an entry
none_past : (plan : PlanFields) (state : LineState) (es : List Entry) (b : ℕ) → IsLegalFrom plan state es
    → length plan.boxes ≤ b → part_of b es ≡ []
none_past plan state [] b legal ge = refl
none_past plan state (e ∷ es) b legal ge =
    let within = known_box plan e.box_no e.call legal.0.known in
    ⊎_elim
    (λ (t : ((e.box_no == b) ≡ true) × (e.box_no ≡ b)). let is = t.1 in absurd (omega arith))
    (λ (t : ((e.box_no == b) ≡ false) × (e.box_no ≢ b)).
    ap (λ (own : List Entry → List Entry). own (part_of b es)) (ap (λ c xs. cond c (e ∷ xs) xs) t.0)
    ∙ none_past plan (after_entry plan state e) es b legal.2 ge)
    (eqb_tells e.box_no b)

-- the calls of a box are as many as its entries
calls_many : (b : ℕ) (es : List Entry) → length (part_of b es) ≡ length (calls_of b es)
calls_many b es = sym (length-map (part_of b es) (λ (e : Entry). e.call))

-- a legal history that has exactly the scripts' calls has few entries
few_worked : (plan : PlanFields) (scripts : List Script) (es : List Entry) → IsPlan plan → AreScriptsOf plan scripts
    → IsLegal plan es → HasCallsOf scripts es → AreFewEntries es
few_worked plan scripts es is own legal calls =
    let boxes = boxes_few plan is in
    let bound = length_by_parts plan es most_calls legal short in
    omega (arith, boxes, bound)
  where
    by_box : (b : ℕ) → (b < length scripts) ⊎ (length scripts ≤ b)
        → length (calls_left (calls_of_scripts scripts) b) ≤ most_calls
    by_box b (inl lt) = rw (calls_there scripts b no_script lt) (script_of_box plan scripts own b no_script lt).few
    by_box b (inr ge) = rw (calls_past scripts b ge) (omega arith)

    short : (b : ℕ) → length (part_of b es) ≤ most_calls
    short b = rw (calls_many b es, calls b) (by_box b (cases_lt b (length scripts)))

-- ---- by the men of a line

pub some_men : (table_id : TableId) (plan : PlanFields) (scripts : List Script) (men : List Man) → IsPlan plan
    → AreScriptsOf plan scripts → AreFresh table_id plan (lengths_of scripts) men
    → (0 < length men) × (length scripts ≡ length men)
some_men table_id plan scripts men is own fresh =
    let mapped = length-map scripts (λ (script : Script). length script.calls) in
    let fewest = is.fewest in
    (omega (arith, mapped, fresh.each, own.each, fewest), omega (arith, mapped, fresh.each))

-- a man of a line that opens may work the script of his box
pub can_work : (table_id : TableId) (plan : PlanFields) (scripts : List Script) (men : List Man)
    → AreScriptsOf plan scripts → AreFresh table_id plan (lengths_of scripts) men → (b : ℕ) (d : Man) (e : Script)
    → b < length men → CanWork table_id plan (get_or scripts b e) (get_or men b d)
can_work table_id plan scripts men own fresh b d e lt =
    let mapped = length-map scripts (λ (script : Script). length script.calls) in
    let within : b < length scripts = omega (arith, mapped, fresh.each) in
    let room = length_there scripts b e within in
    fresh_works table_id plan b (get_or (lengths_of scripts) b 0) (get_or scripts b e) (get_or men b d)
    (fresh.fresh b d lt) (script_of_box plan scripts own b e within) (omega (arith, room))

-- the same as the men are lent, by the plan of which they are
pub can_work_lent : (table_id : TableId) (plan key : PlanFields) (scripts : List Script) (men lent : List Man)
    → key ≡ plan → lent ≡ men → AreScriptsOf plan scripts → AreFresh table_id plan (lengths_of scripts) men
    → (b : ℕ) (d : Man) (e : Script) → b < length lent → CanWork table_id key (get_or scripts b e) (get_or lent b d)
can_work_lent table_id plan key scripts men lent of same own fresh b d e lt =
    subst (λ (p : PlanFields). CanWork table_id p (get_or scripts b e) (get_or lent b d)) (sym of)
    (subst (λ (ms : List Man). CanWork table_id plan (get_or scripts b e) (get_or ms b d)) (sym same)
    (can_work table_id plan scripts men own fresh b d e (subst (λ (ms : List Man). b < length ms) same lt)))

-- what the men of a line have worked, by the plan of which they are
pub have_worked : (table_id : TableId) (plan key : PlanFields) (scripts : List Script) (looks : ℕ)
    (before lent after : List Man) → key ≡ plan → lent ≡ before → length after ≡ length lent
    → ((b : ℕ) (d : Man) (e : Script) → b < length lent
    → DidWork table_id key (get_or scripts b e) looks (get_or lent b d) (get_or after b d))
    → HaveWorked table_id plan scripts looks before after
have_worked table_id plan key scripts looks before lent after of same each worked = record {
  each = each ∙ ap (λ (men : List Man). length men) same;
  worked = λ b d e lt.
      subst (λ (p : PlanFields). DidWork table_id p (get_or scripts b e) looks (get_or before b d) (get_or after b d))
      of
      (subst (λ (men : List Man). DidWork table_id key (get_or scripts b e) looks (get_or men b d) (get_or after b d))
      same (worked b d e (subst (λ (men : List Man). b < length men) (sym same) lt)));
}

pub are_men : (table_id : TableId) (plan : PlanFields) (scripts : List Script) (looks : ℕ) (before after : List Man)
    → AreScriptsOf plan scripts → AreFresh table_id plan (lengths_of scripts) before
    → HaveWorked table_id plan scripts looks before after → AreMen table_id plan after
are_men table_id plan scripts looks before after own fresh have = record {
  each =
      let mapped = length-map scripts (λ (script : Script). length script.calls) in
      omega (arith, mapped, fresh.each, own.each, have.each);
  of_line = λ b d lt. (have.worked b d no_script (there b lt)).of_line;
  box_no = λ b d lt. (have.worked b d no_script (there b lt)).box_no ∙ (fresh.fresh b d (there b lt)).box_no;
}
  where
    there : (b : ℕ) → b < length after → b < length before
    there b lt = omega (arith, have.each)

-- the part of a man who had seen nothing is what he worked
worked_part : (table_id : TableId) (plan : PlanFields) (b room looks : ℕ) (script : Script) (before after : Man)
    → IsFresh table_id plan b room before → DidWork table_id plan script looks before after
    → map (λ (e : Entry). e.call) after.entries ≡ script.calls
worked_part table_id plan b room looks script before after fresh did =
    let nothing : part_of before.box_no before.view.seen ≡ [] = ap (part_of before.box_no) fresh.seen in
    let mine : after.entries ≡ did.worked.grew.0 =
    did.entries ∙ (did.worked.grew.1 ∙ ap (λ (es : List Entry). es ++ did.worked.grew.0) nothing) in
    ap (map (λ (e : Entry). e.call)) mine ∙ did.worked.grew.2

-- what a slice of all men is written back to
pub written_back : (n : ℕ) (men old : List Man) → n ≡ length men → take n (men ++ drop (length men) old) ≡ men
written_back n men old e =
    ap (λ (k : ℕ). take k (men ++ drop (length men) old)) e
    ∙ take-append-le (length men) men (drop (length men) old) (omega arith)
    ∙ take_all (length men) men (omega arith)

some_man : (men : List Man) → 0 < length men → Man
some_man [] lt = absurd (omega arith)
some_man (man ∷ men) lt = man

pub men_worked : (table_id : TableId) (plan : PlanFields) (scripts : List Script) (looks : ℕ) (before after : List Man)
    (registers : List RegisterFields) → IsPlan plan → AreScriptsOf plan scripts
    → AreFresh table_id plan (lengths_of scripts) before → HaveWorked table_id plan scripts looks before after
    → Closed plan after registers → AreWorked plan scripts registers
men_worked table_id plan scripts looks before after registers is own fresh have closed = record {
  history = closed.log;
  legal = closed.legal;
  parts = closed.parts;
  calls = calls;
  few = few_worked plan scripts closed.log is own closed.legal calls;
}
  where
    many : (0 < length before) × (length scripts ≡ length before)
    many = some_men table_id plan scripts before is own fresh

    man : Man
    man = some_man before many.0

    by_box : (b : ℕ) → (b < length scripts) ⊎ (length scripts ≤ b)
        → calls_of b closed.log ≡ calls_left (calls_of_scripts scripts) b
    by_box b (inl lt) =
        let here : b < length before = omega (arith, many.1) in
        let then : b < length after = omega (arith, have.each) in
        let boxed : b < length plan.boxes = omega (arith, own.each) in
        let did = have.worked b man no_script here in
        ap (map (λ (e : Entry). e.call)) (sym (closed.parts.entries b boxed) ∙ closed.entries b man then)
        ∙ worked_part table_id plan b _ looks (get_or scripts b no_script) (get_or before b man) (get_or after b man)
        (fresh.fresh b man here) did
        ∙ sym (calls_there scripts b no_script lt)
    by_box b (inr ge) =
        ap (map (λ (e : Entry). e.call))
        (none_past plan (opening_state plan) closed.log b closed.legal (omega (arith, own.each)))
        ∙ sym (calls_past scripts b ge)

    calls : HasCallsOf scripts closed.log
    calls b = by_box b (cases_lt b (length scripts))

-- the men of an open line have worked, and are written back
pub record AreDone (table_id : TableId) (plan key : PlanFields) (scripts : List Script) (looks : ℕ)
    (before after written : List Man) : Type 0 where
  pub have : HaveWorked table_id plan scripts looks before after
  pub back : written ≡ after
  pub are : AreMen table_id key written

-- where each man of a line that opened has worked his script, they all have, and are men of that line when they are
-- written back
pub men_done : (table_id : TableId) (plan key : PlanFields) (scripts : List Script) (looks n : ℕ)
    (before lent after : List Man) → key ≡ plan → lent ≡ before → n ≡ length lent → AreScriptsOf plan scripts
    → AreFresh table_id plan (lengths_of scripts) before → length after ≡ length lent
    → ((b : ℕ) (d : Man) (e : Script) → b < length lent
    → DidWork table_id key (get_or scripts b e) looks (get_or lent b d) (get_or after b d))
    → AreDone table_id plan key scripts looks before after (take n (after ++ drop (length after) before))
men_done table_id plan key scripts looks n before lent after of same len own fresh each worked =
    let have = have_worked table_id plan key scripts looks before lent after of same each worked in
    let back = written_back n after before (len ∙ sym each) in
    record {
      have = have;
      back = back;
      are = subst (λ (ms : List Man). AreMen table_id key ms) (sym back)
          (subst (λ (p : PlanFields). AreMen table_id p after) (sym of)
          (are_men table_id plan scripts looks before after own fresh have));
    }

-- the registers of a line that its men have closed are theirs
pub of_men : (table_id : TableId) (plan key : PlanFields) (scripts : List Script) (looks : ℕ)
    (before after written : List Man) (registers : List RegisterFields) → key ≡ plan → looks ≡ plan.looks
    → AreFresh table_id plan (lengths_of scripts) before → AreDone table_id plan key scripts looks before after written
    → Closed key written registers → AreOfMen plan scripts registers
of_men table_id plan key scripts looks before after written registers of same fresh done closed = record {
  table_id = table_id;
  before = before;
  after = after;
  fresh = fresh;
  worked = subst (λ (n : ℕ). HaveWorked table_id plan scripts n before after) same done.have;
  closed = subst (λ (men : List Man). Closed plan men registers) done.back
      (subst (λ (p : PlanFields). Closed p written registers) of closed);
}

-- once all men have worked and the line is closed, its registers are the parts of one legal history with exactly
-- the scripts' calls
pub done_worked : (table_id : TableId) (plan key : PlanFields) (scripts : List Script) (looks : ℕ)
    (before after written : List Man) (registers : List RegisterFields) → IsPlan plan → key ≡ plan
    → AreScriptsOf plan scripts → AreFresh table_id plan (lengths_of scripts) before
    → AreDone table_id plan key scripts looks before after written → Closed key written registers
    → AreWorked plan scripts registers
done_worked table_id plan key scripts looks before after written registers is of own fresh done closed =
    men_worked table_id plan scripts looks before after registers is own fresh done.have
    (subst (λ (ms : List Man). Closed plan ms registers) done.back
    (subst (λ (p : PlanFields). Closed p written registers) of closed))

-- ---- on one thread

-- the parts of the journal that scripts make one call at a time are those of one legal history with exactly the
-- scripts' calls
pub alone_worked : (plan : PlanFields) (scripts : List Script) (es : List Entry) (registers : List RegisterFields)
    → IsPlan plan → AreScriptsOf plan scripts → es ≡ serial_journal plan (calls_of_scripts scripts)
    → AreParts plan es registers → AreWorked plan scripts registers
alone_worked plan scripts es registers is own told parts =
    let all = scripts_are plan scripts own in
    record {
      history = es;
      legal = rw told (journal_legal plan (calls_of_scripts scripts) is all);
      parts = parts;
      calls = λ b. ap (calls_of b) told ∙ journal_parts plan (calls_of_scripts scripts) b;
      few = rw told (entries_few plan scripts is own);
    }

entries_within : (plan : PlanFields) (state : LineState) (es : List Entry) → IsLegalFrom plan state es
    → All (λ e. e.box_no < length plan.boxes) es
entries_within plan state [] legal = All-nil (λ (e : Entry). e.box_no < length plan.boxes)
entries_within plan state (e ∷ es) legal =
    All-cons (λ (x : Entry). x.box_no < length plan.boxes) e es (known_box plan e.box_no e.call legal.0.known)
    (entries_within plan (after_entry plan state e) es legal.2)

-- each entry of the order on one thread is of a box of the line
pub alone_within : (plan : PlanFields) (scripts : List Script) (es : List Entry) → IsPlan plan
    → AreScriptsOf plan scripts → es ≡ serial_journal plan (calls_of_scripts scripts)
    → All (λ e. e.box_no < length plan.boxes) es
alone_within plan scripts es is own told = entries_within plan (opening_state plan) es
    (rw told (journal_legal plan (calls_of_scripts scripts) is (scripts_are plan scripts own)))

-- ---- the journal

-- a journal of the same registers has the same calls
same_calls : (plan : PlanFields) (scripts : List Script) (registers : List RegisterFields) (es : List Entry)
    → AreWorked plan scripts registers → IsLegal plan es → AreParts plan es registers → HasCallsOf scripts es
same_calls plan scripts registers es worked legal parts b = by_box (cases_lt b (length plan.boxes)) ∙ worked.calls b
  where
    by_box : (b < length plan.boxes) ⊎ (length plan.boxes ≤ b) → calls_of b es ≡ calls_of b worked.history
    by_box (inl lt) = ap (map (λ (e : Entry). e.call)) (sym (parts.entries b lt) ∙ worked.parts.entries b lt)
    by_box (inr ge) = ap (map (λ (e : Entry). e.call))
        (none_past plan (opening_state plan) es b legal ge
        ∙ sym (none_past plan (opening_state plan) worked.history b worked.legal ge))

holds_few : (plan : PlanFields) (journal : List Entry) → IsPlan plan → IsLegal plan journal → HoldsFew plan journal
holds_few plan journal is legal section es more line split clean =
    held_few_before plan es more section is line (subst (IsLegal plan) split legal) clean

pulls_told : (plan : PlanFields) (journal : List Entry) → IsLegal plan journal → ArePullsTold plan journal
pulls_told plan journal line es more e lever split act =
    each_pull_told plan es more e lever (subst (IsLegal plan) split line) act

pub journal_is : (run : Run) (registers : List RegisterFields) (journal : List Entry) → IsPlan run.plan
    → AreWorked run.plan run.scripts registers → IsLegal run.plan journal → AreParts run.plan journal registers
    → IsInOrder run.plan journal → IsJournalOf run journal
journal_is run registers journal is worked legal parts order = record {
  legal = legal;
  calls = same_calls run.plan run.scripts registers journal worked legal parts;
  order = order;
  pulls = pulls_told run.plan journal legal;
  trains = holds_few run.plan journal is legal;
  read = λ rest short. legal_read run.plan journal rest is legal short;
  judged = legal_judged run.plan journal is legal;
}

-- a journal has as many entries as the history that the registers are the parts of
pub few_merged : (plan : PlanFields) (scripts : List Script) (registers : List RegisterFields) (journal : List Entry)
    → AreWorked plan scripts registers
    → ((history : List Entry) → IsLegal plan history → AreParts plan history registers
    → length journal ≡ length history) → AreFewEntries journal
few_merged plan scripts registers journal worked count =
    let few = worked.few in
    let same = count worked.history worked.legal worked.parts in
    omega (arith, few, same)

-- what the registers of a line that was worked are merged into
pub line_merged : (run : Run) (registers : List RegisterFields) (journal : List Entry) → IsPlan run.plan
    → AreWorked run.plan run.scripts registers → IsLegal run.plan journal → AreParts run.plan journal registers
    → IsInOrder run.plan journal
    → ((history : List Entry) → IsLegal run.plan history → AreParts run.plan history registers
    → length journal ≡ length history) → IsWorkedLine run journal registers
line_merged run registers journal is worked legal parts order count =
    let few = few_merged run.plan run.scripts registers journal worked count in
    let spelled = legal_spelled run.plan journal is (omega (arith, few)) legal in
    record {
      journal = journal_is run registers journal is worked legal parts order;
      printed = record {
        legal = legal;
        few = few;
        spelled = spelled;
        parts = parts;
        printable = parts_printable run.plan journal registers parts spelled;
      };
    }

-- the registers of a line that was worked can be printed
pub worked_printable : (plan : PlanFields) (scripts : List Script) (registers : List RegisterFields) → IsPlan plan
    → AreWorked plan scripts registers → All (IsPrintable plan) registers
worked_printable plan scripts registers is worked =
    let few = worked.few in
    parts_printable plan worked.history registers worked.parts
    (legal_spelled plan worked.history is (omega (arith, few)) worked.legal)
