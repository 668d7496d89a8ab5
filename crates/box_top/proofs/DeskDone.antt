-- What is printed where a command of the desk is done.
use Rattle.std.specs.Prelude.{All}
use Rattle.std.proofs.Common.{◌≡◌, ℕ, ◌<◌, List, Option, Some, None, Result, Ok, Err, OnOk, length, get_or}
use Rattle.std.proofs.Common.{refl, sym, ap, subst, ◌∙◌, arith}
use Rattle.std.proofs.lemmas.List.{length-map}
use Rattle.std.proofs.lemmas.List.Elements.{All-weaker}
use Rattle.locking_table.specs.Places.{most_levers}
use Rattle.locking_table.specs.Sound.{IsRow, RowFits}
use Rattle.tappet_compiler.proofs.Tappets.{compiled_fits}
use Rattle.frame_chart.specs.Charts.{IsChartOf}
use Rattle.frame_chart.specs.Laying.{chart_of}
use Rattle.frame_chart.specs.Printing.{box_chart_text, bridles_of, chart_text}
use Rattle.frame_chart.specs.Spans.{spans_of}
use Rattle.frame_chart.proofs.Told.{the_chart}
use Rattle.rail_text.specs.Bytes.{appended}
use Rattle.rail_text.specs.Gives.{Fault}
use Rattle.line_plan.specs.Frames.{BoxFields}
use Rattle.line_plan.specs.Plans.{IsBoxRow, IsPlan, PlanFields, box_at, names_of}
use Rattle.plan_text.specs.Printing.{plan_text}
use Rattle.plan_draft.specs.Reading.{plan_of}
use Rattle.line_plan.specs.Upgrades.{upgraded}
use Rattle.plan_text.proofs.Drafted.{plan_of_is_plan}
use Rattle.plan_text.proofs.ReadBack.{upgrade_back}
use Rattle.plan_text.proofs.SpellLaws.{read_is_spelled}
use Rattle.line_law.specs.declared.call.Entry.{Entry}
use Rattle.line_law.specs.History.{IsLegal}
use Rattle.line_report.specs.declared.judging.Verdict.{Verdict}
use Rattle.line_report.specs.declared.judging.Verdict.TheVariants.{Legal, WrongAt}
use Rattle.line_report.specs.Verdicts.{judgement_text, legal_text, verdict_of, verdict_text, wrong_text}
use Rattle.reg_audit.specs.Marks.{breaches_of}
use Rattle.reg_audit.proofs.Exactly.{audit_exact}
use Rattle.plan_check.specs.Found.{findings_of}
use Rattle.plan_check.specs.Texts.{findings_text}
use Rattle.plan_check.proofs.Exactly.{are_exact}
use Rattle.script_text.proofs.Named.{found_is}
use Rattle.command_words.specs.declared.command.DeskCommand.{DeskCommand}
use Rattle.command_words.specs.declared.command.DeskCommand.TheVariants as desk
use Rattle.box_top.specs.declared.status.Status.{Status}
use Rattle.box_top.specs.declared.status.Status.TheVariants as statuses
use Rattle.text_fetch.specs.declared.stop.Stop.{Stop}
use Rattle.command_words.specs.Commands.{desk_shown}
use Rattle.reg_audit.specs.Texts.{audited_by, audited_text}
use Rattle.desk_reports.specs.Audits.{audit_told}
use Rattle.desk_reports.specs.Charts.{chart_told, plan_chart_told}
use Rattle.desk_reports.specs.Frames.{box_named, box_told, frame_text, frame_told, plan_frame_told}
use Rattle.desk_reports.specs.Reports.{findings_told, upgrade_told}
use Rattle.desk_reports.specs.SingleLines.{HasTokenScript, history_of, token_script_told, tokens_told, worked_text}
use Rattle.box_top.specs.Headlines.{Headline, IsAuditTextOf, IsJudgementOf, IsWrongText, PrintsChart}
use Rattle.box_top.specs.Headlines.{PrintsFindings, PrintsFrame, PrintsCase, PrintsTokens, PrintsUpgrade, Reported}
use Rattle.desk_reports.specs.Judgements.{Case, IsJudged, IsLawful, case_told, judgement_of, judgement_told}
use Rattle.line_runs.specs.Outputs.{MakesText}
use Rattle.box_top.specs.Outcomes.{IsPrintOf, IsSound, command_told}
use Rattle.text_fetch.specs.FromTexts.{Held, FromTexts, Untold, Gives, Refuses, IsGiven, Makes, plan_told}
use Rattle.text_fetch.specs.FromTexts.{read_told, text_told, told_then}
use Rattle.token_law.proofs.Histories.{calls_are_told, told_has_calls}
use Rattle.box_top.specs.Top.{PutOutcome}
use Rattle.box_top.proofs.AllTold.{IsTold, told_case, told_plan, told_tokens}
use Rattle.box_top.proofs.Outcomes.{IsPut, exactly_makes, outcome_done}

-- ---- a plan and what is printed of it

-- what holds of every plan that is read holds of one that is told
told_plan_is : (P : PlanFields → Type 0) → ((bytes : List ℕ) (plan : PlanFields) → plan_of bytes ≡ Ok plan → P plan)
    → (held : Held) (name : List ℕ) (plan : PlanFields) → plan_told held name ≡ Gives plan → P plan
told_plan_is P each held name plan e = go (held name) e where
  reads : (bytes : List ℕ) (r : Result PlanFields Fault) → plan_of bytes ≡ r → read_told 1 r ≡ Gives plan → P plan
  reads bytes (Ok read) is f = let same : read ≡ plan = cc in subst P same (each bytes read is)
  reads bytes (Err fault) is f = absurd cc

  go : (o : Option (List ℕ)) → text_told 1 plan_of o ≡ Gives plan → P plan
  go None f = absurd cc
  go (Some bytes) f = reads bytes (plan_of bytes) refl f

-- a plan that is told is a plan
plan_is : (held : Held) (name : List ℕ) (plan : PlanFields) → plan_told held name ≡ Gives plan → IsPlan plan
plan_is held name plan e = told_plan_is IsPlan plan_of_is_plan held name plan e

-- its upgrade is read back
upgrade_is_read : (held : Held) (name : List ℕ) (plan : PlanFields) → plan_told held name ≡ Gives plan
    → plan_of (plan_text (upgraded plan)) ≡ Ok (upgraded plan)
upgrade_is_read held name plan e = told_plan_is (λ p. plan_of (plan_text (upgraded p)) ≡ Ok (upgraded p))
    (λ bytes p read. upgrade_back bytes p (plan_of_is_plan bytes p read) (read_is_spelled bytes p read)) held name plan
    e

-- texts spell this, and the bytes taken are what is told of it
record PrintsOf {A : Type 0} (t : FromTexts A) (told : A → FromTexts (List ℕ)) (old new : Option (List ℕ))
    : Type 0 where
  pub made : A
  pub spelled : t ≡ Gives made
  pub text : List ℕ
  pub given : IsGiven text (told made)
  pub taken : new ≡ appended old text

told_done : {X A : Type 0} (outcome : Result X Stop) (view : X → List ℕ) (t : FromTexts A)
    (told : A → FromTexts (List ℕ)) (old new : Option (List ℕ)) (status : Status)
    → Makes view outcome (told_then t told) → PutOutcome view outcome old new status
    → status ≡ statuses.Done → IsTold t → PrintsOf t told old new
told_done {X = X} {A = A} outcome view t told old new status made put e there = go
    (outcome_done outcome view old new status put e) where
      prints : (text : List ℕ) (o : FromTexts A) → new ≡ appended old text → t ≡ o → IsTold o
          → IsGiven text (told_then o told) → PrintsOf t told old new
      prints text Untold taken is there h = absurd there
      prints text (Gives x) taken is there h = record
          { made = x; spelled = is; text = text; given = h; taken = taken }
      prints text (Refuses n fault) taken is there h = absurd h

      go : IsPut outcome view old new → PrintsOf t told old new
      go p = prints (view p.made) t p.taken refl there
          (subst (λ (o : Result X Stop). Makes view o (told_then t told)) p.is made)

-- what is found wherever there is an outcome is found where it is done
done_found : {X : Type 0} (outcome : Result X Stop) (view : X → List ℕ) (P : Type 0) (old new : Option (List ℕ))
    (status : Status) → OnOk outcome P → PutOutcome view outcome old new status → status ≡ statuses.Done → P
done_found {X = X} outcome view P old new status found put e =
    subst (λ (o : Result X Stop). OnOk o P) (outcome_done outcome view old new status put e).is found

-- ---- a check

check_done : (held : Held) (name : List ℕ) (old new : Option (List ℕ))
    → PrintsOf (plan_told held name) (λ plan. Gives (findings_text plan (findings_of plan))) old new
    → PrintsFindings held name old new
check_done held name old new p = record {
  plan = p.made;
  spelled = p.spelled;
  findings = findings_of p.made;
  exact = are_exact p.made (findings_of p.made) (plan_is held name p.made p.spelled) refl;
  taken = p.taken ∙ ap (appended old) (sym p.given);
}

-- ---- a frame

frame_done : (held : Held) (plan_name name : List ℕ) (old new : Option (List ℕ))
    → PrintsOf (plan_told held plan_name) (λ plan. frame_told plan name) old new
    → PrintsFrame held plan_name name old new
frame_done held plan_name name old new p = go (box_named p.made name) refl p.given where
  go : (found : Option ℕ) → box_named p.made name ≡ found
      → IsGiven p.text (told_then (box_told p.made found) (λ box_plan. Gives (frame_text box_plan)))
      → PrintsFrame held plan_name name old new
  go None e h = absurd h
  go (Some b) e h =
      let is = found_is (names_of p.made.boxes) name b e in
      record {
        plan = p.made;
        spelled = p.spelled;
        box_no = b;
        within = omega (arith, is.0, length-map p.made.boxes (λ box_plan. box_plan.name));
        named = sym is.1;
        taken = p.taken ∙ ap (appended old) (sym h);
      }

-- ---- a chart

-- the text of a box's chart
chart_printed : (box_plan : BoxFields) → box_chart_text box_plan
    ≡ chart_text box_plan (bridles_of box_plan) (chart_of (bridles_of box_plan))
unfolding box_chart_text
chart_printed box_plan = refl

-- a box whose rows are as rows of a box are has its chart
box_is_charted : (box_plan : BoxFields) → All (IsBoxRow box_plan) box_plan.rows
    → IsChartOf (spans_of (bridles_of box_plan)) (chart_of (bridles_of box_plan))
box_is_charted box_plan rows =
    let spelled = All-weaker (IsBoxRow box_plan) IsRow (λ row h. h.spelled) box_plan.rows rows in
    let fits = All-weaker IsRow (RowFits most_levers) (λ row h. h.levers) box_plan.rows spelled in
    the_chart (bridles_of box_plan) (compiled_fits most_levers 1 box_plan.rows spelled fits)

chart_done : (held : Held) (plan_name name : List ℕ) (old new : Option (List ℕ))
    → PrintsOf (plan_told held plan_name) (λ plan. chart_told plan name) old new
    → PrintsChart held plan_name name old new
chart_done held plan_name name old new p = go (box_named p.made name) refl p.given where
  go : (found : Option ℕ) → box_named p.made name ≡ found
      → IsGiven p.text (told_then (box_told p.made found) (λ box_plan. Gives (box_chart_text box_plan)))
      → PrintsChart held plan_name name old new
  go None e h = absurd h
  go (Some b) e h =
      let is = found_is (names_of p.made.boxes) name b e in
      let within : b < length p.made.boxes =
      omega (arith, is.0, length-map p.made.boxes (λ box_plan. box_plan.name)) in
      let box_plan = box_at p.made.boxes b in
      record {
        plan = p.made;
        spelled = p.spelled;
        box_no = b;
        within = within;
        named = sym is.1;
        chart = chart_of (bridles_of box_plan);
        is = box_is_charted box_plan ((plan_is held plan_name p.made p.spelled).each b within).rows;
        taken = p.taken ∙ ap (appended old) (sym h ∙ chart_printed box_plan);
      }

-- ---- an upgrade

upgrade_done : (held : Held) (name : List ℕ) (old new : Option (List ℕ))
    → PrintsOf (plan_told held name) (λ plan. Gives (plan_text (upgraded plan))) old new
    → PrintsUpgrade held name old new
upgrade_done held name old new p = record {
  plan = p.made;
  spelled = p.spelled;
  read = upgrade_is_read held name p.made p.spelled;
  taken = p.taken ∙ ap (appended old) (sym p.given);
}

-- ---- a judgement

-- what is printed of a wrong reply doesn't say that the journal is legal
says_legal : (plan : PlanFields) (es : List Entry) (verdict : Verdict)
    → verdict_text plan es verdict ≡ legal_text (length es) → verdict ≡ Legal
unfolding legal_text wrong_text
says_legal plan es Legal e = refl
says_legal plan es (WrongAt line said law) e = let first : ◌≡◌ {A = ℕ} 119 108 = ap (λ (text : List ℕ). get_or text 0 0)
    e in absurd (omega arith)

legal_said : (plan : PlanFields) (es : List Entry) → judgement_text plan es ≡ legal_text (length es)
    → verdict_of plan es ≡ Legal
unfolding judgement_text
legal_said plan es e = says_legal plan es (verdict_of plan es) e

told_by : (plan : PlanFields) (es : List Entry) (verdict : Verdict) → verdict_of plan es ≡ verdict
    → judgement_text plan es ≡ verdict_text plan es verdict
unfolding judgement_text
told_by plan es verdict e = ap (verdict_text plan es) e

-- of a journal that isn't legal the text tells where it is wrong, if it tells each wrong verdict
wrong_told : (case : Case) (text : List ℕ) → ((verdict : Verdict) → verdict_of case.plan case.entries ≡ verdict
    → ¬ (verdict ≡ Legal) → text ≡ verdict_text case.plan case.entries verdict)
    → (verdict : Verdict) → IsLawful case.plan case.entries → verdict_of case.plan case.entries ≡ verdict
    → ¬ IsLegal case.plan case.entries → IsWrongText case text
wrong_told case text tells Legal law e not = absurd (not (law.legal.0 e))
wrong_told case text tells (WrongAt line said lawful) law e not =
    record {
      line = line;
      said = said;
      law = lawful;
      is = law.wrong line said lawful e;
      printed = tells (WrongAt line said lawful) e (λ bad. cc);
    }

judgement_is : (case : Case) → IsLawful case.plan case.entries → IsJudgementOf case (judgement_of case)
judgement_is case law = record {
  printed = refl;
  legal = (
    λ said. law.legal.0 (legal_said case.plan case.entries said),
    λ is. told_by case.plan case.entries Legal
        (law.legal.1 is),
  );
  wrong = wrong_told case (judgement_of case) (λ verdict e not. told_by case.plan case.entries verdict e)
      (verdict_of case.plan case.entries) law refl;
}

-- where a journal isn't legal, an audit tells what the judge tells
audited_as_judged : (case : Case) (verdict : Verdict) → verdict_of case.plan case.entries ≡ verdict
    → ¬ (verdict ≡ Legal) → audited_text case.plan case.entries ≡ verdict_text case.plan case.entries verdict
audited_as_judged case Legal e not = absurd (not refl)
audited_as_judged case (WrongAt line said lawful) e not = ap (audited_by case.plan case.entries) e

audit_is : (case : Case) → IsLawful case.plan case.entries
    → IsAuditTextOf case (audited_text case.plan case.entries)
audit_is case law = record {
  legal = λ is. record {
    breaches = breaches_of case.plan case.entries;
    is = audit_exact case.plan case.entries is;
    printed = ap (audited_by case.plan case.entries) (law.legal.1 is);
  };
  wrong = wrong_told case (audited_text case.plan case.entries) (audited_as_judged case)
      (verdict_of case.plan case.entries) law refl;
}

case_done : (IsFound : Case → List ℕ → Type 0) (report : Case → List ℕ)
    → ((case : Case) → IsLawful case.plan case.entries → IsFound case (report case))
    → (held : Held) (name other : List ℕ) (old new : Option (List ℕ))
    → PrintsOf (case_told held name other) (λ case. Gives (report case)) old new
    → IsJudged (case_told held name other) → PrintsCase IsFound held name other old new
case_done IsFound report is held name other old new p judged = record {
  case = p.made;
  spelled = p.spelled;
  text = p.text;
  is = subst (IsFound p.made) p.given (is p.made (judged p.made p.spelled));
  taken = p.taken;
}

-- ---- a single line with tokens

tokens_done : (held : Held) (name : List ℕ) (old new : Option (List ℕ))
    → PrintsOf (token_script_told held name) (λ script. Gives (worked_text script)) old new
    → HasTokenScript (token_script_told held name) → PrintsTokens held name old new
tokens_done held name old new p has = record {
  script = p.made;
  spelled = p.spelled;
  entries = history_of p.made;
  legal = calls_are_told p.made.at_0 p.made.at_1 p.made.calls (has p.made p.spelled).calls;
  calls = told_has_calls p.made.at_0 p.made.at_1 p.made.calls;
  taken = p.taken ∙ ap (appended old) (sym p.given);
}

-- ---- a command of the desk

-- the desk works no line
pub desk_works_none : (command : DeskCommand) (held : Held) (old new : Option (List ℕ))
    → Headline held (Some (desk_shown command)) old new
desk_works_none (desk.Check plan) held old new = tt
desk_works_none command held old new = tt

-- where a command of the desk is done, and the shelf tells its texts, these spell what the command needs, and what
-- it prints of them was taken
pub desk_done : {X : Type 0} (command : DeskCommand) (outcome : Result X Stop) (view : X → List ℕ) (held : Held)
    (old new : Option (List ℕ)) (status : Status)
    → MakesText IsPrintOf view outcome (command_told held (desk_shown command))
    → OnOk outcome (IsSound held (desk_shown command)) → PutOutcome view outcome old new status
    → status ≡ statuses.Done → Reported held (Some (desk_shown command)) old new
desk_done (desk.Check plan) outcome view held old new status made sound put e = λ all.
    let made_so = exactly_makes outcome view (findings_told held plan.now) made in
    check_done held plan.now old new
    (told_done outcome view _ _ old new status made_so put e (told_plan held plan.now all))
desk_done (desk.Tables plan name) outcome view held old new status made sound put e = λ all.
    let made_so = exactly_makes outcome view (plan_frame_told held plan.now name.now) made in
    frame_done held plan.now name.now old new
    (told_done outcome view _ _ old new status made_so put e (told_plan held plan.now all))
desk_done (desk.Chart plan name) outcome view held old new status made sound put e = λ all.
    let made_so = exactly_makes outcome view (plan_chart_told held plan.now name.now) made in
    chart_done held plan.now name.now old new
    (told_done outcome view _ _ old new status made_so put e (told_plan held plan.now all))
desk_done (desk.Judge plan journal) outcome view held old new status made sound put e = λ all.
    let made_so = exactly_makes outcome view (judgement_told held plan.now journal.now) made in
    case_done IsJudgementOf judgement_of judgement_is held plan.now journal.now old new
    (told_done outcome view _ _ old new status made_so put e (told_case held plan.now journal.now all))
    (done_found outcome view _ old new status sound put e)
desk_done (desk.Audit plan journal) outcome view held old new status made sound put e = λ all.
    let made_so = exactly_makes outcome view (audit_told held plan.now journal.now) made in
    case_done IsAuditTextOf _ audit_is held plan.now journal.now old new
    (told_done outcome view _ _ old new status made_so put e (told_case held plan.now journal.now all))
    (done_found outcome view _ old new status sound put e)
desk_done (desk.Upgrade plan) outcome view held old new status made sound put e = λ all.
    let made_so = exactly_makes outcome view (upgrade_told held plan.now) made in
    upgrade_done held plan.now old new
    (told_done outcome view _ _ old new status made_so put e (told_plan held plan.now all))
desk_done (desk.Token script) outcome view held old new status made sound put e = λ all.
    let made_so = exactly_makes outcome view (tokens_told held script.now) made in
    tokens_done held script.now old new
    (told_done outcome view _ _ old new status made_so put e (told_tokens held script.now all))
    (done_found outcome view _ old new status sound put e)
