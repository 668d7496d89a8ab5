use Rattle.std.proofs.Common.{ℕ, List, get_or, refl, string_bytes, sym, subst}
use Rattle.rehearsal_report.proofs.Accounts.{entry_within}
use Rattle.line_report.proofs.Turns.{no_entry}
use Rattle.rehearsal_report.proofs.RaceLines.{number_of, race_put}
use Rattle.rehearsal_report.proofs.Reported.{four_put}
use Rattle.rehearsal_report.proofs.differences.put_race.Goals as goal
use Rattle.rehearsal_report.specs.ReportLines.{act_at}
use Rattle.rehearsal_report.specs.Reports.{IsSentence}

pub put_act_at-requires-clause-box_no : goal.put_act_at-requires-clause-box_no
put_act_at-requires-clause-box_no c =
    entry_within c.args.account.now.plan.now c.args.account.now.scripts.now c.args.account.now.texts.now
    c.args.account.now.rehearsal.now c.as_slice-entries.result.now c.args.race.now.second _ c.requires.account
    c.as_slice-entries.ensures c.requires.race.second

pub put_act_at-requires-2-clause-box_no : goal.put_act_at-requires-2-clause-box_no
put_act_at-requires-2-clause-box_no c =
    entry_within c.args.account.now.plan.now c.args.account.now.scripts.now c.args.account.now.texts.now
    c.args.account.now.rehearsal.now c.as_slice-entries.result.now c.args.race.now.first _ c.requires.account
    c.as_slice-entries.ensures c.requires.race.first

pub returns : goal.returns
returns c =
    let journal = c.args.account.now.rehearsal.now.journal.entries in
    let numbers = c.args.numbers.now in
    let race = c.args.race.now in
    let es = c.as_slice-entries.result.now in
    race_put c.args.account.now.plan.now c.args.account.now.texts.now journal es race no_entry
    (get_or numbers race.first 0) (get_or numbers race.second 0) c.as_str.result.now _ _ _ c.as_slice-entries.ensures
    c.requires.race
    (number_of journal numbers es race.first (get_or numbers race.first 0) no_entry c.requires.numbers
    c.as_slice-entries.ensures c.requires.race.first refl)
    (number_of journal numbers es race.second (get_or numbers race.second 0) no_entry c.requires.numbers
    c.as_slice-entries.ensures c.requires.race.second refl)
    (subst (λ (text : List ℕ). IsSentence text) (sym c.as_str.ensures.same) c.in_ok-sentence.ensures)
    (four_put
    (act_at c.args.account.now.plan.now c.args.account.now.texts.now (get_or es race.second no_entry)
    (get_or numbers race.second 0)) _ _ _ (string_bytes c.args.out.now) _ _ _ _ c.in_ok-put_act_at.ensures
    c.in_ok-push_str.ensures.bytes
    c.in_ok-put_act_at-2.ensures c.in_ok-push_str-2.ensures.bytes)
    c.in_ok-put_line.ensures
