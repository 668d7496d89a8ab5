use Rattle.std.proofs.Common.{◌≡◌, ◌∙◌, ap}
use Rattle.line_plan.specs.Plans.{PlanFields}
use Rattle.line_report.specs.Reading.{most_journal_bytes}
use Rattle.desk_reports.specs.Audits.{report_of}
use Rattle.desk_reports.proofs.Cases.{few_journal_bytes, report_of-take}
use Rattle.text_fetch.proofs.Fetched.{fetched_given, fetched_stops}
use Rattle.desk_reports.proofs.judging.fetch_report.Goals as goal

pub fetch_bytes-requires : goal.fetch_bytes-requires
fetch_bytes-requires g c =
    let most : c.most_journal_bytes.result ≡ most_journal_bytes c.args.plan.now.version =
    c.most_journal_bytes.ensures ∙ ap (λ (p : PlanFields). most_journal_bytes p.version) c.plan.view_is in
    rw most (few_journal_bytes c.args.plan.now.version)

pub returns-in-Ok-clause-text : goal.returns-in-Ok-clause-text
returns-in-Ok-clause-text g c =
    let most : c.most_journal_bytes.result ≡ most_journal_bytes c.args.plan.now.version =
    c.most_journal_bytes.ensures ∙ ap (λ (p : PlanFields). most_journal_bytes p.version) c.plan.view_is in
    fetched_given 2 (most_journal_bytes c.args.plan.now.version) (report_of c.args.report c.args.plan.now)
    (g.S.Shelf.held c.args.shelf.now c.args.name.now) c.in_ok-bytes.bytes.items c.in-Ok.text.items
    (report_of-take c.args.report c.args.plan.now)
    (rw most at c.in_ok-bytes.ensures.bytes) (rw c.deref.ensures.value at c.in-Ok.ensures.exact)

pub returns-clause-text : goal.returns-clause-text
returns-clause-text g c =
    let most : c.most_journal_bytes.result ≡ most_journal_bytes c.args.plan.now.version =
    c.most_journal_bytes.ensures ∙ ap (λ (p : PlanFields). most_journal_bytes p.version) c.plan.view_is in
    fetched_stops 2 (most_journal_bytes c.args.plan.now.version) (report_of c.args.report c.args.plan.now)
    (g.S.Shelf.held c.args.shelf.now c.args.name.now) c.in_ok-bytes.bytes.items c.in-Err.error c.stop_of.result
    (report_of-take c.args.report c.args.plan.now)
    (rw most at c.in_ok-bytes.ensures.bytes) (rw c.deref.ensures.value at c.in-Err.ensures.exact) c.stop_of.ensures
