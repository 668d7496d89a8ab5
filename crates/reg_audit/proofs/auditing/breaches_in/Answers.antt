use Rattle.std.proofs.Common.{◌+◌, List, take, sym, subst, ◌∙◌, arith}
use Rattle.std.proofs.lemmas.List.{length-take, take_all, take_more}
use Rattle.line_law.specs.declared.call.Entry.{Entry}
use Rattle.line_law.specs.History.{IsLegal}
use Rattle.reg_audit.specs.Auditors.{HasAudited}
use Rattle.reg_audit.proofs.EntryAudited.{audited_all}
use Rattle.reg_audit.proofs.Exactly.{no_entry}
use Rattle.reg_audit.proofs.Places.{legal_before}
use Rattle.reg_audit.proofs.auditing.breaches_in.Goals as goal

pub hear-requires : goal.hear-requires
hear-requires c =
    let i = c.loop-entry.entry-index in
    let entries = c.args.entries.now in
    record {
      es = take i entries;
      has = c.loop-entry.invariant.audited;
      legal = subst (λ (es : List Entry). IsLegal c.args.plan.now es)
          (take_more entries i no_entry c.loop-entry-test.true)
          (legal_before c.args.plan.now entries (i + 1) c.requires.legal);
      few =
          let lt = c.loop-entry-test.true in
          let few = c.requires.few in
          omega (arith, length-take i entries, lt, few);
    }

pub loop-entry-preserved : goal.loop-entry-preserved
loop-entry-preserved c =
    let i = c.loop-entry.entry-index in
    let entries = c.args.entries.now in
    let more = take_more entries i no_entry c.loop-entry-test.true in
    record {
      audited = subst (λ (es : List Entry). HasAudited c.args.plan.now es c.hear.new.self) (sym more)
          (c.in_ok-hear.ensures (take i entries) c.loop-entry.invariant.audited
          (subst (λ (es : List Entry). IsLegal c.args.plan.now es) more
          (legal_before c.args.plan.now entries (i + 1) c.requires.legal)));
    }

pub returns : goal.returns
returns c =
    let i = c.loop-entry.entry-index in
    let entries = c.args.entries.now in
    c.into_found.ensures
    ∙ audited_all c.args.plan.now entries c.loop-entry.auditor
    (subst (λ (es : List Entry). HasAudited c.args.plan.now es c.loop-entry.auditor)
    (take_all i entries c.loop-entry-test.false) c.loop-entry.invariant.audited)
