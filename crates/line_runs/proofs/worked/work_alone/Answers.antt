use Rattle.std.proofs.Common.{List, subst}
use Rattle.std.proofs.lemmas.Result.{IfOk-weaker}
use Rattle.line_plan.specs.Plans.{IsPlan}
use Rattle.line_law.specs.declared.call.Entry.{Entry}
use Rattle.train_register.specs.Registers.{AreParts}
use Rattle.line_runs.proofs.ScriptsWorked.{alone_within, alone_worked}
use Rattle.line_runs.proofs.worked.work_alone.Goals as goal

pub of_journal-ended-requires : goal.of_journal-ended-requires
of_journal-ended-requires g c =
    let is : IsPlan c.args.plan.now = c.meets_conditions.ensures in
    record { boxes = alone_within c.args.plan.now c.args.scripts.now _ is c.requires c.in_ok-journal.ensures }

pub returns-clause-worked : goal.returns-clause-worked
returns-clause-worked g c =
    let is : IsPlan c.args.plan.now = c.meets_conditions.ensures in
    IfOk-weaker c.of_journal-ended.result _ _
    (λ ended parts. alone_worked c.args.plan.now c.args.scripts.now _ ended.registers is c.requires
    c.in_ok-journal.ensures parts) c.of_journal-ended.ensures.parts

pub returns-clause-serial : goal.returns-clause-serial
returns-clause-serial g c =
    IfOk-weaker c.of_journal-ended.result _ _
    (λ ended parts. subst (λ (es : List Entry). AreParts c.args.plan.now es ended.registers) c.in_ok-journal.ensures
    parts) c.of_journal-ended.ensures.parts
