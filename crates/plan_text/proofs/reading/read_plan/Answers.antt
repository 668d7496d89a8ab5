use Rattle.plan_text.proofs.ReadBack.{reader_printed, reader_refused}
use Rattle.plan_text.proofs.SpelledPlans.{reader_reads}
use Rattle.plan_text.proofs.reading.read_plan.Goals as goal

pub returns-clause-reads : goal.returns-clause-reads
returns-clause-reads c = reader_reads c.args.bytes.now c.plan_in.result c.plan_in.ensures.exact

pub returns-clause-refused : goal.returns-clause-refused
returns-clause-refused c = reader_refused c.args.bytes.now c.plan_in.result c.plan_in.ensures.exact

pub returns-clause-printed : goal.returns-clause-printed
returns-clause-printed c = reader_printed c.args.bytes.now c.plan_in.result c.plan_in.ensures.exact
