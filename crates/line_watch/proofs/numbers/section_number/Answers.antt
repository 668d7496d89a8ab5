use Rattle.std.proofs.Common.{subst}
use Rattle.std.specs.Prelude.{IsTrue}
use Rattle.block_words.specs.declared.Way.{Way}
use Rattle.line_plan.specs.Ways.{leaves}
use Rattle.line_watch.proofs.SectionNumbers.{number_listed}
use Rattle.block_words.specs.declared.Way.TheVariants.{Up, Down}
use Rattle.line_watch.proofs.numbers.section_number.Goals as goal

pub returns-in-Up-clause-listed : goal.returns-in-Up-clause-listed
returns-in-Up-clause-listed c =
    let x = c.args.section in
    number_listed c.args.boxes x Up c.in-Up.is
    (subst (λ (w : Way). IsTrue (leaves c.args.boxes x.rear w)) c.in-Up.is c.requires)

pub returns-in-Down-clause-listed : goal.returns-in-Down-clause-listed
returns-in-Down-clause-listed c =
    let x = c.args.section in
    number_listed c.args.boxes x Down c.in-Down.is
    (subst (λ (w : Way). IsTrue (leaves c.args.boxes x.rear w)) c.in-Down.is c.requires)
