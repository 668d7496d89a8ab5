use Rattle.std.proofs.Common.{◌≡◌, List, sym, subst}
use Rattle.std.proofs.lemmas.Result.{IfOk-weaker}
use Rattle.box_marking.specs.declared.marking.Marking.{Marking}
use Rattle.box_marking.specs.Markings.{AreMarkings, markings_of}
use Rattle.box_marking.proofs.Exactly.{markings_exact}
use Rattle.box_marking.proofs.marking.mark.Goals as goal

pub returns-clause-exact : goal.returns-clause-exact
returns-clause-exact c =
    let plan = c.args.plan.now in
    let es = c.args.entries.now in
    IfOk-weaker c.markings_in.result (λ markings. markings.items ≡ markings_of plan c.args.within c.args.only es)
    (λ markings. AreMarkings plan c.args.within es c.args.only markings.items)
    (λ markings is.
    subst (λ (ms : List Marking). AreMarkings plan c.args.within es c.args.only ms)
    (sym is) (markings_exact plan c.args.within es c.args.only))
    c.markings_in.ensures
