use Rattle.std.proofs.Common.{◌≡◌, subst, ◌∙◌}
use Rattle.line_c.proofs.Unmade.{unmade_why}
use Rattle.line_c.specs.Calls.{IsMadeOf}
use Rattle.line_c.proofs.calls.perform_on.Goals as goal

-- src/calls.rt:52:1
pub returns-in-Err-clause-why : goal.returns-in-Err-clause-why
returns-in-Err-clause-why c n =
    let e = c.status_of_fault.ensures in
    e
    ∙ unmade_why c.args.engine.now c.perform_in.new.engine c.args.numbers.now c.in-Err.fault
    (subst (λ made. IsMadeOf c.args.engine.now c.args.numbers.now c.perform_in.new.engine made) c.in-Err.is
    c.perform_in.ensures) (λ z. n (e ∙ z))
