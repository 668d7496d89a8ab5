use Rattle.hand_working.proofs.Told.{journal_spelled}
use Rattle.hand_working.proofs.duty.Duty.is_spelled.Goals as goal

pub returns : goal.returns
returns c =
    let is = c.meets_conditions.ensures in
    rw (← c.self.view_is) (journal_spelled _ _ is.plan is.short is.session.legal)
