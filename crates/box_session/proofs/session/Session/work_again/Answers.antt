use Rattle.box_session.proofs.Kept.{kept_settled, kept_short}
use Rattle.box_session.proofs.session.Session.work_again.Goals as goal

pub work_again-requires-clause-few : goal.work_again-requires-clause-few
work_again-requires-clause-few c =
    rw c.as_slice-entries.ensures.value (kept_short _ _ _ _ _ _ _ _ c.meets_conditions.ensures c.self.invariant)

pub work_again-requires-clause-legal : goal.work_again-requires-clause-legal
work_again-requires-clause-legal c =
    rw c.as_slice-entries.ensures.value (kept_settled _ _ _ _ _ _ _ _ c.self.invariant).so_far.legal

pub work_again-requires-clause-turns : goal.work_again-requires-clause-turns
work_again-requires-clause-turns c =
    rw c.as_slice-entries.ensures.value (kept_settled _ _ _ _ _ _ _ _ c.self.invariant).so_far.turns
