use Rattle.signalman_seats.proofs.Refusing.{refused_as_seen, refused_at_looks, refused_at_step}
use Rattle.signalman_seats.proofs.laws.refusal_law.Goals as goal

pub returns-clause-seen : goal.returns-clause-seen
returns-clause-seen c = refused_as_seen

pub returns-clause-step : goal.returns-clause-step
returns-clause-step c = refused_at_step

pub returns-clause-in_vain : goal.returns-clause-in_vain
returns-clause-in_vain c = refused_at_looks
