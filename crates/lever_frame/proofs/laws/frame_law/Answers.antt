use Rattle.lever_frame.proofs.Plans.{passed_of, pulled_of, put_of}
use Rattle.lever_frame.proofs.laws.frame_law.Goals as goal

pub returns : goal.returns
returns c = record { pull = pulled_of; put = put_of; pass = passed_of }
