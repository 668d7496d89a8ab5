use Rattle.script_text.proofs.CallTexts.{spelled_call}
use Rattle.script_text.proofs.laws.calls_law.Goals as goal

pub returns-clause-spelled : goal.returns-clause-spelled
returns-clause-spelled c = spelled_call
