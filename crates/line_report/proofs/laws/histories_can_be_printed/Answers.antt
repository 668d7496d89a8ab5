use Rattle.line_report.proofs.Histories.{legal_spelled}
use Rattle.line_report.proofs.laws.histories_can_be_printed.Goals as goal

pub returns : goal.returns
returns c = legal_spelled
