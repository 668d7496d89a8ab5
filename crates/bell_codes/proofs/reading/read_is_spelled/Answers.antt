use Rattle.bell_codes.proofs.Texts.{read_spelled}
use Rattle.bell_codes.proofs.reading.read_is_spelled.Goals as goal

pub returns : goal.returns
returns c = read_spelled
