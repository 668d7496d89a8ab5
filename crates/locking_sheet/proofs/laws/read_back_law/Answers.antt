use Rattle.locking_sheet.proofs.ReadBack.{read_back}
use Rattle.locking_sheet.proofs.laws.read_back_law.Goals as goal

pub returns : goal.returns
returns c = λ name levers rows text none frame printed. read_back name levers rows text none frame printed
