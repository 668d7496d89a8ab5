use Rattle.locking_table.proofs.RoundTrip.{printed_is_read}
use Rattle.locking_table.proofs.RowFaults.{bad_row, same_lever}
use Rattle.locking_table.proofs.Spelling.{read_is_spelled}
use Rattle.locking_table.proofs.laws.row_law.Goals as goal

pub returns : goal.returns
returns c = record { printed = printed_is_read; spelled = read_is_spelled; bad_row = bad_row; same_lever = same_lever }
