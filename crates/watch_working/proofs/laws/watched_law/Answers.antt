use Rattle.watch_working.proofs.Shows.{watched_board}
use Rattle.watch_working.proofs.laws.watched_law.Goals as goal

pub returns : goal.returns
returns c = watched_board
