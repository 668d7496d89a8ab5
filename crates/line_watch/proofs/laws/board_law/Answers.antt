use Rattle.line_watch.proofs.BoardsShown.{board_of}
use Rattle.line_watch.proofs.laws.board_law.Goals as goal

pub returns : goal.returns
returns c = board_of
