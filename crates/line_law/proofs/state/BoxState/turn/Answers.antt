use Rattle.line_law.proofs.Clears.{room_out}
use Rattle.line_law.proofs.state.BoxState.turn.Goals as goal

pub turn_block-reply-requires-clause-room : goal.turn_block-reply-requires-clause-room
turn_block-reply-requires-clause-room c = room_out _ _ _ _ c.requires.berth c.requires.control
