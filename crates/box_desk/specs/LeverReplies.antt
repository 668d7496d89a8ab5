-- What the law answers where the lever frame answers.
use Rattle.std.specs.Prelude.{Option, Some, None}
use Rattle.lever_frame.specs.declared.reply.LeverReply.{LeverReply}
use Rattle.lever_frame.specs.declared.reply.LeverReply.TheVariants as frame
use Rattle.line_law.specs.declared.call.Reply.{Reply}
use Rattle.line_law.specs.declared.call.Reply.TheVariants.{Spare, HeldByLever, HeldByTrack}

-- what a call is refused for, by what the frame answers: a lever at its end already has the reply of the call for that
abbrev pub refusal_of : Reply → LeverReply → Option Reply
refusal_of there frame.Free = None
refusal_of there frame.AlreadyThere = Some there
refusal_of there frame.Spare = Some Spare
refusal_of there (frame.HeldByLever lever row) = Some (HeldByLever lever row)
refusal_of there (frame.HeldByTrack place train) = Some (HeldByTrack place train)
