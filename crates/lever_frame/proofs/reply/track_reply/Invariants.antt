use Rattle.std.proofs.Common.{◌≡◌, drop}
use Rattle.lever_frame.specs.Replies.{track_reply}
use Rattle.lever_frame.proofs.reply.track_reply.Given as goal

abbrev pub invariant-loop-place : goal.invariant-loop-place
invariant-loop-place l = track_reply l.tracks (drop l.place-index l.places) ≡ track_reply l.tracks l.places
