use Rattle.std.proofs.Common.{◌≡◌, take}
use Rattle.line_plan.proofs.copying.copied_tracks.Given as goal

abbrev pub invariant-loop-track : goal.invariant-loop-track
invariant-loop-track l = l.copied.items ≡ take l.track-index l.tracks
