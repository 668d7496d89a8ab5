use Rattle.std.proofs.Common.{◌≡◌, ◌++◌, drop, map, string_bytes}
use Rattle.plan_text.specs.Printing.{track_line, printed}
use Rattle.plan_text.proofs.printing.put_tracks.Given as goal

abbrev pub invariant-loop-track : goal.invariant-loop-track
invariant-loop-track l =
    string_bytes l.out ++ printed (map (track_line l.places) (drop l.track-index l.tracks))
    ≡ string_bytes l.initial.out ++ printed (map (track_line l.places) l.tracks)
