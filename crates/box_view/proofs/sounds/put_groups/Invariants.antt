use Rattle.std.proofs.Common.{◌≡◌, ◌++◌, string_bytes, take}
use Rattle.std.specs.List.{flat_map}
use Rattle.box_view.specs.Notices.{further_sound}
use Rattle.box_view.proofs.sounds.put_groups.Given as goal

abbrev pub invariant-loop-beats : goal.invariant-loop-beats
invariant-loop-beats l =
    string_bytes l.out ≡ string_bytes l.initial.out ++ flat_map further_sound (take l.beats-index l.rest)
