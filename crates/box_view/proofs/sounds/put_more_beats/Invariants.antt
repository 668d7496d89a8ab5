use Rattle.std.proofs.Common.{◌≡◌, ◌++◌, string_bytes}
use Rattle.box_view.specs.Notices.{more_beats}
use Rattle.box_view.proofs.sounds.put_more_beats.Given as goal

abbrev pub invariant-loop : goal.invariant-loop
invariant-loop l = string_bytes l.out ≡ string_bytes l.fn.out ++ more_beats l.counter
