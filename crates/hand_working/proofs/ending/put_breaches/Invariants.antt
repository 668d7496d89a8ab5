use Rattle.std.proofs.Common.{◌≡◌, ◌++◌, drop, string_bytes}
use Rattle.std.specs.List.{flat_map}
use Rattle.hand_working.specs.Endings.{breach_text}
use Rattle.hand_working.proofs.ending.put_breaches.Given as goal

abbrev pub invariant-loop-breach : goal.invariant-loop-breach
invariant-loop-breach l =
    string_bytes l.out ++ flat_map (breach_text l.plan l.box_no l.entries) (drop l.breach-index l.breaches)
    ≡ string_bytes l.fn.out ++ flat_map (breach_text l.plan l.box_no l.entries) l.breaches
