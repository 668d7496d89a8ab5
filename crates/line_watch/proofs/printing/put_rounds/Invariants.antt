use Rattle.std.proofs.Common.{◌≡◌, ◌++◌, string_bytes, map, take}
use Rattle.line_watch.specs.Boards.{RoundFields, rounds_text}
use Rattle.line_watch.proofs.printing.put_rounds.Given as goal

abbrev pub invariant-loop-place : goal.invariant-loop-place
invariant-loop-place l = string_bytes l.out
    ≡ string_bytes l.fn.out ++ rounds_text l.plan 1 (take l.place (map (λ (r : RoundFields). r.sights) l.rounds))
