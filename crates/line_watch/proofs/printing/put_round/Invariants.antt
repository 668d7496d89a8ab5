use Rattle.std.proofs.Common.{◌≡◌, ◌++◌, string_bytes, take}
use Rattle.line_plan.specs.Sections.{sections_of}
use Rattle.line_watch.specs.Boards.{round_text}
use Rattle.line_watch.proofs.printing.put_round.Given as goal

abbrev pub invariant-loop-place : goal.invariant-loop-place
invariant-loop-place l = string_bytes l.out
    ≡ string_bytes l.fn.out ++ round_text l.plan l.number (take l.place (sections_of l.plan)) (take l.place l.sights)
