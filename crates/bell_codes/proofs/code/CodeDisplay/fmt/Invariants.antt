use Rattle.std.proofs.Common.{◌∷◌, get_or, take}
use Rattle.std.specs.Fmt.{HasWritten, IsPlainFormatter}
use Rattle.bell_codes.specs.Codes.{code_text}
use Rattle.bell_codes.proofs.code.CodeDisplay.fmt.Given as goal

abbrev pub invariant-loop-beats : goal.invariant-loop-beats
invariant-loop-beats g l =
    IsPlainFormatter l.fn.f
    → HasWritten g.W.Write.write_str_gives l.fn.f (code_text (get_or l.self 0 0 ∷ take l.beats-index l.rest)) l.f
