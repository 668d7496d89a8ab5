use Rattle.std.proofs.Common.{◌≡◌, ◌∷◌, ◌++◌, get_or, take, string_bytes}
use Rattle.bell_codes.specs.Codes.{code_text}
use Rattle.script_text.proofs.names.put_groups.Given as goal

abbrev pub invariant-loop-beats : goal.invariant-loop-beats
invariant-loop-beats l =
    string_bytes l.out ≡ string_bytes l.fn.out ++ code_text (get_or l.groups 0 0 ∷ take l.beats-index l.rest)
