use Rattle.std.proofs.Common.{◌≡◌, ◌++◌, string_bytes, take}
use Rattle.std.specs.List.{flat_map}
use Rattle.script_text.specs.Scripts.{call_line}
use Rattle.script_text.proofs.printing_scripts.put_calls.Given as goal

abbrev pub invariant-loop-call : goal.invariant-loop-call
invariant-loop-call l =
    string_bytes l.out ≡ string_bytes l.fn.out ++ flat_map (λ call. call_line l.plan call) (take l.call-index l.calls)
