use Rattle.std.proofs.Common.{◌≡◌, ◌++◌, drop, string_bytes}
use Rattle.std.specs.List.{flat_map}
use Rattle.reg_audit.specs.Texts.{breach_text}
use Rattle.reg_audit.proofs.printing.put_breaches.Given as goal

abbrev pub invariant-loop-breach : goal.invariant-loop-breach
invariant-loop-breach l = string_bytes l.out ++ flat_map breach_text (drop l.breach-index l.breaches)
    ≡ string_bytes l.fn.out ++ flat_map breach_text l.breaches
