use Rattle.std.proofs.Common.{◌≡◌, ◌++◌, drop, string_bytes}
use Rattle.std.specs.List.{flat_map}
use Rattle.plan_check.specs.Texts.{finding_text}
use Rattle.plan_check.proofs.printing.put_lines.Given as goal

abbrev pub invariant-loop-finding : goal.invariant-loop-finding
invariant-loop-finding l =
    string_bytes l.out ++ flat_map (finding_text l.plan) (drop l.finding-index l.findings)
    ≡ string_bytes l.fn.out ++ flat_map (finding_text l.plan) l.findings
