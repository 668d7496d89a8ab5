use Rattle.std.proofs.Common.{◌≡◌, ◌++◌, drop, string_bytes}
use Rattle.std.specs.List.{flat_map}
use Rattle.box_marking.specs.Texts.{marking_text}
use Rattle.box_marking.proofs.printing.put_markings.Given as goal

abbrev pub invariant-loop-marking : goal.invariant-loop-marking
invariant-loop-marking l = string_bytes l.out ++ flat_map (marking_text l.plan) (drop l.marking-index l.markings)
    ≡ string_bytes l.fn.out ++ flat_map (marking_text l.plan) l.markings
