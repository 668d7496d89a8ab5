use Rattle.std.proofs.Common.{◌≡◌, ◌++◌, drop, flat_map, string_bytes}
use Rattle.mark_up.specs.Attributes.{attribute_text, told}
use Rattle.mark_up.proofs.attributes.put_attributes.Given as goal

abbrev pub invariant-loop-attribute : goal.invariant-loop-attribute
invariant-loop-attribute l = string_bytes l.out ++ flat_map attribute_text (told (drop l.attribute-index l.attributes))
    ≡ string_bytes l.fn.out ++ flat_map attribute_text (told l.attributes)
