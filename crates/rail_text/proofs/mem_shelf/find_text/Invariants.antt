use Rattle.std.proofs.Common.{◌≡◌, drop, map}
use Rattle.rail_text.specs.MemShelf.{held_in, text_of}
use Rattle.rail_text.proofs.mem_shelf.find_text.Given as goal

abbrev pub invariant-loop-text : goal.invariant-loop-text
invariant-loop-text l = held_in (map text_of (drop l.text-index l.texts)) l.name ≡ held_in (map text_of l.texts) l.name
