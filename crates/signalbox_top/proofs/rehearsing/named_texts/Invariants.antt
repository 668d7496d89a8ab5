use Rattle.std.proofs.Common.{◌≡◌, map, take}
use Rattle.signalbox_top.specs.Top.{named_texts}
use Rattle.signalbox_top.proofs.rehearsing.named_texts.Given as goal

abbrev pub invariant-loop-at : goal.invariant-loop-at
invariant-loop-at l = l.named.items ≡ take l.at (named_texts (map (λ name. name.now) l.names) l.texts)
