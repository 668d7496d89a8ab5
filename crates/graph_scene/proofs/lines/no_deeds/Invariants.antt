use Rattle.std.proofs.Common.{◌≡◌, ℕ, ◌<◌, get_or, length}
use Rattle.std.specs.Global.{Vec}
use Rattle.graph_scene.specs.declared.deeds.TrainDeed.{TrainDeed}
use Rattle.graph_scene.proofs.lines.no_deeds.Given as goal

abbrev pub invariant-loop : goal.invariant-loop
invariant-loop l = record {
  count : length l.parts.items ≡ l.counter;
  none : (t : ℕ) (d : Vec TrainDeed) → t < l.counter → length (get_or l.parts.items t d).items ≡ 0;
}
