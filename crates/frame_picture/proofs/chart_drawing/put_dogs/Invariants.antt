use Rattle.std.proofs.Common.{◌≡◌, ◌++◌, drop}
use Rattle.frame_picture.specs.Channels.{dogs_text}
use Rattle.frame_picture.proofs.chart_drawing.put_dogs.Given as goal

abbrev pub invariant-loop-dog : goal.invariant-loop-dog
invariant-loop-dog l = record {
  text : l.page.text ++ dogs_text l.layout (drop l.dog-index l.dogs) ≡ l.fn.page.text ++ dogs_text l.layout l.dogs;
  tags : l.page.open_tags ≡ l.fn.page.open_tags;
}
