use Rattle.std.proofs.Common.{◌≡◌, ◌++◌, drop}
use Rattle.graph_picture.specs.Trains.{deeds_text}
use Rattle.graph_picture.proofs.train_drawing.put_deeds.Given as goal

abbrev pub invariant-loop-number : goal.invariant-loop-number
invariant-loop-number l = record {
  text : l.page.text ++ deeds_text l.layout l.axis l.name (drop l.number l.deeds)
      ≡ l.fn.page.text ++ deeds_text l.layout l.axis l.name l.deeds;
  tags : l.page.open_tags ≡ l.fn.page.open_tags;
}
