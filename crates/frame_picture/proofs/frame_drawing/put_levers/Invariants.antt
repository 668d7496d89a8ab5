use Rattle.std.proofs.Common.{◌≡◌, ◌++◌, drop}
use Rattle.frame_picture.specs.Levers.{levers_text}
use Rattle.frame_picture.proofs.frame_drawing.put_levers.Given as goal

abbrev pub invariant-loop-lever : goal.invariant-loop-lever
invariant-loop-lever l = record {
  text : l.page.text ++ levers_text l.plan l.layout (drop l.lever-index l.levers)
      ≡ l.fn.page.text ++ levers_text l.plan l.layout l.levers;
  tags : l.page.open_tags ≡ l.fn.page.open_tags;
}
