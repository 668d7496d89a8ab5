use Rattle.std.proofs.Common.{◌≡◌, ◌++◌, drop}
use Rattle.frame_picture.specs.Channels.{tappets_text}
use Rattle.frame_picture.proofs.chart_drawing.put_tappets.Given as goal

abbrev pub invariant-loop-lever : goal.invariant-loop-lever
invariant-loop-lever l = record {
  text : l.page.text ++ tappets_text l.layout (drop l.lever-index l.levers)
      ≡ l.fn.page.text ++ tappets_text l.layout l.levers;
  tags : l.page.open_tags ≡ l.fn.page.open_tags;
}
