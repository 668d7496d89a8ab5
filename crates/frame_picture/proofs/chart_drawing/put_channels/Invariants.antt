use Rattle.std.proofs.Common.{◌≡◌, ◌++◌}
use Rattle.frame_picture.specs.Channels.{channels_text}
use Rattle.frame_picture.proofs.chart_drawing.put_channels.Given as goal

abbrev pub invariant-loop-before : goal.invariant-loop-before
invariant-loop-before l = record {
  text : l.page.text ≡ l.fn.page.text ++ channels_text l.layout l.before;
  tags : l.page.open_tags ≡ l.fn.page.open_tags;
}
