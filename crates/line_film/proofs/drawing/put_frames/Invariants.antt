use Rattle.std.proofs.Common.{◌≡◌, ◌++◌, drop}
use Rattle.line_film.specs.Drawing.{frames_html}
use Rattle.line_film.proofs.drawing.put_frames.Given as goal

abbrev pub invariant-loop-frame : goal.invariant-loop-frame
invariant-loop-frame l = record {
  text : l.page.text ++ frames_html l.plan l.layout (drop l.frame-index l.frames)
      ≡ l.fn.page.text ++ frames_html l.plan l.layout l.frames;
  tags : l.page.open_tags ≡ l.fn.page.open_tags;
}
