use Rattle.std.proofs.Common.{◌≡◌, ◌+◌, ◌≤◌, length}
use Rattle.rail_text.specs.Lines.{lines_of}
use Rattle.rail_text.specs.Texts.{IsReadTo, lines_onto}
use Rattle.rail_text.proofs.reading.read_text.Given as goal

abbrev pub invariant-loop-line : goal.invariant-loop-line
invariant-loop-line g l = record {
  read : lines_onto g.D.Draft.onto g.D.Draft.ended l.number l.draft (lines_of l.lines.rest)
      ≡ lines_onto g.D.Draft.onto g.D.Draft.ended 1 l.fn.draft (lines_of l.bytes);
  good : IsReadTo g.D.Draft.onto l.fn.draft (lines_of l.bytes) l.draft (lines_of l.lines.rest);
  count : l.number + length l.lines.rest ≤ length l.bytes + 1;
}

abbrev pub decreases-loop-line : goal.decreases-loop-line
decreases-loop-line g l = length l.lines.rest
