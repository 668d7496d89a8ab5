use Rattle.std.proofs.Common.{◌≡◌, ◌≤◌, length}
use Rattle.tidy_text.specs.Tidy.{without_marks}
use Rattle.tidy_text.proofs.whole.without_marks.Given as goal

abbrev pub invariant-loop-rest : goal.invariant-loop-rest
invariant-loop-rest l = record {
  left : without_marks l.rest ≡ without_marks l.bytes;
  fewer : length l.rest ≤ length l.bytes;
}

abbrev pub decreases-loop-rest : goal.decreases-loop-rest
decreases-loop-rest l = length l.rest
