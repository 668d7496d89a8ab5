use Rattle.std.proofs.Common.{◌≡◌, ℕ, ◌+◌, ◌<◌, [], get_or, length, take}
use Rattle.line_law.specs.History.{state_of}
use Rattle.line_law.specs.Lines.{IsLineOf}
use Rattle.line_film.specs.Changes.{AreChanges}
use Rattle.line_film.specs.Frames.{seen_after}
use Rattle.line_film.proofs.frames.frames_of.Given as goal

abbrev pub invariant-loop-at : goal.invariant-loop-at
invariant-loop-at l = record {
  line : IsLineOf l.plan l.line;
  calls : l.line.calls ≡ l.at;
  state : l.line.line ≡ state_of l.plan (take l.at l.entries);
  before : l.before.items ≡ seen_after l.plan l.entries l.at;
  count : length l.frames.items ≡ l.at;
  each : (n : ℕ) → n < l.at
      → AreChanges 0 (seen_after l.plan l.entries n) (seen_after l.plan l.entries (n + 1))
      (get_or l.frames.items n []);
}
