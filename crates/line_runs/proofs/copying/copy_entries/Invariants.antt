use Rattle.std.proofs.Common.{◌≡◌, ◌++◌, ◌+◌, ◌<◌, ◌^◌, length}
use Rattle.std.specs.Prelude.{All}
use Rattle.line_report.specs.Journals.{entries_text}
use Rattle.line_report.specs.Refusals.{refused_entries}
use Rattle.script_text.specs.Entries.{IsSpelled}
use Rattle.line_runs.specs.Copying.{AreLinesLeft}
use Rattle.line_runs.proofs.copying.copy_entries.Given as goal

abbrev pub invariant-loop-next : goal.invariant-loop-next
invariant-loop-next l = record {
  journal : l.journal.items ++ entries_text l.plan l.next l.walk
      ≡ l.fn.journal.items ++ entries_text l.plan l.number l.fn.walk;
  refused : l.refused.items ++ refused_entries l.plan l.next l.walk
      ≡ l.fn.refused.items ++ refused_entries l.plan l.number l.fn.walk;
  numbers : l.next + length l.walk < 2 ^ 64;
  spelled : All (IsSpelled l.plan) l.walk;
  left : AreLinesLeft l.plan l.walk l.lines;
}

abbrev pub decreases-loop-next : goal.decreases-loop-next
decreases-loop-next l = length l.walk
