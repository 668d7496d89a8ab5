use Rattle.std.proofs.Common.{◌≡◌, drop}
use Rattle.std.specs.List.{list_any}
use Rattle.line_law.specs.Refusals.{is_refused}
use Rattle.rehearsal_report.proofs.report.is_some_refused.Given as goal

abbrev pub invariant-loop-entry : goal.invariant-loop-entry
invariant-loop-entry l =
    list_any (λ e. is_refused e.reply) (drop l.entry-index l.entries) ≡ list_any (λ e. is_refused e.reply) l.entries
