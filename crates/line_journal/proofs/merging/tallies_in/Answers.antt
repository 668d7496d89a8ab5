use Rattle.std.proofs.Common.{sym, ◌∙◌}
use Rattle.line_journal.proofs.Tallies.{tally_more}
use Rattle.line_journal.proofs.merging.tallies_in.Goals as goal

pub loop-at-preserved : goal.loop-at-preserved
loop-at-preserved c =
    tally_more c.args.entries.now c.loop-at.at _ c.loop-at-test.true
    (sym c.is_on_word.ensures ∙ c.if-is_on_word.false) c.loop-at.invariant
