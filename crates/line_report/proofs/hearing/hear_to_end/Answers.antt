use Rattle.std.proofs.Common.{[], ◌∷◌, ◌++◌, refl, sym, ap, ◌∙◌}
use Rattle.line_report.specs.Hearings.{HearsEntry}
use Rattle.line_report.specs.Reading.{TellsNext}
use Rattle.line_report.specs.Verdicts.{JudgeFields, heard}
use Rattle.line_report.proofs.HeardMore.{heard_more}
use Rattle.line_report.proofs.NextEntry.{keeps_on, none_kept}
use Rattle.line_report.proofs.hearing.hear_to_end.Goals as goal

pub loop-init : goal.loop-init
loop-init c = record { heard = ([], none_kept _, refl) }

pub loop-preserved : goal.loop-preserved
loop-preserved c =
    let so_far = c.loop.invariant.heard in
    let e = c.next_entry.new.entry in
    let tells : TellsNext c.loop.hearing.reader c.next_entry.new.self.reader e =
    rw c.if-branch.true at c.in_ok-next_entry.ensures.gives in
    let hears : HearsEntry c.loop.hearing.judge c.next_entry.new.self.judge e =
    rw c.if-branch.true at c.in_ok-next_entry.ensures.heard in
    record {
      heard = (
        so_far.0 ++ e ∷ [],
        keeps_on c.loop.hearing.reader c.next_entry.new.self.reader _ so_far.0 e tells so_far.1,
        hears.after ∙ ap (λ (judge : JudgeFields). heard judge e) so_far.2 ∙ sym (heard_more _ so_far.0 e),
      );
    }
