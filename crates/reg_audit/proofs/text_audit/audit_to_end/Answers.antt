use Rattle.std.proofs.Common.{◌≡◌, [], ◌∷◌, ◌++◌, Ok, sym, ap, ◌∙◌}
use Rattle.line_law.specs.declared.call.Entry.{Entry}
use Rattle.line_report.specs.declared.judging.Verdict.TheVariants.{Legal}
use Rattle.line_report.specs.Hearings.{HearsEntry}
use Rattle.line_report.specs.Reading.{TellsNext}
use Rattle.line_report.specs.Verdicts.{JudgeFields, heard, heard_all}
use Rattle.line_report.proofs.HeardMore.{heard_more}
use Rattle.line_report.proofs.NextEntry.{keeps_on}
use Rattle.reg_audit.proofs.HeardAudited.{auditing_on, comes_next, has_audited}
use Rattle.reg_audit.proofs.text_audit.audit_to_end.Goals as goal

pub hear-requires : goal.hear-requires
hear-requires c =
    let so_far = c.loop-hearing.invariant.heard in
    let hears : HearsEntry c.loop-hearing.hearing.judge c.next_entry.new.self.judge c.next_entry.new.entry =
    rw c.if-branch.true at c.in_ok-next_entry.ensures.heard in
    comes_next c.args.plan.now so_far.0 c.loop-hearing.hearing.judge c.next_entry.new.self.judge c.loop-hearing.auditor
    c.next_entry.new.entry (so_far.2 ∙ ap (λ (judge : JudgeFields). heard_all judge so_far.0) c.requires.opening) hears
    so_far.3 (sym c.verdict.ensures ∙ c.in-Legal.is) (c.in_ok-next_entry.ensures.few (ap Ok c.if-branch.true))

pub loop-hearing-preserved-in-Continue-branch-2 : goal.loop-hearing-preserved-in-Continue-branch-2
loop-hearing-preserved-in-Continue-branch-2 c =
    let so_far = c.loop-hearing.invariant.heard in
    let e : Entry = c.next_entry.new.entry in
    let tells : TellsNext c.loop-hearing.hearing.reader c.next_entry.new.self.reader e =
    rw c.if-branch.true at c.in_ok-next_entry.ensures.gives in
    let hears : HearsEntry c.loop-hearing.hearing.judge c.next_entry.new.self.judge e =
    rw c.if-branch.true at c.in_ok-next_entry.ensures.heard in
    let opened = so_far.2 ∙ ap (λ (judge : JudgeFields). heard_all judge so_far.0) c.requires.opening in
    let legal : c.next_entry.new.self.judge.verdict ≡ Legal = sym c.verdict.ensures ∙ c.in-Legal.is in
    record {
      heard = (
        so_far.0 ++ e ∷ [],
        keeps_on c.loop-hearing.hearing.reader c.next_entry.new.self.reader _ so_far.0 e tells so_far.1,
        hears.after ∙ ap (λ (judge : JudgeFields). heard judge e) so_far.2 ∙ sym (heard_more _ so_far.0 e),
        auditing_on c.args.plan.now so_far.0 c.loop-hearing.hearing.judge c.next_entry.new.self.judge
            c.loop-hearing.auditor c.hear.new.self e opened hears so_far.3
            (λ next. c.in_ok-hear.ensures so_far.0 (has_audited c.args.plan.now so_far.0 c.loop-hearing.hearing.judge
            c.next_entry.new.self.judge c.loop-hearing.auditor e hears so_far.3 legal) next),
      );
    }

pub loop-hearing-preserved : goal.loop-hearing-preserved
loop-hearing-preserved c =
    let so_far = c.loop-hearing.invariant.heard in
    let e : Entry = c.next_entry.new.entry in
    let tells : TellsNext c.loop-hearing.hearing.reader c.next_entry.new.self.reader e =
    rw c.if-branch.true at c.in_ok-next_entry.ensures.gives in
    let hears : HearsEntry c.loop-hearing.hearing.judge c.next_entry.new.self.judge e =
    rw c.if-branch.true at c.in_ok-next_entry.ensures.heard in
    record {
      heard = (
        so_far.0 ++ e ∷ [],
        keeps_on c.loop-hearing.hearing.reader c.next_entry.new.self.reader _ so_far.0 e tells so_far.1,
        hears.after ∙ ap (λ (judge : JudgeFields). heard judge e) so_far.2 ∙ sym (heard_more _ so_far.0 e),
        λ legal. absurd (c.in_default.not-Legal (c.verdict.ensures ∙ legal)),
      );
    }
