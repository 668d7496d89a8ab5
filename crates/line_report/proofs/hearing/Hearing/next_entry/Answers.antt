use Rattle.std.proofs.Common.{Ok, sym, ap, subst}
use Rattle.line_law.specs.States.{IsStateOf}
use Rattle.line_report.specs.Hearings.{HasHeard}
use Rattle.line_report.specs.Readers.{SoFar, entry_onto}
use Rattle.line_report.specs.Reading.{TellsNext}
use Rattle.line_report.specs.Verdicts.{JudgeFields}
use Rattle.line_report.proofs.HeardMore.{heard_on}
use Rattle.line_report.proofs.hearing.Hearing.next_entry.Goals as goal

pub invariant_of-self-then-is_told : goal.invariant_of-self-then-is_told
invariant_of-self-then-is_told c =
    let e = c.next_entry.new.entry in
    let tells : TellsNext c.self.inside.reader c.next_entry.new.self e =
    rw c.if-is_told.true at c.in_ok-is_told.ensures.gives in
    let line = subst (λ (judge : JudgeFields). IsStateOf judge.plan judge.state) c.hear.ensures.heard
    c.hear.ensures.line in
    let on = heard_on c.self.inside.reader.so_far c.self.inside.judge e line c.self.invariant
    (c.in_ok-is_told.ensures.behind (ap Ok c.if-is_told.true)) in
    subst (λ (so_far : SoFar). HasHeard so_far c.hear.new.self) (sym tells.after)
    (subst (λ (judge : JudgeFields). HasHeard (entry_onto c.self.inside.reader.so_far e) judge)
    (sym c.hear.ensures.heard) on)
