use Rattle.std.proofs.Common.{◌≡◌, ℕ, sym, subst}
use Rattle.line_law.specs.declared.call.Reply.{Reply}
use Rattle.line_report.specs.Hearings.{HearingFields}
use Rattle.line_report.specs.Verdicts.{CanPrint}
use Rattle.line_report.specs.declared.judging.Verdict.TheVariants.{WrongAt}
use Rattle.line_report.proofs.hearing.Hearing.print_found.Goals as goal

pub put_found-requires : goal.put_found-requires
put_found-requires c =
    subst (λ (h : HearingFields). (k : ℕ) (said law : Reply) → h.judge.verdict ≡ WrongAt k said law
    → CanPrint h.judge.plan h.judge.box_no said law) (sym c.self.view_is) c.requires
