-- The audit of a journal as it is printed.
use Rattle.std.specs.Prelude.{ℕ, List, [], ◌∷◌, ◌++◌, length, codes, decimal, Result, Ok}
use Rattle.std.specs.List.{flat_map}
use Rattle.rail_text.specs.Gives.{◌>>=◌, Fault}
use Rattle.line_plan.specs.Plans.{PlanFields}
use Rattle.line_law.specs.declared.call.Entry.{Entry}
use Rattle.line_report.specs.declared.judging.Verdict.{Verdict}
use Rattle.line_report.specs.declared.judging.Verdict.TheVariants.{Legal, WrongAt}
use Rattle.line_report.specs.Reading.{journal_of}
use Rattle.line_report.specs.Verdicts.{verdict_of, verdict_text}
use Rattle.reg_audit.specs.declared.rule.Breach.{Breach}
use Rattle.reg_audit.specs.Marks.{breaches_of}
use Rattle.reg_audit.specs.Rules.{rule_name, rule_number}

-- a breach's line: the entry's number, and the number and the name of the rule
unfoldable pub breach_text : Breach → List ℕ
breach_text breach =
    decimal breach.entry ++ codes " rule " ++ decimal (rule_number breach.rule) ++ 32 ∷ rule_name breach.rule ++ 10 ∷ []

-- how many breaches there are, and the line of each
unfoldable pub audit_text : List Breach → List ℕ
audit_text breaches = codes "audit " ++ decimal (length breaches) ++ 10 ∷ flat_map breach_text breaches

-- the breaches of a journal that is found legal; else what a judge prints
abbrev pub audited_by : PlanFields → List Entry → Verdict → List ℕ
audited_by plan es Legal = audit_text (breaches_of plan es)
audited_by plan es (WrongAt k said law) = verdict_text plan es (WrongAt k said law)

-- what is printed of the audit of a journal
abbrev pub audited_text : PlanFields → List Entry → List ℕ
audited_text plan es = audited_by plan es (verdict_of plan es)

-- what is printed of the audit of the journal that a text spells, or the first fault
abbrev pub text_audited : PlanFields → List ℕ → Result (List ℕ) Fault
text_audited plan bytes = journal_of plan bytes >>= (λ es. Ok (audited_text plan es))
