-- The printed journal of a legal history is read as it, and found legal.
use Rattle.std.proofs.Common.{◌≡◌, ℕ, ◌<◌, ◌≤◌, ◌^◌, List, ◌++◌, Ok, length, refl, arith}
use Rattle.line_plan.specs.Plans.{IsPlan, PlanFields}
use Rattle.line_law.specs.declared.call.Entry.{Entry}
use Rattle.line_law.specs.History.{IsLegal}
use Rattle.line_law.proofs.Turns.{calls_in_turn}
use Rattle.line_report.specs.Journals.{journal_text}
use Rattle.line_report.specs.Reading.{journal_of, most_journal_bytes}
use Rattle.line_report.specs.Spelled.{SpellsJournal}
use Rattle.line_report.specs.Verdicts.{verdict_of}
use Rattle.line_report.specs.declared.judging.Verdict.TheVariants.{Legal}
use Rattle.line_report.proofs.Answered.{history_answered}
use Rattle.line_report.proofs.Histories.{legal_spelled}
use Rattle.line_report.proofs.JournalTexts.{every_journal, journal_fits, most_bytes}
use Rattle.line_report.proofs.Verdicts.{legal_exactly}

pub legal_spells : (plan : PlanFields) (es : List Entry) (rest : List ℕ) → IsPlan plan → IsLegal plan es
    → length (journal_text plan es ++ rest) ≤ most_journal_bytes plan.version
    → SpellsJournal plan (journal_text plan es ++ rest) es
legal_spells plan es rest is legal short =
    let few : length es < 10 ^ 10 = omega (arith, short, journal_fits plan es rest, most_bytes plan.version) in
    record {
      short = short;
      asked = λ b. calls_in_turn plan es b is legal;
      each = legal_spelled plan es is few legal;
      answers = history_answered plan es is legal;
      rest = rest;
      printed = refl;
    }

-- a legal history is read as it is printed, whatever stands behind its text
pub legal_read : (plan : PlanFields) (es : List Entry) (rest : List ℕ) → IsPlan plan → IsLegal plan es
    → length (journal_text plan es ++ rest) ≤ most_journal_bytes plan.version
    → journal_of plan (journal_text plan es ++ rest) ≡ Ok es
legal_read plan es rest is legal short = every_journal plan _ es is (legal_spells plan es rest is legal short)

-- a legal history is judged to be legal
pub legal_judged : (plan : PlanFields) (es : List Entry) → IsPlan plan → IsLegal plan es → verdict_of plan es ≡ Legal
legal_judged plan es is legal = (legal_exactly plan es is (λ b. calls_in_turn plan es b is legal)).1 legal
