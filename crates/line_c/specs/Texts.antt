-- Texts that a call has to tell.
use Rattle.std.specs.Prelude.{◌≡◌, ℕ, List, Ok, length}
use Rattle.line_report.specs.Hearings.{text_judged}
use Rattle.line_report.specs.Journals.{journal_text}
use Rattle.line_service.specs.Answers.{IsAnswer, after_line}
use Rattle.line_engine.specs.Engines.{EngineFields}

-- a request is answered: the service is what it makes of it, and the answer is the text to tell
pub record IsRequested (old : EngineFields) (line : List ℕ) (new : EngineFields) (told : ℕ) : Type 0 where
  pub service : new.service ≡ after_line old.service line
  pub answer : IsAnswer old.service line new.text
  pub is_told : told ≡ length new.text

-- the journal of the calls made so far is the text to tell
pub record IsJournal (old new : EngineFields) (told : ℕ) : Type 0 where
  pub text : new ≡ record old { text = journal_text old.service.plan old.service.entries }
  pub is_told : told ≡ length new.text

-- what a judge finds of a text is the text to tell
pub record IsJudgement (old : EngineFields) (text : List ℕ) (new : EngineFields) (told : ℕ) : Type 0 where
  pub judged : text_judged old.service.plan text ≡ Ok new.text
  pub same : new ≡ record old { text = new.text }
  pub is_told : told ≡ length new.text
