-- The whole output of a run.
use Rattle.std.specs.Prelude.{◌≡◌, ℕ, List, ◌++◌, codes, Result, Ok, Err}
use Rattle.std.specs.List.{flat_map}
use Rattle.line_plan.specs.Plans.{PlanFields}
use Rattle.line_law.specs.declared.call.Entry.{Entry}
use Rattle.line_report.specs.Journals.{journal_text}
use Rattle.line_report.specs.Refusals.{refusals_text}
use Rattle.line_report.specs.Sections.{sections_text}
use Rattle.train_register.specs.Registers.{registers_text}
use Rattle.text_fetch.specs.FromTexts.{FromTexts, Untold, Gives, Refuses, StopsAt}
use Rattle.text_fetch.specs.Runs.{Run}
use Rattle.text_fetch.specs.declared.stop.Stop.{Stop}
use Rattle.line_runs.specs.Worked.{IsJournalOf}

-- what came of a run: the refused calls, and the most trains that each section held
abbrev pub result_text : PlanFields → List Entry → List ℕ
result_text plan es = refusals_text plan es ++ sections_text plan es

-- a journal as it is printed, the registers of the boxes, and what came of the run
unfoldable pub output_text : PlanFields → List Entry → List ℕ
output_text plan es = journal_text plan es ++ (registers_text plan es ++ result_text plan es)

-- the output behind the lines of its journal's front half: the other lines, the end, the registers as they are printed,
-- and the lines of the refused calls of both halves, with what stands before and behind these
abbrev pub rest_text : List ℕ → List (List ℕ) → List ℕ → List ℕ → List ℕ → List ℕ → List ℕ
rest_text journal registers heading refused_front refused_behind sections =
    journal ++ codes "end\n" ++ flat_map (λ text. text) registers ++ heading ++ refused_front ++ refused_behind
    ++ sections

-- a text is the whole output of a journal of this run
abbrev pub IsOutputOf : Run → List ℕ → Type 0
IsOutputOf run text = (journal : List Entry) × IsJournalOf run journal × (text ≡ output_text run.plan journal)

-- two lists that were both made are a whole, one behind the other
pub record AreInOrder {E X : Type 0} (front behind : Result (List X) E) (whole : List X) : Type 0 where
  pub first : List X
  pub second : List X
  pub first_is : front ≡ Ok first
  pub second_is : behind ≡ Ok second
  pub both : whole ≡ first ++ second

-- ---- what comes of texts that a shelf may tell

-- a text is one of those that may come of what is told, if that is told
abbrev pub MayCome : {A : Type 0} → (A → List ℕ → Type 0) → List ℕ → FromTexts A → Type 0
MayCome Comes text Untold = Unit {0}
MayCome Comes text (Gives x) = Comes x text
MayCome Comes text (Refuses n fault) = ⊥

-- a step makes such a text, or stops as is told
abbrev pub MakesText : {X A : Type 0} → (A → List ℕ → Type 0) → (X → List ℕ) → Result X Stop → FromTexts A → Type 0
MakesText Comes view (Ok x) told = MayCome Comes (view x) told
MakesText Comes view (Err stop) told = StopsAt stop told
