-- Which texts spell a journal: a relation on whole texts.
use Rattle.std.specs.Prelude.{◌≡◌, ◌≤◌, ℕ, IsTrue, All, List, ◌++◌, length, slice_index}
use Rattle.line_plan.specs.Plans.{PlanFields}
use Rattle.line_law.specs.declared.call.Entry.{Entry}
use Rattle.script_text.specs.PossibleReplies.{may_answer}
use Rattle.script_text.specs.Entries.{IsSpelled}
use Rattle.line_report.specs.Asked.{AreAsked}
use Rattle.line_report.specs.Journals.{journal_text}
use Rattle.line_report.specs.Reading.{most_journal_bytes}

-- the reply is one that such a call may have
abbrev pub IsAnswered : Entry → Type 0
IsAnswered e = IsTrue (may_answer e.call.act e.reply)

-- an entry behind these last moments of the boxes: it is spelled, its reply may answer its call, and its moment isn't
-- below the last one of its box
pub record IsBehind (plan : PlanFields) (moments : List ℕ) (e : Entry) : Type 0 where
  pub spelled : IsSpelled plan e
  pub answered : IsAnswered e
  pub later : slice_index moments e.box_no ≤ e.call.moment

-- The text of a journal: it keeps within its limit, and begins with the journal of these entries as it is printed,
-- whatever stands behind. The plan knows each call, and no moment falls within a box; each reply is one that such a
-- call may have, and some text spells it.
pub record SpellsJournal (plan : PlanFields) (bytes : List ℕ) (es : List Entry) : Type 0 where
  pub short : length bytes ≤ most_journal_bytes plan.version
  pub asked : AreAsked plan es
  pub each : All (IsSpelled plan) es
  pub answers : All IsAnswered es
  pub rest : List ℕ
  pub printed : bytes ≡ journal_text plan es ++ rest
