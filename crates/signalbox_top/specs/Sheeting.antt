-- The train register of a journal is printed as sheets.
use Rattle.std.specs.Prelude.{◌≡◌, ℕ, Bool, true, false, List, Option}
use Rattle.line_plan.specs.Plans.{PlanFields}
use Rattle.line_law.specs.declared.call.Entry.{Entry}
use Rattle.text_fetch.specs.FromTexts.{Held}
use Rattle.mark_up.specs.Documents.{IsDocument}
use Rattle.sheet_page.specs.Pages.{sheet_page}
use Rattle.sheet_text.specs.Texts.{sheet_text}
use Rattle.explained_texts.specs.Journals.{IsJournalOf}
use Rattle.signalbox_words.specs.Commands.{SheetWanted}
use Rattle.signalbox_top.specs.MarkedJournals.{IsBoxOf}

-- the sheets of a journal, of one box or of all, as a page for a browser, a well-formed document, or as a text
abbrev pub AreSheets : Bool → PlanFields → List Entry → Option ℕ → List ℕ → Type 0
AreSheets true plan es only text = IsDocument text × (text ≡ sheet_page plan es only)
AreSheets false plan es only text = text ≡ sheet_text plan es only

-- the text has the sheets of a journal, of the box that is asked for or of all
pub record AreSheetsIn (plan : PlanFields) (es : List Entry) (wanted : SheetWanted) (text : List ℕ) : Type 0 where
  pub only : Option ℕ
  pub box_is : IsBoxOf plan wanted.box_name only
  pub sheets : AreSheets wanted.html plan es only text

-- What comes of `sheet`: the sheets of the plan's legal journal, that the shelf tells under these names.
pub record AreSheetsOf (held : Held) (wanted : SheetWanted) (text : List ℕ) : Type 0 where
  pub plan : PlanFields
  pub entries : List Entry
  pub journal : IsJournalOf held wanted.plan wanted.output plan entries
  pub sheets : AreSheetsIn plan entries wanted text
