-- The locking table of a box is printed.
use Rattle.std.specs.Prelude.{◌≡◌, ℕ, Bool, true, false, List, Ok}
use Rattle.line_plan.specs.Frames.{BoxFields}
use Rattle.line_plan.specs.Plans.{PlanFields, box_at}
use Rattle.locking_page.specs.Pages.{IsLockingPage}
use Rattle.locking_sheet.specs.Texts.{IsSheetText}
use Rattle.mark_up.specs.Documents.{IsDocument}
use Rattle.row_texts.specs.Texts.{rows_of}
use Rattle.text_fetch.specs.FromTexts.{Held}
use Rattle.signalbox_top.specs.Frames.{IsFrameMeant}

-- the locking table of a box, as a page for a browser, a well-formed document; or as a text, of which `rows` reads the
-- rows of the box in their order
abbrev pub IsTable : Bool → BoxFields → List ℕ → Type 0
IsTable true here text = IsDocument text × IsLockingPage here.name here.levers here.rows text
IsTable false here text = IsSheetText here.name here.levers here.rows text × (rows_of text ≡ Ok here.rows)

-- What comes of `table`: what is put is the locking table of the frame that is meant.
pub record IsTableOf (held : Held) (html : Bool) (plan_name box_name text : List ℕ) : Type 0 where
  pub plan : PlanFields
  pub box_no : ℕ
  pub frame_is : IsFrameMeant held plan_name box_name plan box_no
  pub table : IsTable html (box_at plan.boxes box_no) text
