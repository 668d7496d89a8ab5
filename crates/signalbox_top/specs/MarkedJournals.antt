-- A journal is marked.
use Rattle.std.specs.Prelude.{◌≡◌, ◌==◌, ℕ, List, Option, Some, None, Ok, bytes_eq, length, not}
use Rattle.std.specs.List.{position}
use Rattle.rail_text.specs.Words.{number_in}
use Rattle.line_plan.specs.Plans.{PlanFields, names_of}
use Rattle.line_law.specs.declared.call.Entry.{Entry}
use Rattle.text_fetch.specs.FromTexts.{Held}
use Rattle.box_marking.specs.Markings.{AreMarkings}
use Rattle.box_marking.specs.Texts.{markings_text}
use Rattle.box_marking.specs.declared.marking.Marking.{Marking}
use Rattle.explained_texts.specs.Journals.{IsJournalOf}
use Rattle.signalbox_words.specs.Commands.{MarkWanted}
use Rattle.signalbox_top.specs.declared.status.Status.{Status}
use Rattle.signalbox_top.specs.Statuses.{status_of}

-- the box that is asked for is the first of its name; where no name is given, it is each
abbrev pub IsBoxOf : PlanFields → Option (List ℕ) → Option ℕ → Type 0
IsBoxOf plan None only = only ≡ None
IsBoxOf plan (Some name) only = (b : ℕ) × (position (bytes_eq name) (names_of plan.boxes) ≡ Some b) × (only ≡ Some b)

-- the time within which an answer is to come is the one that is given, if one is
abbrev pub IsWithin : Option (List ℕ) → Option ℕ → Type 0
IsWithin None within = within ≡ None
IsWithin (Some word) within = (n : ℕ) × (number_in 0 86399 word ≡ Ok n) × (within ≡ Some n)

-- the text has a line for each entry that an instructor marks, of one box or of all, and the status tells whether there
-- is one
pub record AreMarkedAs (plan : PlanFields) (es : List Entry) (within only : Option ℕ) (text : List ℕ) (status : Status)
    : Type 0 where
  pub markings : List Marking
  pub are : AreMarkings plan within es only markings
  pub is_text : text ≡ markings_text plan markings
  pub is_status : status ≡ status_of (not (length markings == 0))

-- the same of the box that is asked for, and within the time that is given
pub record IsMarkedIn (plan : PlanFields) (es : List Entry) (wanted : MarkWanted) (text : List ℕ) (status : Status)
    : Type 0 where
  pub only : Option ℕ
  pub box_is : IsBoxOf plan wanted.box_name only
  pub within : Option ℕ
  pub within_is : IsWithin wanted.within within
  pub marks : AreMarkedAs plan es within only text status

-- What comes of `mark`: it is marked in the plan's legal journal, that the shelf tells under these names.
pub record IsMarkedOf (held : Held) (wanted : MarkWanted) (text : List ℕ) (status : Status) : Type 0 where
  pub plan : PlanFields
  pub entries : List Entry
  pub journal : IsJournalOf held wanted.plan wanted.output plan entries
  pub marks : IsMarkedIn plan entries wanted text status
