-- A line is drawn as it stands after an entry of a journal, or after each.
use Rattle.std.specs.Prelude.{◌≡◌, ◌≤◌, ℕ, Bool, true, false, List, Option, Some, None, Ok, length, take}
use Rattle.rail_text.specs.Words.{number_in}
use Rattle.line_plan.specs.Plans.{PlanFields}
use Rattle.line_law.specs.declared.call.Entry.{Entry}
use Rattle.text_fetch.specs.FromTexts.{Held}
use Rattle.mark_up.specs.Documents.{IsDocument}
use Rattle.line_scene.specs.Scenes.{scene_after}
use Rattle.line_picture.specs.Pictures.{picture_text}
use Rattle.line_film.specs.Pages.{IsFilm}
use Rattle.explained_texts.specs.Journals.{IsJournalOf}
use Rattle.signalbox_words.specs.Commands.{PictureWanted}

-- so many entries of a journal of so many come before what is drawn: up to the one whose number is given, else all
abbrev pub IsCount : ℕ → Option (List ℕ) → ℕ → Type 0
IsCount all None count = count ≡ all
IsCount all (Some word) count = (number_in 1 4294967295 word ≡ Ok count) × (count ≤ all)

-- the text is a document that draws what is seen of the line after the entry that is asked for
pub record IsPictureIn (plan : PlanFields) (es : List Entry) (number : Option (List ℕ)) (text : List ℕ) : Type 0 where
  pub count : ℕ
  pub count_is : IsCount (length es) number count
  pub document : IsDocument text
  pub picture : text ≡ picture_text plan (scene_after plan (take count es)) count

-- the text is a film of the entries up to the one that is asked for
pub record IsFilmIn (plan : PlanFields) (es : List Entry) (number : Option (List ℕ)) (text : List ℕ) : Type 0 where
  pub count : ℕ
  pub count_is : IsCount (length es) number count
  pub film : IsFilm plan (take count es) text

-- a film, or a picture
abbrev pub IsDrawn : Bool → PlanFields → List Entry → Option (List ℕ) → List ℕ → Type 0
IsDrawn true plan es number text = IsFilmIn plan es number text
IsDrawn false plan es number text = IsPictureIn plan es number text

-- What comes of `picture`: a picture of the line of the plan by the legal journal, that the shelf tells under these
-- names, or its film.
pub record IsPictureOf (held : Held) (wanted : PictureWanted) (text : List ℕ) : Type 0 where
  pub plan : PlanFields
  pub entries : List Entry
  pub journal : IsJournalOf held wanted.plan wanted.output plan entries
  pub picture : IsDrawn wanted.film plan entries wanted.number text
