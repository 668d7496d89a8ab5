-- A journal as a film: a page that steps through its entries.
use Rattle.std.specs.Prelude.{◌≡◌, ℕ, ◌-◌, List, [], ◌∷◌, ◌++◌, codes, length}
use Rattle.entry_records.specs.Fields.{EntryFields}
use Rattle.journal_records.specs.Told.{AreTold}
use Rattle.line_plan.specs.Plans.{PlanFields}
use Rattle.line_law.specs.declared.call.Entry.{Entry}
use Rattle.line_law.specs.History.{state_of}
use Rattle.line_scene.specs.Diagrams.{diagrams_of}
use Rattle.line_scene.specs.Scenes.{things_of}
use Rattle.line_picture.specs.Places.{LayoutFields, layout_of}
use Rattle.line_picture.specs.Words.{picture_name}
use Rattle.mark_up.specs.declared.attributes.Name.TheVariants as names
use Rattle.mark_up.specs.declared.tags.EmptyTag.TheVariants as empty
use Rattle.mark_up.specs.declared.tags.Tag.TheVariants as tags
use Rattle.mark_up.specs.Attributes.{ValueFields as Value}
use Rattle.mark_up.specs.Documents.{IsDocument, empty_tag, end_tag, start_tag}
use Rattle.mark_up.specs.Escapes.{escaped}
use Rattle.mark_up.specs.Tags.{prolog}
use Rattle.line_film.specs.declared.changes.Change.{Change}
use Rattle.line_film.specs.declared.page.TheConstants.{SCRIPT, STYLE}
use Rattle.line_film.specs.Changes.{all_from}
use Rattle.line_film.specs.Desk.{desk_html}
use Rattle.line_film.specs.Drawing.{picture_html}
use Rattle.line_film.specs.Frames.{AreFrames}
use Rattle.line_film.specs.Rows.{journal_html}

-- ---- the head

-- a page begins
unfoldable pub page_start : List ℕ
page_start = prolog tags.Html ++ start_tag tags.Html ((names.Language, Value.Text (codes "en")) ∷ [])

-- how the text of the page is written
unfoldable pub charset_html : List ℕ
charset_html = empty_tag empty.Meta ((names.Charset, Value.Text (codes "utf-8")) ∷ [])

-- the title of the page, and its style
unfoldable pub styled_html : List ℕ → List ℕ
styled_html name =
    (start_tag tags.Title [] ++ escaped name ++ end_tag tags.Title)
    ++ (start_tag tags.Style [] ++ escaped STYLE.now ++ end_tag tags.Style)

-- what is told of the page
unfoldable pub head_html : List ℕ → List ℕ
head_html name = start_tag tags.Head [] ++ charset_html ++ styled_html name ++ end_tag tags.Head

-- ---- the body

-- the script, which reads the page when all of it is there
unfoldable pub script_html : List ℕ
script_html = start_tag tags.Script [] ++ escaped SCRIPT.now ++ end_tag tags.Script

-- the picture, below its name and what it is stepped through by
unfoldable pub placed_html : PlanFields → LayoutFields → List ℕ → List Change → List (List Change) → List ℕ
placed_html plan layout name first frames =
    (start_tag tags.Heading [] ++ escaped name ++ end_tag tags.Heading) ++ desk_html
    ++ picture_html plan layout name first frames

-- what is shown
unfoldable pub shown_html : PlanFields → LayoutFields → List ℕ → List Change → List (List Change) → List EntryFields
    → List ℕ
shown_html plan layout name first frames told =
    start_tag tags.Body [] ++ placed_html plan layout name first frames ++ journal_html told ++ script_html
    ++ end_tag tags.Body

-- all that stands in the page
unfoldable pub inner_html : PlanFields → LayoutFields → List ℕ → List Change → List (List Change) → List EntryFields
    → List ℕ
inner_html plan layout name first frames told =
    head_html name ++ shown_html plan layout name first frames told

-- the page of a line that is seen so before the first entry, whose entries change this, and of which this is told
abbrev pub film_text : PlanFields → List (List Change) → List EntryFields → List ℕ
film_text plan frames told =
    page_start
    ++ inner_html plan (layout_of (diagrams_of plan.boxes) plan.boxes) (picture_name plan (length plan.boxes - 1))
    (all_from 0 (things_of plan (state_of plan []))) frames told
    ++ end_tag tags.Html

-- The film of a journal: a well-formed document, which has all things as they are seen before the first entry, what each
-- entry changes of what is seen, and what is told of each entry.
pub record IsFilm (plan : PlanFields) (es : List Entry) (text : List ℕ) : Type 0 where
  pub frames : List (List Change)
  pub are_frames : AreFrames plan es frames
  pub told : List EntryFields
  pub are_told : AreTold plan 1 es told
  pub document : IsDocument text
  pub page : text ≡ film_text plan frames told
