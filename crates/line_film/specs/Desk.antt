-- What stands above the picture: the buttons, the slider, and what is told of the entry.
use Rattle.std.specs.Prelude.{ℕ, List, [], ◌∷◌, ◌++◌, codes}
use Rattle.mark_up.specs.declared.attributes.Name.TheVariants as names
use Rattle.mark_up.specs.declared.tags.EmptyTag.TheVariants as empty
use Rattle.mark_up.specs.declared.tags.Tag.TheVariants as tags
use Rattle.mark_up.specs.Attributes.{ValueFields as Value}
use Rattle.mark_up.specs.Documents.{empty_tag, end_tag, start_tag}
use Rattle.mark_up.specs.Escapes.{escaped}
use Rattle.line_film.specs.declared.desk.TheConstants.{KEYS}

-- a button
unfoldable pub button_html : List ℕ → List ℕ → List ℕ
button_html id text =
    start_tag tags.Button ((names.Id, Value.Text id) ∷ (names.Kind, Value.Text (codes "button")) ∷ []) ++ escaped text
    ++ end_tag tags.Button

-- the buttons
unfoldable pub buttons_html : List ℕ
buttons_html =
    button_html (codes "back") (codes "Back") ++ button_html (codes "next") (codes "Next")
    ++ button_html (codes "play") (codes "Play")

-- the slider
unfoldable pub slider_html : List ℕ
slider_html = empty_tag empty.Input
    ((names.Id, Value.Text (codes "slider")) ∷ (names.Kind, Value.Text (codes "range"))
    ∷ (names.Label, Value.Text (codes "Entry")) ∷ [])

-- the buttons and the slider
unfoldable pub steps_html : List ℕ
steps_html =
    start_tag tags.Division ((names.Id, Value.Text (codes "steps")) ∷ []) ++ buttons_html ++ slider_html
    ++ end_tag tags.Division

-- a paragraph of this name, in which the page tells something of the entry
unfoldable pub line_html : List ℕ → List ℕ
line_html id = start_tag tags.Paragraph ((names.Id, Value.Text id) ∷ []) ++ escaped (codes "") ++ end_tag tags.Paragraph

-- where the page tells the number of the entry, its words, and why it is refused
unfoldable pub told_html : List ℕ
told_html =
    start_tag tags.Division ((names.Role, Value.Text (codes "status")) ∷ []) ++ line_html (codes "count")
    ++ line_html (codes "words") ++ line_html (codes "says") ++ end_tag tags.Division

-- how the page is used
unfoldable pub keys_html : List ℕ
keys_html =
    start_tag tags.Paragraph ((names.Id, Value.Text (codes "keys")) ∷ []) ++ escaped KEYS.now ++ end_tag tags.Paragraph

-- what stands above the picture
unfoldable pub desk_html : List ℕ
desk_html =
    start_tag tags.Section ((names.Id, Value.Text (codes "desk")) ∷ []) ++ steps_html ++ told_html ++ keys_html
    ++ end_tag tags.Section
