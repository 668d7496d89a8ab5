-- The heads of the columns of a sheet, as they are written.
use Rattle.std.specs.Prelude.{ℕ, List, [], ◌∷◌, ◌++◌, codes}
use Rattle.mark_up.specs.declared.attributes.Name.TheVariants as names
use Rattle.mark_up.specs.declared.tags.Tag.{Tag}
use Rattle.mark_up.specs.declared.tags.Tag.TheVariants as tags
use Rattle.mark_up.specs.Attributes.{AttributeFields, ValueFields as Value}
use Rattle.mark_up.specs.Documents.{end_tag, start_tag}
use Rattle.mark_up.specs.Escapes.{escaped}
use Rattle.sheet_page.specs.declared.columns.TheConstants.{ADVANCE, GROUP, REAR}

-- an element with a text
abbrev pub said : Tag → List AttributeFields → List ℕ → List ℕ
said tag attributes text = start_tag tag attributes ++ escaped text ++ end_tag tag

-- a row of a table begins, on a line of its own
unfoldable pub row_start : List ℕ
row_start = escaped (codes "\n") ++ start_tag tags.TableRow []

-- a group of so many columns
unfoldable pub group_html : ℕ → List ℕ
group_html count = said tags.ColumnGroup ((names.Span, Value.Number count) ∷ []) (codes "")

-- the groups: the number and the description, and five columns for each neighbour
unfoldable pub groups_html : List ℕ
groups_html = group_html 2 ++ group_html 5 ++ group_html 5

-- the head of a column beside those of groups
unfoldable pub tall_html : List ℕ → List ℕ
tall_html name =
    said tags.HeadCell ((names.Scope, Value.Text (codes "col")) ∷ (names.RowSpan, Value.Number 2) ∷ []) name

-- the head of a group of five columns
unfoldable pub wide_html : List ℕ → List ℕ
wide_html name =
    said tags.HeadCell ((names.Scope, Value.Text GROUP.now) ∷ (names.ColumnSpan, Value.Number 5) ∷ []) name

-- the head of a column of a group
unfoldable pub column_html : List ℕ → List ℕ
column_html name = said tags.HeadCell ((names.Scope, Value.Text (codes "col")) ∷ []) name

-- whose sheet it is once more, for each page of paper
unfoldable pub again_html : List ℕ → List ℕ
again_html title =
    row_start
    ++ said tags.Cell ((names.Class, Value.Text (codes "again")) ∷ (names.ColumnSpan, Value.Number 12) ∷ []) title
    ++ end_tag tags.TableRow

-- the columns of the number of a line and the description of its train
unfoldable pub train_html : List ℕ
train_html = tall_html (codes "No") ++ tall_html (codes "Description")

-- the groups of the box in the rear and of the box in advance
unfoldable pub neighbours_html : List ℕ
neighbours_html = wide_html REAR.now ++ wide_html ADVANCE.now

-- the first line of heads
unfoldable pub first_html : List ℕ
first_html = row_start ++ train_html ++ neighbours_html ++ end_tag tags.TableRow

-- the columns of the box in the rear
unfoldable pub rear_html : List ℕ
rear_html =
    column_html (codes "Offered") ++ column_html (codes "Accepted") ++ column_html (codes "Entering section")
    ++ column_html (codes "Arrived") ++ column_html (codes "Out of section")

-- the columns of the box in advance
unfoldable pub advance_html : List ℕ
advance_html =
    column_html (codes "Offered") ++ column_html (codes "Accepted") ++ column_html (codes "Entering section")
    ++ column_html (codes "Departed") ++ column_html (codes "Out of section")

-- the second line of heads
unfoldable pub second_html : List ℕ
second_html = row_start ++ rear_html ++ advance_html ++ end_tag tags.TableRow

-- the head of a table
unfoldable pub head_html : List ℕ → List ℕ
head_html title =
    start_tag tags.TableHead [] ++ again_html title ++ first_html ++ second_html ++ end_tag tags.TableHead
