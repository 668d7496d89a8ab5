-- The names of elements, and what stands before the root.
use Rattle.std.specs.Prelude.{ℕ, List, codes}
use Rattle.mark_up.specs.declared.tags.Tag.{Tag}
use Rattle.mark_up.specs.declared.tags.Tag.TheVariants as tags
use Rattle.mark_up.specs.declared.tags.EmptyTag.{EmptyTag}
use Rattle.mark_up.specs.declared.tags.EmptyTag.TheVariants as empty

-- the name of an element with content
abbrev pub tag_name : Tag → List ℕ
tag_name tags.Html = codes "html"
tag_name tags.Head = codes "head"
tag_name tags.Title = codes "title"
tag_name tags.Style = codes "style"
tag_name tags.Script = codes "script"
tag_name tags.Body = codes "body"
tag_name tags.Heading = codes "h1"
tag_name tags.Subheading = codes "h2"
tag_name tags.Paragraph = codes "p"
tag_name tags.Division = codes "div"
tag_name tags.Section = codes "section"
tag_name tags.Button = codes "button"
tag_name tags.Table = codes "table"
tag_name tags.Caption = codes "caption"
tag_name tags.ColumnGroup = codes "colgroup"
tag_name tags.TableHead = codes "thead"
tag_name tags.TableBody = codes "tbody"
tag_name tags.TableRow = codes "tr"
tag_name tags.HeadCell = codes "th"
tag_name tags.Cell = codes "td"
tag_name tags.Svg = codes "svg"
tag_name tags.Definitions = codes "defs"
tag_name tags.Pattern = codes "pattern"
tag_name tags.Group = codes "g"
tag_name tags.Text = codes "text"
tag_name tags.Description = codes "desc"

-- the name of an element without content
abbrev pub empty_name : EmptyTag → List ℕ
empty_name empty.Meta = codes "meta"
empty_name empty.Input = codes "input"
empty_name empty.Rect = codes "rect"
empty_name empty.Line = codes "line"
empty_name empty.Path = codes "path"
empty_name empty.Circle = codes "circle"
empty_name empty.Polygon = codes "polygon"
empty_name empty.Polyline = codes "polyline"
empty_name empty.Use = codes "use"

-- what stands before the root: of HTML the document type, of any other the XML declaration
abbrev pub prolog : Tag → List ℕ
prolog tags.Html = codes "<!DOCTYPE html>\n"
prolog root = codes "<?xml version=\"1.0\" encoding=\"UTF-8\"?>\n"
