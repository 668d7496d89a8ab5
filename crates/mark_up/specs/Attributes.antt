-- Attributes: their names, which differ within a tag, and their values.
use Rattle.std.specs.Prelude.{ℕ, List, [], ◌∷◌, ◌++◌, Bool, true, not, ◌&&◌, codes, decimal, map}
use Rattle.std.specs.List.{list_any}
use Rattle.std.specs.Str.{bytes_eq}
use Rattle.mark_up.specs.declared.attributes.Name.{Name}
use Rattle.mark_up.specs.declared.attributes.Name.TheVariants as names
use Rattle.mark_up.specs.declared.attributes.Value.{Value}
use Rattle.mark_up.specs.declared.attributes.Value.TheVariants as values
use Rattle.mark_up.specs.Escapes.{quoted}

-- a value, as contracts see it
pub data ValueFields : Type 0 where
  Number : ℕ → ValueFields
  Text : List ℕ → ValueFields

-- an attribute, as contracts see it
abbrev pub AttributeFields : Type 0
AttributeFields = Name × ValueFields

-- what a value tells
abbrev pub told_value : Value → ValueFields
told_value (values.Number number) = ValueFields.Number number
told_value (values.Text text) = ValueFields.Text text.now

-- what attributes tell
abbrev pub told : List (Name × Value) → List AttributeFields
told attributes = map (λ attribute. (attribute.0, told_value attribute.1)) attributes

-- the name of an attribute
abbrev pub attribute_name : Name → List ℕ
attribute_name names.X = codes "x"
attribute_name names.Y = codes "y"
attribute_name names.Width = codes "width"
attribute_name names.Height = codes "height"
attribute_name names.FromX = codes "x1"
attribute_name names.FromY = codes "y1"
attribute_name names.ToX = codes "x2"
attribute_name names.ToY = codes "y2"
attribute_name names.CentreX = codes "cx"
attribute_name names.CentreY = codes "cy"
attribute_name names.Radius = codes "r"
attribute_name names.Corner = codes "rx"
attribute_name names.Data = codes "d"
attribute_name names.Points = codes "points"
attribute_name names.ViewBox = codes "viewBox"
attribute_name names.Transform = codes "transform"
attribute_name names.Anchor = codes "text-anchor"
attribute_name names.Class = codes "class"
attribute_name names.Id = codes "id"
attribute_name names.Href = codes "href"
attribute_name names.Role = codes "role"
attribute_name names.Label = codes "aria-label"
attribute_name names.Namespace = codes "xmlns"
attribute_name names.Language = codes "lang"
attribute_name names.Charset = codes "charset"
attribute_name names.Kind = codes "type"
attribute_name names.Scope = codes "scope"
attribute_name names.Span = codes "span"
attribute_name names.ColumnSpan = codes "colspan"
attribute_name names.RowSpan = codes "rowspan"
attribute_name names.Fill = codes "fill"
attribute_name names.Units = codes "patternUnits"

-- the value, as it stands between double quotes
abbrev pub value_text : ValueFields → List ℕ
value_text (ValueFields.Number number) = decimal number
value_text (ValueFields.Text text) = quoted text

-- an attribute behind a space
unfoldable pub attribute_text : AttributeFields → List ℕ
attribute_text attribute =
    codes " " ++ attribute_name attribute.0 ++ codes "=\"" ++ value_text attribute.1 ++ codes "\""

-- an attribute of this name is among them
abbrev pub has_name : List ℕ → List AttributeFields → Bool
has_name name attributes = list_any (λ attribute. bytes_eq (attribute_name attribute.0) name) attributes

-- no two attributes have one name
abbrev pub names_differ : List AttributeFields → Bool
names_differ [] = true
names_differ (attribute ∷ attributes) =
    not (has_name (attribute_name attribute.0) attributes) && names_differ attributes
