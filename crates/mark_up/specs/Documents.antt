-- What a well-formed document is, and its beginnings.
use Rattle.std.specs.Prelude.{ℕ, ◌≡◌, List, [], ◌∷◌, ◌++◌, IsTrue, codes}
use Rattle.std.specs.List.{flat_map}
use Rattle.mark_up.specs.declared.tags.Tag.{Tag}
use Rattle.mark_up.specs.declared.tags.EmptyTag.{EmptyTag}
use Rattle.mark_up.specs.Attributes.{AttributeFields, attribute_text, names_differ}
use Rattle.mark_up.specs.Escapes.{escaped}
use Rattle.mark_up.specs.Tags.{empty_name, prolog, tag_name}

-- ---- tags

unfoldable pub start_tag : Tag → List AttributeFields → List ℕ
start_tag tag attributes = codes "<" ++ tag_name tag ++ flat_map attribute_text attributes ++ codes ">"

unfoldable pub end_tag : Tag → List ℕ
end_tag tag = codes "</" ++ tag_name tag ++ codes ">"

-- the tag of an element without content
unfoldable pub empty_tag : EmptyTag → List AttributeFields → List ℕ
empty_tag tag attributes = codes "<" ++ empty_name tag ++ flat_map attribute_text attributes ++ codes "/>"

-- ---- documents

-- the content of an element: text, escaped, and elements, each with its content between its start tag and its end tag
-- or written as an empty-element tag; no tag has two attributes of one name
pub data IsContent : List ℕ → Type 0 where
  Nothing : IsContent []
  Text : (before text : List ℕ) → IsContent before → IsContent (before ++ escaped text)
  Empty : (before : List ℕ) (tag : EmptyTag) (attributes : List AttributeFields) → IsTrue (names_differ attributes)
      → IsContent before → IsContent (before ++ empty_tag tag attributes)
  Element : (before inner : List ℕ) (tag : Tag) (attributes : List AttributeFields) → IsTrue (names_differ attributes)
      → IsContent before → IsContent inner
      → IsContent (before ++ start_tag tag attributes ++ inner ++ end_tag tag)

-- a well-formed document: one element, its root, behind what stands before that
pub record IsDocument (text : List ℕ) : Type 0 where
  pub root : Tag
  pub attributes : List AttributeFields
  pub differ : IsTrue (names_differ attributes)
  pub inner : List ℕ
  pub content : IsContent inner
  pub shape : text ≡ prolog root ++ start_tag root attributes ++ inner ++ end_tag root

-- ---- beginnings

-- the beginning of a document in which these elements have begun and not ended, the innermost first: each has had its
-- start tag and some of its content
pub data IsBegun : List ℕ → List Tag → Type 0 where
  Root : (root : Tag) (attributes : List AttributeFields) (inner : List ℕ) → IsTrue (names_differ attributes)
      → IsContent inner → IsBegun (prolog root ++ start_tag root attributes ++ inner) (root ∷ [])
  Within : (before : List ℕ) (tags : List Tag) (tag : Tag) (attributes : List AttributeFields) (inner : List ℕ)
      → IsTrue (names_differ attributes) → IsBegun before tags → IsContent inner
      → IsBegun (before ++ start_tag tag attributes ++ inner) (tag ∷ tags)

-- a page, as contracts see it: what is written, and the elements that have begun and not ended, the innermost first
pub record PageFields : Type 0 where
  pub text : List ℕ
  pub open_tags : List Tag
