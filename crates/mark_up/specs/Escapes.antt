-- Text as it stands in a document.
use Rattle.std.specs.Prelude.{ℕ, List, ◌==◌, ◌||◌, ◌&&◌, nat_lt, Bool, not, if◌then◌else◌, codes, encode_utf8}
use Rattle.std.specs.List.{flat_map}
use Rattle.std.specs.Str.{chars}

-- a character that no document may have, not even by a reference: a control other than tab, line feed and carriage
-- return, or one of the two that are no characters
abbrev pub is_barred : ℕ → Bool
is_barred c = (nat_lt c 32 && not (c == 9 || (c == 10 || c == 13))) || (c == 65534 || c == 65535)

-- a character of the content of an element: what would be read as mark-up, or changed by a reader, by its reference; a
-- barred one by the replacement character
abbrev pub escaped_char : ℕ → List ℕ
escaped_char c =
    if c == 38 then codes "&amp;"
    else if c == 60 then codes "&lt;"
    else if c == 62 then codes "&gt;"
    else if c == 13 then codes "&#13;"
    else if is_barred c then encode_utf8 65533
    else encode_utf8 c

-- a character of the value of an attribute, between double quotes
abbrev pub quoted_char : ℕ → List ℕ
quoted_char c =
    if c == 34 then codes "&quot;"
    else if c == 9 then codes "&#9;"
    else if c == 10 then codes "&#10;"
    else escaped_char c

-- a text as the content of an element
unfoldable pub escaped : List ℕ → List ℕ
escaped text = flat_map escaped_char (chars text)

-- a text as the value of an attribute
unfoldable pub quoted : List ℕ → List ℕ
quoted text = flat_map quoted_char (chars text)
