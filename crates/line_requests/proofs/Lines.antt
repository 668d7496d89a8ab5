-- Lines as values, and how many members an object has.
use Rattle.std.proofs.Common.{◌≡◌, ℕ, List, [], ◌∷◌, Option, Some, None, true, false, Bool}
use Rattle.std.proofs.Common.{length, arith, refl, sym, ap, ◌∙◌}
use Rattle.std.specs.Prelude.{if◌then◌else◌, String}
use Rattle.std.specs.Str.{IsUtf8, is_utf8}
use Rattle.std.specs.declared.alloc.Global.{Global}
use Rattle.std.proofs.lemmas.Str.{IsUtf8-from_is_utf8, is_utf8-from_IsUtf8}
use Rattle.serde_json.specs.Data.{Data, Members, array, boolean, null, number, object, string}
use Rattle.serde_json.specs.Find.{as_object}
use Rattle.serde_json.specs.Read.{read}
use Rattle.serde_json.specs.View.{members_view}
use Rattle.serde_json.specs.declared.value.Value.{Value}
use Rattle.line_requests.specs.Requests.{count_members, member_count, value_in}

-- a line that is read as a value
pub line_read : (line : List ℕ) (d : Data) → IsUtf8 line → read line ≡ Some d → Some d ≡ value_in line
unfolding value_in
line_read line d text is = rw (is_utf8-from_IsUtf8 line text, is) refl

chosen : (b : Bool) (there : Option Data) → (b ≡ true → there ≡ None) → None ≡ (if b then there else None)
chosen true there h = sym (h refl)
chosen false there h = refl

-- a line that is read as none
pub line_unread : (line : List ℕ) → (IsUtf8 line → read line ≡ None) → None ≡ value_in line
unfolding value_in
line_unread line h = chosen (is_utf8 line) (read line) (λ is. h (IsUtf8-from_is_utf8 line is))

-- an object has as many members as its map has entries
pub members_counted : (es : List (String Global × Value)) → length es ≡ count_members (members_view es)
members_counted [] = refl
members_counted (e ∷ es) = let more = members_counted es in omega (arith, more)

-- what is no object has no members
pub none_counted : (d : Data) → None ≡ as_object d → 0 ≡ member_count d
none_counted null h = refl
none_counted (boolean b) h = refl
none_counted (number n) h = refl
none_counted (string s) h = refl
none_counted (array ds) h = refl
none_counted (object ms) h = absurd (cc)

-- an object has its members
pub some_counted : (d : Data) (ms : Members) (n : ℕ) → Some ms ≡ as_object d → n ≡ count_members ms
    → n ≡ member_count d
some_counted null ms n h k = absurd (cc)
some_counted (boolean b) ms n h k = absurd (cc)
some_counted (number m) ms n h k = absurd (cc)
some_counted (string s) ms n h k = absurd (cc)
some_counted (array ds) ms n h k = absurd (cc)
some_counted (object others) ms n h k =
    let same : ms ≡ others = cc in k ∙ ap count_members same
