-- Values that have no float and don't nest deep, member by member.
use Rattle.std.proofs.Common.{◌≡◌, ℕ, ◌+◌, ◌≤◌, List, Option, Some, None, false, refl, arith, option_map}
use Rattle.std.specs.Prelude.{Bool, ◌||◌, max}
use Rattle.serde_json.specs.Data.{Data, Members, no_members, member, boolean, number, object, string, unsigned}
use Rattle.serde_json.specs.Data.{depth, members_depth}
use Rattle.serde_json.specs.Written.{has_float, members_have_float}
use Rattle.json_objects.specs.Members.{member_if}
use Rattle.json_objects.specs.Texts.{IsPlain, ArePlain}

neither : (a b : Bool) → a ≡ false → b ≡ false → (a || b) ≡ false
neither a b x y = rw x y

pub no_members_plain : (levels : ℕ) → ArePlain levels no_members
no_members_plain levels = record { no_float = refl; shallow = omega arith }

pub text_plain : (levels : ℕ) (text : List ℕ) → IsPlain levels (string text)
text_plain levels text = record { no_float = refl; shallow = omega arith }

pub number_plain : (levels n : ℕ) → IsPlain levels (number (unsigned n))
number_plain levels n = record { no_float = refl; shallow = omega arith }

pub flag_plain : (levels : ℕ) (flag : Bool) → IsPlain levels (boolean flag)
flag_plain levels flag = record { no_float = refl; shallow = omega arith }

-- a plain value before plain members
pub member_plain : (levels : ℕ) (key : List ℕ) (d : Data) (ms : Members) → IsPlain levels d → ArePlain levels ms
    → ArePlain levels (member key d ms)
member_plain levels key d ms h rest =
    record {
      no_float = neither (has_float d) (members_have_float ms) h.no_float rest.no_float;
      shallow = omega (arith, h.shallow, rest.shallow);
    }

-- a text, if there is one, before plain members
pub text_if_plain : (levels : ℕ) (key : List ℕ) (text : Option (List ℕ)) (ms : Members) → ArePlain levels ms
    → ArePlain levels (member_if key (option_map string text) ms)
text_if_plain levels key None ms rest = rest
text_if_plain levels key (Some text) ms rest = member_plain levels key (string text) ms (text_plain levels text) rest

-- a number, if there is one, before plain members
pub number_if_plain : (levels : ℕ) (key : List ℕ) (n : Option ℕ) (ms : Members) → ArePlain levels ms
    → ArePlain levels (member_if key (option_map (λ m. number (unsigned m)) n) ms)
number_if_plain levels key None ms rest = rest
number_if_plain levels key (Some n) ms rest =
    member_plain levels key (number (unsigned n)) ms (number_plain levels n) rest

-- an object of plain members
pub object_plain : (levels : ℕ) (ms : Members) → ArePlain levels ms → IsPlain (levels + 1) (object ms)
object_plain levels ms h = record { no_float = h.no_float; shallow = omega (arith, h.shallow) }
