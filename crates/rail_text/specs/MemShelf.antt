-- A shelf in memory.
use Rattle.std.specs.Prelude.{◌≡◌, ℕ, ◌+◌, Bool, nat_eq, List, [], ◌∷◌, take, Option, Some, None, is_some, IsSome}
use Rattle.std.specs.Prelude.{Result, Ok, Err, if◌then◌else◌, string_bytes, bytes_eq, String}
use Rattle.std.specs.List.{list_any}
use Rattle.std.specs.Option.{option_map}
use Rattle.std.specs.Global.{Vec, Global}
use Rattle.rail_text.specs.Causes.{raised}
use Rattle.rail_text.specs.declared.fault.FetchFault.{FetchFault}
use Rattle.rail_text.specs.declared.fault.FetchFault.TheVariants as faults

-- a text under its name
pub record Text : Type 0 where
  pub name : List ℕ
  pub bytes : List ℕ

-- a name and bytes of the program as a text
abbrev pub text_of : String Global × Vec ℕ → Text
text_of pair = record { name = string_bytes pair.0; bytes = pair.1.items }

-- its texts, the numbers of the calls that fail, and how many calls and faults there were
pub record ShelfState : Type 0 where
  pub texts : List Text
  pub fails : List ℕ
  pub calls : ℕ
  pub faults : ℕ

-- the bytes of the first text with that name
abbrev pub held_in : List Text → List ℕ → Option (List ℕ)
held_in [] name = None
held_in (text ∷ texts) name = if bytes_eq text.name name then Some text.bytes else held_in texts name

-- the call after so many calls is listed; calls are numbered from 1
abbrev pub fails_next : List ℕ → ℕ → Bool
fails_next fails calls = list_any (nat_eq (raised calls)) fails

-- what the next fetch gives: nothing where it is a call that fails or no text has the name, else the first limit + 1
-- bytes
abbrev pub fetched : ShelfState → List ℕ → ℕ → Option (List ℕ)
fetched shelf name limit =
    if fails_next shelf.fails shelf.calls then None else option_map (take (limit + 1)) (held_in shelf.texts name)

-- the shelf after that fetch: one call more, and one fault more where it gave nothing
abbrev pub shelf_after : ShelfState → List ℕ → ℕ → ShelfState
shelf_after shelf name limit = record shelf {
  calls = raised shelf.calls;
  faults = if is_some (fetched shelf name limit) then shelf.faults else raised shelf.faults;
}

-- the answer is what is given, unless memory ran out
abbrev pub GivesBytes : Result (Vec ℕ) FetchFault → Option (List ℕ) → Type 0
GivesBytes (Ok bytes) given = given ≡ Some bytes.items
GivesBytes (Err faults.Failed) given = given ≡ None
GivesBytes (Err faults.NoMemory) given = IsSome given
