-- What is left of a script of which some calls are made.
use Rattle.std.proofs.Common.{◌≡◌, ℕ, ◌+◌, ◌-◌, ◌<◌, List, ◌∷◌, length, drop, get_or}
use Rattle.std.proofs.Common.{slice_get}
use Rattle.std.proofs.lemmas.List.{drop_more, length-drop}
use Rattle.line_law.specs.declared.call.Call.{Call}
use Rattle.serial_working.specs.Rosters.{head_of}
use Rattle.serial_working.proofs.LeftOf.{head-get}

-- it has as many calls as are not made
pub left_count : (calls : List Call) (made : ℕ) → length (drop made calls) ≡ length calls - made
left_count calls made = length-drop made calls

-- the next is the call at that place
pub left_next : (calls : List Call) (made : ℕ) → head_of (drop made calls) ≡ slice_get calls made
left_next calls made = head-get made calls

-- that call, and the rest
pub left_taken : (calls : List Call) (made : ℕ) (d : Call) → made < length calls
    → drop made calls ≡ get_or calls made d ∷ drop (made + 1) calls
left_taken calls made d lt = drop_more calls made d lt
