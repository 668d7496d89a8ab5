-- The members of an object.
use Rattle.std.specs.Prelude.{◌≡◌, ℕ, List, Option, Some, None}
use Rattle.std.specs.Ordering.{nat_cmp}
use Rattle.std.specs.declared.cmp.Ordering.{Ordering}
use Rattle.std.specs.declared.cmp.Ordering.TheVariants as orders
use Rattle.std.specs.Cmp.Lexicographic.{slice_cmp}
use Rattle.serde_json.specs.Data.{Data, Members, no_members, member}
use Rattle.serde_json.specs.View.{members_view}
use Rattle.json_objects.specs.declared.object.Object.{Object}

-- the members of an object that is put together
abbrev pub members_in : Object → Members
members_in object = members_view object.members.entries

-- a member, where there is a value for it
abbrev pub member_if : List ℕ → Option Data → Members → Members
member_if key None ms = ms
member_if key (Some d) ms = member key d ms

-- a key comes before those of the members
abbrev pub IsBefore : List ℕ → Members → Type 0
IsBefore key no_members = Unit {0}
IsBefore key (member k d ms) = slice_cmp nat_cmp key k ≡ orders.Less
