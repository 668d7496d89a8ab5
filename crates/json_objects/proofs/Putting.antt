-- A member that comes before all others is put in front.
use Rattle.std.proofs.Common.{◌≡◌, ℕ, List, Option, Some, None, refl}
use Rattle.std.specs.Ordering.{nat_cmp, match_ordering}
use Rattle.std.specs.Cmp.Lexicographic.{slice_cmp}
use Rattle.serde_json.specs.Data.{Data, Members, no_members, member, put}
use Rattle.json_objects.specs.Members.{IsBefore, member_if}

-- a member that comes before all others is put in front
pub put_before : (k : List ℕ) (d : Data) (ms : Members) → IsBefore k ms → put k d ms ≡ member k d ms
put_before k d no_members h = refl
put_before k d (member l e ms) h = rw h refl

-- a key comes before a member that may be there, where it comes before that one's and before the rest
pub before_if : (k l : List ℕ) (o : Option Data) (ms : Members) → IsBefore k (member l (Data.null) ms) → IsBefore k ms
    → IsBefore k (member_if l o ms)
before_if k l None ms first rest = rest
before_if k l (Some d) ms first rest = first
