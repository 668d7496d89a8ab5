-- The permit of a permissive line.
use Rattle.std.specs.Prelude.{ℕ, ◌-◌, Option, None}
use Rattle.welwyn_control.specs.declared.releases.ReleaseReply.{ReleaseReply}
use Rattle.welwyn_control.specs.declared.releases.ReleaseReply.TheVariants.{Released, NotWinding, TooSoon}

-- how many trains may be out at once, how many are, and the ready moment of a winding, if there is one
pub record Permission : Type 0 where
  pub limit : ℕ
  pub out : ℕ
  pub winding : Option ℕ

-- a release that is complete takes back one train, where any is out, and ends the winding; any other reply changes
-- nothing
abbrev pub permission_after : ReleaseReply → Permission → Permission
permission_after Released old = record old { out = old.out - 1; winding = None }
permission_after NotWinding old = old
permission_after (TooSoon _) old = old
