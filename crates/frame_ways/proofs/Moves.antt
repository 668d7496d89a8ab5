-- A walker who moves a lever.
use Rattle.std.proofs.Common.{◌≡◌, ℕ, ◌-◌, List, [], ◌∷◌, ◌++◌, length, refl}
use Rattle.std.specs.Prelude.{slice_set}
use Rattle.std.proofs.lemmas.List.{length-set}
use Rattle.locking_table.specs.declared.places.End.{End}
use Rattle.locking_table.specs.declared.row.Row.{Row}
use Rattle.locking_table.specs.Places.{end_at, other_end}
use Rattle.frame_walk.specs.States.{CanMove, after_move, all_normal}
use Rattle.frame_walk.proofs.RowsHold.{hold_after}
use Rattle.frame_walk.proofs.WayLemmas.{leads_push}
use Rattle.frame_ways.specs.Walkers.{IsWalker}

-- he is on his way still, one lever farther
pub moved_on : (rows : List Row) (ends : List End) (path : List ℕ) (lever : ℕ) → IsWalker rows ends path
    → CanMove rows ends lever → IsWalker rows (after_move ends lever) (path ++ lever ∷ [])
moved_on rows ends path lever is can =
    let same : length (after_move ends lever) ≡ length ends =
    length-set ends (lever - 1) (other_end (end_at ends lever)) in
    record {
      few = rw same is.few;
      fit = rw same is.fit;
      leads =
          rw same
          (leads_push rows path (all_normal (length ends)) ends (after_move ends lever) lever is.leads can refl);
      hold = hold_after rows ends lever is.fit can;
    }

-- the same, where his new end is told
pub moved_to : (rows : List Row) (ends : List End) (path moves : List ℕ) (lever : ℕ) (end : End)
    → IsWalker rows ends path → CanMove rows ends lever → end ≡ other_end (end_at ends lever)
    → moves ≡ path ++ lever ∷ [] → IsWalker rows (slice_set ends (lever - 1) end) moves
moved_to rows ends path moves lever end is can told on = rw (told, on) (moved_on rows ends path lever is can)
