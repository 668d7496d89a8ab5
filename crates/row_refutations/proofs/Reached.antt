-- Rows hold in every state that can be reached.
use Rattle.std.proofs.Common.{ℕ, ◌<◌, List, All, length, get_or}
use Rattle.std.proofs.lemmas.List.Elements.{All-map}
use Rattle.locking_table.specs.declared.places.End.{End}
use Rattle.locking_table.specs.declared.row.Row.{Row}
use Rattle.locking_table.specs.Index.{no_row}
use Rattle.locking_table.specs.Meaning.{RowHolds}
use Rattle.locking_table.specs.Places.{at_ends}
use Rattle.locking_table.specs.Sound.{RowFits}
use Rattle.frame_walk.specs.States.{IsReachable}
use Rattle.frame_findings.specs.Findings.{AreReversed}
use Rattle.row_findings.proofs.MarkLemmas.{hold_reached}
use Rattle.row_refutations.specs.Refuted.{AreRefuting, HoldIn, rows_at}

pub hold_in : (rows : List Row) (levers : ℕ) (state : List End) → All (RowFits levers) rows
    → IsReachable rows levers state → HoldIn rows state
hold_in rows levers state fits reachable = hold_reached rows levers state fits reachable

-- rows of a table hold where all of it does
chosen_hold : (rows : List Row) (places : List ℕ) (state : List End) → All (λ (at : ℕ). at < length rows) places
    → HoldIn rows state → HoldIn (rows_at rows places) state
chosen_hold rows places state within hold =
    All-map (RowHolds (at_ends state)) (λ (at : ℕ). get_or rows at no_row) places
    (λ i d lt. hold (get_or places i d) no_row (within i d lt))

pub never_so : (rows : List Row) (levers : ℕ) (reversed places : List ℕ) (state : List End)
    → All (RowFits levers) rows → AreRefuting rows reversed places → IsReachable rows levers state
    → AreReversed reversed state → ⊥
never_so rows levers reversed places state fits refuting reachable so =
    refuting.refute state (chosen_hold rows places state refuting.within (hold_in rows levers state fits reachable)) so
