-- What is known of the bridles that `compile` makes.
use Rattle.std.proofs.Common.{◌≡◌, ℕ, ◌<◌, ◌^◌, List, length, replicate}
use Rattle.std.specs.Prelude.{All, IfOk, Result, Ok, Err, map}
use Rattle.std.specs.Global.{Vec}
use Rattle.locking_table.specs.declared.memory.NoMemory.{NoMemory}
use Rattle.locking_table.specs.declared.places.End.TheVariants.{Normal as NormalEnd}
use Rattle.locking_table.specs.declared.row.Row.{Row}
use Rattle.locking_table.specs.Meaning.{row_holds}
use Rattle.locking_table.specs.Places.{LeverPlace, at_ends}
use Rattle.locking_table.specs.Sound.{IsRow, RowFits}
use Rattle.bridle_frame.specs.declared.bridle.Bridle.{Bridle}
use Rattle.bridle_frame.specs.Seated.{BridleFits, IsSeated, seated}
use Rattle.tappet_compiler.specs.Compiled.{compiled}
use Rattle.tappet_compiler.proofs.Tappets.{compiled_fits, compiled_seated, length-compiled, seated_rows}

abbrev Made : Type 0
Made = Result (Vec Bridle) NoMemory

abbrev IsOf : Made → List Row → Type 0
IsOf result rows = IfOk result (λ v. v.items ≡ compiled 1 rows)

-- each bridle that is made is seated exactly where its row holds
pub seated_made : (result : Made) (rows lent : List Row) → lent ≡ rows → IsOf result lent
    → IfOk result (λ v. (places : LeverPlace) → map (seated places) v.items ≡ map (row_holds places) rows)
seated_made (Ok v) rows lent same is = λ places. rw (is, same) (seated_rows places 1 rows)
seated_made (Err e) rows lent same is = tt

-- of fewer than 2^32 rows, fewer than 2^32 bridles are made
pub few_made : (result : Made) (rows lent : List Row) → lent ≡ rows → length rows < 2 ^ 32 → IsOf result lent
    → IfOk result (λ v. length v.items < 2 ^ 32)
few_made (Ok v) rows lent same few is = rw (is, same, length-compiled 1 rows) few
few_made (Err e) rows lent same few is = tt

-- the bridles that are made of rows that fit a frame fit it
pub fits_made : (result : Made) (rows lent : List Row) → lent ≡ rows → All IsRow rows → IsOf result lent
    → IfOk result (λ v. (levers : ℕ) → All (RowFits levers) rows → All (BridleFits levers) v.items)
fits_made (Ok v) rows lent same each is = λ levers fits. rw (is, same) (compiled_fits levers 1 rows each fits)
fits_made (Err e) rows lent same each is = tt

-- the bridles that are made of rows that fit a frame are seated where all its levers stand at normal
pub opening_made : (result : Made) (rows lent : List Row) → lent ≡ rows → IsOf result lent
    → IfOk result
    (λ v. (levers : ℕ) → All (RowFits levers) rows → All (IsSeated (at_ends (replicate levers NormalEnd))) v.items)
opening_made (Ok v) rows lent same is = λ levers fits. rw (is, same) (compiled_seated levers 1 rows fits)
opening_made (Err e) rows lent same is = tt
