-- What is read of a locking table so far.
use Rattle.std.specs.Prelude.{◌≡◌, ℕ, List, [], Bool, true, false, Result, Ok, Err}
use Rattle.locking_table.specs.declared.row.Cond.{Cond}
use Rattle.row_texts.specs.declared.cause.RowsCause.{RowsCause}
use Rattle.row_texts.specs.declared.cause.WordFault.{WordFault}
use Rattle.row_texts.specs.declared.cause.WordFault.TheVariants as faults
use Rattle.row_texts.specs.declared.draft.Entry.{Entry}
use Rattle.row_texts.specs.declared.draft.Place.{Place}
use Rattle.row_texts.specs.declared.draft.Place.TheVariants as places

-- what stood last in the line, the levers and the conditions of the item that is read, and the rows before it
pub record DraftFields : Type 0 where
  pub place : Place
  pub levers : List ℕ
  pub when : List Cond
  pub entries : List Entry

abbrev pub start_draft : DraftFields
start_draft = record { place = places.Start; levers = []; when = []; entries = [] }

-- the greatest number of a row
abbrev pub most_number : ℕ
most_number = 9999

-- the number of a row for which none stands, behind all others
abbrev pub no_number : ℕ
no_number = 10000

-- what stands here isn't read
abbrev pub is_beside : Place → Bool
is_beside places.Beside = true
is_beside other = false

-- nothing stood in the line
abbrev pub is_start : Place → Bool
is_start places.Start = true
is_start other = false

-- What reading makes of the old value is the new one, or its cause is told; want of memory is free.
abbrev pub Gives : {A B : Type 0} → (A → Result B RowsCause) → A → Result (Unit {0}) WordFault → B → Type 0
Gives reads old (Ok done) new = reads old ≡ Ok new
Gives reads old (Err (faults.Cause cause)) new = reads old ≡ Err cause
Gives reads old (Err faults.NoMemory) new = Unit {0}
