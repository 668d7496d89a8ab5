-- Which rows a frame and a table can have.
use Rattle.std.specs.Prelude.{ℕ, ◌≤◌, List, [], ◌∷◌, Bool, true, not, ◌&&◌, ◌==◌, IsTrue, All, length, map}
use Rattle.std.specs.List.{list_any}
use Rattle.locking_table.specs.declared.row.Cond.{Cond}
use Rattle.locking_table.specs.declared.row.Row.{Row}
use Rattle.locking_table.specs.Places.{IsLever, most_levers}

abbrev pub CondFits : ℕ → Cond → Type 0
CondFits levers cond = IsLever levers cond.lever

-- a frame of so many levers has each lever that the row names
pub record RowFits (levers : ℕ) (row : Row) : Type 0 where
  pub subject : IsLever levers row.subject
  pub object : IsLever levers row.object
  pub when : All (CondFits levers) row.when

-- the levers that a row names, in the order of its text
abbrev pub levers_of : Row → List ℕ
levers_of row = row.subject ∷ row.object ∷ map (λ cond. cond.lever) row.when

-- no two of the numbers are equal
abbrev pub all_differ : List ℕ → Bool
all_differ [] = true
all_differ (n ∷ ns) = not (list_any (λ m. m == n) ns) && all_differ ns

-- the same of the levers of conditions
abbrev pub conds_differ : List Cond → Bool
conds_differ [] = true
conds_differ (cond ∷ conds) = not (list_any (λ later. later.lever == cond.lever) conds) && conds_differ conds

-- some text of the grammar of rows reads so: its levers have the numbers of levers, and it has at most two conditions
pub record IsGrammarRow (row : Row) : Type 0 where
  pub levers : RowFits most_levers row
  pub few : length row.when ≤ 2

-- some text spells the row: its levers have the numbers of levers and all differ, and it has at most two conditions
pub record IsRow (row : Row) : Type 0 where
  pub levers : RowFits most_levers row
  pub differ : IsTrue (all_differ (levers_of row))
  pub few : length row.when ≤ 2
