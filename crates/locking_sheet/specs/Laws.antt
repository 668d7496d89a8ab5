-- What holds of every printed locking table.
use Rattle.std.specs.Prelude.{◌≡◌, ℕ, ◌≤◌, ◌==◌, List, true, Bool, All, length}
use Rattle.std.specs.List.{list_any}
use Rattle.locking_table.specs.declared.row.Row.{Row}
use Rattle.locking_table.specs.Places.{IsLever, most_levers}
use Rattle.locking_table.specs.Sound.{IsRow}
use Rattle.line_plan.specs.declared.frame.Lever.{Lever}
use Rattle.line_plan.specs.Frames.{are_rising}
use Rattle.row_texts.specs.Drafts.{most_number}

-- the frame has the lever
abbrev pub has_lever : List Lever → ℕ → Bool
has_lever levers number = list_any (λ lever. lever.number == number) levers

-- a frame and its rows, as a box has them: the levers have the numbers of levers, which rise, and each row is of one of
-- the levers
pub record IsFrame (levers : List Lever) (rows : List Row) : Type 0 where
  pub numbers : All (λ lever. IsLever most_levers lever.number) levers
  pub rising : are_rising 0 levers ≡ true
  pub spelled : All IsRow rows
  pub subjects : All (λ row. has_lever levers row.subject ≡ true) rows
  pub few : length rows ≤ most_number
