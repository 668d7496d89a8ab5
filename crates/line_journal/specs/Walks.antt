-- The journal as the order of its boxes: for each entry the box whose next one it is.
use Rattle.std.specs.Prelude.{ℕ, ◌≡◌, ◌<◌, ◌≤◌, List, [], ◌∷◌, ◌++◌, Option, Some, None, length, replicate, take}
use Rattle.line_law.specs.declared.call.Entry.{Entry}
use Rattle.line_journal.specs.Merging.{AreTallies, IsNextOnWord}
use Rattle.line_journal.specs.Order.{list_at, placed, placed_some}

-- the entries of these boxes, one after another: each is the next one of its box
abbrev pub walked : List (List Entry) → List ℕ → List Entry
walked lists [] = []
walked lists (b ∷ bs) = take 1 (list_at lists b) ++ walked (placed lists b) bs

-- what is left of the lists behind them
abbrev pub left_behind : List (List Entry) → List ℕ → List (List Entry)
left_behind lists [] = lists
left_behind lists (b ∷ bs) = left_behind (placed lists b) bs

-- each of these boxes has an entry left where it is its turn
abbrev pub IsWalk : List (List Entry) → List ℕ → Type 0
IsWalk lists [] = Unit {0}
IsWalk lists (b ∷ bs) = (0 < length (list_at lists b)) × IsWalk (placed lists b) bs

-- a walk along these boxes leaves these lists behind it
pub record Leaves (lists : List (List Entry)) (boxes : List ℕ) (left : List (List Entry)) : Type 0 where
  pub walk : IsWalk lists boxes
  pub behind : left ≡ left_behind lists boxes

-- of the entries that are ahead the first is the next, if there is one
abbrev pub IsNextOf : List Entry → Option Entry → List Entry → Type 0
IsNextOf ahead None rest = (ahead ≡ []) × (rest ≡ [])
IsNextOf ahead (Some e) rest = ahead ≡ e ∷ rest

-- so many next entries of a box were decided on its own tally, and are placed; one that is left was decided on a word
pub record AreTalliesPlaced (b : ℕ) (boxes : List ℕ) (lists : List (List Entry)) (more : List ℕ)
    (left : List (List Entry)) : Type 0 where
  pub many : ℕ
  pub within : many ≤ length (list_at lists b)
  pub tallies : AreTallies (list_at lists b) many
  pub told : more ≡ boxes ++ replicate many b
  pub rest : left ≡ placed_some lists b many
  pub word : IsNextOnWord left b
