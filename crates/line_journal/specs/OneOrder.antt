-- The order of the journal exists, and is one. It is built by placing ready entries; whichever were placed, the first
-- that remains of the history is ready.
use Rattle.std.specs.Prelude.{◌≡◌, List, [], ◌∷◌, map}
use Rattle.line_plan.specs.Plans.{PlanFields}
use Rattle.line_law.specs.declared.call.Entry.{Entry}
use Rattle.line_law.specs.History.{after_entry}
use Rattle.line_law.specs.States.{LineState}
use Rattle.train_register.specs.Registers.{RegisterFields}
use Rattle.line_journal.specs.Order.{IsBoxReady, IsMergeOf, IsOrder, lists_of, placed, without}
use Rattle.line_journal.specs.Walks.{left_behind}

-- the entries of registers have one order: there is a journal that comes of their merge, and any order of them is that
pub record HaveOneOrder (plan : PlanFields) (registers : List RegisterFields) : Type 0 where
  pub journal : List Entry
  pub merge : IsMergeOf plan registers journal
  pub one : (other : List Entry) → IsOrder plan registers other → other ≡ journal

-- each of these entries in turn is placed when its box is ready, from a state on where these lists remain
abbrev pub ArePlaced : PlanFields → LineState → List (List Entry) → List Entry → Type 0
ArePlaced plan state lists [] = Unit {0}
ArePlaced plan state lists (e ∷ es) =
    ((rest : List Entry) × IsBoxReady plan state lists e.box_no e rest)
    × ArePlaced plan (after_entry plan state e) (placed lists e.box_no) es

-- what remains of registers when these entries are placed: of each box all but as many of its first
abbrev pub lists_behind : List RegisterFields → List Entry → List (List Entry)
lists_behind registers es = left_behind (lists_of registers) (map (λ e. e.box_no) es)

-- what remains of a history when these entries are placed: of each box all but as many of its first
abbrev pub history_behind : List Entry → List Entry → List Entry
history_behind history [] = history
history_behind history (e ∷ es) = history_behind (without e.box_no history) es
