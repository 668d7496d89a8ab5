-- The rule of a line's shared words, and of the views of its seats.
use Rattle.std.specs.Prelude.{◌≡◌, ℕ, ◌<◌, ◌≤◌, ◌⊎◌, IsTrue}
use Rattle.std.specs.Prelude.{List, [], ◌∷◌, length, slice_index, Option, Some, None}
use mathlib.Core.Option.{some}
use mathlib.Core.List.{IsPrefix}
use lib.ListN.{get_elem?}
use Rattle.atomic_table.specs.Table.{State}
use Rattle.block_words.specs.declared.Way.{Way}
use Rattle.line_plan.specs.Plans.{PlanFields}
use Rattle.line_plan.specs.Ways.{leaves}
use Rattle.line_law.specs.declared.call.Entry.{Entry}
use Rattle.line_law.specs.declared.link.Link.TheVariants.{Out}
use Rattle.line_law.specs.History.{IsLegal, part_of, state_of}
use Rattle.line_law.specs.Links.{pair_no}
use Rattle.line_law.specs.States.{box_at}
use Rattle.word_laws.specs.Operations.{next_lane}
use Rattle.word_laws.specs.WordNumbers.{PlainLineOf, Word, number_after}
use Rattle.word_laws.specs.WordPlaces.{IsWordOf, word_count, word_place}
use Rattle.instrument_rule.specs.declared.view.Old.{Old}
use Rattle.instrument_rule.specs.declared.view.View.{View}
use Rattle.instrument_rule.specs.Views.{spent_view, held, holders}

-- the most entries that a box may have
abbrev pub most_entries : ℕ
most_entries = 10000

-- what was seen is a beginning of the history, in which each box that is held has the entries that were seen of it, and
-- no other
pub record Seen (log : List Entry) (posts : List ℕ) (seen : List Entry) : Type 0 where
  pub begins : IsPrefix seen log
  pub own : (p : ℕ) → 0 < held p posts → part_of p log ≡ part_of p seen

-- the same of what each of two joined views had seen
abbrev pub AllSeen : List Entry → List Old → Type 0
AllSeen log [] = Unit {0}
AllSeen log (o ∷ os) = Seen log o.posts o.seen × AllSeen log os

-- after the history the lane is empty into which box b would send its next train that way
abbrev pub LaneFree : PlanFields → List Entry → ℕ → Way → Type 0
LaneFree plan log b way =
    next_lane (box_at (state_of plan log) b) way (number_after plan log (PlainLineOf (pair_no b (Out way)) way)) ≡ 0

-- where a way is named as having room, the box that calls has a section that way, and the lane of its next train there
-- is empty
abbrev pub Roomy : PlanFields → List Entry → List ℕ → Option Way → Type 0
Roomy plan log posts None = Unit {0}
Roomy plan log [] (Some way) = ⊥
Roomy plan log (b ∷ bs) (Some way) = IsTrue (leaves (length plan.boxes) b way) × LaneFree plan log b way

-- A view fits the history, where so many posts were drawn: it has the line's plan, or a join has spent it; what it has
-- seen begins the history; its boxes are drawn; and what it knows of room and of joined views is so.
pub record Fits (plan : PlanFields) (log : List Entry) (drawn : ℕ) (v : View) : Type 0 where
  pub same_plan : (v.plan ≡ Some plan) ⊎ (v ≡ spent_view)
  pub seen : Seen log v.posts v.seen
  pub below : (p : ℕ) → 0 < held p v.posts → p < drawn
  pub olds : AllSeen v.seen v.olds
  pub roomy : Roomy plan log v.posts v.room

-- The rule, between any two steps. There is one legal history, and some seat has seen all of it. Word 0 counts the
-- posts drawn; no box is held twice, and a box that isn't drawn has no entry. Every other word has its number after the
-- history. No box has more entries than it may, and every view fits.
pub record Kept (plan : PlanFields) (s : State (Unit {0}) View) : Type 0 where
  pub log : List Entry
  pub wide : length s.words ≡ word_count (length plan.boxes)
  pub drawn : slice_index s.words 0 ≤ length plan.boxes
  pub legal : IsLegal plan log
  pub packed : (w : Word) → IsWordOf (length plan.boxes) w
      → slice_index s.words (word_place (length plan.boxes) w) ≡ number_after plan log w
  pub undrawn : (b : ℕ) → slice_index s.words 0 ≤ b → part_of b log ≡ []
  pub short : (b : ℕ) → length (part_of b log) ≤ most_entries
  pub once : (p : ℕ) → holders p s.views ≤ 1
  pub longest : (j : ℕ) × (v : View) × (get_elem? s.views j ≡ some v) × (v.seen ≡ log)
  pub fits : (j : ℕ) (v : View) → get_elem? s.views j ≡ some v → Fits plan log (slice_index s.words 0) v
