-- What a board shows of a history.
use Rattle.std.specs.Prelude.{◌≡◌, ℕ, ◌-◌, ◌≤◌, ◌<◌, List, [], length, false, slice_index_or}
use mathlib.Core.List.{IsPrefix}
use Rattle.block_words.specs.declared.Position.TheVariants.{Normal}
use Rattle.block_words.specs.declared.Way.TheVariants.{Down}
use Rattle.line_plan.specs.Plans.{PlanFields}
use Rattle.line_plan.specs.Sections.{sections_of}
use Rattle.line_plan.specs.declared.section.Section.{Section}
use Rattle.line_law.specs.declared.call.Entry.{Entry}
use Rattle.line_watch.specs.declared.sight.Sight.{Sight}
use Rattle.line_watch.specs.Sights.{IsFirstRight, IsRightAfter}

-- the sight of an instrument that was never turned
abbrev pub first_sight : Sight
first_sight = record { turns = 0; position = Normal; spent = false }

-- the sight in place k of round r, both from 0
abbrev pub sight_in : List (List Sight) → ℕ → ℕ → Sight
sight_in rounds r k = slice_index_or (slice_index_or rounds r []) k first_sight

-- the section in place k, from 0, in the order in which sections are printed
abbrev pub section_in : PlanFields → ℕ → Section
section_in plan k = slice_index_or (sections_of plan) k (record { rear = 0; way = Down })

-- a round shows how all instruments stand after a history: it has a sight of each section, which is right after it
pub record IsRoundAfter (plan : PlanFields) (log : List Entry) (round : List Sight) : Type 0 where
  pub each : length round ≡ length (sections_of plan)
  pub right : (k : ℕ) → k < length (sections_of plan)
      → IsRightAfter plan log (section_in plan k) (slice_index_or round k first_sight)

-- A board shows a history. Each round has a sight of each section, which is right after some beginning of the history;
-- for each section the shortest such beginnings never get shorter from round to round; and the last round is right
-- after the whole history.
pub record IsBoardOf (plan : PlanFields) (log : List Entry) (rounds : List (List Sight)) : Type 0 where
  pub each : (r : ℕ) → r < length rounds → length (slice_index_or rounds r []) ≡ length (sections_of plan)
  pub right : (r k : ℕ) → r < length rounds → k < length (sections_of plan)
      → (there : List Entry) × IsPrefix there log
      × IsRightAfter plan there (section_in plan k) (sight_in rounds r k)
  pub later : (r s k : ℕ) (first next : List Entry) → r ≤ s → s < length rounds → k < length (sections_of plan)
      → IsFirstRight plan log (section_in plan k) (sight_in rounds r k) first
      → IsFirstRight plan log (section_in plan k) (sight_in rounds s k) next → length first ≤ length next
  pub last : (k : ℕ) → 0 < length rounds → k < length (sections_of plan)
      → IsRightAfter plan log (section_in plan k) (sight_in rounds (length rounds - 1) k)
