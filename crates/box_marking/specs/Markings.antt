-- What an instructor marks in a journal: exactly this, in order.
use Rattle.std.specs.Prelude.{◌≡◌, ◌↔◌, ◌⊎◌, ℕ, ◌+◌, ◌<◌, ◌==◌, Bool, true, false, not, ◌&&◌, List, [], ◌∷◌, ◌++◌}
use Rattle.std.specs.Prelude.{length, filter, replicate, slice_index_or, slice_set, Option, Some, None, Contains}
use Rattle.std.specs.List.{AllPairs}
use Rattle.line_plan.specs.Plans.{PlanFields}
use Rattle.line_law.specs.declared.call.Entry.{Entry}
use Rattle.box_marking.specs.declared.lapse.Lapse.{Lapse}
use Rattle.box_marking.specs.declared.lapse.Lapse.TheVariants as lapses
use Rattle.box_marking.specs.declared.marking.Marking.{Marking}
use Rattle.box_marking.specs.Behind.{each_behind, made_good_by, markings_by}
use Rattle.box_marking.specs.Lapses.{is_duty}

-- ---- what is marked

-- an entry of a journal is marked so, unless a later one makes it good; a code rung back, or Line Clear given, is late
-- by as much as is said, if it is
pub record MayMark (plan : PlanFields) (within : Option ℕ) (es : List Entry) (marking : Marking) : Type 0 where
  pub before : List Entry
  pub entry : Entry
  pub after : List Entry
  pub split : es ≡ before ++ entry ∷ after
  pub told : Contains (markings_by plan within before entry) marking

-- some entry of a journal does what had to be done for entry k
pub record IsMadeGood (plan : PlanFields) (es : List Entry) (k : ℕ) : Type 0 where
  pub before : List Entry
  pub entry : Entry
  pub after : List Entry
  pub split : es ≡ before ++ entry ∷ after
  pub told : Contains (made_good_by plan before entry) (Some k)

-- an entry of a journal is marked so: it may be, and where that can be made good, nothing does
pub record IsMarked (plan : PlanFields) (within : Option ℕ) (es : List Entry) (marking : Marking) : Type 0 where
  pub may : MayMark plan within es marking
  pub stands : is_duty marking.lapse ≡ true → ¬ IsMadeGood plan es marking.entry

-- ---- in order

-- the number of the rule by which a lapse is marked
abbrev pub rule_number : Lapse → ℕ
rule_number (lapses.Unacknowledged code) = 1
rule_number (lapses.Misrepeated offered repeated by) = 2
rule_number (lapses.Misdescribed offered train by) = 4
rule_number (lapses.LeftOff lever) = 5
rule_number (lapses.LeftOn shown) = 6
rule_number (lapses.BeforeCause cause) = 7
rule_number (lapses.Late since) = 8

-- by entry, then by rule
abbrev pub ComesBefore : Marking → Marking → Type 0
ComesBefore one other =
    (one.entry < other.entry) ⊎ ((one.entry ≡ other.entry) × (rule_number one.lapse < rule_number other.lapse))

-- a box is asked for: the one that is named, or each where none is
abbrev pub is_wanted : Option ℕ → ℕ → Bool
is_wanted None b = true
is_wanted (Some box_no) b = box_no == b

-- These are the markings of a journal, of the box that is asked for: each entry that is marked is named with what it is
-- marked for, and nothing else is; by entry, then by rule, and so once each.
pub record AreMarkings (plan : PlanFields) (within : Option ℕ) (es : List Entry) (only : Option ℕ)
    (markings : List Marking) : Type 0 where
  pub exact : (marking : Marking)
      → (Contains markings marking ↔ IsMarked plan within es marking × (is_wanted only marking.box_no ≡ true))
  pub order : AllPairs ComesBefore markings

-- ---- as they are told

-- what may be marked in a journal, entry by entry
abbrev pub found_of : PlanFields → Option ℕ → List Entry → List Marking
found_of plan within es = each_behind (markings_by plan within) [] es

-- the entries for which something had to be done and is, entry by entry
abbrev pub made_of : PlanFields → List Entry → List (Option ℕ)
made_of plan es = each_behind (made_good_by plan) [] es

-- a list by the numbers of entries, with those struck off that are made good
abbrev pub struck : List (Option ℕ) → List Bool → List Bool
struck [] done = done
struck (None ∷ made) done = struck made done
struck (Some k ∷ made) done = struck made (slice_set done k true)

-- a marking is of a box that is asked for, and nothing has made it good
abbrev pub stands : Option ℕ → List Bool → Marking → Bool
stands only done marking =
    is_wanted only marking.box_no && not (is_duty marking.lapse && slice_index_or done marking.entry false)

-- the markings of a journal, by entry and then by rule, as the pages tell them; `AreMarkings` says what they are
abbrev pub markings_of : PlanFields → Option ℕ → Option ℕ → List Entry → List Marking
markings_of plan within only es =
    filter (stands only (struck (made_of plan es) (replicate (length es + 1) false))) (found_of plan within es)
