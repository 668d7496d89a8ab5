-- What the merge keeps: what is done so far, and what remains.
use Rattle.std.specs.Prelude.{ℕ, ◌≡◌, ◌-◌, ◌≤◌, ◌<◌, List, ◌∷◌, ◌++◌, Bool, true, false, length, slice_index_or}
use Rattle.line_plan.specs.Plans.{IsPlan, PlanFields}
use Rattle.line_law.specs.declared.call.Entry.{Entry}
use Rattle.line_law.specs.History.{IsLegal, part_of, state_of}
use Rattle.line_law.specs.States.{LineState, opening_state}
use Rattle.line_law.specs.declared.state.PairState.{PairState}
use Rattle.word_laws.specs.TellsWord.{kind_told}
use Rattle.line_journal.specs.FitTests.{is_word}
use Rattle.line_journal.specs.Keepers.{AreKeepers, NoneAsleepOpen, NoneOpenBelow}
use Rattle.line_journal.specs.Lists.{AreOfBoxes, count_left}
use Rattle.line_journal.specs.Order.{IsBoxReady, IsOrderFrom, list_at}
use Rattle.line_journal.specs.declared.merging.MergeState.{MergeState}
use Rattle.line_journal.specs.declared.keeper.Keeper.{Keeper}

-- these entries are done, and what remains are the parts of what a legal history goes on with after them
pub record Remains (plan : PlanFields) (done : List Entry) (state : LineState) (lists : List (List Entry))
    (left : List Entry) : Type 0 where
  pub here : state ≡ state_of plan done
  pub legal : IsLegal plan (done ++ left)
  pub parts : (b : ℕ) → list_at lists b ≡ part_of b left

-- so much is done: with any order of what remains it is the order of all
pub record IsMerged (plan : PlanFields) (all : List (List Entry)) (done : List Entry) (state : LineState)
    (lists : List (List Entry)) : Type 0 where
  pub so_far : (later : List Entry) → IsOrderFrom plan state lists later
      → IsOrderFrom plan (opening_state plan) all (done ++ later)
  pub left : List Entry
  pub remains : Remains plan done state lists left

-- some box is ready
pub record SomeReady (plan : PlanFields) (state : LineState) (lists : List (List Entry)) : Type 0 where
  pub entry : Entry
  pub rest : List Entry
  pub ready : IsBoxReady plan state lists entry.box_no entry rest

-- the same, of pairs of which the words are those after what is done
pub record Merges (plan : PlanFields) (all : List (List Entry)) (done : List Entry) (pairs : List PairState)
    (lists : List (List Entry)) : Type 0 where
  pub merged : IsMerged plan all done (state_of plan done) lists
  pub words : pairs ≡ (state_of plan done).pairs

-- what the merge keeps where it looks at box b: no lower box is open, nor one that is asleep
pub record IsKept (plan : PlanFields) (all : List (List Entry)) (done : List Entry) (pairs : List PairState)
    (lists : List (List Entry)) (b : ℕ) (awake : List Bool) (keepers : List (List Keeper)) : Type 0 where
  pub merges : Merges plan all done pairs lists
  pub below : NoneOpenBelow plan pairs lists b
  pub asleep : NoneAsleepOpen plan pairs lists awake
  pub are_keepers : AreKeepers plan lists keepers

-- the words are those of the plan's pairs, and what remains are lists of its boxes, each of its own entries
pub record AreOfLine (plan : PlanFields) (pairs : List PairState) (lists : List (List Entry)) : Type 0 where
  pub words : length pairs ≡ length plan.boxes - 1
  pub count : length lists ≡ length plan.boxes
  pub boxes : AreOfBoxes plan lists

-- what holds of a merge between any two steps: its keepers are those of what remains, and no box below this number is
-- open, nor one that is asleep
pub record IsUnderWay (plan : PlanFields) (pairs : List PairState) (lists : List (List Entry))
    (keepers : List (List Keeper)) (awake : List Bool) (from : ℕ) : Type 0 where
  pub are_keepers : AreKeepers plan lists keepers
  pub each : length awake ≡ length lists
  pub asleep : NoneAsleepOpen plan pairs lists awake
  pub below : NoneOpenBelow plan pairs lists from

-- the same of the state of a merge
abbrev pub HoldsAt : PlanFields → MergeState → ℕ → Type 0
HoldsAt plan merge from =
    IsUnderWay plan merge.pairs.items merge.left merge.keepers.items merge.awake.items from

-- the first of these entries, so many, were decided on their box's own tally
abbrev pub AreTallies : List Entry → ℕ → Type 0
AreTallies es n = (k : ℕ) (d : Entry) → k < n → is_word (kind_told (slice_index_or es k d).reply) ≡ false

-- the entry behind so many, if there is one, was decided on a word
abbrev pub IsOnWordAt : List Entry → ℕ → Type 0
IsOnWordAt es n = (d : Entry) → n < length es → is_word (kind_told (slice_index_or es n d).reply) ≡ true

-- the next entry of box b, if there is one, was decided on a word
abbrev pub IsNextOnWord : List (List Entry) → ℕ → Type 0
IsNextOnWord lists b =
    (e : Entry) (rest : List Entry) → list_at lists b ≡ e ∷ rest → is_word (kind_told e.reply) ≡ true

-- more is done, and these lists are left: all that is kept as the merge looks at box b. The pairs stay as they are
pub record KeepsMerging (b : ℕ) (done : List Entry) (lists : List (List Entry)) (more : List Entry)
    (left : List (List Entry)) : Type 0 where
  pub count : length left ≡ length lists
  pub fewer : count_left left ≤ count_left lists
  pub keeps : (plan : PlanFields) (all : List (List Entry)) (pairs : List PairState) (awake : List Bool)
      (keepers : List (List Keeper)) → IsPlan plan → IsKept plan all done pairs lists b awake keepers
      → IsKept plan all more pairs left b awake keepers
