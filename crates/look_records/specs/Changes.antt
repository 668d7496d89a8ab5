-- What stands otherwise than before.
use Rattle.std.specs.Prelude.{◌≡◌, ◌≢◌, ℕ, ◌+◌, List, [], ◌∷◌, ◌++◌, Option, Some, None, codes, slice_get}
use Rattle.serde_json.specs.Data.{Data, array, member, no_members, number, object, unsigned}
use Rattle.serde_json.specs.View.{items_of}
use Rattle.json_objects.specs.Texts.{IsTextOf}
use Rattle.line_plan.specs.Frames.{BoxFields}
use Rattle.line_plan.specs.Plans.{PlanFields}
use Rattle.line_law.specs.States.{LineState}
use Rattle.look_records.specs.Objects.{look_data}
use Rattle.look_records.specs.Things.{things_at}
use Rattle.look_records.specs.declared.thing.BoxThing.{BoxThing}

-- ---- the things of a box

-- what is listed of a thing: nothing where it stood before as it does now, else how it stands
abbrev pub IsChange : Option BoxThing → BoxThing → List BoxThing → Type 0
IsChange None thing [] = ⊥
IsChange (Some old) thing [] = old ≡ thing
IsChange None thing (change ∷ []) = change ≡ thing
IsChange (Some old) thing (change ∷ []) = (old ≢ thing) × (change ≡ thing)
IsChange old thing (change ∷ other ∷ more) = ⊥

-- what is listed of things which have the numbers from this one on, beside those that stood before: of each once, in
-- order
abbrev pub AreChanges : List BoxThing → ℕ → List BoxThing → List BoxThing → Type 0
AreChanges before at [] changes = changes ≡ []
AreChanges before at (thing ∷ after) changes =
    (first : List BoxThing) × (rest : List BoxThing) × (changes ≡ first ++ rest)
    × IsChange (slice_get before at) thing first × AreChanges before (at + 1) after rest

-- ---- the boxes of a line

-- the object of the things of box b that are listed, if any are
abbrev pub look_if : PlanFields → ℕ → List BoxThing → List Data
look_if plan b [] = []
look_if plan b (thing ∷ things) = look_data plan b (thing ∷ things) ∷ []

-- behind these objects come those of the boxes from b on at which something stands otherwise now than earlier: of each
-- the things that do
abbrev pub PutsChanges : PlanFields → LineState → LineState → ℕ → List BoxFields → List Data → List Data → Type 0
PutsChanges plan earlier now b [] old new = new ≡ old
PutsChanges plan earlier now b (box_plan ∷ boxes) old new =
    (things : List BoxThing) × AreChanges (things_at plan earlier b) 0 (things_at plan now b) things
    × PutsChanges plan earlier now (b + 1) boxes (old ++ look_if plan b things) new

-- the boxes' changes, and after how many entries the line stands so now
abbrev pub changes_data : List Data → ℕ → Data
changes_data items count =
    object (member (codes "changes") (array (items_of items))
    (member (codes "entries") (number (unsigned count)) no_members))

-- the text of what stands otherwise now, behind so many entries, than earlier
pub record IsChangesText (plan : PlanFields) (earlier now : LineState) (count : ℕ) (text : List ℕ) : Type 0 where
  pub items : List Data
  pub each : PutsChanges plan earlier now 0 plan.boxes [] items
  pub is : IsTextOf (changes_data items count) text

-- ---- all that stands

-- the objects of the boxes from b on, with all that stands there
abbrev pub looks_from : PlanFields → LineState → ℕ → List BoxFields → List Data
looks_from plan state b [] = []
looks_from plan state b (box_plan ∷ boxes) =
    look_data plan b (things_at plan state b) ∷ looks_from plan state (b + 1) boxes

-- the objects of all boxes of a line
abbrev pub looks_data : PlanFields → LineState → Data
looks_data plan state =
    object (member (codes "looks") (array (items_of (looks_from plan state 0 plan.boxes))) no_members)
