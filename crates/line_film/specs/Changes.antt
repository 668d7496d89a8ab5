-- What is seen otherwise than before, thing by thing. The things that are seen of a line are the same in each state, in
-- the same order (its places, arms, levers, instruments and bells, and the places of trains on its plain lines), so a
-- thing is known by its number among them.
use Rattle.std.specs.Prelude.{◌≡◌, ◌≢◌, ℕ, ◌+◌, List, [], ◌∷◌, ◌++◌, slice_set}
use Rattle.line_scene.specs.declared.shown.Shown.{Shown}
use Rattle.line_film.specs.declared.changes.Change.{Change}

-- what is listed of a thing with this number: nothing where it stands as before, else how it stands
abbrev pub IsChange : ℕ → Shown → Shown → List Change → Type 0
IsChange slot old thing [] = old ≡ thing
IsChange slot old thing (change ∷ []) = (old ≢ thing) × (change ≡ record { slot = slot; thing = thing })
IsChange slot old thing (change ∷ other ∷ more) = ⊥

-- what is listed of things that have the numbers from this one on: of each once, in order
abbrev pub AreChanges : ℕ → List Shown → List Shown → List Change → Type 0
AreChanges slot [] [] changes = changes ≡ []
AreChanges slot [] (thing ∷ after) changes = ⊥
AreChanges slot (old ∷ before) [] changes = ⊥
AreChanges slot (old ∷ before) (thing ∷ after) changes =
    (first : List Change) × (rest : List Change) × (changes ≡ first ++ rest) × IsChange slot old thing first
    × AreChanges (slot + 1) before after rest

-- all these things, which have the numbers from this one on
abbrev pub all_from : ℕ → List Shown → List Change
all_from slot [] = []
all_from slot (thing ∷ things) = record { slot = slot; thing = thing } ∷ all_from (slot + 1) things

-- how things stand after these changes: each that is listed as it stands then, and any other as before
abbrev pub with_changes : List Shown → List Change → List Shown
with_changes things [] = things
with_changes things (change ∷ changes) = with_changes (slice_set things change.slot change.thing) changes
