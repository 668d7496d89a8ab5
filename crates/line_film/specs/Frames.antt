-- What each entry of a journal changes of what is seen.
use Rattle.std.specs.Prelude.{◌≡◌, ℕ, ◌+◌, ◌<◌, List, [], ◌∷◌, length, slice_index_or, take}
use Rattle.line_plan.specs.Plans.{PlanFields}
use Rattle.line_law.specs.declared.call.Entry.{Entry}
use Rattle.line_law.specs.History.{state_of}
use Rattle.line_scene.specs.declared.shown.Shown.{Shown}
use Rattle.line_scene.specs.Scenes.{things_of}
use Rattle.line_film.specs.declared.changes.Change.{Change}
use Rattle.line_film.specs.Changes.{AreChanges, with_changes}

-- what is seen of the line after so many entries of a journal
abbrev pub seen_after : PlanFields → List Entry → ℕ → List Shown
seen_after plan es n = things_of plan (state_of plan (take n es))

-- what each entry changes of what is seen: there is a list for each, of what is seen otherwise after it than before it
pub record AreFrames (plan : PlanFields) (es : List Entry) (frames : List (List Change)) : Type 0 where
  pub count : length frames ≡ length es
  pub each : (n : ℕ) → n < length es
      → AreChanges 0 (seen_after plan es n) (seen_after plan es (n + 1)) (slice_index_or frames n [])

-- how things stand after the changes of one entry after another
abbrev pub with_frames : List Shown → List (List Change) → List Shown
with_frames things [] = things
with_frames things (frame ∷ frames) = with_frames (with_changes things frame) frames
