-- What is listed of things, one behind the other.
use Rattle.std.proofs.Common.{◌≡◌, ℕ, ◌+◌, ◌<◌, ◌≤◌, List, [], ◌∷◌, ◌++◌, length, drop, get_or, map, slice_get}
use Rattle.std.proofs.Common.{refl, sym, ap, subst, ◌∙◌}
use Rattle.std.proofs.lemmas.List.{drop_all, drop_more}
use Rattle.serde_json.specs.Data.{Data}
use Rattle.line_plan.specs.Frames.{BoxFields}
use Rattle.line_plan.specs.Plans.{PlanFields, no_box}
use Rattle.line_law.specs.States.{LineState}
use Rattle.look_records.specs.Changes.{AreChanges, IsChange, PutsChanges, look_if}
use Rattle.look_records.specs.Things.{things_at}
use Rattle.look_records.specs.declared.thing.BoxThing.{BoxThing}

-- what is listed of a thing, and of those behind it, is listed of the things from its number on
pub change_here : (before after : List BoxThing) (at : ℕ) (d : BoxThing) (first rest : List BoxThing)
    → at < length after → IsChange (slice_get before at) (get_or after at d) first
    → AreChanges before (at + 1) (drop (at + 1) after) rest → AreChanges before at (drop at after) (first ++ rest)
change_here before after at d first rest there is more =
    subst (λ (news : List BoxThing). AreChanges before at news (first ++ rest)) (sym (drop_more after at d there))
    (first, rest, refl, is, more)

-- and nothing behind their end
pub none_left : (before after : List BoxThing) (at : ℕ) → length after ≤ at
    → AreChanges before at (drop at after) []
none_left before after at over =
    subst (λ (news : List BoxThing). AreChanges before at news []) (sym (drop_all at after over)) refl

-- the object of a box's changes, and those of the boxes behind it, are those from the box on
pub puts_here : (plan : PlanFields) (earlier now : LineState) (boxes : List BoxFields) (b : ℕ) (things : List BoxThing)
    (old more new : List Data) → b < length boxes
    → AreChanges (things_at plan earlier b) 0 (things_at plan now b) things → more ≡ old ++ look_if plan b things
    → PutsChanges plan earlier now (b + 1) (drop (b + 1) boxes) more new
    → PutsChanges plan earlier now b (drop b boxes) old new
puts_here plan earlier now boxes b things old more new lt is longer rest =
    subst (λ (there : List BoxFields). PutsChanges plan earlier now b there old new) (sym (drop_more boxes b no_box lt)) (
      things,
      is,
      subst (λ (front : List Data). PutsChanges plan earlier now (b + 1) (drop (b + 1) boxes) front new) longer rest,
    )

-- and none behind the last
pub puts_none : (plan : PlanFields) (earlier now : LineState) (boxes : List BoxFields) (b : ℕ) (old : List Data)
    → length boxes ≤ b → PutsChanges plan earlier now b (drop b boxes) old old
puts_none plan earlier now boxes b old le =
    subst (λ (there : List BoxFields). PutsChanges plan earlier now b there old old) (sym (drop_all b boxes le)) refl
