-- The moves of trains and the law tell alike what stands first.
use Rattle.std.proofs.Common.{◌≡◌, ℕ, List, [], ◌∷◌, ◌++◌, refl, sym, ap, ◌∙◌}
use Rattle.std.specs.Prelude.{Option, Some, None}
use Rattle.std.proofs.lemmas.List.Elements.{All-head, All-tail}
use Rattle.track_circuits.specs.Tracks.{occupant_of}
use Rattle.line_plan.specs.Frames.{end_places, entered_by}
use Rattle.line_plan.specs.declared.signal.Signal.{Signal}
use Rattle.line_plan.specs.declared.signal.To.{To}
use Rattle.line_plan.specs.declared.signal.To.TheVariants as leads
use Rattle.train_moves.specs.Standings.{AreEmpty, first_standing as first_met, standing_at as met_at}
use Rattle.train_moves.specs.declared.standing.Standing.{Standing as Met}
use Rattle.line_law.specs.declared.state.BoxState.{BoxState}
use Rattle.line_law.specs.declared.tracks.Standing.{Standing}
use Rattle.line_law.specs.Decisions.{or_later}
use Rattle.line_law.specs.Tracks.{first_standing, standing_at, train_on}
use Rattle.line_law.specs.Trains.{end_of, standing_refusal, way_refusal}

-- what the moves tell, as the law has it
abbrev pub as_law : Option Met → Option Standing
as_law None = None
as_law (Some there) = Some (record { place = there.place; train = there.train })

alike_at : (t : Option ℕ) (place : ℕ) (law : Option Standing) (met : Option Met) → law ≡ as_law met
    → standing_at t place law ≡ as_law (met_at t place met)
alike_at (Some train) place law met same = refl
alike_at None place law met same = same

-- the first train that stands there is the law's
pub first_is : (tracks : List (Option ℕ)) (places : List ℕ)
    → first_standing tracks places ≡ as_law (first_met tracks places)
first_is tracks [] = refl
first_is tracks (place ∷ places) =
    alike_at (occupant_of tracks place) place (first_standing tracks places) (first_met tracks places)
    (first_is tracks places)

-- ---- what stands in the way past a signal

refused_at : (t : Option ℕ) (place : ℕ) (all front behind : Option Standing)
    → standing_refusal all ≡ or_later (standing_refusal front) (standing_refusal behind)
    → standing_refusal (standing_at t place all)
    ≡ or_later (standing_refusal (standing_at t place front)) (standing_refusal behind)
refused_at (Some train) place all front behind same = refl
refused_at None place all front behind same = same

refused_in_turn : (tracks : List (Option ℕ)) (front behind : List ℕ)
    → standing_refusal (first_standing tracks (front ++ behind))
    ≡ or_later (standing_refusal (first_standing tracks front)) (standing_refusal (first_standing tracks behind))
refused_in_turn tracks [] behind = refl
refused_in_turn tracks (place ∷ front) behind =
    refused_at (train_on tracks place) place (first_standing tracks (front ++ behind)) (first_standing tracks front)
    (first_standing tracks behind) (refused_in_turn tracks front behind)

same_end : (to : To) → end_places to ≡ end_of to
same_end (leads.Place place) = refl
same_end (leads.Section way) = refl
same_end leads.Away = refl

-- the law refuses what stands in the way as the moves meet it
pub way_is : (here : BoxState) (signal : Signal)
    → standing_refusal (as_law (first_met here.places (entered_by signal))) ≡ way_refusal here signal
way_is here signal =
    ap (λ (s : Option Standing). standing_refusal s) (sym (first_is here.places (entered_by signal)))
    ∙ refused_in_turn here.places signal.over (end_places signal.to)
    ∙ ap (λ (places : List ℕ). or_later (standing_refusal (first_standing here.places signal.over))
    (standing_refusal (first_standing here.places places))) (same_end signal.to)

none_at : (t : Option ℕ) (place : ℕ) (later : Option Met) → t ≡ None → later ≡ None → met_at t place later ≡ None
none_at None place later empty none = none
none_at (Some train) place later empty none = absurd cc

none_met : (tracks : List (Option ℕ)) (places : List ℕ) → AreEmpty tracks places → first_met tracks places ≡ None
none_met tracks [] empty = refl
none_met tracks (place ∷ places) empty =
    none_at (occupant_of tracks place) place (first_met tracks places)
    (All-head (λ (p : ℕ). occupant_of tracks p ≡ None) place places empty)
    (none_met tracks places (All-tail (λ (p : ℕ). occupant_of tracks p ≡ None) place places empty))

-- nothing is refused where all places on the way are empty
pub way_free : (here : BoxState) (signal : Signal) → AreEmpty here.places (entered_by signal)
    → way_refusal here signal ≡ None
way_free here signal empty =
    sym (way_is here signal)
    ∙ ap (λ (met : Option Met). standing_refusal (as_law met)) (none_met here.places (entered_by signal) empty)
