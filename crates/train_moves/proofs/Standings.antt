-- The first place on which a train stands.
use Rattle.std.proofs.Common.{◌≡◌, ℕ, List, [], ◌∷◌, ◌++◌, Option, Some, None, refl, ap, subst}
use Rattle.std.proofs.lemmas.List.Elements.{All-cons, All-nil}
use Rattle.track_circuits.specs.Tracks.{occupant_of}
use Rattle.train_moves.specs.Standings.{AreEmpty, StandsFirst, first_standing, standing_at}
use Rattle.train_moves.specs.declared.standing.Standing.{Standing}

-- ---- of two rows of places

at_before : (t : Option ℕ) (place : ℕ) (later more : Option Standing) (there : Standing)
    → (later ≡ Some there → more ≡ Some there) → standing_at t place later ≡ Some there
    → standing_at t place more ≡ Some there
at_before None place later more there h e = h e
at_before (Some train) place later more there h e = e

-- what stands in the first row is the first of both
pub standing_before : (tracks : List (Option ℕ)) (xs ys : List ℕ) (there : Standing)
    → first_standing tracks xs ≡ Some there → first_standing tracks (xs ++ ys) ≡ Some there
standing_before tracks [] ys there e = absurd cc
standing_before tracks (place ∷ xs) ys there e =
    at_before (occupant_of tracks place) place (first_standing tracks xs) (first_standing tracks (xs ++ ys)) there
    (standing_before tracks xs ys there) e

at_behind : (t : Option ℕ) (place : ℕ) (later more last : Option Standing) → (later ≡ None → more ≡ last)
    → standing_at t place later ≡ None → standing_at t place more ≡ last
at_behind None place later more last h e = h e
at_behind (Some train) place later more last h e = absurd cc

-- behind an empty row comes what stands in the second
pub standing_behind : (tracks : List (Option ℕ)) (xs ys : List ℕ) → first_standing tracks xs ≡ None
    → first_standing tracks (xs ++ ys) ≡ first_standing tracks ys
standing_behind tracks [] ys e = refl
standing_behind tracks (place ∷ xs) ys e =
    at_behind (occupant_of tracks place) place (first_standing tracks xs) (first_standing tracks (xs ++ ys))
    (first_standing tracks ys) (standing_behind tracks xs ys) e

-- ---- what the first one tells

record IsNone (t : Option ℕ) (later : Option Standing) : Type 0 where
  here : t ≡ None
  there : later ≡ None

none_at : (t : Option ℕ) (place : ℕ) (later : Option Standing) → standing_at t place later ≡ None → IsNone t later
none_at None place later e = record { here = refl; there = e }
none_at (Some train) place later e = absurd cc

-- where there is no first one, all places are empty
pub none_stands : (tracks : List (Option ℕ)) (places : List ℕ) → first_standing tracks places ≡ None
    → AreEmpty tracks places
none_stands tracks [] e = All-nil (λ (p : ℕ). occupant_of tracks p ≡ None)
none_stands tracks (place ∷ places) e =
    let none = none_at (occupant_of tracks place) place (first_standing tracks places) e in
    All-cons (λ (p : ℕ). occupant_of tracks p ≡ None) place places none.here (none_stands tracks places none.there)

same_standing : (one other : Standing) → Some one ≡ Some other → one ≡ other
same_standing one other e = cc

stands_at : (t : Option ℕ) (tracks : List (Option ℕ)) (place : ℕ) (places : List ℕ) (there : Standing)
    → occupant_of tracks place ≡ t
    → (first_standing tracks places ≡ Some there → StandsFirst tracks places there.place there.train)
    → standing_at t place (first_standing tracks places) ≡ Some there
    → StandsFirst tracks (place ∷ places) there.place there.train
stands_at None tracks place places there is h e =
    let later = h e in
    record {
      before = place ∷ later.before;
      behind = later.behind;
      row = ap (λ (row : List ℕ). place ∷ row) later.row;
      empty = All-cons (λ (p : ℕ). occupant_of tracks p ≡ None) place later.before is later.empty;
      stands = later.stands;
    }
stands_at (Some train) tracks place places there is h e =
    let same = same_standing (record { place = place; train = train }) there e in
    record {
      before = [];
      behind = places;
      row = ap (λ (s : Standing). s.place ∷ places) same;
      empty = All-nil (λ (p : ℕ). occupant_of tracks p ≡ None);
      stands = subst (λ (s : Standing). occupant_of tracks s.place ≡ Some s.train) same is;
    }

-- the first one stands where no place before it has a train
pub first_stands : (tracks : List (Option ℕ)) (places : List ℕ) (there : Standing)
    → first_standing tracks places ≡ Some there → StandsFirst tracks places there.place there.train
first_stands tracks [] there e = absurd cc
first_stands tracks (place ∷ places) there e =
    stands_at (occupant_of tracks place) tracks place places there refl (first_stands tracks places there) e
