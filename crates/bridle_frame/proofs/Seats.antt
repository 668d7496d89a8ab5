-- A lever at mid seats nothing, so a bridle that is seated with it there is seated with it anywhere.
use Rattle.std.proofs.Common.{◌≡◌, ℕ, ◌+◌, ◌-◌, List, [], ◌∷◌, replicate, Bool, true, false, not, ◌&&◌, ◌||◌, ◌==◌}
use Rattle.std.proofs.Common.{if◌then◌else◌, refl, sym, ap, ◌∙◌, subst, arith}
use Rattle.std.specs.Prelude.{Some, None, All, IsTrue, map}
use Rattle.std.specs.List.{list_any}
use Rattle.std.proofs.lemmas.List.{get_or-replicate}
use Rattle.std.proofs.lemmas.List.Elements.{All-nil, All-cons, All-head, All-tail, All-weaker}
use Rattle.locking_table.specs.declared.places.End.{End}
use Rattle.locking_table.specs.declared.places.End.TheVariants.{Normal as NormalEnd}
use Rattle.locking_table.specs.declared.places.Stand.{Stand}
use Rattle.locking_table.specs.declared.places.Stand.TheVariants.{AtNormal, AtMid}
use Rattle.locking_table.specs.Places.{IsLever, LeverPlace, at_ends, stand_at, stand_of}
use Rattle.locking_table.specs.Sound.{all_differ}
use Rattle.bridle_frame.specs.declared.bridle.Notches.{Notches}
use Rattle.bridle_frame.specs.declared.bridle.Notches.TheVariants.{Normal, Reversed, Both}
use Rattle.bridle_frame.specs.declared.bridle.Dog.{Dog}
use Rattle.bridle_frame.specs.declared.bridle.Bridle.{Bridle}
use Rattle.bridle_frame.specs.Seated.{BridleFits, DogFits, IsSeated, all_normal, dogs_differ, has_notch, lies_in}
use Rattle.bridle_frame.specs.Seated.{seated}
use Rattle.bridle_frame.specs.Shifts.{first_unseated}

or_both : (a b c d : Bool) → (IsTrue a → IsTrue c) → (IsTrue b → IsTrue d) → IsTrue (a || b) → IsTrue (c || d)
or_both true b c d f g h = rw (f refl) refl
or_both false b true d f g h = refl
or_both false b false d f g h = g h

notch_moved : (n : Notches) (test : Bool) (s old : Stand) → IsTrue (has_notch n (if test then AtMid else old))
    → IsTrue (has_notch n (if test then s else old))
notch_moved Normal true s old h = cc
notch_moved Reversed true s old h = cc
notch_moved Both true s old h = cc
notch_moved n false s old h = h

any_moved : (ends : List End) (lever : ℕ) (s : Stand) (dogs : List Dog)
    → IsTrue (list_any (lies_in (stand_of ends lever AtMid)) dogs)
    → IsTrue (list_any (lies_in (stand_of ends lever s)) dogs)
any_moved ends lever s [] h = h
any_moved ends lever s (d ∷ ds) h =
    or_both (lies_in (stand_of ends lever AtMid) d) (list_any (lies_in (stand_of ends lever AtMid)) ds)
    (lies_in (stand_of ends lever s) d) (list_any (lies_in (stand_of ends lever s)) ds)
    (notch_moved d.notches (d.lever == lever) s (at_ends ends d.lever)) (any_moved ends lever s ds) h

-- where every bridle is seated with the lever at mid, every bridle is seated with it at any place
pub all_moved : (ends : List End) (lever : ℕ) (s : Stand) (bridles : List Bridle)
    → All (IsSeated (stand_of ends lever AtMid)) bridles → All (IsSeated (stand_of ends lever s)) bridles
all_moved ends lever s bridles all =
    All-weaker (IsSeated (stand_of ends lever AtMid)) (IsSeated (stand_of ends lever s))
    (λ b h. any_moved ends lever s b.dogs h) bridles all

pub at_either_end : (ends : List End) (lever : ℕ) (e : End) (bridles : List Bridle)
    → All (IsSeated (stand_of ends lever AtMid)) bridles → All (IsSeated (stand_of ends lever (stand_at e))) bridles
at_either_end ends lever e bridles all = all_moved ends lever (stand_at e) bridles all

-- all are seated where none is the first that isn't
none_first : (places : LeverPlace) (from : ℕ) (test : Bool) (b : Bridle) (bs : List Bridle) → test ≡ seated places b
    → (if test then first_unseated places (from + 1) bs else Some from) ≡ None
    → IsTrue (seated places b) × (first_unseated places (from + 1) bs ≡ None)
none_first places from true b bs is h = (sym is, h)
none_first places from false b bs is h = cc

-- where no bridle is found that isn't seated, all are
pub all_seated : (places : LeverPlace) (from : ℕ) (bs : List Bridle) → first_unseated places from bs ≡ None
    → All (IsSeated places) bs
all_seated places from [] h = All-nil (IsSeated places)
all_seated places from (b ∷ bs) h =
    let first = none_first places from (seated places b) b bs refl h in
    All-cons (IsSeated places) b bs first.0 (all_seated places (from + 1) bs first.1)

-- bridles of a frame are seated alike where its levers stand alike

any_alike : (levers : ℕ) (old new : LeverPlace) → ((n : ℕ) → IsLever levers n → old n ≡ new n) → (dogs : List Dog)
    → All (DogFits levers) dogs → list_any (lies_in old) dogs ≡ list_any (lies_in new) dogs
any_alike levers old new same [] fits = refl
any_alike levers old new same (d ∷ ds) fits =
    ap (λ (s : Stand). has_notch d.notches s || list_any (lies_in old) ds)
    (same d.lever (All-head (DogFits levers) d ds fits))
    ∙ ap (λ (b : Bool). lies_in new d || b) (any_alike levers old new same ds (All-tail (DogFits levers) d ds fits))

-- bridles stay seated where every lever of the frame stands as before
pub all_alike : (levers : ℕ) (old new : LeverPlace) → ((n : ℕ) → IsLever levers n → old n ≡ new n) → (bs : List Bridle)
    → All (BridleFits levers) bs → All (IsSeated old) bs → All (IsSeated new) bs
all_alike levers old new same [] fits all = All-nil (IsSeated new)
all_alike levers old new same (b ∷ bs) fits all =
    All-cons (IsSeated new) b bs
    (subst (λ (t : Bool). IsTrue t) (any_alike levers old new same b.dogs (All-head (BridleFits levers) b bs fits).dogs)
    (All-head (IsSeated old) b bs all))
    (all_alike levers old new same bs (All-tail (BridleFits levers) b bs fits) (All-tail (IsSeated old) b bs all))

-- ---- dogs on different levers

-- a dog is on a lever exactly where the lever is among those of the dogs
pub any_of_map : (lever : ℕ) (ds : List Dog)
    → list_any (λ n. n == lever) (map (λ d. d.lever) ds) ≡ list_any (λ d. d.lever == lever) ds
any_of_map lever [] = refl
any_of_map lever (d ∷ ds) = ap (λ (b : Bool). (d.lever == lever) || b) (any_of_map lever ds)

pub all_differ-dogs : (ds : List Dog) → all_differ (map (λ d. d.lever) ds) ≡ dogs_differ ds
all_differ-dogs [] = refl
all_differ-dogs (d ∷ ds) =
    ap (λ (b : Bool). not b && all_differ (map (λ (x : Dog). x.lever) ds)) (any_of_map d.lever ds)
    ∙ ap (λ (b : Bool). not (list_any (λ (later : Dog). later.lever == d.lever) ds) && b) (all_differ-dogs ds)

-- ---- all levers normal

normal_there : (levers lever : ℕ) → IsLever levers lever → AtNormal ≡ at_ends (replicate levers NormalEnd) lever
normal_there levers lever is = ap stand_at (sym (get_or-replicate levers (lever - 1) NormalEnd NormalEnd (omega arith)))

pub seated-open : (levers : ℕ) (b : Bridle) → BridleFits levers b
    → list_any (lies_in all_normal) b.dogs ≡ seated (at_ends (replicate levers NormalEnd)) b
seated-open levers b fits =
    any_alike levers all_normal (at_ends (replicate levers NormalEnd)) (normal_there levers) b.dogs fits.dogs

pub ruleset seat_rules = (at_either_end)

pub ruleset dog_rules = (all_differ-dogs)

pub ruleset opening_rules = (seated-open)
