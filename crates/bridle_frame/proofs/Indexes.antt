-- The index of a frame: it is built right, and the bridles that it gives for a lever are enough to look at.
use Rattle.std.proofs.Common.{◌≡◌, ◌≢◌, ℕ, ◌+◌, ◌-◌, ◌<◌, ◌≤◌, List, [], ◌∷◌, ◌++◌, length, replicate, drop, Bool, true}
use Rattle.std.proofs.Common.{false, not, ◌&&◌, ◌||◌, ◌==◌, if◌then◌else◌, ◌⊎◌, inl, inr, refl, sym, ap, ◌∙◌, subst}
use Rattle.std.proofs.Common.{append_assoc, arith}
use Rattle.std.specs.Prelude.{Option, Some, All, IsTrue, map, slice_index_or, slice_set}
use Rattle.std.specs.List.{list_any}
use Rattle.std.proofs.Math.ListN.{length-set}
use Rattle.std.proofs.lemmas.Bool.Decides.{eqb_tells}
use Rattle.std.proofs.lemmas.List.{append-nil, drop_more, get_or-replicate, get_or-set_other, get_or-set_same}
use Rattle.std.proofs.lemmas.List.{length-drop, length-replicate}
use Rattle.std.proofs.lemmas.List.Elements.{All-nil, All-cons, All-head, All-tail}
use Rattle.locking_table.specs.declared.places.End.{End}
use Rattle.locking_table.specs.declared.places.Stand.TheVariants.{AtMid}
use Rattle.locking_table.specs.Places.{IsLever, at_ends, end_at, stand_at, stand_of}
use Rattle.locking_table.specs.Sound.{all_differ}
use Rattle.bridle_frame.specs.declared.bridle.Dog.{Dog}
use Rattle.bridle_frame.specs.declared.bridle.Bridle.{Bridle}
use Rattle.bridle_frame.specs.declared.frame.Shift.{Shift}
use Rattle.bridle_frame.specs.declared.frame.Shift.TheVariants.{HeldBy}
use Rattle.bridle_frame.specs.Seated.{BridleFits, DogFits, IsSeated, has_notch, lying_dogs, seated}
use Rattle.bridle_frame.specs.Shifts.{first_unseated, reply_of, shift_of}
use Rattle.bridle_frame.specs.Frames.{IsIndex, first_lone, lies_at, lying_in_each, used_by, used_by_all, used_one}
use Rattle.bridle_frame.specs.Frames.{uses_at, using}
use Rattle.bridle_frame.proofs.Counts.{differ_parts, none_at, unseated_by_lone}
use Rattle.bridle_frame.proofs.Seats.{any_of_map}

-- ---- how it is built

abbrev added : List (List ℕ) → ℕ → Dog → List (List ℕ)
added uses number d = slice_set uses (d.lever - 1) (slice_index_or uses (d.lever - 1) [] ++ number ∷ [])

length-added : (uses : List (List ℕ)) (number : ℕ) (d : Dog) (notch : Bool)
    → length (if notch then added uses number d else uses) ≡ length uses
length-added uses number d true = length-set uses (d.lever - 1) (slice_index_or uses (d.lever - 1) [] ++ number ∷ [])
length-added uses number d false = refl

pub length-used_one : (uses : List (List ℕ)) (e : End) (number : ℕ) (d : Dog)
    → length (used_one uses e number d) ≡ length uses
length-used_one uses e number d = length-added uses number d (has_notch d.notches (stand_at e))

-- as a bridle's number is put behind those of its levers, there are as many levers as before
pub length-used_by : (uses : List (List ℕ)) (e : End) (number : ℕ) (dogs : List Dog)
    → length (used_by uses e number dogs) ≡ length uses
length-used_by uses e number [] = refl
length-used_by uses e number (d ∷ ds) =
    length-used_by (used_one uses e number d) e number ds ∙ length-used_one uses e number d

pub length-used_by_all : (uses : List (List ℕ)) (e : End) (from : ℕ) (bs : List Bridle)
    → length (used_by_all uses e from bs) ≡ length uses
length-used_by_all uses e from [] = refl
length-used_by_all uses e from (b ∷ bs) =
    length-used_by_all (used_by uses e from b.dogs) e (from + 1) bs ∙ length-used_by uses e from b.dogs

abbrev once : Bool → ℕ → List ℕ
once named number = if named then number ∷ [] else []

-- the first dog lies in a notch of the lever, so no other does; or it doesn't
used_step : (uses : List (List ℕ)) (number : ℕ) (d : Dog) (at : ℕ) (test notch any : Bool) (rest : List ℕ)
    → IsLever (length uses) d.lever → at < length uses
    → ((test ≡ true) × (d.lever ≡ at + 1)) ⊎ ((test ≡ false) × (d.lever ≢ at + 1)) → (d.lever ≡ at + 1 → any ≡ false)
    → rest ≡ slice_index_or (if notch then added uses number d else uses) at [] ++ once any number
    → rest ≡ slice_index_or uses at [] ++ once ((test && notch) || any) number
used_step uses number d at test true any rest is less (inl here) apart h =
    let place : d.lever - 1 ≡ at = omega (arith, here.1) in
    let none : any ≡ false = apart here.1 in
    rw here.0
    (h ∙ (rw (place, none)
    (ap (λ (l : List ℕ). l ++ []) (get_or-set_same uses at (slice_index_or uses at [] ++ number ∷ []) [] less)
    ∙ append-nil (slice_index_or uses at [] ++ number ∷ []))))
used_step uses number d at test false any rest is less (inl here) apart h = rw here.0 h
used_step uses number d at test true any rest is less (inr away) apart h =
    let place : d.lever - 1 ≢ at = let lever = is in (λ e. away.1 (omega (arith, e))) in
    rw away.0
    (h ∙ ap (λ (l : List ℕ). l ++ once any number)
    (get_or-set_other uses (d.lever - 1) at (slice_index_or uses (d.lever - 1) [] ++ number ∷ []) []
    (λ e. place (sym e))))
used_step uses number d at test false any rest is less (inr away) apart h = rw away.0 h

-- where the dogs are on different levers, the number goes behind those of each lever in which one lies, once
pub used_by-at : (uses : List (List ℕ)) (e : End) (number : ℕ) (dogs : List Dog) (at : ℕ)
    → All (DogFits (length uses)) dogs → IsTrue (all_differ (map (λ d. d.lever) dogs)) → at < length uses
    → slice_index_or (used_by uses e number dogs) at []
    ≡ slice_index_or uses at [] ++ once (list_any (lies_at (at + 1) e) dogs) number
used_by-at uses e number [] at fits differ less = sym (append-nil (slice_index_or uses at []))
used_by-at uses e number (d ∷ ds) at fits differ less =
    let more : List (List ℕ) = used_one uses e number d in
    let same : length more ≡ length uses = length-used_one uses e number d in
    let p =
    differ_parts (list_any (λ n. n == d.lever) (map (λ x. x.lever) ds)) (all_differ (map (λ x. x.lever) ds)) differ in
    used_step uses number d at (d.lever == at + 1) (has_notch d.notches (stand_at e))
    (list_any (lies_at (at + 1) e) ds)
    (slice_index_or (used_by more e number ds) at []) (All-head (DogFits (length uses)) d ds fits) less
    (eqb_tells d.lever (at + 1))
    (λ is. none_at (at + 1) e ds
    (ap (λ (n : ℕ). list_any (λ (x : Dog). x.lever == n) ds) (sym is) ∙ (sym (any_of_map d.lever ds) ∙ p.0)))
    (used_by-at more e number ds at
    (subst (λ (n : ℕ). All (DogFits n) ds) (sym same) (All-tail (DogFits (length uses)) d ds fits)) p.1
    (omega arith))

named_step : (test : Bool) (front back : List ℕ) (from : ℕ)
    → (front ++ once test from) ++ back ≡ front ++ (if test then from ∷ back else back)
named_step true front back from = append_assoc front (from ∷ []) back
named_step false front back from = ap (λ (l : List ℕ). l ++ back) (append-nil front)

pub used_by_all-at : (uses : List (List ℕ)) (e : End) (from : ℕ) (bs : List Bridle) (at : ℕ)
    → All (BridleFits (length uses)) bs → at < length uses
    → slice_index_or (used_by_all uses e from bs) at [] ≡ slice_index_or uses at [] ++ using from (at + 1) e bs
used_by_all-at uses e from [] at fits less = sym (append-nil (slice_index_or uses at []))
used_by_all-at uses e from (b ∷ bs) at fits less =
    let own = All-head (BridleFits (length uses)) b bs fits in
    let same : length (used_by uses e from b.dogs) ≡ length uses = length-used_by uses e from b.dogs in
    used_by_all-at (used_by uses e from b.dogs) e (from + 1) bs at
    (subst (λ (n : ℕ). All (BridleFits n) bs) (sym same) (All-tail (BridleFits (length uses)) b bs fits))
    (omega arith)
    ∙ (ap (λ (l : List ℕ). l ++ using (from + 1) (at + 1) e bs)
    (used_by-at uses e from b.dogs at own.dogs own.differ less)
    ∙ named_step (uses_at (at + 1) e b) (slice_index_or uses at []) (using (from + 1) (at + 1) e bs) from)

-- the index that is built of the bridles is theirs
pub is_index : (levers : ℕ) (e : End) (bridles : List Bridle) → All (BridleFits levers) bridles
    → IsIndex levers e bridles (used_by_all (replicate levers []) e 0 bridles)
is_index levers e bridles fits =
    let wide : length (replicate {A = List ℕ} levers []) ≡ levers = length-replicate levers [] in
    record {
      wide = length-used_by_all (replicate levers []) e 0 bridles ∙ wide;
      each = λ at less. used_by_all-at (replicate levers []) e 0 bridles at
          (subst (λ (n : ℕ). All (BridleFits n) bridles) (sym wide) fits) (omega arith)
          ∙ ap (λ (l : List ℕ). l ++ using 0 (at + 1) e bridles) (get_or-replicate levers at [] [] less);
    }

-- ---- the bridles with a dog that lies in a notch of the lever are enough to look at

lone_step : (lone ok : Bool) (rest more held : Shift) → ok ≡ not lone → more ≡ rest
    → (if lone then held else more) ≡ (if ok then rest else held)
lone_step true ok rest more held is same = rw is refl
lone_step false ok rest more held is same = rw is same

look : (counts : List ℕ) (from : ℕ) (used ok : Bool) (ns : List ℕ) (rest : Shift)
    → ok ≡ not (used && (slice_index_or counts from 0 == 1)) → first_lone counts ns ≡ rest
    → first_lone counts (if used then from ∷ ns else ns) ≡ (if ok then rest else HeldBy (from + 1))
look counts from true ok ns rest is same =
    lone_step (slice_index_or counts from 0 == 1) ok rest (first_lone counts ns) (HeldBy (from + 1)) is same
look counts from false ok ns rest is same = rw is same

reply_step : (ok : Bool) (rest : Option ℕ) (n : ℕ)
    → (if ok then reply_of rest else HeldBy n) ≡ reply_of (if ok then rest else Some n)
reply_step true rest n = refl
reply_step false rest n = refl

at_drop : (counts : List ℕ) (from x : ℕ) (xs : List ℕ) → drop from counts ≡ x ∷ xs
    → (slice_index_or counts from 0 ≡ x) × (drop (from + 1) counts ≡ xs)
at_drop counts from x xs h =
    let l = ap length h in
    let d : length (drop from counts) ≡ length counts - from = length-drop from counts in
    let less : from < length counts = omega arith in
    let m = drop_more counts from 0 less in (cc, cc)

look_from : (ends : List End) (lever levers : ℕ) (counts : List ℕ) (from : ℕ) (bs : List Bridle)
    → drop from counts ≡ lying_in_each (at_ends ends) bs → All (BridleFits levers) bs → All (IsSeated (at_ends ends)) bs
    → first_lone counts (using from lever (end_at ends lever) bs)
    ≡ reply_of (first_unseated (stand_of ends lever AtMid) (from + 1) bs)
look_from ends lever levers counts from [] is fits all = refl
look_from ends lever levers counts from (b ∷ bs) is fits all =
    let at = at_drop counts from (lying_dogs (at_ends ends) b.dogs) (lying_in_each (at_ends ends) bs) is in
    look counts from (uses_at lever (end_at ends lever) b) (seated (stand_of ends lever AtMid) b)
    (using (from + 1) lever (end_at ends lever) bs)
    (reply_of (first_unseated (stand_of ends lever AtMid) (from + 1 + 1) bs))
    (unseated_by_lone ends lever levers b (All-head (BridleFits levers) b bs fits)
    (All-head (IsSeated (at_ends ends)) b bs all)
    ∙ ap (λ (n : ℕ). not (uses_at lever (end_at ends lever) b && (n == 1))) (sym at.0))
    (look_from ends lever levers counts (from + 1) bs at.1 (All-tail (BridleFits levers) b bs fits)
    (All-tail (IsSeated (at_ends ends)) b bs all))
    ∙ reply_step (seated (stand_of ends lever AtMid) b) (first_unseated (stand_of ends lever AtMid) (from + 1 + 1) bs)
    (from + 1)

-- where every bridle is seated, the first of those with a dog in a notch of a lever in which one dog alone lies is
-- the one that holds the lever
pub first_lone-using : (ends : List End) (lever levers : ℕ) (bridles : List Bridle) → All (BridleFits levers) bridles
    → All (IsSeated (at_ends ends)) bridles
    → first_lone (lying_in_each (at_ends ends) bridles) (using 0 lever (end_at ends lever) bridles)
    ≡ shift_of ends lever bridles
first_lone-using ends lever levers bridles fits all =
    look_from ends lever levers (lying_in_each (at_ends ends) bridles) 0 bridles refl fits all

-- the numbers are of bridles
abbrev IsBelow : ℕ → ℕ → Type 0
IsBelow limit n = n < limit

within_one : (from limit : ℕ) (used : Bool) (ns : List ℕ) → from < limit → All (IsBelow limit) ns
    → All (IsBelow limit) (if used then from ∷ ns else ns)
within_one from limit true ns h all = All-cons (IsBelow limit) from ns h all
within_one from limit false ns h all = all

using_within : (from limit lever : ℕ) (e : End) (bs : List Bridle) → from + length bs ≤ limit
    → All (IsBelow limit) (using from lever e bs)
using_within from limit lever e [] h = All-nil (IsBelow limit)
using_within from limit lever e (b ∷ bs) h =
    within_one from limit (uses_at lever e b) (using (from + 1) lever e bs) (omega arith)
    (using_within (from + 1) limit lever e bs (omega arith))

-- the numbers that are given for a lever are those of bridles
pub within : (lever : ℕ) (e : End) (bridles : List Bridle) → All (λ n. n < length bridles) (using 0 lever e bridles)
within lever e bridles = using_within 0 (length bridles) lever e bridles (omega arith)

-- the index at a lever
pub used : (levers lever : ℕ) (e : End) (bridles : List Bridle) (uses : List (List ℕ)) → IsIndex levers e bridles uses
    → IsLever levers lever → slice_index_or uses (lever - 1) [] ≡ using 0 lever e bridles
used levers lever e bridles uses index is =
    index.each (lever - 1) (omega arith) ∙ ap (λ (n : ℕ). using 0 n e bridles) (omega arith)

-- one bridle more
pub used_by_all-step : (uses made : List (List ℕ)) (e : End) (i : ℕ) (bridles : List Bridle) (b : Bridle)
    (dogs : List Dog) → i < length bridles → b ≡ slice_index_or bridles i b → dogs ≡ b.dogs
    → made ≡ used_by uses e i dogs
    → used_by_all made e (i + 1) (drop (i + 1) bridles) ≡ used_by_all uses e i (drop i bridles)
used_by_all-step uses made e i bridles b dogs less read same is =
    let at : used_by uses e i (slice_index_or bridles i b).dogs ≡ made =
    ap (λ (x : Bridle). used_by uses e i x.dogs) (sym read) ∙ sym (is ∙ ap (used_by uses e i) same) in
    sym (ap (used_by_all uses e i) (drop_more bridles i b less)
    ∙ ap (λ (made : List (List ℕ)). used_by_all made e (i + 1) (drop (i + 1) bridles)) at)
