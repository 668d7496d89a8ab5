-- How many of a bridle's dogs lie in notches, where one lever stands at an end or at mid, and how the counts change as
-- it moves.
use Rattle.std.proofs.Common.{◌≡◌, ◌≢◌, ℕ, suc, ◌+◌, ◌≤◌, List, [], ◌∷◌, ◌++◌, length, Bool, true, false}
use Rattle.std.proofs.Common.{not, ◌&&◌, ◌||◌, ◌==◌, if◌then◌else◌, ◌⊎◌, inl, inr, refl, sym, ap, ◌∙◌, subst}
use Rattle.std.proofs.Common.{append_assoc, arith, zero}
use Rattle.std.specs.Prelude.{All, IsTrue, map, slice_index_or, slice_set}
use Rattle.std.specs.List.{list_any}
use Rattle.std.proofs.Math.ListN.{length-set}
use Rattle.std.proofs.lemmas.List.{length-append}
use Rattle.std.proofs.lemmas.Bool.Decides.{eqb_tells}
use Rattle.std.proofs.lemmas.List.Elements.{All-head, All-tail}
use Rattle.locking_table.specs.declared.places.End.{End}
use Rattle.locking_table.specs.declared.places.Stand.{Stand}
use Rattle.locking_table.specs.declared.places.Stand.TheVariants.{AtMid}
use Rattle.locking_table.specs.Places.{IsLever, LeverPlace, at_ends, end_at, stand_at, stand_of}
use Rattle.locking_table.specs.Sound.{all_differ}
use Rattle.bridle_frame.specs.declared.bridle.Notches.{Notches}
use Rattle.bridle_frame.specs.declared.bridle.Notches.TheVariants.{Normal, Reversed, Both}
use Rattle.bridle_frame.specs.declared.bridle.Dog.{Dog}
use Rattle.bridle_frame.specs.declared.bridle.Bridle.{Bridle}
use Rattle.bridle_frame.specs.Seated.{BridleFits, DogFits, IsSeated, has_notch, lies_in, lying_dogs, seated}
use Rattle.bridle_frame.specs.Frames.{counted, lies_at, lying_in_each, one_fewer, one_more, uses_at, using}
use Rattle.bridle_frame.proofs.Seats.{any_of_map}

abbrev pub one : Bool → ℕ
one is = if is then 1 else 0

lying_more : (places : LeverPlace) (d : Dog) (ds : List Dog) (lies : Bool) → lies_in places d ≡ lies
    → lying_dogs places (d ∷ ds) ≡ one lies + lying_dogs places ds
lying_more places d ds true is =
    let more : suc (lying_dogs places ds) ≡ 1 + lying_dogs places ds = omega arith in rw is more
lying_more places d ds false is = let same : lying_dogs places ds ≡ 0 + lying_dogs places ds = omega arith in rw is same

-- where the levers of the dogs stand alike, as many of them lie in notches
pub lying_alike : (levers : ℕ) (old new : LeverPlace) → ((n : ℕ) → IsLever levers n → old n ≡ new n) → (dogs : List Dog)
    → All (DogFits levers) dogs → lying_dogs old dogs ≡ lying_dogs new dogs
lying_alike levers old new same [] fits = refl
lying_alike levers old new same (d ∷ ds) fits =
    let own : lies_in old d ≡ lies_in new d =
    ap (has_notch d.notches) (same d.lever (All-head (DogFits levers) d ds fits)) in
    lying_more old d ds (lies_in new d) own
    ∙ (ap (λ (n : ℕ). one (lies_in new d) + n)
    (lying_alike levers old new same ds (All-tail (DogFits levers) d ds fits))
    ∙ sym (lying_more new d ds (lies_in new d) refl))

-- ---- the dog on one lever

mid_none : (n : Notches) → has_notch n AtMid ≡ false
mid_none Normal = refl
mid_none Reversed = refl
mid_none Both = refl

is_equal : (test : Bool) (a b : ℕ) → ((test ≡ true) × (a ≡ b)) ⊎ ((test ≡ false) × (a ≢ b)) → test ≡ true → a ≡ b
is_equal test a b (inl h) t = h.1
is_equal true a b (inr h) t = cc
is_equal false a b (inr h) t = cc

and_none : (on at any : Bool) → (on || any) ≡ false → (on && at) ≡ false
and_none true at any h = cc
and_none false at any h = refl

or_none : (on any : Bool) → (on || any) ≡ false → any ≡ false
or_none true any h = cc
or_none false any h = h

-- where no dog is on a lever, none lies in a notch of it
pub none_at : (lever : ℕ) (e : End) (ds : List Dog) → list_any (λ (d : Dog). d.lever == lever) ds ≡ false
    → list_any (lies_at lever e) ds ≡ false
none_at lever e [] h = refl
none_at lever e (d ∷ ds) h =
    rw (and_none (d.lever == lever) (has_notch d.notches (stand_at e)) (list_any (λ (x : Dog). x.lever == lever) ds) h)
    (none_at lever e ds (or_none (d.lever == lever) (list_any (λ (x : Dog). x.lever == lever) ds) h))

bit_step : (lies mid any : Bool) (x y : ℕ) → mid ≡ false → any ≡ false → x ≡ y + one any
    → one lies + x ≡ (one mid + y) + one (lies || any)
bit_step true false false x y m a is = omega (arith, is)
bit_step false false false x y m a is = omega (arith, is)
bit_step lies true any x y m a is = cc
bit_step lies false true x y m a is = cc

add_step : (k x y a : ℕ) → x ≡ y + a → k + x ≡ (k + y) + a
add_step k x y a is = omega (arith, is)

dog_step : (test : Bool) (n : Notches) (e : End) (old : Stand) (any : Bool) (x y : ℕ) → (test ≡ true → any ≡ false)
    → x ≡ y + one any
    → one (has_notch n (if test then stand_at e else old)) + x
    ≡ (one (has_notch n (if test then AtMid else old)) + y) + one ((test && has_notch n (stand_at e)) || any)
dog_step true n e old any x y none is =
    bit_step (has_notch n (stand_at e)) (has_notch n AtMid) any x y (mid_none n) (none refl) is
dog_step false n e old any x y none is = add_step (one (has_notch n old)) x y (one any) is

-- where two tests hold together, the first denied, the first doesn't hold and the second does
pub differ_parts : (a b : Bool) → IsTrue (not a && b) → (a ≡ false) × IsTrue b
differ_parts true b h = cc
differ_parts false b h = (refl, h)

-- at an end there lies one more than at mid, where a dog on the lever has a notch there
pub lying_at_end : (ends : List End) (lever : ℕ) (e : End) (dogs : List Dog)
    → IsTrue (all_differ (map (λ d. d.lever) dogs))
    → lying_dogs (stand_of ends lever (stand_at e)) dogs
    ≡ lying_dogs (stand_of ends lever AtMid) dogs + one (list_any (lies_at lever e) dogs)
lying_at_end ends lever e [] differ = refl
lying_at_end ends lever e (d ∷ ds) differ =
    let p =
    differ_parts (list_any (λ n. n == d.lever) (map (λ x. x.lever) ds)) (all_differ (map (λ x. x.lever) ds)) differ in
    let none : (d.lever == lever) ≡ true → list_any (lies_at lever e) ds ≡ false =
    λ t. none_at lever e ds
    (ap (λ (n : ℕ). list_any (λ (x : Dog). x.lever == n) ds)
    (sym (is_equal (d.lever == lever) d.lever lever (eqb_tells d.lever lever) t))
    ∙ (sym (any_of_map d.lever ds) ∙ p.0)) in
    lying_more (stand_of ends lever (stand_at e)) d ds (lies_in (stand_of ends lever (stand_at e)) d) refl
    ∙ (dog_step (d.lever == lever) d.notches e (at_ends ends d.lever) (list_any (lies_at lever e) ds)
    (lying_dogs (stand_of ends lever (stand_at e)) ds) (lying_dogs (stand_of ends lever AtMid) ds) none
    (lying_at_end ends lever e ds p.1)
    ∙ ap (λ (n : ℕ). n + one (list_any (lies_at lever e) (d ∷ ds)))
    (sym (lying_more (stand_of ends lever AtMid) d ds (lies_in (stand_of ends lever AtMid) d) refl)))

-- a lever that stands where it stood
place_step : (ends : List End) (lever n : ℕ) (test : Bool)
    → ((test ≡ true) × (n ≡ lever)) ⊎ ((test ≡ false) × (n ≢ lever))
    → (if test then stand_at (end_at ends lever) else at_ends ends n) ≡ at_ends ends n
place_step ends lever n test (inl here) = rw here.0 (sym (ap (at_ends ends) here.1))
place_step ends lever n test (inr away) = rw away.0 refl

pub lying_now : (ends : List End) (lever levers : ℕ) (b : Bridle) → BridleFits levers b
    → lying_dogs (at_ends ends) b.dogs
    ≡ lying_dogs (stand_of ends lever AtMid) b.dogs + one (uses_at lever (end_at ends lever) b)
lying_now ends lever levers b fits =
    sym (lying_alike levers (stand_of ends lever (stand_at (end_at ends lever))) (at_ends ends)
    (λ n own. place_step ends lever n (n == lever) (eqb_tells n lever)) b.dogs fits.dogs)
    ∙ lying_at_end ends lever (end_at ends lever) b.dogs fits.differ

-- ---- a bridle is seated where some dog lies

is_false : (test : Bool) (a b : ℕ) → ((test ≡ true) × (a ≡ b)) ⊎ ((test ≡ false) × (a ≢ b)) → a ≢ b → test ≡ false
is_false test a b (inl h) away = absurd (away h.1)
is_false test a b (inr h) away = h.0

unequal : (a b : ℕ) → a ≢ b → (a == b) ≡ false
unequal a b away = is_false (a == b) a b (eqb_tells a b) away

seat_count : (lies any : Bool) (n : ℕ) → any ≡ not (n == 0) → (lies || any) ≡ not ((one lies + n) == 0)
seat_count true any n h = ap not (sym (unequal (1 + n) 0 (λ e. omega (arith, e))))
seat_count false any n h = h ∙ ap (λ (k : ℕ). not (k == 0)) (let same : n ≡ 0 + n = omega arith in same)

pub seated_by_count : (places : LeverPlace) (dogs : List Dog)
    → list_any (lies_in places) dogs ≡ not (lying_dogs places dogs == 0)
seated_by_count places [] = refl
seated_by_count places (d ∷ ds) =
    seat_count (lies_in places d) (list_any (lies_in places) ds) (lying_dogs places ds) (seated_by_count places ds)
    ∙ ap (λ (n : ℕ). not (n == 0)) (sym (lying_more places d ds (lies_in places d) refl))

lone_count : (used : Bool) (mid now : ℕ) → now ≡ mid + one used → IsTrue (not (now == 0))
    → not (mid == 0) ≡ not (used && (now == 1))
lone_count true zero now is seats = let e : now ≡ 1 = omega (arith, is) in rw e refl
lone_count true (suc m) now is seats =
    rw (unequal now 1 (λ e. omega (arith, is, e))) (ap not (unequal (suc m) 0 (λ e. omega (arith, e))))
lone_count false mid now is seats =
    let e : now ≡ mid = omega (arith, is) in
    subst (λ (n : ℕ). not (n == 0) ≡ true) e seats

-- a seated bridle is unseated with the lever at mid exactly where the lever's dog is the one that lies
pub unseated_by_lone : (ends : List End) (lever levers : ℕ) (b : Bridle) → BridleFits levers b
    → IsSeated (at_ends ends) b
    → seated (stand_of ends lever AtMid) b
    ≡ not (uses_at lever (end_at ends lever) b && (lying_dogs (at_ends ends) b.dogs == 1))
unseated_by_lone ends lever levers b fits seats =
    seated_by_count (stand_of ends lever AtMid) b.dogs
    ∙ lone_count (uses_at lever (end_at ends lever) b) (lying_dogs (stand_of ends lever AtMid) b.dogs)
    (lying_dogs (at_ends ends) b.dogs) (lying_now ends lever levers b fits)
    (subst (λ (t : Bool). IsTrue t) (seated_by_count (at_ends ends) b.dogs) seats)

-- ---- the counts of those bridles alone change

at_front : (front : List ℕ) (x : ℕ) (xs : List ℕ) (d : ℕ) → slice_index_or (front ++ x ∷ xs) (length front) d ≡ x
at_front [] x xs d = refl
at_front (f ∷ fs) x xs d = at_front fs x xs d

set_front : (front : List ℕ) (x y : ℕ) (xs : List ℕ)
    → slice_set (front ++ x ∷ xs) (length front) y ≡ (front ++ y ∷ []) ++ xs
set_front [] x y xs = refl
set_front (f ∷ fs) x y xs = ap (λ (l : List ℕ). f ∷ l) (set_front fs x y xs)

length_more : (front : List ℕ) (x : ℕ) → length (front ++ x ∷ []) ≡ length front + 1
length_more front x = length-append front (x ∷ [])

-- as the dogs that lie are counted, there are as many counts as before
pub length-counted : (next : ℕ → ℕ) (counts numbers : List ℕ) → length (counted next counts numbers) ≡ length counts
length-counted next counts [] = refl
length-counted next counts (n ∷ ns) =
    length-counted next (slice_set counts n (next (slice_index_or counts n 0))) ns
    ∙ length-set counts n (next (slice_index_or counts n 0))

-- there is a count for each bridle
pub length-each : (places : LeverPlace) (bridles : List Bridle) → length (lying_in_each places bridles) ≡ length bridles
length-each places [] = refl
length-each places (b ∷ bs) = ap suc (length-each places bs)

counted_step : (next : ℕ → ℕ) (used : Bool) (front : List ℕ) (x : ℕ) (xs ns : List ℕ)
    → counted next (front ++ x ∷ xs) (if used then length front ∷ ns else ns)
    ≡ counted next ((front ++ (if used then next x else x) ∷ []) ++ xs) ns
counted_step next true front x xs ns =
    ap (λ (n : ℕ). counted next (slice_set (front ++ x ∷ xs) (length front) (next n)) ns) (at_front front x xs 0)
    ∙ ap (λ (l : List ℕ). counted next l ns) (set_front front x (next x) xs)
counted_step next false front x xs ns =
    ap (λ (l : List ℕ). counted next l ns) (sym (append_assoc front (x ∷ []) xs))

counted_from : (next : ℕ → ℕ) (lever : ℕ) (e : End) (of : Bridle → ℕ) (front : List ℕ) (bs : List Bridle)
    → counted next (front ++ map of bs) (using (length front) lever e bs)
    ≡ front ++ map (λ b. if uses_at lever e b then next (of b) else of b) bs
counted_from next lever e of front [] = refl
counted_from next lever e of front (b ∷ bs) =
    let x : ℕ = if uses_at lever e b then next (of b) else of b in
    counted_step next (uses_at lever e b) front (of b) (map of bs) (using (length front + 1) lever e bs)
    ∙ (ap (λ (n : ℕ). counted next ((front ++ x ∷ []) ++ map of bs) (using n lever e bs)) (sym (length_more front x))
    ∙ (counted_from next lever e of (front ++ x ∷ []) bs
    ∙ append_assoc front (x ∷ []) (map (λ a. if uses_at lever e a then next (of a) else of a) bs)))

map_alike : (f g : Bridle → ℕ) (P : Bridle → Type 0) → ((b : Bridle) → P b → f b ≡ g b) → (bs : List Bridle) → All P bs
    → map f bs ≡ map g bs
map_alike f g P same [] all = refl
map_alike f g P same (b ∷ bs) all =
    ap (λ (n : ℕ). n ∷ map f bs) (same b (All-head P b bs all))
    ∙ ap (λ (l : List ℕ). g b ∷ l) (map_alike f g P same bs (All-tail P b bs all))

few_lie : (places : LeverPlace) (dogs : List Dog) → lying_dogs places dogs ≤ length dogs
few_lie places [] = omega arith
few_lie places (d ∷ ds) =
    few_step (lies_in places d) (lying_dogs places (d ∷ ds)) (lying_dogs places ds) (length ds)
    (lying_more places d ds (lies_in places d) refl) (few_lie places ds)
  where
    few_step : (lies : Bool) (all n many : ℕ) → all ≡ one lies + n → n ≤ many → all ≤ suc many
    few_step true all n many is h = omega (arith, is, h)
    few_step false all n many is h = omega (arith, is, h)

count_step : (left reached : Bool) (mid old new : ℕ) → mid ≤ 4 → old ≡ mid + one left → new ≡ mid + one reached
    → (if reached then one_more (if left then one_fewer old else old) else (if left then one_fewer old else old)) ≡ new
count_step true true mid old new few is now = omega (arith, few, is, now)
count_step true false mid old new few is now = omega (arith, few, is, now)
count_step false true mid old new few is now = omega (arith, few, is, now)
count_step false false mid old new few is now = omega (arith, few, is, now)

-- of a bridle, once the lever has left its end
abbrev left_count : List End → ℕ → Bridle → ℕ
left_count ends lever b =
    if uses_at lever (end_at ends lever) b then one_fewer (lying_dogs (at_ends ends) b.dogs)
    else lying_dogs (at_ends ends) b.dogs

-- the counts once the lever has left one end and reached another
pub counted_moved : (ends news : List End) (lever levers : ℕ) (e : End) (bridles : List Bridle)
    → All (BridleFits levers) bridles
    → ((n : ℕ) → IsLever levers n → stand_of ends lever (stand_at e) n ≡ at_ends news n)
    → counted one_more
    (counted one_fewer (lying_in_each (at_ends ends) bridles) (using 0 lever (end_at ends lever) bridles))
    (using 0 lever e bridles)
    ≡ lying_in_each (at_ends news) bridles
counted_moved ends news lever levers e bridles fits moved =
    ap (λ (l : List ℕ). counted one_more l (using 0 lever e bridles))
    (counted_from one_fewer lever (end_at ends lever) (λ b. lying_dogs (at_ends ends) b.dogs) [] bridles)
    ∙ (counted_from one_more lever e (left_count ends lever) [] bridles
    ∙ map_alike
    (λ b. if uses_at lever e b then one_more (left_count ends lever b) else left_count ends lever b)
    (λ b. lying_dogs (at_ends news) b.dogs) (BridleFits levers)
    (λ b own. let most = own.four in let lie = few_lie (stand_of ends lever AtMid) b.dogs in
    count_step (uses_at lever (end_at ends lever) b) (uses_at lever e b) (lying_dogs (stand_of ends lever AtMid) b.dogs)
    (lying_dogs (at_ends ends) b.dogs) (lying_dogs (at_ends news) b.dogs) (omega (arith, most, lie))
    (lying_now ends lever levers b own)
    (sym (lying_alike levers (stand_of ends lever (stand_at e)) (at_ends news) moved b.dogs own.dogs)
    ∙ lying_at_end ends lever e b.dogs own.differ)) bridles fits)
