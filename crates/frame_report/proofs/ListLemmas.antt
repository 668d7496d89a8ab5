-- Lists that are mapped, searched and filled element by element.
use Rattle.std.proofs.Common.{◌≡◌, ℕ, zero, suc, ◌<◌, ◌||◌, Bool, true, false, not, List, [], ◌∷◌, ◌++◌, All}
use Rattle.std.proofs.Common.{length, map, take, refl, ap, ◌∙◌, arith, get_or, cond}
use Rattle.std.specs.Prelude.{IsTrue, Option, Some, None}
use Rattle.std.specs.List.{find}
use Rattle.std.proofs.lemmas.List.Elements.{All-append, All-cons, All-head, All-nil, All-tail}

-- one element more, mapped
pub map_more : {A B : Type 0} (f : A → B) (xs : List A) (i : ℕ) (d : A) → i < length xs
    → map f (take (suc i) xs) ≡ map f (take i xs) ++ f (get_or xs i d) ∷ []
map_more f [] i d lt = absurd (omega (arith, lt))
map_more f (x ∷ xs) zero d lt = refl
map_more f (x ∷ xs) (suc i) d lt = ap (λ (ys : List _). f x ∷ ys) (map_more f xs i d (omega (arith, lt)))

-- what holds of all that are mapped holds of each
pub all_mapped : {A B : Type 0} (P : B → Type 0) (f : A → B) (xs : List A) (i : ℕ) (d : A) → i < length xs
    → All P (map f xs) → P (f (get_or xs i d))
all_mapped P f [] i d lt all = absurd (omega (arith, lt))
all_mapped P f (x ∷ xs) zero d lt all = All-head P (f x) (map f xs) all
all_mapped P f (x ∷ xs) (suc i) d lt all =
    all_mapped P f xs i d (omega (arith, lt)) (All-tail P (f x) (map f xs) all)

-- what holds of all holds with one more
pub all_push : {A : Type 0} (P : A → Type 0) (xs : List A) (x : A) → All P xs → P x → All P (xs ++ x ∷ [])
all_push P xs x all one = All-append P xs (x ∷ []) all (All-cons P x [] one (All-nil P))

passed : (b : Bool) (x : ℕ) (rest : Option ℕ) → cond b (Some x) rest ≡ None → (b ≡ false) × (rest ≡ None)
passed true x rest none = cc
passed false x rest none = (refl, none)

-- none is found among one more
pub find_none : (p : ℕ → Bool) (xs : List ℕ) (i d : ℕ) → i < length xs → find p (take i xs) ≡ None
    → p (get_or xs i d) ≡ false → find p (take (suc i) xs) ≡ None
find_none p [] i d lt none out = absurd (omega (arith, lt))
find_none p (x ∷ xs) zero d lt none out = ap (λ (b : Bool). cond b (Some x) None) out
find_none p (x ∷ xs) (suc i) d lt none out =
    let q = passed (p x) x (find p (take i xs)) none in
    ap (λ (b : Bool). cond b (Some x) (find p (take (suc i) xs))) q.0
    ∙ find_none p xs i d (omega (arith, lt)) q.1 out

-- the first is found
pub find_first : (p : ℕ → Bool) (xs : List ℕ) (i d : ℕ) → i < length xs → find p (take i xs) ≡ None
    → p (get_or xs i d) ≡ true → find p xs ≡ Some (get_or xs i d)
find_first p [] i d lt none in' = absurd (omega (arith, lt))
find_first p (x ∷ xs) zero d lt none in' = ap (λ (b : Bool). cond b (Some x) (find p xs)) in'
find_first p (x ∷ xs) (suc i) d lt none in' =
    let q = passed (p x) x (find p (take i xs)) none in
    ap (λ (b : Bool). cond b (Some x) (find p xs)) q.0 ∙ find_first p xs i d (omega (arith, lt)) q.1 in'

-- none is found among some and others where none is found among all
pub find_back : (p : ℕ → Bool) (xs ys : List ℕ) → find p xs ≡ None → find p (xs ++ ys) ≡ find p ys
find_back p [] ys none = refl
find_back p (x ∷ xs) ys none =
    let q = passed (p x) x (find p xs) none in
    ap (λ (b : Bool). cond b (Some x) (find p (xs ++ ys))) q.0 ∙ find_back p xs ys q.1

found : (b : Bool) (x y : ℕ) (one other : Option ℕ) → cond b (Some x) one ≡ Some y → (one ≡ Some y → other ≡ Some y)
    → cond b (Some x) other ≡ Some y
found true x y one other is more = is
found false x y one other is more = more is

-- what is found among some is found among them and others
pub find_front : (p : ℕ → Bool) (xs ys : List ℕ) (y : ℕ) → find p xs ≡ Some y → find p (xs ++ ys) ≡ Some y
find_front p [] ys y is = cc
find_front p (x ∷ xs) ys y is =
    found (p x) x y (find p xs) (find p (xs ++ ys)) is (λ more. find_front p xs ys y more)

-- ---- tests of two

pub neither : (a b : Bool) → (not a || not b) ≡ true → IsTrue a → IsTrue b → ⊥
neither true true h x y = let e : false ≡ true = h in cc
neither true false h x y = let e : false ≡ true = y in cc
neither false b h x y = let e : false ≡ true = x in cc

pub both_true : (a b : Bool) → (not a || not b) ≡ false → IsTrue a × IsTrue b
both_true true true h = (refl, refl)
both_true true false h = cc
both_true false b h = cc
