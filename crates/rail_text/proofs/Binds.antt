-- Facts that go through a reading step by step.
use Rattle.std.proofs.Common.{◌≡◌, ℕ, ◌≤◌, Bool, true, false, cond, leb, ◌&&◌, List, [], ◌∷◌, length, Option, Some}
use Rattle.std.proofs.Common.{None, Result, Ok, Err, refl, arith, ◌<◌, decimal}
use Rattle.std.proofs.lemmas.Bool.Decides.{nat_tests}
use Rattle.rail_text.specs.Number.{number_of}
use Rattle.rail_text.specs.Gives.{◌>>=◌}
use Rattle.rail_text.specs.Words.{keyword, one_word, no_word, within, number_in, is_name, name_in}
use Rattle.rail_text.proofs.NumberLemmas.{number_of-spelled}

-- a value, if one is read, meets P
abbrev pub OfOk : {A E : Type 0} → (A → Type 0) → Result A E → Type 0
OfOk P (Ok x) = P x
OfOk P (Err e) = Unit {0}

-- where what is read first meets Q, and what is read from any such value meets P, what the two steps give meets P
pub bind_keeps : {A B E : Type 0} (Q : A → Type 0) (P : B → Type 0) (r : Result A E) (f : A → Result B E) → OfOk Q r
    → ((x : A) → Q x → OfOk P (f x)) → OfOk P (r >>= f)
bind_keeps Q P (Ok x) f q h = h x q
bind_keeps Q P (Err e) f q h = tt

-- where what is read second meets P, whatever was read first, so does what the two steps give
pub bind_any : {A B E : Type 0} (P : B → Type 0) (r : Result A E) (f : A → Result B E) → ((x : A) → OfOk P (f x))
    → OfOk P (r >>= f)
bind_any P (Ok x) f h = h x
bind_any P (Err e) f h = tt

-- where what is read on either side of a test meets P, so does what the test chooses
pub if_keeps : {A E : Type 0} (P : A → Type 0) (b : Bool) (x y : Result A E) → (b ≡ true → OfOk P x)
    → (b ≡ false → OfOk P y) → OfOk P (cond b x y)
if_keeps P true x y h k = h refl
if_keeps P false x y h k = k refl

-- ---- what the readers of words give

-- a line that is found to have one word behind its keyword is the keyword and that word
pub one_word_is : (words : List (List ℕ)) → OfOk (λ word. words ≡ keyword words ∷ word ∷ []) (one_word words)
one_word_is [] = tt
one_word_is (a ∷ []) = tt
one_word_is (a ∷ b ∷ []) = refl
one_word_is (a ∷ b ∷ c ∷ words) = tt

-- a line that is found to have no word behind its keyword is the keyword alone
pub no_word_is : (words : List (List ℕ)) → 0 < length words → OfOk (λ _. words ≡ keyword words ∷ []) (no_word words)
no_word_is [] h = absurd (omega arith)
no_word_is (a ∷ []) h = refl
no_word_is (a ∷ b ∷ words) h = tt

-- the word is how n is printed, and n lies from low to high
abbrev pub InRange : ℕ → ℕ → List ℕ → ℕ → Type 0
InRange low high word n = (word ≡ decimal n) × (low ≤ n) × (n ≤ high)

within_is : (low high : ℕ) (word : List ℕ) (o : Option ℕ) → number_of word ≡ o
    → OfOk (InRange low high word) (within low high o)
within_is low high word None e = tt
within_is low high word (Some n) e =
    if_keeps (InRange low high word) (leb low n && leb n high) _ _
    (λ t. ((number_of-spelled word n e).0, grind (arith, nat_tests), grind (arith, nat_tests))) (λ _. tt)

-- a number that is read in a range lies in it, and its word is how it is printed
pub number_in_is : (low high : ℕ) (word : List ℕ) → OfOk (InRange low high word) (number_in low high word)
number_in_is low high word = within_is low high word (number_of word) refl

-- a name that is read is the word itself, and is a name
pub name_in_is : (word : List ℕ) → OfOk (λ name. (word ≡ name) × (is_name name ≡ true)) (name_in word)
name_in_is word = if_keeps (λ name. (word ≡ name) × (is_name name ≡ true)) (is_name word) _ _ (λ e. (refl, e)) (λ _. tt)
