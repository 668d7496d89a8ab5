-- Moments are read as they are printed, and each has one spelling.
use Rattle.std.proofs.Common.{◌≡◌, ℕ, ◌+◌, ◌-◌, ◌*◌, ◌/◌, ◌%◌, ◌<◌, ◌≤◌, Bool, true, false, cond, eqb, ltb, ◌&&◌, List}
use Rattle.std.proofs.Common.{[], ◌∷◌, ◌++◌, length, get_or, Option, Some, None, IfSome, refl, sym, ap, ◌∙◌, arith}
use Rattle.std.specs.List.{list_all}
use Rattle.std.proofs.lemmas.Bool.Decides.{nat_tests}
use Rattle.rail_text.specs.Forms.{is_word_byte, is_word, is_skipped}
use Rattle.rail_text.proofs.PrintedLines.{both}
use Rattle.line_law.specs.Known.{moments_of}
use Rattle.script_text.specs.Moments.{is_digit, two_digits, clock, clock_of, with_seconds, long_clock, time_of}
use Rattle.script_text.specs.Moments.{moment_of, ready_of, ready_moments, two_text, clock_text, moment_text}
use Rattle.script_text.specs.Moments.{hundred_hours}

-- ---- two digits

-- the number of two digits, if they are digits
abbrev digits_of : ℕ → ℕ → Option ℕ
digits_of tens ones = cond (is_digit tens && is_digit ones) (Some (10 * (tens - 48) + (ones - 48))) None

digits_read : (n : ℕ) → n < 100 → digits_of (48 + n / 10) (48 + n % 10) ≡ Some n
digits_read n h =
    let tens : n / 10 < 10 = omega arith in
    let ones : n % 10 < 10 = omega arith in
    let test : is_digit (48 + n / 10) && is_digit (48 + n % 10) ≡ true = grind (arith, nat_tests) in
    let value : 10 * ((48 + n / 10) - 48) + ((48 + n % 10) - 48) ≡ n = omega arith in
    rw (test, value) refl

record AreDigits (tens ones n : ℕ) : Type 0 where
  tens_is : tens ≡ 48 + n / 10
  ones_is : ones ≡ 48 + n % 10
  small : n < 100

chosen_some : (b : Bool) (m n : ℕ) → cond b (Some m) None ≡ Some n → (b ≡ true) × (m ≡ n)
chosen_some true m n e = (refl, cc)
chosen_some false m n e = absurd cc

digits_are : (tens ones n : ℕ) → digits_of tens ones ≡ Some n → AreDigits tens ones n
digits_are tens ones n e =
    let c = chosen_some (is_digit tens && is_digit ones) (10 * (tens - 48) + (ones - 48)) n e in
    let d = both (is_digit tens) (is_digit ones) c.0 in
    let t : (48 ≤ tens) × (tens ≤ 57) = grind (arith, nat_tests, d.0) in
    let o : (48 ≤ ones) × (ones ≤ 57) = grind (arith, nat_tests, d.1) in
    record { tens_is = omega (arith, t, o, c.1); ones_is = omega (arith, t, o, c.1); small = omega (arith, t, o, c.1) }

-- ---- hours and minutes

clock_read : (limit m : ℕ) → limit ≤ 100 → m < 60 * limit
    → clock limit true (digits_of (48 + m / 60 / 10) (48 + m / 60 % 10))
    (digits_of (48 + m % 60 / 10) (48 + m % 60 % 10)) ≡ Some m
clock_read limit m few h =
    let hours : m / 60 < limit = omega arith in
    let minutes : m % 60 < 60 = omega arith in
    let test : ltb (m / 60) limit && ltb (m % 60) 60 ≡ true = grind (arith, nat_tests) in
    let value : 60 * (m / 60) + m % 60 ≡ m = omega arith in
    rw (digits_read (m / 60) (omega arith), digits_read (m % 60) (omega arith), test, value) refl

record IsClock (limit : ℕ) (colon : Bool) (o p : Option ℕ) (m : ℕ) : Type 0 where
  split : colon ≡ true
  hours : o ≡ Some (m / 60)
  minutes : p ≡ Some (m % 60)
  early : m < 60 * limit

clock_is : (limit : ℕ) (colon : Bool) (o p : Option ℕ) (m : ℕ) → clock limit colon o p ≡ Some m
    → IsClock limit colon o p m
clock_is limit colon None p m e = absurd cc
clock_is limit colon (Some h) None m e = absurd cc
clock_is limit colon (Some h) (Some n) m e =
    let c = chosen_some (colon && ltb h limit && ltb n 60) (60 * h + n) m e in
    let first = both (colon && ltb h limit) (ltb n 60) c.0 in
    let second = both colon (ltb h limit) first.0 in
    let hours : h < limit = grind (arith, nat_tests, second.1) in
    let minutes : n < 60 = grind (arith, nat_tests, first.1) in
    let hour : h ≡ m / 60 = omega (arith, c.1) in
    let minute : n ≡ m % 60 = omega (arith, c.1) in
    record {
      split = second.0;
      hours = ap (λ (x : ℕ). Some x) hour;
      minutes = ap (λ (x : ℕ). Some x) minute;
      early =
          omega (arith, c.1);
    }

is_colon : (c : ℕ) → eqb c 58 ≡ true → c ≡ 58
is_colon c e = grind (arith, nat_tests)

clock_spelled : (limit a b c d e m : ℕ) → clock limit (eqb c 58) (digits_of a b) (digits_of d e) ≡ Some m
    → (a ∷ b ∷ c ∷ d ∷ e ∷ [] ≡ clock_text m) × (m < 60 * limit)
clock_spelled limit a b c d e m h =
    let k = clock_is limit (eqb c 58) (digits_of a b) (digits_of d e) m h in
    let x = digits_are a b (m / 60) k.hours in
    let y = digits_are d e (m % 60) k.minutes in
    (rw (x.tens_is, x.ones_is, is_colon c k.split, y.tens_is, y.ones_is) refl, k.early)

-- ---- both forms

five : (word : List ℕ) → length word ≡ 5
    → word ≡ get_or word 0 0 ∷ get_or word 1 0 ∷ get_or word 2 0 ∷ get_or word 3 0 ∷ get_or word 4 0 ∷ []
five [] h = absurd (omega arith)
five (a ∷ []) h = absurd (omega arith)
five (a ∷ b ∷ []) h = absurd (omega arith)
five (a ∷ b ∷ c ∷ []) h = absurd (omega arith)
five (a ∷ b ∷ c ∷ d ∷ []) h = absurd (omega arith)
five (a ∷ b ∷ c ∷ d ∷ e ∷ []) h = refl
five (a ∷ b ∷ c ∷ d ∷ e ∷ f ∷ word) h = absurd (omega arith)

onto_same : (a : ℕ) (xs ys : List ℕ) → xs ≡ ys → a ∷ xs ≡ a ∷ ys
onto_same a xs ys e = ap (λ (zs : List ℕ). a ∷ zs) e

eight : (word : List ℕ) → length word ≡ 8
    → word ≡ get_or word 0 0 ∷ get_or word 1 0 ∷ get_or word 2 0 ∷ get_or word 3 0 ∷ get_or word 4 0 ∷ get_or word 5 0
    ∷ get_or word 6 0 ∷ get_or word 7 0 ∷ []
eight [] h = absurd (omega arith)
eight (a ∷ []) h = absurd (omega arith)
eight (a ∷ b ∷ []) h = absurd (omega arith)
eight (a ∷ b ∷ c ∷ word) h = onto_same a _ _ (onto_same b _ _ (onto_same c _ _ (five word (omega arith))))

abbrev short_clock : ℕ → List ℕ → Option ℕ
short_clock limit word = cond (eqb (length word) 5) (clock_of limit word) None

chosen_of : {A : Type 0} (b : Bool) (o : Option A) (x : A) → cond b o None ≡ Some x → (b ≡ true) × (o ≡ Some x)
chosen_of true o x e = (refl, e)
chosen_of false o x e = absurd cc

short_spelled : (limit : ℕ) (word : List ℕ) (m : ℕ) → short_clock limit word ≡ Some m
    → (word ≡ clock_text m) × (m < 60 * limit)
short_spelled limit word m e =
    let c = chosen_of (eqb (length word) 5) (clock_of limit word) m e in
    let few : length word ≡ 5 = grind (arith, nat_tests, c.0) in
    let s = clock_spelled limit (get_or word 0 0) (get_or word 1 0) (get_or word 2 0) (get_or word 3 0)
    (get_or word 4 0) m c.1 in
    (five word few ∙ s.0, s.1)

abbrev long_text : ℕ → List ℕ
long_text moment = clock_text (moment / 60) ++ 58 ∷ two_text (moment % 60)

record AreSeconds (o p : Option ℕ) (m : ℕ) : Type 0 where
  minutes : o ≡ Some (m / 60)
  seconds : p ≡ Some (m % 60)

seconds_are : (o p : Option ℕ) (m : ℕ) → with_seconds o p ≡ Some m → AreSeconds o p m
seconds_are None p m e = absurd cc
seconds_are (Some n) None m e = absurd cc
seconds_are (Some n) (Some s) m e =
    let c = chosen_some (ltb s 60) (60 * n + s) m e in
    let few : s < 60 = grind (arith, nat_tests, c.0) in
    let minute : n ≡ m / 60 = omega (arith, c.1) in
    let second : s ≡ m % 60 = omega (arith, c.1) in
    record { minutes = ap (λ (x : ℕ). Some x) minute; seconds = ap (λ (x : ℕ). Some x) second }

long_spelled : (limit : ℕ) (word : List ℕ) (m : ℕ) → long_clock limit word ≡ Some m
    → (word ≡ long_text m) × (m < 3600 * limit)
long_spelled limit word m e =
    let c = chosen_of (eqb (length word) 8 && eqb (get_or word 5 0) 58)
    (with_seconds (clock_of limit word) (two_digits word 6)) m e in
    let t = both (eqb (length word) 8) (eqb (get_or word 5 0) 58) c.0 in
    let few : length word ≡ 8 = grind (arith, nat_tests, t.0) in
    let s = seconds_are (clock_of limit word) (two_digits word 6) m c.1 in
    let clocked =
    clock_spelled limit (get_or word 0 0) (get_or word 1 0) (get_or word 2 0) (get_or word 3 0) (get_or word 4 0)
    (m / 60) s.minutes in
    let last = digits_are (get_or word 6 0) (get_or word 7 0) (m % 60) s.seconds in
    let tail : get_or word 5 0 ∷ get_or word 6 0 ∷ get_or word 7 0 ∷ [] ≡ 58 ∷ two_text (m % 60) =
    rw (is_colon (get_or word 5 0) t.1, last.tens_is, last.ones_is) refl in (
      eight word few
          ∙ ap (λ (front : List ℕ). front ++ get_or word 5 0 ∷ get_or word 6 0 ∷ get_or word 7 0 ∷ []) clocked.0
          ∙ ap (λ (back : List ℕ). clock_text (m / 60) ++ back) tail,
      omega (arith, clocked.1),
    )

-- ---- the laws

-- how many moments lie before the limit
abbrev times_of : ℕ → ℕ → ℕ
times_of limit version = cond (eqb version 1) (60 * limit) (3600 * limit)

-- a time before the limit is read as it is printed
printed_time : (limit version m : ℕ) → limit ≤ 100 → m < times_of limit version
    → time_of limit version (moment_text version m) ≡ Some m
printed_time limit version m few h = go (eqb version 1) m h where
  long : (m : ℕ) → m < 3600 * limit
      → with_seconds
      (clock limit true (digits_of (48 + m / 60 / 60 / 10) (48 + m / 60 / 60 % 10))
      (digits_of (48 + m / 60 % 60 / 10) (48 + m / 60 % 60 % 10))) (digits_of (48 + m % 60 / 10) (48 + m % 60 % 10))
      ≡ Some m
  long m h =
      let seconds : m % 60 < 60 = omega arith in
      let test : ltb (m % 60) 60 ≡ true = grind (arith, nat_tests) in
      let value : 60 * (m / 60) + m % 60 ≡ m = omega arith in
      rw (clock_read limit (m / 60) few (omega arith), digits_read (m % 60) (omega arith), test, value) refl

  go : (first : Bool) (m : ℕ) → m < cond first (60 * limit) (3600 * limit)
      → cond first (short_clock limit (cond first (clock_text m) (long_text m)))
      (long_clock limit (cond first (clock_text m) (long_text m))) ≡ Some m
  go true m h = clock_read limit m few h
  go false m h = long m h

-- a word that is read as a time is how that time before the limit is printed
spelled_time : (limit version : ℕ) (word : List ℕ) (m : ℕ) → time_of limit version word ≡ Some m
    → (word ≡ moment_text version m) × (m < times_of limit version)
spelled_time limit version word m e = go (eqb version 1) e where
  go : (first : Bool) → cond first (short_clock limit word) (long_clock limit word) ≡ Some m
      → (word ≡ cond first (clock_text m) (long_text m)) × (m < cond first (60 * limit) (3600 * limit))
  go true e = short_spelled limit word m e
  go false e = long_spelled limit word m e

-- a moment of a day is read as it is printed
pub printed_moment : (version m : ℕ) → m < moments_of version → moment_of version (moment_text version m) ≡ Some m
printed_moment version m h = printed_time 24 version m (omega arith) h

-- a word that is read as a moment is how that moment of a day is printed
pub spelled_moment : (version : ℕ) (word : List ℕ) (m : ℕ) → moment_of version word ≡ Some m
    → (word ≡ moment_text version m) × (m < moments_of version)
spelled_moment version word m e = spelled_time 24 version word m e

-- what is read is a moment of a day
pub moment_day : (version : ℕ) (word : List ℕ) (o : Option ℕ) → o ≡ moment_of version word
    → IfSome o (λ moment. moment < moments_of version)
moment_day version word None e = tt
moment_day version word (Some m) e = (spelled_moment version word m (sym e)).1

-- so is a ready moment
pub printed_ready : (version m : ℕ) → m < ready_moments version → ready_of version (moment_text version m) ≡ Some m
printed_ready version m h = printed_time 25 version m (omega arith) h

-- a word that is read as a ready moment is that moment as it is printed
pub spelled_ready : (version : ℕ) (word : List ℕ) (m : ℕ) → ready_of version word ≡ Some m
    → word ≡ moment_text version m
spelled_ready version word m e = (spelled_time 25 version word m e).0

-- ---- a moment's text as a word

digit_byte : (n : ℕ) → n < 10 → is_word_byte (48 + n) ≡ true
digit_byte n h = grind (arith, nat_tests)

two_bytes : (n : ℕ) (rest : List ℕ) → n < 100 → list_all is_word_byte rest ≡ true
    → list_all is_word_byte (two_text n ++ rest) ≡ true
two_bytes n rest h all = rw (digit_byte (n / 10) (omega arith), digit_byte (n % 10) (omega arith), all) refl

clock_bytes : (m : ℕ) (rest : List ℕ) → m < 6000 → list_all is_word_byte rest ≡ true
    → list_all is_word_byte (clock_text m ++ rest) ≡ true
clock_bytes m rest h all =
    two_bytes (m / 60) (58 ∷ two_text (m % 60) ++ rest) (omega arith) (two_bytes (m % 60) rest (omega arith) all)

no_comment : (n : ℕ) → eqb (48 + n) 35 ≡ false
no_comment n = grind (arith, nat_tests)

-- the text of a moment is a word of five or eight bytes, which doesn't begin a comment
pub record IsMomentText (text : List ℕ) : Type 0 where
  pub word : is_word text ≡ true
  pub counts : is_skipped text ≡ false
  pub some : 5 ≤ length text
  pub few : length text ≤ 8

-- a printed moment is a word of five to eight bytes, and begins no line that is skipped
pub moment_is_word : (version m : ℕ) → m < hundred_hours version → IsMomentText (moment_text version m)
moment_is_word version m h = go (eqb version 1) h where
  go : (first : Bool) → m < cond first 6000 360000 → IsMomentText (cond first (clock_text m) (long_text m))
  go true h =
      record {
        word = clock_bytes m [] h refl;
        counts = no_comment (m / 60 / 10);
        some = omega arith;
        few =
            omega arith;
      }
  go false h =
      record {
        word =
            clock_bytes (m / 60) (58 ∷ two_text (m % 60)) (omega arith) (two_bytes (m % 60) [] (omega arith) refl);
        counts =
            no_comment (m / 60 / 60 / 10);
        some = omega arith;
        few = omega arith;
      }

-- the moments of a day are printed with two digits for the hours
pub day_is_short : (version m : ℕ) → m < moments_of version → m < hundred_hours version
day_is_short version m h = go (eqb version 1) h where
  go : (first : Bool) → m < cond first 1440 86400 → m < cond first 6000 360000
  go true h = omega arith
  go false h = omega arith

-- and so are the ready moments
pub ready_is_short : (version m : ℕ) → m < ready_moments version → m < hundred_hours version
ready_is_short version m h = go (eqb version 1) h where
  go : (first : Bool) → m < cond first 1500 90000 → m < cond first 6000 360000
  go true h = omega arith
  go false h = omega arith

-- of every moment of a day
pub ruleset moment_rules = (printed_moment, spelled_moment)
