-- Words as they are printed, and the lines that they make.
use Rattle.std.proofs.Common.{◌≡◌, ℕ, ◌^◌, ◌<◌, ◌≤◌, Bool, true, false, not, eqb, ltb, leb, ◌&&◌, List, [], ◌∷◌, ◌++◌}
use Rattle.std.proofs.Common.{length, Ok, refl, arith, decimal}
use Rattle.std.specs.List.{list_all, list_any, join_with_byte}
use Rattle.std.specs.Str.{all_ascii_digits}
use Rattle.std.specs.Char.{is_ascii_digit}
use Rattle.std.proofs.lemmas.Bool.{le-ltb}
use Rattle.std.proofs.lemmas.Bool.Decides.{nat_tests}
use Rattle.std.proofs.lemmas.Fmt.{digits_decimal, length-decimal-le, decimal_nonempty}
use Rattle.rail_text.specs.Lines.{words_of, lacks, ended_line}
use Rattle.rail_text.specs.Forms.{is_printable, is_skipped, is_empty_word, is_word_byte, is_word, form_of}
use Rattle.rail_text.specs.Words.{is_name_byte, is_name, number_in}
use Rattle.rail_text.specs.declared.forms.LineForm.TheVariants as forms
use Rattle.rail_text.proofs.NumberLemmas.{own, number_of-decimal}
use Rattle.rail_text.proofs.PrintedLines.{both, not_true, words_of-joined}

-- where each byte of a text passes a test, it passes any weaker one
pub list_all-weaker : (p q : ℕ → Bool) → ((b : ℕ) → p b ≡ true → q b ≡ true) → (xs : List ℕ) → list_all p xs ≡ true
    → list_all q xs ≡ true
list_all-weaker p q w [] h = refl
list_all-weaker p q w (x ∷ xs) h = let e =
    both (p x) (list_all p xs) h in rw (w x e.0, list_all-weaker p q w xs e.1) refl

-- where all bytes of two texts pass a test, so do those of the two in a row
pub list_all-both : (p : ℕ → Bool) (xs ys : List ℕ) → list_all p xs ≡ true → list_all p ys ≡ true
    → list_all p (xs ++ ys) ≡ true
list_all-both p [] ys h k = k
list_all-both p (x ∷ xs) ys h k = let e = both (p x) (list_all p xs) h in rw (e.0, list_all-both p xs ys e.1 k) refl

words_weaker : (p q : List ℕ → Bool) → ((w : List ℕ) → p w ≡ true → q w ≡ true) → (ws : List (List ℕ))
    → list_all p ws ≡ true → list_all q ws ≡ true
words_weaker p q weaker [] h = refl
words_weaker p q weaker (w ∷ ws) h = let e =
    both (p w) (list_all p ws) h in rw (weaker w e.0, words_weaker p q weaker ws e.1) refl

-- ---- words

pub word_some : (word : List ℕ) → is_word word ≡ true → is_empty_word word ≡ false
word_some word h = not_true _ (both (not (is_empty_word word)) (list_all is_word_byte word) h).0

pub word_bytes : (word : List ℕ) → is_word word ≡ true → list_all is_word_byte word ≡ true
word_bytes word h = (both (not (is_empty_word word)) (list_all is_word_byte word) h).1

no_space : (b : ℕ) → is_word_byte b ≡ true → not (eqb b 32) ≡ true
no_space b h = grind (arith, nat_tests)

no_line_end : (b : ℕ) → is_word_byte b ≡ true → not (eqb b 10) ≡ true
no_line_end b h = grind (arith, nat_tests)

printable_byte : (b : ℕ) → is_word_byte b ≡ true → is_printable b ≡ true
printable_byte b h = grind (arith, nat_tests)

-- a word has no space in it
pub word_lacks_space : (word : List ℕ) → is_word word ≡ true → lacks 32 word ≡ true
word_lacks_space word h = list_all-weaker is_word_byte (λ b. not (eqb b 32)) no_space word (word_bytes word h)

-- a word has no line end in it
pub word_lacks_line_end : (word : List ℕ) → is_word word ≡ true → lacks 10 word ≡ true
word_lacks_line_end word h = list_all-weaker is_word_byte (λ b. not (eqb b 10)) no_line_end word (word_bytes word h)

pub word_printable : (word : List ℕ) → is_word word ≡ true → list_all is_printable word ≡ true
word_printable word h = list_all-weaker is_word_byte is_printable printable_byte word (word_bytes word h)

not_empty : (word : List ℕ) → 0 < length word → is_empty_word word ≡ false
not_empty [] h = absurd (omega arith)
not_empty (b ∷ bs) h = refl

digit_byte : (d : ℕ) → is_ascii_digit d ≡ true → is_word_byte d ≡ true
digit_byte d h = grind (arith, nat_tests)

digits_all : (ds : List ℕ) → all_ascii_digits ds ≡ true → list_all is_word_byte ds ≡ true
digits_all [] h = refl
digits_all (d ∷ ds) h = let e = both (is_ascii_digit d) (all_ascii_digits ds) h in let b : is_word_byte d ≡ true =
    digit_byte d e.0 in rw (b, digits_all ds e.1) refl

-- a printed number of up to ten digits is a word
pub decimal_is_word : (n : ℕ) → n < 10 ^ 10 → is_word (decimal n) ≡ true
decimal_is_word n small =
    let some : is_empty_word (decimal n) ≡ false = not_empty (decimal n) (decimal_nonempty n (omega arith)) in
    let bytes : list_all is_word_byte (decimal n) ≡ true =
    digits_all (decimal n) (digits_decimal own n (omega arith)) in
    rw (some, bytes) refl

-- a number below 10^10 is printed in at most ten bytes
pub length-decimal_word : (n : ℕ) → n < 10 ^ 10 → length (decimal n) ≤ 10
length-decimal_word n small = length-decimal-le 10 n (omega arith) small (omega arith)

name_byte_is : (b : ℕ) → is_name_byte b ≡ true → is_word_byte b ≡ true
name_byte_is b h = grind (arith, nat_tests)

name_some : (name : List ℕ) → is_name name ≡ true → is_empty_word name ≡ false
name_some [] h = absurd cc
name_some (b ∷ bs) h = refl

-- a name is a word
pub name_is_word : (name : List ℕ) → is_name name ≡ true → is_word name ≡ true
name_is_word name h =
    let bytes : list_all is_word_byte name ≡ true =
    list_all-weaker is_name_byte is_word_byte name_byte_is name (both _ _ h).1 in
    rw (name_some name h, bytes) refl

-- a name has at most 16 bytes
pub length-name : (name : List ℕ) → is_name name ≡ true → length name ≤ 16
length-name name h = let few = (both (leb (length name) 16) _ (both _ _ h).0).0 in grind (arith, nat_tests)

-- ---- lines of words

printable_joined : (words : List (List ℕ)) → list_all is_word words ≡ true
    → list_all is_printable (join_with_byte 32 words) ≡ true
printable_joined [] h = refl
printable_joined (word ∷ []) h = word_printable word (both (is_word word) true h).0
printable_joined (word ∷ next ∷ words) h =
    let p = both (is_word word) (list_all is_word (next ∷ words)) h in
    list_all-both is_printable word (32 ∷ join_with_byte 32 (next ∷ words)) (word_printable word p.0)
    (printable_joined (next ∷ words) p.1)

-- words with single spaces between them have no line end in them
pub joined_lacks_line_end : (words : List (List ℕ)) → list_all is_word words ≡ true
    → lacks 10 (join_with_byte 32 words) ≡ true
joined_lacks_line_end [] h = refl
joined_lacks_line_end (word ∷ []) h = word_lacks_line_end word (both (is_word word) true h).0
joined_lacks_line_end (word ∷ next ∷ words) h =
    let p = both (is_word word) (list_all is_word (next ∷ words)) h in
    list_all-both (λ b. not (eqb b 10)) word (32 ∷ join_with_byte 32 (next ∷ words)) (word_lacks_line_end word p.0)
    (joined_lacks_line_end (next ∷ words) p.1)

not_skipped : (word rest : List ℕ) → is_empty_word word ≡ false → is_skipped word ≡ false
    → is_skipped (word ++ rest) ≡ false
not_skipped [] rest h s = absurd cc
not_skipped (b ∷ bs) rest h s = s

skipped_joined : (word : List ℕ) (words : List (List ℕ)) → is_word word ≡ true → is_skipped word ≡ false
    → is_skipped (join_with_byte 32 (word ∷ words)) ≡ false
skipped_joined word [] h s = s
skipped_joined word (next ∷ words) h s = not_skipped word (32 ∷ join_with_byte 32 (next ∷ words)) (word_some word h) s

none_empty : (words : List (List ℕ)) → list_all is_word words ≡ true → list_any is_empty_word words ≡ false
none_empty [] h = refl
none_empty (word ∷ words) h = let p =
    both (is_word word) (list_all is_word words) h in rw (word_some word p.0, none_empty words p.1) refl

-- a printed line has its words
pub words_of-words : (word : List ℕ) (words : List (List ℕ)) → list_all is_word (word ∷ words) ≡ true
    → words_of (join_with_byte 32 (word ∷ words)) ≡ word ∷ words
words_of-words word words h =
    words_of-joined (word ∷ words) (omega arith) (words_weaker is_word (lacks 32) word_lacks_space (word ∷ words) h)

and_false : (b : Bool) → b && false ≡ false
and_false true = refl
and_false false = refl

-- a printed line of at most 200 bytes, which no # begins, is a line of words
pub form_of-words : (skips : Bool) (word : List ℕ) (words : List (List ℕ)) → list_all is_word (word ∷ words) ≡ true
    → is_skipped word ≡ false → length (join_with_byte 32 (word ∷ words)) ≤ 200
    → form_of skips (ended_line (join_with_byte 32 (word ∷ words))) ≡ Ok forms.Words
unfolding form_of
form_of-words skips word words h s few =
    let first = (both (is_word word) (list_all is_word words) h).0 in
    let good : list_all is_printable (join_with_byte 32 (word ∷ words)) ≡ true = printable_joined (word ∷ words) h in
    let short : ltb 200 (length (join_with_byte 32 (word ∷ words))) ≡ false = le-ltb _ _ few in
    let read : is_skipped (join_with_byte 32 (word ∷ words)) ≡ false = skipped_joined word words first s in
    let parts : words_of (join_with_byte 32 (word ∷ words)) ≡ word ∷ words = words_of-words word words h in
    let none : list_any is_empty_word (word ∷ words) ≡ false = none_empty (word ∷ words) h in
    rw (good, short, read, and_false skips, parts, none) refl

-- ---- numbers in a range

-- a number below 10^10 that lies in a range, as it is printed, is read in that range as itself
pub number_in-decimal : (low high n : ℕ) → low ≤ n → n ≤ high → n < 10 ^ 10 → number_in low high (decimal n) ≡ Ok n
number_in-decimal low high n l h small =
    let test : leb low n && leb n high ≡ true = grind (arith, nat_tests) in
    rw (number_of-decimal n small, test) refl

pub ruleset form_laws = (form_of-words, words_of-words)
