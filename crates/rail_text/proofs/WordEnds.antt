-- Words by where they end.
use Rattle.std.proofs.Common.{◌≡◌, ℕ, zero, suc, ◌+◌, ◌-◌, ◌<◌, ◌≤◌, Bool, true, false, eqb, List, [], ◌∷◌}
use Rattle.std.proofs.Common.{length}
use Rattle.std.proofs.Common.{take, drop, slice_get, Some, None, refl, sym, ap, ◌∙◌, arith}
use Rattle.std.proofs.Common.{get_or, position, not, ltb, ◌||◌, ◌⊎◌, inl, inr, ◌≢◌}
use Rattle.std.proofs.lemmas.List.{drop_more, drop-take, get_or-drop, length-drop, length-take-le, take_rest}
use Rattle.std.proofs.lemmas.Option.{get_or_from_slice_get, slice_get-get_or, slice_get_past, slice_get_within}
use Rattle.std.proofs.Math.ListN.{drop_of_length-le}
use Rattle.std.proofs.Math.Seq.{take-length}
use Rattle.std.proofs.lemmas.Bool.Decides.{eqb_tells}
use Rattle.std.proofs.lemmas.Bool.{eq-eqb, le-ltb, lt-ltb}
use Rattle.std.proofs.lemmas.List.Sums.{prefix_len-drop_all, prefix_len-drop_no, prefix_len-drop_yes}
use Rattle.std.specs.List.{join_with_byte, prefix_len}
use Rattle.rail_text.specs.Cutting.{IsCutTo, gap}
use Rattle.rail_text.specs.Lines.{words_of, onto_word}
use Rattle.rail_text.specs.LineWords.{word_end, word_start}
use Rattle.rail_text.proofs.PrintedLines.{joined-words_of, some_words}

take_none : {X : Type 0} (n : ℕ) → take {A = X} n [] ≡ []
take_none zero = refl
take_none (suc n) = refl

eqb-no : (a b : ℕ) → (a ≡ b → ⊥) → eqb a b ≡ false
eqb-no a b h = go (eqb_tells a b) where
  go : ((eqb a b ≡ true) × (a ≡ b)) ⊎ ((eqb a b ≡ false) × (a ≢ b)) → eqb a b ≡ false
  go (inl p) = absurd (h p.1)
  go (inr p) = p.0

-- ---- a byte in front of a text

space_ends : (b : ℕ) (bs : List ℕ) (k : ℕ) → eqb b 32 ≡ true → word_end (b ∷ bs) (suc k) ≡ suc (word_end bs k)
space_ends b bs k e = rw e refl

other_ends : (b : ℕ) (bs : List ℕ) (k : ℕ) → eqb b 32 ≡ false → word_end (b ∷ bs) k ≡ suc (word_end bs k)
other_ends b bs zero e = rw e refl
other_ends b bs (suc k) e = rw e refl

pub end_within : (text : List ℕ) (i : ℕ) → word_end text i ≤ length text
end_within [] i = omega arith
end_within (b ∷ bs) i = go (eqb b 32) i refl (λ k. end_within bs k) where
  go : (t : Bool) (i : ℕ) → eqb b 32 ≡ t → ((k : ℕ) → word_end bs k ≤ length bs) → word_end (b ∷ bs) i ≤ length (b ∷ bs)
  go true zero e ih = rw e (omega arith)
  go true (suc k) e ih = omega (arith, space_ends b bs k e, ih k)
  go false k e ih = omega (arith, other_ends b bs k e, ih k)

-- ---- the words up to one

onto_take : (b i : ℕ) (words : List (List ℕ)) → onto_word b (take (suc i) words) ≡ take (suc i) (onto_word b words)
onto_take b i [] = ap (λ (ws : List (List ℕ)). (b ∷ []) ∷ ws) (sym (take_none i))
onto_take b i (word ∷ words) = refl

front : (text : List ℕ) (i : ℕ) → words_of (take (word_end text i) text) ≡ take (suc i) (words_of text)
front [] i = ap (λ (ws : List (List ℕ)). [] ∷ ws) (sym (take_none i))
front (b ∷ bs) i = go (eqb b 32) i refl (λ k. front bs k) where
  go : (t : Bool) (i : ℕ) → eqb b 32 ≡ t → ((k : ℕ) → words_of (take (word_end bs k) bs) ≡ take (suc k) (words_of bs))
      → words_of (take (word_end (b ∷ bs) i) (b ∷ bs)) ≡ take (suc i) (words_of (b ∷ bs))
  go true zero e ih = rw e refl
  go true (suc k) e ih = rw (space_ends b bs k e, e) (ap (λ (ws : List (List ℕ)). [] ∷ ws) (ih k))
  go false k e ih = rw (other_ends b bs k e, e) (ap (onto_word b) (ih k) ∙ onto_take b k (words_of bs))

-- ---- the words from one up to another

pub record IsSpan (text : List ℕ) (first last : ℕ) : Type 0 where
  pub order : word_start text first ≤ word_end text last
  pub words : words_of (take (word_end text last - word_start text first) (drop (word_start text first) text))
      ≡ take (suc last - first) (drop first (words_of text))

-- behind a word, and the space after it
start_past : (b : ℕ) (bs : List ℕ) (i : ℕ) → eqb b 32 ≡ true → word_start (b ∷ bs) (suc i) ≡ suc (word_start bs i)
start_past b bs zero e = rw e refl
start_past b bs (suc i) e = rw e refl

drop_onto : (b i : ℕ) (words : List (List ℕ)) → drop (suc i) (onto_word b words) ≡ drop (suc i) words
drop_onto b i [] = drop_none i where
  drop_none : (n : ℕ) → drop {A = List ℕ} n [] ≡ []
  drop_none zero = refl
  drop_none (suc n) = refl
drop_onto b i (word ∷ words) = refl

length_onto : (b : ℕ) (words : List (List ℕ)) → 0 < length words → length (onto_word b words) ≡ length words
length_onto b [] some = absurd (omega arith)
length_onto b (word ∷ words) some = refl

less : (m n : ℕ) → suc m - suc n ≡ m - n
less m n = omega arith

space_span : (b : ℕ) (bs : List ℕ) (i j : ℕ) → eqb b 32 ≡ true → IsSpan bs i j → IsSpan (b ∷ bs) (suc i) (suc j)
space_span b bs i j e h = record {
  order = omega (arith, start_past b bs i e, space_ends b bs j e, h.order);
  words = rw (start_past b bs i e, space_ends b bs j e, e, less (word_end bs j) (word_start bs i), less (suc j) i)
      h.words;
}

other_span : (b : ℕ) (bs : List ℕ) (i j : ℕ) → eqb b 32 ≡ false → IsSpan bs (suc i) j → IsSpan (b ∷ bs) (suc i) j
other_span b bs i j e h =
    let start : word_start (b ∷ bs) (suc i) ≡ suc (word_start bs (suc i)) = ap suc (other_ends b bs i e) in
    record {
      order = omega (arith, start, other_ends b bs j e, h.order);
      words = rw (other_ends b bs i e, other_ends b bs j e, e, less (word_end bs j) (suc (word_end bs i)))
          (h.words ∙ ap (take (suc j - suc i)) (sym (drop_onto b i (words_of bs))));
    }

is_span : (text : List ℕ) (i j : ℕ) → i ≤ j → j < length (words_of text) → IsSpan text i j
is_span text zero j le lt =
    let m : word_end text j - 0 ≡ word_end text j = omega arith in
    let n : suc j - 0 ≡ suc j = omega arith in
    record { order = omega arith; words = rw (m, n) (front text j) }
is_span text (suc i) zero le lt = absurd (omega arith)
is_span [] (suc i) (suc j) le lt = absurd (omega arith)
is_span (b ∷ bs) (suc i) (suc j) le lt = go (λ m n. is_span bs m n) (eqb b 32) refl where
  go : ((m n : ℕ) → m ≤ n → n < length (words_of bs) → IsSpan bs m n) → (t : Bool) → eqb b 32 ≡ t
      → IsSpan (b ∷ bs) (suc i) (suc j)
  go ih true e =
      let n : length (words_of (b ∷ bs)) ≡ suc (length (words_of bs)) = rw e refl in
      space_span b bs i j e (ih i j (omega (arith, le)) (omega (arith, lt, n)))
  go ih false e =
      let n : length (words_of (b ∷ bs)) ≡ length (words_of bs) = rw e (length_onto b (words_of bs) (some_words bs)) in
      other_span b bs i (suc j) e (ih (suc i) (suc j) le (omega (arith, lt, n)))

pub span_order : (text : List ℕ) (i j : ℕ) → i ≤ j → j < length (words_of text) → word_start text i ≤ word_end text j
span_order text i j le lt = (is_span text i j le lt).order

pub span_words : (text : List ℕ) (i j : ℕ) → i ≤ j → j < length (words_of text)
    → words_of (take (word_end text j - word_start text i) (drop (word_start text i) text))
    ≡ take (j + 1 - i) (drop i (words_of text))
span_words text i j le lt =
    let n : suc j - i ≡ j + 1 - i = omega arith in
    (is_span text i j le lt).words ∙ ap (λ (k : ℕ). take k (drop i (words_of text))) n

pub ruleset span_rules = (span_order, span_words, end_within)

-- ---- byte by byte

-- up to the start of a text stands no space
pub cut_start : (text : List ℕ) → IsCutTo text 0 0
cut_start text = record {
  low = omega arith;
  ends = λ k.
      let n : 0 + k ≡ k = omega arith in
      let f : word_end text (0 + k) ≡ word_end text k = ap (word_end text) n in
      omega (arith, f);
  words = omega arith;
}

-- up to behind a space stands one space more than before it
pub cut_space : (text : List ℕ) (at spaces : ℕ) → at < length text → get_or text at 0 ≡ 32 → IsCutTo text at spaces
    → IsCutTo text (at + 1) (spaces + 1)
cut_space text at spaces lt is h =
    let e : drop at text ≡ 32 ∷ drop (at + 1) text =
    drop_more text at 0 lt ∙ ap (λ (b : ℕ). b ∷ drop (at + 1) text) is in
    record {
      low = omega (arith, h.low);
      ends = λ k.
          let n : spaces + suc k ≡ spaces + 1 + k = omega arith in
          let f : word_end text (spaces + 1 + k) ≡ suc (word_end (drop (at + 1) text) k) + at =
          ap (word_end text) (sym n) ∙ h.ends (suc k) ∙ ap (λ (bs : List ℕ). word_end bs (suc k) + at) e in
          omega (arith, f);
      words =
          let f : length (words_of (drop at text)) ≡ suc (length (words_of (drop (at + 1) text))) =
          ap (λ (bs : List ℕ). length (words_of bs)) e in
          omega (arith, f, h.words);
    }

-- up to behind a byte that is no space stand as many spaces as before it
pub cut_other : (text : List ℕ) (at spaces : ℕ) → at < length text → (get_or text at 0 ≡ 32 → ⊥)
    → IsCutTo text at spaces → IsCutTo text (at + 1) spaces
cut_other text at spaces lt other h =
    let e : drop at text ≡ get_or text at 0 ∷ drop (at + 1) text = drop_more text at 0 lt in
    let no : eqb (get_or text at 0) 32 ≡ false = eqb-no (get_or text at 0) 32 other in
    record {
      low = omega (arith, h.low);
      ends = λ k.
          let f : word_end text (spaces + k) ≡ suc (word_end (drop (at + 1) text) k) + at =
          h.ends k ∙ ap (λ (bs : List ℕ). word_end bs k + at) e
          ∙ ap (λ (n : ℕ). n + at) (other_ends (get_or text at 0) (drop (at + 1) text) k no) in
          omega (arith, f);
      words =
          let f : words_of (get_or text at 0 ∷ drop (at + 1) text)
          ≡ onto_word (get_or text at 0) (words_of (drop (at + 1) text)) = rw no refl in
          let n : length (words_of (drop at text)) ≡ length (words_of (drop (at + 1) text)) =
          ap (λ (bs : List ℕ). length (words_of bs)) e ∙ ap length f
          ∙ length_onto (get_or text at 0) (words_of (drop (at + 1) text)) (some_words (drop (at + 1) text)) in
          omega (arith, n, h.words);
    }

-- a space that stands behind so many others ends the word of that number
pub ends_here : (text : List ℕ) (at spaces : ℕ) → at < length text → get_or text at 0 ≡ 32 → IsCutTo text at spaces
    → word_end text spaces ≡ at
ends_here text at spaces lt is h =
    let e : drop at text ≡ 32 ∷ drop (at + 1) text =
    drop_more text at 0 lt ∙ ap (λ (b : ℕ). b ∷ drop (at + 1) text) is in
    let n : spaces + 0 ≡ spaces = omega arith in
    let f : word_end text spaces ≡ 0 + at =
    ap (word_end text) (sym n) ∙ h.ends 0 ∙ ap (λ (bs : List ℕ). word_end bs 0 + at) e in
    omega (arith, f)

-- at the end of a text, behind so many spaces, ends the word of that number
pub ends_last : (text : List ℕ) (at spaces : ℕ) → length text ≤ at → at ≤ length text → IsCutTo text at spaces
    → word_end text spaces ≡ length text
ends_last text at spaces ge le h =
    let e : drop at text ≡ [] = drop_of_length-le text ge in
    let n : spaces + 0 ≡ spaces = omega arith in
    let f : word_end text spaces ≡ 0 + at =
    ap (word_end text) (sym n) ∙ h.ends 0 ∙ ap (λ (bs : List ℕ). word_end bs 0 + at) e in
    omega (arith, f, ge, le)

pub words_last : (text : List ℕ) (at spaces : ℕ) → length text ≤ at → IsCutTo text at spaces
    → spaces + 1 ≡ length (words_of text)
words_last text at spaces ge h =
    let f : length (words_of (drop at text)) ≡ 1 =
    ap (λ (bs : List ℕ). length (words_of bs)) (drop_of_length-le text ge) in
    omega (arith, f, h.words)

-- a word that was sought and not met is the last one, or none
pub ends_never : (text : List ℕ) (at spaces word : ℕ) → length text ≤ at → at ≤ length text → spaces ≤ word
    → IsCutTo text at spaces → length text ≡ word_end text word
ends_never text at spaces word ge le low h =
    let e : drop at text ≡ [] = drop_of_length-le text ge in
    let n : spaces + (word - spaces) ≡ word = omega (arith, low) in
    let f : word_end text word ≡ 0 + at =
    ap (word_end text) (sym n) ∙ h.ends (word - spaces) ∙ ap (λ (bs : List ℕ). word_end bs (word - spaces) + at) e in
    omega (arith, f, ge, le)

pub ruleset cut_rules = (cut_start, cut_space, cut_other, ends_here, ends_last, words_last, ends_never)

-- whether a word is empty, by that in what is left; the word so far began at `start`
either_space : (g e r : Bool) → (g || e) || r ≡ g || (e || r)
either_space true e r = refl
either_space false e r = refl

eqb-itself : (n : ℕ) → eqb n n ≡ true
eqb-itself n = eq-eqb n n refl

-- at a space, it stays the same whether some word is empty: the word that ends there is counted with those before
pub gap_space : (text : List ℕ) (at start : ℕ) (g : Bool) → at < length text → get_or text at 0 ≡ 32
    → (g || eqb at start) || gap (eqb (at + 1) (at + 1)) (drop (at + 1) text) ≡ g || gap (eqb at start) (drop at text)
gap_space text at start g lt is =
    let more : drop at text ≡ 32 ∷ drop (at + 1) text =
    drop_more text at 0 lt ∙ ap (λ (b : ℕ). b ∷ drop (at + 1) text) is in
    ap (λ (t : Bool). (g || eqb at start) || gap t (drop (at + 1) text)) (eqb-itself (at + 1))
    ∙ either_space g (eqb at start) (gap true (drop (at + 1) text))
    ∙ ap (λ (bs : List ℕ). g || gap (eqb at start) bs) (sym more)

-- at a byte that is no space, it stays the same whether some word is empty, of those before or of what is left
pub gap_other : (text : List ℕ) (at start : ℕ) (g : Bool) → at < length text → (get_or text at 0 ≡ 32 → ⊥)
    → start ≤ at → g || gap (eqb (at + 1) start) (drop (at + 1) text) ≡ g || gap (eqb at start) (drop at text)
gap_other text at start g lt other low =
    let none : eqb (get_or text at 0) 32 ≡ false = eqb-no (get_or text at 0) 32 other in
    let begun : eqb (at + 1) start ≡ false = eqb-no (at + 1) start (λ e. omega (arith, e, low)) in
    let here : gap (eqb at start) (get_or text at 0 ∷ drop (at + 1) text) ≡ gap false (drop (at + 1) text) =
    rw none refl in
    ap (λ (t : Bool). g || gap t (drop (at + 1) text)) begun
    ∙ ap (λ (b : Bool). g || b) (sym here)
    ∙ ap (λ (bs : List ℕ). g || gap (eqb at start) bs) (sym (drop_more text at 0 lt))

pub gap_last : (text : List ℕ) (at start : ℕ) (g : Bool) → length text ≤ at → at ≤ length text
    → g || eqb (length text) start ≡ g || gap (eqb at start) (drop at text)
gap_last text at start g ge le =
    let here : length text ≡ at = omega (arith, ge, le) in
    ap (λ (n : ℕ). g || eqb n start) here
    ∙ ap (λ (bs : List ℕ). g || gap (eqb at start) bs) (sym (drop_of_length-le text ge))

-- ---- some words in a row

-- so many of the words from the one with this number on
abbrev row : List (List ℕ) → ℕ → ℕ → List (List ℕ)
row words from count = take count (drop from words)

pub length_row : (words : List (List ℕ)) (from count : ℕ) → from + count ≤ length words
    → length (row words from count) ≡ count
length_row words from count there =
    length-take-le count (drop from words) (omega (arith, there, length-drop from words))

get_taken : {X : Type 0} (xs : List X) (n i : ℕ) → i < n → slice_get (take n xs) i ≡ slice_get xs i
get_taken xs zero i lt = absurd (omega arith)
get_taken [] (suc n) i lt = refl
get_taken (x ∷ xs) (suc n) zero lt = refl
get_taken (x ∷ xs) (suc n) (suc i) lt = get_taken xs n i (omega (arith, lt))

get_row : (words : List (List ℕ)) (from count i : ℕ) → i < count → from + count ≤ length words
    → slice_get (row words from count) i ≡ Some (get_or words (from + i) [])
get_row words from count i lt there =
    get_taken (drop from words) count i lt
    ∙ slice_get-get_or (drop from words) i [] (omega (arith, lt, there, length-drop from words))
    ∙ ap (λ (w : List ℕ). Some w) (get_or-drop from words i [])

only_word : (text word : List ℕ) → words_of text ≡ word ∷ [] → text ≡ word
only_word text word e = sym (joined-words_of text) ∙ ap (join_with_byte 32) e

pub row_word : (text found : List ℕ) (words : List (List ℕ)) (from count i : ℕ) → i < count
    → from + count ≤ length words → words_of found ≡ take (from + i + 1 - (from + i)) (drop (from + i) words)
    → Some found ≡ slice_get (take count (drop from words)) i
row_word text found words from count i lt there e =
    let one : from + i + 1 - (from + i) ≡ 1 = omega arith in
    let more : drop (from + i) words ≡ get_or words (from + i) [] ∷ drop (from + i + 1) words =
    drop_more words (from + i) [] (omega (arith, lt, there)) in
    let is : words_of found ≡ get_or words (from + i) [] ∷ [] =
    e ∙ ap (λ (n : ℕ). take n (drop (from + i) words)) one ∙ ap (take 1) more in
    ap (λ (w : List ℕ). Some w) (only_word found (get_or words (from + i) []) is)
    ∙ sym (get_row words from count i lt there)

pub no_row_word : (words : List (List ℕ)) (from count i : ℕ) → count ≤ i → from + count ≤ length words
    → None ≡ slice_get (take count (drop from words)) i
no_row_word words from count i ge there =
    sym (slice_get_past (row words from count) i (omega (arith, ge, length_row words from count there)))

pub row_count : (words : List (List ℕ)) (from count : ℕ) → from + count ≤ length words
    → count ≡ length (take count (drop from words))
row_count words from count there = sym (length_row words from count there)

drop_drop : {X : Type 0} (xs : List X) (m n : ℕ) → drop n (drop m xs) ≡ drop (m + n) xs
drop_drop {X = X} xs zero n = let e : 0 + n ≡ n = omega arith in ap (λ (k : ℕ). drop k xs) (sym e)
drop_drop {X = X} [] (suc m) n = drop_none n ∙ sym (drop_none (suc m + n)) where
  drop_none : (k : ℕ) → drop {A = X} k [] ≡ []
  drop_none zero = refl
  drop_none (suc k) = refl
drop_drop {X = X} (x ∷ xs) (suc m) n =
    let e : suc m + n ≡ suc (m + n) = omega arith in
    drop_drop xs m n ∙ ap (λ (k : ℕ). drop k (x ∷ xs)) (sym e)

take_take : {X : Type 0} (xs : List X) (m n : ℕ) → n ≤ m → take n (take m xs) ≡ take n xs
take_take xs m zero le = refl
take_take xs zero (suc n) le = absurd (omega (arith, le))
take_take [] (suc m) (suc n) le = refl
take_take {X = X} (x ∷ xs) (suc m) (suc n) le = ap (λ (ys : List X). x ∷ ys) (take_take xs m n (omega (arith, le)))

-- some of some words in a row
row_row : (words : List (List ℕ)) (from count first n : ℕ) → first + n ≤ count
    → take n (drop first (row words from count)) ≡ take n (drop (from + first) words)
row_row words from count first n le =
    let e : first + (count - first) ≡ count = omega (arith, le) in
    ap (λ (k : ℕ). take n (drop first (take k (drop from words)))) (sym e)
    ∙ ap (take n) (drop-take first (count - first) (drop from words))
    ∙ take_take (drop first (drop from words)) (count - first) n (omega (arith, le))
    ∙ ap (take n) (drop_drop words from first)

pub row_behind : (words : List (List ℕ)) (from count i : ℕ) (behind : List ℕ) → i + 1 < count
    → from + count ≤ length words
    → words_of behind ≡ take (from + count - 1 + 1 - (from + i + 1)) (drop (from + i + 1) words)
    → words_of behind ≡ drop (i + 1) (take count (drop from words))
row_behind words from count i behind lt there e =
    let n : from + count - 1 + 1 - (from + i + 1) ≡ count - (i + 1) = omega (arith, lt) in
    let at : from + i + 1 ≡ from + (i + 1) = omega arith in
    let all : length (row words from count) - (i + 1) ≡ count - (i + 1) =
    omega (arith, length_row words from count there) in
    e
    ∙ ap (λ (k : ℕ). take k (drop (from + i + 1) words)) n
    ∙ ap (λ (k : ℕ). take (count - (i + 1)) (drop k words)) at
    ∙ sym (row_row words from count (i + 1) (count - (i + 1)) (omega (arith, lt)))
    ∙ ap (λ (k : ℕ). take k (drop (i + 1) (row words from count))) (sym all)
    ∙ take_rest (row words from count) (i + 1)

pub row_past : (words : List (List ℕ)) (from count i : ℕ) → count ≤ i + 1 → from + count ≤ length words
    → [] ≡ drop (i + 1) (take count (drop from words))
row_past words from count i ge there =
    sym (drop_of_length-le (row words from count) (omega (arith, ge, length_row words from count there)))

pub row_between : (words : List (List ℕ)) (from count first last : ℕ) → first ≤ last → last ≤ count
    → take (last - first) (drop (from + first) words) ≡ take (last - first) (drop first (take count (drop from words)))
row_between words from count first last order le =
    sym (row_row words from count first (last - first) (omega (arith, order, le)))

pub all_row : (words : List (List ℕ)) (count : ℕ) → count ≡ length words → take count (drop 0 words) ≡ words
all_row words count e = ap (λ (n : ℕ). take n words) e ∙ take-length words

pub ruleset word_rules = (row_word, no_row_word)

pub ruleset count_rules = (row_count)

pub ruleset behind_rules = (row_behind, row_past)

pub ruleset between_rules = (row_between, length_row)

pub ruleset all_rules = (all_row)

-- ---- the first word of some

-- no word before this one is sought
abbrev pub IsSought : (List ℕ → Bool) → List (List ℕ) → ℕ → Type 0
IsSought is words i = prefix_len (λ word. not (is word)) words ≡ i + prefix_len (λ word. not (is word)) (drop i words)

-- before the first word, none is sought
pub sought_start : (is : List ℕ → Bool) (words : List (List ℕ)) → IsSought is words 0
sought_start is words = omega arith

position_at : (is : List ℕ → Bool) (words : List (List ℕ)) (i : ℕ) → i < length words
    → prefix_len (λ word. not (is word)) words ≡ i → Some i ≡ position is words
position_at is words i lt e = let there : ltb i (length words) ≡ true = lt-ltb i (length words) lt in rw (e, there) refl

-- where no word before this one is sought and this one is, it is the first that is sought
pub sought_here : (is : List ℕ → Bool) (words : List (List ℕ)) (i : ℕ) (found : List ℕ) → Some found ≡ slice_get words i
    → true ≡ is found → IsSought is words i → Some i ≡ position is words
sought_here is words i found at same h =
    let lt : i < length words = slice_get_within words i found (sym at) in
    let there : get_or words i found ≡ found = get_or_from_slice_get words i found found (sym at) in
    let stops : not (is (get_or words i found)) ≡ false = ap (λ (w : List ℕ). not (is w)) there ∙ ap not (sym same) in
    let none : prefix_len (λ word. not (is word)) (drop i words) ≡ 0 =
    prefix_len-drop_no (λ word. not (is word)) words i found lt stops in
    position_at is words i lt (omega (arith, h, none))

-- where neither this word nor one before it is sought, none is before the next
pub sought_on : (is : List ℕ → Bool) (words : List (List ℕ)) (i : ℕ) (found : List ℕ) → Some found ≡ slice_get words i
    → false ≡ is found → IsSought is words i → IsSought is words (i + 1)
sought_on is words i found at other h =
    let lt : i < length words = slice_get_within words i found (sym at) in
    let there : get_or words i found ≡ found = get_or_from_slice_get words i found found (sym at) in
    let goes : not (is (get_or words i found)) ≡ true = ap (λ (w : List ℕ). not (is w)) there ∙ ap not (sym other) in
    let one : prefix_len (λ word. not (is word)) (drop i words)
    ≡ 1 + prefix_len (λ word. not (is word)) (drop (i + 1) words) =
    prefix_len-drop_yes (λ word. not (is word)) words i found lt goes in
    omega (arith, h, one)

-- no place below the number of the words is without a word
pub not_there : {X : Type 0} (words : List (List ℕ)) (i : ℕ) → None ≡ slice_get words i → i < length words → X
not_there words i none lt =
    let there : slice_get words i ≡ Some (get_or words i []) = slice_get-get_or words i [] lt in
    absurd cc

-- so many words in a row are so many, where the line has them all
pub length_of_row : (self words : List (List ℕ)) (from count : ℕ) → self ≡ take count (drop from words)
    → from + count ≤ length words → count ≡ length self
length_of_row self words from count is there =
    row_count words from count there ∙ ap (λ (ws : List (List ℕ)). length ws) (sym is)

-- where none of the words is sought, none is found
pub sought_never : (is : List ℕ → Bool) (words : List (List ℕ)) (i : ℕ) → length words ≤ i → i ≤ length words
    → IsSought is words i → None ≡ position is words
sought_never is words i ge le h =
    let none : prefix_len (λ word. not (is word)) (drop i words) ≡ 0 =
    prefix_len-drop_all (λ word. not (is word)) words i ge in
    let past : ltb (prefix_len (λ word. not (is word)) words) (length words) ≡ false =
    le-ltb (prefix_len (λ word. not (is word)) words) (length words) (omega (arith, h, none, ge)) in
    rw past refl
