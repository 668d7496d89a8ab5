-- What bytes make of what is read, one piece of a text after another.
use Rattle.std.proofs.Common.{◌≡◌, ℕ, ◌<◌, ◌^◌, Bool, true, false, not, ◌&&◌, ◌||◌, ◌==◌, List, [], ◌∷◌, ◌++◌}
use Rattle.std.proofs.Common.{length, refl, sym, ap, ◌∙◌, arith, append_assoc, append-nil, if◌then◌else◌, decimal}
use Rattle.std.specs.Prelude.{Result, Ok, Err}
use Rattle.std.specs.Char.{is_ascii_digit}
use Rattle.std.specs.List.{list_all}
use Rattle.std.specs.Str.{all_ascii_digits}
use Rattle.std.proofs.lemmas.Bool.Decides.{nat_tests}
use Rattle.std.proofs.lemmas.Fmt.{digits_decimal}
use Rattle.rail_text.proofs.NumberLemmas.{own}
use Rattle.rail_text.specs.Lines.{lacks}
use Rattle.locking_table.specs.Reading.{◌>>=◌}
use Rattle.row_texts.specs.declared.cause.RowsCause.{RowsCause}
use Rattle.row_texts.specs.declared.draft.Place.TheVariants as places
use Rattle.row_texts.specs.Drafts.{DraftFields, is_beside, is_start}
use Rattle.row_texts.specs.Items.{with_word}
use Rattle.row_texts.specs.Marks.{ends_word, marked}
use Rattle.row_texts.specs.Texts.{ReaderFields, all_ended, at_line, byte_onto, is_empty, mark_onto, next_line, read_on}
use Rattle.row_texts.specs.Texts.{with_no_word}

-- what bytes make of what is read, before the end of the text
abbrev pub onto : ReaderFields → List ℕ → Result ReaderFields RowsCause
onto reader [] = Ok reader
onto reader (b ∷ bs) = byte_onto b reader >>= λ next. onto next bs

bind_step : (m : Result ReaderFields RowsCause) (f g : ReaderFields → Result ReaderFields RowsCause)
    → ((n : ReaderFields) → f n ≡ g n) → (m >>= f) ≡ (m >>= g)
bind_step (Ok n) f g h = h n
bind_step (Err c) f g h = refl

bind_assoc : (m : Result ReaderFields RowsCause) (f g : ReaderFields → Result ReaderFields RowsCause)
    → ((m >>= f) >>= g) ≡ (m >>= λ n. (f n >>= g))
bind_assoc (Ok n) f g = refl
bind_assoc (Err c) f g = refl

-- one piece behind another
onto_append : (reader : ReaderFields) (xs ys : List ℕ) → onto reader (xs ++ ys) ≡ (onto reader xs >>= λ next. onto next ys)
onto_append reader [] ys = refl
onto_append reader (x ∷ xs) ys =
    bind_step (byte_onto x reader) (λ (n : ReaderFields). onto n (xs ++ ys))
    (λ (n : ReaderFields). (onto n xs >>= λ next. onto next ys)) (λ n. onto_append n xs ys)
    ∙ sym (bind_assoc (byte_onto x reader) (λ (n : ReaderFields). onto n xs) (λ (next : ReaderFields). onto next ys))

pub onto_then : (reader mid last : ReaderFields) (xs ys : List ℕ) → onto reader xs ≡ Ok mid → onto mid ys ≡ Ok last
    → onto reader (xs ++ ys) ≡ Ok last
onto_then reader mid last xs ys front back =
    onto_append reader xs ys
    ∙ (ap (λ (m : Result ReaderFields RowsCause). m >>= λ next. onto next ys) front ∙ back)

-- ---- up to the end of the text

read_step : (m : Result ReaderFields RowsCause) (b line : ℕ) (bs : List ℕ) (last : ReaderFields) (draft : DraftFields)
    → (m >>= λ next. onto next bs) ≡ Ok last
    → ((l : ℕ) (n : ReaderFields) → onto n bs ≡ Ok last → read_on l n bs ≡ Ok draft)
    → (at_line line m >>= λ next. read_on (next_line b line) next bs) ≡ Ok draft
read_step (Ok n) b line bs last draft h more = more (next_line b line) n h
read_step (Err c) b line bs last draft h more = cc

pub reads : (bytes : List ℕ) (line : ℕ) (reader last : ReaderFields) (draft : DraftFields)
    → onto reader bytes ≡ Ok last → all_ended last ≡ Ok draft → read_on line reader bytes ≡ Ok draft
reads [] line reader last draft h e =
    let same : reader ≡ last = cc in
    ap (λ (r : ReaderFields). at_line line (all_ended r)) same ∙ ap (λ (m : Result DraftFields RowsCause). at_line line m) e
reads (b ∷ bs) line reader last draft h e =
    read_step (byte_onto b reader) b line bs last draft h (λ l n g. reads bs l n last draft g e)

-- ---- words

-- a byte that goes on with a word
abbrev pub is_plain : ℕ → Bool
is_plain b = not (ends_word b || b == 35)

plain_step : (ends hash : Bool) (reader : ReaderFields) (b : ℕ) (m other : Result ReaderFields RowsCause) (first : Bool)
    → not (ends || hash) ≡ true
    → (if ends then m else if hash && first then other
    else Ok (record { word = reader.word ++ b ∷ []; draft = reader.draft }))
    ≡ Ok (record { word = reader.word ++ b ∷ []; draft = reader.draft })
plain_step true hash reader b m other first h = cc
plain_step false true reader b m other first h = cc
plain_step false false reader b m other first h = refl

both : (a b : Bool) → (a && b) ≡ true → (a ≡ true) × (b ≡ true)
both true b h = (refl, h)
both false b h = cc

-- the reader with a word that has begun
abbrev pub holds : List ℕ → DraftFields → ReaderFields
holds word draft = record { word = word; draft = draft }

byte_plain : (b : ℕ) (v : List ℕ) (draft : DraftFields) → is_beside draft.place ≡ false → is_plain b ≡ true
    → byte_onto b (holds v draft) ≡ Ok (holds (v ++ b ∷ []) draft)
byte_plain b v draft here plain =
    rw here
    (plain_step (ends_word b) (b == 35) (holds v draft) b (with_no_word (mark_onto b v draft))
    (Ok (holds [] (record draft { place = places.Beside }))) (is_empty v && is_start draft.place) plain)

pub word_on : (w v : List ℕ) (draft : DraftFields) → is_beside draft.place ≡ false → list_all is_plain w ≡ true
    → onto (holds v draft) w ≡ Ok (holds (v ++ w) draft)
word_on [] v draft here plain = ap (λ (x : List ℕ). Ok (holds x draft)) (sym (append-nil v))
word_on (b ∷ bs) v draft here plain =
    let p = both (is_plain b) (list_all is_plain bs) plain in
    ap (λ (m : Result ReaderFields RowsCause). m >>= λ next. onto next bs) (byte_plain b v draft here p.0)
    ∙ (word_on bs (v ++ b ∷ []) draft here p.1
    ∙ ap (λ (x : List ℕ). Ok (holds x draft)) (append_assoc v (b ∷ []) bs))

-- what ends a word takes it
pub mark_on : (b : ℕ) (w : List ℕ) (draft one two : DraftFields) → is_beside draft.place ≡ false → ends_word b ≡ true
    → 0 < length w → with_word w draft ≡ Ok one → marked b one ≡ Ok two
    → byte_onto b (holds w draft) ≡ Ok (holds [] two)
mark_on b [] draft one two here ends some word mark = absurd (omega (arith, some))
mark_on b (c ∷ cs) draft one two here ends some word mark = rw (here, ends, word, mark) refl

-- ---- what isn't read

passing : (t : Bool) (d e : DraftFields) → not t ≡ true → (if t then d else e) ≡ e
passing true d e h = cc
passing false d e h = refl

beside_byte : (b : ℕ) (draft : DraftFields) → draft.place ≡ places.Beside → not (b == 10) ≡ true
    → byte_onto b (holds [] draft) ≡ Ok (holds [] draft)
beside_byte b draft is h =
    let here : is_beside draft.place ≡ true = ap is_beside is in
    rw here (ap (λ (d : DraftFields). Ok (holds [] d)) (passing (b == 10) (record draft { place = places.Start }) draft h))

pub beside_on : (w : List ℕ) (draft : DraftFields) → draft.place ≡ places.Beside → lacks 10 w ≡ true
    → onto (holds [] draft) w ≡ Ok (holds [] draft)
beside_on [] draft is none = refl
beside_on (b ∷ bs) draft is none =
    let p = both (not (b == 10)) (lacks 10 bs) none in
    ap (λ (m : Result ReaderFields RowsCause). m >>= λ next. onto next bs) (beside_byte b draft is p.0)
    ∙ beside_on bs draft is p.1

-- ---- printed numbers

digit_above : (c k : ℕ) → is_ascii_digit c ≡ true → k < 48 → (c == k) ≡ false
digit_above c k h low = grind (arith, nat_tests)

digit_below : (c k : ℕ) → is_ascii_digit c ≡ true → 57 < k → (c == k) ≡ false
digit_below c k h high = grind (arith, nat_tests)

digit_plain : (c : ℕ) → is_ascii_digit c ≡ true → is_plain c ≡ true
digit_plain c h =
    let a = digit_above c 10 h (omega arith) in
    let b = digit_above c 9 h (omega arith) in
    let d = digit_above c 13 h (omega arith) in
    let e = digit_above c 32 h (omega arith) in
    let f = digit_above c 44 h (omega arith) in
    let g = digit_below c 59 h (omega arith) in
    let i = digit_below c 58 h (omega arith) in
    let j = digit_below c 124 h (omega arith) in
    let k = digit_above c 35 h (omega arith) in
    rw (a, b, d, e, f, g, i, j, k) refl

digit_inside : (c : ℕ) → is_ascii_digit c ≡ true → not (c == 10) ≡ true
digit_inside c h = grind (arith, nat_tests)

digits_plain : (cs : List ℕ) → all_ascii_digits cs ≡ true → list_all is_plain cs ≡ true
digits_plain [] h = refl
digits_plain (c ∷ cs) h =
    let p = both (is_ascii_digit c) (all_ascii_digits cs) h in
    let here = digit_plain c p.0 in let more = digits_plain cs p.1 in rw (here, more) refl

digits_inside : (cs : List ℕ) → all_ascii_digits cs ≡ true → lacks 10 cs ≡ true
digits_inside [] h = refl
digits_inside (c ∷ cs) h =
    let p = both (is_ascii_digit c) (all_ascii_digits cs) h in
    let here = digit_inside c p.0 in let more = digits_inside cs p.1 in rw (here, more) refl

pub decimal_plain : (n : ℕ) → n < 2 ^ 64 → list_all is_plain (decimal n) ≡ true
decimal_plain n small = digits_plain (decimal n) (digits_decimal own n small)

pub decimal_inside : (n : ℕ) → n < 2 ^ 64 → lacks 10 (decimal n) ≡ true
decimal_inside n small = digits_inside (decimal n) (digits_decimal own n small)

-- ---- texts without a line end, one behind another

pub lacks-append : (xs ys : List ℕ) → lacks 10 xs ≡ true → lacks 10 ys ≡ true → lacks 10 (xs ++ ys) ≡ true
lacks-append [] ys front back = back
lacks-append (x ∷ xs) ys front back =
    let p = both (not (x == 10)) (lacks 10 xs) front in
    let here = p.0 in let more = lacks-append xs ys p.1 back in rw (here, more) refl
