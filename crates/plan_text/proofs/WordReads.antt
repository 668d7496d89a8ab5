-- Printed words are read as what they were printed of.
use Rattle.std.proofs.Common.{◌≡◌, ℕ, zero, suc, ◌+◌, ◌*◌, ◌^◌, ◌<◌, ◌≤◌, Bool, true, false, ◌||◌, ◌&&◌, eqb, leb, List}
use Rattle.std.proofs.Common.{[], ◌∷◌, ◌++◌, length, Option, None, Some, is_some, Ok, refl, sym, ap, ◌∙◌, arith, codes}
use Rattle.std.proofs.Common.{decimal, bytes_eq, get_or, append_assoc, option_map}
use Rattle.std.specs.Prelude.{All}
use Rattle.std.specs.List.{list_any, list_all, join_with_byte}
use Rattle.std.proofs.lemmas.Bool.Decides.{nat_tests}
use Rattle.std.proofs.lemmas.List.{append-nil, length-append, length-map}
use Rattle.std.proofs.lemmas.List.Elements.{All-head, All-tail}
use Rattle.std.proofs.lemmas.Option.{slice_get-get_or}
use Rattle.std.proofs.lemmas.Slice.Eq.{bytes_eq-Decides}
use Rattle.rail_text.specs.Names.{are_new}
use Rattle.rail_text.specs.Words.{is_name, keyword}
use Rattle.rail_text.specs.Forms.{is_word, is_skipped}
use Rattle.rail_text.proofs.DistinctNames.{position-distinct}
use Rattle.rail_text.proofs.PrintedLines.{both}
use Rattle.rail_text.proofs.PrintedWords.{decimal_is_word, length-decimal_word, name_is_word, length-name}
use Rattle.rail_text.proofs.PrintedWords.{number_in-decimal}
use Rattle.block_words.specs.declared.Way.{Way}
use Rattle.block_words.specs.declared.Way.TheVariants.{Up, Down}
use Rattle.locking_table.specs.Words.{joined}
use Rattle.line_plan.specs.declared.frame.Kind.{Kind}
use Rattle.line_plan.specs.declared.frame.Kind.TheVariants as kinds
use Rattle.line_plan.specs.declared.frame.Lever.{Lever}
use Rattle.line_plan.specs.declared.signal.To.TheVariants as ends
use Rattle.line_plan.specs.Frames.{BoxFields, lever_of, kind_of, is_working, are_rising, frame_size, signal_of}
use Rattle.plan_draft.specs.LineWords.{counted, new_name, number_in_names, places_onto, way_in, kind_in, end_in}
use Rattle.plan_draft.specs.LineWords.{lever_in, working_in}
use Rattle.plan_draft.specs.BoxLines.{arm_in, over_in, counted_over}
use Rattle.plan_text.specs.Printing.{name_word, place_words, over_words}
use Rattle.line_plan.specs.Frames.{kind_word}
use Rattle.line_plan.specs.Ways.{way_word}
use Rattle.plan_text.proofs.LineReads.{IsLine}
use Rattle.plan_text.proofs.Middle.{found_within}

-- ---- words that fit into a line

-- a word of at most so many bytes
abbrev pub fits : ℕ → List ℕ → Bool
fits most text = is_word text && leb (length text) most

-- what so many words may take, each with a space
abbrev pub room : ℕ → List (List ℕ) → ℕ
room most [] = 0
room most (text ∷ texts) = most + 1 + room most texts

at_most : (n m : ℕ) → leb n m ≡ true → n ≤ m
at_most n m h = grind (arith, nat_tests)

is_most : (n m : ℕ) → n ≤ m → leb n m ≡ true
is_most n m h = grind (arith, nat_tests)

joined_room : (most : ℕ) (texts : List (List ℕ)) → list_all (fits most) texts ≡ true
    → length (join_with_byte 32 texts) ≤ room most texts
joined_room most [] h = omega arith
joined_room most (x ∷ []) h = let f =
    both (is_word x) (leb (length x) most) (both (fits most x) true h).0 in omega (arith, at_most (length x) most f.1)
joined_room most (x ∷ y ∷ texts) h =
    let g = both (fits most x) (list_all (fits most) (y ∷ texts)) h in
    let f = both (is_word x) (leb (length x) most) g.0 in
    let rest = joined_room most (y ∷ texts) g.1 in
    let own = at_most (length x) most f.1 in
    omega (arith, own, rest, length-append x (32 ∷ join_with_byte 32 (y ∷ texts)))

all_words : (most : ℕ) (texts : List (List ℕ)) → list_all (fits most) texts ≡ true → list_all is_word texts ≡ true
all_words most [] h = refl
all_words most (x ∷ texts) h =
    let g = both (fits most x) (list_all (fits most) texts) h in
    rw ((both (is_word x) (leb (length x) most) g.0).0, all_words most texts g.1) refl

-- words of at most so many bytes that have room in a line
pub fitting_line : (most : ℕ) (texts : List (List ℕ)) → list_all (fits most) texts ≡ true → room most texts ≤ 200
    → is_skipped (keyword texts) ≡ false → IsLine texts
fitting_line most texts h r s =
    record { each = all_words most texts h; short = omega (arith, joined_room most texts h, r); begins = s }

-- a number below 10 ^ 10 is a word of at most ten bytes
pub number_fits : (most n : ℕ) → 10 ≤ most → n < 10 ^ 10 → fits most (decimal n) ≡ true
number_fits most n m h =
    rw (decimal_is_word n h, is_most (length (decimal n)) most (omega (arith, m, length-decimal_word n h))) refl

-- a name is a word of at most 16 bytes
pub name_fits : (name : List ℕ) → is_name name ≡ true → fits 16 name ≡ true
name_fits name h = rw (name_is_word name h, is_most (length name) 16 (length-name name h)) refl

-- the word of a way is a word of at most 16 bytes
pub way_fits : (way : Way) → fits 16 (way_word way) ≡ true
way_fits Up = refl
way_fits Down = refl

-- the word of a lever's kind is a word of at most 16 bytes
pub kind_fits : (kind : Kind) → fits 16 (kind_word kind) ≡ true
kind_fits kinds.Signal = refl
kind_fits kinds.Points = refl
kind_fits kinds.Lock = refl
kind_fits kinds.Distant = refl
kind_fits kinds.Spare = refl

-- ---- names

-- names that all differ
pub record AreNames (names : List (List ℕ)) : Type 0 where
  pub each : list_all is_name names ≡ true
  pub differ : are_new [] names ≡ true

all_get : (p : List ℕ → Bool) (names : List (List ℕ)) (i : ℕ) → list_all p names ≡ true → i < length names
    → p (get_or names i []) ≡ true
all_get p [] i h l = absurd (omega (arith, l))
all_get p (x ∷ names) zero h l = (both (p x) (list_all p names) h).0
all_get p (x ∷ names) (suc i) h l = all_get p names i (both (p x) (list_all p names) h).1 (omega (arith, l))

pub name_is : (names : List (List ℕ)) (i : ℕ) → AreNames names → i < length names → is_name (name_word names i) ≡ true
name_is names i are l = all_get is_name names i are.each l

-- the name with a number is a word of at most 16 bytes
pub name_word_fits : (names : List (List ℕ)) (i : ℕ) → AreNames names → i < length names
    → fits 16 (name_word names i) ≡ true
name_word_fits names i are l = name_fits (name_word names i) (name_is names i are l)

-- where names differ, the name with a number is read as that number
pub name_reads : (names : List (List ℕ)) (i : ℕ) → AreNames names → i < length names
    → number_in_names names (name_word names i) ≡ Ok i
unfolding number_in_names
name_reads names i are l =
    let at = position-distinct names i (name_word names i) are.differ (slice_get-get_or names i [] l) in
    rw (name_is names i are l, at) refl

-- a name that none of the others has is read as a new name
pub new_reads : (names : List (List ℕ)) (name : List ℕ) → is_name name ≡ true → list_any (bytes_eq name) names ≡ false
    → new_name names name ≡ Ok name
unfolding new_name
new_reads names name good new = rw (good, new) refl

-- ---- places

-- a number of one of these names
abbrev pub Within : List (List ℕ) → ℕ → Type 0
Within names i = i < length names

-- the names of places are read as those places
pub places_read : (names : List (List ℕ)) (front places : List ℕ) → AreNames names → All (Within names) places
    → places_onto names front (place_words names places) ≡ Ok (front ++ places)
unfolding places_onto
places_read names front [] are h = ap Ok (sym (append-nil front))
places_read names front (p ∷ places) are h =
    let l = All-head (Within names) p places h in
    rw (name_reads names p are l)
    (places_read names (front ++ p ∷ []) places are (All-tail (Within names) p places h)
    ∙ ap Ok (append_assoc front (p ∷ []) places))

-- each name of a place is a word of at most 16 bytes
pub places_fit : (names : List (List ℕ)) (places : List ℕ) → AreNames names → All (Within names) places
    → list_all (fits 16) (place_words names places) ≡ true
places_fit names [] are h = refl
places_fit names (p ∷ places) are h =
    rw (
      name_word_fits names p are (All-head (Within names) p places h),
      places_fit names places are (All-tail (Within names) p places h),
    ) refl

-- the names of places take at most 17 bytes each, with the spaces
pub places_room : (names : List (List ℕ)) (places : List ℕ) → room 16 (place_words names places) ≡ 17 * length places
places_room names [] = omega arith
places_room names (p ∷ places) = omega (arith, places_room names places)

-- ---- what stands over places

-- `over` and the names of the places behind it are words of at most 16 bytes
pub over_fits : (names : List (List ℕ)) (over : List ℕ) → AreNames names → All (Within names) over
    → list_all (fits 16) (over_words names over) ≡ true
over_fits names [] are h = refl
over_fits names (p ∷ places) are h = places_fit names (p ∷ places) are h

-- `over` and the places behind it take at most 17 bytes each, with the spaces
pub over_room : (names : List (List ℕ)) (over : List ℕ) → room 16 (over_words names over) ≤ 17 + 17 * length over
over_room names [] = omega arith
over_room names (p ∷ places) = omega (arith, places_room names (p ∷ places))

more_than_four : (n : ℕ) → 4 < n → eqb n 4 ≡ false
more_than_four n h = grind (arith, nat_tests)

within : (low high n : ℕ) → low ≤ n → n ≤ high → leb low n && leb n high ≡ true
within low high n a b = grind (arith, nat_tests)

-- a line with as many words as are asked for is taken
pub counted_reads : (low high : ℕ) (words : List (List ℕ)) → low ≤ length words → length words ≤ high
    → counted low high words ≡ Ok tt
counted_reads low high words a b = rw (within low high (length words) a b) refl

-- a line of four words with at most four places behind `over` has a number of words that is taken
pub counted_over_reads : (front : List (List ℕ)) (names : List (List ℕ)) (over : List ℕ) → length front ≡ 4
    → length over ≤ 4 → counted_over (front ++ over_words names over) ≡ Ok tt
counted_over_reads front names [] four few = rw (append-nil front, four) refl
counted_over_reads front names (p ∷ over) four few =
    let n : length (front ++ over_words names (p ∷ over)) ≡ 6 + length over =
    omega (
      arith,
      four,
      length-append front (over_words names (p ∷ over)),
      length-map (p ∷ over) (name_word names),
    ) in
    rw (more_than_four (length (front ++ over_words names (p ∷ over))) (omega (arith, n)))
    (counted_reads 6 9 (front ++ over_words names (p ∷ over)) (omega (arith, n)) (omega (arith, n, few)))

-- the places printed behind `over` in a line of a signal are read as those places
pub over_reads : (b : BoxFields) (w x y z : List ℕ) (over : List ℕ) → AreNames b.places → All (Within b.places) over
    → over_in b (w ∷ x ∷ y ∷ z ∷ over_words b.places over) ≡ Ok over
unfolding over_in
over_reads b w x y z [] are h = refl
over_reads b w x y z (p ∷ over) are h =
    let words = w ∷ x ∷ y ∷ z ∷ over_words b.places (p ∷ over) in
    let more : eqb (length words) 4 ≡ false = more_than_four (length words) (omega arith) in
    rw more (places_read b.places [] (p ∷ over) are h)

-- ---- ways, kinds, ends

-- the word of a way is read as that way
pub way_reads : (way : Way) → way_in (way_word way) ≡ Ok way
unfolding way_in
way_reads Up = refl
way_reads Down = refl

-- the word of a lever's kind is read as that kind
pub kind_reads : (kind : Kind) → kind_in (kind_word kind) ≡ Ok kind
unfolding kind_in
kind_reads kinds.Signal = refl
kind_reads kinds.Points = refl
kind_reads kinds.Lock = refl
kind_reads kinds.Distant = refl
kind_reads kinds.Spare = refl

-- where a text isn't another, the other isn't the one
pub swapped : (a b : List ℕ) → bytes_eq a b ≡ false → bytes_eq b a ≡ false
swapped a b e = go (bytes_eq b a) refl where
  go : (t : Bool) → bytes_eq b a ≡ t → t ≡ false
  go true f = let same = (bytes_eq-Decides b a).0 f in sym ((bytes_eq-Decides a b).1 (sym same)) ∙ e
  go false f = refl

none_get : (p : List ℕ → Bool) (names : List (List ℕ)) (i : ℕ) → list_any p names ≡ false → i < length names
    → p (get_or names i []) ≡ false
none_get p [] i h l = absurd (omega (arith, l))
none_get p (x ∷ names) zero h l = first (p x) (list_any p names) h where
  first : (a b : Bool) → a || b ≡ false → a ≡ false
  first true b e = absurd cc
  first false b e = refl
none_get p (x ∷ names) (suc i) h l = none_get p names i (second (p x) (list_any p names) h) (omega (arith, l)) where
  second : (a b : Bool) → a || b ≡ false → b ≡ false
  second true b e = absurd cc
  second false b e = e

-- `away` is read as the end of a signal that leads off the line
pub away_reads : (names : List (List ℕ)) → end_in names (codes "away") ≡ Ok ends.Away
unfolding end_in
away_reads names = refl

-- where no place is called `away`, a place's name is read as the end of a signal that leads there
pub end_reads : (names : List (List ℕ)) (i : ℕ) → AreNames names → list_any (bytes_eq (codes "away")) names ≡ false
    → i < length names → end_in names (name_word names i) ≡ Ok (ends.Place i)
unfolding end_in
end_reads names i are away l =
    let other : bytes_eq (name_word names i) (codes "away") ≡ false =
    swapped (codes "away") (name_word names i) (none_get (bytes_eq (codes "away")) names i away l) in
    rw (other, name_reads names i are l) refl

-- ---- levers

-- levers whose numbers rise, in a frame of at most 120
pub record IsFrame (levers : List Lever) : Type 0 where
  pub rising : are_rising 0 levers ≡ true
  pub most : frame_size levers ≤ 120

-- the lever of a box whose kind is known
pub record HasLever (b : BoxFields) (n : ℕ) (kind : Kind) : Type 0 where
  pub lever : Lever
  pub found : lever_of b n ≡ Some lever
  pub is : lever.kind ≡ kind
  pub number : lever.number ≡ n
  pub low : 1 ≤ n
  pub high : n ≤ 120

-- where a number has a kind in a frame, the box has a lever of that kind there
pub has_lever : (b : BoxFields) (n : ℕ) (kind : Kind) → IsFrame b.levers → kind_of b n ≡ Some kind → HasLever b n kind
has_lever b n kind frame e = go (lever_of b n) refl e where
  go : (o : Option Lever) → lever_of b n ≡ o → option_map (λ (l : Lever). l.kind) o ≡ Some kind → HasLever b n kind
  go None f e = absurd cc
  go (Some lever) f e =
      let w = found_within 0 n b.levers lever frame.rising f in
      record {
        lever = lever;
        found = f;
        is = cc;
        number = w.2;
        low = omega (arith, w.0);
        high =
            omega (arith, w.1, frame.most);
      }

pub lever_reads : (b : BoxFields) (n : ℕ) (kind : Kind) (h : HasLever b n kind) → lever_in b (decimal n) ≡ Ok h.lever
unfolding lever_in
lever_reads b n kind h = rw (number_in-decimal 1 120 n h.low h.high (omega (arith, h.high)), h.found) refl

-- the number of a signal lever that no signal has so far is read as that lever
pub arm_reads : (b : BoxFields) (n : ℕ) → HasLever b n kinds.Signal → is_some (signal_of b n) ≡ false
    → arm_in b (decimal n) ≡ Ok n
unfolding arm_in
arm_reads b n h free = rw (lever_reads b n kinds.Signal h, h.is, h.number, free) refl

-- the number of a lever that is no spare one is read as that lever
pub working_reads : (b : BoxFields) (n : ℕ) (kind : Kind) → HasLever b n kind → is_working (Some kind) ≡ true
    → working_in b (decimal n) ≡ Ok n
unfolding working_in
working_reads b n kind h works = rw (lever_reads b n kind h, h.is, works, h.number) refl

-- ---- rows

-- words joined into a line are those words with a space between each two
pub joined_same : (words : List (List ℕ)) → joined words ≡ join_with_byte 32 words
joined_same [] = refl
joined_same (x ∷ []) = append-nil x
joined_same (x ∷ y ∷ words) = ap (λ (bytes : List ℕ). x ++ 32 ∷ bytes) (joined_same (y ∷ words))

pub ruleset word_rules = (
  joined_same,
  arm_reads,
  over_reads,
  end_reads,
  working_reads,
  kind_reads,
  way_reads,
  counted_over_reads,
  fitting_line,
)
