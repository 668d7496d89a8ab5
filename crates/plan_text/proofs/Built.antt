-- A box whose lines are being read meets the conditions of a box.
use Rattle.std.proofs.Common.{◌≡◌, ℕ, ◌+◌, ◌<◌, ◌≤◌, Bool, true, false, cond, ◌&&◌, ltb, leb, List, [], ◌∷◌, ◌++◌}
use Rattle.std.proofs.Common.{length, Option, None, Some, is_some, Result, Ok, Err, refl, sym, ap, ◌∙◌, arith, position}
use Rattle.std.proofs.Common.{codes, bytes_eq}
use Rattle.std.specs.Prelude.{All, IfSome}
use Rattle.std.specs.List.{list_any, list_all, position_or_len}
use Rattle.std.proofs.lemmas.Bool.Decides.{nat_tests}
use Rattle.std.proofs.lemmas.List.{length-append}
use Rattle.std.proofs.lemmas.List.Elements.{All-nil, All-push, All-same}
use Rattle.std.proofs.lemmas.List.Folds.{list_any-append, list_all-append}
use Rattle.std.proofs.lemmas.Slice.Eq.{bytes_eq-Decides}
use Rattle.rail_text.specs.Words.{is_name, name_in, number_in}
use Rattle.rail_text.specs.declared.cause.Cause.{Cause}
use Rattle.rail_text.proofs.Binds.{OfOk, bind_keeps, bind_any, if_keeps, InRange, number_in_is, name_in_is}
use Rattle.rail_text.proofs.DistinctNames.{distinct-append}
use Rattle.block_words.specs.declared.Way.TheVariants.{Up, Down}
use Rattle.line_plan.specs.declared.frame.Lever.{Lever}
use Rattle.line_plan.specs.Frames.{BoxFields, last_number, frame_size, leads_to}
use Rattle.line_plan.specs.Plans.{IsSignal, IsBerth, IsTrackLock, IsBoxRow, IsBox}
use Rattle.plan_draft.specs.LineWords.{counted, word, new_name, known, number_in_names, places_onto, kind_in}
use Rattle.plan_draft.specs.BoxLines.{new_place, place_onto, next_number, lever_onto}
use Rattle.line_plan.proofs.Listed.{rising_more}

-- what a box has not yet before the lines of a kind are read
pub record Unread (kind : ℕ) (box_plan : BoxFields) : Type 0 where
  pub levers : kind < 8 → box_plan.levers ≡ []
  pub signals : kind < 9 → box_plan.signals ≡ []
  pub starters : kind < 10 → list_any (λ signal. is_some (leads_to signal)) box_plan.signals ≡ false
  pub up : kind < 11 → box_plan.berth_up ≡ None
  pub down : kind < 11 → box_plan.berth_down ≡ None
  pub tracks : kind < 14 → box_plan.tracks ≡ []
  pub rows : kind < 15 → box_plan.rows ≡ []

-- box b of so many, read as far as lines of this kind
pub record Built (boxes b kind : ℕ) (own : List ℕ) (box_plan : BoxFields) : Type 0 where
  pub is : IsBox boxes b box_plan
  pub unread : Unread kind box_plan
  pub name : box_plan.name ≡ own

-- ---- words

-- the word names this one of the names
pub record Numbered (names : List (List ℕ)) (text : List ℕ) (n : ℕ) : Type 0 where
  pub within : n < length names

position_within : {A : Type 0} (p : A → Bool) (xs : List A) (i : ℕ) → position p xs ≡ Some i → i < length xs
position_within p xs i e = go (ltb (position_or_len p xs) (length xs)) refl e where
  go : (b : Bool) → ltb (position_or_len p xs) (length xs) ≡ b → cond b (Some (position_or_len p xs)) None ≡ Some i
      → i < length xs
  go true t e = let same : position_or_len p xs ≡ i = cc in grind (arith, nat_tests)
  go false t e = absurd cc

-- where what is missing is refused, what holds of the thing that is there holds of what is taken
pub known_keeps : {A : Type 0} (P : A → Type 0) (cause : Cause) (o : Option A) → ((x : A) → o ≡ Some x → P x)
    → OfOk P (known cause o)
known_keeps P cause None h = tt
known_keeps P cause (Some x) h = h x refl

-- the number that is read for a name is the number of one of the names
pub number_is : (names : List (List ℕ)) (text : List ℕ) → OfOk (λ n. n < length names) (number_in_names names text)
unfolding number_in_names
number_is names text =
    if_keeps (λ n. n < length names) (is_name text) _ _
    (λ _. known_keeps (λ n. n < length names) _ (position (bytes_eq text) names)
    (λ n e. position_within (bytes_eq text) names n e)) (λ _. tt)

-- a word that is taken as a new name is a name, and none of those so far
pub new_name_is : (names : List (List ℕ)) (text : List ℕ)
    → OfOk (λ name. (text ≡ name) × (is_name name ≡ true) × (list_any (bytes_eq name) names ≡ false))
    (new_name names text)
unfolding new_name
new_name_is names text =
    let P : List ℕ → Type 0 =
    λ name. (text ≡ name) × (is_name name ≡ true) × (list_any (bytes_eq name) names ≡ false) in
    bind_keeps (λ name. (text ≡ name) × (is_name name ≡ true)) P (name_in text) (λ name. _) (name_in_is text) (λ name i.
    if_keeps P (list_any (bytes_eq name) names) _ _ (λ _. tt) (λ new. (i.0, i.1, new)))

-- places behind those in front, which are places
pub places_are : (names : List (List ℕ)) (front : List ℕ) (texts : List (List ℕ)) → All (λ p. p < length names) front
    → OfOk (λ ps. All (λ p. p < length names) ps × (length ps ≡ length front + length texts))
    (places_onto names front texts)
unfolding places_onto
places_are names front [] h = (h, omega arith)
places_are names front (text ∷ texts) h =
    bind_keeps (λ n. n < length names)
    (λ ps. All (λ p. p < length names) ps × (length ps ≡ length front + length (text ∷ texts)))
    (number_in_names names text) (λ place. places_onto names (front ++ place ∷ []) texts) (number_is names text)
    (λ place within. more place
    (places_are names (front ++ place ∷ []) texts (All-push (λ p. p < length names) front place h within))) where
      weaker : {A E : Type 0} (Q P : A → Type 0) (r : Result A E) → ((x : A) → Q x → P x) → OfOk Q r → OfOk P r
      weaker Q P (Ok x) h q = h x q
      weaker Q P (Err e) h q = tt

      more : (place : ℕ)
          → OfOk (λ ps. All (λ p. p < length names) ps × (length ps ≡ length (front ++ place ∷ []) + length texts))
          (places_onto names (front ++ place ∷ []) texts)
          → OfOk (λ ps. All (λ p. p < length names) ps × (length ps ≡ length front + length (text ∷ texts)))
          (places_onto names (front ++ place ∷ []) texts)
      more place r =
          weaker _ _ (places_onto names (front ++ place ∷ []) texts)
          (λ ps q. (q.0, omega (arith, q.1, length-append front (place ∷ [])))) r

-- where the count of a line's words is taken, it lies within the bounds
pub counted_is : (low high : ℕ) (words : List (List ℕ))
    → OfOk (λ _. (low ≤ length words) × (length words ≤ high)) (counted low high words)
counted_is low high words =
    if_keeps (λ _. (low ≤ length words) × (length words ≤ high)) (leb low (length words) && leb (length words) high) _ _
    (λ e. (grind (arith, nat_tests), grind (arith, nat_tests))) (λ _. tt)

-- ---- nothing yet

-- of a list without items, anything holds of each item
pub none_all : {A : Type 0} (P : A → Type 0) (xs : List A) → xs ≡ [] → All P xs
none_all P xs e = All-same P xs [] e (All-nil P)

-- of what isn't there, anything holds
pub none_if : {A : Type 0} (P : A → Type 0) (o : Option A) → o ≡ None → IfSome o P
none_if P None e = tt
none_if P (Some x) e = absurd cc

-- ---- places and levers

all_more : (xs : List (List ℕ)) (x : List ℕ) → list_all is_name xs ≡ true → is_name x ≡ true
    → list_all is_name (xs ++ x ∷ []) ≡ true
all_more xs x h e = list_all-append is_name xs (x ∷ []) ∙ rw (h, e) refl

-- a box with a place more still meets the conditions of a box
pub place_keeps : (boxes b k : ℕ) (name : List ℕ) (box_plan : BoxFields) (words : List (List ℕ)) → k ≤ 7
    → Built boxes b k name box_plan → OfOk (Built boxes b 7 name) (place_onto box_plan words)
unfolding place_onto new_place
place_keeps boxes b k own box_plan words low h =
    bind_any (Built boxes b 7 own) (counted 2 2 words) _ (λ _.
    bind_keeps
    (λ name. (word 1 words ≡ name) × (is_name name ≡ true) × (list_any (bytes_eq name) box_plan.places ≡ false)
    × (bytes_eq (word 1 words) (codes "away") ≡ false)) (Built boxes b 7 own) (new_place box_plan (word 1 words)) _
    (if_keeps _ (bytes_eq (word 1 words) (codes "away")) _ _ (λ _. tt)
    (λ other. also other (new_name box_plan.places (word 1 words)) (new_name_is box_plan.places (word 1 words))))
    (λ name i. if_keeps (Built boxes b 7 own) (leb 64 (length box_plan.places)) _ _ (λ _. tt) (λ room.
    let other : list_any (bytes_eq (codes "away")) (box_plan.places ++ name ∷ []) ≡ false =
    list_any-append (bytes_eq (codes "away")) box_plan.places (name ∷ [])
    ∙ rw (h.is.away, turned name i.0 i.3) refl in
    let next : BoxFields = record box_plan { places = box_plan.places ++ name ∷ [] } in
    let few : length (box_plan.places ++ name ∷ []) ≤ 64 =
    grind (arith, nat_tests, length-append box_plan.places (name ∷ [])) in
    record {
      is = record {
        named = all_more box_plan.places name h.is.named i.1;
        distinct = distinct-append box_plan.places name h.is.distinct i.2;
        away = other;
        few_places = few;
        rising = h.is.rising;
        frame = h.is.frame;
        signals = none_all (IsSignal boxes b next) box_plan.signals (h.unread.signals (omega (arith, low)));
        one_each = h.is.one_each;
        starters_last = h.is.starters_last;
        one_up = h.is.one_up;
        one_down = h.is.one_down;
        berth_up = none_if (IsBerth boxes b next Up) box_plan.berth_up (h.unread.up (omega (arith, low)));
        berth_down = none_if (IsBerth boxes b next Down) box_plan.berth_down (h.unread.down (omega (arith, low)));
        berths_differ = h.is.berths_differ;
        tracks = none_all (IsTrackLock next) box_plan.tracks (h.unread.tracks (omega (arith, low)));
        one_track = h.is.one_track;
        rows = none_all (IsBoxRow next) box_plan.rows (h.unread.rows (omega (arith, low)));
        few_rows = h.is.few_rows;
      };
      unread = record {
        levers = λ _. h.unread.levers (omega (arith, low));
        signals = λ _. h.unread.signals (omega (arith, low));
        starters = λ _. h.unread.starters (omega (arith, low));
        up = λ _. h.unread.up (omega (arith, low));
        down = λ _. h.unread.down (omega (arith, low));
        tracks = λ _. h.unread.tracks (omega (arith, low));
        rows = λ _. h.unread.rows (omega (arith, low));
      };
      name = h.name;
    }))) where
      also : bytes_eq (word 1 words) (codes "away") ≡ false → (r : Result (List ℕ) Cause)
          → OfOk (λ name. (word 1 words ≡ name) × (is_name name ≡ true)
          × (list_any (bytes_eq name) box_plan.places ≡ false)) r
          → OfOk (λ name. (word 1 words ≡ name) × (is_name name ≡ true)
          × (list_any (bytes_eq name) box_plan.places ≡ false) × (bytes_eq (word 1 words) (codes "away") ≡ false)) r
      also e (Ok name) h = (h.0, h.1, h.2, e)
      also e (Err cause) h = tt

      swapped : (a b : List ℕ) → bytes_eq a b ≡ false → bytes_eq b a ≡ false
      swapped a b e = go (bytes_eq b a) refl where
        go : (t : Bool) → bytes_eq b a ≡ t → t ≡ false
        go true f = let same = (bytes_eq-Decides b a).0 f in sym ((bytes_eq-Decides a b).1 (sym same)) ∙ e
        go false f = refl

      turned : (name : List ℕ) → word 1 words ≡ name → bytes_eq (word 1 words) (codes "away") ≡ false
          → bytes_eq (codes "away") name ≡ false
      turned name i e = swapped name (codes "away") (ap (λ (t : List ℕ). bytes_eq t (codes "away")) (sym i) ∙ e)

last_more : (before : ℕ) (levers : List Lever) (lever : Lever)
    → last_number before (levers ++ lever ∷ []) ≡ lever.number
last_more before [] lever = refl
last_more before (first ∷ levers) lever = last_more first.number levers lever

-- a box with a lever more still meets the conditions of a box
pub lever_keeps : (boxes b k : ℕ) (name : List ℕ) (box_plan : BoxFields) (words : List (List ℕ)) → k ≤ 8
    → Built boxes b k name box_plan → OfOk (Built boxes b 8 name) (lever_onto box_plan words)
unfolding lever_onto next_number
lever_keeps boxes b k own box_plan words low h =
    bind_any (Built boxes b 8 own) (counted 3 3 words) _ (λ _.
    bind_keeps (λ n. (n ≤ 120) × (frame_size box_plan.levers < n)) (Built boxes b 8 own)
    (next_number box_plan (word 1 words)) _
    (bind_keeps (InRange 1 120 (word 1 words)) (λ n. (n ≤ 120) × (frame_size box_plan.levers < n))
    (number_in 1 120 (word 1 words)) _ (number_in_is 1 120 (word 1 words)) (λ n r.
    if_keeps (λ n. (n ≤ 120) × (frame_size box_plan.levers < n)) (ltb (frame_size box_plan.levers) n) _ _
    (λ above. (r.2, grind (arith, nat_tests))) (λ _. tt)))
    (λ n r. bind_any (Built boxes b 8 own) (kind_in (word 2 words)) _ (λ kind.
    let lever : Lever = record { number = n; kind = kind } in
    let next : BoxFields = record box_plan { levers = box_plan.levers ++ lever ∷ [] } in
    record {
      is = record {
        named = h.is.named;
        distinct = h.is.distinct;
        away = h.is.away;
        few_places = h.is.few_places;
        rising = rising_more 0 box_plan.levers lever h.is.rising r.1;
        frame = rw (last_more 0 box_plan.levers lever) r.0;
        signals = none_all (IsSignal boxes b next) box_plan.signals (h.unread.signals (omega (arith, low)));
        one_each = h.is.one_each;
        starters_last = h.is.starters_last;
        one_up = h.is.one_up;
        one_down = h.is.one_down;
        berth_up = none_if (IsBerth boxes b next Up) box_plan.berth_up (h.unread.up (omega (arith, low)));
        berth_down = none_if (IsBerth boxes b next Down) box_plan.berth_down (h.unread.down (omega (arith, low)));
        berths_differ = h.is.berths_differ;
        tracks = none_all (IsTrackLock next) box_plan.tracks (h.unread.tracks (omega (arith, low)));
        one_track = h.is.one_track;
        rows = none_all (IsBoxRow next) box_plan.rows (h.unread.rows (omega (arith, low)));
        few_rows = h.is.few_rows;
      };
      unread = record {
        levers = λ less. absurd (omega (arith, less));
        signals = λ _. h.unread.signals (omega (arith, low));
        starters = λ _. h.unread.starters (omega (arith, low));
        up = λ _. h.unread.up (omega (arith, low));
        down = λ _. h.unread.down (omega (arith, low));
        tracks = λ _. h.unread.tracks (omega (arith, low));
        rows = λ _. h.unread.rows (omega (arith, low));
      };
      name = h.name;
    })))
