-- What is read of a word determines the word: it is the printed one.
use Rattle.std.proofs.Common.{◌≡◌, ◌≢◌, ℕ, ◌≤◌, Bool, true, false, cond, not, eqb, List, [], ◌∷◌, ◌++◌, length, drop}
use Rattle.std.proofs.Common.{Option, Some, is_some, Result, Ok, Err, refl, sym, ap, ◌∙◌, arith, codes, decimal}
use Rattle.std.proofs.Common.{bytes_eq, position, append_assoc}
use Rattle.std.specs.Prelude.{IfSome}
use Rattle.std.specs.List.{find}
use Rattle.std.proofs.lemmas.Bool.Decides.{nat_tests}
use Rattle.std.proofs.lemmas.List.{append-nil, map-append}
use Rattle.std.proofs.lemmas.Option.{get_or_from_slice_get}
use Rattle.std.proofs.lemmas.Slice.Eq.{bytes_eq-Decides}
use Rattle.rail_text.specs.Words.{is_name, number_in, keyword}
use Rattle.rail_text.specs.declared.cause.Cause.{Cause}
use Rattle.rail_text.specs.declared.cause.Cause.TheVariants as causes
use Rattle.rail_text.proofs.Binds.{OfOk, bind_keeps, if_keeps, InRange, number_in_is}
use Rattle.rail_text.proofs.DistinctNames.{position-found}
use Rattle.bell_codes.specs.Codes.{code_text}
use Rattle.bell_codes.specs.Reading.{code_of}
use Rattle.bell_codes.proofs.Texts.{read_spelled}
use Rattle.line_plan.specs.declared.signal.To.{To}
use Rattle.line_plan.specs.declared.signal.To.TheVariants as ends
use Rattle.plan_draft.specs.declared.draft.Stage.{Stage}
use Rattle.plan_draft.specs.declared.draft.Stage.TheVariants as stages
use Rattle.line_plan.specs.Frames.{BoxFields, lever_of, is_working, signal_of, starter_of}
use Rattle.plan_draft.specs.LineWords.{counted, word, number_in_names, places_onto, way_in, kind_in, end_in, lever_in}
use Rattle.plan_draft.specs.LineWords.{working_in, code_in}
use Rattle.plan_draft.specs.BoxLines.{is_signal_kind, arm_in, over_in, counted_over, leaving_in}
use Rattle.line_plan.specs.Ways.{leaves}
use Rattle.plan_draft.specs.Reading.{line_kind}
use Rattle.plan_text.specs.Printing.{name_word, place_words, over_words}
use Rattle.line_plan.specs.Frames.{kind_word}
use Rattle.line_plan.specs.Ways.{way_word}
use Rattle.plan_text.proofs.Built.{known_keeps, counted_is}

is_same : (a b : List ℕ) → bytes_eq a b ≡ true → a ≡ b
is_same a b e = (bytes_eq-Decides a b).0 e

-- ---- names and places

-- a word that is read as the number of a name is that name
pub name_word_is : (names : List (List ℕ)) (text : List ℕ)
    → OfOk (λ n. text ≡ name_word names n) (number_in_names names text)
unfolding number_in_names
name_word_is names text =
    if_keeps (λ n. text ≡ name_word names n) (is_name text) _ _
    (λ _. known_keeps (λ n. text ≡ name_word names n) causes.UnknownName (position (bytes_eq text) names)
    (λ n e. sym (get_or_from_slice_get names n text [] (position-found names n text e))))
    (λ _. tt)

-- words that are read as places are the names of those places
pub places_are : (names : List (List ℕ)) (front : List ℕ) (texts : List (List ℕ))
    → OfOk (λ ps. place_words names ps ≡ place_words names front ++ texts) (places_onto names front texts)
unfolding places_onto
places_are names front [] = sym (append-nil (place_words names front))
places_are names front (text ∷ texts) =
    bind_keeps (λ n. text ≡ name_word names n) (λ ps. place_words names ps ≡ place_words names front ++ text ∷ texts)
    (number_in_names names text) (λ place. places_onto names (front ++ place ∷ []) texts) (name_word_is names text)
    (λ place e. more place e (places_onto names (front ++ place ∷ []) texts)
    (places_are names (front ++ place ∷ []) texts)) where
      more : (place : ℕ) → text ≡ name_word names place → (r : Result (List ℕ) Cause)
          → OfOk (λ ps. place_words names ps ≡ place_words names (front ++ place ∷ []) ++ texts) r
          → OfOk (λ ps. place_words names ps ≡ place_words names front ++ text ∷ texts) r
      more place e (Ok ps) h =
          h ∙ ap (λ (ws : List (List ℕ)). ws ++ texts) (map-append (name_word names) front (place ∷ []))
          ∙ append_assoc (place_words names front) (name_word names place ∷ []) texts
          ∙ ap (λ (w : List ℕ). place_words names front ++ w ∷ texts) (sym e)
      more place e (Err cause) h = tt

-- ---- ways, kinds, ends, codes

-- a word that is read as a way is the word of that way
pub way_is : (text : List ℕ) → OfOk (λ way. text ≡ way_word way) (way_in text)
unfolding way_in
way_is text =
    if_keeps (λ way. text ≡ way_word way) (bytes_eq text (codes "up")) _ _ (is_same text (codes "up"))
    (λ _. if_keeps (λ way. text ≡ way_word way) (bytes_eq text (codes "down")) _ _ (is_same text (codes "down"))
    (λ _. tt))

-- a word that is read as a lever's kind is the word of that kind
pub kind_is : (text : List ℕ) → OfOk (λ kind. text ≡ kind_word kind) (kind_in text)
unfolding kind_in
kind_is text =
    if_keeps (λ kind. text ≡ kind_word kind) (bytes_eq text (codes "signal")) _ _ (is_same text (codes "signal")) (λ _.
    if_keeps (λ kind. text ≡ kind_word kind) (bytes_eq text (codes "points")) _ _ (is_same text (codes "points")) (λ _.
    if_keeps (λ kind. text ≡ kind_word kind) (bytes_eq text (codes "lock")) _ _ (is_same text (codes "lock")) (λ _.
    if_keeps (λ kind. text ≡ kind_word kind) (bytes_eq text (codes "distant")) _ _ (is_same text (codes "distant"))
    (λ _.
    if_keeps (λ kind. text ≡ kind_word kind) (bytes_eq text (codes "spare")) _ _ (is_same text (codes "spare"))
    (λ _. tt)))))

-- the word of an end that is no section
abbrev pub end_word : List (List ℕ) → To → List ℕ
end_word names (ends.Place place) = name_word names place
end_word names ends.Away = codes "away"
end_word names (ends.Section way) = []

-- an end that is no section
abbrev pub is_end : To → Bool
is_end (ends.Place place) = true
is_end ends.Away = true
is_end (ends.Section way) = false

-- a word that is read as where a signal leads is the word of that place, or `away`
pub end_is : (names : List (List ℕ)) (text : List ℕ)
    → OfOk (λ to. (text ≡ end_word names to) × (is_end to ≡ true)) (end_in names text)
unfolding end_in
end_is names text =
    if_keeps (λ to. (text ≡ end_word names to) × (is_end to ≡ true)) (bytes_eq text (codes "away")) _ _
    (λ e. (is_same text (codes "away") e, refl)) (λ _.
    bind_keeps (λ n. text ≡ name_word names n) (λ to. (text ≡ end_word names to) × (is_end to ≡ true))
    (number_in_names names text) _ (name_word_is names text) (λ place e. (e, refl)))

-- a word that is read as a bell code is the text of that code
pub code_is : (text : List ℕ) → OfOk (λ code. text ≡ code_text code) (code_in text)
code_is text =
    known_keeps (λ code. text ≡ code_text code) causes.BadCode (code_of text) (λ code e. (read_spelled text code e).1)

-- ---- levers

find_passes : {A : Type 0} (p : A → Bool) (xs : List A) (x : A) → find p xs ≡ Some x → p x ≡ true
find_passes p [] x e = absurd cc
find_passes {A} p (y ∷ ys) x e = go (p y) refl (find_passes p ys x) e where
  go : (b : Bool) → p y ≡ b → (find p ys ≡ Some x → p x ≡ true) → cond b (Some y) (find p ys) ≡ Some x → p x ≡ true
  go true t rest e = let same : y ≡ x = cc in ap p (sym same) ∙ t
  go false t rest e = rest e

eqb_is : (a b : ℕ) → eqb a b ≡ true → a ≡ b
eqb_is a b e = grind (arith, nat_tests)

pub lever_is : (b : BoxFields) (text : List ℕ) → OfOk (λ lever. text ≡ decimal lever.number) (lever_in b text)
unfolding lever_in
lever_is b text =
    bind_keeps (InRange 1 120 text) (λ lever. text ≡ decimal lever.number) (number_in 1 120 text) _
    (number_in_is 1 120 text) (λ n r.
    known_keeps (λ lever. text ≡ decimal lever.number) causes.UnknownLever (lever_of b n) (λ lever e.
    r.0 ∙ ap decimal (sym (eqb_is lever.number n (find_passes (λ l. eqb l.number n) b.levers lever e)))))

-- a word that is read as a signal's lever is the decimal number of that lever
pub arm_is : (b : BoxFields) (text : List ℕ) → OfOk (λ n. text ≡ decimal n) (arm_in b text)
unfolding arm_in
arm_is b text =
    bind_keeps (λ lever. text ≡ decimal lever.number) (λ n. text ≡ decimal n) (lever_in b text) _ (lever_is b text)
    (λ lever e.
    if_keeps (λ n. text ≡ decimal n) (not (is_signal_kind lever.kind)) _ _ (λ _. tt) (λ _.
    if_keeps (λ n. text ≡ decimal n) (is_some (signal_of b lever.number)) _ _ (λ _. tt) (λ _. e)))

-- a word that is read as a lever that is no spare one is the decimal number of that lever
pub working_is : (b : BoxFields) (text : List ℕ) → OfOk (λ n. text ≡ decimal n) (working_in b text)
unfolding working_in
working_is b text =
    bind_keeps (λ lever. text ≡ decimal lever.number) (λ n. text ≡ decimal n) (lever_in b text) _ (lever_is b text)
    (λ lever e.
    if_keeps (λ n. text ≡ decimal n) (is_working (Some lever.kind)) _ _ (λ _. e) (λ _. tt))

-- a word that is read as the way of a starter is the word of that way
pub leaving_is : (boxes n : ℕ) (b : BoxFields) (text : List ℕ)
    → OfOk (λ way. text ≡ way_word way) (leaving_in boxes n b text)
unfolding leaving_in
leaving_is boxes n b text =
    bind_keeps (λ way. text ≡ way_word way) (λ way. text ≡ way_word way) (way_in text) _ (way_is text) (λ way e.
    if_keeps (λ way. text ≡ way_word way) (not (leaves boxes n way)) _ _ (λ _. tt) (λ _.
    if_keeps (λ way. text ≡ way_word way) (is_some (starter_of b way)) _ _ (λ _. tt) (λ _. e)))

-- ---- the words of a line

-- a line of two words is its keyword and its second word
pub two_words : (words : List (List ℕ)) → length words ≡ 2 → words ≡ keyword words ∷ word 1 words ∷ []
two_words [] e = absurd (omega (arith, e))
two_words (a ∷ []) e = absurd (omega (arith, e))
two_words (a ∷ b ∷ []) e = refl
two_words (a ∷ b ∷ c ∷ words) e = absurd (omega (arith, e))

-- a line of three words is its keyword, its second word and its third
pub three_words : (words : List (List ℕ)) → length words ≡ 3 → words ≡ keyword words ∷ word 1 words ∷ word 2 words ∷ []
three_words [] e = absurd (omega (arith, e))
three_words (a ∷ []) e = absurd (omega (arith, e))
three_words (a ∷ b ∷ []) e = absurd (omega (arith, e))
three_words (a ∷ b ∷ c ∷ []) e = refl
three_words (a ∷ b ∷ c ∷ d ∷ words) e = absurd (omega (arith, e))

-- a line of three words or more is its keyword, its second word and all behind
pub many_words : (words : List (List ℕ)) → 3 ≤ length words → words ≡ keyword words ∷ word 1 words ∷ drop 2 words
many_words [] e = absurd (omega (arith, e))
many_words (a ∷ []) e = absurd (omega (arith, e))
many_words (a ∷ b ∷ words) e = refl

-- a line of five words is its keyword and the four words behind it
pub five_words : (words : List (List ℕ)) → length words ≡ 5
    → words ≡ keyword words ∷ word 1 words ∷ word 2 words ∷ word 3 words ∷ word 4 words ∷ []
five_words [] e = absurd (omega (arith, e))
five_words (a ∷ []) e = absurd (omega (arith, e))
five_words (a ∷ b ∷ []) e = absurd (omega (arith, e))
five_words (a ∷ b ∷ c ∷ []) e = absurd (omega (arith, e))
five_words (a ∷ b ∷ c ∷ d ∷ []) e = absurd (omega (arith, e))
five_words (a ∷ b ∷ c ∷ d ∷ f ∷ []) e = refl
five_words (a ∷ b ∷ c ∷ d ∷ f ∷ g ∷ words) e = absurd (omega (arith, e))

-- where exactly so many words are asked for and a line is taken, it has so many
pub exactly : (n : ℕ) (words : List (List ℕ)) → OfOk (λ _. length words ≡ n) (counted n n words)
exactly n words = weak (counted n n words) (counted_is n n words) where
  weak : (r : Result (Unit {0}) Cause) → OfOk (λ _. (n ≤ length words) × (length words ≤ n)) r
      → OfOk (λ _. length words ≡ n) r
  weak (Ok x) h = omega (arith, h.0, h.1)
  weak (Err e) h = tt

-- four words, or more than five
pub at_least_four : (words : List (List ℕ)) → OfOk (λ _. (4 ≤ length words) × (length words ≢ 5)) (counted_over words)
at_least_four words =
    if_keeps (λ _. (4 ≤ length words) × (length words ≢ 5)) (eqb (length words) 4) _ _
    (λ e. let four = eqb_is (length words) 4 e in (omega (arith, four), λ five. absurd (omega (arith, four, five))))
    (λ _. weak (counted 6 9 words) (counted_is 6 9 words)) where
      weak : (r : Result (Unit {0}) Cause) → OfOk (λ _. (6 ≤ length words) × (length words ≤ 9)) r
          → OfOk (λ _. (4 ≤ length words) × (length words ≢ 5)) r
      weak (Ok x) h = (omega (arith, h.0), λ five. absurd (omega (arith, h.0, five)))
      weak (Err e) h = tt

over_more : (names : List (List ℕ)) (ps : List ℕ) (more : List (List ℕ)) → 1 ≤ length more → place_words names ps ≡ more
    → over_words names ps ≡ codes "over" ∷ more
over_more names [] more some e = absurd (omega (arith, some, ap length e))
over_more names (p ∷ ps) more some e = ap (λ (ws : List (List ℕ)). codes "over" ∷ ws) e

-- four words, and then those of the places over which a signal runs
pub over_is : (b : BoxFields) (words : List (List ℕ)) → 4 ≤ length words → length words ≢ 5
    → OfOk (λ over. words ≡ keyword words ∷ word 1 words ∷ word 2 words ∷ word 3 words ∷ over_words b.places over)
    (over_in b words)
unfolding over_in
over_is b [] four other = absurd (omega (arith, four))
over_is b (a ∷ []) four other = absurd (omega (arith, four))
over_is b (a ∷ c ∷ []) four other = absurd (omega (arith, four))
over_is b (a ∷ c ∷ d ∷ []) four other = absurd (omega (arith, four))
over_is b (a ∷ c ∷ d ∷ e ∷ []) four other = refl
over_is b (a ∷ c ∷ d ∷ e ∷ f ∷ []) four other = absurd (other refl)
over_is b (a ∷ c ∷ d ∷ e ∷ f ∷ g ∷ words) four other =
    let P : List ℕ → Type 0 = λ over. a ∷ c ∷ d ∷ e ∷ f ∷ g ∷ words ≡ a ∷ c ∷ d ∷ e ∷ over_words b.places over in
    if_keeps P (eqb (length (a ∷ c ∷ d ∷ e ∷ f ∷ g ∷ words)) 4) _ _
    (λ four. let n = eqb_is (length (a ∷ c ∷ d ∷ e ∷ f ∷ g ∷ words)) 4 four in absurd (omega (arith, n))) (λ _.
    if_keeps P (bytes_eq f (codes "over")) _ _
    (λ o. more (is_same f (codes "over") o) (places_onto b.places [] (g ∷ words))
    (places_are b.places [] (g ∷ words))) (λ _. tt)) where
      more : f ≡ codes "over" → (r : Result (List ℕ) Cause) → OfOk (λ ps. place_words b.places ps ≡ g ∷ words) r
          → OfOk (λ over. a ∷ c ∷ d ∷ e ∷ f ∷ g ∷ words ≡ a ∷ c ∷ d ∷ e ∷ over_words b.places over) r
      more o (Ok ps) h =
          ap (λ (w : List ℕ). a ∷ c ∷ d ∷ e ∷ w ∷ g ∷ words) o
          ∙ ap (λ (ws : List (List ℕ)). a ∷ c ∷ d ∷ e ∷ ws) (sym (over_more b.places ps (g ∷ words) (omega arith) h))
      more o (Err cause) h = tt

-- ---- keywords

-- the word with which a line of each kind begins
abbrev pub keyword_of : Stage → List ℕ
keyword_of stages.Start = []
keyword_of stages.Plan = codes "plan"
keyword_of stages.Boxes = codes "boxes"
keyword_of stages.Delay = codes "delay"
keyword_of stages.Looks = codes "looks"
keyword_of stages.Class = codes "class"
keyword_of stages.Box = codes "box"
keyword_of stages.Place = codes "place"
keyword_of stages.Lever = codes "lever"
keyword_of stages.Signal = codes "signal"
keyword_of stages.Starter = codes "starter"
keyword_of stages.Berth = codes "berth"
keyword_of stages.Clear = codes "clear"
keyword_of stages.Permissive = codes "permissive"
keyword_of stages.Track = codes "track"
keyword_of stages.Row = codes "row"
keyword_of stages.Train = codes "train"
keyword_of stages.Ended = codes "end"

abbrev Keyed : List ℕ → Option Stage → Type 0
Keyed text o = IfSome o (λ kind. text ≡ keyword_of kind)

key : (text : List ℕ) (kind : Stage) (rest : Option Stage) → Keyed text rest
    → Keyed text (cond (bytes_eq text (keyword_of kind)) (Some kind) rest)
key text kind rest h = go (bytes_eq text (keyword_of kind)) refl where
  go : (b : Bool) → bytes_eq text (keyword_of kind) ≡ b → Keyed text (cond b (Some kind) rest)
  go true e = is_same text (keyword_of kind) e
  go false e = h

-- a word that is read as a kind of line is the keyword of that kind
pub line_kind_is : (text : List ℕ) → IfSome (line_kind text) (λ kind. text ≡ keyword_of kind)
unfolding line_kind
line_kind_is text =
    key text stages.Plan _
    (key text stages.Boxes _
    (key text stages.Delay _
    (key text stages.Looks _
    (key text stages.Class _
    (key text stages.Box _ (key text stages.Place _ (key text stages.Lever _ (key text stages.Signal _
    (key text stages.Starter _
    (key text stages.Berth _
    (key text stages.Clear _
    (key text stages.Permissive _
    (key text stages.Track _
    (key text stages.Row _ (key text stages.Train _ (key text stages.Ended _ tt))))))))))))))))

pub ruleset is_rules = (
  line_kind_is,
  exactly,
  over_is,
  at_least_four,
  working_is,
  arm_is,
  leaving_is,
  code_is,
  end_is,
  kind_is,
  places_are,
)
