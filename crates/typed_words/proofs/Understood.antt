-- A word that is understood may stand there and begins as it is typed, and it is the typed one or the only such word.
use Rattle.std.proofs.Common.{◌≡◌, ℕ, Bool, true, false, cond, ◌&&◌, ◌||◌, List, [], ◌∷◌, Option, Some, None, Ok}
use Rattle.std.proofs.Common.{filter, not, ◌↔◌, refl, ap, sym, subst, ◌∙◌, bytes_eq}
use Rattle.std.specs.List.{list_any}
use Rattle.std.proofs.lemmas.Slice.Eq.{bytes_eq-Decides}
use Rattle.rail_text.specs.Gives.{◌>>=◌}
use Rattle.rail_text.proofs.PrintedLines.{both}
use Rattle.typed_words.specs.declared.table.WordKind.{WordKind}
use Rattle.typed_words.specs.Table.{may_stand, word_rows}
use Rattle.typed_words.specs.Chosen.{IsUnderstood, Row, begins, chosen, chosen_of, fitting, fitting_of, meant}
use Rattle.typed_words.specs.Chosen.{or_only, whole, words_in}
use Rattle.typed_words.specs.Lines.{word_in_full}
use Rattle.typed_words.proofs.WrittenOut.{whole_words}

-- the word is that of one of these rows
abbrev is_among : List ℕ → List Row → Bool
is_among word rows = list_any (bytes_eq word) (words_in rows)

-- every word begins with nothing
begins_nothing : (word : List ℕ) → begins [] word ≡ true
begins_nothing [] = refl
begins_nothing (b ∷ bs) = refl

or_right : (a b : Bool) → b ≡ true → a || b ≡ true
or_right true b h = refl
or_right false b h = h

same : (word other : List ℕ) → bytes_eq word other ≡ true → word ≡ other
same word other h = (bytes_eq-Decides word other).0 h

-- ---- the words that may stand there and begin so are among all that may stand there

fits_here : (kind : WordKind) (typed word : List ℕ) (row : Row) (fits all : List Row) (s : Bool)
    → bytes_eq word row.0 ≡ s → begins typed row.0 ≡ true
    → (is_among word fits ≡ true → (begins typed word ≡ true) × (is_among word all ≡ true))
    → s || is_among word fits ≡ true → (begins typed word ≡ true) × (s || is_among word all ≡ true)
fits_here kind typed word row fits all true e t later h = (ap (begins typed) (same word row.0 e) ∙ t, refl)
fits_here kind typed word row fits all false e t later h = later h

fits_among : (kind : WordKind) (typed word : List ℕ) (rows : List Row)
    → is_among word (fitting_of rows kind typed) ≡ true
    → (begins typed word ≡ true) × (is_among word (fitting_of rows kind []) ≡ true)
fits_among kind typed word [] h = absurd cc
fits_among kind typed word (row ∷ rows) h =
    go (may_stand kind row.1) (begins typed row.0) (begins [] row.0) refl (begins_nothing row.0)
    (fits_among kind typed word rows) h where
      go : (m t u : Bool) → begins typed row.0 ≡ t → u ≡ true
          → (is_among word (fitting_of rows kind typed) ≡ true
          → (begins typed word ≡ true) × (is_among word (fitting_of rows kind []) ≡ true))
          → is_among word (cond (m && t) (row ∷ fitting_of rows kind typed) (fitting_of rows kind typed)) ≡ true
          → (begins typed word ≡ true)
          × (is_among word (cond (m && u) (row ∷ fitting_of rows kind []) (fitting_of rows kind [])) ≡ true)
      go true true true e f more h =
          fits_here kind typed word row (fitting_of rows kind typed) (fitting_of rows kind []) (bytes_eq word row.0)
          refl e more h
      go true false true e f more h =
          let k = more h in (k.0, or_right (bytes_eq word row.0) (is_among word (fitting_of rows kind [])) k.1)
      go true t false e f more h = absurd cc
      go false t u e f more h = more h

-- ---- and all of those that begin so

among_here : (word : List ℕ) (row : Row) (fits all : List Row) (s : Bool)
    → (is_among word all ≡ true → is_among word fits ≡ true) → s || is_among word all ≡ true
    → s || is_among word fits ≡ true
among_here word row fits all true later h = refl
among_here word row fits all false later h = later h

among_off : (typed word : List ℕ) (row : Row) (fits all : List Row) (s : Bool) → bytes_eq word row.0 ≡ s
    → begins typed row.0 ≡ false → begins typed word ≡ true
    → (is_among word all ≡ true → is_among word fits ≡ true) → s || is_among word all ≡ true
    → is_among word fits ≡ true
among_off typed word row fits all true e off so later h =
    let on : begins typed row.0 ≡ true = ap (begins typed) (sym (same word row.0 e)) ∙ so in
    absurd cc
among_off typed word row fits all false e off so later h = later h

among_fits : (kind : WordKind) (typed word : List ℕ) (rows : List Row) → begins typed word ≡ true
    → is_among word (fitting_of rows kind []) ≡ true → is_among word (fitting_of rows kind typed) ≡ true
among_fits kind typed word [] so h = absurd cc
among_fits kind typed word (row ∷ rows) so h =
    go (may_stand kind row.1) (begins typed row.0) (begins [] row.0) refl (begins_nothing row.0)
    (among_fits kind typed word rows so) h where
      go : (m t u : Bool) → begins typed row.0 ≡ t → u ≡ true
          → (is_among word (fitting_of rows kind []) ≡ true → is_among word (fitting_of rows kind typed) ≡ true)
          → is_among word (cond (m && u) (row ∷ fitting_of rows kind []) (fitting_of rows kind [])) ≡ true
          → is_among word (cond (m && t) (row ∷ fitting_of rows kind typed) (fitting_of rows kind typed)) ≡ true
      go true true true e f more h =
          among_here word row (fitting_of rows kind typed) (fitting_of rows kind []) (bytes_eq word row.0) more h
      go true false true e f more h =
          among_off typed word row (fitting_of rows kind typed) (fitting_of rows kind []) (bytes_eq word row.0) refl e
          so more h
      go true t false e f more h = absurd cc
      go false t u e f more h = more h

-- ---- the chosen word

eq_self : (word : List ℕ) → bytes_eq word word ≡ true
eq_self word = (bytes_eq-Decides word word).1 refl

-- a whole word is among the rows, and is the typed one
whole_is : (rows : List Row) (typed : List ℕ) (row : Row) → whole rows typed ≡ Some row
    → (is_among row.0 rows ≡ true) × (row.0 ≡ typed)
whole_is [] typed row h = absurd cc
whole_is (next ∷ rows) typed row h = go (bytes_eq next.0 typed) refl (whole_is rows typed row) h where
  go : (t : Bool) → bytes_eq next.0 typed ≡ t
      → (whole rows typed ≡ Some row → (is_among row.0 rows ≡ true) × (row.0 ≡ typed))
      → cond t (Some next) (whole rows typed) ≡ Some row
      → (is_among row.0 (next ∷ rows) ≡ true) × (row.0 ≡ typed)
  go true e more h =
      let is : next ≡ row = cc in
      let first : bytes_eq row.0 next.0 ≡ true = subst (λ (r : Row). bytes_eq r.0 next.0 ≡ true) is (eq_self next.0) in
      (rw first refl, subst (λ (r : Row). r.0 ≡ typed) is (same next.0 typed e))
  go false e more h = let k = more h in (or_right (bytes_eq row.0 next.0) (is_among row.0 rows) k.0, k.1)

-- the chosen row is among these, and where it isn't the typed word it is the only one
record IsChosen (rows : List Row) (typed : List ℕ) (row : Row) : Type 0 where
  among : is_among row.0 rows ≡ true
  only : (other : List ℕ) → ¬ (row.0 ≡ typed) → is_among other rows ≡ true → other ≡ row.0

only_one : (row next : Row) (other : List ℕ) → next ≡ row → bytes_eq other next.0 || false ≡ true → other ≡ row.0
only_one row next other e h = go (bytes_eq other next.0) refl h where
  go : (t : Bool) → bytes_eq other next.0 ≡ t → t || false ≡ true → other ≡ row.0
  go true f h = same other next.0 f ∙ ap (λ (r : Row). r.0) e
  go false f h = absurd cc

chosen_is : (rows : List Row) (typed : List ℕ) (row : Row) → chosen rows typed ≡ Some row → IsChosen rows typed row
chosen_is rows typed row h = go (whole rows typed) refl rows refl h where
  go : (w : Option Row) → whole rows typed ≡ w → (all : List Row) → all ≡ rows → or_only w all ≡ Some row
      → IsChosen rows typed row
  go (Some found) e all f h =
      let is : found ≡ row = cc in
      let k = whole_is rows typed row (e ∙ ap Some is) in
      record { among = k.0; only = λ other differs g. absurd (differs k.1) }
  go None e [] f h = absurd cc
  go None e (next ∷ []) f h =
      let is : next ≡ row = cc in
      let first : bytes_eq row.0 next.0 ≡ true = subst (λ (r : Row). bytes_eq r.0 next.0 ≡ true) is (eq_self next.0) in
      let among : is_among row.0 (next ∷ []) ≡ true = rw first refl in
      record {
        among = subst (λ (all : List Row). is_among row.0 all ≡ true) f among;
        only = λ other differs g.
            only_one row next other is (subst (λ (all : List Row). is_among other all ≡ true) (sym f) g);
      }
  go None e (next ∷ more ∷ all) f h = absurd cc

-- a word that is understood
understood : (kind : WordKind) (at : ℕ) (typed word : List ℕ) → word_in_full (Some kind) at typed ≡ Ok word
    → IsUnderstood kind typed word
unfolding meant
understood kind at typed word h =
    go (fitting kind typed) refl (chosen (fitting kind typed) typed) refl h where
      row_is : (row : Row) → chosen (fitting kind typed) typed ≡ Some row → row.0 ≡ word → IsUnderstood kind typed word
      row_is row e is =
          let c = chosen_is (fitting kind typed) typed row e in
          let k = fits_among kind typed row.0 word_rows c.among in
          subst (λ (w : List ℕ). IsUnderstood kind typed w) is (record {
            stands = k.1;
            begins_so = k.0;
            only = λ other there so differs. c.only other differs (among_fits kind typed other word_rows so there);
          })

      go : (fits : List Row) → fitting kind typed ≡ fits → (o : Option Row) → chosen (fitting kind typed) typed ≡ o
          → (chosen_of kind at fits o >>= (λ row. Ok row.0)) ≡ Ok word → IsUnderstood kind typed word
      go fits f (Some row) e h = let is : row.0 ≡ word = cc in row_is row e is
      go [] f None e h = absurd cc
      go (row ∷ rows) f None e h = absurd cc

-- ---- the only word that may stand there and begins so is understood

-- no word stands twice
once : List Row → Bool
once [] = true
once (row ∷ rows) = not (is_among row.0 rows) && once rows

filter_among : (p : Row → Bool) (word : List ℕ) (rows : List Row) → is_among word (filter p rows) ≡ true
    → is_among word rows ≡ true
filter_among p word [] h = absurd cc
filter_among p word (row ∷ rows) h = go (p row) (filter_among p word rows) h where
  go : (t : Bool) → (is_among word (filter p rows) ≡ true → is_among word rows ≡ true)
      → is_among word (cond t (row ∷ filter p rows) (filter p rows)) ≡ true → is_among word (row ∷ rows) ≡ true
  go true more h = among_here word row rows (filter p rows) (bytes_eq word row.0) more h
  go false more h = or_right (bytes_eq word row.0) (is_among word rows) (more h)

absent : (a b : Bool) → (b ≡ true → a ≡ true) → not a ≡ true → not b ≡ true
absent true true f h = absurd cc
absent false true f h = let e : false ≡ true = f refl in absurd cc
absent a false f h = refl

once_filter : (p : Row → Bool) (rows : List Row) → once rows ≡ true → once (filter p rows) ≡ true
unfolding once
once_filter p [] h = refl
once_filter p (row ∷ rows) h =
    let k = both (not (is_among row.0 rows)) (once rows) h in go (p row) k.0 (once_filter p rows k.1) where
      go : (t : Bool) → not (is_among row.0 rows) ≡ true → once (filter p rows) ≡ true
          → once (cond t (row ∷ filter p rows) (filter p rows)) ≡ true
      go true new rest =
          rw (absent (is_among row.0 rows) (is_among row.0 (filter p rows)) (filter_among p row.0 rows) new) rest
      go false new rest = rest

once_table : once word_rows ≡ true
unfolding once
once_table = refl

or_no : (a b : Bool) → a ≡ true → not (a || b) ≡ true → ⊥
or_no true b e h = cc
or_no false b e h = cc

twice : (row next : Row) (rows : List Row) → once (row ∷ next ∷ rows) ≡ true → row.0 ≡ next.0 → ⊥
unfolding once
twice row next rows h e =
    let k = both (not (is_among row.0 (next ∷ rows))) (once (next ∷ rows)) h in
    let f : bytes_eq row.0 next.0 ≡ true = subst (λ (w : List ℕ). bytes_eq row.0 w ≡ true) e (eq_self row.0) in
    or_no (bytes_eq row.0 next.0) (is_among row.0 rows) f k.0

first_among : (row : Row) (rows : List Row) → is_among row.0 (row ∷ rows) ≡ true
first_among row rows = rw (eq_self row.0) refl

-- the only word of rows is chosen
only_chosen : (kind : WordKind) (at : ℕ) (word : List ℕ) (fits : List Row) → once fits ≡ true
    → is_among word fits ≡ true → ((other : List ℕ) → is_among other fits ≡ true → other ≡ word)
    → (chosen_of kind at fits (or_only None fits) >>= (λ row. Ok row.0)) ≡ Ok word
only_chosen kind at word [] h here only = absurd cc
only_chosen kind at word (row ∷ []) h here only = ap Ok (only row.0 (first_among row []))
only_chosen kind at word (row ∷ next ∷ rows) h here only =
    let one = only row.0 (first_among row (next ∷ rows)) in
    let other =
    only next.0 (or_right (bytes_eq next.0 row.0) (is_among next.0 (next ∷ rows)) (first_among next rows)) in
    absurd (twice row next rows h (one ∙ sym other))

chosen_only : (kind : WordKind) (at : ℕ) (typed word : List ℕ) (fits : List Row) → once fits ≡ true
    → is_among word fits ≡ true → ¬ (word ≡ typed)
    → ((other : List ℕ) → is_among other fits ≡ true → other ≡ word)
    → (chosen_of kind at fits (chosen fits typed) >>= (λ row. Ok row.0)) ≡ Ok word
chosen_only kind at typed word fits h here differs only = go (whole fits typed) refl where
  go : (o : Option Row) → whole fits typed ≡ o
      → (chosen_of kind at fits (or_only o fits) >>= (λ row. Ok row.0)) ≡ Ok word
  go (Some row) e = let k = whole_is fits typed row e in absurd (differs (sym (only row.0 k.0) ∙ k.1))
  go None e = only_chosen kind at word fits h here only

known : (kind : WordKind) (at : ℕ) (typed word : List ℕ) → IsUnderstood kind typed word
    → word_in_full (Some kind) at typed ≡ Ok word
unfolding meant
known kind at typed word u = go (bytes_eq word typed) refl where
  go : (t : Bool) → bytes_eq word typed ≡ t
      → (chosen_of kind at (fitting kind typed) (chosen (fitting kind typed) typed) >>= (λ row. Ok row.0)) ≡ Ok word
  go true e =
      subst (λ (w : List ℕ). word_in_full (Some kind) at w ≡ Ok word) (same word typed e)
      (whole_words kind at word u.stands)
  go false e =
      let differs : ¬ (word ≡ typed) = λ f. let on = (bytes_eq-Decides word typed).1 f in cc in
      chosen_only kind at typed word (fitting kind typed)
      (once_filter (λ row. may_stand kind row.1 && begins typed row.0) word_rows once_table)
      (among_fits kind typed word word_rows u.begins_so u.stands) differs
      (λ other h. let k = fits_among kind typed other word_rows h in u.only other k.1 k.0 differs)

-- a typed word is taken in full exactly where it is understood so
pub understood_is : (kind : WordKind) (at : ℕ) (typed word : List ℕ)
    → (word_in_full (Some kind) at typed ≡ Ok word) ↔ IsUnderstood kind typed word
understood_is kind at typed word = (understood kind at typed word, known kind at typed word)
