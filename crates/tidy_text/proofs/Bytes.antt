-- Which bytes a mended line has.
use Rattle.std.proofs.Common.{◌≡◌, ℕ, Bool, true, false, not, ◌&&◌, ◌||◌, cond, eqb, List, [], ◌∷◌, refl, sym, ap, ◌∙◌}
use Rattle.std.specs.List.{list_all, join_with_byte}
use Rattle.rail_text.proofs.PrintedLines.{both}
use Rattle.rail_text.specs.Lines.{lacks}
use Rattle.tidy_text.specs.Tidy.{blank_words, is_blank, is_comment, spaced, tidy_line, without_return}
use Rattle.tidy_text.proofs.Words.{put_from, puts_words}

-- two tests that hold hold together
pub pair : (a b : Bool) → a ≡ true → b ≡ true → a && b ≡ true
pair true b e f = f
pair false b e f = absurd cc

-- a byte that is a blank or one of these
abbrev pub or_blank : (ℕ → Bool) → ℕ → Bool
or_blank p b = is_blank b || p b

put_step : (p : ℕ → Bool) (t has_word has_blank : Bool) (b : ℕ) (bs : List ℕ) → is_blank b ≡ t → p 32 ≡ true
    → or_blank p b ≡ true
    → ((has_word has_blank : Bool) → list_all p (put_from has_word has_blank bs) ≡ true)
    → list_all p (put_from has_word has_blank (b ∷ bs)) ≡ true
put_step p true has_word has_blank b bs is space here rest = rw is (rest has_word true)
put_step p false has_word has_blank b bs is space here rest =
    let this : p b ≡ true = ap (λ (t : Bool). t || p b) (sym is) ∙ here in
    let more : list_all p (b ∷ put_from true false bs) ≡ true = pair _ _ this (rest true false) in
    rw is (go (has_word && has_blank) more) where
      go : (s : Bool) → list_all p (b ∷ put_from true false bs) ≡ true
          → list_all p (cond s (32 ∷ b ∷ put_from true false bs) (b ∷ put_from true false bs)) ≡ true
      go true more = pair _ _ space more
      go false more = more

put_all : (p : ℕ → Bool) (text : List ℕ) → p 32 ≡ true → list_all (or_blank p) text ≡ true
    → (has_word has_blank : Bool) → list_all p (put_from has_word has_blank text) ≡ true
put_all p [] space each has_word has_blank = refl
put_all p (b ∷ bs) space each has_word has_blank =
    let e = both _ _ each in
    put_step p (is_blank b) has_word has_blank b bs refl space e.0 (put_all p bs space e.1)

spaced_all : (p : ℕ → Bool) (text : List ℕ) → p 32 ≡ true → list_all (or_blank p) text ≡ true
    → list_all p (spaced text) ≡ true
spaced_all p [] space each = refl
spaced_all p (b ∷ bs) space each = let e = both _ _ each in go (is_blank b) e.0 (spaced_all p bs space e.1) where
  go : (t : Bool) → t || p b ≡ true → list_all p (spaced bs) ≡ true
      → p (cond t 32 b) && list_all p (spaced bs) ≡ true
  go true here rest = pair _ _ space rest
  go false here rest = pair _ _ here rest

return_all : (p : ℕ → Bool) (text : List ℕ) → list_all p text ≡ true → list_all p (without_return text) ≡ true
return_all p [] each = refl
return_all p (b ∷ []) each = go (eqb b 13) where
  go : (t : Bool) → list_all p (cond t [] (b ∷ [])) ≡ true
  go true = refl
  go false = each
return_all p (b ∷ c ∷ bs) each = let e = both _ _ each in pair _ _ e.0 (return_all p (c ∷ bs) e.1)

-- bytes that a line has or that are spaces are those of the mended line, where its blanks need not be so
pub line_all : (p : ℕ → Bool) (text : List ℕ) → p 32 ≡ true → list_all (or_blank p) text ≡ true
    → list_all p (tidy_line text) ≡ true
line_all p text space each = unfolded (go (is_comment text)) where
  go : (t : Bool) → list_all p (cond t (spaced (without_return text)) (join_with_byte 32 (blank_words text))) ≡ true
  go true = spaced_all p (without_return text) space (return_all (or_blank p) text each)
  go false = ap (λ (xs : List ℕ). list_all p xs) (sym (puts_words text)) ∙ put_all p text space each false false

  unfolded : list_all p (cond (is_comment text) (spaced (without_return text)) (join_with_byte 32 (blank_words text)))
      ≡ true → list_all p (tidy_line text) ≡ true
  unfolded e = e

each_of : (p : ℕ → Bool) (text : List ℕ) → ((b : ℕ) → p b ≡ true) → list_all p text ≡ true
each_of p [] all = refl
each_of p (b ∷ bs) all = pair _ _ (all b) (each_of p bs all)

or_else : (q p : ℕ → Bool) (text : List ℕ) → list_all p text ≡ true → list_all (λ b. q b || p b) text ≡ true
or_else q p [] each = refl
or_else q p (b ∷ bs) each = let e = both _ _ each in pair _ _ (go (q b) e.0) (or_else q p bs e.1) where
  go : (t : Bool) → p b ≡ true → t || p b ≡ true
  go true here = refl
  go false here = here

-- a mended line has no tab, no carriage return and no line end
pub no_tab : (text : List ℕ) → lacks 9 (tidy_line text) ≡ true
no_tab text = line_all (λ b. not (eqb b 9)) text refl (each_of _ text all) where
  all : (b : ℕ) → is_blank b || not (eqb b 9) ≡ true
  all b = go (eqb b 9) (eqb b 13) (eqb b 32) where
    go : (s t u : Bool) → ((s || t) || u) || not s ≡ true
    go true t u = refl
    go false true u = refl
    go false false true = refl
    go false false false = refl

-- there is no carriage return in a mended line
pub no_return : (text : List ℕ) → lacks 13 (tidy_line text) ≡ true
no_return text = line_all (λ b. not (eqb b 13)) text refl (each_of _ text all) where
  all : (b : ℕ) → is_blank b || not (eqb b 13) ≡ true
  all b = go (eqb b 9) (eqb b 13) (eqb b 32) where
    go : (s t u : Bool) → ((s || t) || u) || not t ≡ true
    go true t u = refl
    go false true u = refl
    go false false true = refl
    go false false false = refl

-- there is no line end in a mended line, where there was none in the line
pub no_end : (text : List ℕ) → lacks 10 text ≡ true → lacks 10 (tidy_line text) ≡ true
no_end text each = line_all (λ b. not (eqb b 10)) text refl (or_else is_blank (λ b. not (eqb b 10)) text each)
