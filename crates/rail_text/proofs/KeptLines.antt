-- A text is read by the lines that aren't skipped.
use Rattle.std.proofs.Common.{◌≡◌, ℕ, ◌+◌, Bool, true, false, cond, not, ltb, leb, ◌&&◌, List, [], ◌∷◌, length, Result}
use Rattle.std.proofs.Common.{Ok, Err, refl, sym, ap, ◌∙◌, arith}
use Rattle.std.specs.List.{list_all, list_any}
use Rattle.std.proofs.lemmas.Bool.Decides.{nat_tests}
use Rattle.rail_text.specs.Lines.{Line, words_of, ended_line}
use Rattle.rail_text.specs.Forms.{is_printable, is_skipped, is_empty_word, form_of}
use Rattle.rail_text.specs.Gives.{◌>>=◌}
use Rattle.rail_text.specs.Texts.{Reads, formed, line_onto, at_line, lines_onto}
use Rattle.rail_text.specs.declared.cause.Cause.{Cause}
use Rattle.rail_text.specs.declared.cause.Cause.TheVariants as causes
use Rattle.rail_text.specs.declared.forms.LineForm.{LineForm}
use Rattle.rail_text.specs.declared.forms.LineForm.TheVariants as forms
use Rattle.rail_text.proofs.Binds.{OfOk, bind_keeps, if_keeps}
use Rattle.rail_text.proofs.PrintedLines.{both}
use Rattle.rail_text.specs.Kept.{is_formed, kept}

-- what the words of these lines make of a draft
abbrev pub all_onto : {D : Type 0} → Reads D → D → List (List ℕ) → Result D Cause
all_onto read draft [] = Ok draft
all_onto read draft (text ∷ texts) = read draft (words_of text) >>= (λ next. all_onto read next texts)

-- what a line makes of a draft, where it has its form
abbrev one_onto : {D : Type 0} → Bool → D → Result D Cause → Result D Cause
one_onto skipped draft read = cond skipped (Ok draft) read

-- the form of a line by the answers of its tests: has an end, printable, too long, skipped, some word empty
abbrev form_by : Bool → Bool → Bool → Bool → Bool → Result LineForm Cause
form_by e p l s g =
    cond (not e) (Err causes.Cut)
    (cond (not p) (Err causes.BadByte)
    (cond l (Err causes.LongLine) (cond s (Ok forms.Skipped) (cond g (Err causes.Spacing) (Ok forms.Words)))))

form_of-by : (line : Line)
    → form_of true line
    ≡ form_by line.ended (list_all is_printable line.text) (ltb 200 (length line.text)) (is_skipped line.text)
    (list_any is_empty_word (words_of line.text))
unfolding form_of
form_of-by line = refl

-- ---- what is read has its form

reads_itself : {D : Type 0} (q : Bool) (r : Result D Cause) → q ≡ true → OfOk (λ next. (q ≡ true) × (r ≡ Ok next)) r
reads_itself q (Ok next) h = (h, refl)
reads_itself q (Err cause) h = tt

line_by : {D : Type 0} (e p l q s g : Bool) (read : Reads D) (draft : D) (words : List (List ℕ))
    → (l ≡ false → q ≡ true)
    → OfOk (λ next. (e && p && q ≡ true) × (one_onto s draft (read draft words) ≡ Ok next))
    (form_by e p l s g >>= formed read draft words)
line_by false p l q s g read draft words h = tt
line_by true false l q s g read draft words h = tt
line_by true true true q s g read draft words h = tt
line_by true true false q true g read draft words h = (h refl, refl)
line_by true true false q false true read draft words h = tt
line_by true true false q false false read draft words h = reads_itself q (read draft words) (h refl)

not_long : (n : ℕ) → ltb 200 n ≡ false → leb n 200 ≡ true
not_long n h = grind (arith, nat_tests)

line_is : {D : Type 0} (read : Reads D) (draft : D) (line : Line)
    → OfOk (λ next. (is_formed line ≡ true)
    × (one_onto (is_skipped line.text) draft (read draft (words_of line.text)) ≡ Ok next))
    (line_onto read draft line)
unfolding line_onto
line_is read draft line = rw (form_of-by line)
    (line_by line.ended (list_all is_printable line.text) (ltb 200 (length line.text)) (leb (length line.text) 200)
    (is_skipped line.text) (list_any is_empty_word (words_of line.text)) read draft (words_of line.text)
    (not_long (length line.text)))

at_line_is : {D : Type 0} (P : D → Type 0) (n : ℕ) (r : Result D Cause) → OfOk P r → OfOk P (at_line n r)
at_line_is P n (Ok draft) h = h
at_line_is P n (Err cause) h = tt

-- what a reading gives
abbrev Given : {D : Type 0} → Result D Cause → D → Type 0
Given r last = r ≡ Ok last

same_draft : {D : Type 0} (draft next : D) → Given (Ok draft) next → draft ≡ next
same_draft draft next e = cc

then_onto : {D : Type 0} (s : Bool) (read : Reads D) (draft next last : D) (text : List ℕ) (texts : List (List ℕ))
    → one_onto s draft (read draft (words_of text)) ≡ Ok next → all_onto read next texts ≡ Ok last
    → all_onto read draft (cond s texts (text ∷ texts)) ≡ Ok last
then_onto true read draft next last text texts e h = ap (λ (d : _). all_onto read d texts) (same_draft draft next e) ∙ h
then_onto false read draft next last text texts e h = ap (λ (r : _). r >>= (λ d. all_onto read d texts)) e ∙ h

-- a text that is read: each line has its form, and the lines that aren't skipped give what is read
pub lines_are : {D : Type 0} (read : Reads D) (ended : D → Bool) (n : ℕ) (draft : D) (lines : List Line)
    → OfOk (λ last. (list_all is_formed lines ≡ true) × (all_onto read draft (kept lines) ≡ Ok last)
    × (ended last ≡ true)) (lines_onto read ended n draft lines)
unfolding lines_onto
lines_are read ended n draft [] =
    if_keeps (λ last. (true ≡ true) × (Ok draft ≡ Ok last) × (ended last ≡ true)) (ended draft) _ _
    (λ e. (refl, refl, e)) (λ _. tt)
lines_are {D} read ended n draft (line ∷ lines) =
    let Q : D → Type 0 =
    λ next. (is_formed line ≡ true)
    × (one_onto (is_skipped line.text) draft (read draft (words_of line.text)) ≡ Ok next) in
    let R : D → D → Type 0 =
    λ next last. (list_all is_formed lines ≡ true) × (all_onto read next (kept lines) ≡ Ok last)
    × (ended last ≡ true) in
    let P : D → Type 0 =
    λ last. (list_all is_formed (line ∷ lines) ≡ true) × (all_onto read draft (kept (line ∷ lines)) ≡ Ok last)
    × (ended last ≡ true) in
    bind_keeps Q P (at_line n (line_onto read draft line)) (λ next. lines_onto read ended (n + 1) next lines)
    (at_line_is Q n (line_onto read draft line) (line_is read draft line))
    (λ next q. weaker (R next) P (lines_onto read ended (n + 1) next lines)
    (λ last r. (
      and_true (is_formed line) (list_all is_formed lines) q.0 r.0,
      then_onto (is_skipped line.text) read draft next last line.text (kept lines) q.1 r.1,
      r.2,
    ))
    (lines_are read ended (n + 1) next lines)) where
      and_true : (a b : Bool) → a ≡ true → b ≡ true → a && b ≡ true
      and_true a b e f = rw (e, f) refl

      weaker : {A E : Type 0} (Q P : A → Type 0) (r : Result A E) → ((x : A) → Q x → P x) → OfOk Q r → OfOk P r
      weaker Q P (Ok x) h q = h x q
      weaker Q P (Err e) h q = tt

-- ---- what has its form is read

-- a text that stands as a line of words
abbrev pub IsWords : List ℕ → Type 0
IsWords text = form_of true (ended_line text) ≡ Ok forms.Words

-- each of the texts stands as a line of words
abbrev pub AllWords : List (List ℕ) → Type 0
AllWords [] = Unit {0}
AllWords (text ∷ texts) = IsWords text × AllWords texts

words_form : (e p l s g : Bool) → form_by e p l s g ≡ Ok forms.Words → (p ≡ true) × (l ≡ false) × (s ≡ false)
words_form false p l s g h = absurd cc
words_form true false l s g h = absurd cc
words_form true true true s g h = absurd cc
words_form true true false true g h = absurd cc
words_form true true false false g h = (refl, refl, refl)

words_are : (text : List ℕ) → IsWords text
    → (list_all is_printable text ≡ true) × (ltb 200 (length text) ≡ false) × (is_skipped text ≡ false)
words_are text w =
    words_form true (list_all is_printable text) (ltb 200 (length text)) (is_skipped text)
    (list_any is_empty_word (words_of text)) (sym (form_of-by (ended_line text)) ∙ w)

-- a line of words has its form
pub words_formed : (text : List ℕ) → IsWords text → is_formed (ended_line text) ≡ true
words_formed text w = let p = words_are text w in rw (p.0, not_long (length text) p.1) refl

-- a line of words isn't skipped
pub words_kept : (text : List ℕ) → IsWords text → is_skipped text ≡ false
words_kept text w = (words_are text w).2

skipped_form : (e p l q g : Bool) → e && p && q ≡ true → (q ≡ true → l ≡ false)
    → form_by e p l true g ≡ Ok forms.Skipped
skipped_form false p l q g f h = absurd cc
skipped_form true false l q g f h = absurd cc
skipped_form true true l q g f h = rw (h f) refl

not_long_is : (n : ℕ) → leb n 200 ≡ true → ltb 200 n ≡ false
not_long_is n h = grind (arith, nat_tests)

skipped_is : (line : Line) → is_formed line ≡ true → is_skipped line.text ≡ true → form_of true line ≡ Ok forms.Skipped
skipped_is line f s =
    form_of-by line
    ∙ rw s (skipped_form line.ended (list_all is_printable line.text) (ltb 200 (length line.text))
    (leb (length line.text) 200) (list_any is_empty_word (words_of line.text)) f (not_long_is (length line.text)))

ended_is : (line : Line) → is_formed line ≡ true → line.ended ≡ true
ended_is line f =
    (both line.ended (list_all is_printable line.text)
    (both (line.ended && list_all is_printable line.text) (leb (length line.text) 200) f).0).0

words_is : (line : Line) → line.ended ≡ true → IsWords line.text → form_of true line ≡ Ok forms.Words
words_is line e w = ap (λ (ended : Bool). form_of true (record { text = line.text; ended = ended })) e ∙ w

-- a value that is read in two steps
first_step : {D : Type 0} (r : Result D Cause) (f : D → Result D Cause) (last : D) → r >>= f ≡ Ok last
    → (next : D) × (r ≡ Ok next) × (f next ≡ Ok last)
first_step (Ok next) f last e = (next, refl, e)
first_step (Err cause) f last e = absurd cc

line_then : {D : Type 0} (read : Reads D) (ended : D → Bool) (n : ℕ) (draft next : D) (line : Line) (lines : List Line)
    (form : LineForm)
    → form_of true line ≡ Ok form → formed read draft (words_of line.text) form ≡ Ok next
    → lines_onto read ended n draft (line ∷ lines) ≡ lines_onto read ended (n + 1) next lines
unfolding lines_onto line_onto
line_then read ended n draft next line lines form f r = rw (f, r) refl

-- lines that have their form are read by those that aren't skipped
pub lines_read : {D : Type 0} (read : Reads D) (ended : D → Bool) (n : ℕ) (draft last : D) (lines : List Line)
    → list_all is_formed lines ≡ true → AllWords (kept lines)
    → all_onto read draft (kept lines) ≡ Ok last → ended last ≡ true → lines_onto read ended n draft lines ≡ Ok last
unfolding lines_onto
lines_read read ended n draft last [] f w r e = let same = same_draft draft last r in rw (ap ended same, e) (ap Ok same)
lines_read {D} read ended n draft last (line ∷ lines) f w r e =
    let fs = both (is_formed line) (list_all is_formed lines) f in
    go (is_skipped line.text) refl w r fs.0 (λ next v t. lines_read read ended (n + 1) next last lines fs.1 v t e) where
      go : (s : Bool) → is_skipped line.text ≡ s → AllWords (cond s (kept lines) (line.text ∷ kept lines))
          → all_onto read draft (cond s (kept lines) (line.text ∷ kept lines)) ≡ Ok last → is_formed line ≡ true
          → ((next : D) → AllWords (kept lines) → all_onto read next (kept lines) ≡ Ok last
          → lines_onto read ended (n + 1) next lines ≡ Ok last)
          → lines_onto read ended n draft (line ∷ lines) ≡ Ok last
      go true s w r own rest =
          line_then read ended n draft draft line lines forms.Skipped (skipped_is line own s) refl ∙ rest draft w r
      go false s w r own rest =
          let step = first_step (read draft (words_of line.text)) (λ next. all_onto read next (kept lines)) last r in
          line_then read ended n draft step.0 line lines forms.Words (words_is line (ended_is line own) w.0) step.1
          ∙ rest step.0 w.1 step.2
