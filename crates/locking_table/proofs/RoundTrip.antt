-- What is printed of a row is read as that row.
use Rattle.std.proofs.Common.{◌≡◌, ℕ, ◌+◌, ◌≤◌, true, List, [], ◌∷◌, ◌++◌, length, Some, refl, ap, ◌∙◌, arith, decimal}
use Rattle.std.proofs.Common.{codes}
use Rattle.std.specs.Prelude.{All, Ok}
use Rattle.std.specs.List.{flat_map, list_all}
use Rattle.std.proofs.lemmas.List.Elements.{All-head, All-tail}
use Rattle.locking_table.specs.declared.places.End.{End}
use Rattle.locking_table.specs.declared.places.End.TheVariants.{Normal, Reversed}
use Rattle.locking_table.specs.declared.row.Cond.{Cond}
use Rattle.locking_table.specs.declared.row.Row.{Row}
use Rattle.locking_table.specs.declared.row.RowKind.{RowKind}
use Rattle.locking_table.specs.declared.row.RowKind.TheVariants.{LocksNormal, ReleasedBy, LocksBoth}
use Rattle.locking_table.specs.Places.{IsLever}
use Rattle.locking_table.specs.Printing.{cond_words, end_word, kind_words, row_text, row_words, when_words}
use Rattle.locking_table.specs.Reading.{asked_by, asked_from, bound_from, cond_from, conds_from, end_from, end_of_text}
use Rattle.locking_table.specs.Reading.{grammar_of, lever_from, locked_by, locked_from, only, only_from, row_from}
use Rattle.locking_table.specs.Reading.{row_of, second_from, verb_from}
use Rattle.locking_table.specs.Sound.{CondFits, IsGrammarRow, IsRow, RowFits, all_differ, levers_of}
use Rattle.locking_table.specs.Words.{Left, words_of}
use Rattle.locking_table.proofs.LeverWords.{lever_of-decimal}
use Rattle.locking_table.proofs.WordLemmas.{decimal_no_space, has_no_space, words_of-joined}

-- the words that are left, the first of which has this number
abbrev pub at : ℕ → List (List ℕ) → Left
at n words = record { number = n; words = words }

-- ---- the words of a row are read as that row

pub lever_reads : (n lever : ℕ) (words : List (List ℕ)) → IsLever 120 lever
    → lever_from (at n (decimal lever ∷ words)) ≡ Ok (lever, at (n + 1) words)
unfolding lever_from
lever_reads n lever words is = rw (lever_of-decimal lever is) refl

pub end_reads : (n : ℕ) (e : End) (words : List (List ℕ))
    → end_from (at n (end_word e ∷ words)) ≡ Ok (e, at (n + 1) words)
unfolding end_from
end_reads n Normal words = refl
end_reads n Reversed words = refl

pub only_reads : (n : ℕ) (joint : List ℕ) (words : List (List ℕ)) → only joint joint ≡ Some tt
    → only_from joint (at n (joint ∷ words)) ≡ Ok (tt, at (n + 1) words)
unfolding only_from
only_reads n joint words is = rw is refl

cond_reads : (n : ℕ) (joint : List ℕ) (cond : Cond) (words : List (List ℕ)) → only joint joint ≡ Some tt
    → CondFits 120 cond → cond_from joint (at n (cond_words joint cond ++ words)) ≡ Ok (cond, at (n + 1 + 1 + 1) words)
unfolding cond_from
cond_reads n joint cond words is fits =
    rw (
      only_reads n joint (decimal cond.lever ∷ end_word cond.end ∷ words) is,
      lever_reads (n + 1) cond.lever (end_word cond.end ∷ words) fits,
      end_reads (n + 1 + 1) cond.end words,
    ) refl

conds_reads : (n : ℕ) (when : List Cond) → All (CondFits 120) when → length when ≤ 2
    → conds_from (at n (when_words when)) ≡ Ok when
unfolding conds_from second_from end_of_text
conds_reads n [] fits few = refl
conds_reads n (c ∷ []) fits few = rw (cond_reads n (codes "when") c [] refl (All-head (CondFits 120) c [] fits)) refl
conds_reads n (c ∷ d ∷ []) fits few =
    rw (
      cond_reads n (codes "when") c (cond_words (codes "and") d ++ []) refl (All-head (CondFits 120) c (d ∷ []) fits),
      cond_reads (n + 1 + 1 + 1) (codes "and") d [] refl
          (All-head (CondFits 120) d [] (All-tail (CondFits 120) c (d ∷ []) fits)),
    ) refl
conds_reads n (c ∷ d ∷ e ∷ conds) fits few = absurd (omega arith)

-- the number of the word behind what a row says of its object
abbrev pub next_of : RowKind → ℕ
next_of LocksNormal = 5
next_of ReleasedBy = 5
next_of LocksBoth = 6

pub asked_reads : (kind : RowKind) (object : ℕ) (words : List (List ℕ)) → IsLever 120 object
    → asked_from (at 2 (kind_words kind object ++ words)) ≡ Ok ((kind, object), at (next_of kind) words)
unfolding asked_from asked_by locked_from locked_by verb_from bound_from only_from
asked_reads LocksNormal object words is = rw (lever_reads 3 object (codes "normal" ∷ words) is) refl
asked_reads ReleasedBy object words is = rw (lever_reads 4 object words is) refl
asked_reads LocksBoth object words is = rw (lever_reads 3 object (codes "both" ∷ codes "ways" ∷ words) is) refl

-- the words of a row of the grammar are read as that row
pub row_reads : (row : Row) → IsGrammarRow row → row_from (at 1 (row_words row)) ≡ Ok row
unfolding row_from
row_reads row is =
    rw (
      lever_reads 1 row.subject (kind_words row.kind row.object ++ when_words row.when) is.levers.subject,
      asked_reads row.kind row.object (when_words row.when) is.levers.object,
      conds_reads (next_of row.kind) row.when is.levers.when is.few,
    ) refl

-- ---- its text has these words

end_plain : (e : End) → has_no_space (end_word e) ≡ true
end_plain Normal = refl
end_plain Reversed = refl

cond_plain : (joint : List ℕ) (cond : Cond) (words : List (List ℕ)) → has_no_space joint ≡ true → CondFits 120 cond
    → list_all has_no_space words ≡ true → list_all has_no_space (cond_words joint cond ++ words) ≡ true
cond_plain joint cond words is fits h =
    let lever = decimal_no_space cond.lever (omega arith) in let e = end_plain cond.end in rw (is, lever, e) h

more_plain : (conds : List Cond) → All (CondFits 120) conds
    → list_all has_no_space (flat_map (cond_words (codes "and")) conds) ≡ true
more_plain [] fits = refl
more_plain (c ∷ cs) fits =
    cond_plain (codes "and") c (flat_map (cond_words (codes "and")) cs) refl (All-head (CondFits 120) c cs fits)
    (more_plain cs (All-tail (CondFits 120) c cs fits))

when_plain : (conds : List Cond) → All (CondFits 120) conds → list_all has_no_space (when_words conds) ≡ true
when_plain [] fits = refl
when_plain (c ∷ cs) fits =
    cond_plain (codes "when") c (flat_map (cond_words (codes "and")) cs) refl (All-head (CondFits 120) c cs fits)
    (more_plain cs (All-tail (CondFits 120) c cs fits))

kind_plain : (kind : RowKind) (object : ℕ) (words : List (List ℕ)) → IsLever 120 object
    → list_all has_no_space words ≡ true → list_all has_no_space (kind_words kind object ++ words) ≡ true
kind_plain LocksNormal object words is h = let lever = decimal_no_space object (omega arith) in rw lever h
kind_plain ReleasedBy object words is h = let lever = decimal_no_space object (omega arith) in rw lever h
kind_plain LocksBoth object words is h = let lever = decimal_no_space object (omega arith) in rw lever h

row_plain : (row : Row) → RowFits 120 row → list_all has_no_space (row_words row) ≡ true
row_plain row fits =
    let subject = fits.subject in
    let lever = decimal_no_space row.subject (omega arith) in
    rw lever (kind_plain row.kind row.object (when_words row.when) fits.object (when_plain row.when fits.when))

pub words_of-row_text : (row : Row) → RowFits 120 row → words_of (row_text row) ≡ row_words row
words_of-row_text row fits =
    words_of-joined (decimal row.subject) (kind_words row.kind row.object ++ when_words row.when) (row_plain row fits)

-- the text of a row of the grammar is read as that row
pub grammar_reads : (row : Row) → IsGrammarRow row → grammar_of (row_text row) ≡ Ok row
unfolding grammar_of
grammar_reads row is =
    ap (λ (words : List (List ℕ)). row_from (at 1 words)) (words_of-row_text row is.levers) ∙ row_reads row is

-- the text of a row, whose levers all differ, is read as that row
pub printed_is_read : (row : Row) → IsRow row → row_of (row_text row) ≡ Ok row
unfolding row_of
printed_is_read row is =
    let grammar : IsGrammarRow row = record { levers = is.levers; few = is.few } in
    let differ : all_differ (levers_of row) ≡ true = is.differ in
    rw (grammar_reads row grammar, differ) refl
