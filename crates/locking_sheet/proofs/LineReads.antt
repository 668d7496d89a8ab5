-- The lines of the levers are read as their rows.
use Rattle.std.proofs.Common.{◌≡◌, ℕ, zero, suc, ◌+◌, ◌<◌, ◌≤◌, Bool, true, false, List, [], ◌∷◌, ◌++◌, length, map}
use Rattle.std.proofs.Common.{refl, sym, ◌∙◌, subst, arith, codes, decimal, if◌then◌else◌, append_assoc, append-nil}
use Rattle.std.specs.Prelude.{All, Ok, nat_le, nat_lt}
use Rattle.std.specs.List.{flat_map}
use Rattle.std.proofs.lemmas.Bool.Decides.{nat_tests}
use Rattle.std.proofs.lemmas.List.Elements.{All-head, All-tail}
use Rattle.rail_text.specs.Lines.{lacks}
use Rattle.locking_table.specs.declared.places.End.{End}
use Rattle.locking_table.specs.declared.places.End.TheVariants.{Normal, Reversed}
use Rattle.locking_table.specs.declared.row.Cond.{Cond}
use Rattle.locking_table.specs.declared.row.Row.{Row}
use Rattle.locking_table.specs.declared.row.RowKind.{RowKind}
use Rattle.locking_table.specs.declared.row.RowKind.TheVariants.{LocksNormal, ReleasedBy, LocksBoth}
use Rattle.locking_table.specs.Sound.{CondFits, IsRow}
use Rattle.line_plan.specs.declared.frame.Kind.{Kind}
use Rattle.line_plan.specs.declared.frame.Kind.TheVariants as kinds
use Rattle.line_plan.specs.declared.frame.Lever.{Lever}
use Rattle.line_plan.specs.Frames.{kind_word}
use Rattle.row_texts.specs.declared.draft.Entry.{Entry}
use Rattle.row_texts.specs.declared.draft.Place.{Place}
use Rattle.row_texts.specs.declared.draft.Place.TheVariants as places
use Rattle.row_texts.specs.Drafts.{most_number}
use Rattle.row_texts.specs.Texts.{ReaderFields, start}
use Rattle.row_texts.proofs.PlaceLemmas.{within}
use Rattle.locking_sheet.specs.Items.{cond_text, conds_text, converse_text, converse_verb, end_text, item_text}
use Rattle.locking_sheet.specs.Lines.{LinesFields, begun, line_ended, on_line, put, width}
use Rattle.locking_sheet.specs.Sheets.{SheetFields, places_at, row_at}
use Rattle.locking_sheet.specs.Texts.{converses_onto, items_onto, lever_head, lever_onto, other_onto}
use Rattle.locking_sheet.specs.Texts.{legend_text, own_onto, title_lines, title_text, works_text}
use Rattle.locking_sheet.proofs.Onto.{beside_on, decimal_inside, lacks-append, mark_on, onto, onto_then, holds}
use Rattle.locking_sheet.proofs.ItemReads.{at, decimal_on, entry, item_reads, number_read, some_digits}

-- the reader at a place, with nothing begun
abbrev pub stands : Place → List Entry → ReaderFields
stands place es = holds [] (at place [] [] es)

-- what lines are read as
abbrev pub AreRead : LinesFields → ReaderFields → Type 0
AreRead lines reader = onto start lines.text ≡ Ok reader

-- ---- the beginning of a lever's line

spaces_on : (n : ℕ) (es : List Entry) (t u : Bool)
    → onto (stands places.Start es) (decimal n ++ codes ":") ≡ Ok (stands (places.Line n) es)
    → onto (stands places.Start es)
    ((if t then codes "  " ++ decimal n else (if u then codes " " ++ decimal n else decimal n)) ++ codes ":")
    ≡ Ok (stands (places.Line n) es)
spaces_on n es true u h = h
spaces_on n es false true h = h
spaces_on n es false false h = h

pub head_on : (n : ℕ) (es : List Entry) → 1 ≤ n → n ≤ 120
    → onto (stands places.Start es) (lever_head n) ≡ Ok (stands (places.Line n) es)
unfolding lever_head
head_on n es low few =
    let read = number_read 120 n low few (omega arith) in
    let byte = mark_on 58 (decimal n) (at places.Start [] [] es) (at (places.Named n) [] [] es)
    (at (places.Line n) [] [] es) refl refl (some_digits n (omega arith)) (rw read refl) refl in
    spaces_on n es (nat_lt n 10) (nat_lt n 100)
    (onto_then (stands places.Start es) (holds (decimal n) (at places.Start [] [] es)) (stands (places.Line n) es) (decimal n)
    (codes ":") (decimal_on n [] (at places.Start [] [] es) (omega arith) refl) (rw byte refl))

-- ---- a piece is put in its line, or in a new one

module _ (head piece : List ℕ) (lines : LinesFields) (old fresh new : ReaderFields) (so_far : AreRead lines old)
    (here : onto old piece ≡ Ok new) (there : onto old (codes "\n" ++ head) ≡ Ok fresh)
    (anew : onto fresh piece ≡ Ok new) where
  put_by : (t : Bool)
      → AreRead (if t then on_line lines piece else on_line (begun (line_ended lines) head) piece) new
  put_by true = onto_then start old new lines.text piece so_far here
  put_by false =
      subst (λ (text : List ℕ). onto start text ≡ Ok new)
      (sym (append_assoc (lines.text ++ codes "\n") head piece ∙ append_assoc lines.text (codes "\n") (head ++ piece)))
      (onto_then start old new lines.text (codes "\n" ++ head ++ piece) so_far
      (onto_then old fresh new (codes "\n" ++ head) piece there anew))

  pub put_on : AreRead (put head lines piece) new
  unfolding put
  put_on = put_by (nat_le (lines.at + length piece) width)

-- ---- a lever's own rows

abbrev pub entry_at : List Row → ℕ → Entry
entry_at rows place = entry (row_at rows place) (place + 1)

-- a place of one of the lever's own rows
pub record IsOwn (rows : List Row) (lever place : ℕ) : Type 0 where
  pub there : place < length rows
  pub subject : (row_at rows place).subject ≡ lever

chosen_read : (t : Bool) (one other : LinesFields) (reader : ReaderFields) → t ≡ true → AreRead one reader
    → AreRead (if t then one else other) reader
chosen_read true one other reader h is_read = is_read
chosen_read false one other reader h is_read = cc

there_test : (rows : List Row) (place : ℕ) → place < length rows → nat_lt place (length rows) ≡ true
there_test rows place less = grind (arith, nat_tests)

pub row_is : (rows : List Row) (place : ℕ) → place < length rows → All IsRow rows → IsRow (row_at rows place)
row_is [] place less all = absurd (omega (arith, less))
row_is (row ∷ rows) zero less all = All-head IsRow row rows all
row_is (row ∷ rows) (suc place) less all = row_is rows place (omega (arith, less)) (All-tail IsRow row rows all)

module _ (rows : List Row) (all : All IsRow rows) (few : length rows ≤ most_number) where
  one_read : (lever place : ℕ) (es : List Entry) (lines : LinesFields) → 1 ≤ lever → lever ≤ 120
      → IsOwn rows lever place → AreRead lines (stands (places.Line lever) es)
      → AreRead (own_onto (lever_head lever) rows lines place)
      (stands (places.Line lever) (es ++ entry_at rows place ∷ []))
  one_read lever place es lines low high own so_far =
      let here = own.there in
      let piece : (e : List Entry) → onto (stands (places.Line lever) e) (item_text (place + 1) (row_at rows place))
      ≡ Ok (stands (places.Line lever) (e ++ entry_at rows place ∷ [])) = λ e.
      subst (λ (l : ℕ). onto (stands (places.Line l) e) (item_text (place + 1) (row_at rows place))
      ≡ Ok (stands (places.Line l) (e ++ entry_at rows place ∷ []))) own.subject
      (item_reads (row_at rows place) (place + 1) e (row_is rows place own.there all) (omega arith) (omega arith)) in
      chosen_read (nat_lt place (length rows))
      (put (lever_head lever) lines (item_text (place + 1) (row_at rows place))) lines
      (stands (places.Line lever) (es ++ entry_at rows place ∷ [])) (there_test rows place own.there)
      (put_on (lever_head lever) (item_text (place + 1) (row_at rows place)) lines (stands (places.Line lever) es)
      (stands (places.Line lever) es) (stands (places.Line lever) (es ++ entry_at rows place ∷ [])) so_far (piece es)
      (onto_then (stands (places.Line lever) es) (stands places.Start es) (stands (places.Line lever) es) (codes "\n")
      (lever_head lever) refl (head_on lever es low high)) (piece es))

  items_read : (lever : ℕ) (ps : List ℕ) (es : List Entry) (lines : LinesFields) → 1 ≤ lever → lever ≤ 120
      → All (IsOwn rows lever) ps → AreRead lines (stands (places.Line lever) es)
      → AreRead (items_onto (lever_head lever) rows lines ps)
      (stands (places.Line lever) (es ++ map (entry_at rows) ps))
  items_read lever [] es lines low high own so_far =
      subst (λ (e : List Entry). AreRead lines (stands (places.Line lever) e)) (sym (append-nil es)) so_far
  items_read lever (p ∷ ps) es lines low high own so_far =
      subst (λ (e : List Entry). AreRead (items_onto (lever_head lever) rows lines (p ∷ ps)) (stands (places.Line lever) e))
      (append_assoc es (entry_at rows p ∷ []) (map (entry_at rows) ps))
      (items_read lever ps (es ++ entry_at rows p ∷ []) (own_onto (lever_head lever) rows lines p) low high
      (All-tail (IsOwn rows lever) p ps own)
      (one_read lever p es lines low high (All-head (IsOwn rows lever) p ps own) so_far))

  -- ---- what the lever works, and the converse

  end_lacks : (e : End) → lacks 10 (end_text e) ≡ true
  end_lacks Normal = refl
  end_lacks Reversed = refl

  cond_lacks : (joint : List ℕ) (c : Cond) → lacks 10 joint ≡ true → CondFits 120 c
      → lacks 10 (cond_text joint c) ≡ true
  unfolding cond_text
  cond_lacks joint c is fits =
      lacks-append (joint ++ decimal c.lever) (end_text c.end)
      (lacks-append joint (decimal c.lever) is (decimal_inside c.lever (omega arith))) (end_lacks c.end)

  more_lack : (cs : List Cond) → All (CondFits 120) cs → lacks 10 (flat_map (cond_text (codes " and ")) cs) ≡ true
  more_lack [] fits = refl
  more_lack (c ∷ cs) fits =
      lacks-append (cond_text (codes " and ") c) (flat_map (cond_text (codes " and ")) cs)
      (cond_lacks (codes " and ") c refl (All-head (CondFits 120) c cs fits))
      (more_lack cs (All-tail (CondFits 120) c cs fits))

  conds_lack : (cs : List Cond) → All (CondFits 120) cs → lacks 10 (conds_text cs) ≡ true
  conds_lack [] fits = refl
  conds_lack (c ∷ cs) fits =
      lacks-append (cond_text (codes " when ") c) (flat_map (cond_text (codes " and ")) cs)
      (cond_lacks (codes " when ") c refl (All-head (CondFits 120) c cs fits))
      (more_lack cs (All-tail (CondFits 120) c cs fits))

  verb_lacks : (kind : RowKind) → lacks 10 (converse_verb kind) ≡ true
  verb_lacks LocksNormal = refl
  verb_lacks ReleasedBy = refl
  verb_lacks LocksBoth = refl

  converse_lacks : (number : ℕ) (row : Row) → number ≤ most_number → IsRow row
      → lacks 10 (converse_text number row) ≡ true
  unfolding converse_text
  converse_lacks number row small is =
      let subject = is.levers.subject in
      lacks-append (codes " #" ++ decimal number ++ converse_verb row.kind ++ decimal row.subject ++ conds_text row.when)
      (codes ";")
      (lacks-append (codes " #" ++ decimal number ++ converse_verb row.kind ++ decimal row.subject) (conds_text row.when)
      (lacks-append (codes " #" ++ decimal number ++ converse_verb row.kind) (decimal row.subject)
      (lacks-append (codes " #" ++ decimal number) (converse_verb row.kind)
      (lacks-append (codes " #") (decimal number) refl (decimal_inside number (omega arith))) (verb_lacks row.kind))
      (decimal_inside row.subject (omega arith))) (conds_lack row.when is.levers.when)) refl

  other_read : (place : ℕ) (es : List Entry) (lines : LinesFields) → place < length rows
      → AreRead lines (stands places.Beside es)
      → AreRead (other_onto rows lines place) (stands places.Beside es)
  other_read place es lines less so_far =
      let piece = beside_on (converse_text (place + 1) (row_at rows place)) (at places.Beside [] [] es) refl
      (converse_lacks (place + 1) (row_at rows place) (omega arith) (row_is rows place less all)) in
      chosen_read (nat_lt place (length rows))
      (put (codes "     |") lines (converse_text (place + 1) (row_at rows place))) lines (stands places.Beside es)
      (there_test rows place less)
      (put_on (codes "     |") (converse_text (place + 1) (row_at rows place)) lines (stands places.Beside es)
      (stands places.Beside es) (stands places.Beside es) so_far piece refl piece)

  others_read : (ps : List ℕ) (es : List Entry) (lines : LinesFields) → All (λ p. p < length rows) ps
      → AreRead lines (stands places.Beside es)
      → AreRead (converses_onto rows lines ps) (stands places.Beside es)
  others_read [] es lines within so_far = so_far
  others_read (p ∷ ps) es lines within so_far =
      others_read ps es (other_onto rows lines p) (All-tail (λ (p : ℕ). p < length rows) p ps within)
      (other_read p es lines (All-head (λ (p : ℕ). p < length rows) p ps within) so_far)

  works_on_line : (lever : ℕ) (kind : Kind) (es : List Entry)
      → onto (stands (places.Line lever) es) (codes " | " ++ kind_word kind ++ codes ";")
      ≡ Ok (stands places.Beside es)
  works_on_line lever kinds.Signal es = refl
  works_on_line lever kinds.Points es = refl
  works_on_line lever kinds.Lock es = refl
  works_on_line lever kinds.Distant es = refl
  works_on_line lever kinds.Spare es = refl

  works_on_start : (kind : Kind) (es : List Entry)
      → onto (stands places.Start es) (codes " | " ++ kind_word kind ++ codes ";") ≡ Ok (stands places.Beside es)
  works_on_start kinds.Signal es = refl
  works_on_start kinds.Points es = refl
  works_on_start kinds.Lock es = refl
  works_on_start kinds.Distant es = refl
  works_on_start kinds.Spare es = refl

  works_read : (lever : ℕ) (work : Lever) (es : List Entry) (lines : LinesFields)
      → AreRead lines (stands (places.Line lever) es)
      → AreRead (put (codes "    ") lines (works_text work)) (stands places.Beside es)
  unfolding works_text
  works_read lever work es lines so_far =
      put_on (codes "    ") (codes " | " ++ kind_word work.kind ++ codes ";") lines (stands (places.Line lever) es)
      (stands places.Start es) (stands places.Beside es) so_far (works_on_line lever work.kind es) refl
      (works_on_start work.kind es)

  -- ---- a lever's lines, and those of all levers

  pub lever_read : (sheet : SheetFields) (lever : Lever) (es : List Entry) (lines : LinesFields) → 1 ≤ lever.number
      → lever.number ≤ 120 → All (IsOwn rows lever.number) (places_at sheet.own lever.number)
      → All (λ p. p < length rows) (places_at sheet.converse lever.number) → AreRead lines (stands places.Start es)
      → AreRead (lever_onto rows sheet lines lever)
      (stands places.Start (es ++ map (entry_at rows) (places_at sheet.own lever.number)))
  unfolding lever_onto
  lever_read sheet lever es lines low high own others so_far =
      let more = es ++ map (entry_at rows) (places_at sheet.own lever.number) in
      let begins : AreRead (begun lines (lever_head lever.number)) (stands (places.Line lever.number) es) =
      onto_then start (stands places.Start es) (stands (places.Line lever.number) es) lines.text
      (lever_head lever.number) so_far (head_on lever.number es low high) in
      let items = items_read lever.number (places_at sheet.own lever.number) es (begun lines (lever_head lever.number)) low
      high own begins in
      let works = works_read lever.number lever more
      (items_onto (lever_head lever.number) rows (begun lines (lever_head lever.number))
      (places_at sheet.own lever.number)) items in
      let whole = others_read (places_at sheet.converse lever.number) more
      (put (codes "    ")
      (items_onto (lever_head lever.number) rows (begun lines (lever_head lever.number))
      (places_at sheet.own lever.number)) (works_text lever)) others works in
      onto_then start (stands places.Beside more) (stands places.Start more)
      (converses_onto rows
      (put (codes "    ")
      (items_onto (lever_head lever.number) rows (begun lines (lever_head lever.number))
      (places_at sheet.own lever.number)) (works_text lever)) (places_at sheet.converse lever.number)).text (codes "\n")
      whole refl

-- ---- what stands above the lines

legend_read : onto (stands places.Start []) legend_text ≡ Ok (stands places.Start [])
unfolding legend_text
legend_read = refl

pub title_read : (name : List ℕ) → lacks 10 name ≡ true → AreRead (title_lines name) (stands places.Start [])
unfolding title_text
title_read name none =
    onto_then start (stands places.Start []) (stands places.Start [])
    (codes "# locking table of " ++ name ++ codes "\n") legend_text
    (onto_then start (stands places.Beside []) (stands places.Start []) (codes "# locking table of " ++ name) (codes "\n")
    (onto_then start (stands places.Beside []) (stands places.Beside []) (codes "# locking table of ") name refl
    (beside_on name (at places.Beside [] [] []) refl none)) refl) legend_read
