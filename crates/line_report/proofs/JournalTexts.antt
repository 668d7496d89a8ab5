-- Journals are read as they are spelled, and only so.
use Rattle.std.proofs.Common.{◌≡◌, ℕ, ◌+◌, ◌^◌, ◌<◌, ◌≤◌, Bool, true, false, not, cond, eqb, ltb, List, [], ◌∷◌, ◌++◌}
use Rattle.std.proofs.Common.{length, take, replicate, Option, Some, None, Result, Ok, Err, IfOk, IsErrOf, refl, sym}
use Rattle.std.proofs.Common.{ap, subst, ◌∙◌, arith, append_assoc, codes, bytes_eq, decimal}
use Rattle.std.specs.Prelude.{All}
use Rattle.std.specs.List.{flat_map, list_all, join_with_byte}
use Rattle.std.proofs.lemmas.Bool.{le-ltb, ltb-false}
use Rattle.std.proofs.lemmas.List.{length-append}
use Rattle.std.proofs.lemmas.Slice.Eq.{bytes_eq-Decides}
use Rattle.rail_text.specs.Forms.{is_word, form_of}
use Rattle.rail_text.specs.Gives.{Fault, GivesText}
use Rattle.rail_text.specs.Lines.{Line, lines_of, line_bytes, words_of, lacks, ended_line}
use Rattle.rail_text.specs.Texts.{at_line}
use Rattle.rail_text.specs.Words.{keyword, one_word, no_word, number_in}
use Rattle.rail_text.specs.declared.cause.Cause.{Cause}
use Rattle.rail_text.specs.declared.cause.Cause.TheVariants as causes
use Rattle.rail_text.specs.declared.cause.ReadError.{ReadError}
use Rattle.rail_text.specs.declared.cause.ReadError.TheVariants as errors
use Rattle.rail_text.specs.declared.forms.LineForm.TheVariants as forms
use Rattle.rail_text.proofs.Binds.{OfOk, bind_keeps, if_keeps, InRange, one_word_is, no_word_is, number_in_is}
use Rattle.rail_text.proofs.Limits.{limited-take}
use Rattle.rail_text.proofs.PrintedLines.{joined-words_of, some_words, lines_are, lines_of-line}
use Rattle.rail_text.proofs.PrintedWords.{decimal_is_word, length-decimal_word, words_of-words, form_of-words}
use Rattle.rail_text.proofs.PrintedWords.{joined_lacks_line_end, number_in-decimal}
use Rattle.line_plan.specs.Plans.{PlanFields, IsPlan}
use Rattle.line_law.specs.declared.call.Entry.{Entry}
use Rattle.line_law.specs.declared.call.Journal.{Journal}
use Rattle.script_text.specs.Entries.{IsSpelled}
use Rattle.line_report.specs.Asked.{AreAsked, AreFewEntries}
use Rattle.line_report.specs.Journals.{entry_text, entries_text, journal_text}
use Rattle.line_report.specs.Readers.{SoFar, entry_onto, start}
use Rattle.line_report.specs.Reading.{most_journal_bytes, end_in, entries_from, entries_of, entry_in, heading_in}
use Rattle.line_report.specs.Reading.{heading_of, journal_of, told_by, told_in, told_onto, version_in}
use Rattle.line_report.specs.Spelled.{IsBehind, SpellsJournal}
use Rattle.line_report.proofs.AskedEntries.{AreBehind, behind_spelled, behind_answered, behind_asked}
use Rattle.line_report.proofs.AskedEntries.{asked_behind}
use Rattle.line_report.proofs.EntryLines.{line_text, entry_text-line, IsEntryOf, entry_is, line_form, line_lacks_end}
use Rattle.line_report.proofs.EntryLines.{line_no_end, entry_read}

-- ---- lines

of_any : {A E : Type 0} (P : Type 0) (r : Result A E) → P → OfOk (λ _. P) r
of_any P (Ok x) h = h
of_any P (Err e) h = tt

weaker : {A E : Type 0} (Q P : A → Type 0) (r : Result A E) → ((x : A) → Q x → P x) → OfOk Q r → OfOk P r
weaker Q P (Ok x) h q = h x q
weaker Q P (Err e) h q = tt

-- a line whose words are read has its end
form_ended : (line : Line) → OfOk (λ _. line.ended ≡ true) (form_of false line)
unfolding form_of
form_ended line =
    if_keeps (λ _. line.ended ≡ true) (not line.ended) _ _ (λ _. tt)
    (λ e. of_any (line.ended ≡ true) _ (is_true line.ended e)) where
      is_true : (b : Bool) → not b ≡ false → b ≡ true
      is_true true e = refl
      is_true false e = absurd cc

at_line_is : {D : Type 0} (P : D → Type 0) (n : ℕ) (r : Result D Cause) → OfOk P r → OfOk P (at_line n r)
at_line_is P n (Ok draft) h = h
at_line_is P n (Err cause) h = tt

-- the bytes of a line with its end
ended_bytes : (line : Line) (text : List ℕ) → line.ended ≡ true → line.text ≡ text → line_bytes line ≡ text ++ 10 ∷ []
ended_bytes line text e is = rw e (ap (λ (t : List ℕ). t ++ 10 ∷ []) is)

-- a text of two words, or of one, by its words
two_are : (text first second : List ℕ) → words_of text ≡ first ∷ second ∷ [] → text ≡ first ++ 32 ∷ second
two_are text first second e = sym (joined-words_of text) ∙ ap (join_with_byte 32) e

one_is : (text word : List ℕ) → words_of text ≡ word ∷ [] → text ≡ word
one_is text word e = sym (joined-words_of text) ∙ ap (join_with_byte 32) e

-- ---- what a line behind the heading is read as

-- a line that is `end`, or one of an entry
abbrev pub IsTold : SoFar → Line → Option Entry → Type 0
IsTold so_far line None = (line.ended ≡ true) × (line.text ≡ codes "end")
IsTold so_far line (Some e) = (line.ended ≡ true) × IsEntryOf so_far line.text e

end_is : (so_far : SoFar) (line : Line) → line.ended ≡ true → keyword (words_of line.text) ≡ codes "end"
    → OfOk (IsTold so_far line) (end_in (words_of line.text))
unfolding end_in
end_is so_far line ended k =
    bind_keeps (λ _. words_of line.text ≡ keyword (words_of line.text) ∷ []) (IsTold so_far line)
    (no_word (words_of line.text)) _ (no_word_is (words_of line.text) (some_words line.text)) (λ _ e. (
      ended,
      one_is line.text (codes "end") (e ∙ ap (λ (w : List ℕ). w ∷ []) k),
    ))

words_is : (so_far : SoFar) (line : Line) → line.ended ≡ true
    → OfOk (IsTold so_far line) (told_in so_far (words_of line.text))
unfolding told_in
words_is so_far line ended =
    if_keeps (IsTold so_far line) (bytes_eq (keyword (words_of line.text)) (codes "end")) _ _
    (λ e. end_is so_far line ended ((bytes_eq-Decides (keyword (words_of line.text)) (codes "end")).0 e))
    (λ _. bind_keeps (IsEntryOf so_far line.text) (IsTold so_far line) (entry_in so_far (words_of line.text)) _
    (entry_is so_far line.text) (λ e is. (ended, is)))

-- what is read of a journal's line is told by it
pub told_is : (so_far : SoFar) (line : Line) → OfOk (IsTold so_far line) (told_by so_far line)
unfolding told_by
told_is so_far line =
    bind_keeps (λ _. line.ended ≡ true) (IsTold so_far line) (form_of false line) _ (form_ended line)
    (λ form ended. words_is so_far line ended)

-- ---- what the lines behind the heading are read as

-- these lines tell such entries behind those that are read, and then `end`, with whatever stands behind it
record AreTold (so_far : SoFar) (lines : List Line) (es : List Entry) : Type 0 where
  rest : List ℕ
  behind : AreBehind so_far.plan so_far.moments es
  bytes : flat_map line_bytes lines ≡ (entries_text so_far.plan (so_far.count + 1) es ++ codes "end\n") ++ rest

ended_told : (so_far : SoFar) (line : Line) (lines : List Line) → line.ended ≡ true → line.text ≡ codes "end"
    → AreTold so_far (line ∷ lines) []
ended_told so_far line lines ended is = record {
  rest = flat_map line_bytes lines;
  behind = tt;
  bytes = ap (λ (bs : List ℕ). bs ++ flat_map line_bytes lines) (ended_bytes line (codes "end") ended is);
}

more_told : (so_far : SoFar) (line : Line) (lines : List Line) (e : Entry) (es : List Entry) → line.ended ≡ true
    → IsEntryOf so_far line.text e → AreTold (entry_onto so_far e) lines es → AreTold so_far (line ∷ lines) (e ∷ es)
more_told so_far line lines e es ended is told =
    let one : line_bytes line ≡ entry_text so_far.plan (so_far.count + 1) e =
    ended_bytes line (line_text so_far.plan (so_far.count + 1) e) ended is.line
    ∙ sym (entry_text-line so_far.plan (so_far.count + 1) e) in
    record {
      rest = told.rest;
      behind = (is.behind, told.behind);
      bytes =
          ap (λ (bs : List ℕ). bs ++ flat_map line_bytes lines) one
          ∙ ap (λ (bs : List ℕ). entry_text so_far.plan (so_far.count + 1) e ++ bs) told.bytes
          ∙ sym (simp append_assoc);
    }

lines_told : (so_far : SoFar) (lines : List Line) → OfOk (AreTold so_far lines) (entries_from so_far lines)
unfolding entries_from
lines_told so_far [] = tt
lines_told so_far (line ∷ lines) =
    bind_keeps (IsTold so_far line) (AreTold so_far (line ∷ lines))
    (at_line (so_far.count + 2) (told_by so_far line)) _
    (at_line_is (IsTold so_far line) (so_far.count + 2) (told_by so_far line) (told_is so_far line))
    (λ told is. go told (λ e. lines_told (entry_onto so_far e) lines) is) where
      go : (told : Option Entry)
          → ((e : Entry) → OfOk (AreTold (entry_onto so_far e) lines) (entries_from (entry_onto so_far e) lines))
          → IsTold so_far line told
          → OfOk (AreTold so_far (line ∷ lines)) (told_onto (λ e. entries_from (entry_onto so_far e) lines) told)
      go None more is = ended_told so_far line lines is.0 is.1
      go (Some e) more is =
          bind_keeps (AreTold (entry_onto so_far e) lines) (AreTold so_far (line ∷ lines))
          (entries_from (entry_onto so_far e) lines) _ (more e)
          (λ es told. more_told so_far line lines e es is.0 is.1 told)

-- ---- the whole text

-- the heading of a plan's journal
abbrev heading : PlanFields → List ℕ
heading plan = codes "journal " ++ decimal plan.version

record IsHeading (plan : PlanFields) (line : Line) : Type 0 where
  ended : line.ended ≡ true
  text : line.text ≡ heading plan

version_is : (version n : ℕ) (word : List ℕ) → InRange version version word n → word ≡ decimal version
version_is version n word r = let same : n ≡ version = omega (arith, r.1, r.2) in r.0 ∙ ap decimal same

version_told : (plan : PlanFields) (line : Line) → line.ended ≡ true
    → keyword (words_of line.text) ≡ codes "journal"
    → OfOk (λ _. IsHeading plan line) (version_in plan (words_of line.text))
unfolding version_in
version_told plan line ended k =
    bind_keeps (λ word. words_of line.text ≡ keyword (words_of line.text) ∷ word ∷ []) (λ _. IsHeading plan line)
    (one_word (words_of line.text)) _ (one_word_is (words_of line.text)) (λ word e.
    weaker (InRange plan.version plan.version word) (λ _. IsHeading plan line)
    (number_in plan.version plan.version word) (λ n r. record {
      ended = ended;
      text = two_are line.text (codes "journal") (decimal plan.version)
          (e ∙ ap (λ (w : List ℕ). w ∷ word ∷ []) k
          ∙ ap (λ (w : List ℕ). codes "journal" ∷ w ∷ []) (version_is plan.version n word r));
    }) (number_in_is plan.version plan.version word))

heading_is : (plan : PlanFields) (line : Line) → line.ended ≡ true
    → OfOk (λ _. IsHeading plan line) (heading_in plan (words_of line.text))
unfolding heading_in
heading_is plan line ended =
    if_keeps (λ _. IsHeading plan line) (bytes_eq (keyword (words_of line.text)) (codes "journal")) _ _
    (λ e. version_told plan line ended ((bytes_eq-Decides (keyword (words_of line.text)) (codes "journal")).0 e))
    (λ _. tt)

first_line_is : (plan : PlanFields) (line : Line) → OfOk (λ _. IsHeading plan line) (heading_of plan line)
unfolding heading_of
first_line_is plan line =
    bind_keeps (λ _. line.ended ≡ true) (λ _. IsHeading plan line) (form_of false line) _ (form_ended line)
    (λ form ended. heading_is plan line ended)

-- these lines are those of the journal of these entries, with whatever stands behind it
record AreLines (plan : PlanFields) (lines : List Line) (es : List Entry) : Type 0 where
  behind : AreBehind plan (replicate (length plan.boxes) 0) es
  rest : List ℕ
  bytes : flat_map line_bytes lines ≡ journal_text plan es ++ rest

whole_bytes : (front version several last rest : List ℕ)
    → ((front ++ version) ++ 10 ∷ []) ++ ((several ++ last) ++ rest)
    ≡ ((front ++ version ++ 10 ∷ several) ++ last) ++ rest
whole_bytes front version several last rest = sym (simp append_assoc)

whole_told : (plan : PlanFields) (line : Line) (lines : List Line) (es : List Entry) → IsHeading plan line
    → AreTold (start plan) lines es → AreLines plan (line ∷ lines) es
unfolding journal_text
whole_told plan line lines es is told =
    record {
      behind = told.behind;
      rest = told.rest;
      bytes =
          ap (λ (bs : List ℕ). bs ++ flat_map line_bytes lines) (ended_bytes line (heading plan) is.ended is.text)
          ∙ ap (λ (bs : List ℕ). (heading plan ++ 10 ∷ []) ++ bs) told.bytes
          ∙ whole_bytes (codes "journal ") (decimal plan.version) (entries_text plan 1 es) (codes "end\n") told.rest;
    }

text_told : (plan : PlanFields) (lines : List Line) → OfOk (AreLines plan lines) (entries_of plan lines)
unfolding entries_of
text_told plan [] = tt
text_told plan (line ∷ lines) =
    bind_keeps (λ _. IsHeading plan line) (AreLines plan (line ∷ lines)) (at_line 1 (heading_of plan line)) _
    (at_line_is (λ _. IsHeading plan line) 1 (heading_of plan line) (first_line_is plan line)) (λ version is.
    weaker (AreTold (start plan) lines) (AreLines plan (line ∷ lines)) (entries_from (start plan) lines)
    (λ es told. whole_told plan line lines es is told) (lines_told (start plan) lines))

-- a text that is read as a journal spells it
pub spelled_journal : (plan : PlanFields) (bytes : List ℕ) (es : List Entry) → journal_of plan bytes ≡ Ok es
    → SpellsJournal plan bytes es
unfolding journal_of
spelled_journal plan bytes es e =
    subst (OfOk (SpellsJournal plan bytes)) e
    (if_keeps (SpellsJournal plan bytes) (ltb (most_journal_bytes plan.version) (length bytes)) _ _ (λ _. tt)
    (λ fits. weaker (AreLines plan (lines_of bytes)) (SpellsJournal plan bytes) (entries_of plan (lines_of bytes))
    (λ es told. record {
      short = ltb-false (most_journal_bytes plan.version) (length bytes) fits;
      asked = behind_asked plan es told.behind;
      each = behind_spelled plan (replicate (length plan.boxes) 0) es told.behind;
      answers = behind_answered plan (replicate (length plan.boxes) 0) es told.behind;
      rest = told.rest;
      printed = sym (lines_are bytes).whole ∙ told.bytes;
    }) (text_told plan (lines_of bytes))))

-- ---- how many entries a journal has

entry_some : (plan : PlanFields) (number : ℕ) (e : Entry) → 0 < length (entry_text plan number e)
entry_some plan number e =
    rw (entry_text-line plan number e) (omega (arith, length-append (line_text plan number e) (10 ∷ [])))

entries_fit : (plan : PlanFields) (number : ℕ) (es : List Entry) → length es ≤ length (entries_text plan number es)
entries_fit plan number [] = omega arith
entries_fit plan number (e ∷ es) =
    omega (
      arith,
      length-append (entry_text plan number e) (entries_text plan (number + 1) es),
      entry_some plan number e,
      entries_fit plan (number + 1) es,
    )

-- a printed journal has no more entries than bytes
pub journal_fits : (plan : PlanFields) (es : List Entry) (rest : List ℕ)
    → length es ≤ length (journal_text plan es ++ rest)
unfolding journal_text
journal_fits plan es rest = simp length-append (omega (arith, entries_fit plan 1 es))

-- no journal's text may have more bytes than this, in either version
pub most_bytes : (version : ℕ) → most_journal_bytes version ≤ 134217728
most_bytes version = go (eqb version 1) where
  go : (first : Bool) → cond first 67108864 134217728 ≤ 134217728
  go true = omega arith
  go false = omega arith

-- so a text spells no more entries than that
pub few_entries : (plan : PlanFields) (bytes : List ℕ) (es : List Entry) → SpellsJournal plan bytes es
    → length es ≤ 134217728
few_entries plan bytes es spells =
    let fits : length es ≤ length bytes = rw spells.printed (journal_fits plan es spells.rest) in
    omega (arith, fits, spells.short, most_bytes plan.version)

-- ---- every journal is read as it is spelled

entry_line_read : (so_far : SoFar) (e : Entry) → IsPlan so_far.plan → so_far.count + 1 < 10 ^ 10
    → IsBehind so_far.plan so_far.moments e
    → told_by so_far (ended_line (line_text so_far.plan (so_far.count + 1) e)) ≡ Ok (Some e)
unfolding told_by told_in
entry_line_read so_far e p few h =
    rw (
      line_form so_far.plan (so_far.count + 1) e p few h.spelled,
      line_no_end so_far.plan (so_far.count + 1) e p few h.spelled,
      entry_read so_far e p few h,
    ) refl

end_line_read : (so_far : SoFar) → told_by so_far (ended_line (codes "end")) ≡ Ok None
unfolding told_by form_of told_in end_in
end_line_read so_far = refl

end_read : (so_far : SoFar) (rest : List ℕ) → entries_from so_far (lines_of (codes "end\n" ++ rest)) ≡ Ok []
unfolding entries_from
end_read so_far rest = rw (end_line_read so_far) refl

line_then : (so_far : SoFar) (e : Entry) (text bytes : List ℕ) (es : List Entry) → lacks 10 text ≡ true
    → told_by so_far (ended_line text) ≡ Ok (Some e) → entries_from (entry_onto so_far e) (lines_of bytes) ≡ Ok es
    → entries_from so_far (lines_of (text ++ 10 ∷ bytes)) ≡ Ok (e ∷ es)
unfolding entries_from
line_then so_far e text bytes es single read more = rw (lines_of-line text bytes single, read, more) refl

line_bytes_then : (line several last rest : List ℕ)
    → (((line ++ 10 ∷ []) ++ several) ++ last) ++ rest ≡ line ++ 10 ∷ ((several ++ last) ++ rest)
line_bytes_then line several last rest = simp append_assoc

entries_read : (so_far : SoFar) (es : List Entry) (rest : List ℕ) → IsPlan so_far.plan
    → so_far.count + length es < 10 ^ 10 → AreBehind so_far.plan so_far.moments es
    → entries_from so_far
    (lines_of ((entries_text so_far.plan (so_far.count + 1) es ++ codes "end\n") ++ rest)) ≡ Ok es
entries_read so_far [] rest p few h = end_read so_far rest
entries_read so_far (e ∷ es) rest p few h =
    let plan : PlanFields = so_far.plan in
    let number : ℕ = so_far.count + 1 in
    let small : number < 10 ^ 10 = omega arith in
    let later : List ℕ = (entries_text plan (number + 1) es ++ codes "end\n") ++ rest in
    let more : entries_from (entry_onto so_far e) (lines_of later) ≡ Ok es =
    entries_read (entry_onto so_far e) es rest p (omega arith) h.1 in
    let bytes : ((entries_text plan number (e ∷ es) ++ codes "end\n") ++ rest) ≡ line_text plan number e ++ 10 ∷ later =
    ap (λ (bs : List ℕ). ((bs ++ entries_text plan (number + 1) es) ++ codes "end\n") ++ rest)
    (entry_text-line plan number e)
    ∙ line_bytes_then (line_text plan number e) (entries_text plan (number + 1) es) (codes "end\n") rest in
    subst (λ (bs : List ℕ). entries_from so_far (lines_of bs) ≡ Ok (e ∷ es)) (sym bytes)
    (line_then so_far e (line_text plan number e) later es (line_lacks_end plan number e p small h.0.spelled)
    (entry_line_read so_far e p small h.0) more)

version_small : (plan : PlanFields) → IsPlan plan → plan.version < 10 ^ 10
version_small plan p = omega (arith, p.version_high)

heading_words : (plan : PlanFields) → IsPlan plan
    → list_all is_word (codes "journal" ∷ decimal plan.version ∷ []) ≡ true
heading_words plan p = rw (decimal_is_word plan.version (version_small plan p)) refl

heading_form : (plan : PlanFields) → IsPlan plan → form_of false (ended_line (heading plan)) ≡ Ok forms.Words
heading_form plan p =
    form_of-words false (codes "journal") (decimal plan.version ∷ []) (heading_words plan p) refl
    (simp length-append (omega (arith, length-decimal_word plan.version (version_small plan p))))

heading_words_of : (plan : PlanFields) → IsPlan plan
    → words_of (heading plan) ≡ codes "journal" ∷ decimal plan.version ∷ []
heading_words_of plan p = words_of-words (codes "journal") (decimal plan.version ∷ []) (heading_words plan p)

heading_read : (plan : PlanFields) → IsPlan plan → heading_of plan (ended_line (heading plan)) ≡ Ok plan.version
unfolding heading_of heading_in version_in
heading_read plan p =
    rw (
      heading_form plan p,
      heading_words_of plan p,
      number_in-decimal plan.version plan.version plan.version (omega arith) (omega arith) (version_small plan p),
    )
    refl

heading_bytes : (front version several last rest : List ℕ)
    → ((front ++ version ++ 10 ∷ several) ++ last) ++ rest ≡ (front ++ version) ++ 10 ∷ ((several ++ last) ++ rest)
heading_bytes front version several last rest = simp append_assoc

-- each spelling of a journal is read as it
pub every_journal : (plan : PlanFields) (bytes : List ℕ) (es : List Entry) → IsPlan plan → SpellsJournal plan bytes es
    → journal_of plan bytes ≡ Ok es
unfolding journal_of entries_of journal_text
every_journal plan bytes es p spells =
    let fits : ltb (most_journal_bytes plan.version) (length bytes) ≡ false = le-ltb _ _ spells.short in
    let few : 0 + length es < 10 ^ 10 = omega (arith, few_entries plan bytes es spells) in
    let behind : AreBehind plan (replicate (length plan.boxes) 0) es =
    asked_behind plan es spells.each spells.answers spells.asked in
    let single : lacks 10 (heading plan) ≡ true =
    joined_lacks_line_end (codes "journal" ∷ decimal plan.version ∷ []) (heading_words plan p) in
    let later : List ℕ = (entries_text plan 1 es ++ codes "end\n") ++ spells.rest in
    let printed : bytes ≡ heading plan ++ 10 ∷ later =
    spells.printed
    ∙ heading_bytes (codes "journal ") (decimal plan.version) (entries_text plan 1 es) (codes "end\n")
    spells.rest in
    let lines : lines_of bytes ≡ ended_line (heading plan) ∷ lines_of later =
    ap lines_of printed ∙ lines_of-line (heading plan) later single in
    rw (fits, lines, heading_read plan p) (entries_read (start plan) es spells.rest p few behind)

-- ---- what a reader answers

abbrev pub IsReading : PlanFields → List ℕ → Result Journal ReadError → Type 0
IsReading plan bytes r = GivesText (λ journal. journal.entries) r (journal_of plan bytes)

pub reading_spelled : (plan : PlanFields) (bytes : List ℕ) (r : Result Journal ReadError) → IsReading plan bytes r
    → IfOk r (λ journal. SpellsJournal plan bytes journal.entries)
reading_spelled plan bytes (Ok journal) e = spelled_journal plan bytes journal.entries e
reading_spelled plan bytes (Err fault) e = tt

pub reading_asked : (plan : PlanFields) (bytes : List ℕ) (r : Result Journal ReadError) → IsReading plan bytes r
    → IfOk r (λ journal. AreAsked plan journal.entries)
reading_asked plan bytes (Ok journal) e = (spelled_journal plan bytes journal.entries e).asked
reading_asked plan bytes (Err fault) e = tt

pub reading_few : (plan : PlanFields) (bytes : List ℕ) (r : Result Journal ReadError) → IsReading plan bytes r
    → IfOk r (λ journal. AreFewEntries journal.entries)
reading_few plan bytes (Ok journal) e =
    omega (arith, few_entries plan bytes journal.entries (spelled_journal plan bytes journal.entries e))
reading_few plan bytes (Err fault) e = tt

pub reading_printable : (plan : PlanFields) (bytes : List ℕ) (r : Result Journal ReadError) → IsReading plan bytes r
    → IfOk r (λ journal. All (IsSpelled plan) journal.entries)
reading_printable plan bytes (Ok journal) e = (spelled_journal plan bytes journal.entries e).each
reading_printable plan bytes (Err fault) e = tt

refused_or_read : (fault : Fault) (es : List Entry) (r : Result (List Entry) Fault) → r ≡ Err fault → r ≡ Ok es → ⊥
refused_or_read fault es r e k = cc

-- a text that is refused spells no journal
pub reading_refused : (plan : PlanFields) (bytes : List ℕ) (r : Result Journal ReadError) → IsPlan plan
    → IsReading plan bytes r → (line : ℕ) (cause : Cause) → IsErrOf r (errors.Refused line cause) → (es : List Entry)
    → ¬ SpellsJournal plan bytes es
reading_refused plan bytes (Ok journal) p e line cause refused es spells = absurd cc
reading_refused plan bytes (Err (errors.Refused n why)) p e line cause refused es spells =
    refused_or_read (record { line = n; cause = why }) es (journal_of plan bytes) e
    (every_journal plan bytes es p spells)
reading_refused plan bytes (Err errors.NoMemory) p e line cause refused es spells = absurd cc

pub ruleset reading_rules = (reading_spelled, reading_asked, reading_few, reading_printable)

-- ---- a fetch of one byte more than the limit is enough

-- of a journal's text the bytes up to one beyond the limit are enough
pub journal_of-take : (plan : PlanFields) (bytes : List ℕ)
    → journal_of plan (take (most_journal_bytes plan.version + 1) bytes) ≡ journal_of plan bytes
unfolding journal_of
journal_of-take plan bytes =
    limited-take (most_journal_bytes plan.version) (Err (record { line = 0; cause = causes.TooLong }))
    (λ bs. entries_of plan (lines_of bs)) bytes

pub ruleset limit_rules = (journal_of-take)
