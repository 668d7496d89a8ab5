-- A text that spells a plan is read as that plan.
use Rattle.std.proofs.Common.{◌≡◌, ℕ, ◌+◌, ◌≤◌, Bool, true, false, ltb, List, [], ◌∷◌, ◌++◌, length, map, take, Result}
use Rattle.std.proofs.Common.{Ok, Err, refl, sym, ap, subst, ◌∙◌, append_assoc}
use Rattle.std.specs.Prelude.{MatchResult}
use Rattle.std.specs.List.{list_all, flat_map, join_with_byte}
use Rattle.std.proofs.lemmas.Bool.{le-ltb}
use Rattle.rail_text.specs.Lines.{lines_of, words_of, lacks, ended_line, printed_line}
use Rattle.rail_text.specs.Forms.{is_skipped, form_of}
use Rattle.rail_text.specs.Gives.{◌>>=◌, Fault, GivesText}
use Rattle.rail_text.specs.Texts.{lines_onto, text_onto}
use Rattle.rail_text.specs.declared.cause.Cause.{Cause}
use Rattle.rail_text.specs.declared.cause.ReadError.{ReadError}
use Rattle.rail_text.specs.declared.cause.ReadError.TheVariants as errors
use Rattle.rail_text.proofs.Limits.{limited-take}
use Rattle.rail_text.proofs.PrintedLines.{joined-words_of, lines_of-printed}
use Rattle.rail_text.proofs.PrintedWords.{words_of-words, form_of-words, joined_lacks_line_end}
use Rattle.block_words.specs.declared.Way.TheVariants.{Up, Down}
use Rattle.line_plan.specs.Limits.{most_bytes}
use Rattle.line_plan.specs.Frames.{BoxFields}
use Rattle.line_plan.specs.Plans.{PlanFields, IsPlan}
use Rattle.plan_draft.specs.Drafts.{DraftFields, start}
use Rattle.plan_draft.specs.Reading.{words_onto, has_ended, plan_of}
use Rattle.plan_text.specs.Printing.{berth_lines, clear_lines, permissive_lines, front_lines, back_lines, box_lines}
use Rattle.plan_text.specs.Printing.{plan_lines, line_text, printed_words, printed, plan_text}
use Rattle.rail_text.specs.Kept.{is_formed, kept}
use Rattle.plan_text.specs.Spelled.{up_first, box_lines_by, boxes_lines_by, plan_lines_by, Spells}
use Rattle.rail_text.proofs.KeptLines.{all_onto, IsWords, AllWords, words_formed, words_kept, lines_read}
use Rattle.plan_text.proofs.LineReads.{IsLine, AreLines, onto_all}
use Rattle.plan_text.proofs.WordReads.{joined_same}
use Rattle.plan_text.proofs.BoxesRead.{whole}
use Rattle.plan_text.proofs.PlanReads.{plan_is_read}

-- whether the text has ended at a draft
abbrev ended : DraftFields → Bool
ended draft = has_ended draft.stage

-- ---- texts by their words

words_all : (draft : DraftFields) (texts : List (List ℕ))
    → all_onto words_onto draft texts ≡ onto_all draft (map words_of texts)
words_all draft [] = refl
words_all draft (text ∷ texts) = go (words_onto draft (words_of text)) (λ next. words_all next texts) where
  go : (r : Result DraftFields Cause)
      → ((next : DraftFields) → all_onto words_onto next texts ≡ onto_all next (map words_of texts))
      → (r >>= (λ next. all_onto words_onto next texts)) ≡ (r >>= (λ next. onto_all next (map words_of texts)))
  go (Ok next) h = h next
  go (Err cause) h = refl

line_words : (text : List ℕ) → IsLine (words_of text) → IsWords text
line_words text is = go (words_of text) refl is where
  go : (words : List (List ℕ)) → words_of text ≡ words → IsLine words → IsWords text
  go [] e line = absurd (let b = line.begins in cc)
  go (word ∷ words) e line =
      let same : text ≡ join_with_byte 32 (word ∷ words) = sym (joined-words_of text) ∙ ap (join_with_byte 32) e in
      ap (λ (t : List ℕ). form_of true (ended_line t)) same
      ∙ form_of-words true word words line.each line.begins line.short

all_line_words : (texts : List (List ℕ)) → AreLines (map words_of texts) → AllWords texts
all_line_words [] h = tt
all_line_words (text ∷ texts) h = (line_words text h.0, all_line_words texts h.1)

-- ---- what is spelled is read

-- a text that spells a plan is read as that plan
pub spelled_is_read : (bytes : List ℕ) (plan : PlanFields) → IsPlan plan → Spells bytes plan → plan_of bytes ≡ Ok plan
unfolding plan_of text_onto
spelled_is_read bytes plan is s =
    let read = plan_is_read plan s.firsts is in
    let words = all_line_words (kept (lines_of bytes)) (subst AreLines (sym s.lines) read.stand) in
    let all : all_onto words_onto start (kept (lines_of bytes)) ≡ Ok (whole plan) =
    words_all start (kept (lines_of bytes)) ∙ ap (onto_all start) s.lines ∙ read.onto in
    let fits : ltb most_bytes (length bytes) ≡ false = le-ltb _ _ s.short in
    rw (fits, lines_read words_onto ended 1 start (whole plan) (lines_of bytes) s.formed words all refl) refl

-- ---- what is printed is spelled

regrouped : {W : Type 0} (a b c d e f : List W) → (a ++ b) ++ (c ++ d) ++ (e ++ f) ≡ a ++ b ++ c ++ d ++ e ++ f
regrouped a b c d e f = simp append_assoc

box_same : (b : BoxFields) → box_lines b ≡ box_lines_by up_first b
unfolding box_lines
box_same b =
    ap (λ (lines : List (List (List ℕ))). front_lines b ++ lines ++ back_lines b)
    (sym (regrouped (berth_lines b.places Up b.berth_up) (berth_lines b.places Down b.berth_down)
    (clear_lines b.places Up b.berth_up) (clear_lines b.places Down b.berth_down) (permissive_lines Up b.berth_up)
    (permissive_lines Down b.berth_down)))

boxes_same : (boxes : List BoxFields) → flat_map box_lines boxes ≡ boxes_lines_by [] boxes
boxes_same [] = refl
boxes_same (b ∷ boxes) = rw (box_same b, boxes_same boxes) refl

-- the printed lines of a plan are its lines with the up way first in every box
pub lines_same : (plan : PlanFields) → plan_lines plan ≡ plan_lines_by [] plan
unfolding plan_lines plan_lines_by
lines_same plan = rw (boxes_same plan.boxes) refl

line_is : (words : List (List ℕ)) → IsLine words
    → (lacks 10 (line_text words) ≡ true) × (words_of (line_text words) ≡ words)
line_is [] line = absurd (let b = line.begins in cc)
line_is (word ∷ words) line =
    let same = joined_same (word ∷ words) in (
      ap (lacks 10) same ∙ joined_lacks_line_end (word ∷ words) line.each,
      ap words_of same
          ∙ words_of-words word words line.each,
    )

all_single : (lines : List (List (List ℕ))) → AreLines lines → list_all (lacks 10) (map line_text lines) ≡ true
all_single [] h = refl
all_single (words ∷ lines) h = rw ((line_is words h.0).0, all_single lines h.1) refl

all_back : (lines : List (List (List ℕ))) → AreLines lines → map words_of (map line_text lines) ≡ lines
all_back [] h = refl
all_back (words ∷ lines) h = rw ((line_is words h.0).1, all_back lines h.1) refl

all_formed : (texts : List (List ℕ)) → AllWords texts → list_all is_formed (map ended_line texts) ≡ true
all_formed [] h = refl
all_formed (text ∷ texts) h = let own : is_formed (ended_line text) ≡ true =
    words_formed text h.0 in rw (own, all_formed texts h.1) refl

all_kept : (texts : List (List ℕ)) → AllWords texts → kept (map ended_line texts) ≡ texts
all_kept [] h = refl
all_kept (text ∷ texts) h = let own : is_skipped text ≡ false = words_kept text h.0 in rw (own, all_kept texts h.1) refl

printed_texts : (lines : List (List (List ℕ))) → printed lines ≡ flat_map printed_line (map line_text lines)
printed_texts [] = refl
printed_texts (words ∷ lines) = ap (λ (bytes : List ℕ). printed_words words ++ bytes) (printed_texts lines)

-- a printed text that keeps within the limit spells its plan
pub printed_spells : (plan : PlanFields) → IsPlan plan → length (plan_text plan) ≤ most_bytes
    → Spells (plan_text plan) plan
unfolding plan_text
printed_spells plan is short =
    let lines = plan_lines plan in
    let stand : AreLines lines = subst AreLines (sym (lines_same plan)) (let r = plan_is_read plan [] is in r.stand) in
    let texts = map line_text lines in
    let back : map words_of texts ≡ lines = all_back lines stand in
    let words : AllWords texts = all_line_words texts (subst AreLines (sym back) stand) in
    let cut : lines_of (printed lines) ≡ map ended_line texts =
    ap lines_of (printed_texts lines) ∙ lines_of-printed texts (all_single lines stand) in
    record {
      short = short;
      formed = ap (list_all is_formed) cut ∙ all_formed texts words;
      firsts = [];
      lines = ap (λ (ls : _). map words_of (kept ls)) cut ∙ ap (map words_of) (all_kept texts words) ∙ back
          ∙ lines_same plan;
    }

-- what is printed of a plan is read as that plan
pub printed_is_read : (plan : PlanFields) → IsPlan plan → length (plan_text plan) ≤ most_bytes
    → plan_of (plan_text plan) ≡ Ok plan
printed_is_read plan is short = spelled_is_read (plan_text plan) plan is (printed_spells plan is short)

-- ---- the limit

-- a fetch of one byte more than the limit is enough
pub plan_of-take : (bytes : List ℕ) → plan_of (take (most_bytes + 1) bytes) ≡ plan_of bytes
unfolding plan_of text_onto
plan_of-take bytes =
    ap (λ (r : Result DraftFields Fault). r >>= (λ draft. Ok draft.plan))
    (limited-take most_bytes _ (λ bs. lines_onto words_onto ended 1 start (lines_of bs)) bytes)

-- ---- the reader's answers

abbrev ReadsAs : Result PlanFields Fault → PlanFields → Type 0
ReadsAs r plan = r ≡ Ok plan

same_plan : (one other : PlanFields) → ReadsAs (Ok one) other → one ≡ other
same_plan one other e = cc

-- no text that spells a plan is refused
refused_unspelled : (bytes : List ℕ) (e : ReadError) (plan : PlanFields)
    → GivesText {X = PlanFields} (λ p. p) (Err e) (plan_of bytes) → plan_of bytes ≡ Ok plan → e ≡ errors.NoMemory
refused_unspelled bytes errors.NoMemory plan gives is = refl
refused_unspelled bytes (errors.Refused line cause) plan gives is = absurd cc

-- a reader of plans either reads a text as the plan that it spells or has no memory
pub reader_reads : (bytes : List ℕ) (r : Result PlanFields ReadError) → GivesText (λ plan. plan) r (plan_of bytes)
    → (plan : PlanFields) → IsPlan plan → Spells bytes plan
    → MatchResult r (λ read. read ≡ plan) (λ error. error ≡ errors.NoMemory)
reader_reads bytes (Ok read) gives plan is s = same_plan read plan (sym gives ∙ spelled_is_read bytes plan is s)
reader_reads bytes (Err e) gives plan is s = refused_unspelled bytes e plan gives (spelled_is_read bytes plan is s)
