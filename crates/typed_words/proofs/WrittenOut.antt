-- Words that are typed as a whole are themselves, and so are lines of them.
use Rattle.std.proofs.Common.{◌≡◌, ℕ, ◌+◌, ◌/◌, ◌%◌, ◌<◌, ◌≤◌, Bool, true, false, cond, eqb, not, ◌||◌, List, [], ◌∷◌}
use Rattle.std.proofs.Common.{◌++◌, length, filter, Result, Ok, Err, Some, refl, ap, ◌∙◌, arith, bytes_eq}
use Rattle.std.specs.List.{list_all, list_any, join_with_byte}
use Rattle.std.proofs.lemmas.Bool.Decides.{nat_tests}
use Rattle.std.proofs.lemmas.Slice.Eq.{bytes_eq-Decides}
use Rattle.block_words.specs.declared.Position.TheVariants.{Normal, LineClear, TrainOnLine}
use Rattle.block_words.specs.declared.Way.TheVariants.{Up, Down}
use Rattle.rail_text.specs.Forms.{is_word}
use Rattle.rail_text.specs.Lines.{is_empty_word, words_of}
use Rattle.rail_text.proofs.PrintedLines.{both}
use Rattle.rail_text.proofs.PrintedWords.{words_of-words}
use Rattle.line_plan.specs.Plans.{PlanFields, IsPlan}
use Rattle.line_law.specs.Known.{moments_of, KnowsCall}
use Rattle.line_law.specs.declared.call.Act.{Act}
use Rattle.line_law.specs.declared.call.Act.TheVariants as acts
use Rattle.line_law.specs.declared.call.Call.{Call}
use Rattle.script_text.specs.Acts.{act_text, act_words}
use Rattle.script_text.specs.Calls.{call_text, call_words}
use Rattle.script_text.specs.Moments.{clock_text, is_digit, moment_text, two_text}
use Rattle.script_text.proofs.CallTexts.{call_words_are, known_parts, words_of-call}
use Rattle.typed_words.specs.declared.table.WordKind.{WordKind}
use Rattle.typed_words.specs.declared.table.WordKind.TheVariants as kinds
use Rattle.typed_words.specs.Chosen.{Misread, meant, words_at}
use Rattle.typed_words.specs.Lines.{call_in_full, full_line, is_timed, line_in_full, timed_in_full, typed_words}
use Rattle.typed_words.specs.Lines.{word_in_full}
use Rattle.typed_words.specs.Typed.{TypedLine, line_read}
use Rattle.typed_words.proofs.Calls.{typed_call}

-- ---- whole words

-- the word is read as itself
is_same : List ℕ → Result (List ℕ) Misread → Bool
is_same word (Ok other) = bytes_eq other word
is_same word (Err what) = false

same_is : (word : List ℕ) (read : Result (List ℕ) Misread) → is_same word read ≡ true → read ≡ Ok word
unfolding is_same
same_is word (Ok other) h = ap Ok ((bytes_eq-Decides other word).0 h)
same_is word (Err what) h = absurd cc

among : (p : List ℕ → Bool) (word : List ℕ) (words : List (List ℕ)) → list_any (bytes_eq word) words ≡ true
    → list_all p words ≡ true → p word ≡ true
among p word [] h k = absurd cc
among p word (next ∷ words) h k =
    let parts = both (p next) (list_all p words) k in
    go (bytes_eq word next) refl parts.0 (λ more. among p word words more parts.1) h where
      go : (t : Bool) → bytes_eq word next ≡ t → p next ≡ true
          → (list_any (bytes_eq word) words ≡ true → p word ≡ true)
          → t || list_any (bytes_eq word) words ≡ true → p word ≡ true
      go true e here later h = ap p ((bytes_eq-Decides word next).0 e) ∙ here
      go false e here later h = later h

each_is_same : (kind : WordKind) (at : ℕ)
    → list_all (λ word. is_same word (word_in_full (Some kind) at word)) (words_at kind) ≡ true
unfolding meant is_same
each_is_same kinds.First at = refl
each_is_same kinds.Call at = refl
each_is_same kinds.Way at = refl
each_is_same kinds.Position at = refl

-- a word that may stand there is meant by itself
pub whole_words : (kind : WordKind) (at : ℕ) (word : List ℕ) → list_any (bytes_eq word) (words_at kind) ≡ true
    → word_in_full (Some kind) at word ≡ Ok word
whole_words kind at word h =
    same_is word (word_in_full (Some kind) at word)
    (among (λ w. is_same w (word_in_full (Some kind) at w)) word (words_at kind) h (each_is_same kind at))

-- ---- a call that is written out

-- the words of a call are in full as they are printed, behind a moment and without one
act_full : (plan : PlanFields) (version last : ℕ) (act : Act)
    → (timed_in_full (act_words plan act) ≡ Ok (act_words plan act))
    × (line_in_full version last (act_words plan act)
    ≡ Some (join_with_byte 32 (moment_text version last ∷ act_words plan act)))
unfolding meant call_in_full
act_full plan version last (acts.Ring Up code) = (refl, refl)
act_full plan version last (acts.Ring Down code) = (refl, refl)
act_full plan version last (acts.Hear Up) = (refl, refl)
act_full plan version last (acts.Hear Down) = (refl, refl)
act_full plan version last (acts.AwaitBell Up code) = (refl, refl)
act_full plan version last (acts.AwaitBell Down code) = (refl, refl)
act_full plan version last (acts.Turn Up Normal) = (refl, refl)
act_full plan version last (acts.Turn Up LineClear) = (refl, refl)
act_full plan version last (acts.Turn Up TrainOnLine) = (refl, refl)
act_full plan version last (acts.Turn Down Normal) = (refl, refl)
act_full plan version last (acts.Turn Down LineClear) = (refl, refl)
act_full plan version last (acts.Turn Down TrainOnLine) = (refl, refl)
act_full plan version last (acts.AwaitBlock Up Normal) = (refl, refl)
act_full plan version last (acts.AwaitBlock Up LineClear) = (refl, refl)
act_full plan version last (acts.AwaitBlock Up TrainOnLine) = (refl, refl)
act_full plan version last (acts.AwaitBlock Down Normal) = (refl, refl)
act_full plan version last (acts.AwaitBlock Down LineClear) = (refl, refl)
act_full plan version last (acts.AwaitBlock Down TrainOnLine) = (refl, refl)
act_full plan version last (acts.Pull lever) = (refl, refl)
act_full plan version last (acts.Put lever) = (refl, refl)
act_full plan version last (acts.Bring train) = (refl, refl)
act_full plan version last (acts.Pass lever) = (refl, refl)
act_full plan version last (acts.Overrun lever) = (refl, refl)
act_full plan version last (acts.AwaitTrain Up) = (refl, refl)
act_full plan version last (acts.AwaitTrain Down) = (refl, refl)
act_full plan version last (acts.Berth Up) = (refl, refl)
act_full plan version last (acts.Berth Down) = (refl, refl)
act_full plan version last (acts.BerthPart Up) = (refl, refl)
act_full plan version last (acts.BerthPart Down) = (refl, refl)
act_full plan version last (acts.ClearPortion Up) = (refl, refl)
act_full plan version last (acts.ClearPortion Down) = (refl, refl)
act_full plan version last (acts.Wind Up) = (refl, refl)
act_full plan version last (acts.Wind Down) = (refl, refl)
act_full plan version last (acts.Release Up) = (refl, refl)
act_full plan version last (acts.Release Down) = (refl, refl)

-- no words are no call in full
some_words : (words : List (List ℕ)) → timed_in_full words ≡ Ok words → 0 < length words
some_words [] full = absurd cc
some_words (word ∷ words) full = omega arith

all_kept : (words : List (List ℕ)) → list_all is_word words ≡ true
    → filter (λ word. not (is_empty_word word)) words ≡ words
all_kept [] h = refl
all_kept (word ∷ words) h =
    let k = both (is_word word) (list_all is_word words) h in
    let some : not (is_empty_word word) ≡ true = (both (not (is_empty_word word)) _ k.0).0 in
    rw some (ap (λ (rest : List (List ℕ)). word ∷ rest) (all_kept words k.1))

words_joined : (words : List (List ℕ)) → 0 < length words → list_all is_word words ≡ true
    → words_of (join_with_byte 32 words) ≡ words
words_joined [] some h = absurd (omega arith)
words_joined (word ∷ words) some h = words_of-words word words h

digit_is : (d : ℕ) → d ≤ 9 → is_digit (48 + d) ≡ true
digit_is d h = grind (arith, nat_tests)

-- a moment begins with a digit
moment_is_timed : (version m : ℕ) → m < moments_of version → is_timed (moment_text version m) ≡ true
moment_is_timed version m h = go (eqb version 1) h where
  go : (first : Bool) → m < cond first 1440 86400
      → is_timed (cond first (clock_text m) (clock_text (m / 60) ++ 58 ∷ two_text (m % 60))) ≡ true
  go true h = digit_is (m / 60 / 10) (omega arith)
  go false h = digit_is (m / 60 / 60 / 10) (omega arith)

timed_line : (plan : PlanFields) (b last : ℕ) (call : Call) → IsPlan plan → KnowsCall plan b call
    → full_line plan.version last (call_text plan call) ≡ Some (call_text plan call)
unfolding full_line call_text
timed_line plan b last call p h =
    let words : typed_words (join_with_byte 32 (call_words plan call)) ≡ call_words plan call =
    ap (filter (λ word. not (is_empty_word word))) (words_of-call plan b call p h)
    ∙ all_kept (call_words plan call) (call_words_are plan b call p h) in
    ap (line_in_full plan.version last) words
    ∙ rw (
      moment_is_timed plan.version call.moment (known_parts plan b call h).day,
      (act_full plan plan.version last call.act).0,
    ) refl

untimed_line : (plan : PlanFields) (b : ℕ) (call : Call) → IsPlan plan → KnowsCall plan b call
    → full_line plan.version call.moment (act_text plan call.act) ≡ Some (call_text plan call)
unfolding full_line call_text
untimed_line plan b call p h =
    let are : list_all is_word (act_words plan call.act) ≡ true =
    (both (is_word (moment_text plan.version call.moment)) _ (call_words_are plan b call p h)).1 in
    let words : typed_words (act_text plan call.act) ≡ act_words plan call.act =
    ap (filter (λ word. not (is_empty_word word)))
    (words_joined (act_words plan call.act)
    (some_words (act_words plan call.act) (act_full plan plan.version call.moment call.act).0) are)
    ∙ all_kept (act_words plan call.act) are in
    ap (line_in_full plan.version call.moment) words ∙ (act_full plan plan.version call.moment call.act).1

-- a call as a script has it is itself, behind its moment
pub written_timed : (plan : PlanFields) (b last : ℕ) (call : Call) → IsPlan plan → KnowsCall plan b call
    → last ≤ call.moment → line_read plan b last (call_text plan call) ≡ TypedLine.Call call
written_timed plan b last call p h l =
    let k = known_parts plan b call h in
    (typed_call plan b last (call_text plan call) call p k.box (omega (arith, k.day))).1 (record {
      text = call_text plan call;
      full = timed_line plan b last call p h;
      spelled = record { known = h; printed = refl };
      later = l;
    })

-- and without it, where it is the last
pub written_untimed : (plan : PlanFields) (b : ℕ) (call : Call) → IsPlan plan → KnowsCall plan b call
    → line_read plan b call.moment (act_text plan call.act) ≡ TypedLine.Call call
written_untimed plan b call p h =
    let k = known_parts plan b call h in
    (typed_call plan b call.moment (act_text plan call.act) call p k.box k.day).1 (record {
      text = call_text plan call;
      full = untimed_line plan b call p h;
      spelled = record { known = h; printed = refl };
      later = omega arith;
    })
