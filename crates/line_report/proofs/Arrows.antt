-- The first word `->` among words, and what stands before and behind it.
use Rattle.std.proofs.Common.{◌≡◌, ℕ, zero, suc, ◌+◌, ◌-◌, ◌<◌, ◌≤◌, Bool, true, false, not, ltb, cond, List, [], ◌∷◌}
use Rattle.std.proofs.Common.{length, slice_get}
use Rattle.std.proofs.Common.{take, drop, Option, Some, None, option_map, min, refl, sym, ap, ◌∙◌}
use Rattle.std.proofs.Common.{arith, codes, bytes_eq, position}
use Rattle.std.specs.List.{join_with_byte, list_all, prefix_len}
use Rattle.std.proofs.lemmas.Bool.{le-ltb, lt-ltb, ltb-false, ltb-true}
use Rattle.std.proofs.lemmas.List.{drop-drop, length-drop, take_rest}
use Rattle.std.proofs.lemmas.List.Quantifiers.{position-Some}
use Rattle.std.proofs.lemmas.Slice.Eq.{bytes_eq-Decides}
use Rattle.rail_text.specs.Lines.{lacks, words_of}
use Rattle.rail_text.proofs.PrintedLines.{both, words_are, words_of-joined}
use Rattle.line_plan.specs.Plans.{PlanFields}
use Rattle.line_law.specs.declared.call.Act.{Act}
use Rattle.script_text.specs.Acts.{act_of}
use Rattle.script_text.specs.Answers.{lone_reply, reply_in, reply_of, shaped_reply}
use Rattle.script_text.specs.Calls.{call_in, call_of, moment_in}
use Rattle.line_report.specs.Arrows.{before_arrow, behind_arrow}
use Rattle.line_report.specs.Reading.{call_after, call_told, later_call_in, reply_behind, reply_told, told_reply_in}

-- ---- the number of the first

eq_turned : (a b : List ℕ) → bytes_eq a b ≡ bytes_eq b a
eq_turned a b = go (bytes_eq a b) (bytes_eq b a) refl refl where
  go : (s t : Bool) → bytes_eq a b ≡ s → bytes_eq b a ≡ t → s ≡ t
  go true true e f = refl
  go false false e f = refl
  go true false e f = sym ((bytes_eq-Decides b a).1 (sym ((bytes_eq-Decides a b).0 e))) ∙ f
  go false true e f = sym e ∙ (bytes_eq-Decides a b).1 (sym ((bytes_eq-Decides b a).0 f))

first_or_later : (there : Bool) (n m : ℕ) → ltb n m ≡ there
    → cond (ltb (1 + n) (suc m)) (Some (1 + n)) None ≡ option_map suc (cond there (Some n) None)
first_or_later true n m e =
    let lt : n < m = ltb-true n m e in
    let more : ltb (1 + n) (suc m) ≡ true = lt-ltb (1 + n) (suc m) (omega (arith, lt)) in
    rw more (ap (λ (k : ℕ). Some k) (omega arith))
first_or_later false n m e =
    let ge : m ≤ n = ltb-false n m e in
    let none : ltb (1 + n) (suc m) ≡ false = le-ltb (1 + n) (suc m) (omega (arith, ge)) in
    rw none refl

-- the number of the first word that passes, by the words behind one
place_on : (passes : List ℕ → Bool) (word : List ℕ) (words : List (List ℕ)) (t : Bool) → passes word ≡ t
    → position passes (word ∷ words) ≡ cond t (Some 0) (option_map suc (position passes words))
place_on passes word words true e =
    let some : ltb 0 (suc (length words)) ≡ true = lt-ltb 0 (suc (length words)) (omega arith) in
    rw (e, some) refl
place_on passes word words false e =
    rw e (first_or_later (ltb (prefix_len (λ w. not (passes w)) words) (length words))
    (prefix_len (λ w. not (passes w)) words) (length words) refl)

abbrev arrow_number : List (List ℕ) → Option ℕ
arrow_number words = position (bytes_eq (codes "->")) words

-- ---- the words before and behind it

record AreParted (words : List (List ℕ)) (at : ℕ) : Type 0 where
  before : take at words ≡ before_arrow words
  behind : Some (drop (at + 1) words) ≡ behind_arrow words

parted : (words : List (List ℕ)) (at : ℕ) → arrow_number words ≡ Some at → AreParted words at
parted [] at e = absurd cc
parted (word ∷ words) at e = go (λ k is. parted words k is) (bytes_eq word (codes "->")) refl where
  later : (o : Option ℕ) → arrow_number words ≡ o → option_map suc o ≡ Some at
      → ((k : ℕ) → arrow_number words ≡ Some k → AreParted words k) → bytes_eq word (codes "->") ≡ false
      → AreParted (word ∷ words) at
  later None is h ih none = absurd cc
  later (Some k) is h ih none =
      let p = ih k is in
      let n : at ≡ suc k = cc in
      let m : suc k + 1 ≡ suc (k + 1) = omega arith in
      record {
        before = rw (n, none) (ap (λ (ws : List (List ℕ)). word ∷ ws) p.before);
        behind = rw (n, none, m) p.behind;
      }

  go : ((k : ℕ) → arrow_number words ≡ Some k → AreParted words k) → (t : Bool) → bytes_eq word (codes "->") ≡ t
      → AreParted (word ∷ words) at
  go ih true same =
      let first : Some 0 ≡ Some at =
      sym (place_on (bytes_eq (codes "->")) word words true (eq_turned (codes "->") word ∙ same)) ∙ e in
      let n : at ≡ 0 = cc in
      record { before = rw (n, same) refl; behind = rw (n, same) refl }
  go ih false none =
      later (arrow_number words) refl
      (sym (place_on (bytes_eq (codes "->")) word words false (eq_turned (codes "->") word ∙ none)) ∙ e) ih none

-- no `->` stands
record AreWhole (words : List (List ℕ)) : Type 0 where
  before : words ≡ before_arrow words
  behind : None ≡ behind_arrow words

never : (o : Option ℕ) → o ≡ Some 0 → o ≡ None → ⊥
never o e f = absurd cc

whole : (words : List (List ℕ)) → arrow_number words ≡ None → AreWhole words
whole [] e = record { before = refl; behind = refl }
whole (word ∷ words) e = go (λ is. whole words is) (bytes_eq word (codes "->")) refl where
  later : (o : Option ℕ) → arrow_number words ≡ o → option_map suc o ≡ None → arrow_number words ≡ None
  later None is h = is
  later (Some k) is h = absurd cc

  go : (arrow_number words ≡ None → AreWhole words) → (t : Bool) → bytes_eq word (codes "->") ≡ t
      → AreWhole (word ∷ words)
  go ih true same =
      absurd (never (arrow_number (word ∷ words))
      (place_on (bytes_eq (codes "->")) word words true (eq_turned (codes "->") word ∙ same)) e)
  go ih false none =
      let w = ih (later (arrow_number words) refl
      (sym (place_on (bytes_eq (codes "->")) word words false (eq_turned (codes "->") word ∙ none)) ∙ e)) in
      record { before = rw none (ap (λ (ws : List (List ℕ)). word ∷ ws) w.before); behind = rw none w.behind }

-- a word is so many words behind another
pub word_behind : (words : List (List ℕ)) (from i : ℕ) → from ≤ i
    → slice_get words i ≡ slice_get (drop from words) (i - from)
word_behind words zero i le = let n : i - 0 ≡ i = omega arith in ap (slice_get words) (sym n)
word_behind [] (suc from) i le = refl
word_behind (word ∷ words) (suc from) zero le = absurd (omega (arith, le))
word_behind (word ∷ words) (suc from) (suc i) le =
    let n : suc i - suc from ≡ i - from = omega arith in rw n (word_behind words from i (omega (arith, le)))

-- the words from the third on
from_third : (words : List (List ℕ)) (n : ℕ) → n ≡ min (length words) 2 → drop n words ≡ drop 2 words
from_third [] n e = let z : n ≡ 0 = omega (arith, e) in rw z refl
from_third (a ∷ []) n e = let z : n ≡ 1 = omega (arith, e) in rw z refl
from_third (a ∷ b ∷ words) n e = let z : n ≡ 2 = omega (arith, e) in rw z refl

third_on : (words : List (List ℕ)) (count least : ℕ) → count ≡ length words → least ≡ min count 2
    → drop least words ≡ drop 2 words
third_on words count least all n = from_third words least (omega (arith, n, all))

-- no `->` stands behind the second word
pub told_whole : (words told : List (List ℕ)) (count least : ℕ) → count ≡ length words → least ≡ min count 2
    → told ≡ take (count - least) (drop least words) → None ≡ arrow_number (drop least words)
    → (told ≡ before_arrow (drop 2 words)) × (None ≡ behind_arrow (drop 2 words))
told_whole words told count least all n is none =
    let third = third_on words count least all n in
    let w = whole (drop 2 words) (sym (none ∙ ap arrow_number third)) in (
      is ∙ ap (λ (k : ℕ). take (k - least) (drop least words)) all ∙ take_rest words least ∙ third ∙ w.before,
      w.behind,
    )

-- one stands there
pub told_before : (words : List (List ℕ)) (count least many : ℕ) → count ≡ length words → least ≡ min count 2
    → Some many ≡ arrow_number (drop least words)
    → take (least + many - least) (drop least words) ≡ before_arrow (drop 2 words)
told_before words count least many all n e =
    let third = third_on words count least all n in
    let more : least + many - least ≡ many = omega arith in
    ap (λ (k : ℕ). take k (drop least words)) more
    ∙ ap (take many) third
    ∙ (parted (drop 2 words) many (sym (e ∙ ap arrow_number third))).before

-- the words behind the first arrow are those of the reply
pub told_behind : (words : List (List ℕ)) (count least many : ℕ) → count ≡ length words → least ≡ min count 2
    → Some many ≡ arrow_number (drop least words)
    → Some (take (count - (least + many + 1)) (drop (least + many + 1) words)) ≡ behind_arrow (drop 2 words)
told_behind words count least many all n e =
    let third = third_on words count least all n in
    let at : least + many + 1 ≡ least + (many + 1) = omega arith in
    ap (λ (k : ℕ). Some (take (k - (least + many + 1)) (drop (least + many + 1) words))) all
    ∙ ap (λ (ws : List (List ℕ)). Some ws) (take_rest words (least + many + 1) ∙ ap (λ (k : ℕ). drop k words) at
    ∙ sym (drop-drop (many + 1) least words) ∙ ap (drop (many + 1)) third)
    ∙ (parted (drop 2 words) many (sym (e ∙ ap arrow_number third))).behind

-- the word stands where it is told
pub told_there : (words : List (List ℕ)) (least many : ℕ) → Some many ≡ arrow_number (drop least words)
    → least + many < length words
told_there words least many e =
    let there : many < length (drop least words) =
    (position-Some (bytes_eq (codes "->")) (drop least words) many [] (sym e)).0 in
    omega (arith, there, length-drop least words)

-- ---- words without a space

abbrev single : List (List ℕ) → Type 0
single words = list_all (lacks 32) words ≡ true

-- no word of a line has a space in it
pub single_words : (text : List ℕ) → list_all (lacks 32) (words_of text) ≡ true
single_words text = (words_are text).single

single_drop : (words : List (List ℕ)) (n : ℕ) → single words → single (drop n words)
single_drop words zero h = h
single_drop [] (suc n) h = h
single_drop (word ∷ words) (suc n) h = single_drop words n (both (lacks 32 word) (list_all (lacks 32) words) h).1

single_before : (words : List (List ℕ)) → single words → single (before_arrow words)
single_before [] h = refl
single_before (word ∷ words) h =
    let p = both (lacks 32 word) (list_all (lacks 32) words) h in
    go (bytes_eq word (codes "->")) p.0 (single_before words p.1) where
      go : (t : Bool) → lacks 32 word ≡ true → single (before_arrow words)
          → single (cond t [] (word ∷ before_arrow words))
      go true here later = refl
      go false here later = rw (here, later) refl

single_behind : (words behind : List (List ℕ)) → single words → behind_arrow words ≡ Some behind → single behind
single_behind [] behind h e = absurd cc
single_behind (word ∷ words) behind h e =
    let p = both (lacks 32 word) (list_all (lacks 32) words) h in
    go (bytes_eq word (codes "->")) e p.1 (λ is. single_behind words behind p.1 is) where
      go : (t : Bool) → cond t (Some words) (behind_arrow words) ≡ Some behind → single words
          → (behind_arrow words ≡ Some behind → single behind) → single behind
      go true is here later = let same : words ≡ behind = cc in rw (← same) here
      go false is here later = later is

-- ---- read by their words or by their text

call_told_alike : (plan : PlanFields) (b last : ℕ) (words : List (List ℕ)) → single words
    → later_call_in plan b last words ≡ call_after plan b last (join_with_byte 32 words)
unfolding later_call_in call_after call_of call_in moment_in act_of
call_told_alike plan b last [] h = refl
call_told_alike plan b last (word ∷ words) h = rw (words_of-joined (word ∷ words) (omega arith) h) refl

pub told_call : (plan : PlanFields) (b last : ℕ) (words : List (List ℕ)) → single words
    → later_call_in plan b last (before_arrow (drop 2 words)) ≡ call_after plan b last (call_told words)
unfolding call_told
told_call plan b last words h =
    call_told_alike plan b last (before_arrow (drop 2 words)) (single_before (drop 2 words) (single_drop words 2 h))

no_reply_words : (plan : PlanFields) (b : ℕ) (act : Act) → reply_in plan b act [] ≡ reply_in plan b act ([] ∷ [])
unfolding reply_in shaped_reply lone_reply
no_reply_words plan b act = refl

reply_told_alike : (plan : PlanFields) (b : ℕ) (act : Act) (words : List (List ℕ)) → single words
    → reply_in plan b act words ≡ reply_of plan b act (join_with_byte 32 words)
unfolding reply_of
reply_told_alike plan b act [] h = no_reply_words plan b act
reply_told_alike plan b act (word ∷ words) h = rw (words_of-joined (word ∷ words) (omega arith) h) refl

pub told_reply : (plan : PlanFields) (b : ℕ) (act : Act) (words : List (List ℕ)) → single words
    → told_reply_in plan b act (behind_arrow (drop 2 words)) ≡ reply_behind plan b act (reply_told words)
unfolding reply_told told_reply_in reply_behind
told_reply plan b act words h = go (behind_arrow (drop 2 words)) refl where
  go : (o : Option (List (List ℕ))) → behind_arrow (drop 2 words) ≡ o
      → told_reply_in plan b act o ≡ reply_behind plan b act (option_map (λ behind. join_with_byte 32 behind) o)
  go None e = refl
  go (Some behind) e =
      reply_told_alike plan b act behind (single_behind (drop 2 words) behind (single_drop words 2 h) e)

pub ruleset told_rules = (told_call, told_reply)

pub ruleset cut_rules = (told_there)
