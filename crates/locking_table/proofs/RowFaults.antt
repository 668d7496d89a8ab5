-- The faults of a whole row.
use Rattle.std.proofs.Common.{◌≡◌, ◌↔◌, ℕ, ◌+◌, ◌≤◌, Bool, true, false, if◌then◌else◌, List, [], ◌∷◌, ◌++◌, length}
use Rattle.std.proofs.Common.{Option, Some, refl, sym, ap, ◌∙◌, subst, arith, decimal, codes, append_assoc, lit≤}
use Rattle.std.specs.Prelude.{All, Result, Ok, Err}
use Rattle.std.proofs.lemmas.List.{append-nil}
use Rattle.std.proofs.lemmas.List.Elements.{All-nil, All-cons}
use Rattle.locking_table.specs.declared.fault.RowFault.{RowFault}
use Rattle.locking_table.specs.declared.fault.RowFault.TheVariants as faults
use Rattle.locking_table.specs.declared.row.Cond.{Cond}
use Rattle.locking_table.specs.declared.row.Row.{Row}
use Rattle.locking_table.specs.declared.row.RowKind.{RowKind}
use Rattle.locking_table.specs.declared.row.RowKind.TheVariants.{LocksNormal, ReleasedBy, LocksBoth}
use Rattle.locking_table.specs.declared.words.Verb.{Verb}
use Rattle.locking_table.specs.declared.words.Verb.TheVariants.{Locks, Released}
use Rattle.locking_table.specs.declared.words.Bound.{Bound}
use Rattle.locking_table.specs.declared.words.Bound.TheVariants as bounds
use Rattle.locking_table.specs.FirstFault.{BeginsRow, NamesTwice, StopsAt}
use Rattle.locking_table.specs.Places.{IsLever}
use Rattle.locking_table.specs.Printing.{cond_words, kind_words}
use Rattle.locking_table.specs.Reading.{◌>>=◌, asked_by, asked_from, bound_from, bound_of, checked, cond_from}
use Rattle.locking_table.specs.Reading.{conds_from, end_of_text, first_by, grammar_of, lever_from, lever_of, locked_by}
use Rattle.locking_table.specs.Reading.{locked_from, only, only_from, row_from, row_of, second_from, verb_from, verb_of}
use Rattle.locking_table.specs.Sound.{CondFits, IsGrammarRow, all_differ, levers_of}
use Rattle.locking_table.specs.Words.{Left, words_of}
use Rattle.locking_table.proofs.LeverWords.{lever_of-spelled}
use Rattle.locking_table.proofs.RoundTrip.{at, grammar_reads}
use Rattle.locking_table.proofs.Spelling.{bound_of-spelled, bound_word, grammar_spelled, only-spelled, verb_of-spelled}
use Rattle.locking_table.proofs.Spelling.{verb_word}
use Rattle.locking_table.proofs.Faults.{Reading, Stopped, Texts, begins_with, cond_stops, step, step_by, stop_here}
use Rattle.locking_table.proofs.Faults.{twice}

-- reading goes on with a word, which is the one that spells its meaning
step_as : {A : Type 0} (meaning : List ℕ → Option A) (spell : A → List ℕ) (Fits : A → Type 0)
    (next : A × Left → Result Row RowFault) (rest : ℕ → Texts → Result Row RowFault) (front : Texts) (n : ℕ)
    (e : RowFault)
    → ((word : List ℕ) (value : A) → meaning word ≡ Some value → Fits value × (word ≡ spell value))
    → ((m : ℕ) (ws : Texts) → rest m ws ≡ step_by meaning next m ws) → Reading rest front n → BeginsRow front
    → ((value : A) → Fits value → Reading (λ m ws. next (value, at m ws)) (front ++ spell value ∷ []) (n + 1)
    → (words : Texts) → next (value, at (n + 1) words) ≡ Err e → Stopped ((front ++ spell value ∷ []) ++ words) e)
    → (words : Texts) → rest n words ≡ Err e → Stopped (front ++ words) e
step_as {A = A} meaning spell Fits next rest front n e spelled flat reading begins more words h =
    step meaning next rest front n e flat reading begins
    (λ word value is after ws k.
    let s = spelled word value is in
    subst (λ (w : List ℕ). Stopped ((front ++ w ∷ []) ++ ws) e) (sym s.1)
    (more value s.0
    (subst (λ (w : List ℕ). Reading (λ m ws. next (value, at m ws)) (front ++ w ∷ []) (n + 1)) s.1 after) ws k))
    words h

-- ---- the conditions

abbrev made : ℕ → RowKind → ℕ → List Cond → Result Row RowFault
made s k o conds = Ok (record { subject = s; kind = k; object = o; when = conds })

abbrev opening : ℕ → RowKind → ℕ → Texts
opening s k o = decimal s ∷ kind_words k o

grammar_row : (s : ℕ) (k : RowKind) (o : ℕ) (conds : List Cond) → IsLever 120 s → IsLever 120 o
    → All (CondFits 120) conds → length conds ≤ 2
    → IsGrammarRow (record { subject = s; kind = k; object = o; when = conds })
grammar_row s k o conds subject object fits few =
    record { levers = record { subject = subject; object = object; when = fits }; few = few }

one : (c : Cond) → CondFits 120 c → All (CondFits 120) (c ∷ [])
one c fits = All-cons (CondFits 120) c [] fits (All-nil (CondFits 120))

begins_none : (s : ℕ) (k : RowKind) (o : ℕ) → IsLever 120 s → IsLever 120 o → BeginsRow (opening s k o)
begins_none s k o subject object = record {
  row = record { subject = s; kind = k; object = o; when = [] };
  grammar = grammar_row s k o [] subject object (All-nil (CondFits 120)) (lit≤ tt);
  more = [];
  split = refl;
}

begins_one : (s : ℕ) (k : RowKind) (o : ℕ) (c : Cond) → IsLever 120 s → IsLever 120 o → CondFits 120 c
    → BeginsRow (opening s k o ++ cond_words (codes "when") c)
begins_one s k o c subject object fits = record {
  row = record { subject = s; kind = k; object = o; when = c ∷ [] };
  grammar = grammar_row s k o (c ∷ []) subject object (one c fits) (omega arith);
  more = [];
  split = sym (append-nil (opening s k o ++ cond_words (codes "when") c));
}

begins_two : (s : ℕ) (k : RowKind) (o : ℕ) (c d : Cond) → IsLever 120 s → IsLever 120 o → CondFits 120 c
    → CondFits 120 d → BeginsRow ((opening s k o ++ cond_words (codes "when") c) ++ cond_words (codes "and") d)
begins_two s k o c d subject object first second = record {
  row = record { subject = s; kind = k; object = o; when = c ∷ d ∷ [] };
  grammar =
      grammar_row s k o (c ∷ d ∷ []) subject object (All-cons (CondFits 120) c (d ∷ []) first (one d second))
      (omega arith);
  more = [];
  split =
      sym (append-nil ((opening s k o ++ cond_words (codes "when") c) ++ cond_words (codes "and") d)
      ∙ append_assoc (opening s k o) (cond_words (codes "when") c) (cond_words (codes "and") d));
}

-- behind two conditions there is no word more
tail_stops : (s : ℕ) (k : RowKind) (o : ℕ) (c d : Cond) (front : Texts) (n : ℕ) (e : RowFault) → BeginsRow front
    → Reading (λ m ws. (end_of_text (at m ws) >>= λ _. Ok (c ∷ d ∷ [])) >>= made s k o) front n
    → (words : Texts) → ((end_of_text (at n words) >>= λ _. Ok (c ∷ d ∷ [])) >>= made s k o) ≡ Err e
    → Stopped (front ++ words) e
unfolding end_of_text
tail_stops s k o c d front n e begins reading [] h = cc
tail_stops s k o c d front n e begins reading (word ∷ words) h =
    stop_here front n word words e reading.place begins (cc) (λ more. reading.goes (word ∷ more))

second_stops : (s : ℕ) (k : RowKind) (o : ℕ) (c : Cond) (n : ℕ) (e : RowFault) → IsLever 120 s → IsLever 120 o
    → CondFits 120 c
    → Reading (λ m ws. second_from c (at m ws) >>= made s k o) (opening s k o ++ cond_words (codes "when") c) n
    → (words : Texts) → (second_from c (at n words) >>= made s k o) ≡ Err e
    → Stopped ((opening s k o ++ cond_words (codes "when") c) ++ words) e
unfolding second_from
second_stops s k o c n e subject object fits reading [] h = cc
second_stops s k o c n e subject object fits reading (word ∷ words) h =
    let front : Texts = opening s k o ++ cond_words (codes "when") c in
    let last : Cond × Left
    → Result (List Cond) RowFault = λ second. end_of_text second.1 >>= λ _. Ok (c ∷ second.0 ∷ []) in
    cond_stops (codes "and") (λ x. last x >>= made s k o) front n e reading.place
    (λ d second. begins_two s k o c d subject object fits second)
    (λ w more. reading.goes (w ∷ more) ∙ twice (cond_from (codes "and") (at n (w ∷ more))) last (made s k o))
    (λ d second after ws g. tail_stops s k o c d (front ++ cond_words (codes "and") d) (n + 1 + 1 + 1) e
    (begins_two s k o c d subject object fits second) after ws g)
    word words (sym (twice (cond_from (codes "and") (at n (word ∷ words))) last (made s k o)) ∙ h)

conds_stops : (s : ℕ) (k : RowKind) (o : ℕ) (n : ℕ) (e : RowFault) → IsLever 120 s → IsLever 120 o
    → Reading (λ m ws. conds_from (at m ws) >>= made s k o) (opening s k o) n
    → (words : Texts) → (conds_from (at n words) >>= made s k o) ≡ Err e → Stopped (opening s k o ++ words) e
unfolding conds_from
conds_stops s k o n e subject object reading [] h = cc
conds_stops s k o n e subject object reading (word ∷ words) h =
    let rest : Cond × Left → Result (List Cond) RowFault = λ first. second_from first.0 first.1 in
    cond_stops (codes "when") (λ x. rest x >>= made s k o) (opening s k o) n e reading.place
    (λ c fits. begins_one s k o c subject object fits)
    (λ w more. reading.goes (w ∷ more) ∙ twice (cond_from (codes "when") (at n (w ∷ more))) rest (made s k o))
    (λ c fits after ws g. second_stops s k o c (n + 1 + 1 + 1) e subject object fits after ws g)
    word words (sym (twice (cond_from (codes "when") (at n (word ∷ words))) rest (made s k o)) ∙ h)

-- ---- what the row says of its object

abbrev rest_of : ℕ → (RowKind × ℕ) × Left → Result Row RowFault
rest_of s asked = conds_from asked.1 >>= made s asked.0.0 asked.0.1

Any : {A : Type 0} → A → Type 0
Any a = Unit {0}

only_fits : (wanted word : List ℕ) (u : Unit {0}) → only wanted word ≡ Some u → Unit {0} × (word ≡ wanted)
only_fits wanted word u h = (tt, only-spelled wanted word h)

-- behind `locks B`

abbrev with_kind : ℕ → ℕ → RowKind × Left → Result Row RowFault
with_kind s o kind = rest_of s ((kind.0, o), kind.1)

bound_stops : (s o : ℕ) (b : Bound) (n : ℕ) (e : RowFault) → IsLever 120 s → IsLever 120 o
    → Reading (λ m ws. locked_by b (at m ws) >>= with_kind s o)
    (decimal s ∷ codes "locks" ∷ decimal o ∷ bound_word b ∷ []) n
    → (words : Texts) → (locked_by b (at n words) >>= with_kind s o) ≡ Err e
    → Stopped ((decimal s ∷ codes "locks" ∷ decimal o ∷ bound_word b ∷ []) ++ words) e
unfolding locked_by only_from
bound_stops s o bounds.Normal n e subject object reading words h =
    conds_stops s LocksNormal o n e subject object reading words h
bound_stops s o bounds.Both n e subject object reading words h =
    step_as (only (codes "ways")) (λ _. codes "ways") (λ _. Unit {0}) (λ p. with_kind s o (LocksBoth, p.1))
    (λ m ws. locked_by bounds.Both (at m ws) >>= with_kind s o)
    (decimal s ∷ codes "locks" ∷ decimal o ∷ codes "both" ∷ []) n e
    (only_fits (codes "ways"))
    (λ m ws. twice (first_by (only (codes "ways")) m ws) (λ p. Ok (LocksBoth, p.1)) (with_kind s o)) reading
    (begins_with (decimal s ∷ codes "locks" ∷ decimal o ∷ codes "both" ∷ []) (codes "ways" ∷ []) (opening s LocksBoth o)
    (begins_none s LocksBoth o subject object) refl)
    (λ u fits after ws g. conds_stops s LocksBoth o (n + 1) e subject object after ws g) words h

locked_stops : (s o : ℕ) (n : ℕ) (e : RowFault) → IsLever 120 s → IsLever 120 o
    → Reading (λ m ws. locked_from (at m ws) >>= with_kind s o) (decimal s ∷ codes "locks" ∷ decimal o ∷ []) n
    → (words : Texts) → (locked_from (at n words) >>= with_kind s o) ≡ Err e
    → Stopped ((decimal s ∷ codes "locks" ∷ decimal o ∷ []) ++ words) e
unfolding locked_from bound_from
locked_stops s o n e subject object reading words h =
    step_as bound_of bound_word (λ _. Unit {0}) (λ b. locked_by b.0 b.1 >>= with_kind s o)
    (λ m ws. locked_from (at m ws) >>= with_kind s o) (decimal s ∷ codes "locks" ∷ decimal o ∷ []) n e
    (λ w b is. (tt, bound_of-spelled w b is))
    (λ m ws. twice (first_by bound_of m ws) (λ b. locked_by b.0 b.1) (with_kind s o)) reading
    (begins_with (decimal s ∷ codes "locks" ∷ decimal o ∷ []) (codes "normal" ∷ []) (opening s LocksNormal o)
    (begins_none s LocksNormal o subject object) refl)
    (λ b fits after ws g. bound_stops s o b (n + 1) e subject object after ws g) words h

-- a kind is read behind the object of a row that locks
kind_flat : (s o : ℕ) (r : Result (RowKind × Left) RowFault)
    → ((r >>= λ k. Ok ((k.0, o), k.1)) >>= rest_of s) ≡ (r >>= with_kind s o)
kind_flat s o (Ok k) = refl
kind_flat s o (Err e) = refl

lock_flat : (s : ℕ) (r : Result (ℕ × Left) RowFault)
    → ((r >>= λ o. locked_from o.1 >>= λ k. Ok ((k.0, o.0), k.1)) >>= rest_of s)
    ≡ (r >>= λ o. locked_from o.1 >>= with_kind s o.0)
lock_flat s (Ok o) = kind_flat s o.0 (locked_from o.1)
lock_flat s (Err e) = refl

abbrev with_released : ℕ → ℕ × Left → Result Row RowFault
with_released s o = rest_of s ((ReleasedBy, o.0), o.1)

by_flat : (s : ℕ) (r : Result (ℕ × Left) RowFault)
    → ((r >>= λ o. Ok ((ReleasedBy, o.0), o.1)) >>= rest_of s) ≡ (r >>= with_released s)
by_flat s (Ok o) = refl
by_flat s (Err e) = refl

released_flat : (s : ℕ) (r : Result (Unit {0} × Left) RowFault)
    → ((r >>= λ p. lever_from p.1 >>= λ o. Ok ((ReleasedBy, o.0), o.1)) >>= rest_of s)
    ≡ (r >>= λ p. lever_from p.1 >>= with_released s)
released_flat s (Ok p) = by_flat s (lever_from p.1)
released_flat s (Err e) = refl

released_stops : (s : ℕ) (n : ℕ) (e : RowFault) → IsLever 120 s
    → Reading (λ m ws. lever_from (at m ws) >>= with_released s) (decimal s ∷ codes "released" ∷ codes "by" ∷ []) n
    → (words : Texts) → (lever_from (at n words) >>= with_released s) ≡ Err e
    → Stopped ((decimal s ∷ codes "released" ∷ codes "by" ∷ []) ++ words) e
unfolding lever_from
released_stops s n e subject reading words h =
    step_as lever_of decimal (λ o. IsLever 120 o) (with_released s) (λ m ws. lever_from (at m ws) >>= with_released s)
    (decimal s ∷ codes "released" ∷ codes "by" ∷ []) n e
    lever_of-spelled (λ m ws. refl) reading
    (begins_with (decimal s ∷ codes "released" ∷ codes "by" ∷ []) (decimal 1 ∷ []) (opening s ReleasedBy 1)
    (begins_none s ReleasedBy 1 subject (lit≤ tt, lit≤ tt)) refl)
    (λ o object after ws g. conds_stops s ReleasedBy o (n + 1) e subject object after ws g) words h

verb_stops : (s : ℕ) (v : Verb) (n : ℕ) (e : RowFault) → IsLever 120 s
    → Reading (λ m ws. asked_by v (at m ws) >>= rest_of s) (decimal s ∷ verb_word v ∷ []) n
    → (words : Texts) → (asked_by v (at n words) >>= rest_of s) ≡ Err e
    → Stopped ((decimal s ∷ verb_word v ∷ []) ++ words) e
unfolding asked_by lever_from only_from
verb_stops s Locks n e subject reading words h =
    step_as lever_of decimal (λ o. IsLever 120 o) (λ o. locked_from o.1 >>= with_kind s o.0)
    (λ m ws. asked_by Locks (at m ws) >>= rest_of s) (decimal s ∷ codes "locks" ∷ []) n e
    lever_of-spelled (λ m ws. lock_flat s (first_by lever_of m ws)) reading
    (begins_with (decimal s ∷ codes "locks" ∷ []) (decimal 1 ∷ codes "normal" ∷ []) (opening s LocksNormal 1)
    (begins_none s LocksNormal 1 subject (lit≤ tt, lit≤ tt)) refl)
    (λ o object after ws g. locked_stops s o (n + 1) e subject object after ws g) words h
verb_stops s Released n e subject reading words h =
    step_as (only (codes "by")) (λ _. codes "by") (λ _. Unit {0}) (λ p. lever_from p.1 >>= with_released s)
    (λ m ws. asked_by Released (at m ws) >>= rest_of s) (decimal s ∷ codes "released" ∷ []) n e
    (only_fits (codes "by")) (λ m ws. released_flat s (first_by (only (codes "by")) m ws)) reading
    (begins_with (decimal s ∷ codes "released" ∷ []) (codes "by" ∷ decimal 1 ∷ []) (opening s ReleasedBy 1)
    (begins_none s ReleasedBy 1 subject (lit≤ tt, lit≤ tt)) refl)
    (λ u fits after ws g. released_stops s (n + 1) e subject after ws g) words h

asked_stops : (s : ℕ) (n : ℕ) (e : RowFault) → IsLever 120 s
    → Reading (λ m ws. asked_from (at m ws) >>= rest_of s) (decimal s ∷ []) n
    → (words : Texts) → (asked_from (at n words) >>= rest_of s) ≡ Err e → Stopped ((decimal s ∷ []) ++ words) e
unfolding asked_from verb_from
asked_stops s n e subject reading words h =
    step_as verb_of verb_word (λ _. Unit {0}) (λ v. asked_by v.0 v.1 >>= rest_of s)
    (λ m ws. asked_from (at m ws) >>= rest_of s) (decimal s ∷ []) n e
    (λ w v is. (tt, verb_of-spelled w v is)) (λ m ws. twice (first_by verb_of m ws) (λ v. asked_by v.0 v.1) (rest_of s))
    reading
    (begins_with (decimal s ∷ []) (codes "locks" ∷ decimal 1 ∷ codes "normal" ∷ []) (opening s LocksNormal 1)
    (begins_none s LocksNormal 1 subject (lit≤ tt, lit≤ tt)) refl)
    (λ v fits after ws g. verb_stops s v (n + 1) e subject after ws g) words h

-- ---- a whole row, and its text

row_stops : (words : Texts) (e : RowFault) → row_from (at 1 words) ≡ Err e → Stopped words e
unfolding row_from lever_from
row_stops words e h =
    step_as lever_of decimal (λ s. IsLever 120 s) (λ s. asked_from s.1 >>= rest_of s.0) (λ m ws. row_from (at m ws)) []
    1 e
    lever_of-spelled (λ m ws. refl) (record { place = refl; goes = λ ws. refl })
    (begins_with [] (opening 1 LocksNormal 1) (opening 1 LocksNormal 1)
    (begins_none 1 LocksNormal 1 (lit≤ tt, lit≤ tt) (lit≤ tt, lit≤ tt)) refl)
    (λ s subject after ws g. asked_stops s 2 e subject after ws g) words h

grammar_stops : (text : List ℕ) (e : RowFault) → grammar_of text ≡ Err e → Stopped (words_of text) e
unfolding grammar_of
grammar_stops text e h = row_stops (words_of text) e h

-- the answers of reading, one by one

answer_step : (text : List ℕ) (number : ℕ) (r : Result Row RowFault) → grammar_of text ≡ r
    → (r >>= checked) ≡ Err (faults.BadRow number) → StopsAt (words_of text) number
answer_step text number (Ok row) is h = differ_step (all_differ (levers_of row)) h
  where
    differ_step : (t : Bool) → (if t then Ok row else Err faults.SameLever) ≡ Err (faults.BadRow number)
        → StopsAt (words_of text) number
    differ_step true g = cc
    differ_step false g = cc
answer_step text number (Err e) is h =
    let s = grammar_stops text e is in
    let same : s.number ≡ number = let a = s.names in cc in
    subst (λ (n : ℕ). StopsAt (words_of text) n) same s.stops

-- where a text is told to be a bad row from a word on, that word is the first with which no row's text goes on, or
-- one past the last
pub bad_row : (text : List ℕ) (number : ℕ) → row_of text ≡ Err (faults.BadRow number) → StopsAt (words_of text) number
unfolding row_of
bad_row text number h = answer_step text number (grammar_of text) refl h

-- a text of the grammar that names a lever twice, and no other, is refused so

twice_step : (text : List ℕ) (r : Result Row RowFault) → grammar_of text ≡ r → (r >>= checked) ≡ Err faults.SameLever
    → NamesTwice text
twice_step text (Ok row) is h = differ_step (all_differ (levers_of row)) refl h
  where
    differ_step : (t : Bool) → all_differ (levers_of row) ≡ t
        → (if t then Ok row else Err faults.SameLever) ≡ Err faults.SameLever → NamesTwice text
    differ_step true differ g = cc
    differ_step false differ g =
        let s = grammar_spelled text row is in
        record { row = row; grammar = s.grammar; text_is = s.text_is; again = differ }
twice_step text (Err e) is h = let s = grammar_stops text e is in let a = s.names in cc

twice_refused : (text : List ℕ) → NamesTwice text → row_of text ≡ Err faults.SameLever
unfolding row_of
twice_refused text names =
    let read = ap grammar_of names.text_is ∙ grammar_reads names.row names.grammar in
    let again = names.again in
    rw (read, again) refl

twice_read : (text : List ℕ) → row_of text ≡ Err faults.SameLever → NamesTwice text
unfolding row_of
twice_read text h = twice_step text (grammar_of text) refl h

-- a text is refused for the same lever exactly where it is that of a row that names a lever twice
pub same_lever : (text : List ℕ) → (row_of text ≡ Err faults.SameLever) ↔ NamesTwice text
same_lever text = (twice_read text, twice_refused text)
