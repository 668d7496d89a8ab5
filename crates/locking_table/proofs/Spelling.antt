-- What is read is spelled so: the text is the row's own, and the row is one of the grammar.
use Rattle.std.proofs.Common.{◌≡◌, ℕ, ◌+◌, ◌≤◌, Bool, true, false, if◌then◌else◌, List, [], ◌∷◌, ◌++◌, length, Option}
use Rattle.std.proofs.Common.{Some, None, ◌⊎◌, inl, inr, refl, sym, ap, ◌∙◌, subst, arith, decimal, codes}
use Rattle.std.specs.Prelude.{All, Result, Ok, Err, bytes_eq}
use Rattle.std.proofs.lemmas.List.Elements.{All-nil, All-cons}
use Rattle.std.proofs.lemmas.Slice.Eq.{bytes_eq-Decides}
use Rattle.locking_table.specs.declared.places.End.{End}
use Rattle.locking_table.specs.declared.places.End.TheVariants.{Normal, Reversed}
use Rattle.locking_table.specs.declared.fault.RowFault.{RowFault}
use Rattle.locking_table.specs.declared.fault.RowFault.TheVariants as faults
use Rattle.locking_table.specs.declared.row.Cond.{Cond}
use Rattle.locking_table.specs.declared.row.Row.{Row}
use Rattle.locking_table.specs.declared.row.RowKind.{RowKind}
use Rattle.locking_table.specs.declared.row.RowKind.TheVariants.{LocksNormal, ReleasedBy, LocksBoth}
use Rattle.locking_table.specs.declared.words.Verb.{Verb}
use Rattle.locking_table.specs.declared.words.Verb.TheVariants.{Locks, Released}
use Rattle.locking_table.specs.declared.words.Bound.{Bound}
use Rattle.locking_table.specs.declared.words.Bound.TheVariants as bounds
use Rattle.locking_table.specs.Places.{IsLever}
use Rattle.locking_table.specs.Printing.{cond_words, end_word, kind_words, row_text, row_words, when_words}
use Rattle.locking_table.specs.Reading.{◌>>=◌, asked_by, asked_from, bound_from, bound_of, checked, cond_from}
use Rattle.locking_table.specs.Reading.{conds_from, end_from, end_of_text, end_of_word, first_by, grammar_of}
use Rattle.locking_table.specs.Reading.{has_no_word, lever_from, lever_of, locked_by, locked_from, only, only_from}
use Rattle.locking_table.specs.Reading.{row_from, row_of, said, second_from, verb_from, verb_of}
use Rattle.locking_table.specs.Sound.{CondFits, IsGrammarRow, IsRow, all_differ, levers_of}
use Rattle.locking_table.specs.Words.{Left, joined, words_of}
use Rattle.locking_table.proofs.LeverWords.{lever_of-spelled}
use Rattle.locking_table.proofs.WordLemmas.{joined-words_of}
use Rattle.locking_table.proofs.RoundTrip.{at}

-- ---- a word, by its meaning

pub same_bytes : (a b : List ℕ) → bytes_eq a b ≡ true → a ≡ b
same_bytes a b h = (bytes_eq-Decides a b).0 h

two_of : {A : Type 0} (s t : Bool) (x y z : A) → (if s then Some x else if t then Some y else None) ≡ Some z
    → ((s ≡ true) × (x ≡ z)) ⊎ ((t ≡ true) × (y ≡ z))
two_of true t x y z h = inl (refl, cc)
two_of false true x y z h = inr (refl, cc)
two_of false false x y z h = cc

-- a word that is read as an end is the word for that end
pub end_of_word-spelled : (word : List ℕ) (e : End) → end_of_word word ≡ Some e → word ≡ end_word e
end_of_word-spelled word e h =
    elim (two_of (bytes_eq word (codes "normal")) (bytes_eq word (codes "reversed")) Normal Reversed e h) [
      | inl p ↦ same_bytes word (codes "normal") p.0 ∙ ap end_word p.1
      | inr p ↦ same_bytes word (codes "reversed") p.0 ∙ ap end_word p.1
    ]

-- the word for a verb
abbrev pub verb_word : Verb → List ℕ
verb_word Locks = codes "locks"
verb_word Released = codes "released"

-- a word that is read as a verb is the word for that verb
pub verb_of-spelled : (word : List ℕ) (v : Verb) → verb_of word ≡ Some v → word ≡ verb_word v
verb_of-spelled word v h =
    elim (two_of (bytes_eq word (codes "locks")) (bytes_eq word (codes "released")) Locks Released v h) [
      | inl p ↦ same_bytes word (codes "locks") p.0 ∙ ap verb_word p.1
      | inr p ↦ same_bytes word (codes "released") p.0 ∙ ap verb_word p.1
    ]

-- the word behind a lever that is locked: in its normal place, or both ways
abbrev pub bound_word : Bound → List ℕ
bound_word bounds.Normal = codes "normal"
bound_word bounds.Both = codes "both"

-- a word that is read as how a lever is locked is the word for that
pub bound_of-spelled : (word : List ℕ) (b : Bound) → bound_of word ≡ Some b → word ≡ bound_word b
bound_of-spelled word b h =
    elim (two_of (bytes_eq word (codes "normal")) (bytes_eq word (codes "both")) bounds.Normal bounds.Both b h) [
      | inl p ↦ same_bytes word (codes "normal") p.0 ∙ ap bound_word p.1
      | inr p ↦ same_bytes word (codes "both") p.0 ∙ ap bound_word p.1
    ]

only_step : {A : Type 0} (t : Bool) (x y : A) → (if t then Some x else None) ≡ Some y → t ≡ true
only_step true x y h = refl
only_step false x y h = cc

-- a word that is taken for the one that is wanted is that word
pub only-spelled : (wanted word : List ℕ) → only wanted word ≡ Some tt → word ≡ wanted
only-spelled wanted word h = same_bytes word wanted (only_step (bytes_eq word wanted) tt tt h)

-- ---- the next word

pub record Taken {A : Type 0} (meaning : List ℕ → Option A) (words : List (List ℕ)) (value : A) (left : Left) : Type 0
  where
    pub word : List ℕ
    pub means : meaning word ≡ Some value
    pub split : words ≡ word ∷ left.words

said_ok : {A : Type 0} (o : Option A) (n : ℕ) (words : List (List ℕ)) (value : A) (left : Left)
    → said o n words ≡ Ok (value, left) → (o ≡ Some value) × (words ≡ left.words)
said_ok {A = A} None n words value left h = cc
said_ok {A = A} (Some v) n words value left h =
    let p : (v, at (n + 1) words) ≡ (value, left) = cc in
    (ap (λ (x : A × Left). Some x.0) p, ap (λ (x : A × Left). x.1.words) p)

pub taken : {A : Type 0} (meaning : List ℕ → Option A) (n : ℕ) (words : List (List ℕ)) (value : A) (left : Left)
    → first_by meaning n words ≡ Ok (value, left) → Taken meaning words value left
taken meaning n [] value left h = cc
taken meaning n (word ∷ words) value left h =
    let p = said_ok (meaning word) n words value left h in
    record { word = word; means = p.0; split = ap (λ (ws : List (List ℕ)). word ∷ ws) p.1 }

-- one step, and what follows it

pub record Chained {A B : Type 0} (first : Result A RowFault) (next : A → Result B RowFault) (value : B) : Type 0 where
  pub middle : A
  pub is : first ≡ Ok middle
  pub so : next middle ≡ Ok value

pub bound : {A B : Type 0} (first : Result A RowFault) (next : A → Result B RowFault) (value : B)
    → (first >>= next) ≡ Ok value → Chained first next value
bound (Ok x) next value h = record { middle = x; is = refl; so = h }
bound (Err e) next value h = cc

lever_spelled : (left : Left) (lever : ℕ) (more : Left) → lever_from left ≡ Ok (lever, more)
    → IsLever 120 lever × (left.words ≡ decimal lever ∷ more.words)
unfolding lever_from
lever_spelled left lever more h =
    let t = taken lever_of left.number left.words lever more h in
    let s = lever_of-spelled t.word lever t.means in
    (s.0, t.split ∙ ap (λ (w : List ℕ). w ∷ more.words) s.1)

end_spelled : (left : Left) (e : End) (more : Left) → end_from left ≡ Ok (e, more)
    → left.words ≡ end_word e ∷ more.words
unfolding end_from
end_spelled left e more h =
    let t = taken end_of_word left.number left.words e more h in
    t.split ∙ ap (λ (w : List ℕ). w ∷ more.words) (end_of_word-spelled t.word e t.means)

verb_spelled : (left : Left) (v : Verb) (more : Left) → verb_from left ≡ Ok (v, more)
    → left.words ≡ verb_word v ∷ more.words
unfolding verb_from
verb_spelled left v more h =
    let t = taken verb_of left.number left.words v more h in
    t.split ∙ ap (λ (w : List ℕ). w ∷ more.words) (verb_of-spelled t.word v t.means)

bound_spelled : (left : Left) (b : Bound) (more : Left) → bound_from left ≡ Ok (b, more)
    → left.words ≡ bound_word b ∷ more.words
unfolding bound_from
bound_spelled left b more h =
    let t = taken bound_of left.number left.words b more h in
    t.split ∙ ap (λ (w : List ℕ). w ∷ more.words) (bound_of-spelled t.word b t.means)

only_spelled : (wanted : List ℕ) (left : Left) (u : Unit {0}) (more : Left) → only_from wanted left ≡ Ok (u, more)
    → left.words ≡ wanted ∷ more.words
unfolding only_from
only_spelled wanted left u more h =
    let t = taken (only wanted) left.number left.words u more h in
    t.split ∙ ap (λ (w : List ℕ). w ∷ more.words) (only-spelled wanted t.word t.means)

-- ---- the parts of a row

locked_spelled_by : (b : Bound) (left : Left) (kind : RowKind) (more : Left) (object : ℕ)
    → locked_by b left ≡ Ok (kind, more)
    → codes "locks" ∷ decimal object ∷ bound_word b ∷ left.words ≡ kind_words kind object ++ more.words
unfolding locked_by
locked_spelled_by bounds.Normal left kind more object h =
    let p : (LocksNormal, left) ≡ (kind, more) = cc in
    ap (λ (x : RowKind × Left). kind_words x.0 object ++ x.1.words) p
locked_spelled_by bounds.Both left kind more object h =
    let s = bound (only_from (codes "ways") left) (λ (p : Unit {0} × Left). Ok (LocksBoth, p.1)) (kind, more) h in
    let w = only_spelled (codes "ways") left s.middle.0 s.middle.1 s.is in
    let p : (LocksBoth, s.middle.1) ≡ (kind, more) = let e = s.so in cc in
    ap (λ (ws : List (List ℕ)). codes "locks" ∷ decimal object ∷ codes "both" ∷ ws) w
    ∙ ap (λ (x : RowKind × Left). kind_words x.0 object ++ x.1.words) p

locked_spelled : (left : Left) (kind : RowKind) (more : Left) (object : ℕ) → locked_from left ≡ Ok (kind, more)
    → codes "locks" ∷ decimal object ∷ left.words ≡ kind_words kind object ++ more.words
unfolding locked_from
locked_spelled left kind more object h =
    let s = bound (bound_from left) (λ (p : Bound × Left). locked_by p.0 p.1) (kind, more) h in
    let w = bound_spelled left s.middle.0 s.middle.1 s.is in
    ap (λ (ws : List (List ℕ)). codes "locks" ∷ decimal object ∷ ws) w
    ∙ locked_spelled_by s.middle.0 s.middle.1 kind more object s.so

pub asked_spelled_by : (v : Verb) (left : Left) (asked : RowKind × ℕ) (more : Left) → asked_by v left ≡ Ok (asked, more)
    → IsLever 120 asked.1 × (verb_word v ∷ left.words ≡ kind_words asked.0 asked.1 ++ more.words)
unfolding asked_by
asked_spelled_by Locks left asked more h =
    let s = bound (lever_from left) (λ (o : ℕ × Left). locked_from o.1 >>= λ k. Ok ((k.0, o.0), k.1)) (asked, more) h in
    let o = lever_spelled left s.middle.0 s.middle.1 s.is in
    let t = bound (locked_from s.middle.1) (λ (k : RowKind × Left). Ok ((k.0, s.middle.0), k.1)) (asked, more) s.so in
    let k = locked_spelled s.middle.1 t.middle.0 t.middle.1 s.middle.0 t.is in
    let p : ((t.middle.0, s.middle.0), t.middle.1) ≡ (asked, more) = let e = t.so in cc in (
      subst (λ (x : (RowKind × ℕ) × Left). IsLever 120 x.0.1) p o.0,
      ap (λ (ws : List (List ℕ)). codes "locks" ∷ ws) o.1
          ∙ (k ∙ ap (λ (x : (RowKind × ℕ) × Left). kind_words x.0.0 x.0.1 ++ x.1.words) p),
    )
asked_spelled_by Released left asked more h =
    let s = bound (only_from (codes "by") left)
    (λ (b : Unit {0} × Left). lever_from b.1 >>= λ o. Ok ((ReleasedBy, o.0), o.1)) (asked, more) h in
    let b = only_spelled (codes "by") left s.middle.0 s.middle.1 s.is in
    let t = bound (lever_from s.middle.1) (λ (o : ℕ × Left). Ok ((ReleasedBy, o.0), o.1)) (asked, more) s.so in
    let o = lever_spelled s.middle.1 t.middle.0 t.middle.1 t.is in
    let p : ((ReleasedBy, t.middle.0), t.middle.1) ≡ (asked, more) = let e = t.so in cc in (
      subst (λ (x : (RowKind × ℕ) × Left). IsLever 120 x.0.1) p o.0,
      ap (λ (ws : List (List ℕ)). codes "released" ∷ ws) b
          ∙ (ap (λ (ws : List (List ℕ)). codes "released" ∷ codes "by" ∷ ws) o.1
          ∙ ap (λ (x : (RowKind × ℕ) × Left). kind_words x.0.0 x.0.1 ++ x.1.words) p),
    )

pub asked_spelled : (left : Left) (asked : RowKind × ℕ) (more : Left) → asked_from left ≡ Ok (asked, more)
    → IsLever 120 asked.1 × (left.words ≡ kind_words asked.0 asked.1 ++ more.words)
unfolding asked_from
asked_spelled left asked more h =
    let s = bound (verb_from left) (λ (p : Verb × Left). asked_by p.0 p.1) (asked, more) h in
    let v = verb_spelled left s.middle.0 s.middle.1 s.is in
    let a = asked_spelled_by s.middle.0 s.middle.1 asked more s.so in
    (a.0, v ∙ a.1)

pub cond_spelled : (joint : List ℕ) (left : Left) (cond : Cond) (more : Left) → cond_from joint left ≡ Ok (cond, more)
    → CondFits 120 cond × (left.words ≡ cond_words joint cond ++ more.words)
unfolding cond_from
cond_spelled joint left cond more h =
    let s = bound (only_from joint left)
    (λ (p : Unit {0} × Left). lever_from p.1 >>= λ l. end_from l.1
    >>= λ e. Ok (record { lever = l.0; end = e.0 }, e.1)) (cond, more) h in
    let j = only_spelled joint left s.middle.0 s.middle.1 s.is in
    let t = bound (lever_from s.middle.1)
    (λ (l : ℕ × Left). end_from l.1 >>= λ e. Ok (record { lever = l.0; end = e.0 }, e.1)) (cond, more) s.so in
    let l = lever_spelled s.middle.1 t.middle.0 t.middle.1 t.is in
    let u = bound (end_from t.middle.1) (λ (e : End × Left). Ok (record { lever = t.middle.0; end = e.0 }, e.1))
    (cond, more) t.so in
    let e = end_spelled t.middle.1 u.middle.0 u.middle.1 u.is in
    let c : Cond = record { lever = t.middle.0; end = u.middle.0 } in
    let p : (c, u.middle.1) ≡ (cond, more) = let so = u.so in cc in (
      subst (λ (x : Cond × Left). CondFits 120 x.0) p l.0,
      j ∙ (ap (λ (ws : List (List ℕ)). joint ∷ ws) l.1
          ∙ (ap (λ (ws : List (List ℕ)). joint ∷ decimal t.middle.0 ∷ ws) e
          ∙ ap (λ (x : Cond × Left). cond_words joint x.0 ++ x.1.words) p)),
    )

-- a list of words is empty where it is said to be
no_words : (words : List (List ℕ)) → has_no_word words ≡ true → words ≡ []
no_words [] h = refl
no_words (w ∷ ws) h = cc

pub record SpelledConds (words : List (List ℕ)) (conds : List Cond) : Type 0 where
  pub fits : All (CondFits 120) conds
  pub few : length conds ≤ 2
  pub split : words ≡ when_words conds

one_cond : (c : Cond) → CondFits 120 c → All (CondFits 120) (c ∷ [])
one_cond c fits = All-cons (CondFits 120) c [] fits (All-nil (CondFits 120))

last_step : (words : List (List ℕ)) (t : Bool) (made conds : List Cond) (left : Left) → has_no_word words ≡ t
    → ((if t then Ok (tt, left) else Err (faults.BadRow left.number)) >>= λ (_ : Unit {0} × Left). Ok made) ≡ Ok conds
    → (words ≡ []) × (made ≡ conds)
last_step words true made conds left none h = (no_words words none, cc)
last_step words false made conds left none h = cc

second_step : (first : Cond) (left : Left) (conds : List Cond) (t : Bool) → CondFits 120 first
    → has_no_word left.words ≡ t
    → (if t then Ok (first ∷ [])
    else (cond_from (codes "and") left >>= λ second. end_of_text second.1 >>= λ _. Ok (first ∷ second.0 ∷ [])))
    ≡ Ok conds
    → All (CondFits 120) conds × (length conds ≤ 2) × (cond_words (codes "when") first ++ left.words ≡ when_words conds)
unfolding end_of_text
second_step first left conds true fits none h =
    let p : first ∷ [] ≡ conds = cc in
    let l = ap length p in (
      subst (λ (cs : List Cond). All (CondFits 120) cs) p (one_cond first fits),
      omega arith,
      ap (λ (ws : List (List ℕ)). cond_words (codes "when") first ++ ws) (no_words left.words none) ∙ ap when_words p,
    )
second_step first left conds false fits none h =
    let s = bound (cond_from (codes "and") left)
    (λ (second : Cond × Left). end_of_text second.1 >>= λ _. Ok (first ∷ second.0 ∷ [])) conds h in
    let c = cond_spelled (codes "and") left s.middle.0 s.middle.1 s.is in
    let e = last_step s.middle.1.words (has_no_word s.middle.1.words) (first ∷ s.middle.0 ∷ []) conds s.middle.1 refl
    s.so in
    let l = ap length e.1 in (
      subst (λ (cs : List Cond). All (CondFits 120) cs) e.1
          (All-cons (CondFits 120) first (s.middle.0 ∷ []) fits (one_cond s.middle.0 c.0)),
      omega arith,
      ap (λ (ws : List (List ℕ)). cond_words (codes "when") first ++ ws)
          (c.1 ∙ ap (λ (ws : List (List ℕ)). cond_words (codes "and") s.middle.0 ++ ws) e.0) ∙ ap when_words e.1,
    )

conds_step : (left : Left) (conds : List Cond) (t : Bool) → has_no_word left.words ≡ t
    → (if t then Ok [] else (cond_from (codes "when") left >>= λ first. second_from first.0 first.1)) ≡ Ok conds
    → SpelledConds left.words conds
unfolding second_from
conds_step left conds true none h =
    let p : [] ≡ conds = cc in
    let l : 0 ≡ length conds = ap length p in
    record {
      fits = subst (λ (cs : List Cond). All (CondFits 120) cs) p (All-nil (CondFits 120));
      few = omega arith;
      split = no_words left.words none ∙ ap when_words p;
    }
conds_step left conds false none h =
    let s = bound (cond_from (codes "when") left) (λ (first : Cond × Left). second_from first.0 first.1) conds h in
    let c = cond_spelled (codes "when") left s.middle.0 s.middle.1 s.is in
    let d = second_step s.middle.0 s.middle.1 conds (has_no_word s.middle.1.words) c.0 refl s.so in
    record { fits = d.0; few = d.1; split = c.1 ∙ d.2 }

pub conds_spelled : (left : Left) (conds : List Cond) → conds_from left ≡ Ok conds → SpelledConds left.words conds
unfolding conds_from
conds_spelled left conds h = conds_step left conds (has_no_word left.words) refl h

pub record SpelledWords (words : List (List ℕ)) (row : Row) : Type 0 where
  pub grammar : IsGrammarRow row
  pub split : words ≡ row_words row

pub row_spelled : (left : Left) (row : Row) → row_from left ≡ Ok row → SpelledWords left.words row
unfolding row_from
row_spelled left row h =
    let s = bound (lever_from left)
    (λ (subject : ℕ × Left). asked_from subject.1 >>= λ asked. conds_from asked.1
    >>= λ conds. Ok (record { subject = subject.0; kind = asked.0.0; object = asked.0.1; when = conds })) row h in
    let subject = lever_spelled left s.middle.0 s.middle.1 s.is in
    let t = bound (asked_from s.middle.1)
    (λ (asked : (RowKind × ℕ) × Left). conds_from asked.1
    >>= λ conds. Ok (record { subject = s.middle.0; kind = asked.0.0; object = asked.0.1; when = conds })) row
    s.so in
    let asked = asked_spelled s.middle.1 t.middle.0 t.middle.1 t.is in
    let u = bound (conds_from t.middle.1)
    (λ (conds : List Cond). Ok
    (record { subject = s.middle.0; kind = t.middle.0.0; object = t.middle.0.1; when = conds })) row t.so in
    let conds = conds_spelled t.middle.1 u.middle u.is in
    let made : Row = record { subject = s.middle.0; kind = t.middle.0.0; object = t.middle.0.1; when = u.middle } in
    let p : made ≡ row = let so = u.so in cc in
    subst (λ (r : Row). SpelledWords left.words r) p
    (record {
      grammar =
          record { levers = record { subject = subject.0; object = asked.0; when = conds.fits }; few = conds.few };
      split =
          subject.1
          ∙ ap (λ (ws : List (List ℕ)). decimal s.middle.0 ∷ ws)
          (asked.1 ∙ ap (λ (ws : List (List ℕ)). kind_words t.middle.0.0 t.middle.0.1 ++ ws) conds.split);
    })

-- ---- the text of a row

pub record SpelledText (text : List ℕ) (row : Row) : Type 0 where
  pub grammar : IsGrammarRow row
  pub text_is : text ≡ row_text row

-- a text that the grammar reads as a row is the row's own, and the row is one of the grammar
pub grammar_spelled : (text : List ℕ) (row : Row) → grammar_of text ≡ Ok row → SpelledText text row
unfolding grammar_of
grammar_spelled text row h =
    let s = row_spelled (at 1 (words_of text)) row h in
    record { grammar = s.grammar; text_is = sym (joined-words_of text) ∙ ap joined s.split }

checked_step : (row made : Row) (t : Bool) → (if t then Ok row else Err faults.SameLever) ≡ Ok made
    → (t ≡ true) × (row ≡ made)
checked_step row made true h = (refl, cc)
checked_step row made false h = cc

-- a text that is read as a row is the row's own, and the levers of the row all differ
pub read_is_spelled : (text : List ℕ) (row : Row) → row_of text ≡ Ok row → IsRow row × (text ≡ row_text row)
unfolding row_of
read_is_spelled text row h =
    let s = bound (grammar_of text) checked row h in
    let g = grammar_spelled text s.middle s.is in
    let c = checked_step s.middle row (all_differ (levers_of s.middle)) s.so in
    subst (λ (r : Row). IsRow r × (text ≡ row_text r)) c.1
    (record { levers = g.grammar.levers; differ = c.0; few = g.grammar.few }, g.text_is)

-- a row that the grammar reads, and whose levers all differ, is one that a table may have
pub grammar_row : (text : List ℕ) (row : Row) → grammar_of text ≡ Ok row → all_differ (levers_of row) ≡ true → IsRow row
grammar_row text row h differ =
    let g = grammar_spelled text row h in record { levers = g.grammar.levers; differ = differ; few = g.grammar.few }

-- a text that the grammar reads as a row is the row's own
pub grammar_text : (text : List ℕ) (row : Row) → grammar_of text ≡ Ok row → text ≡ row_text row
grammar_text text row h = (grammar_spelled text row h).text_is

pub ruleset row_rules = (grammar_row, grammar_text)
