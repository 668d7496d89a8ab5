-- Where reading fails, the word that it names is the first with which no row's text goes on.
use Rattle.std.proofs.Common.{◌≡◌, ℕ, ◌+◌, List, [], ◌∷◌, ◌++◌, length, Option, Some, None, refl, sym, ap, ◌∙◌, subst}
use Rattle.std.proofs.Common.{arith, decimal, append_assoc, length-append, lit≤}
use Rattle.std.specs.Prelude.{Result, Ok, Err}
use Rattle.std.proofs.lemmas.List.{append-nil}
use Rattle.locking_table.specs.declared.places.End.{End}
use Rattle.locking_table.specs.declared.places.End.TheVariants.{Normal}
use Rattle.locking_table.specs.declared.fault.RowFault.{RowFault}
use Rattle.locking_table.specs.declared.fault.RowFault.TheVariants as faults
use Rattle.locking_table.specs.declared.row.Cond.{Cond}
use Rattle.locking_table.specs.declared.row.Row.{Row}
use Rattle.locking_table.specs.FirstFault.{BeginsRow, StopsAt}
use Rattle.locking_table.specs.Places.{IsLever}
use Rattle.locking_table.specs.Printing.{cond_words, end_word}
use Rattle.locking_table.specs.Reading.{◌>>=◌, cond_from, end_from, end_of_word, first_by, lever_from, lever_of, only}
use Rattle.locking_table.specs.Reading.{only_from, row_from, said}
use Rattle.locking_table.specs.Sound.{CondFits}
use Rattle.locking_table.specs.Words.{Left}
use Rattle.locking_table.proofs.LeverWords.{lever_of-spelled}
use Rattle.locking_table.proofs.RoundTrip.{at, row_reads}
use Rattle.locking_table.proofs.Spelling.{end_of_word-spelled, only-spelled}

-- words in a row
abbrev pub Texts : Type 0
Texts = List (List ℕ)

-- the error names the word at which these words leave the grammar
pub record Stopped (words : Texts) (e : RowFault) : Type 0 where
  pub number : ℕ
  pub names : e ≡ faults.BadRow number
  pub stops : StopsAt words number

-- ---- one word

-- reading after the words in front fails at the next one, whatever follows it
pub stop_here : (front : Texts) (n : ℕ) (word : List ℕ) (words : Texts) (e : RowFault) → n ≡ length front + 1
    → BeginsRow front → e ≡ faults.BadRow n
    → ((more : Texts) → row_from (at 1 (front ++ word ∷ more)) ≡ Err (faults.BadRow n))
    → Stopped (front ++ word ∷ words) e
stop_here front n word words e place begins is fails = record {
  number = n;
  names = is;
  stops = record {
    front = front;
    rest = word ∷ words;
    split = refl;
    place = place;
    begins = begins;
    leaves =
        λ row grammar more same. let a = row_reads row grammar in
        let b = fails more in
        let c = ap (λ (ws : Texts). row_from (at 1 ws)) same in
        cc;
  };
}

-- and where no word is left
pub stop_end : (front : Texts) (n : ℕ) (e : RowFault) → n ≡ length front + 1 → BeginsRow front → e ≡ faults.BadRow n
    → row_from (at 1 (front ++ [])) ≡ Err (faults.BadRow n) → Stopped (front ++ []) e
stop_end front n e place begins is fails = record {
  number = n;
  names = is;
  stops = record {
    front = front;
    rest = [];
    split = refl;
    place = place;
    begins = begins;
    leaves =
        λ row grammar same. let a = row_reads row grammar in
        let c = ap (λ (ws : Texts). row_from (at 1 ws)) (append-nil front ∙ sym same) in
        cc;
  };
}

-- a word by its meaning, and then the rest
abbrev pub step_by : {A : Type 0} → (List ℕ → Option A) → (A × Left → Result Row RowFault) → ℕ → Texts
    → Result Row RowFault
step_by meaning next n words = first_by meaning n words >>= next

-- how reading goes on behind the words in front
pub record Reading (rest : ℕ → Texts → Result Row RowFault) (front : Texts) (n : ℕ) : Type 0 where
  pub place : n ≡ length front + 1
  pub goes : (words : Texts) → row_from (at 1 (front ++ words)) ≡ rest n words

one_more : (front : Texts) (word : List ℕ) (n : ℕ) → n ≡ length front + 1 → n + 1 ≡ length (front ++ word ∷ []) + 1
one_more front word n place = let l = length-append front (word ∷ []) in omega arith

advanced : {A : Type 0} (meaning : List ℕ → Option A) (next : A × Left → Result Row RowFault) (front : Texts) (n : ℕ)
    (word : List ℕ) (value : A) → n ≡ length front + 1 → meaning word ≡ Some value
    → ((more : Texts) → row_from (at 1 (front ++ word ∷ more)) ≡ step_by meaning next n (word ∷ more))
    → Reading (λ m words. next (value, at m words)) (front ++ word ∷ []) (n + 1)
advanced {A = A} meaning next front n word value place is goes = record {
  place = one_more front word n place;
  goes =
      λ more. ap (λ (ws : Texts). row_from (at 1 ws)) (append_assoc front (word ∷ []) more)
      ∙ (goes more ∙ ap (λ (o : Option A). said o n more >>= next) is);
}

-- what is left to show where the word is taken
abbrev pub GoesOn : {A : Type 0} → (List ℕ → Option A) → (A × Left → Result Row RowFault) → Texts → ℕ → RowFault
    → Type 0
GoesOn {A} meaning next front n e =
    (word : List ℕ) (value : A) → meaning word ≡ Some value
    → Reading (λ m words. next (value, at m words)) (front ++ word ∷ []) (n + 1)
    → (words : Texts) → next (value, at (n + 1) words) ≡ Err e → Stopped ((front ++ word ∷ []) ++ words) e

word_step : {A : Type 0} (meaning : List ℕ → Option A) (next : A × Left → Result Row RowFault) (front : Texts) (n : ℕ)
    (word : List ℕ) (words : Texts) (e : RowFault) (o : Option A)
    → n ≡ length front + 1 → BeginsRow front → meaning word ≡ o
    → ((more : Texts) → row_from (at 1 (front ++ word ∷ more)) ≡ step_by meaning next n (word ∷ more))
    → GoesOn meaning next front n e
    → (said o n words >>= next) ≡ Err e → Stopped (front ++ word ∷ words) e
word_step {A = A} meaning next front n word words e None place begins is goes more h =
    stop_here front n word words e place begins (cc)
    (λ rest. goes rest ∙ ap (λ (o : Option A). said o n rest >>= next) is)
word_step {A = A} meaning next front n word words e (Some value) place begins is goes more h =
    subst (λ (ws : Texts). Stopped ws e) (append_assoc front (word ∷ []) words)
    (more word value is (advanced meaning next front n word value place is goes) words h)

-- reading goes on with a word by its meaning
pub step : {A : Type 0} (meaning : List ℕ → Option A) (next : A × Left → Result Row RowFault)
    (rest : ℕ → Texts → Result Row RowFault) (front : Texts) (n : ℕ) (e : RowFault)
    → ((m : ℕ) (ws : Texts) → rest m ws ≡ step_by meaning next m ws) → Reading rest front n → BeginsRow front
    → GoesOn meaning next front n e → (words : Texts) → rest n words ≡ Err e → Stopped (front ++ words) e
step meaning next rest front n e flat reading begins more [] h =
    let f = flat n [] in stop_end front n e reading.place begins (cc) (reading.goes [] ∙ f)
step meaning next rest front n e flat reading begins more (word ∷ words) h =
    word_step meaning next front n word words e (meaning word) reading.place begins refl
    (λ ws. reading.goes (word ∷ ws) ∙ flat n (word ∷ ws)) more (sym (flat n (word ∷ words)) ∙ h)

-- ---- steps in a row are steps one after another

-- three steps of reading, one after another, come to the same whichever two are taken together
pub twice : {A B C : Type 0} (r : Result A RowFault) (f : A → Result B RowFault) (g : B → Result C RowFault)
    → ((r >>= f) >>= g) ≡ (r >>= λ x. f x >>= g)
twice (Ok x) f g = refl
twice (Err e) f g = refl

pub thrice : {A B C D : Type 0} (r : Result A RowFault) (f : A → Result B RowFault) (g : B → Result C RowFault)
    (h : C → Result D RowFault) → (((r >>= f) >>= g) >>= h) ≡ (r >>= λ x. (f x >>= g) >>= h)
thrice (Ok x) f g h = refl
thrice (Err e) f g h = refl

-- ---- a condition

-- where words begin a row's text, so do the first of them
pub begins_with : (front more words : Texts) → BeginsRow words → words ≡ front ++ more → BeginsRow front
begins_with front more words b same = record {
  row = b.row;
  grammar = b.grammar;
  more = more ++ b.more;
  split = b.split ∙ (ap (λ (ws : Texts). ws ++ b.more) same ∙ append_assoc front more b.more);
}

two_more : (front : Texts) (a b : List ℕ) → (front ++ a ∷ []) ++ b ∷ [] ≡ front ++ a ∷ b ∷ []
two_more front a b = append_assoc front (a ∷ []) (b ∷ [])

three_more : (front : Texts) (a b c : List ℕ) → ((front ++ a ∷ []) ++ b ∷ []) ++ c ∷ [] ≡ front ++ a ∷ b ∷ c ∷ []
three_more front a b c =
    ap (λ (ws : Texts). ws ++ c ∷ []) (two_more front a b) ∙ append_assoc front (a ∷ b ∷ []) (c ∷ [])

abbrev cond_at : ℕ → End → Cond
cond_at lever e = record { lever = lever; end = e }

-- how a condition is read behind its joint, and then the rest

abbrev with_end : (Cond × Left → Result Row RowFault) → ℕ → End × Left → Result Row RowFault
with_end next lever e = next (cond_at lever e.0, e.1)

abbrev with_lever : (Cond × Left → Result Row RowFault) → ℕ × Left → Result Row RowFault
with_lever next lever = step_by end_of_word (with_end next lever.0) lever.1.number lever.1.words

abbrev with_joint : (Cond × Left → Result Row RowFault) → Unit {0} × Left → Result Row RowFault
with_joint next joint = step_by lever_of (with_lever next) joint.1.number joint.1.words

cond_flat : (joint : List ℕ) (next : Cond × Left → Result Row RowFault) (n : ℕ) (words : Texts)
    → (cond_from joint (at n words) >>= next) ≡ step_by (only joint) (with_joint next) n words
unfolding cond_from only_from lever_from end_from
cond_flat joint next n words = chained (first_by (only joint) n words)
  where
    last : (lever : ℕ) (r : Result (End × Left) RowFault)
        → ((r >>= λ e. Ok (cond_at lever e.0, e.1)) >>= next) ≡ (r >>= with_end next lever)
    last lever (Ok e) = refl
    last lever (Err e) = refl

    middle : (r : Result (ℕ × Left) RowFault)
        → ((r >>= λ l. end_from l.1 >>= λ e. Ok (cond_at l.0 e.0, e.1)) >>= next) ≡ (r >>= with_lever next)
    middle (Ok l) = last l.0 (end_from l.1)
    middle (Err e) = refl

    chained : (r : Result (Unit {0} × Left) RowFault)
        → ((r >>= λ p. lever_from p.1 >>= λ l. end_from l.1 >>= λ e. Ok (cond_at l.0 e.0, e.1)) >>= next)
        ≡ (r >>= with_joint next)
    chained (Ok p) = middle (lever_from p.1)
    chained (Err e) = refl

abbrev pub AfterCond : (Cond × Left → Result Row RowFault) → List ℕ → Texts → ℕ → RowFault → Type 0
AfterCond next joint front n e =
    (c : Cond) → CondFits 120 c
    → Reading (λ m words. next (c, at m words)) (front ++ cond_words joint c) (n + 1 + 1 + 1)
    → (words : Texts) → next (c, at (n + 1 + 1 + 1) words) ≡ Err e → Stopped ((front ++ cond_words joint c) ++ words) e

same_front : (rest : ℕ → Texts → Result Row RowFault) (n : ℕ) (front other : Texts) → front ≡ other
    → Reading rest front n → Reading rest other n
same_front rest n front other same reading = subst (λ (ws : Texts). Reading rest ws n) same reading

-- where reading fails in a condition, or behind it, the error names the word at which the words leave the grammar,
-- if it does so behind each condition that is read
pub cond_stops : (joint : List ℕ) (next : Cond × Left → Result Row RowFault) (front : Texts) (n : ℕ) (e : RowFault)
    → n ≡ length front + 1
    → ((c : Cond) → CondFits 120 c → BeginsRow (front ++ cond_words joint c))
    → ((word : List ℕ) (more : Texts)
    → row_from (at 1 (front ++ word ∷ more)) ≡ (cond_from joint (at n (word ∷ more)) >>= next))
    → AfterCond next joint front n e → (word : List ℕ) (words : Texts)
    → (cond_from joint (at n (word ∷ words)) >>= next) ≡ Err e → Stopped (front ++ word ∷ words) e
cond_stops joint next front n e place begins goes more word words h =
    word_step (only joint) (with_joint next) front n word words e (only joint word) place
    (begins_with front (cond_words joint (cond_at 1 Normal)) (front ++ cond_words joint (cond_at 1 Normal))
    (begins (cond_at 1 Normal) (lit≤ tt, lit≤ tt)) refl) refl
    (λ rest. goes word rest ∙ cond_flat joint next n (word ∷ rest)) joined
    (sym (cond_flat joint next n (word ∷ words)) ∙ h)
  where
    ended : (lever : ℕ) → IsLever 120 lever → (before : Texts) → before ≡ front ++ joint ∷ decimal lever ∷ []
        → GoesOn end_of_word (with_end next lever) before (n + 1 + 1) e
    ended lever fits before same third value is reading rest k =
        let last = end_of_word-spelled third value is in
        let whole : before ++ third ∷ [] ≡ front ++ cond_words joint (cond_at lever value) =
        ap (λ (w : List ℕ). before ++ w ∷ []) last
        ∙ (ap (λ (ws : Texts). ws ++ end_word value ∷ []) same
        ∙ append_assoc front (joint ∷ decimal lever ∷ []) (end_word value ∷ [])) in
        subst (λ (ws : Texts). Stopped (ws ++ rest) e) (sym whole)
        (more (cond_at lever value) fits
        (same_front (λ m ws. next (cond_at lever value, at m ws)) (n + 1 + 1 + 1) (before ++ third ∷ [])
        (front ++ cond_words joint (cond_at lever value)) whole reading) rest k)

    levered : (before : Texts) → before ≡ front ++ joint ∷ [] → GoesOn lever_of (with_lever next) before (n + 1) e
    levered before same second value is reading rest k =
        let named = lever_of-spelled second value is in
        let whole : before ++ second ∷ [] ≡ front ++ joint ∷ decimal value ∷ [] =
        ap (λ (w : List ℕ). before ++ w ∷ []) named.1
        ∙ (ap (λ (ws : Texts). ws ++ decimal value ∷ []) same ∙ two_more front joint (decimal value)) in
        step end_of_word (with_end next value) (λ m ws. step_by end_of_word (with_end next value) m ws)
        (before ++ second ∷ []) (n + 1 + 1) e (λ m ws. refl) reading
        (begins_with (before ++ second ∷ []) (end_word Normal ∷ []) (front ++ cond_words joint (cond_at value Normal))
        (begins (cond_at value Normal) named.0)
        (sym (ap (λ (ws : Texts). ws ++ end_word Normal ∷ []) whole
        ∙ append_assoc front (joint ∷ decimal value ∷ []) (end_word Normal ∷ []))))
        (ended value named.0 (before ++ second ∷ []) whole) rest k

    joined : GoesOn (only joint) (with_joint next) front n e
    joined first value is reading rest k =
        let same : front ++ first ∷ []
        ≡ front ++ joint ∷ [] = ap (λ (w : List ℕ). front ++ w ∷ []) (only-spelled joint first is) in
        step lever_of (with_lever next) (λ m ws. step_by lever_of (with_lever next) m ws) (front ++ first ∷ []) (n + 1)
        e (λ m ws. refl) reading
        (begins_with (front ++ first ∷ []) (decimal 1 ∷ end_word Normal ∷ [])
        (front ++ cond_words joint (cond_at 1 Normal)) (begins (cond_at 1 Normal) (lit≤ tt, lit≤ tt))
        (sym (ap (λ (ws : Texts). ws ++ decimal 1 ∷ end_word Normal ∷ []) same
        ∙ append_assoc front (joint ∷ []) (decimal 1 ∷ end_word Normal ∷ []))))
        (levered (front ++ first ∷ []) same) rest k
