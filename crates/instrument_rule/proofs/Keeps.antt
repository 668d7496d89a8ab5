-- Opening the words, drawing a post, and how the rule is kept where the history grows and where it doesn't.
use Rattle.std.proofs.Common.{◌≡◌, ◌≢◌, ℕ, zero, suc, ◌+◌, ◌<◌, ◌≤◌, eqb, Bool, true, false, inl, inr, ⊎_elim, List, []}
use Rattle.std.proofs.Common.{◌∷◌, ◌++◌, length, replicate, get_or, set, Option, Some, None, IsTrue, sym, refl, ap, ◌∙◌}
use Rattle.std.proofs.Common.{subst, arith, length-append, append-nil, length-set, get_or-set_same, get_or-set_other}
use Rattle.std.specs.Prelude.{IfSome}
use mathlib.Core.Option.{some, none, some-injective, some-ne-none}
use mathlib.Core.List.{IsPrefix}
use mathlib.Core.Logic.{dite}
use native.Mathlib.Decide.{ℕ_discrete}
use prog.Atomic.{either}
use lib.ListN.{get_elem?}
use Rattle.std.proofs.lemmas.List.{length-replicate}
use Rattle.std.proofs.lemmas.Bool.Decides.{eqb_tells}
use Rattle.atomic_table.specs.Table.{State, Me, keeps, step, stepped, Allows, opening}
use Rattle.atomic_table.proofs.Lists.{at_set}
use Rattle.block_words.specs.declared.Way.{Way}
use Rattle.block_words.specs.declared.Way.TheVariants.{Up, Down}
use Rattle.line_plan.specs.Plans.{PlanFields}
use Rattle.line_plan.specs.Ways.{leaves}
use Rattle.line_law.specs.declared.call.Entry.{Entry}
use Rattle.line_law.specs.History.{IsLegal, part_of}
use Rattle.word_laws.specs.Footprint.{BellWord, BlockWord, PlainLineWord}
use Rattle.line_law.specs.States.{opening_pair}
use Rattle.word_laws.specs.WordNumbers.{BellOf, BlockOf, PlainLineOf, TallyOf, Word, number_after, number_at}
use Rattle.line_law.proofs.Opens.{opening_pair_at}
use Rattle.word_laws.specs.WordPlaces.{IsWordOf, word_count, word_place}
use Rattle.word_laws.proofs.WordsInPlace.{one_place, place_within}
use Rattle.instrument_rule.specs.declared.view.View.{View}
use Rattle.instrument_rule.specs.Rule.{Fits, Kept, LaneFree, Roomy, most_entries}
use Rattle.instrument_rule.specs.Told.{taken}
use Rattle.instrument_rule.specs.Views.{first_view, held, holders, missed, seeing, with_post}
use Rattle.instrument_rule.proofs.Parts.{eqb_no, eqb_yes, part-append, part_grows, part_stays}
use Rattle.instrument_rule.proofs.Views.{at_here, held_first, held_not, held_one, held_yes, holders_none, holders_set}
use Rattle.instrument_rule.proofs.Views.{holders_two, longer_prefix, set_same, whole_set}

abbrev pub St : Type 0
St = State (Unit {0}) View

-- what a seat at the table knows
abbrev pub M : Type 0
M = Me (Unit {0}) View

set_zero : (ns : List ℕ) (i n : ℕ) → 0 < i → get_or (set ns i n) 0 0 ≡ get_or ns 0 0
set_zero ns i n pos = get_or-set_other ns i 0 n 0 (λ e. omega arith)

-- the words of a line as it opens
abbrev pub blank : PlanFields → List ℕ
blank plan = replicate (word_count (length plan.boxes)) 0

none_else : (n i : ℕ) → get_or {A = ℕ} (replicate n 0) i 0 ≡ 0
none_else zero i = refl
none_else (suc n) zero = refl
none_else (suc n) (suc i) = none_else n i

-- every word opens at 0
pub opens_idle : (plan : PlanFields) (w : Word) → number_after plan [] w ≡ 0
opens_idle plan (TallyOf b) = refl
opens_idle plan (BellOf p way) = ap (number_at BellWord way) (opening_pair_at plan p) ∙ idle way
  where
    idle : (w : Way) → number_at BellWord w opening_pair ≡ 0
    idle Up = refl
    idle Down = refl
opens_idle plan (BlockOf p way) = ap (number_at BlockWord way) (opening_pair_at plan p) ∙ idle way
  where
    idle : (w : Way) → number_at BlockWord w opening_pair ≡ 0
    idle Up = refl
    idle Down = refl
opens_idle plan (PlainLineOf p way) = ap (number_at PlainLineWord way) (opening_pair_at plan p) ∙ idle way
  where
    idle : (w : Way) → number_at PlainLineWord w opening_pair ≡ 0
    idle Up = refl
    idle Down = refl

-- what an entry of another box does to the room of a view
abbrev pub KeepsRoom : PlanFields → List Entry → Entry → Type 0
KeepsRoom plan log e = (b : ℕ) (way : Way) → e.box_no ≢ b → IsTrue (leaves (length plan.boxes) b way)
    → LaneFree plan log b way → LaneFree plan (log ++ e ∷ []) b way

room_stays : (plan : PlanFields) (log : List Entry) (e : Entry) (posts : List ℕ) (room : Option Way)
    → KeepsRoom plan log e → ((p : ℕ) → 0 < held p posts → e.box_no ≢ p)
    → Roomy plan log posts room → Roomy plan (log ++ e ∷ []) posts room
room_stays plan log e posts None still apart h = tt
room_stays plan log e [] (Some way) still apart h = h
room_stays plan log e (b ∷ bs) (Some way) still apart h = (h.0, still b way (apart b (held_first b bs)) h.0 h.1)

pub no_room : (plan : PlanFields) (log : List Entry) (posts : List ℕ) (room : Option Way) → Roomy plan log [] room
    → Roomy plan log posts room
no_room plan log posts None h = tt
no_room plan log posts (Some way) h = absurd h

-- the word of a place, where another word changes
word_else : (n : ℕ) (ns : List ℕ) (w v : Word) (x : ℕ) → IsWordOf n w → IsWordOf n v → (w ≢ v)
    → get_or (set ns (word_place n v) x) (word_place n w) 0 ≡ get_or ns (word_place n w) 0
word_else n ns w v x is are ne = get_or-set_other ns (word_place n v) (word_place n w) x 0
    (λ e. ne (one_place n w v is are e))

module _ (plan : PlanFields) where
  pub opens : Kept plan (opening (blank plan) [] (first_view plan))
  opens = record {
    log = [];
    wide = length-replicate (word_count (length plan.boxes)) 0;
    drawn = none_drawn;
    legal = tt;
    packed = λ w is. zeroed (word_place (length plan.boxes) w) ∙ sym (opens_idle plan w);
    undrawn = λ b h. refl;
    short = λ b. omega arith;
    once = λ p. omega arith;
    longest = (0, first_view plan, refl, refl);
    fits = fitting;
  }
    where
      zeroed : (i : ℕ) → get_or (blank plan) i 0 ≡ 0
      zeroed i = none_else (word_count (length plan.boxes)) i

      none_drawn : get_or (blank plan) 0 0 ≤ length plan.boxes
      none_drawn = let z : get_or (blank plan) 0 0 ≡ 0 = zeroed 0 in omega arith

      fits_first : Fits plan [] (get_or (blank plan) 0 0) (first_view plan)
      fits_first = record {
        same_plan = inl refl;
        seen = record { begins = ([], refl); own = λ p h. refl };
        below = λ p h. absurd (omega arith);
        olds = tt;
        roomy = tt;
      }

      fitting : (j : ℕ) (v : View) → get_elem? (first_view plan ∷ []) j ≡ some v
          → Fits plan [] (get_or (blank plan) 0 0) v
      fitting zero v at = subst (λ (u : View). Fits plan [] (get_or (blank plan) 0 0) u)
          (some-injective (first_view plan) v at) fits_first
      fitting (suc j) v at = absurd (some-ne-none v (sym at))

  -- what a step owes that makes the entry e with the word w of the line
  pub record Grows (log : List Entry) (e : Entry) (w : Word) (n : ℕ) : Type 0 where
    pub legal : IsLegal plan (log ++ e ∷ [])
    pub is_word : IsWordOf (length plan.boxes) w
    pub here : n ≡ number_after plan (log ++ e ∷ []) w
    pub others : (v : Word) → v ≢ w → number_after plan (log ++ e ∷ []) v ≡ number_after plan log v
    pub few : length (part_of e.box_no log) < most_entries
    pub room : KeepsRoom plan log e

  -- the history grows by one entry of a box that the seat holds, and the seat has seen it
  pub extends : (s : St) (k : Kept plan s) (id : ℕ) (v : View) (w : Word) (n l : ℕ) (c : List (ℕ × Unit {0}))
      (e : Entry)
      → get_elem? s.views id ≡ some v → v.plan ≡ Some plan
      → 0 < held e.box_no v.posts → Grows k.log e w n
      → Kept plan (stepped s (word_place (length plan.boxes) w) n id c (seeing v (k.log ++ e ∷ []) l 0 None) keeps)
  extends s k id v w n l c e at has_plan holds g = record {
    log = grown;
    wide = length-set s.words i n ∙ k.wide;
    drawn = subst (λ (d : ℕ). d ≤ length plan.boxes) (sym first_same) k.drawn;
    legal = g.legal;
    packed = λ v is. ⊎_elim
        (λ (t : (eqb (word_place (length plan.boxes) v) i ≡ true) × (word_place (length plan.boxes) v ≡ i)).
        let same : v ≡ w = one_place (length plan.boxes) v w is g.is_word t.1 in
        subst (λ (z : Word). get_or (set s.words i n) (word_place (length plan.boxes) z) 0 ≡ number_after plan grown z)
        (sym same) (get_or-set_same s.words i n 0 (subst (λ (z : ℕ). i < z) (sym k.wide) inside.1) ∙ g.here))
        (λ (t : (eqb (word_place (length plan.boxes) v) i ≡ false) × (word_place (length plan.boxes) v ≢ i)).
        get_or-set_other s.words i (word_place (length plan.boxes) v) n 0 t.1 ∙
        (k.packed v is ∙ sym (g.others v (λ same. t.1 (ap (word_place (length plan.boxes)) same)))))
        (eqb_tells (word_place (length plan.boxes) v) i);
    undrawn = λ b h. let u : part_of b k.log ≡ [] = k.undrawn b (subst (λ (d : ℕ). d ≤ b) first_same h) in
        part_stays b k.log e (λ is. under b is (subst (λ (d : ℕ). d ≤ b) first_same h)) ∙ u;
    short = λ b. ⊎_elim
        (λ (t : (eqb e.box_no b ≡ true) × (e.box_no ≡ b)). rw (part_grows b k.log e t.1) (short_of b t.1))
        (λ (t : (eqb e.box_no b ≡ false) × (e.box_no ≢ b)). rw (part_stays b k.log e t.1) (k.short b))
        (eqb_tells e.box_no b);
    once = λ p. let h = holders_set p s.views id v new at in let o = k.once p in omega arith;
    longest = (id, new, at_here s.views id v new at, refl);
    fits = λ j u bt. ⊎_elim
        (λ (t : (j ≡ id) × (new ≡ u)). subst (λ (z : View). Fits plan grown (get_or (set s.words i n) 0 0) z) t.1 mine)
        (λ (t : (j ≢ id) × (get_elem? s.views j ≡ some u)). theirs j u t.0 t.1 (k.fits j u t.1))
        (at_set s.views id j new u bt);
  }
    where
      grown : List Entry
      grown = k.log ++ e ∷ []

      i : ℕ
      i = word_place (length plan.boxes) w

      inside : (0 < word_place (length plan.boxes) w) ×
          (word_place (length plan.boxes) w < word_count (length plan.boxes))
      inside = place_within (length plan.boxes) w g.is_word

      new : View
      new = seeing v (k.log ++ e ∷ []) l 0 None

      first_same : get_or (set s.words i n) 0 0 ≡ get_or s.words 0 0
      first_same = set_zero s.words i n inside.0

      own : Fits plan k.log (get_or s.words 0 0) v
      own = k.fits id v at

      under : (b : ℕ) → e.box_no ≡ b → get_or s.words 0 0 ≤ b → ⊥
      under b is h = let d = own.below e.box_no holds in omega arith

      short_of : (b : ℕ) → e.box_no ≡ b → length (part_of b k.log ++ e ∷ []) ≤ most_entries
      short_of b is = let r : length (part_of b k.log) < 10000 = subst
          (λ (z : ℕ). length (part_of z k.log) < 10000) is g.few in omega
          (arith, length-append (part_of b k.log) (e ∷ []))

      mine : Fits plan grown (get_or (set s.words i n) 0 0) new
      mine = record {
        same_plan = inl has_plan;
        seen = record { begins = ([], append-nil grown); own = λ p h. refl };
        below = λ p h. subst (λ (d : ℕ). p < d) (sym first_same) (own.below p h);
        olds = tt;
        roomy = tt;
      }

      not_mine : (j : ℕ) (u : View) → j ≢ id → get_elem? s.views j ≡ some u → (p : ℕ) → 0 < held p u.posts
          → e.box_no ≢ p
      not_mine j u ne bt p h is = let two = holders_two p s.views j id u v ne bt at in let o = k.once p in
          let mine : 0 < held p v.posts = subst (λ (z : ℕ). 0 < held z v.posts) is holds in omega arith

      theirs : (j : ℕ) (u : View) → j ≢ id → get_elem? s.views j ≡ some u → Fits plan k.log (get_or s.words 0 0) u
          → Fits plan grown (get_or (set s.words i n) 0 0) u
      theirs j u ne bt f = record {
        same_plan = f.same_plan;
        seen = record {
          begins = longer_prefix u.seen k.log e f.seen.begins;
          own = λ p h. part_stays p k.log e (not_mine j u ne bt p h) ∙ f.seen.own p h;
        };
        below = λ p h. subst (λ (d : ℕ). p < d) (sym first_same) (f.below p h);
        olds = f.olds;
        roomy = room_stays plan k.log e u.posts u.room g.room (not_mine j u ne bt) f.roomy;
      }

  -- a step that changes no word, after which the seat's view is w
  pub stays : (s : St) (k : Kept plan s) (id : ℕ) (v w : View) (i : ℕ) (c : List (ℕ × Unit {0}))
      → get_elem? s.views id ≡ some v
      → ((p : ℕ) → held p w.posts ≡ held p v.posts) → (v.seen ≡ k.log → w.seen ≡ k.log)
      → Fits plan k.log (get_or s.words 0 0) w
      → Kept plan (stepped s i (get_or s.words i 0) id c w keeps)
  stays s k id v w i c at posts no_less fits = subst
      (λ (ns : List ℕ). Kept plan (record { words = ns; homes = s.homes; views = set s.views id w }))
      (sym (set_same s.words i)) record {
        log = k.log;
        wide = k.wide;
        drawn = k.drawn;
        legal = k.legal;
        packed = k.packed;
        undrawn = k.undrawn;
        short = k.short;
        once = λ p. let h = holders_set p s.views id v w at in let o = k.once p in let same = posts p in omega arith;
        longest = whole_set k.log s.views id v w at k.longest no_less;
        fits = λ j u bt. ⊎_elim
            (λ (t : (j ≡ id) × (w ≡ u)). subst (λ (z : View). Fits plan k.log (get_or s.words 0 0) z) t.1 fits)
            (λ (t : (j ≢ id) × (get_elem? s.views j ≡ some u)). k.fits j u t.1)
            (at_set s.views id j w u bt);
      }

  -- a look at the whole history
  pub looks_on : (s : St) (k : Kept plan s) (id : ℕ) (v : View) (i l g : ℕ) (room : Option Way)
      (c : List (ℕ × Unit {0}))
      → get_elem? s.views id ≡ some v → v.plan ≡ Some plan → Roomy plan k.log v.posts room
      → Kept plan (stepped s i (get_or s.words i 0) id c (seeing v k.log l g room) keeps)
  looks_on s k id v i l g room c at has_plan roomy = let f : Fits plan k.log
      (get_or s.words 0 0) v = k.fits id v at in stays s k id v (seeing v k.log l g room) i c at (λ p. refl)
      (λ e. refl) record {
        same_plan = inl has_plan;
        seen = record { begins = ([], append-nil k.log); own = λ p h. refl };
        below = f.below;
        olds = tt;
        roomy = roomy;
      }

-- a beginning of a history without entries of a box has none
part_of_prefix : (b : ℕ) (xs log : List Entry) → IsPrefix xs log → part_of b log ≡ [] → part_of b xs ≡ []
part_of_prefix b xs log pre nil = empty_first (part_of b xs) (part_of b pre.0)
    (sym (part-append b xs pre.0) ∙ (ap (part_of b) pre.1 ∙ nil))
  where
    empty_first : (ys zs : List Entry) → ys ++ zs ≡ [] → ys ≡ []
    empty_first [] zs e = refl
    empty_first (y ∷ ys) zs e = cc

module _ (plan : PlanFields) where
  -- word 0 was the box's number: the seat holds the box
  pub draws : (s : St) (k : Kept plan s) (id : ℕ) (v : View) (b : ℕ) (c : List (ℕ × Unit {0}))
      → get_elem? s.views id ≡ some v → v.plan ≡ Some plan → v.posts ≡ [] → b < length plan.boxes
      → get_or s.words 0 0 ≡ b → Kept plan (stepped s 0 (b + 1) id c (with_post v b) keeps)
  draws s k id v b c at has_plan free is_box found = record {
    log = k.log;
    wide = length-set s.words 0 (b + 1) ∙ k.wide;
    drawn = subst (λ (d : ℕ). d ≤ length plan.boxes) (sym first_is) (omega arith);
    legal = k.legal;
    packed = λ w is. get_or-set_other s.words 0 (word_place (length plan.boxes) w) (b + 1) 0
        (λ e. let p = (place_within (length plan.boxes) w is).0 in omega arith) ∙ k.packed w is;
    undrawn = λ c h. k.undrawn c (let g : b + 1 ≤ c = subst (λ (d : ℕ). d ≤ c) first_is h in omega arith);
    short = k.short;
    longest = whole_set k.log s.views id v w at k.longest (λ e. e);
    once = λ p. ⊎_elim
        (λ (t : (eqb b p ≡ true) × (b ≡ p)). let h = holders_set p s.views id v w at in
        let z : holders p s.views ≡ 0 = subst (λ (q : ℕ). holders q s.views ≡ 0) t.1 none_yet in
        let y = held_yes p b t.1 in omega arith)
        (λ (t : (eqb b p ≡ false) × (b ≢ p)). let h = holders_set p s.views id v w at in let o = k.once p in
        let y = held_not p b t.1 in omega arith)
        (eqb_tells b p);
    fits = λ j u bt. ⊎_elim
        (λ (t : (j ≡ id) × (w ≡ u)). subst
        (λ (z : View). Fits plan k.log (get_or (set s.words 0 (b + 1)) 0 0) z) t.1 mine)
        (λ (t : (j ≢ id) × (get_elem? s.views j ≡ some u)). theirs u (k.fits j u t.1))
        (at_set s.views id j w u bt);
  }
    where
      w : View
      w = with_post v b

      first_is : get_or (set s.words 0 (b + 1)) 0 0 ≡ b + 1
      first_is = get_or-set_same s.words 0 (b + 1) 0 (subst (λ (z : ℕ). 0 < z) (sym k.wide) (omega arith))

      unheld : (u : View) → Fits plan k.log (get_or s.words 0 0) u → held b u.posts ≡ 0
      unheld u f = elim (eqb_tells (held b u.posts) 0) [
        | inl t ↦ t.1
        | inr t ↦ let n = t.1 in let d = f.below b (omega arith) in absurd (omega arith)
      ]

      none_yet : holders b s.views ≡ 0
      none_yet = holders_none b s.views (λ j u bt. unheld u (k.fits j u bt))

      own : Fits plan k.log (get_or s.words 0 0) v
      own = k.fits id v at

      nothing : part_of b k.log ≡ []
      nothing = k.undrawn b (omega arith)

      mine : Fits plan k.log (get_or (set s.words 0 (b + 1)) 0 0) (with_post v b)
      mine = record {
        same_plan = inl has_plan;
        seen = record {
          begins = own.seen.begins;
          own = λ p h. subst (λ (q : ℕ). part_of q k.log ≡ part_of q v.seen) (held_one p b h)
              (nothing ∙ sym (part_of_prefix b v.seen k.log own.seen.begins nothing));
        };
        below = λ p h. subst (λ (d : ℕ). p < d) (sym first_is) (let e = held_one p b h in omega arith);
        olds = own.olds;
        roomy = no_room plan k.log (b ∷ []) v.room (subst (λ (ps : List ℕ). Roomy plan k.log ps v.room) free own.roomy);
      }

      theirs : (u : View) → Fits plan k.log (get_or s.words 0 0) u
          → Fits plan k.log (get_or (set s.words 0 (b + 1)) 0 0) u
      theirs u f = record {
        same_plan = f.same_plan;
        seen = f.seen;
        below = λ p h. subst (λ (d : ℕ). p < d) (sym first_is) (let d = f.below p h in omega arith);
        olds = f.olds;
        roomy = f.roomy;
      }

  -- a draw that found another number keeps the view's fit
  still_fits : (s : St) (k : Kept plan s) (id : ℕ) (v : View) (n : ℕ) → get_elem? s.views id ≡ some v
      → v.plan ≡ Some plan → Fits plan k.log (get_or s.words 0 0) (missed v n)
  still_fits s k id v n at has_plan = let f : Fits plan k.log (get_or s.words 0 0) v = k.fits id v at in record {
    same_plan = inl has_plan;
    seen = f.seen;
    below = f.below;
    olds = f.olds;
    roomy = f.roomy;
  }

  pub takes : (slots id : ℕ) (me : M) (b : ℕ) → me.0.plan ≡ Some plan → me.0.posts ≡ [] → b < length plan.boxes
      → Allows (Kept plan) slots id me 0 (λ n. either (eqb n b) (b + 1) n) (taken (step slots 0 b (b + 1) none) me)
  takes slots id me b has_plan free is_box s k _ at _ = let n : ℕ = get_or s.words 0 0 in
      let counted = subst (λ (o : Option PlanFields). IfSome o (λ p. n ≤ length p.boxes)) (sym has_plan) k.drawn in
      dite (ℕ_discrete n b)
      (λ hit. (
        with_post me.0 b,
        keeps,
        tt,
        subst (λ (h : Bool). Kept plan (stepped s 0 (either h (b + 1) n) id me.1 (with_post me.0 b) keeps))
            (sym (eqb_yes n b hit)) (draws s k id me.0 b me.1 at has_plan free is_box hit),
        (refl, (λ _. refl), (λ miss. absurd (miss hit)), counted),
      ))
      (λ miss. (
        missed me.0 n,
        keeps,
        tt,
        subst (λ (h : Bool). Kept plan (stepped s 0 (either h (b + 1) n) id me.1 (missed me.0 n) keeps))
            (sym (eqb_no n b miss))
            (stays plan s k id me.0 (missed me.0 n) 0 me.1 at (λ p. refl) (λ e. e)
            (still_fits s k id me.0 n at has_plan)),
        (refl, (λ hit. absurd (miss hit)), (λ _. refl), counted),
      ))
