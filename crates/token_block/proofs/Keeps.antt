-- Opening the words, drawing a post, and how the rule is kept where the history grows and where it doesn't.
use Rattle.std.proofs.Common.{◌≡◌, ◌≢◌, ℕ, zero, suc, ◌+◌, ◌<◌, ◌≤◌, ◌==◌, Bool, true, false, inl, inr, ⊎_elim}
use Rattle.std.proofs.Common.{List, [], ◌∷◌}
use Rattle.std.proofs.Common.{◌++◌, length, get_or, set, Option, Some, None, sym, refl, ap, ◌∙◌, subst, arith}
use Rattle.std.proofs.Common.{length-append, append-nil, length-set, get_or-set_same, get_or-set_other}
use Rattle.std.specs.Prelude.{IfSome}
use mathlib.Core.Option.{some, none, some-injective, some-ne-none}
use mathlib.Core.Logic.{dite}
use native.Mathlib.Decide.{ℕ_discrete}
use prog.Atomic.{either}
use lib.ListN.{get_elem?}
use Rattle.std.proofs.lemmas.Bool.Decides.{eqb_tells}
use Rattle.atomic_table.specs.Table.{State, Me, keeps, step, stepped, Allows, opening}
use Rattle.atomic_table.proofs.Lists.{at_set}
use Rattle.token_law.specs.declared.calls.Shown.{Shown}
use Rattle.token_law.specs.declared.calls.Shown.TheVariants.{OnLine}
use Rattle.token_law.specs.declared.calls.TokenAct.{TokenAct}
use Rattle.token_law.specs.declared.calls.TokenEntry.{TokenEntry}
use Rattle.token_law.specs.History.{token_part_of}
use Rattle.token_block.specs.declared.view.SeenBefore.{SeenBefore}
use Rattle.token_block.specs.declared.view.Tokens.{Tokens}
use Rattle.token_block.specs.declared.view.TokenView.{TokenView}
use Rattle.token_block.specs.Rule.{AllSeen, Fits, IsHistoryOf, Kept, Marks, held_at, most_box_calls, shown_after}
use Rattle.token_block.specs.Steps.{entry_after, taken, with_call}
use Rattle.token_block.specs.Views.{first_view, held, holders, missed, seeing, with_post}
use Rattle.token_block.specs.Words.{IsLineWord, IsShown, LineWord, TallyOf, TokenShown, number_after}
use Rattle.token_block.specs.Words.{place_of}
use Rattle.token_block.proofs.Changes.{coming_kept, hand_kept, none_held}
use Rattle.token_block.proofs.Parts.{Es, eqb_no, eqb_yes, longer_prefix, part_grows, part_of_prefix, part_stays}
use Rattle.token_block.proofs.Views.{at_here, held_is, held_no, held_yes, holders_none, holders_set, holders_two}
use Rattle.token_block.proofs.Views.{set_same, whole_set}

-- the words of a line, and the views of the seats at them
abbrev pub St : Type 0
St = State (Unit {0}) TokenView

-- a seat at the words of a line, by its view
abbrev pub M : Type 0
M = Me (Unit {0}) TokenView

-- ---- places

-- each word of the line stands behind the number of posts, among the first four
pub place_within : (w : LineWord) → IsLineWord w → (0 < place_of w) × (place_of w < 4)
place_within (TallyOf b) is = (omega (arith, is), omega (arith, is))
place_within TokenShown is = (omega arith, omega arith)

pub one_place : (w v : LineWord) → IsLineWord w → IsLineWord v → place_of w ≡ place_of v → w ≡ v
one_place (TallyOf a) (TallyOf b) is are e = let same : a ≡ b = omega (arith, e) in ap TallyOf same
one_place (TallyOf a) TokenShown is are e = absurd (omega (arith, e, is))
one_place TokenShown (TallyOf b) is are e = absurd (omega (arith, e, are))
one_place TokenShown TokenShown is are e = refl

set_zero : (ns : List ℕ) (i n : ℕ) → 0 < i → get_or (set ns i n) 0 0 ≡ get_or ns 0 0
set_zero ns i n pos = get_or-set_other ns i 0 n 0 (λ e. omega (arith, e, pos))

-- ---- marks

-- what another box's entry keeps of the marks of a view
marks_stay : (tokens : Tokens) (log : Es) (e : TokenEntry) (post hand came : Option ℕ)
    → IsHistoryOf tokens (log ++ e ∷ []) → ((p : ℕ) → post ≡ Some p → e.call.box_no ≢ p)
    → Marks (shown_after tokens log) post hand came → Marks (shown_after tokens (log ++ e ∷ [])) post hand came
marks_stay tokens log e None hand came legal other h = h
marks_stay tokens log e (Some p) hand None legal other h =
    (h.0 ∙ sym (hand_kept tokens p (held_at p (shown_after tokens log)) log e legal (other p refl) refl), tt)
marks_stay tokens log e (Some p) hand (Some train) legal other h = (
  h.0 ∙ sym (hand_kept tokens p (held_at p (shown_after tokens log)) log e legal (other p refl) refl),
  coming_kept tokens p train log e legal (other p refl) h.1,
)

-- without a train that came, a hand is enough
marked : (shown : Shown) (post : Option ℕ) (b : ℕ) (hand came : Option ℕ) → post ≡ Some b → hand ≡ held_at b shown
    → came ≡ None → Marks shown post hand came
marked shown post b hand came has e clear = subst (λ (p : Option ℕ). Marks shown p hand came) (sym has)
    (e, subst (λ (c : Option ℕ). IfSome c (λ train. shown ≡ OnLine b train)) (sym clear) tt)

module _ (tokens : Tokens) where
  -- ---- the words of a line as it opens

  pub opens : Kept tokens (opening (0 ∷ 0 ∷ 0 ∷ 0 ∷ []) [] (first_view tokens))
  opens = record {
    log = [];
    wide = refl;
    drawn = omega arith;
    legal = tt;
    packed = zeroed;
    shown = tt;
    undrawn = λ b h. refl;
    short = λ b. omega arith;
    once = λ p. omega arith;
    longest = (0, first_view tokens, refl, refl);
    fits = fitting;
  }
    where
      zeroed : (w : LineWord) → IsLineWord w
          → get_or {A = ℕ} (0 ∷ 0 ∷ 0 ∷ 0 ∷ []) (place_of w) 0 ≡ number_after tokens [] w
      zeroed (TallyOf zero) is = refl
      zeroed (TallyOf (suc zero)) is = refl
      zeroed (TallyOf (suc (suc b))) is = absurd (omega (arith, is))
      zeroed TokenShown is = refl

      fits_first : Fits tokens [] 0 (first_view tokens)
      fits_first = record {
        same_line = inl refl;
        seen = record { begins = ([], refl); own = λ p h. refl };
        below = λ p h. absurd cc;
        marks = (refl, refl);
        olds = tt;
      }

      fitting : (j : ℕ) (v : TokenView) → get_elem? (first_view tokens ∷ []) j ≡ some v → Fits tokens [] 0 v
      fitting zero v at = subst (λ (u : TokenView). Fits tokens [] 0 u)
          (some-injective (first_view tokens) v at) fits_first
      fitting (suc j) v at = absurd (some-ne-none v (sym at))

  -- ---- a step that makes an entry

  -- what a step owes that makes the entry of a call of box b, with the word w of the line
  pub record Grows (log : Es) (b : ℕ) (act : TokenAct) (w : LineWord) (n : ℕ) : Type 0 where
    pub legal : IsHistoryOf tokens (with_call tokens log b act)
    pub is_word : IsLineWord w
    pub here : n ≡ number_after tokens (with_call tokens log b act) w
    pub others : (v : LineWord) → v ≢ w
        → number_after tokens (with_call tokens log b act) v ≡ number_after tokens log v
    pub few : length (token_part_of b log) < most_box_calls
    pub shown : IsShown (shown_after tokens (with_call tokens log b act))

  -- the history grows by one entry of the box whose post the seat holds, and the seat has seen it
  pub extends : (s : St) (k : Kept tokens s) (id : ℕ) (v : TokenView) (b : ℕ) (act : TokenAct) (w : LineWord) (n : ℕ)
      (c : List (ℕ × Unit {0}))
      → get_elem? s.views id ≡ some v → v.opened ≡ Some tokens → v.post ≡ Some b → Grows k.log b act w n
      → Kept tokens (stepped s (place_of w) n id c
      (seeing v (with_call tokens k.log b act) (held_at b (shown_after tokens (with_call tokens k.log b act))) None)
      keeps)
  extends s k id v b act w n c at has_line has_post g = record {
    log = grown;
    wide = length-set s.words i n ∙ k.wide;
    drawn = subst (λ (d : ℕ). d ≤ 2) (sym first_same) k.drawn;
    legal = g.legal;
    packed = λ v is. ⊎_elim
        (λ (t : ((place_of v == i) ≡ true) × (place_of v ≡ i)).
        let same : v ≡ w = one_place v w is g.is_word t.1 in
        subst (λ (z : LineWord). get_or (set s.words i n) (place_of z) 0 ≡ number_after tokens grown z)
        (sym same) (get_or-set_same s.words i n 0 (subst (λ (z : ℕ). i < z) (sym k.wide) inside.1) ∙ g.here))
        (λ (t : ((place_of v == i) ≡ false) × (place_of v ≢ i)).
        get_or-set_other s.words i (place_of v) n 0 t.1 ∙
        (k.packed v is ∙ sym (g.others v (λ same. t.1 (ap place_of same)))))
        (eqb_tells (place_of v) i);
    shown = g.shown;
    undrawn = λ p h. let u : token_part_of p k.log ≡ [] = k.undrawn p (subst (λ (d : ℕ). d ≤ p) first_same h) in
        part_stays p k.log e (λ is. under p is (subst (λ (d : ℕ). d ≤ p) first_same h)) ∙ u;
    short = λ p. ⊎_elim
        (λ (t : ((b == p) ≡ true) × (b ≡ p)). rw (part_grows p k.log e t.1) (short_of p t.1))
        (λ (t : ((b == p) ≡ false) × (b ≢ p)). rw (part_stays p k.log e t.1) (k.short p))
        (eqb_tells b p);
    once = λ p. let h = holders_set p s.views id v new at in let o = k.once p in omega (arith, h, o);
    longest = (id, new, at_here s.views id v new at, refl);
    fits = λ j u bt. ⊎_elim
        (λ (t : (j ≡ id) × (new ≡ u)).
        subst (λ (z : TokenView). Fits tokens grown (get_or (set s.words i n) 0 0) z) t.1 mine)
        (λ (t : (j ≢ id) × (get_elem? s.views j ≡ some u)). theirs j u t.0 t.1 (k.fits j u t.1))
        (at_set s.views id j new u bt);
  }
    where
      e : TokenEntry
      e = entry_after tokens k.log b act

      grown : Es
      grown = with_call tokens k.log b act

      i : ℕ
      i = place_of w

      inside : (0 < place_of w) × (place_of w < 4)
      inside = place_within w g.is_word

      new : TokenView
      new = seeing v (with_call tokens k.log b act)
          (held_at b (shown_after tokens (with_call tokens k.log b act))) None

      first_same : get_or (set s.words i n) 0 0 ≡ get_or s.words 0 0
      first_same = set_zero s.words i n inside.0

      own : Fits tokens k.log (get_or s.words 0 0) v
      own = k.fits id v at

      under : (p : ℕ) → b ≡ p → get_or s.words 0 0 ≤ p → ⊥
      under p is h = let d = own.below b has_post in omega (arith, d, is, h)

      short_of : (p : ℕ) → b ≡ p → length (token_part_of p k.log ++ e ∷ []) ≤ most_box_calls
      short_of p is = let r : length (token_part_of p k.log) < 4000000000 = subst
          (λ (z : ℕ). length (token_part_of z k.log) < 4000000000) is g.few in omega
          (arith, r, length-append (token_part_of p k.log) (e ∷ []))

      mine : Fits tokens grown (get_or (set s.words i n) 0 0) new
      mine = record {
        same_line = inl has_line;
        seen = record { begins = ([], append-nil grown); own = λ p h. refl };
        below = λ p h. subst (λ (d : ℕ). p < d) (sym first_same) (own.below p h);
        marks = marked (shown_after tokens grown) v.post b (held_at b (shown_after tokens grown)) None has_post refl
            refl;
        olds = tt;
      }

      not_mine : (j : ℕ) (u : TokenView) → j ≢ id → get_elem? s.views j ≡ some u → (p : ℕ) → u.post ≡ Some p
          → b ≢ p
      not_mine j u ne bt p has is = let two = holders_two p s.views j id u v ne bt at in let o = k.once p in
          let its = held_yes p p u.post has refl in let my = held_yes p b v.post has_post is in
          omega (arith, two, o, its, my)

      theirs : (j : ℕ) (u : TokenView) → j ≢ id → get_elem? s.views j ≡ some u
          → Fits tokens k.log (get_or s.words 0 0) u → Fits tokens grown (get_or (set s.words i n) 0 0) u
      theirs j u ne bt f = record {
        same_line = f.same_line;
        seen = record {
          begins = longer_prefix u.seen k.log e f.seen.begins;
          own = λ p h. part_stays p k.log e (not_mine j u ne bt p h) ∙ f.seen.own p h;
        };
        below = λ p h. subst (λ (d : ℕ). p < d) (sym first_same) (f.below p h);
        marks = marks_stay tokens k.log e u.post u.hand u.came g.legal (not_mine j u ne bt) f.marks;
        olds = f.olds;
      }

  -- ---- a step that makes none

  -- a step that changes no word, after which the seat's view is w
  pub stays : (s : St) (k : Kept tokens s) (id : ℕ) (v w : TokenView) (i : ℕ) (c : List (ℕ × Unit {0}))
      → get_elem? s.views id ≡ some v
      → ((p : ℕ) → held p w.post ≡ held p v.post) → (v.seen ≡ k.log → w.seen ≡ k.log)
      → Fits tokens k.log (get_or s.words 0 0) w
      → Kept tokens (stepped s i (get_or s.words i 0) id c w keeps)
  stays s k id v w i c at posts no_less fits = subst
      (λ (ns : List ℕ). Kept tokens (record { words = ns; homes = s.homes; views = set s.views id w }))
      (sym (set_same s.words i)) record {
        log = k.log;
        wide = k.wide;
        drawn = k.drawn;
        legal = k.legal;
        packed = k.packed;
        shown = k.shown;
        undrawn = k.undrawn;
        short = k.short;
        once = λ p. let h = holders_set p s.views id v w at in let o = k.once p in let same = posts p in
            omega (arith, h, o, same);
        longest = whole_set k.log s.views id v w at k.longest no_less;
        fits = λ j u bt. ⊎_elim
            (λ (t : (j ≡ id) × (w ≡ u)). subst (λ (z : TokenView). Fits tokens k.log (get_or s.words 0 0) z) t.1 fits)
            (λ (t : (j ≢ id) × (get_elem? s.views j ≡ some u)). k.fits j u t.1)
            (at_set s.views id j w u bt);
      }

  -- a look at the whole history finds a train on the line to the seat's box
  pub finds : (s : St) (k : Kept tokens s) (id : ℕ) (v : TokenView) (b train i : ℕ) (c : List (ℕ × Unit {0}))
      → get_elem? s.views id ≡ some v → v.opened ≡ Some tokens → v.post ≡ Some b
      → v.hand ≡ held_at b (shown_after tokens k.log) → shown_after tokens k.log ≡ OnLine b train
      → Kept tokens (stepped s i (get_or s.words i 0) id c (seeing v k.log v.hand (Some train)) keeps)
  finds s k id v b train i c at has_line has_post hand coming =
      let f : Fits tokens k.log (get_or s.words 0 0) v = k.fits id v at in
      stays s k id v (seeing v k.log v.hand (Some train)) i c at (λ p. refl) (λ e. refl) record {
        same_line = inl has_line;
        seen = record { begins = ([], append-nil k.log); own = λ p h. refl };
        below = f.below;
        marks = subst (λ (p : Option ℕ). Marks (shown_after tokens k.log) p v.hand (Some train)) (sym has_post)
            (hand, coming);
        olds = tt;
      }

  -- ---- posts

  -- word 0 was the box's number: the seat holds the post
  draws : (s : St) (k : Kept tokens s) (id : ℕ) (v : TokenView) (b : ℕ) (c : List (ℕ × Unit {0}))
      → get_elem? s.views id ≡ some v → v.opened ≡ Some tokens → v.post ≡ None → v.olds ≡ None → b < 2
      → get_or s.words 0 0 ≡ b → Kept tokens (stepped s 0 (b + 1) id c (with_post v b) keeps)
  draws s k id v b c at has_line free no_olds is_box found = record {
    log = k.log;
    wide = length-set s.words 0 (b + 1) ∙ k.wide;
    drawn = subst (λ (d : ℕ). d ≤ 2) (sym first_is) (omega (arith, is_box));
    legal = k.legal;
    packed = λ w is. get_or-set_other s.words 0 (place_of w) (b + 1) 0
        (λ e. let p = (place_within w is).0 in omega (arith, p, e)) ∙ k.packed w is;
    shown = k.shown;
    undrawn = λ p h. k.undrawn p (let g : b + 1 ≤ p = subst (λ (d : ℕ). d ≤ p) first_is h in omega (arith, g, found));
    short = k.short;
    longest = whole_set k.log s.views id v w at k.longest (λ e. e);
    once = λ p. ⊎_elim
        (λ (t : ((b == p) ≡ true) × (b ≡ p)). let h = holders_set p s.views id v w at in
        let z : holders p s.views ≡ 0 = subst (λ (q : ℕ). holders q s.views ≡ 0) t.1 none_yet in
        let y : held p w.post ≡ 1 = held_yes p b (Some b) refl t.1 in omega (arith, h, z, y))
        (λ (t : ((b == p) ≡ false) × (b ≢ p)). let h = holders_set p s.views id v w at in let o = k.once p in
        let y : held p w.post ≡ 0 = held_no p b (Some b) refl t.1 in omega (arith, h, o, y))
        (eqb_tells b p);
    fits = λ j u bt. ⊎_elim
        (λ (t : (j ≡ id) × (w ≡ u)). subst
        (λ (z : TokenView). Fits tokens k.log (get_or (set s.words 0 (b + 1)) 0 0) z) t.1 mine)
        (λ (t : (j ≢ id) × (get_elem? s.views j ≡ some u)). theirs u (k.fits j u t.1))
        (at_set s.views id j w u bt);
  }
    where
      w : TokenView
      w = with_post v b

      first_is : get_or (set s.words 0 (b + 1)) 0 0 ≡ b + 1
      first_is = get_or-set_same s.words 0 (b + 1) 0 (subst (λ (z : ℕ). 0 < z) (sym k.wide) (omega arith))

      unheld : (u : TokenView) → Fits tokens k.log (get_or s.words 0 0) u → held b u.post ≡ 0
      unheld u f = elim (eqb_tells (held b u.post) 0) [
        | inl t ↦ t.1
        | inr t ↦ let n = t.1 in let d = f.below b (held_is b u.post (omega (arith, n))) in
            absurd (omega (arith, d, found))
      ]

      none_yet : holders b s.views ≡ 0
      none_yet = holders_none b s.views (λ j u bt. unheld u (k.fits j u bt))

      own : Fits tokens k.log (get_or s.words 0 0) v
      own = k.fits id v at

      nothing : token_part_of b k.log ≡ []
      nothing = k.undrawn b (omega (arith, found))

      bare : Marks (shown_after tokens k.log) None v.hand v.came
      bare = subst (λ (p : Option ℕ). Marks (shown_after tokens k.log) p v.hand v.came) free own.marks

      mine : Fits tokens k.log (get_or (set s.words 0 (b + 1)) 0 0) (with_post v b)
      mine = record {
        same_line = inl has_line;
        seen = record {
          begins = own.seen.begins;
          own = λ p h. let is : b ≡ p = cc in subst (λ (q : ℕ). token_part_of q k.log ≡ token_part_of q v.seen) is
              (nothing ∙ sym (part_of_prefix b v.seen k.log own.seen.begins nothing));
        };
        below = λ p h. subst (λ (d : ℕ). p < d) (sym first_is)
            (let is : b ≡ p = cc in omega (arith, is));
        marks = marked (shown_after tokens k.log) (Some b) b v.hand v.came refl
            (bare.0 ∙ sym (none_held tokens b k.log k.legal nothing)) bare.1;
        olds = subst (λ (o : Option SeenBefore).
            AllSeen v.seen (Some b) o) (sym no_olds) tt;
      }

      theirs : (u : TokenView) → Fits tokens k.log (get_or s.words 0 0) u
          → Fits tokens k.log (get_or (set s.words 0 (b + 1)) 0 0) u
      theirs u f = record {
        same_line = f.same_line;
        seen = f.seen;
        below = λ p h. subst (λ (d : ℕ). p < d) (sym first_is) (let d = f.below p h in omega (arith, d, found));
        marks = f.marks;
        olds = f.olds;
      }

  -- a draw that found another number keeps the view's fit
  still_fits : (s : St) (k : Kept tokens s) (id : ℕ) (v : TokenView) (n : ℕ) → get_elem? s.views id ≡ some v
      → v.opened ≡ Some tokens → Fits tokens k.log (get_or s.words 0 0) (missed v n)
  still_fits s k id v n at has_line = let f : Fits tokens k.log (get_or s.words 0 0) v = k.fits id v at in record {
    same_line = inl has_line;
    seen = f.seen;
    below = f.below;
    marks = f.marks;
    olds = f.olds;
  }

  pub takes : (slots id : ℕ) (me : M) (b : ℕ) → me.0.opened ≡ Some tokens → me.0.olds ≡ None → me.0.post ≡ None
      → b < 2
      → Allows (Kept tokens) slots id me 0 (λ n. either (n == b) (b + 1) n) (taken (step slots 0 b (b + 1) none) me)
  takes slots id me b has_line no_olds free is_box s k _ at _ = let n : ℕ = get_or s.words 0 0 in
      dite (ℕ_discrete n b)
      (λ hit. (
        with_post me.0 b,
        keeps,
        tt,
        subst (λ (h : Bool).
            Kept tokens (stepped s 0 (either h (b + 1) n) id me.1 (with_post me.0 b) keeps))
            (sym (eqb_yes n b hit)) (draws s k id me.0 b me.1 at has_line free no_olds is_box hit),
        (refl, (λ _. refl), (λ miss. absurd (miss hit)), k.drawn),
      ))
      (λ miss. (
        missed me.0 n,
        keeps,
        tt,
        subst (λ (h : Bool).
            Kept tokens (stepped s 0 (either h (b + 1) n) id me.1 (missed me.0 n) keeps)) (sym (eqb_no n b miss))
            (stays s k id me.0 (missed me.0 n) 0 me.1 at (λ p. refl) (λ e. e) (still_fits s k id me.0 n at has_line)),
        (refl, (λ hit. absurd (miss hit)), (λ _. refl), k.drawn),
      ))
