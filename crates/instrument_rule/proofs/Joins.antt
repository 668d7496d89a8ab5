-- Splitting and joining posts keeps the rule.
use Rattle.std.proofs.Common.{◌≡◌, ◌≢◌, ℕ, zero, suc, ◌+◌, ◌<◌, ◌≤◌, eqb, leb, Bool, true, false, if◌then◌else◌, ◌⊎◌}
use Rattle.std.proofs.Common.{inl, inr, ⊎_elim, List, [], ◌∷◌, ◌++◌, length, get_or, set, Option, Some, None, sym, refl}
use Rattle.std.proofs.Common.{ap, ◌∙◌, subst, arith, length-append, append-nil, append_assoc}
use mathlib.Core.Option.{some, none, some-injective}
use mathlib.Core.List.{IsPrefix}
use lib.ListN.{get_elem?}
use Rattle.std.proofs.lemmas.Bool.Decides.{eqb_tells, nat_tests}
use Rattle.atomic_table.specs.Table.{keeps, step, Allows, Splits, Joins}
use Rattle.atomic_table.proofs.Lists.{at_longer, set_else, at_set, at_snoc, set_again}
use Rattle.block_words.specs.declared.Way.{Way}
use Rattle.line_plan.specs.Plans.{PlanFields}
use Rattle.line_law.specs.declared.call.Entry.{Entry}
use Rattle.line_law.specs.History.{IsLegal}
use Rattle.line_law.proofs.Histories.{prefix_legal}
use Rattle.instrument_rule.specs.declared.view.View.{View}
use Rattle.instrument_rule.specs.Rule.{Fits, Kept, Roomy, Seen}
use Rattle.instrument_rule.specs.Told.{LegalFor, settles}
use Rattle.instrument_rule.specs.Views.{both_views, held, longer, settled, spent_view, twin_view}
use Rattle.instrument_rule.proofs.Keeps.{M, stays}
use Rattle.instrument_rule.proofs.Parts.{between}
use Rattle.instrument_rule.proofs.Views.{Whole, at_here, held_append, holders_set, holders_snoc, whole_set}

if_true : {A : Type 0} (b : Bool) (x y : A) → b ≡ true → (if b then x else y) ≡ x
if_true true x y h = refl
if_true false x y h = absurd cc

if_false : {A : Type 0} (b : Bool) (x y : A) → b ≡ false → (if b then x else y) ≡ y
if_false true x y h = absurd cc
if_false false x y h = refl

leb_tells : (a b : ℕ) → ((leb a b ≡ true) × (a ≤ b)) ⊎ ((leb a b ≡ false) × (b < a))
leb_tells a b = grind (arith, nat_tests)

legal_beginning : (plan : PlanFields) (xs log : List Entry) → IsPrefix xs log → IsLegal plan log → IsLegal plan xs
legal_beginning plan xs log pre legal = prefix_legal plan xs pre.0 (subst (IsLegal plan) (sym pre.1) legal)

module _ (plan : PlanFields) where
  pub splits : (id : ℕ) (v : View) → v.plan ≡ Some plan → Splits (Kept plan) id v v (twin_view v)
  splits id v has_plan s k at = subst
      (λ (vs : List View). Kept plan (record { words = s.words; homes = s.homes; views = vs ++ twin_view v ∷ [] }))
      (sym (set_again s.views id v at)) record {
        log = k.log;
        wide = k.wide;
        drawn = k.drawn;
        legal = k.legal;
        packed = k.packed;
        undrawn = k.undrawn;
        short = k.short;
        once = λ p. let h = holders_snoc p s.views (twin_view v) in let o = k.once p in omega arith;
        longest = (
          k.longest.0,
          k.longest.1,
          at_longer s.views (twin_view v ∷ []) k.longest.0 k.longest.1 k.longest.2,
          k.longest.3,
        );
        fits = λ j u bt. ⊎_elim (λ (t : get_elem? s.views j ≡ some u). k.fits j u t)
            (λ (e : twin_view v ≡ u). subst (λ (z : View). Fits plan k.log (get_or s.words 0 0) z) e new)
            (at_snoc s.views (twin_view v) u j bt);
      }
    where
      new : Fits plan k.log (get_or s.words 0 0) (twin_view v)
      new = let f : Fits plan k.log (get_or s.words 0 0) v = k.fits id v at in record {
        same_plan = inl has_plan;
        seen = record { begins = f.seen.begins; own = λ p h. absurd (omega arith) };
        below = λ p h. absurd (omega arith);
        olds = tt;
        roomy = tt;
      }

-- of two beginnings of one list the shorter begins the longer
shorter_begins : (xs ys log : List Entry) → IsPrefix xs log → IsPrefix ys log → length xs ≤ length ys → IsPrefix xs ys
shorter_begins [] ys log p q h = (ys, refl)
shorter_begins (x ∷ xs) [] log p q h = absurd (omega arith)
shorter_begins (x ∷ xs) (y ∷ ys) [] p q h = let bad = p.1 in (cc)
shorter_begins (x ∷ xs) (y ∷ ys) (z ∷ zs) p q h = let a = p.1 in let b = q.1 in
    let r = shorter_begins xs ys zs (p.0, cc) (q.0, cc) (omega arith) in let hd : x ≡ y = cc in (r.0, λ i. hd i ∷ r.1 i)

whole : (xs : List Entry) → IsPrefix xs xs
whole xs = ([], append-nil xs)

pub longer_of : (xs ys log : List Entry) → IsPrefix xs log → IsPrefix ys log
    → IsPrefix xs (longer xs ys) × IsPrefix ys (longer xs ys) × IsPrefix (longer xs ys) log
longer_of xs ys log p q = ⊎_elim
    (λ (t : (leb (length xs) (length ys) ≡ true) × (length xs ≤ length ys)). let is = if_true
    (leb (length xs) (length ys)) ys xs t.0 in (
      subst (λ (l : List Entry). IsPrefix xs l) (sym is) (shorter_begins xs ys log p q t.1),
      subst
          (λ (l : List Entry). IsPrefix ys l) (sym is) (whole ys),
      subst (λ (l : List Entry). IsPrefix l log) (sym is) q,
    ))
    (λ (t : (leb (length xs) (length ys) ≡ false) × (length ys < length xs)). let is = if_false
    (leb (length xs) (length ys)) ys xs t.0 in (
      subst (λ (l : List Entry). IsPrefix xs l) (sym is) (whole xs),
      subst (λ (l : List Entry). IsPrefix ys l) (sym is)
          (shorter_begins ys xs log q p (omega arith)),
      subst (λ (l : List Entry). IsPrefix l log) (sym is) p,
    ))
    (leb_tells (length xs) (length ys))

pub seen_longer : (log ys : List Entry) (posts : List ℕ) (xs : List Entry) → IsPrefix xs ys → IsPrefix ys log
    → Seen log posts xs → Seen ys posts xs
seen_longer log ys posts xs a b s = record {
  begins = a;
  own = λ p h. sym (between p xs ys log a b (s.own p h))
      ∙ s.own p h;
}

prefix_length : (xs ys : List Entry) → IsPrefix xs ys → length xs ≤ length ys
prefix_length xs ys p = let l = length-append xs p.0 in let e = ap length p.1 in omega arith

prefix_whole : (xs ys : List Entry) → IsPrefix xs ys → length ys ≤ length xs → xs ≡ ys
prefix_whole xs ys p h = let none_over : p.0 ≡ [] = empty p.0
    (let l = length-append xs p.0 in let e = ap length p.1 in omega arith) in sym (append-nil xs) ∙
    (ap (λ (l : List Entry). xs ++ l) (sym none_over) ∙ p.1)
  where
    empty : (zs : List Entry) → length zs ≡ 0 → zs ≡ []
    empty [] e = refl
    empty (z ∷ zs) e = absurd (omega arith)

more_posts : (plan : PlanFields) (log : List Entry) (xs ys : List ℕ) (room : Option Way) → Roomy plan log xs room
    → Roomy plan log (xs ++ ys) room
more_posts plan log xs ys None h = tt
more_posts plan log [] ys (Some side) h = absurd h
more_posts plan log (x ∷ xs) ys (Some side) h = h

module _ (plan : PlanFields) where
  pub joins : (id other : ℕ) (v w : View) → v.plan ≡ Some plan
      → Joins (Kept plan) id v other w (both_views v w) spent_view
  joins id other v w has_plan s k at apart bt = record {
    log = k.log;
    wide = k.wide;
    drawn = k.drawn;
    legal = k.legal;
    packed = k.packed;
    undrawn = k.undrawn;
    short = k.short;
    once = λ p. let g = holders_set p s.views id v both at in let h = holders_set p
        (set s.views id both) other w spent_view bt in let a = held_append p v.posts w.posts in
        let o = k.once p in omega arith;
    longest = last;
    fits = λ j u ct. ⊎_elim
        (λ (t : (j ≡ other) × (spent_view ≡ u)). subst (λ (z : View). Fits plan k.log (get_or s.words 0 0) z) t.1 spent)
        (λ (t : (j ≢ other) × (get_elem? (set s.views id both) j ≡ some u)). ⊎_elim
        (λ (r : (j ≡ id) × (both ≡ u)). subst (λ (z : View). Fits plan k.log (get_or s.words 0 0) z) r.1 joined)
        (λ (r : (j ≢ id) × (get_elem? s.views j ≡ some u)). k.fits j u r.1)
        (at_set s.views id j both u t.1))
        (at_set (set s.views id both) other j spent_view u ct);
  }
    where
      both : View
      both = both_views v w

      spent : Fits plan k.log (get_or s.words 0 0) spent_view
      spent = record {
        same_plan = inr refl;
        seen = record { begins = (k.log, refl); own = λ p h. absurd (omega arith) };
        below = λ p h. absurd (omega arith);
        olds = tt;
        roomy = tt;
      }

      mine : Fits plan k.log (get_or s.words 0 0) v
      mine = k.fits id v at

      theirs : Fits plan k.log (get_or s.words 0 0) w
      theirs = ⊎_elim (λ (r : (other ≡ id) × (both_views v w ≡ w)). absurd (apart r.0))
          (λ (r : (other ≢ id) × (get_elem? s.views other ≡ some w)). k.fits other w r.1)
          (at_set s.views id other (both_views v w) w bt)

      three : IsPrefix v.seen (longer v.seen w.seen) × IsPrefix w.seen (longer v.seen w.seen) × IsPrefix
          (longer v.seen w.seen) k.log
      three = longer_of v.seen w.seen k.log mine.seen.begins theirs.seen.begins

      first : Whole k.log (set s.views id (both_views v w))
      first = whole_set k.log s.views id v (both_views v w) at k.longest
          (λ e. prefix_whole (longer v.seen w.seen) k.log three.2
          (let l = ap length e in let m = prefix_length v.seen (longer v.seen w.seen) three.0 in omega arith))

      last : Whole k.log (set (set s.views id (both_views v w)) other spent_view)
      last = let j : ℕ = first.0 in ⊎_elim
          (λ (t : (eqb j other ≡ true) × (j ≡ other)). let same : first.1 ≡ w = some-injective first.1 w
          (sym first.2 ∙ (ap (get_elem? (set s.views id (both_views v w))) t.1 ∙ bt)) in
          let l : length w.seen ≡ length k.log = ap length (ap (λ (u : View). u.seen) (sym same) ∙ first.3) in (
            id,
            both_views v w,
            set_else (set s.views id (both_views v w)) other id spent_view (λ e. apart (sym e)) ∙ at_here s.views id v
                (both_views v w) at,
            prefix_whole (longer v.seen w.seen) k.log three.2
                (let m = prefix_length w.seen (longer v.seen w.seen) three.1 in omega arith),
          ))
          (λ (t : (eqb j other ≡ false) × (j ≢ other)).
          (j, first.1, set_else (set s.views id (both_views v w)) other j spent_view t.1 ∙ first.2, first.3))
          (eqb_tells j other)

      held_in : (p : ℕ) → 0 < held p (v.posts ++ w.posts) → (0 < held p v.posts) ⊎ (0 < held p w.posts)
      held_in p h = let a = held_append p v.posts w.posts in ⊎_elim
          (λ (t : (eqb (held p v.posts) 0 ≡ true) × (held p v.posts ≡ 0)). inr (omega arith))
          (λ (t : (eqb (held p v.posts) 0 ≡ false) × (held p v.posts ≢ 0)). inl (let n = t.1 in omega arith))
          (eqb_tells (held p v.posts) 0)

      joined : Fits plan k.log (get_or s.words 0 0) (both_views v w)
      joined = record {
        same_plan = inl has_plan;
        seen = record {
          begins = three.2;
          own = λ p h. ⊎_elim (λ (m : 0 < held p v.posts). between p v.seen (longer v.seen w.seen) k.log three.0 three.2
              (mine.seen.own p m))
              (λ (m : 0 < held p w.posts). between p w.seen (longer v.seen w.seen) k.log three.1 three.2
              (theirs.seen.own p m)) (held_in p h);
        };
        below = λ p h. ⊎_elim (λ (m : 0 < held p v.posts). mine.below p m)
            (λ (m : 0 < held p w.posts). theirs.below p m) (held_in p h);
        olds = (
          seen_longer k.log (longer v.seen w.seen) v.posts v.seen three.0 three.2 mine.seen,
          (seen_longer k.log (longer v.seen w.seen) w.posts w.seen three.1 three.2 theirs.seen, tt),
        );
        roomy = more_posts plan k.log v.posts w.posts v.room mine.roomy;
      }

  pub settling : (slots id : ℕ) (me : M) → me.0.plan ≡ Some plan
      → Allows (Kept plan) slots id me 0 (λ n. n) (settles (step slots 0 0 0 none) me)
  settling slots id me has_plan s k wide at fits = let f : Fits plan k.log
      (get_or s.words 0 0) me.0 = k.fits id me.0 at in (
        settled me.0,
        keeps,
        tt,
        stays plan s k id me.0 (settled me.0) 0 me.1 at (λ p. refl)
            (λ e. e) record { same_plan = inl has_plan; seen = f.seen; below = f.below; olds = tt; roomy = f.roomy },
        (
          refl,
          f.olds,
          subst (λ (o : Rattle.std.proofs.Common.Option PlanFields). LegalFor o me.0.seen) (sym has_plan)
              (legal_beginning plan me.0.seen k.log f.seen.begins k.legal),
          refl,
        ),
      )
