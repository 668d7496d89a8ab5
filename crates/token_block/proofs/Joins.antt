-- Splitting and joining seats keeps the rule.
use Rattle.std.proofs.Common.{◌≡◌, ◌≢◌, ℕ, ◌<◌, ◌≤◌, ◌==◌, leb, true, false, inl, inr, ⊎_elim, List, [], ◌∷◌}
use Rattle.std.proofs.Common.{◌++◌, length, get_or, set, Option, Some, sym, refl, ap, ◌∙◌, subst, arith}
use Rattle.std.proofs.Common.{length-append, append-nil}
use mathlib.Core.Option.{some, none, some-injective}
use mathlib.Core.List.{IsPrefix}
use lib.ListN.{get_elem?}
use Rattle.std.proofs.lemmas.Bool.Decides.{eqb_tells, leb_tells}
use Rattle.atomic_table.specs.Table.{keeps, step, Allows, Splits, Joins}
use Rattle.atomic_table.proofs.Lists.{at_longer, set_else, at_set, at_snoc, set_again}
use Rattle.token_block.specs.declared.view.Tokens.{Tokens}
use Rattle.token_block.specs.declared.view.TokenView.{TokenView}
use Rattle.token_block.specs.Rule.{Fits, Kept, Seen}
use Rattle.token_block.specs.Steps.{LegalFor, settles}
use Rattle.token_block.specs.Views.{both_views, longer, settled, spent_view, twin_view}
use Rattle.token_block.proofs.Keeps.{M, stays}
use Rattle.token_block.proofs.Parts.{Es, between, if_no, if_yes, legal_beginning}
use Rattle.token_block.proofs.Views.{Whole, at_here, holders_set, holders_snoc, whole_set}

module _ (tokens : Tokens) where
  pub splits : (id : ℕ) (v : TokenView) → v.opened ≡ Some tokens → Splits (Kept tokens) id v v (twin_view v)
  splits id v has_line s k at = subst
      (λ (vs : List TokenView). Kept tokens
      (record { words = s.words; homes = s.homes; views = vs ++ twin_view v ∷ [] }))
      (sym (set_again s.views id v at)) record {
        log = k.log;
        wide = k.wide;
        drawn = k.drawn;
        legal = k.legal;
        packed = k.packed;
        shown = k.shown;
        undrawn = k.undrawn;
        short = k.short;
        once = λ p. let h = holders_snoc p s.views (twin_view v) in let o = k.once p in omega (arith, h, o);
        longest = (
          k.longest.0,
          k.longest.1,
          at_longer s.views (twin_view v ∷ []) k.longest.0 k.longest.1 k.longest.2,
          k.longest.3,
        );
        fits = λ j u bt. ⊎_elim (λ (t : get_elem? s.views j ≡ some u). k.fits j u t)
            (λ (e : twin_view v ≡ u). subst (λ (z : TokenView). Fits tokens k.log (get_or s.words 0 0) z) e new)
            (at_snoc s.views (twin_view v) u j bt);
      }
    where
      new : Fits tokens k.log (get_or s.words 0 0) (twin_view v)
      new = let f : Fits tokens k.log (get_or s.words 0 0) v = k.fits id v at in record {
        same_line = inl has_line;
        seen = record { begins = f.seen.begins; own = λ p h. absurd cc };
        below = λ p h. absurd cc;
        marks = (refl, refl);
        olds = tt;
      }

-- of two beginnings of one list the shorter begins the longer
shorter_begins : (xs ys log : Es) → IsPrefix xs log → IsPrefix ys log → length xs ≤ length ys → IsPrefix xs ys
shorter_begins [] ys log p q h = (ys, refl)
shorter_begins (x ∷ xs) [] log p q h = absurd (omega arith)
shorter_begins (x ∷ xs) (y ∷ ys) [] p q h = let bad = p.1 in (cc)
shorter_begins (x ∷ xs) (y ∷ ys) (z ∷ zs) p q h = let a = p.1 in let b = q.1 in
    let r = shorter_begins xs ys zs (p.0, cc) (q.0, cc) (omega arith) in let hd : x ≡ y = cc in (r.0, λ i. hd i ∷ r.1 i)

whole : (xs : Es) → IsPrefix xs xs
whole xs = ([], append-nil xs)

pub longer_of : (xs ys log : Es) → IsPrefix xs log → IsPrefix ys log
    → IsPrefix xs (longer xs ys) × IsPrefix ys (longer xs ys) × IsPrefix (longer xs ys) log
longer_of xs ys log p q = ⊎_elim
    (λ (t : (leb (length xs) (length ys) ≡ true) × (length xs ≤ length ys)). let is = if_yes
    (leb (length xs) (length ys)) ys xs t.0 in (
      subst (λ (l : Es). IsPrefix xs l) (sym is) (shorter_begins xs ys log p q t.1),
      subst (λ (l : Es). IsPrefix ys l) (sym is) (whole ys),
      subst (λ (l : Es). IsPrefix l log) (sym is) q,
    ))
    (λ (t : (leb (length xs) (length ys) ≡ false) × (length ys < length xs)). let is = if_no
    (leb (length xs) (length ys)) ys xs t.0 in (
      subst (λ (l : Es). IsPrefix xs l) (sym is) (whole xs),
      subst (λ (l : Es). IsPrefix ys l) (sym is)
          (shorter_begins ys xs log q p (let h = t.1 in omega (arith, h))),
      subst (λ (l : Es). IsPrefix l log) (sym is) p,
    ))
    (leb_tells (length xs) (length ys))

seen_longer : (log ys : Es) (post : Option ℕ) (xs : Es) → IsPrefix xs ys → IsPrefix ys log → Seen log post xs
    → Seen ys post xs
seen_longer log ys post xs a b s = record {
  begins = a;
  own = λ p h. sym (between p xs ys log a b (s.own p h)) ∙ s.own p h;
}

prefix_length : (xs ys : Es) → IsPrefix xs ys → length xs ≤ length ys
prefix_length xs ys p = let l = length-append xs p.0 in let e = ap length p.1 in omega (arith, l, e)

prefix_whole : (xs ys : Es) → IsPrefix xs ys → length ys ≤ length xs → xs ≡ ys
prefix_whole xs ys p h = let none_over : p.0 ≡ [] = empty p.0
    (let l = length-append xs p.0 in let e = ap length p.1 in omega (arith, l, e, h)) in sym (append-nil xs) ∙
    (ap (λ (l : Es). xs ++ l) (sym none_over) ∙ p.1)
  where
    empty : (zs : Es) → length zs ≡ 0 → zs ≡ []
    empty [] e = refl
    empty (z ∷ zs) e = absurd (omega arith)

module _ (tokens : Tokens) where
  pub joins : (id other : ℕ) (v w : TokenView) → v.opened ≡ Some tokens
      → Joins (Kept tokens) id v other w (both_views v w) spent_view
  joins id other v w has_line s k at apart bt = record {
    log = k.log;
    wide = k.wide;
    drawn = k.drawn;
    legal = k.legal;
    packed = k.packed;
    shown = k.shown;
    undrawn = k.undrawn;
    short = k.short;
    once = λ p. let g = holders_set p s.views id v both at in let h = holders_set p
        (set s.views id both) other w spent_view bt in let o = k.once p in omega (arith, g, h, o);
    longest = last;
    fits = λ j u ct. ⊎_elim
        (λ (t : (j ≡ other) × (spent_view ≡ u)).
        subst (λ (z : TokenView). Fits tokens k.log (get_or s.words 0 0) z) t.1 spent)
        (λ (t : (j ≢ other) × (get_elem? (set s.views id both) j ≡ some u)). ⊎_elim
        (λ (r : (j ≡ id) × (both ≡ u)).
        subst (λ (z : TokenView). Fits tokens k.log (get_or s.words 0 0) z) r.1 joined)
        (λ (r : (j ≢ id) × (get_elem? s.views j ≡ some u)). k.fits j u r.1)
        (at_set s.views id j both u t.1))
        (at_set (set s.views id both) other j spent_view u ct);
  }
    where
      both : TokenView
      both = both_views v w

      spent : Fits tokens k.log (get_or s.words 0 0) spent_view
      spent = record {
        same_line = inr refl;
        seen = record { begins = (k.log, refl); own = λ p h. absurd cc };
        below = λ p h. absurd cc;
        marks = (refl, refl);
        olds = tt;
      }

      mine : Fits tokens k.log (get_or s.words 0 0) v
      mine = k.fits id v at

      theirs : Fits tokens k.log (get_or s.words 0 0) w
      theirs = ⊎_elim (λ (r : (other ≡ id) × (both_views v w ≡ w)). absurd (apart r.0))
          (λ (r : (other ≢ id) × (get_elem? s.views other ≡ some w)). k.fits other w r.1)
          (at_set s.views id other (both_views v w) w bt)

      three : IsPrefix v.seen (longer v.seen w.seen) × IsPrefix w.seen (longer v.seen w.seen) × IsPrefix
          (longer v.seen w.seen) k.log
      three = longer_of v.seen w.seen k.log mine.seen.begins theirs.seen.begins

      first : Whole k.log (set s.views id (both_views v w))
      first = whole_set k.log s.views id v (both_views v w) at k.longest
          (λ e. prefix_whole (longer v.seen w.seen) k.log three.2
          (let l = ap length e in let m = prefix_length v.seen (longer v.seen w.seen) three.0 in omega (arith, l, m)))

      last : Whole k.log (set (set s.views id (both_views v w)) other spent_view)
      last = let j : ℕ = first.0 in ⊎_elim
          (λ (t : ((j == other) ≡ true) × (j ≡ other)). let same : first.1 ≡ w = some-injective first.1 w
          (sym first.2 ∙ (ap (get_elem? (set s.views id (both_views v w))) t.1 ∙ bt)) in
          let l : length w.seen ≡ length k.log = ap length (ap (λ (u : TokenView). u.seen) (sym same) ∙ first.3) in (
            id,
            both_views v w,
            set_else (set s.views id (both_views v w)) other id spent_view (λ e. apart (sym e)) ∙ at_here s.views id v
                (both_views v w) at,
            prefix_whole (longer v.seen w.seen) k.log three.2
                (let m = prefix_length w.seen (longer v.seen w.seen) three.1 in omega (arith, l, m)),
          ))
          (λ (t : ((j == other) ≡ false) × (j ≢ other)).
          (j, first.1, set_else (set s.views id (both_views v w)) other j spent_view t.1 ∙ first.2, first.3))
          (eqb_tells j other)

      joined : Fits tokens k.log (get_or s.words 0 0) (both_views v w)
      joined = record {
        same_line = inl has_line;
        seen = record {
          begins = three.2;
          own = λ p h. between p v.seen (longer v.seen w.seen) k.log three.0 three.2 (mine.seen.own p h);
        };
        below = mine.below;
        marks = mine.marks;
        olds = (seen_longer k.log (longer v.seen w.seen) v.post v.seen three.0 three.2 mine.seen, three.1);
      }

  pub settling : (slots id : ℕ) (me : M) → me.0.opened ≡ Some tokens
      → Allows (Kept tokens) slots id me 0 (λ n. n) (settles (step slots 0 0 0 none) me)
  settling slots id me has_line s k wide at fits = let f : Fits tokens k.log
      (get_or s.words 0 0) me.0 = k.fits id me.0 at in (
        settled me.0,
        keeps,
        tt,
        stays tokens s k id me.0 (settled me.0) 0 me.1 at (λ p. refl) (λ e. e)
            record { same_line = inl has_line; seen = f.seen; below = f.below; marks = f.marks; olds = tt },
        (
          refl,
          f.olds,
          subst (λ (o : Option Tokens). LegalFor o me.0.seen) (sym has_line)
              (legal_beginning tokens me.0.seen k.log f.seen.begins k.legal),
          refl,
        ),
      )
