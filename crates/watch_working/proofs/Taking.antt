-- What the first of the men takes back, and what he has then seen.
use Rattle.std.proofs.Common.{◌≡◌, ℕ, ◌+◌, ◌<◌, List, get_or, set, length, inl, inr}
use Rattle.std.proofs.Common.{length-set, sym, ap, ◌∙◌, subst, arith}
use Rattle.std.proofs.lemmas.Bool.{cases_lt}
use Rattle.std.proofs.lemmas.List.{get_or_default, get_or-set_other, get_or-set_same, set-get_or}
use mathlib.Core.List.{IsPrefix}
use Rattle.atomic_table.specs.Seated.{TableId}
use Rattle.line_plan.specs.Plans.{PlanFields}
use Rattle.line_law.specs.declared.call.Entry.{Entry}
use Rattle.signalman_seats.specs.Men.{IsOf, Man}
use Rattle.line_watch.proofs.BoardsShown.{prefix_on}
use Rattle.watch_working.specs.Watched.{BeginsWithAll, FirstHasTaken, HasTaken}

-- ---- one man

taken_on : (plan : PlanFields) (a b c : Man) → HasTaken plan a b → HasTaken plan b c → HasTaken plan a c
taken_on plan a b c h g = record {
  begins = prefix_on a.view.seen b.view.seen c.view.seen h.begins g.begins;
  legal = g.legal;
  kept = g.kept ∙ ap (λ (m : Man). record m { view = record m.view { seen = c.view.seen } }) h.kept;
}

-- a man who took back posts is of his line still
pub still_of : (table_id : TableId) (plan : PlanFields) (before after : Man) → HasTaken plan before after
    → IsOf table_id plan before → IsOf table_id plan after
still_of table_id plan before after taken is = subst (λ (m : Man). IsOf table_id plan m) (sym taken.kept) is

-- ---- all men

-- the first of them takes a post back
pub one_taken : (plan : PlanFields) (men : List Man) (e first : Man) → 0 < length men
    → HasTaken plan (get_or men 0 e) first → FirstHasTaken plan men (set men 0 first)
one_taken plan men e first some taken = record {
  each = length-set men 0 first;
  taken = λ d.
      subst (λ (m : Man). HasTaken plan (get_or men 0 d) m) (sym (get_or-set_same men 0 first d some))
      (subst (λ (m : Man). HasTaken plan m first) (get_or_default men 0 e d some) taken);
  others = λ b d lt within. get_or-set_other men 0 b first d (λ same. absurd (omega (arith, lt, same)));
}

-- what the first of the men takes back in two turns, one after the other, he takes back in all
pub first_taken_on : (plan : PlanFields) (before now after : List Man) → FirstHasTaken plan before now
    → FirstHasTaken plan now after → FirstHasTaken plan before after
first_taken_on plan before now after h g = record {
  each = g.each ∙ h.each;
  taken = λ d. taken_on plan (get_or before 0 d) (get_or now 0 d) (get_or after 0 d) (h.taken d) (g.taken d);
  others = λ b d lt within. g.others b d lt (omega (arith, within, h.each)) ∙ h.others b d lt within;
}

-- ---- the gathering

-- the first man has taken the observer's post and those of so many men, himself with them
pub record Gathered (plan : PlanFields) (post : List Entry) (count : ℕ) (before after : List Man) : Type 0 where
  pub men : FirstHasTaken plan before after
  pub observer : (d : Man) → IsPrefix post (get_or after 0 d).view.seen
  pub all : (d : Man) → BeginsWithAll count before (get_or after 0 d).view.seen

-- the observer's
pub gathers_first : (plan : PlanFields) (post : List Entry) (men : List Man) (e first : Man) → 0 < length men
    → HasTaken plan (get_or men 0 e) first → IsPrefix post first.view.seen
    → Gathered plan post 1 men (set men 0 first)
gathers_first plan post men e first some taken theirs = record {
  men = one_taken plan men e first some taken;
  observer = λ d. subst (λ (m : Man). IsPrefix post m.view.seen) (sym (get_or-set_same men 0 first d some)) theirs;
  all = λ d b d' lt.
      subst (λ (m : Man). IsPrefix (get_or men b d').view.seen m.view.seen) (sym (get_or-set_same men 0 first d some))
      (subst (λ (m : Man). IsPrefix m.view.seen first.view.seen) (own b d' lt) taken.begins);
}
  where
    own : (b : ℕ) (d : Man) → b < 1 → get_or men 0 e ≡ get_or men b d
    own b d lt = get_or_default men 0 e d some ∙ ap (λ (k : ℕ). get_or men k d) (let z : 0 ≡ b = omega (arith, lt) in z)

-- one man more lends a post, and the first takes it
pub gathers_next : (plan : PlanFields) (post : List Entry) (count : ℕ) (before men : List Man)
    (e e' lent first : Man) → 0 < count → count < length before → Gathered plan post count before men
    → lent ≡ get_or men count e → HasTaken plan (get_or (set men count lent) 0 e') first
    → IsPrefix (get_or men count e).view.seen first.view.seen
    → Gathered plan post (count + 1) before (set (set men count lent) 0 first)
gathers_next plan post count before men e e' lent first low within now same taken theirs =
    subst (λ (ms : List Man). Gathered plan post (count + 1) before (set ms 0 first)) (sym as_it_was) (record {
      men = first_taken_on plan before men (set men 0 first) now.men (one_taken plan men e' first some more);
      observer = λ d. subst (λ (m : Man). IsPrefix post m.view.seen) (sym (is_first d))
          (prefix_on post (get_or men 0 d).view.seen first.view.seen (now.observer d) (grew d));
      all = λ d. subst (λ (m : Man). BeginsWithAll (count + 1) before m.view.seen) (sym (is_first d)) (each d);
    })
  where
    as_it_was : set men count lent ≡ men
    as_it_was = ap (λ (m : Man). set men count m) same ∙ set-get_or men count e

    some : 0 < length men
    some = omega (arith, within, now.men.each)

    more : HasTaken plan (get_or men 0 e') first
    more = subst (λ (ms : List Man). HasTaken plan (get_or ms 0 e') first) as_it_was taken

    is_first : (d : Man) → get_or (set men 0 first) 0 d ≡ first
    is_first d = get_or-set_same men 0 first d some

    grew : (d : Man) → IsPrefix (get_or men 0 d).view.seen first.view.seen
    grew d = subst (λ (m : Man). IsPrefix m.view.seen first.view.seen) (get_or_default men 0 e' d some) more.begins

    one : (d : Man) → IsPrefix (get_or before count d).view.seen first.view.seen
    one d = subst (λ (m : Man). IsPrefix m.view.seen first.view.seen)
        (get_or_default men count e d (omega (arith, within, now.men.each)) ∙ now.men.others count d low within) theirs

    each : (d : Man) → BeginsWithAll (count + 1) before first.view.seen
    each d b d' lt = elim (cases_lt b count) [
      | inl less ↦ prefix_on (get_or before b d').view.seen (get_or men 0 d).view.seen first.view.seen
          (now.all d b d' less) (grew d)
      | inr past ↦ subst (λ (k : ℕ). IsPrefix (get_or before k d').view.seen first.view.seen)
          (let same : count ≡ b = omega (arith, lt, past) in same) (one d')
    ]
