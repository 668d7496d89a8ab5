-- What a row says is so in each state that agrees with what is known.
use Rattle.std.proofs.Common.{◌≡◌, ◌∙◌, ℕ, zero, suc, ◌-◌, Bool, true, false, cond, List, [], ◌∷◌, Option, Some, None}
use Rattle.std.proofs.Common.{◌⊎◌, inl, inr, get_or, ◌++◌, set, refl, sym, ap, subst, IsTrue}
use Rattle.std.specs.Prelude.{◌&&◌}
use Rattle.std.specs.List.{list_all}
use Rattle.locking_table.specs.declared.places.End.{End}
use Rattle.locking_table.specs.declared.places.End.TheVariants.{Normal, Reversed}
use Rattle.locking_table.specs.declared.row.Cond.{Cond}
use Rattle.locking_table.specs.declared.row.Row.{Row}
use Rattle.locking_table.specs.declared.row.RowKind.{RowKind}
use Rattle.locking_table.specs.declared.row.RowKind.TheVariants.{LocksNormal, ReleasedBy, LocksBoth}
use Rattle.locking_table.specs.Meaning.{RowHolds, acts, row_holds}
use Rattle.locking_table.specs.Places.{at_ends, end_at, other_end}
use Rattle.row_refutations.specs.declared.known.Look.{Look}
use Rattle.row_refutations.specs.declared.known.Look.TheVariants as looks
use Rattle.row_refutations.specs.declared.known.Said.{Said}
use Rattle.row_refutations.specs.declared.known.Said.TheVariants as says
use Rattle.row_refutations.specs.Known.{Agrees, AllStand, Stands, forbidden, known_end, look_at, look_by, object_of}
use Rattle.row_refutations.specs.Known.{row_said, said_of, said_with, same_end}

-- ---- what is known

set_either : {X : Type 0} (xs : List X) (i j : ℕ) (x d : X)
    → ((i ≡ j) × (get_or (set xs i x) j d ≡ x)) ⊎ (get_or (set xs i x) j d ≡ get_or xs j d)
set_either [] i j x d = inr refl
set_either (y ∷ ys) zero zero x d = inl (refl, refl)
set_either (y ∷ ys) zero (suc j) x d = inr refl
set_either (y ∷ ys) (suc i) zero x d = inr refl
set_either (y ∷ ys) (suc i) (suc j) x d = go (set_either ys i j x d) where
  go : ((i ≡ j) × (get_or (set ys i x) j d ≡ x)) ⊎ (get_or (set ys i x) j d ≡ get_or ys j d)
      → ((suc i ≡ suc j) × (get_or (set ys i x) j d ≡ x)) ⊎ (get_or (set ys i x) j d ≡ get_or ys j d)
  go (inl is) = inl (ap suc is.0, is.1)
  go (inr is) = inr is

-- one lever more is known, which stands so
pub agrees_set : (known : List (Option End)) (state : List End) (at : Cond) → end_at state at.lever ≡ at.end
    → Agrees known state → Agrees (set known (at.lever - 1) (Some at.end)) state
agrees_set known state at stands agrees = λ lever end is. go lever end is
    (set_either known (at.lever - 1) (lever - 1) (Some at.end) None) where
      go : (lever : ℕ) (end : End) → known_end (set known (at.lever - 1) (Some at.end)) lever ≡ Some end
          → ((at.lever - 1 ≡ lever - 1)
          × (get_or (set known (at.lever - 1) (Some at.end)) (lever - 1) None ≡ Some at.end))
          ⊎ (get_or (set known (at.lever - 1) (Some at.end)) (lever - 1) None ≡ get_or known (lever - 1) None)
          → end_at state lever ≡ end
      go lever end is (inl it) =
          let same : Some at.end ≡ Some end = sym it.1 ∙ is in
          ap (λ (n : ℕ). get_or state n Normal) (sym it.0) ∙ stands ∙ (let e : at.end ≡ end = cc in e)
      go lever end is (inr it) = agrees lever end (sym it ∙ is)

-- where nothing is known, every state agrees
pub agrees_none : (state : List End) → Agrees [] state
agrees_none state = λ lever end is. absurd cc

push_same : (known : List (Option End)) (k : ℕ) → get_or (known ++ None ∷ []) k None ≡ get_or known k None
push_same [] zero = refl
push_same [] (suc k) = refl
push_same (x ∷ known) zero = refl
push_same (x ∷ known) (suc k) = push_same known k

-- and of a lever more nothing is known
pub agrees_push : (known : List (Option End)) (state : List End) → Agrees known state
    → Agrees (known ++ None ∷ []) state
agrees_push known state agrees = λ lever end is. agrees lever end (sym (push_same known (lever - 1)) ∙ is)

-- ---- what is said

-- what is said while it is so that all conditions before stand
abbrev Means : List End → Type 0 → Said → Type 0
Means state D says.Nothing = Unit {0}
Means state D says.Broken = D
Means state D (says.Forces it) = Stands state it → D

means_map : {D E : Type 0} (state : List End) (said : Said) → (D → E) → Means state D said → Means state E said
means_map state says.Nothing f h = tt
means_map state says.Broken f h = f h
means_map state (says.Forces it) f h = λ stands. f (h stands)

same_is : (x y : End) → same_end x y ≡ true → x ≡ y
same_is Normal Normal e = refl
same_is Normal Reversed e = absurd cc
same_is Reversed Normal e = absurd cc
same_is Reversed Reversed e = refl

looked : (o : Option End) (end : End) → look_by o end ≡ looks.Stands → o ≡ Some end
looked None end e = absurd cc
looked (Some known) end e = go (same_end known end) refl e where
  go : (b : Bool) → same_end known end ≡ b → cond b looks.Stands looks.Differs ≡ looks.Stands → Some known ≡ Some end
  go true is f = ap (λ (x : End). Some x) (same_is known end is)
  go false is f = absurd cc

means_with : (state : List End) (D : Type 0) (look : Look) (said : Said) (it : Cond)
    → (look ≡ looks.Stands → Stands state it) → Means state D said
    → Means state (D × Stands state it) (said_with look said it)
means_with state D looks.Stands said it stands h = means_map state said (λ d. (d, stands refl)) h
means_with state D looks.Differs said it stands h = tt
means_with state D looks.Unknown says.Nothing it stands h = tt
means_with state D looks.Unknown says.Broken it stands h = λ so. (h, so)
means_with state D looks.Unknown (says.Forces other) it stands h = tt

means_of : (known : List (Option End)) (state : List End) → Agrees known state → (D : Type 0) (said : Said)
    (conds : List Cond) → Means state D said → Means state (D × AllStand state conds) (said_of known said conds)
means_of known state agrees D said [] h = means_map state said (λ d. (d, tt)) h
means_of known state agrees D said (it ∷ conds) h =
    means_map state (said_of known (said_with (look_at known it) said it) conds) (λ d. (d.0.0, (d.0.1, d.1)))
    (means_of known state agrees (D × Stands state it) (said_with (look_at known it) said it) conds
    (means_with state D (look_at known it) said it
    (λ is. agrees it.lever it.end (looked (known_end known it.lever) it.end is)) h))

-- ---- what a row forbids

acts_so : (state : List End) (conds : List Cond) → AllStand state conds → list_all (acts (at_ends state)) conds ≡ true
acts_so state [] all = refl
acts_so state (it ∷ conds) all = both (acts (at_ends state) it) _ (one it all.0) (acts_so state conds all.1) where
  both : (a b : Bool) → a ≡ true → b ≡ true → (a && b) ≡ true
  both true true x y = refl
  both true false x y = absurd cc
  both false b x y = absurd cc

  one : (it : Cond) → Stands state it → acts (at_ends state) it ≡ true
  one it is = by_end it.end refl where
    by_end : (end : End) → it.end ≡ end → acts (at_ends state) it ≡ true
    by_end Normal e = rw (is, e) refl
    by_end Reversed e = rw (is, e) refl

broken : (state : List End) (row : Row) → AllStand state (forbidden row) → row_holds (at_ends state) row ≡ false
broken state row all = by_kind row.kind refl where
  by_kind : (kind : RowKind) → row.kind ≡ kind → row_holds (at_ends state) row ≡ false
  by_kind LocksNormal is =
      let o : Stands state (object_of LocksNormal row) = subst (λ (k : RowKind). Stands state (object_of k row)) is all.1.0 in
      let a = acts_so state row.when all.1.1 in
      rw (all.0, is, o, a) refl
  by_kind ReleasedBy is =
      let o : Stands state (object_of ReleasedBy row) = subst (λ (k : RowKind). Stands state (object_of k row)) is all.1.0 in
      let a = acts_so state row.when all.1.1 in
      rw (all.0, is, o, a) refl
  by_kind LocksBoth is =
      let o : Stands state (object_of LocksBoth row) = subst (λ (k : RowKind). Stands state (object_of k row)) is all.1.0 in
      let e : Reversed ≡ Normal = sym all.0 ∙ o in
      absurd cc

-- no state in which a row holds has all that it forbids
pub forbids : (state : List End) (row : Row) → RowHolds (at_ends state) row → AllStand state (forbidden row) → ⊥
forbids state row holds all =
    let f : IsTrue false = subst IsTrue (broken state row all) holds in
    cc

-- ---- what a row says

other_is : (end at : End) → (end ≡ at → ⊥) → end ≡ other_end at
other_is Normal Normal h = absurd (h refl)
other_is Normal Reversed h = refl
other_is Reversed Normal h = refl
other_is Reversed Reversed h = absurd (h refl)

row_means : (known : List (Option End)) (state : List End) (row : Row) → Agrees known state
    → Means state (AllStand state (forbidden row)) (row_said known row)
row_means known state row agrees =
    means_map state (row_said known row) (λ d. d.1)
    (means_of known state agrees (Unit {0}) says.Broken (forbidden row) tt)

-- where it is broken, no state agrees in which it holds
pub said_broken : (known : List (Option End)) (state : List End) (row : Row) → row_said known row ≡ says.Broken
    → RowHolds (at_ends state) row → Agrees known state → ⊥
said_broken known state row is holds agrees =
    forbids state row holds
    (subst (λ (said : Said). Means state (AllStand state (forbidden row)) said) is
    (row_means known state row agrees))

-- where it forces a lever, that lever stands at the other end
pub said_forces : (known : List (Option End)) (state : List End) (row : Row) (it : Cond)
    → row_said known row ≡ says.Forces it → RowHolds (at_ends state) row → Agrees known state
    → end_at state it.lever ≡ other_end it.end
said_forces known state row it is holds agrees =
    let means : Stands state it → AllStand state (forbidden row) =
    subst (λ (said : Said). Means state (AllStand state (forbidden row)) said) is
    (row_means known state row agrees) in
    other_is (end_at state it.lever) it.end (λ stands. forbids state row holds (means stands))
