-- A row that holds with a lever at mid holds with it at any other place: with it at mid each condition on it acts, and
-- it breaks every kind. So the row lets the lever move where it holds with it at mid.
use Rattle.std.proofs.Common.{◌≡◌, ℕ, List, [], ◌∷◌, Bool, true, false, not, ◌&&◌, ◌==◌, if◌then◌else◌, refl, ap, ◌+◌}
use Rattle.std.proofs.Common.{◌≤◌, ◌∙◌, arith, inl, inr}
use Rattle.std.proofs.lemmas.Bool.Decides.{eqb_tells}
use mir.Val.{bool_byte}
use Rattle.std.specs.List.{list_all}
use Rattle.locking_table.specs.declared.places.End.{End}
use Rattle.locking_table.specs.declared.places.End.TheVariants.{Normal, Reversed}
use Rattle.locking_table.specs.declared.places.Stand.{Stand}
use Rattle.locking_table.specs.declared.places.Stand.TheVariants.{AtMid}
use Rattle.locking_table.specs.declared.row.Cond.{Cond}
use Rattle.locking_table.specs.declared.row.Row.{Row}
use Rattle.locking_table.specs.declared.row.RowKind.{RowKind}
use Rattle.locking_table.specs.declared.row.RowKind.TheVariants.{LocksNormal, ReleasedBy, LocksBoth}
use Rattle.locking_table.specs.Places.{at_ends, end_at, is_normal, other_end, stand_at, stand_of}
use Rattle.locking_table.specs.Meaning.{acts, acts_at, breaks, row_allows, row_holds}

subject_at_mid : (moved : Bool) (place other : Stand) → not (is_normal (if moved then place else other)) ≡ true
    → not (is_normal (if moved then AtMid else other)) ≡ true
subject_at_mid true place other h = refl
subject_at_mid false place other h = h

cond_at_mid : (moved : Bool) (end : End) (place other : Stand)
    → acts_at end (if moved then place else other) ≡ true → acts_at end (if moved then AtMid else other) ≡ true
cond_at_mid true Normal place other h = refl
cond_at_mid true Reversed place other h = refl
cond_at_mid false end place other h = h

object_at_mid : (moved : Bool) (kind : RowKind) (place other : Stand)
    → breaks kind (if moved then place else other) ≡ true → breaks kind (if moved then AtMid else other) ≡ true
object_at_mid true LocksNormal place other h = refl
object_at_mid true ReleasedBy place other h = refl
object_at_mid true LocksBoth place other h = refl
object_at_mid false kind place other h = h

both : (a b : Bool) → (a && b) ≡ true → (a ≡ true) × (b ≡ true)
both true b h = (refl, h)
both false b h = cc

conds_at_mid : (ends : List End) (lever : ℕ) (place : Stand) (conds : List Cond)
    → list_all (acts (stand_of ends lever place)) conds ≡ true
    → list_all (acts (stand_of ends lever AtMid)) conds ≡ true
conds_at_mid ends lever place [] h = refl
conds_at_mid ends lever place (c ∷ cs) h =
    let p = both (acts (stand_of ends lever place) c) (list_all (acts (stand_of ends lever place)) cs) h in
    let one = cond_at_mid (c.lever == lever) c.end place (at_ends ends c.lever) p.0 in
    let more = conds_at_mid ends lever place cs p.1 in
    rw (one, more) refl

and_true : (a : Bool) → a ≡ (a && true)
and_true true = refl
and_true false = refl

-- a part that fails with the lever elsewhere makes the row hold there
first_is_enough : (s c b s' c' b' : Bool) → (s' ≡ true → s ≡ true) → (c' ≡ true → c ≡ true) → (b' ≡ true → b ≡ true)
    → not (s && c && b) ≡ (not (s && c && b) && not (s' && c' && b'))
first_is_enough s c b true true true f g h =
    let subject = f refl in
    let conds = g refl in
    let object = h refl in
    rw (subject, conds, object) refl
first_is_enough s c b false c' b' f g h = and_true (not (s && c && b))
first_is_enough s c b true false b' f g h = and_true (not (s && c && b))
first_is_enough s c b true true false f g h = and_true (not (s && c && b))

-- the row lets the lever move where it holds with the lever at mid
pub mid_is_enough : (ends : List End) (lever : ℕ) (row : Row)
    → row_holds (stand_of ends lever AtMid) row ≡ row_allows ends lever row
mid_is_enough ends lever row =
    let end = stand_at (other_end (end_at ends lever)) in
    first_is_enough
    (not (is_normal (stand_of ends lever AtMid row.subject)))
    (list_all (acts (stand_of ends lever AtMid)) row.when)
    (breaks row.kind (stand_of ends lever AtMid row.object))
    (not (is_normal (stand_of ends lever end row.subject)))
    (list_all (acts (stand_of ends lever end)) row.when)
    (breaks row.kind (stand_of ends lever end row.object))
    (subject_at_mid (row.subject == lever) end (at_ends ends row.subject))
    (conds_at_mid ends lever end row.when)
    (object_at_mid (row.object == lever) row.kind end (at_ends ends row.object))

not_none : (count : ℕ) → 1 ≤ count → (count == 0) ≡ false
not_none count some = elim (eqb_tells count 0) [
  | inl here ↦ let zero = here.1 in absurd (omega (arith, zero))
  | inr away ↦ away.0
]

idle_alone : (normal kept idle : ℕ) → normal ≡ 0 → kept ≡ 0 → normal + kept + idle ≡ idle
idle_alone normal kept idle n k = omega (arith, n, k)

-- a row holds where one of its three parts fails, and so where the count of what fails isn't 0
count_tells : (subject conds object : Bool) (normal kept idle : ℕ) → normal ≡ bool_byte subject
    → kept ≡ bool_byte (not object) → (idle == 0) ≡ conds
    → not (normal + kept + idle == 0) ≡ not (not subject && conds && object)
count_tells true conds object normal kept idle s o i =
    let one : normal ≡ 1 = s in
    let e = not_none (normal + kept + idle) (omega (arith, one)) in
    rw e refl
count_tells false true false normal kept idle s o i =
    let one : kept ≡ 1 = o in
    let e = not_none (normal + kept + idle) (omega (arith, one)) in
    rw e refl
count_tells false false false normal kept idle s o i =
    let one : kept ≡ 1 = o in
    let e = not_none (normal + kept + idle) (omega (arith, one)) in
    rw e refl
count_tells false true true normal kept idle s o i = rw (idle_alone normal kept idle s o, i) refl
count_tells false false true normal kept idle s o i = rw (idle_alone normal kept idle s o, i) refl

-- the row lets the lever move where, with the lever at mid, the subject is normal, the object keeps to the kind, or a
-- condition doesn't act
pub count_is_enough : (ends : List End) (lever : ℕ) (row : Row) (subject object : Bool) (normal kept idle : ℕ)
    → subject ≡ is_normal (stand_of ends lever AtMid row.subject)
    → object ≡ not (breaks row.kind (stand_of ends lever AtMid row.object))
    → normal ≡ bool_byte subject → kept ≡ bool_byte object
    → (idle == 0) ≡ list_all (acts (stand_of ends lever AtMid)) row.when
    → not (normal + kept + idle == 0) ≡ row_allows ends lever row
count_is_enough ends lever row subject object normal kept idle s o n k i =
    count_tells (is_normal (stand_of ends lever AtMid row.subject))
    (list_all (acts (stand_of ends lever AtMid)) row.when) (breaks row.kind (stand_of ends lever AtMid row.object))
    normal kept idle (n ∙ ap bool_byte s) (k ∙ ap bool_byte o) i
    ∙ mid_is_enough ends lever row
