-- Two rows clash exactly where the test of them is met.
use Rattle.std.proofs.Common.{◌≡◌, ◌≢◌, ℕ, ◌-◌, ◌&&◌, ◌||◌, ◌↔◌, Bool, true, false, not, IsTrue, List, [], ◌∷◌, All}
use Rattle.std.proofs.Common.{length, replicate, map, refl, sym, ap, subst, ◌∙◌, arith, inl, inr, eqb, slice_set}
use Rattle.std.specs.List.{list_all}
use Rattle.std.proofs.lemmas.Bool.Decides.{eqb_tells, nat_tests}
use Rattle.std.proofs.lemmas.List.{get_or-set_same, get_or-set_other, length-replicate, length-set}
use Rattle.std.proofs.lemmas.List.Elements.{All-head}
use Rattle.locking_table.specs.Meaning.{RowHolds, acts, acts_at, breaks}
use Rattle.locking_table.specs.Places.{IsLever, LeverPlace, end_at, is_normal, other_end, stand_at, stand_of}
use Rattle.locking_table.specs.Sound.{CondFits, IsRow, RowFits, all_differ, levers_of}
use Rattle.locking_table.specs.declared.places.End.{End}
use Rattle.locking_table.specs.declared.places.End.TheVariants as ends
use Rattle.locking_table.specs.declared.places.Stand.{Stand}
use Rattle.locking_table.specs.declared.places.Stand.TheVariants.{AtNormal, AtMid, AtReversed}
use Rattle.locking_table.specs.declared.row.Cond.{Cond}
use Rattle.locking_table.specs.declared.row.Row.{Row}
use Rattle.locking_table.specs.declared.row.RowKind.{RowKind}
use Rattle.locking_table.specs.declared.row.RowKind.TheVariants.{LocksNormal, ReleasedBy, LocksBoth}
use Rattle.plan_check.specs.Clashes.{Clash, do_clash, opposed}

-- ---- ends of two levers

one_end : (levers a : ℕ) (e : End) → IsLever levers a → (xs : List End) × (length xs ≡ levers) × (end_at xs a ≡ e)
one_end levers a e is =
    let all : List End = replicate levers ends.Normal in
    let size : length all ≡ levers = length-replicate levers ends.Normal in (
      slice_set all (a - 1) e,
      length-set all (a - 1) e
          ∙ size,
      get_or-set_same all (a - 1) e ends.Normal (omega (arith, is.0, is.1, size)),
    )

two_ends : (levers a b : ℕ) (e f : End) → IsLever levers a → IsLever levers b → a ≢ b
    → (xs : List End) × (length xs ≡ levers) × (end_at xs a ≡ e) × (end_at xs b ≡ f)
two_ends levers a b e f is other differ =
    let first = one_end levers a e is in
    let xs : List End = first.0 in
    let size : length xs ≡ levers = first.1 in
    let apart : a - 1 ≢ b - 1 = λ same. differ (omega (arith, same, is.0, other.0)) in (
      slice_set xs (b - 1) f,
      length-set xs (b - 1) f ∙ size,
      get_or-set_other xs (b - 1) (a - 1) f ends.Normal apart ∙ first.2,
      get_or-set_same xs (b - 1) f ends.Normal (omega (arith, other.0, other.1, size)),
    )

-- ---- ends that let a row hold

-- with the lever at this end, whatever the other ends, the row holds while its subject is at mid
record LetsHold (levers subject : ℕ) (row : Row) (lever : ℕ) (e : End) : Type 0 where
  is : IsLever levers lever
  holds : (xs : List End) → end_at xs lever ≡ e → RowHolds (stand_of xs subject AtMid) row

-- a lever that isn't the subject stands at its end
stands_at : (xs : List End) (subject lever : ℕ) (e : End) → lever ≢ subject → end_at xs lever ≡ e
    → stand_of xs subject AtMid lever ≡ stand_at e
stands_at xs subject lever e differ h = elim (eqb_tells lever subject) [
  | inl same ↦ absurd (differ same.1)
  | inr apart ↦ let test : eqb lever subject ≡ false = apart.0 in rw (test, h) refl
]

unbroken : (a b c : Bool) → c ≡ false → IsTrue (not (a && b && c))
unbroken true true c h = rw h refl
unbroken true false c h = refl
unbroken false b c h = refl

inactive : (a b more c : Bool) → b ≡ false → IsTrue (not (a && (b && more) && c))
inactive true b more c h = rw h refl
inactive false b more c h = refl

-- an end of the object at which the row holds
wanted : RowKind → End
wanted LocksNormal = ends.Normal
wanted ReleasedBy = ends.Reversed
wanted LocksBoth = ends.Normal

wanted_unbroken : (kind : RowKind) → breaks kind (stand_at (wanted kind)) ≡ false
unfolding wanted
wanted_unbroken LocksNormal = refl
wanted_unbroken ReleasedBy = refl
wanted_unbroken LocksBoth = refl

-- the object at an end that doesn't break the kind
by_object : (levers subject : ℕ) (row : Row) (e : End) → IsLever levers row.object → row.object ≢ subject
    → breaks row.kind (stand_at e) ≡ false → LetsHold levers subject row row.object e
by_object levers subject row e is differ sound = record {
  is = is;
  holds = λ xs h.
      let stand : stand_of xs subject AtMid row.object ≡ stand_at e = stands_at xs subject row.object e differ h in
      unbroken (not (is_normal (stand_of xs subject AtMid row.subject)))
      (list_all (acts (stand_of xs subject AtMid)) row.when)
      (breaks row.kind (stand_of xs subject AtMid row.object))
      (ap (λ (s : Stand). breaks row.kind s) stand ∙ sound);
}

put_off : (e : End) → acts_at e (stand_at (other_end e)) ≡ false
put_off ends.Normal = refl
put_off ends.Reversed = refl

-- the lever of a condition at the other end
by_cond : (levers subject : ℕ) (row : Row) (cond : Cond) (conds : List Cond) → row.when ≡ cond ∷ conds
    → IsLever levers cond.lever → cond.lever ≢ subject → LetsHold levers subject row cond.lever (other_end cond.end)
by_cond levers subject row cond conds when is differ = record {
  is = is;
  holds = λ xs h.
      let places : LeverPlace = stand_of xs subject AtMid in
      let stand : places cond.lever ≡ stand_at (other_end cond.end) =
      stands_at xs subject cond.lever (other_end cond.end) differ h in
      let off : acts places cond ≡ false = ap (λ (s : Stand). acts_at cond.end s) stand ∙ put_off cond.end in
      subst (λ (w : List Cond). IsTrue
      (not (not (is_normal (places row.subject)) && list_all (acts places) w
      && breaks row.kind (places row.object)))) (sym when)
      (inactive (not (is_normal (places row.subject))) (acts places cond) (list_all (acts places) conds)
      (breaks row.kind (places row.object)) off);
}

-- two levers that let one row hold each: the rows don't clash
no_clash : (levers : ℕ) (first second : Row) (a b : ℕ) (e f : End) → LetsHold levers first.subject first a e
    → LetsHold levers first.subject second b f → a ≢ b → ¬ Clash levers first second
no_clash levers first second a b e f one other differ clash =
    let xs = two_ends levers a b e f one.is other.is differ in
    clash.never xs.0 xs.1 (one.holds xs.0 xs.2, other.holds xs.0 xs.3)

-- one lever that lets both hold at the same end
no_clash_one : (levers : ℕ) (first second : Row) (a : ℕ) (e : End) → LetsHold levers first.subject first a e
    → LetsHold levers first.subject second a e → ¬ Clash levers first second
no_clash_one levers first second a e one other clash =
    let xs = one_end levers a e one.is in
    clash.never xs.0 xs.1 (one.holds xs.0 xs.2, other.holds xs.0 xs.2)

-- ---- levers that a row names

both_of : (a b : Bool) → (a && b) ≡ true → (a ≡ true) × (b ≡ true)
both_of true b h = (refl, h)
both_of false b h = cc

not_of : (a : Bool) → not a ≡ true → a ≡ false
not_of true h = cc
not_of false h = refl

first_not : (a b : Bool) → (a || b) ≡ false → (a ≡ false) × (b ≡ false)
first_not true b h = cc
first_not false b h = (refl, h)

eqb_apart : (a b : ℕ) → eqb a b ≡ false → a ≢ b
eqb_apart a b h = grind (arith, nat_tests)

-- the object isn't the subject
object_apart : (row : Row) → IsRow row → row.object ≢ row.subject
object_apart row is =
    let differ = both_of _ _ is.differ in
    let none = not_of _ differ.0 in
    let here = first_not _ _ none in
    eqb_apart row.object row.subject here.0

record CondApart (row : Row) (cond : Cond) : Type 0 where
  subject : cond.lever ≢ row.subject
  object : cond.lever ≢ row.object

-- the lever of the first condition is neither
cond_apart : (row : Row) (cond : Cond) (conds : List Cond) → row.when ≡ cond ∷ conds
    → IsTrue (all_differ (levers_of row)) → CondApart row cond
cond_apart row cond conds when h =
    let all : IsTrue (all_differ (row.subject ∷ row.object ∷ cond.lever ∷ map (λ c. c.lever) conds)) =
    subst (λ (w : List Cond). IsTrue (all_differ (row.subject ∷ row.object ∷ map (λ c. c.lever) w))) when h in
    let first = both_of _ _ all in
    let second = both_of _ _ first.1 in
    let subject = first_not _ _ (first_not _ _ (not_of _ first.0)).1 in
    let object = first_not _ _ (not_of _ second.0) in
    record { subject = eqb_apart cond.lever row.subject subject.0; object = eqb_apart cond.lever row.object object.0 }

cond_is : (levers : ℕ) (row : Row) (cond : Cond) (conds : List Cond) → row.when ≡ cond ∷ conds → RowFits levers row
    → IsLever levers cond.lever
cond_is levers row cond conds when fits =
    All-head (CondFits levers) cond conds (subst (λ (w : List Cond). All (CondFits levers) w) when fits.when)

-- ---- rows that clash meet the test

five : (a b c d e : Bool) → a ≡ true → b ≡ true → c ≡ true → d ≡ true → e ≡ true → IsTrue (a && b && c && d && e)
five a b c d e p q r s t = rw (p, q, r, s, t) refl

-- two kinds that aren't opposed want some end in common
common : (k l : RowKind) → opposed k l ≡ false
    → (e : End) × (breaks k (stand_at e) ≡ false) × (breaks l (stand_at e) ≡ false)
common LocksNormal LocksNormal h = (ends.Normal, refl, refl)
common LocksNormal ReleasedBy h = cc
common LocksNormal LocksBoth h = (ends.Normal, refl, refl)
common ReleasedBy LocksNormal h = cc
common ReleasedBy ReleasedBy h = (ends.Reversed, refl, refl)
common ReleasedBy LocksBoth h = (ends.Reversed, refl, refl)
common LocksBoth LocksNormal h = (ends.Normal, refl, refl)
common LocksBoth ReleasedBy h = (ends.Reversed, refl, refl)
common LocksBoth LocksBoth h = (ends.Normal, refl, refl)

-- what the rows are and where they fit
record ArePair (levers : ℕ) (first second : Row) : Type 0 where
  spelled : IsRow first
  other_spelled : IsRow second
  fits : RowFits levers first
  other_fits : RowFits levers second
  subject : first.subject ≡ second.subject

other_apart : (levers : ℕ) (first second : Row) → ArePair levers first second → second.object ≢ first.subject
other_apart levers first second pair =
    subst (λ (s : ℕ). second.object ≢ s) (sym pair.subject) (object_apart second pair.other_spelled)

-- the object of the first row where it is wanted
first_held : (levers : ℕ) (first second : Row) → ArePair levers first second
    → LetsHold levers first.subject first first.object (wanted first.kind)
first_held levers first second pair =
    by_object levers first.subject first (wanted first.kind) pair.fits.object (object_apart first pair.spelled)
    (wanted_unbroken first.kind)

second_held : (levers : ℕ) (first second : Row) → ArePair levers first second
    → LetsHold levers first.subject second second.object (wanted second.kind)
second_held levers first second pair =
    by_object levers first.subject second (wanted second.kind) pair.other_fits.object
    (other_apart levers first second pair) (wanted_unbroken second.kind)

-- two objects: each is put where it is wanted
objects_differ : (levers : ℕ) (first second : Row) → ArePair levers first second → first.object ≢ second.object
    → ¬ Clash levers first second
objects_differ levers first second pair differ =
    no_clash levers first second first.object second.object (wanted first.kind) (wanted second.kind)
    (first_held levers first second pair) (second_held levers first second pair) differ

-- one object, and a condition of the first row: its lever is put off, and the object where the second row wants it
first_has_cond : (levers : ℕ) (first second : Row) (cond : Cond) (conds : List Cond) → ArePair levers first second
    → first.object ≡ second.object → first.when ≡ cond ∷ conds → ¬ Clash levers first second
first_has_cond levers first second cond conds pair same when =
    let apart = cond_apart first cond conds when pair.spelled.differ in
    no_clash levers first second cond.lever second.object (other_end cond.end) (wanted second.kind)
    (by_cond levers first.subject first cond conds when (cond_is levers first cond conds when pair.fits) apart.subject)
    (second_held levers first second pair)
    (subst (λ (o : ℕ). cond.lever ≢ o) same apart.object)

second_has_cond : (levers : ℕ) (first second : Row) (cond : Cond) (conds : List Cond) → ArePair levers first second
    → first.object ≡ second.object → second.when ≡ cond ∷ conds → ¬ Clash levers first second
second_has_cond levers first second cond conds pair same when =
    let apart = cond_apart second cond conds when pair.other_spelled.differ in
    no_clash levers first second first.object cond.lever (wanted first.kind) (other_end cond.end)
    (first_held levers first second pair)
    (by_cond levers first.subject second cond conds when (cond_is levers second cond conds when pair.other_fits)
    (subst (λ (s : ℕ). cond.lever ≢ s) (sym pair.subject) apart.subject))
    (λ e. apart.object (sym e ∙ same))

-- one object that the kinds want at one end
agreed : (levers : ℕ) (first second : Row) → ArePair levers first second → first.object ≡ second.object
    → opposed first.kind second.kind ≡ false → ¬ Clash levers first second
agreed levers first second pair same free =
    let end = common first.kind second.kind free in
    no_clash_one levers first second first.object end.0
    (by_object levers first.subject first end.0 pair.fits.object (object_apart first pair.spelled) end.1)
    (subst (λ (o : ℕ). LetsHold levers first.subject second o end.0) (sym same)
    (by_object levers first.subject second end.0 pair.other_fits.object (other_apart levers first second pair)
    end.2))

same_test : (a b : ℕ) → a ≡ b → eqb a b ≡ true
same_test a b e = grind (arith, nat_tests)

no_conds : (w : List Cond) → w ≡ [] → eqb (length w) 0 ≡ true
no_conds w e = rw e refl

-- by the conditions of both, and whether the kinds are opposed
by_parts : (levers : ℕ) (first second : Row) (w v : List Cond) (b : Bool) → ArePair levers first second
    → Clash levers first second → first.object ≡ second.object → first.when ≡ w → second.when ≡ v
    → opposed first.kind second.kind ≡ b → IsTrue (do_clash first second)
by_parts levers first second (cond ∷ conds) v b pair clash same when other kinds =
    absurd (first_has_cond levers first second cond conds pair same when clash)
by_parts levers first second [] (cond ∷ conds) b pair clash same when other kinds =
    absurd (second_has_cond levers first second cond conds pair same other clash)
by_parts levers first second [] [] false pair clash same when other kinds =
    absurd (agreed levers first second pair same kinds clash)
by_parts levers first second [] [] true pair clash same when other kinds =
    five _ _ _ _ _ (same_test first.subject second.subject pair.subject) (no_conds first.when when)
    (no_conds second.when other) (same_test first.object second.object same) kinds

clash_meets : (levers : ℕ) (first second : Row) → IsRow first → IsRow second → RowFits levers first
    → RowFits levers second → Clash levers first second → IsTrue (do_clash first second)
clash_meets levers first second spelled other fits too clash =
    let pair : ArePair levers first second =
    record { spelled = spelled; other_spelled = other; fits = fits; other_fits = too; subject = clash.subject } in
    elim (eqb_tells first.object second.object) [
      | inl same ↦
          by_parts levers first second first.when second.when (opposed first.kind second.kind) pair clash same.1 refl
          refl refl
      | inr differ ↦ absurd (objects_differ levers first second pair differ.1 clash)
    ]

-- ---- rows that meet the test clash

-- what the test says
pub record Meets (first second : Row) : Type 0 where
  pub subject : first.subject ≡ second.subject
  pub plain : first.when ≡ []
  pub other : second.when ≡ []
  pub object : first.object ≡ second.object
  pub kinds : opposed first.kind second.kind ≡ true

test_same : (a b : ℕ) → eqb a b ≡ true → a ≡ b
test_same a b h = grind (arith, nat_tests)

conds_none : (w : List Cond) → eqb (length w) 0 ≡ true → w ≡ []
conds_none [] h = refl
conds_none (c ∷ cs) h = let none : length (c ∷ cs) ≡ 0 = test_same (length (c ∷ cs)) 0 h in absurd (omega (arith, none))

pub meets : (first second : Row) → IsTrue (do_clash first second) → Meets first second
meets first second h =
    let e = both_of _ _ h in
    let d = both_of _ _ e.0 in
    let c = both_of _ _ d.0 in
    let b = both_of _ _ c.0 in
    record {
      subject = test_same _ _ b.0;
      plain = conds_none first.when b.1;
      other =
          conds_none second.when c.1;
      object = test_same _ _ d.1;
      kinds = e.1;
    }

-- a row without conditions, its subject at mid, holds only where its object doesn't break its kind
holds_plain : (places : LeverPlace) (row : Row) → row.when ≡ [] → places row.subject ≡ AtMid → RowHolds places row
    → breaks row.kind (places row.object) ≡ false
holds_plain places row when mid h =
    let alone : not (not (is_normal (places row.subject)) && true && breaks row.kind (places row.object)) ≡ true =
    subst (λ (w : List Cond). not
    (not (is_normal (places row.subject)) && list_all (acts places) w && breaks row.kind (places row.object))
    ≡ true) when h in
    let moved : not (breaks row.kind (places row.object)) ≡ true =
    subst (λ (s : Stand). not (not (is_normal s) && true && breaks row.kind (places row.object)) ≡ true) mid alone in
    not_of _ moved

-- wherever the object stands, one of two opposed kinds is broken
one_broken : (k l : RowKind) (s : Stand) → opposed k l ≡ true → breaks k s ≡ false → breaks l s ≡ false → ⊥
one_broken LocksNormal LocksNormal s h p q = cc
one_broken LocksNormal LocksBoth s h p q = cc
one_broken ReleasedBy ReleasedBy s h p q = cc
one_broken ReleasedBy LocksBoth s h p q = cc
one_broken LocksBoth LocksNormal s h p q = cc
one_broken LocksBoth ReleasedBy s h p q = cc
one_broken LocksBoth LocksBoth s h p q = cc
one_broken LocksNormal ReleasedBy AtNormal h p q = cc
one_broken LocksNormal ReleasedBy AtMid h p q = cc
one_broken LocksNormal ReleasedBy AtReversed h p q = cc
one_broken ReleasedBy LocksNormal AtNormal h p q = cc
one_broken ReleasedBy LocksNormal AtMid h p q = cc
one_broken ReleasedBy LocksNormal AtReversed h p q = cc

at_mid : (xs : List End) (subject lever : ℕ) → lever ≡ subject → stand_of xs subject AtMid lever ≡ AtMid
at_mid xs subject lever e = let test : eqb lever subject ≡ true = same_test lever subject e in rw test refl

-- two rows that are found to clash do
pub meets_clash : (levers : ℕ) (first second : Row) → IsTrue (do_clash first second) → Clash levers first second
meets_clash levers first second h =
    let m = meets first second h in
    record {
      subject = m.subject;
      never = λ xs size both.
          let places : LeverPlace = stand_of xs first.subject AtMid in
          one_broken first.kind second.kind (places first.object) m.kinds
          (holds_plain places first m.plain (at_mid xs first.subject first.subject refl) both.0)
          (subst (λ (o : ℕ). breaks second.kind (places o) ≡ false) (sym m.object)
          (holds_plain places second m.other (at_mid xs first.subject second.subject (sym m.subject)) both.1));
    }

-- two rows of a table are found to clash exactly where they do
pub clashes_exactly : (levers : ℕ) (first second : Row) → IsRow first → IsRow second → RowFits levers first
    → RowFits levers second → (IsTrue (do_clash first second) ↔ Clash levers first second)
clashes_exactly levers first second spelled other fits too =
    (meets_clash levers first second, clash_meets levers first second spelled other fits too)
