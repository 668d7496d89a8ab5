-- A row's bridle is seated exactly where the row holds, so the first bridle that isn't seated with a lever at mid is of
-- the first row that holds it.
use Rattle.std.proofs.Common.{◌≡◌, ℕ, suc, length, replicate, ◌+◌, ◌-◌, List, [], ◌∷◌, Bool, true, false, not, ◌||◌}
use Rattle.std.proofs.Common.{◌&&◌, if◌then◌else◌, ◌↔◌, refl, sym, ap, ◌∙◌, subst, arith}
use Rattle.std.specs.Prelude.{All, IsTrue, Option, Some, None, map, option_map}
use Rattle.std.specs.List.{list_any, list_all}
use Rattle.std.proofs.lemmas.List.{get_or-replicate}
use Rattle.std.proofs.lemmas.List.Elements.{All-nil, All-cons, All-head, All-tail}
use Rattle.locking_table.specs.declared.places.End.{End}
use Rattle.locking_table.specs.declared.places.End.TheVariants.{Normal as NormalEnd, Reversed as ReversedEnd}
use Rattle.locking_table.specs.declared.places.Stand.{Stand}
use Rattle.locking_table.specs.declared.places.Stand.TheVariants.{AtNormal, AtMid, AtReversed}
use Rattle.locking_table.specs.declared.row.RowKind.{RowKind}
use Rattle.locking_table.specs.declared.row.RowKind.TheVariants.{LocksNormal, ReleasedBy, LocksBoth}
use Rattle.locking_table.specs.declared.row.Cond.{Cond}
use Rattle.locking_table.specs.declared.row.Row.{Row}
use Rattle.locking_table.specs.declared.row.Holder.{Holder}
use Rattle.locking_table.specs.Places.{IsLever, LeverPlace, at_ends, end_at, is_normal, other_end, stand_at, stand_of}
use Rattle.locking_table.specs.Meaning.{MayMove, acts, acts_at, breaks, holder_of, holding_lever, row_allows, row_holds}
use Rattle.locking_table.specs.Meaning.{moved_from}
use Rattle.locking_table.specs.Meaning as table
use Rattle.locking_table.specs.Sound.{CondFits, IsRow, RowFits, all_differ}
use Rattle.bridle_frame.specs.declared.bridle.Dog.{Dog}
use Rattle.bridle_frame.specs.declared.bridle.Bridle.{Bridle}
use Rattle.bridle_frame.specs.declared.bridle.Notches.TheVariants.{Normal}
use Rattle.bridle_frame.specs.declared.frame.Shift.TheVariants.{Shifted}
use Rattle.bridle_frame.specs.Seated.{BridleFits, DogFits, IsSeated, has_notch, lies_in, seated}
use Rattle.bridle_frame.specs.Shifts.{first_holder, first_unseated, reply_of, shift_of}
use Rattle.tappet_compiler.specs.Compiled.{bridle_of, compiled, cond_dog, cond_notches, object_notches}

cond_lies : (e : End) (s : Stand) → has_notch (cond_notches e) s ≡ not (acts_at e s)
cond_lies ReversedEnd AtNormal = refl
cond_lies ReversedEnd AtMid = refl
cond_lies ReversedEnd AtReversed = refl
cond_lies NormalEnd AtNormal = refl
cond_lies NormalEnd AtMid = refl
cond_lies NormalEnd AtReversed = refl

object_lies : (k : RowKind) (s : Stand) → has_notch (object_notches k) s ≡ not (breaks k s)
object_lies LocksNormal AtNormal = refl
object_lies LocksNormal AtMid = refl
object_lies LocksNormal AtReversed = refl
object_lies ReleasedBy AtNormal = refl
object_lies ReleasedBy AtMid = refl
object_lies ReleasedBy AtReversed = refl
object_lies LocksBoth AtNormal = refl
object_lies LocksBoth AtMid = refl
object_lies LocksBoth AtReversed = refl

not_and : (a b c d : Bool) → c ≡ not a → d ≡ not b → (c || d) ≡ not (a && b)
not_and true b c d is rest = rw is rest
not_and false b c d is rest = rw is refl

conds_lie : (places : LeverPlace) (conds : List Cond)
    → list_any (lies_in places) (map cond_dog conds) ≡ not (list_all (acts places) conds)
conds_lie places [] = refl
conds_lie places (c ∷ cs) =
    not_and (acts places c) (list_all (acts places) cs) (lies_in places (cond_dog c))
    (list_any (lies_in places) (map cond_dog cs)) (cond_lies c.end (places c.lever)) (conds_lie places cs)

unbroken : (normal all broken object conds : Bool) → object ≡ not broken → conds ≡ not all
    → (normal || (object || conds)) ≡ not (not normal && all && broken)
unbroken true all broken object conds o c = refl
unbroken false all broken object conds o c = rw (o, c) (of_morgan all broken)
  where
    of_morgan : (a b : Bool) → (not b || not a) ≡ not (true && a && b)
    of_morgan true true = refl
    of_morgan true false = refl
    of_morgan false true = refl
    of_morgan false false = refl

-- a row's bridle is seated exactly where the row holds
pub seated_bridle : (places : LeverPlace) (row : Row) (number : ℕ)
    → seated places (bridle_of row number) ≡ row_holds places row
seated_bridle places row number =
    unbroken (is_normal (places row.subject)) (list_all (acts places) row.when) (breaks row.kind (places row.object))
    (has_notch (object_notches row.kind) (places row.object)) (list_any (lies_in places) (map cond_dog row.when))
    (object_lies row.kind (places row.object)) (conds_lie places row.when)

-- the bridles of a table are seated exactly where their rows hold
pub seated_rows : (places : LeverPlace) (from : ℕ) (rows : List Row)
    → map (seated places) (compiled from rows) ≡ map (row_holds places) rows
seated_rows places from [] = refl
seated_rows places from (row ∷ rows) =
    ap (λ (b : Bool). b ∷ map (seated places) (compiled (from + 1) rows)) (seated_bridle places row from)
    ∙ ap (λ (bs : List Bool). row_holds places row ∷ bs) (seated_rows places (from + 1) rows)

-- ---- the test at mid is enough

-- what frames promise: seated with the lever at mid, seated with it at either end
abbrev MidIsEnough : Type 0
MidIsEnough =
    (ends : List End) (lever : ℕ) (e : End) (bridles : List Bridle) → All (IsSeated (stand_of ends lever AtMid)) bridles
    → All (IsSeated (stand_of ends lever (stand_at e))) bridles

row_moved : MidIsEnough → (ends : List End) (lever : ℕ) (row : Row) → IsTrue (row_holds (stand_of ends lever AtMid) row)
    → IsTrue (row_holds (moved_from ends lever) row)
row_moved enough ends lever row h =
    let b : Bridle = bridle_of row 1 in
    let mid : IsSeated (stand_of ends lever AtMid) b =
    subst (λ (t : Bool). IsTrue t) (sym (seated_bridle (stand_of ends lever AtMid) row 1)) h in
    let all =
    enough ends lever (other_end (end_at ends lever)) (b ∷ [])
    (All-cons (IsSeated (stand_of ends lever AtMid)) b [] mid (All-nil (IsSeated (stand_of ends lever AtMid)))) in
    subst (λ (t : Bool). IsTrue t) (seated_bridle (moved_from ends lever) row 1)
    (All-head (IsSeated (moved_from ends lever)) b [] all)

allowed : (a b : Bool) → (IsTrue a → IsTrue b) → (a && b) ≡ a
allowed true b h = h refl
allowed false b h = refl

-- where it is enough that bridles are seated with a lever at mid, a row lets the lever move exactly where it holds
-- with the lever at mid
pub allows_mid : MidIsEnough → (ends : List End) (lever : ℕ) (row : Row)
    → row_allows ends lever row ≡ row_holds (stand_of ends lever AtMid) row
allows_mid enough ends lever row =
    allowed (row_holds (stand_of ends lever AtMid) row) (row_holds (moved_from ends lever) row)
    (row_moved enough ends lever row)

-- ---- the holder by the bridles is the holder by the rows

same_test : MidIsEnough → (ends : List End) (lever from : ℕ) (row : Row)
    → seated (stand_of ends lever AtMid) (bridle_of row from) ≡ row_allows ends lever row
same_test enough ends lever from row =
    seated_bridle (stand_of ends lever AtMid) row from ∙ sym (allows_mid enough ends lever row)

-- by the bridles of a table, the same holds a lever as by its rows
pub holder_compiled : MidIsEnough → (ends : List End) (lever from : ℕ) (rows : List Row)
    → first_holder (stand_of ends lever AtMid) lever (compiled from rows) ≡ table.first_holder ends lever from rows
holder_compiled enough ends lever from [] = refl
holder_compiled enough ends lever from (row ∷ rows) =
    ap (λ (b : Bool). if b then first_holder (stand_of ends lever AtMid) lever (compiled (from + 1) rows)
    else Some (record { lever = holding_lever row lever; row = from })) (same_test enough ends lever from row)
    ∙ ap (λ (o : Option Holder). if row_allows ends lever row then o
    else Some (record { lever = holding_lever row lever; row = from }))
    (holder_compiled enough ends lever (from + 1) rows)

row_of_step : (test : Bool) (rest : Option Holder) (lever from : ℕ)
    → (if test then option_map (λ h. h.row) rest else Some from)
    ≡ option_map (λ h. h.row) (if test then rest else Some (record { lever = lever; row = from }))
row_of_step true rest lever from = refl
row_of_step false rest lever from = refl

unseated_compiled : MidIsEnough → (ends : List End) (lever from : ℕ) (rows : List Row)
    → first_unseated (stand_of ends lever AtMid) from (compiled from rows)
    ≡ option_map (λ h. h.row) (table.first_holder ends lever from rows)
unseated_compiled enough ends lever from [] = refl
unseated_compiled enough ends lever from (row ∷ rows) =
    ap (λ (b : Bool). if b then first_unseated (stand_of ends lever AtMid) (from + 1) (compiled (from + 1) rows)
    else Some from) (same_test enough ends lever from row)
    ∙ (ap (λ (o : Option ℕ). if row_allows ends lever row then o else Some from)
    (unseated_compiled enough ends lever (from + 1) rows)
    ∙ row_of_step (row_allows ends lever row) (table.first_holder ends lever (from + 1) rows) (holding_lever row lever)
    from)

-- a lever is held by the bridle of the row that holds it, and shifted where no row does
pub shift_compiled : MidIsEnough → (ends : List End) (lever : ℕ) (rows : List Row)
    → shift_of ends lever (compiled 1 rows) ≡ reply_of (option_map (λ h. h.row) (holder_of ends lever rows))
shift_compiled enough ends lever rows = ap reply_of (unseated_compiled enough ends lever 1 rows)

none_held : (o : Option Holder) → reply_of (option_map (λ h. h.row) o) ≡ Shifted → o ≡ None
none_held None h = refl
none_held (Some holder) h = cc

abbrev HolderIsNone : Type 0
HolderIsNone =
    (ends : List End) (lever : ℕ) (rows : List Row) → (holder_of ends lever rows ≡ None) ↔ MayMove ends lever rows

-- by the bridles of a table, a lever is shifted exactly where it may move by its rows
pub moves_compiled : MidIsEnough → HolderIsNone → (ends : List End) (lever : ℕ) (rows : List Row)
    → (shift_of ends lever (compiled 1 rows) ≡ Shifted) ↔ MayMove ends lever rows
moves_compiled enough free ends lever rows =
    let is = shift_compiled enough ends lever rows in (
      λ h. (free ends lever rows).0 (none_held (holder_of ends lever rows) (sym is ∙ h)),
      λ may. is
          ∙ ap (λ (o : Option Holder). reply_of (option_map (λ h. h.row) o)) ((free ends lever rows).1 may),
    )

-- ---- a frame can be made of the bridles

-- a table has a bridle for each row
pub length-compiled : (from : ℕ) (rows : List Row) → length (compiled from rows) ≡ length rows
length-compiled from [] = refl
length-compiled from (row ∷ rows) = ap (λ (n : ℕ). suc n) (length-compiled (from + 1) rows)

conds_fit : (levers : ℕ) (conds : List Cond) → All (CondFits levers) conds → All (DogFits levers) (map cond_dog conds)
conds_fit levers [] all = All-nil (DogFits levers)
conds_fit levers (c ∷ cs) all =
    All-cons (DogFits levers) (cond_dog c) (map cond_dog cs) (All-head (CondFits levers) c cs all)
    (conds_fit levers cs (All-tail (CondFits levers) c cs all))

cond_levers : (conds : List Cond) → map (λ (d : Dog). d.lever) (map cond_dog conds) ≡ map (λ (c : Cond). c.lever) conds
cond_levers [] = refl
cond_levers (c ∷ cs) = ap (λ (ns : List ℕ). c.lever ∷ ns) (cond_levers cs)

cond_count : (conds : List Cond) → length (map cond_dog conds) ≡ length conds
cond_count [] = refl
cond_count (c ∷ cs) = ap (λ (n : ℕ). suc n) (cond_count cs)

bridle_fits : (levers number : ℕ) (row : Row) → IsRow row → RowFits levers row
    → BridleFits levers (bridle_of row number)
bridle_fits levers number row spelled fits =
    let count = cond_count row.when in
    let few = spelled.few in
    record {
      dogs = All-cons (DogFits levers) (record { lever = row.subject; notches = Normal })
          (record { lever = row.object; notches = object_notches row.kind } ∷ map cond_dog row.when) fits.subject
          (All-cons (DogFits levers) (record { lever = row.object; notches = object_notches row.kind })
          (map cond_dog row.when) fits.object (conds_fit levers row.when fits.when));
      two = omega arith;
      four = omega arith;
      differ = subst (λ (ns : List ℕ). IsTrue (all_differ (row.subject ∷ row.object ∷ ns))) (sym (cond_levers row.when))
          spelled.differ;
    }

-- the bridles of rows that fit a frame fit it
pub compiled_fits : (levers from : ℕ) (rows : List Row) → All IsRow rows → All (RowFits levers) rows
    → All (BridleFits levers) (compiled from rows)
compiled_fits levers from [] spelled fits = All-nil (BridleFits levers)
compiled_fits levers from (row ∷ rows) spelled fits =
    All-cons (BridleFits levers) (bridle_of row from) (compiled (from + 1) rows)
    (bridle_fits levers from row (All-head IsRow row rows spelled) (All-head (RowFits levers) row rows fits))
    (compiled_fits levers (from + 1) rows (All-tail IsRow row rows spelled) (All-tail (RowFits levers) row rows fits))

or_left : (a b : Bool) → a ≡ true → (a || b) ≡ true
or_left a b h = rw h refl

all_normal : (levers lever : ℕ) → IsLever levers lever → end_at (replicate levers NormalEnd) lever ≡ NormalEnd
all_normal levers lever is = get_or-replicate levers (lever - 1) NormalEnd NormalEnd (omega arith)

bridle_seated : (levers number : ℕ) (row : Row) → RowFits levers row
    → IsSeated (at_ends (replicate levers NormalEnd)) (bridle_of row number)
bridle_seated levers number row fits =
    or_left (is_normal (at_ends (replicate levers NormalEnd) row.subject))
    (list_any (lies_in (at_ends (replicate levers NormalEnd)))
    (record { lever = row.object; notches = object_notches row.kind } ∷ map cond_dog row.when))
    (ap (λ (e : End). is_normal (stand_at e)) (all_normal levers row.subject fits.subject))

-- the bridles of rows that fit a frame are seated where all its levers stand at normal
pub compiled_seated : (levers from : ℕ) (rows : List Row) → All (RowFits levers) rows
    → All (IsSeated (at_ends (replicate levers NormalEnd))) (compiled from rows)
compiled_seated levers from [] fits = All-nil (IsSeated (at_ends (replicate levers NormalEnd)))
compiled_seated levers from (row ∷ rows) fits =
    All-cons (IsSeated (at_ends (replicate levers NormalEnd))) (bridle_of row from) (compiled (from + 1) rows)
    (bridle_seated levers from row (All-head (RowFits levers) row rows fits))
    (compiled_seated levers (from + 1) rows (All-tail (RowFits levers) row rows fits))
