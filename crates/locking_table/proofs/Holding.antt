-- Nothing holds a lever exactly where it may move, and what holds it is the first row that fails.
use Rattle.std.proofs.Common.{◌≡◌, ℕ, ◌+◌, List, [], ◌∷◌, ◌++◌, length, Bool, true, false, ◌&&◌, if◌then◌else◌, ◌↔◌}
use Rattle.std.proofs.Common.{refl, sym, ap, arith}
use Rattle.std.specs.Prelude.{Option, Some, None, IsTrue}
use Rattle.std.proofs.lemmas.List.Elements.{All-nil, All-cons, All-head, All-tail}
use Rattle.locking_table.specs.declared.places.End.{End}
use Rattle.locking_table.specs.declared.places.Stand.TheVariants.{AtMid}
use Rattle.locking_table.specs.declared.row.Holder.{Holder}
use Rattle.locking_table.specs.declared.row.Row.{Row}
use Rattle.locking_table.specs.Places.{stand_of}
use Rattle.locking_table.specs.Meaning.{IsFirstToFail, MayMove, RowHolds, first_holder, holder_of, holding_lever}
use Rattle.locking_table.specs.Meaning.{moved_from, row_allows, row_holds}

both : (a b : Bool) → (a && b) ≡ true → IsTrue a × IsTrue b
both true b h = (refl, h)
both false b h = cc

one : (a b : Bool) → IsTrue a → IsTrue b → (a && b) ≡ true
one a b h k = rw (h, k) refl

not_both : (a b : Bool) → (a && b) ≡ false → ¬ (IsTrue a × IsTrue b)
not_both a b h p = let e = one a b p.0 p.1 in cc

-- a lever may move where there are no rows
pub may_move_none : (ends : List End) (lever : ℕ) → MayMove ends lever []
may_move_none ends lever =
    record { mid = All-nil (RowHolds (stand_of ends lever AtMid)); new = All-nil (RowHolds (moved_from ends lever)) }

-- a lever that may move under some rows may move under one more that lets it
pub may_move_more : (ends : List End) (lever : ℕ) (row : Row) (rows : List Row) → row_allows ends lever row ≡ true
    → MayMove ends lever rows → MayMove ends lever (row ∷ rows)
may_move_more ends lever row rows h may =
    let p = both (row_holds (stand_of ends lever AtMid) row) (row_holds (moved_from ends lever) row) h in
    record {
      mid = All-cons (RowHolds (stand_of ends lever AtMid)) row rows p.0 may.mid;
      new =
          All-cons (RowHolds (moved_from ends lever)) row rows p.1 may.new;
    }

none_step : (test : Bool) (from : ℕ) (holder : Holder) (rest : Option Holder)
    → (if test then rest else Some holder) ≡ None → (test ≡ true) × (rest ≡ None)
none_step true from holder rest h = (refl, h)
none_step false from holder rest h = cc

free_to : (ends : List End) (lever from : ℕ) (rows : List Row) → first_holder ends lever from rows ≡ None
    → MayMove ends lever rows
free_to ends lever from [] h = may_move_none ends lever
free_to ends lever from (row ∷ rows) h =
    let p = none_step (row_allows ends lever row) from (record { lever = holding_lever row lever; row = from })
    (first_holder ends lever (from + 1) rows) h in
    may_move_more ends lever row rows p.0 (free_to ends lever (from + 1) rows p.1)

free_from : (ends : List End) (lever from : ℕ) (rows : List Row) → MayMove ends lever rows
    → first_holder ends lever from rows ≡ None
free_from ends lever from [] may = refl
free_from ends lever from (row ∷ rows) may =
    let allows =
    one (row_holds (stand_of ends lever AtMid) row) (row_holds (moved_from ends lever) row)
    (All-head (RowHolds (stand_of ends lever AtMid)) row rows may.mid)
    (All-head (RowHolds (moved_from ends lever)) row rows may.new) in
    rw allows
    (free_from ends lever (from + 1) rows
    (record {
      mid = All-tail (RowHolds (stand_of ends lever AtMid)) row rows may.mid;
      new =
          All-tail (RowHolds (moved_from ends lever)) row rows may.new;
    }))

-- nothing holds a lever exactly where it may move
pub held_by_none : (ends : List End) (lever : ℕ) (rows : List Row)
    → (holder_of ends lever rows ≡ None) ↔ MayMove ends lever rows
held_by_none ends lever rows = (free_to ends lever 1 rows, free_from ends lever 1 rows)

-- the same as `IsFirstToFail`, the rows numbered on from a number
record FailsFrom (ends : List End) (lever from : ℕ) (rows : List Row) (holder : Holder) : Type 0 where
  front : List Row
  row : Row
  back : List Row
  split : rows ≡ front ++ row ∷ back
  number : holder.row ≡ from + length front
  free : MayMove ends lever front
  fails : ¬ (RowHolds (stand_of ends lever AtMid) row × RowHolds (moved_from ends lever) row)
  names : holder.lever ≡ holding_lever row lever

first_step : (ends : List End) (lever from : ℕ) (row : Row) (rows : List Row) (holder : Holder) (test : Bool)
    → row_allows ends lever row ≡ test
    → (first_holder ends lever (from + 1) rows ≡ Some holder → FailsFrom ends lever (from + 1) rows holder)
    → (if test then first_holder ends lever (from + 1) rows
    else Some (record { lever = holding_lever row lever; row = from })) ≡ Some holder
    → FailsFrom ends lever from (row ∷ rows) holder
first_step ends lever from row rows holder true is more h =
    let m = more h in
    let n = m.number in
    record {
      front = row ∷ m.front;
      row = m.row;
      back = m.back;
      split = ap (λ (l : List Row). row ∷ l) m.split;
      number = omega arith;
      free = may_move_more ends lever row m.front is m.free;
      fails = m.fails;
      names = m.names;
    }
first_step ends lever from row rows holder false is more h =
    let e : record { lever = holding_lever row lever; row = from } ≡ holder = cc in
    let number : from ≡ holder.row = ap (λ (x : Holder). x.row) e in
    record {
      front = [];
      row = row;
      back = rows;
      split = refl;
      number = omega arith;
      free = may_move_none ends lever;
      fails = not_both (row_holds (stand_of ends lever AtMid) row) (row_holds (moved_from ends lever) row) is;
      names = sym (ap (λ (x : Holder). x.lever) e);
    }

first_from : (ends : List End) (lever from : ℕ) (rows : List Row) (holder : Holder)
    → first_holder ends lever from rows ≡ Some holder → FailsFrom ends lever from rows holder
first_from ends lever from [] holder h = cc
first_from ends lever from (row ∷ rows) holder h =
    first_step ends lever from row rows holder (row_allows ends lever row) refl
    (first_from ends lever (from + 1) rows holder) h

-- what holds a lever is the first row that fails as it moves
pub held_by_first : (ends : List End) (lever : ℕ) (rows : List Row) (holder : Holder)
    → holder_of ends lever rows ≡ Some holder → IsFirstToFail ends lever rows holder
held_by_first ends lever rows holder h =
    let m = first_from ends lever 1 rows holder h in
    let n = m.number in
    record {
      front = m.front;
      row = m.row;
      back = m.back;
      split = m.split;
      number = omega arith;
      free = m.free;
      fails =
          m.fails;
      names = m.names;
    }

pub ruleset holder_rules = (held_by_none)
