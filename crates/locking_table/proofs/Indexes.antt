-- A row that doesn't bear on a lever lets it move where the row holds, so the rows that may hold it are enough to look
-- at; and the index is built right.
use Rattle.std.proofs.Common.{◌≡◌, ◌≢◌, ℕ, ◌+◌, ◌-◌, ◌<◌, ◌≤◌, ◌^◌, List, [], ◌∷◌, ◌++◌, length, drop, take, Bool, true}
use Rattle.std.proofs.Common.{false, not, ◌&&◌, ◌||◌, ◌==◌, if◌then◌else◌, inl, inr, refl, sym, ap, ◌∙◌, subst}
use Rattle.std.proofs.Common.{append-nil, arith, length-append, take_all}
use Rattle.std.specs.Prelude.{Option, Some, All, IsTrue, map, slice_index_or, slice_set}
use Rattle.std.specs.List.{list_all, list_any}
use Rattle.std.proofs.lemmas.Bool.Decides.{eqb_tells}
use Rattle.std.proofs.lemmas.List.{drop_more, get_or-set_other, get_or-set_same, length-drop, take-append-le}
use Rattle.std.proofs.Math.Seq.{get_or-append_seam}
use Rattle.std.proofs.lemmas.List.Elements.{All-append, All-nil, All-cons, All-head, All-tail}
use Rattle.locking_table.specs.declared.places.End.{End}
use Rattle.locking_table.specs.declared.places.Stand.{Stand}
use Rattle.locking_table.specs.declared.places.Stand.TheVariants.{AtMid}
use Rattle.locking_table.specs.declared.row.Cond.{Cond}
use Rattle.locking_table.specs.declared.row.Holder.{Holder}
use Rattle.locking_table.specs.declared.row.Row.{Row}
use Rattle.locking_table.specs.declared.places.End.TheVariants.{Normal, Reversed}
use Rattle.locking_table.specs.declared.row.RowKind.{RowKind}
use Rattle.locking_table.specs.declared.row.RowKind.TheVariants.{LocksNormal, ReleasedBy, LocksBoth}
use Rattle.locking_table.specs.Places.{IsLever, at_ends, end_at, is_mid, is_normal, other_end, stand_at, stand_of}
use Rattle.locking_table.specs.Meaning.{MayMove, RowHolds, acts, first_holder, holder_of, holding_lever, row_allows}
use Rattle.locking_table.specs.Meaning.{breaks, row_holds}
use Rattle.locking_table.specs.Sound.{CondFits, IsRow, RowFits, all_differ}
use Rattle.locking_table.proofs.Holding.{may_move_more, may_move_none}
use Rattle.locking_table.specs.Index.{AreAlike, AreFiled, IsIndex, IsTable, bearing, bears, first_of, levers_held}
use Rattle.locking_table.specs.Index.{levers_under, names, no_row, once}
use Rattle.locking_table.proofs.MidLemmas.{mid_is_enough}

-- ---- a row that doesn't name the lever

neither : (a b : Bool) → (a || b) ≡ false → (a ≡ false) × (b ≡ false)
neither true b h = cc
neither false b h = (refl, h)

conds_away : (ends : List End) (lever : ℕ) (place : Stand) (conds : List Cond)
    → list_any (λ n. n == lever) (map (λ cond. cond.lever) conds) ≡ false
    → list_all (acts (stand_of ends lever place)) conds ≡ list_all (acts (at_ends ends)) conds
conds_away ends lever place [] h = refl
conds_away ends lever place (c ∷ cs) h =
    let p = neither (c.lever == lever) (list_any (λ n. n == lever) (map (λ cond. cond.lever) cs)) h in
    let one = p.0 in
    let more = conds_away ends lever place cs p.1 in
    rw (one, more) refl

-- it means the same wherever the lever stands
pub row_away : (ends : List End) (lever : ℕ) (place : Stand) (row : Row) → names lever row ≡ false
    → row_holds (stand_of ends lever place) row ≡ row_holds (at_ends ends) row
row_away ends lever place row h =
    let p = neither (row.subject == lever)
    ((row.object == lever) || list_any (λ n. n == lever) (map (λ cond. cond.lever) row.when)) h in
    let q = neither (row.object == lever) (list_any (λ n. n == lever) (map (λ cond. cond.lever) row.when)) p.1 in
    let subject = p.0 in
    let object = q.0 in
    let conds = conds_away ends lever place row.when q.1 in
    rw (subject, object, conds) refl

-- where it holds, it lets the lever move
pub away_allows : (ends : List End) (lever : ℕ) (row : Row) → names lever row ≡ false → RowHolds (at_ends ends) row
    → row_allows ends lever row ≡ true
away_allows ends lever row h holds =
    let mid = row_away ends lever AtMid row h ∙ holds in
    let new = row_away ends lever (stand_at (other_end (end_at ends lever))) row h ∙ holds in
    rw (mid, new) refl

-- rows that hold and don't name the lever let it move
pub others_allow : (ends : List End) (lever : ℕ) (rows : List Row) → All (λ row. names lever row ≡ false) rows
    → All (RowHolds (at_ends ends)) rows → MayMove ends lever rows
others_allow ends lever [] away all = may_move_none ends lever
others_allow ends lever (row ∷ rows) away all =
    may_move_more ends lever row rows
    (away_allows ends lever row (All-head (λ (r : Row). names lever r ≡ false) row rows away)
    (All-head (RowHolds (at_ends ends)) row rows all))
    (others_allow ends lever rows (All-tail (λ (r : Row). names lever r ≡ false) row rows away)
    (All-tail (RowHolds (at_ends ends)) row rows all))

holder_step : (named : Bool) (allows : Bool) → (named ≡ false → allows ≡ true) → allows ≡ false → named ≡ true
holder_step true allows away h = refl
holder_step false allows away h = let e = away refl in cc

-- a row that holds and doesn't let the lever move names it
pub holder_named : (ends : List End) (lever : ℕ) (row : Row) → RowHolds (at_ends ends) row
    → row_allows ends lever row ≡ false → names lever row ≡ true
holder_named ends lever row holds h =
    holder_step (names lever row) (row_allows ends lever row) (λ away. away_allows ends lever row away holds) h

-- no lever is numbered 0
not_zero : (levers n : ℕ) (rest : Bool) → IsLever levers n → rest ≡ false → ((n == 0) || rest) ≡ false
not_zero levers n rest is h =
    elim (eqb_tells n 0) [
      | inl here ↦ let zero = here.1 in let one = is.0 in absurd (omega (arith, zero, one))
      | inr away ↦ let test = away.0 in rw (test, h) refl
    ]

conds_not_zero : (levers : ℕ) (conds : List Cond) → All (CondFits levers) conds
    → list_any (λ n. n == 0) (map (λ cond. cond.lever) conds) ≡ false
conds_not_zero levers [] fits = refl
conds_not_zero levers (c ∷ cs) fits =
    not_zero levers c.lever (list_any (λ n. n == 0) (map (λ cond. cond.lever) cs))
    (All-head (CondFits levers) c cs fits) (conds_not_zero levers cs (All-tail (CondFits levers) c cs fits))

-- with no lever moved all stand at their ends
pub none_moved : (ends : List End) (place : Stand) (row : Row) → RowFits (length ends) row
    → row_holds (stand_of ends 0 place) row ≡ row_holds (at_ends ends) row
none_moved ends place row fits =
    row_away ends 0 place row
    (not_zero (length ends) row.subject
    ((row.object == 0) || list_any (λ n. n == 0) (map (λ cond. cond.lever) row.when)) fits.subject
    (not_zero (length ends) row.object (list_any (λ n. n == 0) (map (λ cond. cond.lever) row.when)) fits.object
    (conds_not_zero (length ends) row.when fits.when)))

pub ruleset end_rules = (none_moved)

-- ---- the rows that may hold a lever are enough to look at

or_none : (a : Bool) → (a || false) ≡ a
or_none true = refl
or_none false = refl

end_is_no_mid : (end : End) → is_mid (stand_at end) ≡ false
end_is_no_mid Normal = refl
end_is_no_mid Reversed = refl

no_break : (s c b : Bool) → b ≡ false → not (s && c && b) ≡ true
no_break true true b h = rw h refl
no_break true false b h = refl
no_break false c b h = refl

-- a row that locks both ways lets every lever move but its object
both_keep : (ends : List End) (lever : ℕ) (row : Row) → row.kind ≡ LocksBoth → (row.object == lever) ≡ false
    → row_allows ends lever row ≡ true
both_keep ends lever row kind away =
    let still : breaks row.kind (stand_of ends lever AtMid row.object) ≡ false =
    rw (kind, away) (end_is_no_mid (end_at ends row.object)) in
    sym (mid_is_enough ends lever row)
    ∙ no_break (not (is_normal (stand_of ends lever AtMid row.subject)))
    (list_all (acts (stand_of ends lever AtMid)) row.when) (breaks row.kind (stand_of ends lever AtMid row.object))
    still

-- the same, of numbers that aren't equal
pub both_let : (ends : List End) (lever : ℕ) (row : Row) → row.kind ≡ LocksBoth → row.object ≢ lever
    → row_allows ends lever row ≡ true
both_let ends lever row kind apart = elim (eqb_tells row.object lever) [
  | inl here ↦ absurd (apart here.1)
  | inr away ↦ both_keep ends lever row kind away.0
]

-- a row that holds and doesn't bear on the lever lets it move
away_keeps : (kind : RowKind) (ends : List End) (lever : ℕ) (row : Row) → row.kind ≡ kind
    → list_any (λ n. n == lever) (levers_under kind row) ≡ false → RowHolds (at_ends ends) row
    → row_allows ends lever row ≡ true
away_keeps LocksNormal ends lever row is away holds = away_allows ends lever row away holds
away_keeps ReleasedBy ends lever row is away holds = away_allows ends lever row away holds
away_keeps LocksBoth ends lever row is away holds =
    both_keep ends lever row is (sym (or_none (row.object == lever)) ∙ away)

look : (ends : List End) (lever : ℕ) (rows : List Row) (from : ℕ) (row : Row) (named ok : Bool) (ns : List ℕ)
    (rest : Option Holder) → slice_index_or rows from no_row ≡ row → row_allows ends lever row ≡ ok
    → (named ≡ false → ok ≡ true)
    → first_of ends lever rows ns ≡ rest
    → first_of ends lever rows (if named then from ∷ ns else ns)
    ≡ (if ok then rest else Some (record { lever = holding_lever row lever; row = from + 1 }))
look ends lever rows from row true true ns rest at is away same = rw (at, is) same
look ends lever rows from row true false ns rest at is away same = rw (at, is) refl
look ends lever rows from row false true ns rest at is away same = same
look ends lever rows from row false false ns rest at is away same = let e = away refl in cc

at_drop : (rows : List Row) (from : ℕ) (r : Row) (rs : List Row) → drop from rows ≡ r ∷ rs
    → (slice_index_or rows from no_row ≡ r) × (drop (from + 1) rows ≡ rs)
at_drop rows from r rs h =
    let l = ap length h in
    let d : length (drop from rows) ≡ length rows - from = length-drop from rows in
    let less : from < length rows = omega arith in
    let m = drop_more rows from no_row less in (cc, cc)

look_from : (ends : List End) (lever : ℕ) (rows : List Row) (from : ℕ) (rs : List Row) → drop from rows ≡ rs
    → All (RowHolds (at_ends ends)) rs
    → first_of ends lever rows (bearing from lever rs) ≡ first_holder ends lever (from + 1) rs
look_from ends lever rows from [] is all = refl
look_from ends lever rows from (r ∷ rs) is all =
    let at = at_drop rows from r rs is in
    look ends lever rows from r (bears lever r) (row_allows ends lever r) (bearing (from + 1) lever rs)
    (first_holder ends lever (from + 1 + 1) rs) at.0 refl
    (λ h. away_keeps r.kind ends lever r refl h (All-head (RowHolds (at_ends ends)) r rs all))
    (look_from ends lever rows (from + 1) rs at.1 (All-tail (RowHolds (at_ends ends)) r rs all))

pub first_of-bearing : (ends : List End) (lever : ℕ) (rows : List Row) → All (RowHolds (at_ends ends)) rows
    → first_of ends lever rows (bearing 0 lever rows) ≡ holder_of ends lever rows
first_of-bearing ends lever rows all = look_from ends lever rows 0 rows refl all

-- the numbers are of rows
abbrev IsBelow : ℕ → ℕ → Type 0
IsBelow limit n = n < limit

within_one : (from limit : ℕ) (named : Bool) (ns : List ℕ) → from < limit → All (IsBelow limit) ns
    → All (IsBelow limit) (if named then from ∷ ns else ns)
within_one from limit true ns h all = All-cons (IsBelow limit) from ns h all
within_one from limit false ns h all = all

bearing_within : (from limit lever : ℕ) (rs : List Row) → from + length rs ≤ limit
    → All (IsBelow limit) (bearing from lever rs)
bearing_within from limit lever [] h = All-nil (IsBelow limit)
bearing_within from limit lever (r ∷ rs) h =
    within_one from limit (bears lever r) (bearing (from + 1) lever rs) (omega arith)
    (bearing_within (from + 1) limit lever rs (omega arith))

pub within : (lever : ℕ) (rows : List Row) → All (λ n. n < length rows) (bearing 0 lever rows)
within lever rows = bearing_within 0 (length rows) lever rows (omega arith)

-- the index of a table, of which what is read for a lever is enough
pub uses_within : (rows rs : List Row) (uses us : List (List ℕ)) (lever : ℕ) (numbers : List ℕ) → IsIndex rows uses
    → rs ≡ rows → us ≡ uses → numbers ≡ slice_index_or us lever [] → All (λ n. n < length rs) numbers
uses_within rows rs uses us lever numbers index same alike read =
    let named : numbers ≡ bearing 0 lever rows = read
    ∙ (ap (λ (l : List (List ℕ)). slice_index_or l lever []) alike ∙ index lever) in
    rw (named, same) (within lever rows)

-- where all rows hold, the rows that the index gives for a lever tell what of the whole table holds it
pub uses_tell : (ends : List End) (rows rs : List Row) (uses us : List (List ℕ)) (lever : ℕ) (numbers : List ℕ)
    → IsIndex rows uses → rs ≡ rows → us ≡ uses → numbers ≡ slice_index_or us lever []
    → All (RowHolds (at_ends ends)) rows
    → first_of ends lever rs numbers ≡ holder_of ends lever rows
uses_tell ends rows rs uses us lever numbers index same alike read all =
    let named : numbers ≡ bearing 0 lever rows = read
    ∙ (ap (λ (l : List (List ℕ)). slice_index_or l lever []) alike ∙ index lever) in
    rw (named, same) (first_of-bearing ends lever rows all)

-- ---- how the index is built

front_step : (t : Bool) (from : ℕ) (a b tail : List ℕ) → a ≡ b ++ tail
    → (if t then from ∷ a else a) ≡ (if t then from ∷ b else b) ++ tail
front_step true from a b tail h = ap (λ (l : List ℕ). from ∷ l) h
front_step false from a b tail h = h

last_one : (t : Bool) (from at : ℕ) → from ≡ at → (if t then from ∷ [] else []) ≡ [] ++ once t at
last_one true from at h = rw h refl
last_one false from at h = refl

bearing_more : (from at lever : ℕ) (rows : List Row) (row : Row) → from + length rows ≡ at
    → bearing from lever (rows ++ row ∷ []) ≡ bearing from lever rows ++ once (bears lever row) at
bearing_more from at lever [] row h = last_one (bears lever row) from at (omega arith)
bearing_more from at lever (r ∷ rs) row h =
    front_step (bears lever r) from (bearing (from + 1) lever (rs ++ row ∷ [])) (bearing (from + 1) lever rs)
    (once (bears lever row) at) (bearing_more (from + 1) at lever rs row (omega arith))

-- a table with a row more
pub index_more : (rows : List Row) (row : Row) (uses new : List (List ℕ)) (number : ℕ) → IsIndex rows uses
    → number ≡ length rows → AreFiled uses (levers_held row) number new → IsIndex (rows ++ row ∷ []) new
index_more rows row uses new number index is filed lever =
    filed lever
    ∙ (ap (λ (l : List ℕ). l ++ once (bears lever row) number) (index lever)
    ∙ sym (bearing_more 0 number lever rows row (omega arith)))

-- a table whose index changed places alone
pub index_alike : (rows : List Row) (uses new : List (List ℕ)) → IsIndex rows uses → AreAlike uses new
    → IsIndex rows new
index_alike rows uses new index same lever = same lever ∙ index lever

-- the first of a row's levers is filed, and the others after it
file_at : (wide after : List (List ℕ)) (lever at number : ℕ) (any : Bool) (new : List ℕ) → lever < length wide
    → ((lever == at) ≡ true → any ≡ false) → after ≡ slice_set wide lever (slice_index_or wide lever [] ++ number ∷ [])
    → new ≡ slice_index_or after at [] ++ once any number
    → new ≡ slice_index_or wide at [] ++ once ((lever == at) || any) number
file_at wide after lever at number any new less apart is h = elim (eqb_tells lever at) [
  | inl here ↦
      let test = here.0 in
      let none : any ≡ false = apart test in
      let same : slice_index_or after at [] ≡ slice_index_or wide at [] ++ number ∷ [] =
      ap (λ (l : List (List ℕ)). slice_index_or l at []) is
      ∙ subst (λ (n : ℕ). slice_index_or (slice_set wide lever (slice_index_or wide lever [] ++ number ∷ [])) n []
      ≡ slice_index_or wide n [] ++ number ∷ []) here.1
      (get_or-set_same wide lever (slice_index_or wide lever [] ++ number ∷ []) [] less) in
      h ∙ (rw (test, none, same) (append-nil (slice_index_or wide at [] ++ number ∷ [])))
  | inr away ↦
      let test = away.0 in
      let same : slice_index_or after at [] ≡ slice_index_or wide at [] =
      ap (λ (l : List (List ℕ)). slice_index_or l at []) is
      ∙ get_or-set_other wide lever at (slice_index_or wide lever [] ++ number ∷ []) [] (λ e. away.1 (sym e)) in
      h ∙ (rw (test, same) refl)
]

first_part : (a b : Bool) → IsTrue (not a && b) → a ≡ false
first_part true b h = cc
first_part false b h = refl

apart_from : (lever at : ℕ) (levers : List ℕ) → IsTrue (all_differ (lever ∷ levers)) → (lever == at) ≡ true
    → list_any (λ n. n == at) levers ≡ false
apart_from lever at levers differ test = elim (eqb_tells lever at) [
  | inl here ↦
      subst (λ (k : ℕ). list_any (λ n. n == k) levers ≡ false) here.1
      (first_part (list_any (λ n. n == lever) levers) (all_differ levers) differ)
  | inr away ↦ absurd (let e : true ≡ false = sym test ∙ away.0 in cc)
]

pub files : (old wide after new : List (List ℕ)) (lever number : ℕ) (levers : List ℕ)
    → IsTrue (all_differ (lever ∷ levers)) → AreAlike old wide → lever < length wide
    → after ≡ slice_set wide lever (slice_index_or wide lever [] ++ number ∷ []) → AreFiled after levers number new
    → AreFiled old (lever ∷ levers) number new
files old wide after new lever number levers differ same less is filed at =
    file_at wide after lever at number (list_any (λ n. n == at) levers) (slice_index_or new at []) less
    (apart_from lever at levers differ) is (filed at)
    ∙ ap (λ (l : List ℕ). l ++ once ((lever == at) || list_any (λ n. n == at) levers) number) (same at)

take_front : (xs : List ℕ) (n : ℕ) → take (length (xs ++ n ∷ []) - 1) (xs ++ n ∷ []) ≡ xs
take_front xs n =
    let l : length (xs ++ n ∷ []) - 1 ≡ length xs = let e = length-append xs (n ∷ []) in omega arith in
    rw l (take-append-le (length xs) xs (n ∷ []) (omega arith) ∙ take_all (length xs) xs (omega arith))

-- the number that was filed is taken back
pub takes_back : (old wide after left new : List (List ℕ)) (lever number : ℕ) → AreAlike old wide → lever < length wide
    → after ≡ slice_set wide lever (slice_index_or wide lever [] ++ number ∷ []) → AreAlike after left
    → lever < length left
    → new ≡ slice_set left lever (take (length (slice_index_or left lever []) - 1) (slice_index_or left lever []))
    → AreAlike old new
takes_back old wide after left new lever number same less is alike lesser back at = elim (eqb_tells lever at) [
  | inl here ↦
      let was : slice_index_or left lever [] ≡ slice_index_or wide lever [] ++ number ∷ [] =
      alike lever
      ∙ (ap (λ (l : List (List ℕ)). slice_index_or l lever []) is
      ∙ get_or-set_same wide lever (slice_index_or wide lever [] ++ number ∷ []) [] less) in
      let now : slice_index_or new lever [] ≡ slice_index_or wide lever [] =
      ap (λ (l : List (List ℕ)). slice_index_or l lever []) back
      ∙ (get_or-set_same left lever (take (length (slice_index_or left lever []) - 1) (slice_index_or left lever [])) []
      lesser
      ∙ (ap (λ (l : List ℕ). take (length l - 1) l) was ∙ take_front (slice_index_or wide lever []) number)) in
      subst (λ (n : ℕ). slice_index_or new n [] ≡ slice_index_or old n []) here.1 (now ∙ same lever)
  | inr away ↦
      ap (λ (l : List (List ℕ)). slice_index_or l at []) back
      ∙ (get_or-set_other left lever
      at (take (length (slice_index_or left lever []) - 1) (slice_index_or left lever [])) [] (λ e. away.1 (sym e))
      ∙ (alike at ∙ (ap (λ (l : List (List ℕ)). slice_index_or l at []) is
      ∙ (get_or-set_other wide lever at (slice_index_or wide lever [] ++ number ∷ []) [] (λ e. away.1 (sym e))
      ∙ same at))))
]

-- ---- what the type of a table keeps

-- with a row more
pub table_more : (rows after : List Row) (row read : Row) (uses new : List (List ℕ)) (number : ℕ) → IsTable rows uses
    → IsRow row → length rows < 2 ^ 32 - 1 → after ≡ rows ++ row ∷ [] → number ≡ length rows
    → read ≡ slice_index_or after number read → AreFiled uses (levers_held read) number new → IsTable after new
table_more rows after row read uses new number table is few grown at found filed =
    let same : read ≡ row = found
    ∙ (ap (λ (l : List Row). slice_index_or l number read) grown
    ∙ (ap (λ (n : ℕ). slice_index_or (rows ++ row ∷ []) n read) at ∙ get_or-append_seam rows row [] read)) in
    let long : length after ≡ length rows + 1 = ap length grown ∙ length-append rows (row ∷ []) in
    record {
      few = omega (arith, long, few);
      each =
          subst (λ (l : List Row). All IsRow l) (sym grown)
          (All-append IsRow rows (row ∷ []) table.each (All-cons IsRow row [] is (All-nil IsRow)));
      index =
          subst (λ (l : List Row). IsIndex l new) (sym grown)
          (index_more rows row uses new number table.index
          at (subst (λ (r : Row). AreFiled uses (levers_held r) number new) same filed));
    }

-- with a row that was taken off again
pub table_alike : (rows after left : List Row) (row : Row) (uses new : List (List ℕ)) (n : ℕ) → IsTable rows uses
    → after ≡ rows ++ row ∷ [] → n ≡ length after → left ≡ take (n - 1) after → AreAlike uses new → IsTable left new
table_alike rows after left row uses new n table grown long rest alike =
    let long_by_one : n - 1 ≡ length rows = let e = ap length grown ∙ length-append rows (row ∷ []) in
    omega (arith, e, long) in
    let same : left ≡ rows = rest
    ∙ (ap (λ (k : ℕ). take k after) long_by_one
    ∙ (ap (λ (l : List Row). take (length rows) l) grown
    ∙ (take-append-le (length rows) rows (row ∷ []) (omega arith) ∙ take_all (length rows) rows (omega arith)))) in
    subst (λ (l : List Row). IsTable l new) (sym same)
    (record { few = table.few; each = table.each; index = index_alike rows uses new table.index alike })
