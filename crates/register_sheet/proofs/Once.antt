-- Each entry of a box stands in exactly one place of its sheets.
use Rattle.std.proofs.Common.{◌≡◌, ℕ, ◌+◌, ◌<◌, Bool, true, false, cond, List, [], ◌∷◌, length}
use Rattle.std.proofs.Common.{Option, Some, None, refl, ap, arith, eqb, get_or, inl, inr}
use Rattle.std.proofs.Math.ListN.{set}
use Rattle.std.proofs.lemmas.Bool.{and_parts, cases_lt, eqb-true, ltb-true, ne_eqb}
use Rattle.std.proofs.lemmas.List.{get_or_past}
use Rattle.std.proofs.lemmas.List.Sums.{sum_by-append, sum_by-set}
use Rattle.std.specs.Prelude.{is_none, nat_lt, sum_by}
use Rattle.block_words.specs.declared.Way.{Way}
use Rattle.line_law.specs.declared.call.Entry.{Entry}
use Rattle.line_plan.specs.Plans.{PlanFields}
use Rattle.register_sheet.specs.declared.sheet.Line.{Line}
use Rattle.register_sheet.specs.declared.sheet.Remark.{Remark}
use Rattle.register_sheet.specs.declared.spot.Column.{Column}
use Rattle.register_sheet.specs.declared.spot.Column.TheVariants as columns
use Rattle.register_sheet.specs.declared.spot.Spot.{Spot}
use Rattle.register_sheet.specs.declared.spot.Spot.TheVariants as spots
use Rattle.register_sheet.specs.Columns.{column_no}
use Rattle.register_sheet.specs.Events.{event_of}
use Rattle.register_sheet.specs.Lines.{filled, is_blank, is_free, line_at, new_line, no_line}
use Rattle.register_sheet.specs.Sheets.{SheetFields, is_own, is_same, no_sheet, put, sheet_from, sheet_of, times_at}
use Rattle.register_sheet.specs.Sheets.{times_in, times_in_line, with_remark, written}
use Rattle.register_sheet.specs.Spots.{spot_by}

-- ---- one entry more

no_blank : (k : ℕ) (cell : Option ℕ) → cell ≡ Some k → is_none cell ≡ true → ⊥
no_blank k None is blank = cc
no_blank k (Some j) is blank = cc

-- a cell that is blank is one of the line's
blank_within : (cells : List (Option ℕ)) (c : ℕ) → is_none (get_or cells c (Some 0)) ≡ true → c < length cells
blank_within cells c blank = elim (cases_lt c (length cells)) [
  | inl lt ↦ lt
  | inr past ↦ absurd (no_blank 0 (get_or cells c (Some 0)) (get_or_past cells c (Some 0) past) blank)
]

no_times : (n : ℕ) (cell : Option ℕ) → is_none cell ≡ true → times_at n cell ≡ 0
no_times n None is = refl
no_times n (Some k) is = absurd (cc)

-- a column that was blank
in_cells : (n k c : ℕ) (cells : List (Option ℕ)) → is_none (get_or cells c (Some 0)) ≡ true
    → sum_by (times_at n) (set cells c (Some k)) ≡ sum_by (times_at n) cells + is_same n k
in_cells n k c cells blank =
    let more = sum_by-set (times_at n) cells c (Some k) (Some 0) (blank_within cells c blank) in
    let none = no_times n (get_or cells c (Some 0)) blank in
    omega (arith, more, none)

-- a line that is opened
in_new : (n k : ℕ) (way : Way) (code : ℕ) (column : Column)
    → times_in_line n (new_line way code column k) ≡ is_same n k
in_new n k way code columns.Received = omega arith
in_new n k way code columns.Accepted = omega arith
in_new n k way code columns.EnteringReceived = omega arith
in_new n k way code columns.Arrived = omega arith
in_new n k way code columns.OutGiven = omega arith
in_new n k way code columns.Offered = omega arith
in_new n k way code columns.AcceptedAhead = omega arith
in_new n k way code columns.EnteringGiven = omega arith
in_new n k way code columns.Departed = omega arith
in_new n k way code columns.OutReceived = omega arith

-- a column of a line
in_lines : (n k line : ℕ) (column : Column) (lines : List Line) → line < length lines
    → is_blank column (line_at lines line) ≡ true
    → sum_by (times_in_line n) (set lines line (filled column k (line_at lines line)))
    ≡ sum_by (times_in_line n) lines + is_same n k
in_lines n k line column lines within blank =
    let more = sum_by-set (times_in_line n) lines line (filled column k (line_at lines line)) no_line within in
    let here = in_cells n k (column_no column) (line_at lines line).cells blank in
    omega (arith, more, here)

-- an entry more, in a column that is free or among the remarks
put_column : (n k line : ℕ) (column : Column) (way : Way) (sheet : SheetFields) (free : Bool)
    → is_free sheet.lines line column ≡ free
    → times_in n (cond free
    (record sheet { lines = cond free (set sheet.lines line (filled column k (line_at sheet.lines line))) sheet.lines })
    (with_remark k way (Some line) sheet))
    ≡ times_in n sheet + is_same n k
put_column n k line column way sheet true is =
    let parts = and_parts (nat_lt line (length sheet.lines)) (is_blank column (line_at sheet.lines line)) is in
    let more = in_lines n k line column sheet.lines (ltb-true line (length sheet.lines) parts.0) parts.1 in
    omega (arith, more)
put_column n k line column way sheet false is =
    let more = sum_by-append (λ (remark : Remark). is_same n remark.entry) sheet.remarks
    (record { entry = k; way = way; line = Some line } ∷ []) in
    omega (arith, more)

-- an entry more, wherever it stands
put_times : (n k : ℕ) (spot : Spot) (sheet : SheetFields)
    → times_in n (put k spot sheet) ≡ times_in n sheet + is_same n k
put_times n k (spots.NewLine way code column) sheet =
    let more = sum_by-append (times_in_line n) sheet.lines (new_line way code column k ∷ []) in
    let one = in_new n k way code column in
    omega (arith, more, one)
put_times n k (spots.Written way line column) sheet =
    put_column n k line column way sheet (is_free sheet.lines line column) refl
put_times n k (spots.Remark way line) sheet =
    let more = sum_by-append (λ (remark : Remark). is_same n remark.entry) sheet.remarks
    (record { entry = k; way = way; line = line } ∷ []) in
    omega (arith, more)
put_times n k spots.Beside sheet =
    let more = sum_by-append (is_same n) sheet.beside (k ∷ []) in
    omega (arith, more)

written_times : (plan : PlanFields) (n k : ℕ) (e : Entry) (sheet : SheetFields)
    → times_in n (written plan k e sheet) ≡ times_in n sheet + is_same n k
written_times plan n k e sheet =
    put_times n k (spot_by plan (length sheet.lines) (event_of plan e) sheet.pages).spot
    (record sheet { pages = (spot_by plan (length sheet.lines) (event_of plan e) sheet.pages).pages })

-- ---- all entries

-- an entry before these isn't among them
later_none : (b n first : ℕ) (es : List Entry) → n < first → is_own b n first es ≡ false
later_none b n first [] before = refl
later_none b n first (e ∷ es) before =
    rw (ne_eqb first n (λ (is : first ≡ n). absurd (omega (arith, is, before))))
    (later_none b n (first + 1) es (omega (arith, before)))

-- an entry is one of the box or not, and it is the one that is counted or not
next_times : (old new all same : ℕ) (here this later : Bool) → same ≡ cond this 1 0
    → new ≡ cond here (old + same) old
    → all ≡ new + cond later 1 0 → (this ≡ true → later ≡ false)
    → all ≡ old + cond (cond this here later) 1 0
next_times old new all same here true later is next rest none = go here next where
  go : (own : Bool) → new ≡ cond own (old + same) old → all ≡ old + cond own 1 0
  go true more = let no = ap {B = ℕ} (λ (l : Bool). cond l 1 0) (none refl) in omega (arith, no, more, is, rest)
  go false more = let no = ap {B = ℕ} (λ (l : Bool). cond l 1 0) (none refl) in omega (arith, no, more, is, rest)
next_times old new all same here false later is next rest none = go here next where
  go : (own : Bool) → new ≡ cond own (old + same) old → all ≡ old + cond later 1 0
  go true more = omega (arith, more, is, rest)
  go false more = omega (arith, more, is, rest)

own_times : (plan : PlanFields) (n k : ℕ) (e : Entry) (sheet : SheetFields) (here : Bool)
    → times_in n (cond here (written plan k e sheet) sheet) ≡ cond here (times_in n sheet + is_same n k) (times_in n sheet)
own_times plan n k e sheet true = written_times plan n k e sheet
own_times plan n k e sheet false = refl

from_times : (plan : PlanFields) (b n first : ℕ) (sheet : SheetFields) (es : List Entry)
    → times_in n (sheet_from plan b first sheet es) ≡ times_in n sheet + cond (is_own b n first es) 1 0
from_times plan b n first sheet [] = omega arith
from_times plan b n first sheet (e ∷ es) =
    next_times (times_in n sheet) (times_in n (cond (eqb e.box_no b) (written plan first e sheet) sheet))
    (times_in n (sheet_from plan b (first + 1) (cond (eqb e.box_no b) (written plan first e sheet) sheet) es))
    (is_same n first) (eqb e.box_no b) (eqb first n) (is_own b n (first + 1) es) refl
    (own_times plan n first e sheet (eqb e.box_no b))
    (from_times plan b n (first + 1) (cond (eqb e.box_no b) (written plan first e sheet) sheet) es)
    (λ (is : eqb first n ≡ true). later_none b n (first + 1) es
    (let same = eqb-true first n is in omega (arith, same)))

-- each entry of box b stands once in its sheets, and no other stands there
pub once : (plan : PlanFields) (b : ℕ) (es : List Entry) (number : ℕ)
    → times_in number (sheet_of plan b es) ≡ cond (is_own b number 0 es) 1 0
once plan b es number =
    let all = from_times plan b number 0 no_sheet es in
    omega (arith, all)
