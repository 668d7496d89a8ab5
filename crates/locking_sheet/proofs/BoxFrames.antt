-- Each box of a plan is such a frame, so its rows are read back from its printed table.
use Rattle.std.proofs.Common.{◌≡◌, ℕ, zero, suc, ◌<◌, ◌≤◌, Bool, true, false, not, ◌&&◌, ◌||◌, ◌==◌, List, [], ◌∷◌, length, map, refl}
use Rattle.std.proofs.Common.{arith, if◌then◌else◌}
use Rattle.std.specs.Prelude.{All, Ok, Option, Some, nat_lt, nat_le, option_map}
use Rattle.std.specs.List.{find, list_all}
use Rattle.std.proofs.lemmas.Bool.Decides.{nat_tests}
use Rattle.std.proofs.lemmas.List.Elements.{All-cons, All-head, All-nil, All-weaker}
use Rattle.rail_text.specs.Lines.{lacks}
use Rattle.rail_text.specs.Words.{is_name, is_name_byte, starts_with_letter}
use Rattle.locking_table.specs.declared.row.Row.{Row}
use Rattle.locking_table.specs.Places.{IsLever}
use Rattle.locking_table.specs.Sound.{IsRow}
use Rattle.line_plan.specs.declared.frame.Lever.{Lever}
use Rattle.line_plan.specs.Frames.{BoxFields, are_rising, is_working, last_number}
use Rattle.line_plan.specs.Plans.{IsBox, IsBoxRow, IsPlan, IsWorking, PlanFields, box_at, names_of}
use Rattle.row_texts.specs.Texts.{rows_of}
use Rattle.locking_sheet.specs.Laws.{IsFrame, has_lever}
use Rattle.locking_sheet.specs.Texts.{IsSheetText}
use Rattle.locking_sheet.proofs.ReadBack.{read_back}

parts : (a b : Bool) → (a && b) ≡ true → (a ≡ true) × (b ≡ true)
parts true b h = (refl, h)
parts false b h = cc

above : (a b : ℕ) → nat_lt a b ≡ true → a < b
above a b h = grind (arith, nat_tests)

-- ---- the numbers of the levers

last_high : (before : ℕ) (levers : List Lever) → are_rising before levers ≡ true → before ≤ last_number before levers
last_high before [] rising = omega arith
last_high before (l ∷ ls) rising =
    let p = parts (nat_lt before l.number) (are_rising l.number ls) rising in
    let up = above before l.number p.0 in
    let more = last_high l.number ls p.1 in
    omega (arith, up, more)

numbered : (before : ℕ) (levers : List Lever) → are_rising before levers ≡ true → last_number before levers ≤ 120
    → All (λ lever. IsLever 120 lever.number) levers
numbered before [] rising high = All-nil (λ (lever : Lever). IsLever 120 lever.number)
numbered before (l ∷ ls) rising high =
    let p = parts (nat_lt before l.number) (are_rising l.number ls) rising in
    let up = above before l.number p.0 in
    let last = last_high l.number ls p.1 in
    All-cons (λ (lever : Lever). IsLever 120 lever.number) l ls (omega (arith, up), omega (arith, last, high))
    (numbered l.number ls p.1 high)

-- ---- the subjects of the rows

working_step : (t : Bool) (l : Lever) (rest : Option Lever) (any : Bool)
    → (is_working (option_map (λ lever. lever.kind) rest) ≡ true → any ≡ true)
    → is_working (option_map (λ lever. lever.kind) (if t then Some l else rest)) ≡ true
    → (t || any) ≡ true
working_step true l rest any more h = refl
working_step false l rest any more h = more h

has_working : (levers : List Lever) (number : ℕ)
    → is_working (option_map (λ lever. lever.kind) (find (λ lever. lever.number == number) levers)) ≡ true
    → has_lever levers number ≡ true
has_working [] number h = cc
has_working (l ∷ ls) number h =
    working_step (l.number == number) l (find (λ lever. lever.number == number) ls) (has_lever ls number)
    (λ more. has_working ls number more) h

subject_there : (box_plan : BoxFields) (row : Row) → IsBoxRow box_plan row
    → has_lever box_plan.levers row.subject ≡ true
subject_there box_plan row is =
    has_working box_plan.levers row.subject
    (All-head (IsWorking box_plan) row.subject (row.object ∷ map (λ cond. cond.lever) row.when) is.levers)

pub box_frame : (boxes b : ℕ) (box_plan : BoxFields) → IsBox boxes b box_plan
    → IsFrame box_plan.levers box_plan.rows
box_frame boxes b box_plan is =
    let few = is.few_rows in
    record {
      numbers = numbered 0 box_plan.levers is.rising is.frame;
      rising = is.rising;
      spelled = All-weaker (IsBoxRow box_plan) IsRow (λ row h. h.spelled) box_plan.rows is.rows;
      subjects =
          All-weaker (IsBoxRow box_plan) (λ (row : Row). has_lever box_plan.levers row.subject ≡ true)
          (subject_there box_plan) box_plan.rows is.rows;
      few = omega (arith, few);
    }

-- ---- the box's name

byte_inside : (c : ℕ) → is_name_byte c ≡ true → not (c == 10) ≡ true
byte_inside c h = grind (arith, nat_tests)

bytes_inside : (word : List ℕ) → list_all is_name_byte word ≡ true → lacks 10 word ≡ true
bytes_inside [] h = refl
bytes_inside (c ∷ cs) h =
    let p = parts (is_name_byte c) (list_all is_name_byte cs) h in
    let here = byte_inside c p.0 in let more = bytes_inside cs p.1 in rw (here, more) refl

name_inside : (word : List ℕ) → is_name word ≡ true → lacks 10 word ≡ true
name_inside word h =
    let p = parts (nat_le (length word) 16 && starts_with_letter word) (list_all is_name_byte word) h in
    bytes_inside word p.1

name_at : (boxes : List BoxFields) (b : ℕ) → list_all is_name (names_of boxes) ≡ true → b < length boxes
    → is_name (box_at boxes b).name ≡ true
name_at [] b named less = absurd (omega (arith, less))
name_at (x ∷ xs) zero named less = (parts (is_name x.name) (list_all is_name (names_of xs)) named).0
name_at (x ∷ xs) (suc b) named less =
    name_at xs b (parts (is_name x.name) (list_all is_name (names_of xs)) named).1 (omega (arith, less))

-- the rows of a box are read back from its table
pub box_back : (plan : PlanFields) (b : ℕ) (text : List ℕ) → IsPlan plan → b < length plan.boxes
    → IsSheetText (box_at plan.boxes b).name (box_at plan.boxes b).levers (box_at plan.boxes b).rows text
    → rows_of text ≡ Ok (box_at plan.boxes b).rows
box_back plan b text is less printed =
    read_back (box_at plan.boxes b).name (box_at plan.boxes b).levers (box_at plan.boxes b).rows text
    (name_inside (box_at plan.boxes b).name (name_at plan.boxes b is.named less))
    (box_frame (length plan.boxes) b (box_at plan.boxes b) (is.each b less)) printed
