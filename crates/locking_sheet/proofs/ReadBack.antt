-- The rows are read back from the text of a locking table.
use Rattle.std.proofs.Common.{◌≡◌, ℕ, zero, suc, ◌<◌, ◌≤◌, true, List, [], ◌∷◌, ◌++◌, length, map, refl, sym, ap, ◌∙◌}
use Rattle.std.proofs.Common.{subst, arith, append_assoc, append-nil}
use Rattle.std.specs.Prelude.{All, Ok, Result}
use Rattle.std.proofs.lemmas.List.Elements.{All-head, All-tail, All-weaker}
use Rattle.rail_text.specs.Lines.{lacks}
use Rattle.locking_table.specs.declared.row.Row.{Row}
use Rattle.locking_table.specs.Places.{IsLever}
use Rattle.locking_table.specs.Reading.{◌>>=◌}
use Rattle.locking_table.specs.Sound.{IsRow}
use Rattle.line_plan.specs.declared.frame.Lever.{Lever}
use Rattle.row_texts.specs.declared.draft.Entry.{Entry}
use Rattle.row_texts.specs.declared.draft.Place.TheVariants as places
use Rattle.row_texts.specs.Drafts.{DraftFields, most_number}
use Rattle.row_texts.specs.Texts.{Fault, entries_of as read_entries, in_order, read_on, rows_of, start}
use Rattle.locking_sheet.specs.Laws.{IsFrame, has_lever}
use Rattle.locking_sheet.specs.Lines.{LinesFields}
use Rattle.locking_sheet.specs.Sheets.{IsSheet, SheetFields, places_at, row_at}
use Rattle.locking_sheet.specs.Texts.{IsSheetText, lever_onto, levers_onto, sheet_text, title_lines}
use Rattle.locking_sheet.proofs.InOrder.{entries_of, in_order_again, others, owns}
use Rattle.locking_sheet.proofs.ItemReads.{at}
use Rattle.locking_sheet.proofs.LineReads.{AreRead, entry_at, lever_read, stands, title_read}
use Rattle.locking_sheet.proofs.Onto.{reads}

module _ (rows : List Row) (sheet : SheetFields) (all : All IsRow rows) (few : length rows ≤ most_number)
    (is : IsSheet rows sheet) where
  levers_read : (levers : List Lever) (es : List Entry) (lines : LinesFields)
      → All (λ lever. IsLever 120 lever.number) levers → AreRead lines (stands places.Start es)
      → AreRead (levers_onto rows sheet lines levers)
      (stands places.Start (es ++ entries_of rows sheet.own levers))
  levers_read [] es lines levers so_far =
      subst (λ (e : List Entry). AreRead lines (stands places.Start e)) (sym (append-nil es)) so_far
  levers_read (l ∷ ls) es lines levers so_far =
      let here = All-head (λ (lever : Lever). IsLever 120 lever.number) l ls levers in
      let high : l.number ≤ 120 = omega (arith, here) in
      subst (λ (e : List Entry). AreRead (levers_onto rows sheet lines (l ∷ ls)) (stands places.Start e))
      (append_assoc es (map (entry_at rows) (places_at sheet.own l.number)) (entries_of rows sheet.own ls))
      (levers_read ls (es ++ map (entry_at rows) (places_at sheet.own l.number)) (lever_onto rows sheet lines l)
      (All-tail (λ (lever : Lever). IsLever 120 lever.number) l ls levers)
      (lever_read rows all few sheet l es lines (omega (arith, here)) high
      (owns rows sheet.own l.number is.own high) (others rows sheet.converse l.number is.converse high) so_far))

subject_there : (rows : List Row) (levers : List Lever) (place : ℕ)
    → All (λ row. has_lever levers row.subject ≡ true) rows → place < length rows
    → has_lever levers (row_at rows place).subject ≡ true
subject_there [] levers place subjects less = absurd (omega (arith, less))
subject_there (row ∷ rows) levers zero subjects less =
    All-head (λ (r : Row). has_lever levers r.subject ≡ true) row rows subjects
subject_there (row ∷ rows) levers (suc place) subjects less =
    subject_there rows levers place (All-tail (λ (r : Row). has_lever levers r.subject ≡ true) row rows subjects)
    (omega (arith, less))

ordered : (read : Result DraftFields Fault) (draft : DraftFields) (rows : List Row) → read ≡ Ok draft
    → in_order draft.entries ≡ rows → (read_entries read >>= λ entries. Ok (in_order entries)) ≡ Ok rows
ordered read draft rows is same =
    ap (λ (r : Result DraftFields Fault). read_entries r >>= λ entries. Ok (in_order entries)) is
    ∙ ap (λ (rs : List Row). Ok rs) same

pub read_back : (name : List ℕ) (levers : List Lever) (rows : List Row) (text : List ℕ) → lacks 10 name ≡ true
    → IsFrame levers rows → IsSheetText name levers rows text → rows_of text ≡ Ok rows
unfolding rows_of sheet_text
read_back name levers rows text none frame printed =
    let sheet = printed.sheet in
    let is = printed.is_sheet in
    let high : All (λ lever. lever.number ≤ 120) levers = All-weaker (λ (lever : Lever). IsLever 120 lever.number)
    (λ (lever : Lever). lever.number ≤ 120) (λ lever h. omega (arith, h)) levers frame.numbers in
    let lines = levers_onto rows sheet (title_lines name) levers in
    let es = entries_of rows sheet.own levers in
    let read : AreRead lines (stands places.Start es) =
    levers_read rows sheet frame.spelled frame.few is levers [] (title_lines name) frame.numbers
    (title_read name none) in
    let drafted : read_on 1 start lines.text ≡ Ok (at places.Start [] [] es) =
    reads lines.text 1 start (stands places.Start es) (at places.Start [] [] es) read refl in
    ap rows_of printed.is_text
    ∙ ordered (read_on 1 start lines.text) (at places.Start [] [] es) rows drafted
    (in_order_again rows sheet.own is.own frame.few levers high frame.rising
    (λ place less. subject_there rows levers place frame.subjects less))

pub ruleset back_rules = (read_back)
