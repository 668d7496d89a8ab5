-- The rows of all levers' lines, put in the order of their numbers, are those of the table.
use Rattle.std.proofs.Common.{◌≡◌, ◌≢◌, ℕ, zero, suc, ◌+◌, ◌-◌, ◌<◌, ◌≤◌, Bool, true, false, ◌&&◌, ◌||◌, ◌==◌, List, []}
use Rattle.std.proofs.Common.{◌∷◌, ◌++◌, length, map, take, drop, refl, sym, ap, ◌∙◌, subst, arith, if◌then◌else◌}
use Rattle.std.proofs.Common.{append-nil, add-one, take_all, inl, inr, ◌⊎◌}
use Rattle.std.specs.Prelude.{All, filter, nat_lt, slice_index_or}
use Rattle.std.proofs.lemmas.Bool.{cases_lt}
use Rattle.std.proofs.lemmas.Bool.Decides.{eqb_tells, nat_tests}
use Rattle.std.proofs.lemmas.List.{drop_more, length-drop, length-map, map-append, take_more}
use Rattle.std.proofs.lemmas.List.Elements.{All-cons, All-head, All-nil, All-tail, filter-append}
use Rattle.locking_table.specs.declared.row.Row.{Row}
use Rattle.locking_table.specs.Index.{no_row}
use Rattle.line_plan.specs.declared.frame.Lever.{Lever}
use Rattle.line_plan.specs.Frames.{are_rising}
use Rattle.row_texts.specs.declared.draft.Entry.{Entry}
use Rattle.row_texts.specs.Drafts.{most_number, no_number}
use Rattle.row_texts.specs.Places.{AreFiled, places_from, places_of}
use Rattle.row_texts.specs.Texts.{in_order, key_of, rows_below, rows_numbered}
use Rattle.row_texts.proofs.PlaceLemmas.{within}
use Rattle.locking_sheet.specs.Laws.{has_lever}
use Rattle.locking_sheet.specs.Sheets.{objects_of, places_at, row_at, subjects_of}
use Rattle.locking_sheet.proofs.LineReads.{IsOwn, entry_at}

-- ---- the lever's own rows are those of which it is the subject

at_drop : (all : List Row) (from : ℕ) (r : Row) (rs : List Row) → drop from all ≡ r ∷ rs
    → (row_at all from ≡ r) × (drop (from + 1) all ≡ rs) × (from < length all)
at_drop all from r rs h =
    let l = ap length h in
    let d : length (drop from all) ≡ length all - from = length-drop from all in
    let less : from < length all = omega arith in
    let m = drop_more all from no_row less in (cc, cc, less)

equal : (a b : ℕ) → (a == b) ≡ true → a ≡ b
equal a b h = grind (arith, nat_tests)

own_step : (rows : List Row) (lever from : ℕ) (t : Bool) (ps : List ℕ) → (t ≡ true → IsOwn rows lever from)
    → All (IsOwn rows lever) ps → All (IsOwn rows lever) (if t then from ∷ ps else ps)
own_step rows lever from true ps own all = All-cons (IsOwn rows lever) from ps (own refl) all
own_step rows lever from false ps own all = all

own_from : (rows : List Row) (from lever : ℕ) (rs : List Row) → drop from rows ≡ rs
    → All (IsOwn rows lever) (places_from from lever (subjects_of rs))
own_from rows from lever [] is = All-nil (IsOwn rows lever)
own_from rows from lever (r ∷ rs) is =
    let at = at_drop rows from r rs is in
    own_step rows lever from (r.subject == lever) (places_from (from + 1) lever (subjects_of rs))
    (λ test. record {
      there = at.2;
      subject = ap (λ (row : Row). row.subject) at.0 ∙ equal r.subject lever test;
    })
    (own_from rows (from + 1) lever rs at.1)

pub owns : (rows : List Row) (lists : List (List ℕ)) (lever : ℕ) → AreFiled 120 (subjects_of rows) lists → lever ≤ 120
    → All (IsOwn rows lever) (places_at lists lever)
owns rows lists lever filed few =
    subst (λ (ps : List ℕ). All (IsOwn rows lever) ps) (sym (filed.each lever few)) (own_from rows 0 lever rows refl)

pub others : (rows : List Row) (lists : List (List ℕ)) (lever : ℕ) → AreFiled 120 (objects_of rows) lists
    → lever ≤ 120 → All (λ p. p < length rows) (places_at lists lever)
others rows lists lever filed few =
    subst (λ (ps : List ℕ). All (λ (p : ℕ). p < length rows) ps) (sym (filed.each lever few))
    (subst (λ (n : ℕ). All (λ (p : ℕ). p < n) (places_of lever (objects_of rows)))
    (length-map rows (λ (row : Row). row.object)) (within lever (objects_of rows)))

-- ---- the entries of a number

abbrev has : ℕ → Entry → Bool
has number entry = key_of entry == number

-- the rows of a number among entries and others
numbered-append : (number : ℕ) (xs ys : List Entry)
    → rows_numbered number (xs ++ ys) ≡ rows_numbered number xs ++ rows_numbered number ys
numbered-append number xs ys =
    ap (λ (es : List Entry). map (λ entry. entry.row) es) (filter-append (has number) xs ys)
    ∙ map-append (λ (entry : Entry). entry.row) (filter (has number) xs) (filter (has number) ys)

-- the row, where there is to be one
abbrev pub only : Bool → Row → List Row
only test row = if test then row ∷ [] else []

module _ (rows : List Row) where
  key_at : (place : ℕ) → place < most_number → key_of (entry_at rows place) ≡ place + 1
  key_at place small = let test : nat_lt (place + 1) no_number ≡ true = grind (arith, nat_tests) in rw test refl

  -- an entry of another number
  passed : (number place : ℕ) (es : List Entry) → place < most_number → place + 1 ≢ number
      → rows_numbered number (entry_at rows place ∷ es) ≡ rows_numbered number es
  passed number place es small apart =
      let key = key_at place small in
      let test : (key_of (entry_at rows place) == number) ≡ false = rw key (grind (arith, nat_tests)) in
      rw test refl

  -- an entry of this number
  met : (place : ℕ) (es : List Entry) → place < most_number
      → rows_numbered (place + 1) (entry_at rows place ∷ es) ≡ row_at rows place ∷ rows_numbered (place + 1) es
  met place es small =
      let key = key_at place small in
      let test : (key_of (entry_at rows place) == (place + 1)) ≡ true = rw key (grind (arith, nat_tests)) in
      rw test refl

  passed_if : (number place : ℕ) (t : Bool) (ps : List ℕ) → place < most_number → place + 1 ≢ number
      → rows_numbered number (map (entry_at rows) (if t then place ∷ ps else ps))
      ≡ rows_numbered number (map (entry_at rows) ps)
  passed_if number place true ps small apart = passed number place (map (entry_at rows) ps) small apart
  passed_if number place false ps small apart = refl

  -- places behind that of a number have none of it
  behind : (number from lever : ℕ) (ks : List ℕ) → number ≤ from → from + length ks ≤ most_number
      → rows_numbered number (map (entry_at rows) (places_from from lever ks)) ≡ []
  behind number from lever [] past few = refl
  behind number from lever (k ∷ ks) past few =
      passed_if number from (k == lever) (places_from (from + 1) lever ks) (omega (arith, few)) (λ e. omega (arith, e, past))
      ∙ behind number (from + 1) lever ks (omega (arith, past)) (omega (arith, few))

  met_if : (place : ℕ) (t : Bool) (ps : List ℕ) → place < most_number
      → rows_numbered (place + 1) (map (entry_at rows) ps) ≡ []
      → rows_numbered (place + 1) (map (entry_at rows) (if t then place ∷ ps else ps)) ≡ only t (row_at rows place)
  met_if place true ps small none =
      met place (map (entry_at rows) ps) small ∙ ap (λ (rs : List Row). row_at rows place ∷ rs) none
  met_if place false ps small none = none

  -- the entry of a place stands once among those of its key, and not among others
  among : (step from lever : ℕ) (ks : List ℕ) → step < length ks → from + length ks ≤ most_number
      → rows_numbered (from + step + 1) (map (entry_at rows) (places_from from lever ks))
      ≡ only (slice_index_or ks step 0 == lever) (row_at rows (from + step))
  among step from lever [] less few = absurd (omega (arith, less))
  among zero from lever (k ∷ ks) less few =
      let here : from + 0 ≡ from = omega arith in
      subst (λ (place : ℕ). rows_numbered (place + 1) (map (entry_at rows) (places_from from lever (k ∷ ks)))
      ≡ only (k == lever) (row_at rows place)) (sym here)
      (met_if from (k == lever) (places_from (from + 1) lever ks) (omega (arith, few))
      (behind (from + 1) (from + 1) lever ks (omega arith) (omega (arith, few))))
  among (suc step) from lever (k ∷ ks) less few =
      let next : from + 1 + step ≡ from + suc step = omega arith in
      passed_if (from + suc step + 1) from (k == lever) (places_from (from + 1) lever ks) (omega (arith, few))
      (λ e. omega (arith, e))
      ∙ subst (λ (place : ℕ). rows_numbered (place + 1) (map (entry_at rows) (places_from (from + 1) lever ks))
      ≡ only (slice_index_or ks step 0 == lever) (row_at rows place)) next
      (among step (from + 1) lever ks (omega (arith, less)) (omega (arith, few)))

pub subject_at : (rows : List Row) (place : ℕ) → place < length rows
    → slice_index_or (subjects_of rows) place 0 ≡ (row_at rows place).subject
subject_at [] place less = absurd (omega (arith, less))
subject_at (row ∷ rows) zero less = refl
subject_at (row ∷ rows) (suc place) less = subject_at rows place (omega (arith, less))

-- ---- the entries of all levers

abbrev pub entries_of : List Row → List (List ℕ) → List Lever → List Entry
entries_of rows lists [] = []
entries_of rows lists (lever ∷ levers) =
    map (entry_at rows) (places_at lists lever.number) ++ entries_of rows lists levers

module _ (rows : List Row) (lists : List (List ℕ)) (filed : AreFiled 120 (subjects_of rows) lists)
    (few : length rows ≤ most_number) where
  -- the row at a place stands once at its subject, and at no other lever
  at_lever : (place lever : ℕ) → place < length rows → lever ≤ 120
      → rows_numbered (place + 1) (map (entry_at rows) (places_at lists lever))
      ≡ only ((row_at rows place).subject == lever) (row_at rows place)
  at_lever place lever less high =
      let long = length-map rows (λ (row : Row). row.subject) in
      let none : 0 + place ≡ place = omega arith in
      ap (λ (ps : List ℕ). rows_numbered (place + 1) (map (entry_at rows) ps)) (filed.each lever high)
      ∙ (subst (λ (p : ℕ). rows_numbered (p + 1) (map (entry_at rows) (places_from 0 lever (subjects_of rows)))
      ≡ only (slice_index_or (subjects_of rows) place 0 == lever) (row_at rows p)) none
      (among rows place 0 lever (subjects_of rows) (omega (arith, less, long)) (omega (arith, few, long)))
      ∙ ap (λ (n : ℕ). only (n == lever) (row_at rows place)) (subject_at rows place less))

  apart_test : (a b : ℕ) → a ≢ b → (a == b) ≡ false
  apart_test a b apart = grind (arith, nat_tests)

  rising_parts : (a b : Bool) → (a && b) ≡ true → (a ≡ true) × (b ≡ true)
  rising_parts true b h = (refl, h)
  rising_parts false b h = cc

  above : (a b : ℕ) → nat_lt a b ≡ true → a < b
  above a b h = grind (arith, nat_tests)

  -- levers above the row's subject don't have it
  none_at : (place before : ℕ) (levers : List Lever) → place < length rows
      → All (λ lever. lever.number ≤ 120) levers → are_rising before levers ≡ true
      → (row_at rows place).subject ≤ before → rows_numbered (place + 1) (entries_of rows lists levers) ≡ []
  none_at place before [] less high rising past = refl
  none_at place before (l ∷ ls) less high rising past =
      let p = rising_parts (nat_lt before l.number) (are_rising l.number ls) rising in
      let up = above before l.number p.0 in
      let test = apart_test (row_at rows place).subject l.number (λ e. omega (arith, e, up, past)) in
      numbered-append (place + 1) (map (entry_at rows) (places_at lists l.number)) (entries_of rows lists ls)
      ∙ (ap (λ (rs : List Row). rs ++ rows_numbered (place + 1) (entries_of rows lists ls))
      (at_lever place l.number less (All-head (λ (lever : Lever). lever.number ≤ 120) l ls high)
      ∙ ap (λ (t : Bool). only t (row_at rows place)) test)
      ∙ none_at place l.number ls less (All-tail (λ (lever : Lever). lever.number ≤ 120) l ls high) p.1
      (omega (arith, up, past)))

  other_has : (a b : Bool) → (a || b) ≡ true → a ≡ false → b ≡ true
  other_has true b h away = cc
  other_has false b h away = h

  -- one of the levers has it
  one_at : (place before : ℕ) (levers : List Lever) → place < length rows
      → All (λ lever. lever.number ≤ 120) levers → are_rising before levers ≡ true
      → has_lever levers (row_at rows place).subject ≡ true
      → rows_numbered (place + 1) (entries_of rows lists levers) ≡ row_at rows place ∷ []
  one_at place before [] less high rising has = cc
  one_at place before (l ∷ ls) less high rising has =
      let p = rising_parts (nat_lt before l.number) (are_rising l.number ls) rising in
      let here = at_lever place l.number less (All-head (λ (lever : Lever). lever.number ≤ 120) l ls high) in
      let rest = All-tail (λ (lever : Lever). lever.number ≤ 120) l ls high in
      let both = numbered-append (place + 1) (map (entry_at rows) (places_at lists l.number)) (entries_of rows lists ls) in
      elim (eqb_tells (row_at rows place).subject l.number) [
        | inl same ↦
            let test = same.0 in
            let subject = same.1 in
            both
            ∙ (ap (λ (rs : List Row). rs ++ rows_numbered (place + 1) (entries_of rows lists ls))
            (here ∙ ap (λ (t : Bool). only t (row_at rows place)) test)
            ∙ ap (λ (rs : List Row). row_at rows place ∷ rs)
            (none_at place l.number ls less rest p.1 (omega (arith, subject))))
        | inr away ↦
            let test = away.0 in
            let turned = apart_test l.number (row_at rows place).subject (λ e. away.1 (sym e)) in
            both
            ∙ (ap (λ (rs : List Row). rs ++ rows_numbered (place + 1) (entries_of rows lists ls))
            (here ∙ ap (λ (t : Bool). only t (row_at rows place)) test)
            ∙ one_at place l.number ls less rest p.1
            (other_has (l.number == (row_at rows place).subject) (has_lever ls (row_at rows place).subject) has turned))
      ]

  -- ---- no entry has another number

  outside : (number : ℕ) (ps : List ℕ) (lever : ℕ) → (number ≡ 0) ⊎ (length rows < number)
      → All (IsOwn rows lever) ps → rows_numbered number (map (entry_at rows) ps) ≡ []
  outside number [] lever out own = refl
  outside number (p ∷ ps) lever out own =
      let here = (All-head (IsOwn rows lever) p ps own).there in
      passed rows number p (map (entry_at rows) ps) (omega (arith, here, few)) (elim out [
        | inl none ↦ λ e. omega (arith, e, none)
        | inr past ↦ λ e. omega (arith, e, past, here)
      ])
      ∙ outside number ps lever out (All-tail (IsOwn rows lever) p ps own)

  no_other : (number : ℕ) (levers : List Lever) → (number ≡ 0) ⊎ (length rows < number)
      → All (λ lever. lever.number ≤ 120) levers → rows_numbered number (entries_of rows lists levers) ≡ []
  no_other number [] out high = refl
  no_other number (l ∷ ls) out high =
      numbered-append number (map (entry_at rows) (places_at lists l.number)) (entries_of rows lists ls)
      ∙ (ap (λ (rs : List Row). rs ++ rows_numbered number (entries_of rows lists ls))
      (outside number (places_at lists l.number) l.number out
      (owns rows lists l.number filed (All-head (λ (lever : Lever). lever.number ≤ 120) l ls high)))
      ∙ no_other number ls out (All-tail (λ (lever : Lever). lever.number ≤ 120) l ls high))

  -- ---- all rows, by their numbers

  module _ (levers : List Lever) (high : All (λ lever. lever.number ≤ 120) levers) (rising : are_rising 0 levers ≡ true)
      (each : (place : ℕ) → place < length rows → has_lever levers (row_at rows place).subject ≡ true) where
    rows_first : (number : ℕ) → rows_below (suc number) (entries_of rows lists levers) ≡ take number rows
    unfolding rows_below
    rows_first zero = no_other 0 levers (inl refl) high
    rows_first (suc number) = elim (cases_lt number (length rows)) [
      | inl less ↦
          let n : number + 1 ≡ suc number = add-one number in
          let now = one_at number 0 levers less high rising (each number less) in
          ap (λ (rs : List Row). rs ++ rows_numbered (suc number) (entries_of rows lists levers)) (rows_first number)
          ∙ (ap (λ (k : ℕ). take number rows ++ rows_numbered k (entries_of rows lists levers)) (sym n)
          ∙ (ap (λ (rs : List Row). take number rows ++ rs) now
          ∙ (sym (take_more rows number no_row less) ∙ ap (λ (k : ℕ). take k rows) n)))
      | inr past ↦
          let none = no_other (suc number) levers (inr (omega (arith, past))) high in
          ap (λ (rs : List Row). rs ++ rows_numbered (suc number) (entries_of rows lists levers)) (rows_first number)
          ∙ (ap (λ (rs : List Row). take number rows ++ rs) none
          ∙ (append-nil (take number rows)
          ∙ (take_all number rows past ∙ sym (take_all (suc number) rows (omega (arith, past))))))
    ]

    pub in_order_again : in_order (entries_of rows lists levers) ≡ rows
    unfolding in_order
    in_order_again = rows_first no_number ∙ take_all no_number rows (omega (arith, few))
