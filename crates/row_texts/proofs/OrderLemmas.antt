-- Rows by their numbers.
use Rattle.std.proofs.Common.{◌≡◌, ℕ, ◌+◌, ◌-◌, ◌<◌, ◌≤◌, List, [], ◌∷◌, ◌++◌, length, drop, map, Bool, true, false, ◌==◌}
use Rattle.std.proofs.Common.{if◌then◌else◌, refl, sym, ap, ◌∙◌, subst, arith, add-one}
use Rattle.std.specs.Prelude.{All, filter, slice_index_or}
use Rattle.std.proofs.lemmas.List.{drop_more, length-drop, length-map}
use Rattle.locking_table.specs.declared.row.Row.{Row}
use Rattle.row_texts.specs.declared.draft.Entry.{Entry}
use Rattle.row_texts.specs.Drafts.{no_number}
use Rattle.row_texts.specs.Places.{AreFiled, places_from, places_of}
use Rattle.row_texts.specs.Texts.{in_order, key_of, no_entry, rows_at, rows_below, rows_numbered}
use Rattle.row_texts.proofs.PlaceLemmas.{within}

at_drop : (all : List Entry) (from : ℕ) (e : Entry) (es : List Entry) → drop from all ≡ e ∷ es
    → (slice_index_or all from no_entry ≡ e) × (drop (from + 1) all ≡ es)
at_drop all from e es h =
    let l = ap length h in
    let d : length (drop from all) ≡ length all - from = length-drop from all in
    let less : from < length all = omega arith in
    let m = drop_more all from no_entry less in (cc, cc)

taken : (all : List Entry) (from : ℕ) (e : Entry) (t : Bool) (ps : List ℕ) (es : List Entry)
    → slice_index_or all from no_entry ≡ e → rows_at all ps ≡ map (λ entry. entry.row) es
    → rows_at all (if t then from ∷ ps else ps) ≡ map (λ entry. entry.row) (if t then e ∷ es else es)
taken all from e true ps es at same = rw (at, same) refl
taken all from e false ps es at same = same

rows_from : (all : List Entry) (from key : ℕ) (es : List Entry) → drop from all ≡ es
    → rows_at all (places_from from key (map key_of es)) ≡ rows_numbered key es
rows_from all from key [] is = refl
rows_from all from key (e ∷ es) is =
    let at = at_drop all from e es is in
    taken all from e (key_of e == key) (places_from (from + 1) key (map key_of es))
    (filter (λ entry. key_of entry == key) es) at.0 (rows_from all (from + 1) key es at.1)

-- the rows at the places of a number are those of this number
pub rows_at_places : (entries : List Entry) (number : ℕ)
    → rows_at entries (places_of number (map key_of entries)) ≡ rows_numbered number entries
rows_at_places entries number = rows_from entries 0 number entries refl

pub places_there : (entries : List Entry) (number : ℕ)
    → All (λ place. place < length entries) (places_of number (map key_of entries))
places_there entries number =
    subst (λ (n : ℕ). All (λ place. place < n) (places_of number (map key_of entries))) (length-map entries key_of)
    (within number (map key_of entries))

-- ---- the rows of one number more

module _ (entries : List Entry) (keys : List ℕ) (lists : List (List ℕ)) (at : ℕ) (list : List ℕ)
    (filed : AreFiled no_number keys lists) (same : keys ≡ map key_of entries) (less : at < length lists)
    (is : list ≡ slice_index_or lists at []) where
  places_are : list ≡ places_of at (map key_of entries)
  places_are =
      let long = filed.long in
      is ∙ (filed.each at (omega arith) ∙ ap (λ (ks : List ℕ). places_of at ks) same)

  pub list_there : All (λ place. place < length entries) list
  list_there =
      subst (λ (ps : List ℕ). All (λ place. place < length entries) ps) (sym places_are) (places_there entries at)

  pub next_rows : (rows new : List Row) → rows ≡ rows_below at entries → new ≡ rows ++ rows_at entries list
      → new ≡ rows_below (at + 1) entries
  unfolding rows_below
  next_rows rows new so_far grown =
      let here : rows_at entries list ≡ rows_numbered at entries =
      ap (λ (ps : List ℕ). rows_at entries ps) places_are ∙ rows_at_places entries at in
      grown
      ∙ (ap (λ (rs : List Row). rs ++ rows_at entries list) so_far
      ∙ (ap (λ (rs : List Row). rows_below at entries ++ rs) here
      ∙ ap (λ (n : ℕ). rows_below n entries) (sym (add-one at))))

pub no_rows : (entries : List Entry) → [] ≡ rows_below 0 entries
unfolding rows_below
no_rows entries = refl

pub all_rows : (entries : List Entry) (keys : List ℕ) (lists : List (List ℕ)) (at : ℕ) (rows : List Row)
    → AreFiled no_number keys lists → length lists ≤ at → at ≤ length lists → rows ≡ rows_below at entries
    → rows ≡ in_order entries
unfolding in_order
all_rows entries keys lists at rows filed past within so_far =
    let long = filed.long in
    so_far ∙ ap (λ (n : ℕ). rows_below n entries) (omega arith)

pub ruleset order_rules = (list_there, next_rows, no_rows, all_rows)
