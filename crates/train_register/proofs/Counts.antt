-- How many entries each box has, counted one by one, and the registers that are opened for so many.
use Rattle.std.specs.Prelude.{slice_index}
use Rattle.std.proofs.Common.{◌≡◌, ℕ, ◌<◌, ◌≤◌, not, eqb, List, [], length, take, get_or, refl, ap, ◌∙◌, arith}
use Rattle.std.proofs.lemmas.List.{get_or_read, length-take, take_all}
use Rattle.std.proofs.lemmas.List.Filters.{length-filter_both}
use Rattle.std.proofs.lemmas.List.FromFn.{fill_by_all, get_or-map-range_with_len, length-map-range_with_len}
use Rattle.line_law.specs.declared.call.Entry.{Entry}
use Rattle.line_law.specs.History.{part_of}
use Rattle.train_register.specs.Registers.{RegisterFields}
use Rattle.train_register.specs.Filling.{AreFilling, AreOpened, counts_of}

-- a box has no more entries than there are
length-part : (b : ℕ) (es : List Entry) → length (part_of b es) ≤ length es
length-part b es =
    omega (
      arith,
      length-filter_both (λ (e : Entry). eqb e.box_no b) (λ (e : Entry). not (eqb e.box_no b)) (λ _. refl) es,
    )

-- how many of the entries each of so many boxes has
pub record AreCounts (boxes : ℕ) (es : List Entry) (counts : List ℕ) : Type 0 where
  pub each : length counts ≡ boxes
  pub count : (b : ℕ) → b < boxes → get_or counts b 0 ≡ length (part_of b es)

-- no more are counted than were gone through
pub count_few : (boxes i b : ℕ) (es : List Entry) (counts : List ℕ) (was : ℕ) → b < boxes
    → AreCounts boxes (take i es) counts → was ≡ get_or counts b was → was ≤ i
count_few boxes i b es counts was in_line are read =
    let was_is : was ≡ length (part_of b (take i es)) =
    get_or_read counts b was (omega (arith, are.each)) read 0 ∙ are.count b in_line in
    omega (arith, length-part b (take i es), length-take i es)

-- when all are gone through, all are counted
pub all_counted : (boxes i : ℕ) (es : List Entry) (counts : List ℕ) → length es ≤ i → AreCounts boxes (take i es) counts
    → counts ≡ counts_of boxes es
all_counted boxes i es counts all are =
    fill_by_all (λ (b : ℕ). length (part_of b es)) counts boxes 0 are.each
    (λ b in_b. are.count b in_b ∙ ap (λ (xs : List Entry). length (part_of b xs)) (take_all i es all))

-- registers that are opened for as many entries as their boxes have
pub filling_none : (boxes : ℕ) (es : List Entry) (rooms : List ℕ) (registers : List RegisterFields)
    → rooms ≡ counts_of boxes es → length registers ≡ boxes → AreOpened rooms registers → AreFilling [] es registers
filling_none boxes es rooms registers rooms_are each are b lt =
    let count : ℕ → ℕ = λ n. length (part_of n es) in
    let within : length rooms ≡ boxes = ap length rooms_are ∙ length-map-range_with_len count 0 boxes in
    let room : slice_index rooms b ≡ count b =
    ap (λ (ns : List ℕ). get_or ns b 0) rooms_are
    ∙ get_or-map-range_with_len count 0 boxes b b 0 (omega arith) (omega arith) in
    are b (omega arith) ∙ ap (λ (n : ℕ). record { box_no = b; entries = []; spare = n }) room
