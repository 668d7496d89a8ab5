-- What is kept of the entries of a journal, one entry after another.
use Rattle.std.proofs.Common.{ℕ, ◌+◌, ◌<◌, ◌≤◌, ◌==◌, ◌&&◌, ◌≡◌, ⊎_elim, Bool, true, false, List}
use Rattle.std.proofs.Common.{Option, Some, None, refl, sym, ap, subst, ◌∙◌, arith, length, replicate, get_or}
use Rattle.std.specs.Prelude.{slice_get, slice_index_or, if◌then◌else◌}
use Rattle.std.proofs.Math.Numerals.{add-one}
use Rattle.std.proofs.lemmas.Bool.{cases_lt}
use Rattle.std.proofs.lemmas.List.{get_or-replicate, get_or_past, length-replicate}
use Rattle.block_words.specs.declared.Position.{Position}
use Rattle.block_words.specs.declared.Position.TheVariants as shows
use Rattle.block_words.specs.declared.Way.{Way}
use Rattle.block_words.specs.declared.Way.TheVariants.{Up, Down}
use Rattle.line_plan.specs.Plans.{PlanFields}
use Rattle.line_law.specs.declared.call.Entry.{Entry}
use Rattle.line_law.specs.declared.ways.ByWay.{ByWay}
use Rattle.line_law.specs.Ways.{of_way}
use Rattle.word_laws.specs.Footprint.{way_at}
use Rattle.line_journal.specs.Halves.{pair_for}
use Rattle.line_races.specs.Keys.{IsLeft, Key, Positions, is_key, other_key, own_key, position_at, position_found}
use Rattle.line_races.specs.Marks.{mark_ended}
use Rattle.line_races.specs.Nearest.{is_above, known_after, known_before, last_found, last_left, later_of, left_key}
use Rattle.line_races.specs.Nearest.{maker_at, marks_of, nearest_before, nearest_of, same_side}
use Rattle.line_races.specs.Races.{ended_by, keeper_of, maker_of, mark_of, missed_by, position_after, position_before}
use Rattle.line_races.specs.Scans.{IsLearnedFrom, IsMarkedBy, IsScanned, both_normal}
use Rattle.line_races.specs.Scans.{known_of, shown_at}
use Rattle.line_races.specs.declared.known.Known.{Known}
use Rattle.line_races.specs.declared.last_marks.LastMarks.{LastMarks}
use Rattle.line_races.specs.declared.marks.Mark.{Mark}
use Rattle.line_races.specs.declared.scan.Scan.{Scan}
use Rattle.line_races.specs.declared.shown.Shown.{Shown}

-- ---- of no entry

read_replicate : {X : Type 0} (n i : ℕ) (a : X) → get_or (replicate n a) i a ≡ a
read_replicate n i a =
    ⊎_elim (λ (h : i < n). get_or-replicate n i a a h)
    (λ (h : n ≤ i). get_or_past (replicate n a) i a (let e = length-replicate n a in omega arith)) (cases_lt i n)

normal_of : (way : Way) → of_way both_normal way ≡ shows.Normal
normal_of Up = refl
normal_of Down = refl

nothing_known_of : (known : Known) (n b : ℕ) (above : Bool) → known.above.items ≡ replicate n None
    → known.below.items ≡ replicate n None → known_of known b above ≡ None
nothing_known_of known n b true above below =
    ap (λ (xs : List (Option ℕ)). slice_index_or xs b None) above ∙ read_replicate n b None
nothing_known_of known n b false above below =
    ap (λ (xs : List (Option ℕ)). slice_index_or xs b None) below ∙ read_replicate n b None

-- with no marks, all instruments at Normal and no man knowing of his neighbours, that is kept which is to be kept
-- of no entries
pub nothing_scanned : (plan : PlanFields) (es : List Entry) (scan : Scan)
    → ((q : Key) → position_at scan.marks.positions q ≡ None) → ((q : Key) → position_at scan.turns.positions q ≡ None)
    → scan.shown.instruments.items ≡ replicate (length plan.boxes) both_normal
    → scan.known.above.items ≡ replicate (length plan.boxes) None
    → scan.known.below.items ≡ replicate (length plan.boxes) None → IsScanned plan es 0 scan
nothing_scanned plan es scan marks turns shown above below = record {
  marks = marks;
  turns = turns;
  shown = λ p way. ap (λ (xs : List (ByWay Position)). shown_at xs p way) shown
      ∙ ap (λ (both : ByWay Position). of_way both way) (read_replicate (length plan.boxes) p both_normal)
      ∙ normal_of way;
  known = λ b side. nothing_known_of scan.known (length plan.boxes) b side above below;
  boxes = record {
    shown = ap length shown ∙ length-replicate (length plan.boxes) both_normal;
    above = ap length above ∙ length-replicate (length plan.boxes) None;
    below = ap length below ∙ length-replicate (length plan.boxes) None;
  };
}

-- ---- of one entry more

-- the last position at which the mark of a key was left
left_more : (plan : PlanFields) (es : List Entry) (left : ℕ → Entry → Option Mark) (j : ℕ) (x : Entry) (q : Key)
    → slice_get es j ≡ Some x
    → (if is_key (own_key plan (left j x) x) q then Some j else last_left plan es left j q)
    ≡ last_left plan es left (j + 1) q
left_more plan es left j x q there =
    ap (λ (o : Option Entry). if is_key (left_key plan (left j) o) q then Some j else last_left plan es left j q)
    (sym there)
    ∙ ap (λ (n : ℕ). last_left plan es left n q) (sym (add-one j))

-- a look-up finds the last position
found_last : (plan : PlanFields) (es : List Entry) (left : ℕ → Entry → Option Mark) (j : ℕ) (positions : Positions)
    → ((q : Key) → position_at positions q ≡ last_left plan es left j q) → (o : Option Key)
    → position_found positions o ≡ last_found plan es left j o
found_last plan es left j positions each None = refl
found_last plan es left j positions each (Some key) = each key

module _ (plan : PlanFields) (es : List Entry) (j : ℕ) (x : Entry) (old mid new : Scan) (first : Option ℕ)
    (there : slice_get es j ≡ Some x) (scanned : IsScanned plan es j old) (learned : IsLearnedFrom plan x old mid first)
    (marked : IsMarkedBy plan x j mid new) where
  maker_found : position_found old.marks.positions (other_key plan (maker_of x) x) ≡ maker_at plan es j x
  maker_found = found_last plan es marks_of j old.marks.positions scanned.marks (other_key plan (maker_of x) x)

  marks_more : (q : Key) → position_at new.marks.positions q ≡ last_left plan es marks_of (j + 1) q
  marks_more q =
      marked.marks q
      ∙ ap (λ (o : Option ℕ). if is_key (own_key plan (mark_of x) x) q then Some j else o)
      (ap (λ (m : LastMarks). position_at m.positions q) learned.marks ∙ scanned.marks q)
      ∙ left_more plan es marks_of j x q there

  shown_then : (p : ℕ) (way : Way) → shown_at mid.shown.instruments.items p way ≡ position_before plan es p way j
  shown_then p way =
      ap (λ (s : Shown). shown_at s.instruments.items p way) learned.shown ∙ scanned.shown p way

  turns_more : (q : Key) → position_at new.turns.positions q ≡ last_left plan es (ended_by plan es) (j + 1) q
  turns_more q =
      marked.turns q
      ∙ ap (λ (position : Position). if is_key (own_key plan (mark_ended position x.reply) x) q then Some j
      else position_at mid.turns.positions q)
      (shown_then (pair_for plan x) (way_at plan x.box_no x.call))
      ∙ ap (λ (o : Option ℕ). if is_key (own_key plan (ended_by plan es j x) x) q then Some j else o)
      (ap (λ (m : LastMarks). position_at m.positions q) learned.turns ∙ scanned.turns q)
      ∙ left_more plan es (ended_by plan es) j x q there

  shown_more : (p : ℕ) (way : Way)
      → shown_at new.shown.instruments.items p way ≡ position_before plan es p way (j + 1)
  shown_more p way =
      marked.shown p way
      ∙ ap (λ (position : Position). position_after plan p way (Some x) position) (shown_then p way)
      ∙ ap (λ (o : Option Entry). position_after plan p way o (position_before plan es p way j)) (sym there)
      ∙ ap (λ (n : ℕ). position_before plan es p way n) (sym (add-one j))

  known_more : (b : ℕ) (above : Bool) → known_of new.known b above ≡ known_before plan es b above (j + 1)
  known_more b above =
      ap (λ (k : Known). known_of k b above) marked.known
      ∙ learned.learned b above
      ∙ ap (λ (o : Option ℕ). if (x.box_no == b) && same_side above (is_above plan x)
      then later_of (known_of old.known b above) o else known_of old.known b above) maker_found
      ∙ ap (λ (o : Option ℕ). known_after plan es b above j (Some x) o) (scanned.known b above)
      ∙ ap (λ (o : Option Entry). known_after plan es b above j o (known_before plan es b above j)) (sym there)
      ∙ ap (λ (n : ℕ). known_before plan es b above n) (sym (add-one j))

  -- what is to be kept of one entry more
  pub scanned_more : IsScanned plan es (j + 1) new
  scanned_more = record {
    marks = marks_more;
    turns = turns_more;
    shown = shown_more;
    known = known_more;
    boxes = record {
      shown = marked.width ∙ ap (λ (s : Shown). length s.instruments.items) learned.shown ∙ scanned.boxes.shown;
      above = ap (λ (k : Known). length k.above.items) marked.known ∙ learned.above ∙ scanned.boxes.above;
      below = ap (λ (k : Known). length k.below.items) marked.known ∙ learned.below ∙ scanned.boxes.below;
    };
  }

-- the nearest race is found
pub nearest_scanned : (plan : PlanFields) (es : List Entry) (j : ℕ) (x : Entry) (old mid : Scan) (first : Option ℕ)
    → slice_get es j ≡ Some x → IsScanned plan es j old → IsLearnedFrom plan x old mid first
    → first ≡ nearest_before plan es j (slice_get es j)
nearest_scanned plan es j x old mid first there scanned learned =
    let found = found_last plan es marks_of j old.marks.positions scanned.marks in
    let turned = found_last plan es (ended_by plan es) j old.turns.positions scanned.turns in
    let o : Option Key = other_key plan (maker_of x) x in
    let k : Option Key = other_key plan (keeper_of x) x in
    let m : Option Key = other_key plan (missed_by x) x in
    let known : Option ℕ = known_before plan es x.box_no (is_above plan x) j in
    learned.nearest
    ∙ ap (λ (n : Option ℕ). nearest_of x n (position_found old.marks.positions o) (position_found old.marks.positions k)
    (position_found old.turns.positions m)) (scanned.known x.box_no (is_above plan x))
    ∙ ap (λ (n : Option ℕ). nearest_of x known n (position_found old.marks.positions k)
    (position_found old.turns.positions m)) (found o)
    ∙ ap (λ (n : Option ℕ). nearest_of x known (maker_at plan es j x) n (position_found old.turns.positions m))
    (found k)
    ∙ ap (λ (n : Option ℕ). nearest_of x known (maker_at plan es j x) (last_found plan es marks_of j k) n) (turned m)
    ∙ ap (λ (e : Option Entry). nearest_before plan es j e) (sym there)

-- the same mark is left by the same key
pub left_by : (key other : Option Key) (at : ℕ) (old new : Positions) → key ≡ other → IsLeft key at old new
    → IsLeft other at old new
left_by key other at old new same left = subst (λ (k : Option Key). IsLeft k at old new) same left
