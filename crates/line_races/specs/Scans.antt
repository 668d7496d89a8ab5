-- What is kept of a journal while it is gone along.
use Rattle.std.specs.Prelude.{ℕ, ◌≡◌, ◌==◌, ◌&&◌, Bool, true, false, List, Option, Some, None, length, slice_index_or}
use Rattle.std.specs.Prelude.{if◌then◌else◌}
use Rattle.block_words.specs.declared.Position.{Position}
use Rattle.block_words.specs.declared.Position.TheVariants as shows
use Rattle.block_words.specs.declared.Way.{Way}
use Rattle.line_plan.specs.Frames.{same_way}
use Rattle.line_plan.specs.Plans.{PlanFields}
use Rattle.line_law.specs.declared.call.Entry.{Entry}
use Rattle.line_law.specs.declared.ways.ByWay.{ByWay}
use Rattle.line_law.specs.Ways.{of_way}
use Rattle.word_laws.specs.Footprint.{way_at}
use Rattle.line_journal.specs.Halves.{pair_for}
use Rattle.line_races.specs.Keys.{IsLeft, Key, other_key, own_key, position_at, position_found}
use Rattle.line_races.specs.Marks.{mark_ended}
use Rattle.line_races.specs.Nearest.{is_above, known_before, last_left, later_of, marks_of, nearest_of, same_side}
use Rattle.line_races.specs.Races.{ended_by, keeper_of, maker_of, mark_of, missed_by, position_after, position_before}
use Rattle.line_races.specs.declared.known.Known.{Known}
use Rattle.line_races.specs.declared.scan.Scan.{Scan}

-- ---- positions

-- both instruments of a pair at Normal
abbrev pub both_normal : ByWay Position
both_normal = record { up = shows.Normal; down = shows.Normal }

-- the position of the instrument of this pair and way
abbrev pub shown_at : List (ByWay Position) → ℕ → Way → Position
shown_at instruments p way = of_way (slice_index_or instruments p both_normal) way

-- the instrument of this pair and way was turned to a position, and no other one
abbrev pub IsTurnedTo : ℕ → Way → Position → List (ByWay Position) → List (ByWay Position) → Type 0
IsTurnedTo pair way position old new =
    (p : ℕ) (w : Way) → shown_at new p w
    ≡ if (pair == p) && same_way way w then position else shown_at old p w

-- ---- what each man knows

-- what the man of box b knows of his neighbour above or below
abbrev pub known_of : Known → ℕ → Bool → Option ℕ
known_of known b true = slice_index_or known.above.items b None
known_of known b false = slice_index_or known.below.items b None

-- the man of a box learns of an entry of his neighbour, if there is one; nothing else is learned
abbrev pub IsLearned : ℕ → Bool → Option ℕ → Known → Known → Type 0
IsLearned box_no above found old new =
    (b : ℕ) (side : Bool) → known_of new b side
    ≡ if (box_no == b) && same_side side above then later_of (known_of old b side) found else known_of old b side

-- there is room for so many boxes
pub record IsForBoxes (boxes : ℕ) (scan : Scan) : Type 0 where
  pub shown : length scan.shown.instruments.items ≡ boxes
  pub above : length scan.known.above.items ≡ boxes
  pub below : length scan.known.below.items ≡ boxes

-- this is what is to be kept of so many entries of a journal
pub record IsScanned (plan : PlanFields) (es : List Entry) (j : ℕ) (scan : Scan) : Type 0 where
  pub marks : (q : Key) → position_at scan.marks.positions q ≡ last_left plan es marks_of j q
  pub turns : (q : Key) → position_at scan.turns.positions q ≡ last_left plan es (ended_by plan es) j q
  pub shown : (p : ℕ) (way : Way) → shown_at scan.shown.instruments.items p way ≡ position_before plan es p way j
  pub known : (b : ℕ) (above : Bool) → known_of scan.known b above ≡ known_before plan es b above j
  pub boxes : IsForBoxes (length plan.boxes) scan

-- An entry was looked at: its nearest race, as the marks so far tell it; and its man has learned of the entry that made
-- it possible. Nothing else changes.
pub record IsLearnedFrom (plan : PlanFields) (x : Entry) (old new : Scan) (first : Option ℕ) : Type 0 where
  pub nearest : first ≡ nearest_of x (known_of old.known x.box_no (is_above plan x))
      (position_found old.marks.positions (other_key plan (maker_of x) x))
      (position_found old.marks.positions (other_key plan (keeper_of x) x))
      (position_found old.turns.positions (other_key plan (missed_by x) x))
  pub learned : IsLearned x.box_no (is_above plan x)
      (position_found old.marks.positions (other_key plan (maker_of x) x)) old.known new.known
  pub above : length new.known.above.items ≡ length old.known.above.items
  pub below : length new.known.below.items ≡ length old.known.below.items
  pub marks : new.marks ≡ old.marks
  pub turns : new.turns ≡ old.turns
  pub shown : new.shown ≡ old.shown

-- the positions of the instruments after an entry
abbrev pub IsShownAfter : PlanFields → Entry → List (ByWay Position) → List (ByWay Position) → Type 0
IsShownAfter plan e old new =
    (p : ℕ) (way : Way) → shown_at new p way ≡ position_after plan p way (Some e) (shown_at old p way)

-- an entry has left its marks; what each man knows is as it was
pub record IsMarkedBy (plan : PlanFields) (e : Entry) (at : ℕ) (old new : Scan) : Type 0 where
  pub marks : IsLeft (own_key plan (mark_of e) e) at old.marks.positions new.marks.positions
  pub turns : IsLeft (own_key plan
      (mark_ended (shown_at old.shown.instruments.items (pair_for plan e) (way_at plan e.box_no e.call)) e.reply) e) at
      old.turns.positions new.turns.positions
  pub shown : IsShownAfter plan e old.shown.instruments.items new.shown.instruments.items
  pub width : length new.shown.instruments.items ≡ length old.shown.instruments.items
  pub known : new.known ≡ old.known
