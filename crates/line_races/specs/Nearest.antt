-- The nearest race for each entry, as the crate finds it.
use Rattle.std.specs.Prelude.{ℕ, zero, suc, ◌==◌, ◌&&◌, ◌++◌, ◌∷◌, [], nat_lt, not, max, Bool, true, false, List}
use Rattle.std.specs.Prelude.{Option, Some, None, slice_get, if◌then◌else◌}
use Rattle.line_plan.specs.Plans.{PlanFields}
use Rattle.line_law.specs.declared.call.Entry.{Entry}
use Rattle.line_journal.specs.Halves.{pair_for}
use Rattle.line_races.specs.Keys.{Key, is_key, other_key, own_key}
use Rattle.line_races.specs.Marks.{is_await}
use Rattle.line_races.specs.Races.{ended_by, keeper_of, maker_of, mark_of, missed_by}
use Rattle.line_races.specs.declared.marks.Mark.{Mark}
use Rattle.line_races.specs.declared.finding.Race.{Race}

-- ---- the last entry with a mark

-- the last position before another at which a test holds
abbrev pub last_where : (ℕ → Bool) → ℕ → Option ℕ
last_where test zero = None
last_where test (suc j) = if test j then Some j else last_where test j

-- the key of the mark that an entry leaves, if there is one and it does
abbrev pub left_key : PlanFields → (Entry → Option Mark) → Option Entry → Option Key
left_key plan left None = None
left_key plan left (Some e) = own_key plan (left e) e

-- the last position before another whose entry left the mark of a key
abbrev pub last_left : PlanFields → List Entry → (ℕ → Entry → Option Mark) → ℕ → Key → Option ℕ
last_left plan es left j key = last_where (λ i. is_key (left_key plan (left i) (slice_get es i)) key) j

-- the same, if there is a key
abbrev pub last_found : PlanFields → List Entry → (ℕ → Entry → Option Mark) → ℕ → Option Key → Option ℕ
last_found plan es left j None = None
last_found plan es left j (Some key) = last_left plan es left j key

-- the marks that entries leave, wherever they stand
abbrev pub marks_of : ℕ → Entry → Option Mark
marks_of i e = mark_of e

-- ---- what each man knows of his neighbours

-- the later of two positions, where there are any
abbrev pub later_of : Option ℕ → Option ℕ → Option ℕ
later_of None found = found
later_of (Some i) None = Some i
later_of (Some i) (Some k) = Some (max i k)

-- the last entry that made the entry at j possible
abbrev pub maker_at : PlanFields → List Entry → ℕ → Entry → Option ℕ
maker_at plan es j x = last_found plan es marks_of j (other_key plan (maker_of x) x)

-- two sides are one
abbrev pub same_side : Bool → Bool → Bool
same_side true side = side
same_side false side = not side

-- an entry's word is shared with the neighbour above its box
abbrev pub is_above : PlanFields → Entry → Bool
is_above plan x = pair_for plan x == x.box_no

-- what the man of box b knows of his neighbour's entries after an entry, if there is one
abbrev pub known_after : PlanFields → List Entry → ℕ → Bool → ℕ → Option Entry → Option ℕ → Option ℕ
known_after plan es b above j None known = known
known_after plan es b above j (Some x) known =
    if (x.box_no == b) && same_side above (is_above plan x) then later_of known (maker_at plan es j x) else known

-- the last entry of his neighbour above or below of which the man of box b surely knows after so many entries
abbrev pub known_before : PlanFields → List Entry → ℕ → Bool → ℕ → Option ℕ
known_before plan es b above zero = None
known_before plan es b above (suc j) =
    known_after plan es b above j (slice_get es j) (known_before plan es b above j)

-- ---- races

-- an entry that was found, if it comes behind all that is known
abbrev pub if_unknown : Option ℕ → Option ℕ → Option ℕ
if_unknown known None = None
if_unknown None (Some i) = Some i
if_unknown (Some k) (Some i) = if nat_lt k i then Some i else None

-- what the man of an entry knows once it is made: an await is satisfied by what made it possible
abbrev pub known_then : Entry → Option ℕ → Option ℕ → Option ℕ
known_then x known maker = if is_await x.call.act then later_of known maker else known

-- the nearest race for an entry, of what its man knows, of what made it possible, of what it keeps back and of what it
-- missed
abbrev pub nearest_of : Entry → Option ℕ → Option ℕ → Option ℕ → Option ℕ → Option ℕ
nearest_of x known maker keeper missed =
    later_of (if_unknown (known_then x known maker) (later_of maker keeper)) (if_unknown known missed)

-- the nearest race for the entry at j
abbrev pub nearest_at : PlanFields → List Entry → ℕ → Entry → Option ℕ
nearest_at plan es j x =
    nearest_of x (known_before plan es x.box_no (is_above plan x) j) (maker_at plan es j x)
    (last_found plan es marks_of j (other_key plan (keeper_of x) x))
    (last_found plan es (ended_by plan es) j (other_key plan (missed_by x) x))

-- the nearest race for the entry at j, if there is one
abbrev pub nearest_before : PlanFields → List Entry → ℕ → Option Entry → Option ℕ
nearest_before plan es j None = None
nearest_before plan es j (Some x) = nearest_at plan es j x

-- a race, if its first entry was found
abbrev pub race_of : Option ℕ → ℕ → List Race
race_of None j = []
race_of (Some i) j = record { first = i; second = j } ∷ []

-- the races for so many entries
abbrev pub races_before : PlanFields → List Entry → ℕ → List Race
races_before plan es zero = []
races_before plan es (suc j) =
    races_before plan es j ++ race_of (nearest_before plan es j (slice_get es j)) j
