-- The keys under which the marks of a journal are kept.
use Rattle.std.specs.Prelude.{ℕ, ◌+◌, ◌==◌, ◌&&◌, ◌≡◌, Bool, false, Option, Some, None, nat_eq, option_map}
use Rattle.std.specs.Prelude.{if◌then◌else◌}
use Rattle.std.specs.HashMap.{HashMap, get}
use Rattle.std.specs.declared.hash.FoldHasher.{FoldHasher}
use Rattle.std.specs.declared.hash.BuildHasherDefault.{BuildHasherDefault}
use Rattle.block_words.specs.declared.Position.{Position}
use Rattle.block_words.specs.declared.Position.TheVariants as shows
use Rattle.block_words.specs.declared.Way.{Way}
use Rattle.block_words.specs.declared.Way.TheVariants.{Up, Down}
use Rattle.line_plan.specs.Plans.{PlanFields}
use Rattle.line_law.specs.declared.call.Entry.{Entry}
use Rattle.word_laws.specs.Footprint.{way_at}
use Rattle.line_journal.specs.Halves.{pair_for}
use Rattle.line_races.specs.declared.marks.Mark.{Mark}
use Rattle.line_races.specs.declared.marks.Mark.TheVariants.{RungAs, BusyAt, HeardAs, InVainAt, TurnedAs, UsedAt}
use Rattle.line_races.specs.declared.marks.Mark.TheVariants.{EnteredAs, FullUntil, NoneAt, LeftAs, TurnedFrom}

-- the number of a way
abbrev pub way_no : Way → ℕ
way_no Up = 0
way_no Down = 1

-- the number of a position
abbrev pub position_no : Position → ℕ
position_no shows.Normal = 0
position_no shows.LineClear = 1
position_no shows.TrainOnLine = 2

-- the number of a mark's kind
abbrev pub kind_no : Mark → ℕ
kind_no (RungAs k) = 0
kind_no (BusyAt k) = 1
kind_no (HeardAs k) = 2
kind_no (InVainAt k) = 3
kind_no (TurnedAs v) = 4
kind_no (UsedAt v) = 5
kind_no (EnteredAs k) = 6
kind_no (FullUntil k) = 7
kind_no (NoneAt k) = 8
kind_no (LeftAs k) = 9
kind_no (TurnedFrom position) = 10

-- the number in a mark
abbrev pub number_in : Mark → ℕ
number_in (RungAs k) = k
number_in (BusyAt k) = k
number_in (HeardAs k) = k
number_in (InVainAt k) = k
number_in (TurnedAs v) = v
number_in (UsedAt v) = v
number_in (EnteredAs k) = k
number_in (FullUntil k) = k
number_in (NoneAt k) = k
number_in (LeftAs k) = k
number_in (TurnedFrom position) = position_no position

-- the key of a mark: the box that left it, the pair and the way of its word, its kind and its number
abbrev pub Key : Type 0
Key = ℕ × ℕ × ℕ × ℕ × ℕ

-- the key of a mark that a box has left on the word of an entry
abbrev pub key_at : PlanFields → ℕ → Entry → Mark → Key
key_at plan b e mark =
    (b, pair_for plan e, way_no (way_at plan e.box_no e.call), kind_no mark, number_in mark)

-- the box at the other end of an entry's word
abbrev pub other_end : PlanFields → Entry → ℕ
other_end plan x = if pair_for plan x == x.box_no then x.box_no + 1 else pair_for plan x

-- the key of a mark that an entry leaves, if it does
abbrev pub own_key : PlanFields → Option Mark → Entry → Option Key
own_key plan mark e = option_map (key_at plan e.box_no e) mark

-- the key of a mark that an entry looks for, if it does
abbrev pub other_key : PlanFields → Option Mark → Entry → Option Key
other_key plan mark x = option_map (key_at plan (other_end plan x) x) mark

-- ---- equal keys

-- two keys are one
abbrev pub same_key : Key → Key → Bool
same_key a b =
    (((nat_eq a.0 b.0 && nat_eq a.1 b.1) && nat_eq a.2 b.2) && nat_eq a.3 b.3) && nat_eq a.4 b.4

-- there is a key, and it is this one
abbrev pub is_key : Option Key → Key → Bool
is_key None q = false
is_key (Some key) q = same_key key q

-- the positions of the last marks, by their keys
abbrev pub Positions : Type 0
Positions = HashMap Key ℕ (BuildHasherDefault FoldHasher)

-- where the last mark of a key stands
abbrev pub position_at : Positions → Key → Option ℕ
position_at positions key = get same_key positions key

-- where the last mark of a key stands, if there is a key
abbrev pub position_found : Positions → Option Key → Option ℕ
position_found positions None = None
position_found positions (Some key) = position_at positions key

-- the last mark of a key, if there is one, was left at this position; those of other keys stand where they stood
abbrev pub IsLeft : Option Key → ℕ → Positions → Positions → Type 0
IsLeft key position old new =
    (q : Key) → position_at new q ≡ if is_key key q then Some position else position_at old q
