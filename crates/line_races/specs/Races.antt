-- The races of a journal: places where two men who weren't made to wait for one another come to a shared word. They may
-- come to it in the other order on another run, and be told something else.
use Rattle.std.specs.Prelude.{ℕ, zero, suc, ◌≡◌, ◌≢◌, ◌<◌, ◌==◌, ◌&&◌, ◌⊎◌, true, List, Option, Some, None}
use Rattle.std.specs.Prelude.{All, Any, map, slice_get, if◌then◌else◌}
use Rattle.std.specs.List.Sorted.{IsStrictlyIncreasing}
use Rattle.block_words.specs.declared.Position.{Position}
use Rattle.block_words.specs.declared.Position.TheVariants as shows
use Rattle.block_words.specs.declared.Way.{Way}
use Rattle.line_plan.specs.Frames.{same_way}
use Rattle.line_plan.specs.Plans.{PlanFields}
use Rattle.line_law.specs.declared.call.Entry.{Entry}
use Rattle.word_laws.specs.Footprint.{way_at}
use Rattle.line_journal.specs.Fits.{position_of}
use Rattle.line_journal.specs.Halves.{pair_for}
use Rattle.line_journal.specs.Order.{on_one_word}
use Rattle.line_races.specs.Marks.{is_await, is_turned, kept_by, made_by, mark_ended, mark_left, mark_missed}
use Rattle.line_races.specs.declared.marks.Mark.{Mark}
use Rattle.line_races.specs.declared.finding.Race.{Race}

-- ---- two entries

-- entries of two boxes on one word: the first leaves a mark there, which is the one that the second looks for
pub record FindsMark (plan : PlanFields) (left sought : Entry → Option Mark) (e x : Entry) : Type 0 where
  pub apart : e.box_no ≢ x.box_no
  pub word : on_one_word plan e x ≡ true
  pub mark : Mark
  pub leaves : left e ≡ Some mark
  pub seeks : sought x ≡ Some mark

-- the mark that an entry leaves
abbrev pub mark_of : Entry → Option Mark
mark_of e = mark_left e.reply

-- the mark that made an entry's reply possible
abbrev pub maker_of : Entry → Option Mark
maker_of x = made_by x.reply

-- the mark that can't come behind an entry without being another one
abbrev pub keeper_of : Entry → Option Mark
keeper_of x = kept_by x.reply

-- the mark of a turn that ends the position which an entry awaited and saw
abbrev pub missed_by : Entry → Option Mark
missed_by x = mark_missed x.call.act x.reply

-- an earlier entry of a journal is so related to a later one
pub record AreRelated (es : List Entry) (R : Entry → Entry → Type 0) (i j : ℕ) : Type 0 where
  pub earlier : i < j
  pub first : Entry
  pub second : Entry
  pub first_at : slice_get es i ≡ Some first
  pub second_at : slice_get es j ≡ Some second
  pub related : R first second

-- ---- what comes before what

-- entry j's reply was made possible by entry i on their word
abbrev pub MakesPossible : PlanFields → List Entry → ℕ → ℕ → Type 0
MakesPossible plan es = AreRelated es (FindsMark plan mark_of maker_of)

-- two entries are of one box
abbrev pub AreOfOneBox : Entry → Entry → Type 0
AreOfOneBox e x = e.box_no ≡ x.box_no

-- entry i comes directly before entry j: it is an earlier one of its box, or made its reply possible
abbrev pub IsDirectlyBefore : PlanFields → List Entry → ℕ → ℕ → Type 0
IsDirectlyBefore plan es i j = AreRelated es AreOfOneBox i j ⊎ MakesPossible plan es i j

-- entry i comes before entry j: a chain of such
pub data ComesBefore (plan : PlanFields) (es : List Entry) (i : ℕ) : ℕ → Type 0 where
  Directly : {j : ℕ} → IsDirectlyBefore plan es i j → ComesBefore plan es i j
  Later : {k j : ℕ} → ComesBefore plan es i k → IsDirectlyBefore plan es k j → ComesBefore plan es i j

-- the man of entry j knew of entry i beforehand: it comes before an earlier entry of his
pub record IsKnownAt (plan : PlanFields) (es : List Entry) (i j : ℕ) : Type 0 where
  pub own : ℕ
  pub earlier : AreRelated es AreOfOneBox own j
  pub before : ComesBefore plan es i own

-- entry j is an await, and entry i satisfied it or comes before the one that did
pub record IsAwaitedAt (plan : PlanFields) (es : List Entry) (i j : ℕ) : Type 0 where
  pub await : Entry
  pub await_at : slice_get es j ≡ Some await
  pub waits : is_await await.call.act ≡ true
  pub maker : ℕ
  pub makes : MakesPossible plan es maker j
  pub before : (i ≡ maker) ⊎ ComesBefore plan es i maker

-- the man of entry j was made to wait for entry i
abbrev pub IsWaitedFor : PlanFields → List Entry → ℕ → ℕ → Type 0
IsWaitedFor plan es i j = IsKnownAt plan es i j ⊎ IsAwaitedAt plan es i j

-- ---- races

-- two entries meet on their word: the first leaves a mark that made the second possible, or that can't come behind it
-- without being another one
abbrev pub MeetOnWord : PlanFields → Entry → Entry → Type 0
MeetOnWord plan e x = FindsMark plan mark_of maker_of e x ⊎ FindsMark plan mark_of keeper_of e x

-- entries i and j of a journal meet so
abbrev pub Meet : PlanFields → List Entry → ℕ → ℕ → Type 0
Meet plan es = AreRelated es (MeetOnWord plan)

-- the position of the instrument of this pair and way after an entry, if there is one
abbrev pub position_after : PlanFields → ℕ → Way → Option Entry → Position → Position
position_after plan p way None position = position
position_after plan p way (Some e) position =
    if is_turned e.reply && ((pair_for plan e == p) && same_way (way_at plan e.box_no e.call) way)
    then position_of e.call.act else position

-- the position of the instrument of this pair and way after so many entries; it is Normal at first
abbrev pub position_before : PlanFields → List Entry → ℕ → Way → ℕ → Position
position_before plan es p way zero = shows.Normal
position_before plan es p way (suc i) =
    position_after plan p way (slice_get es i) (position_before plan es p way i)

-- the mark of the position that entry i ends, where it turns an instrument
abbrev pub ended_by : PlanFields → List Entry → ℕ → Entry → Option Mark
ended_by plan es i e = mark_ended (position_before plan es (pair_for plan e) (way_at plan e.box_no e.call) i) e.reply

-- The await of an instrument's position at entry j might have been satisfied earlier: entry i has turned the instrument
-- from that position, and the man didn't know of it beforehand. So he may come upon the position before that turn.
pub record MightHaveSeen (plan : PlanFields) (es : List Entry) (i j : ℕ) : Type 0 where
  pub turned : AreRelated es (FindsMark plan (ended_by plan es i) missed_by) i j
  pub unknown : IsKnownAt plan es i j → ⊥

-- a race: entries that meet on their word, the first of which wasn't waited for; or a position that was missed
abbrev pub IsRace : PlanFields → List Entry → ℕ → ℕ → Type 0
IsRace plan es i j = (Meet plan es i j × (IsWaitedFor plan es i j → ⊥)) ⊎ MightHaveSeen plan es i j

-- the nearest race for entry j
pub record IsNearestRace (plan : PlanFields) (es : List Entry) (i j : ℕ) : Type 0 where
  pub race : IsRace plan es i j
  pub nearest : (k : ℕ) → i < k → IsRace plan es k j → ⊥

-- exactly the races of a journal, in its order, the nearest for each entry
pub record AreRaces (plan : PlanFields) (es : List Entry) (races : List Race) : Type 0 where
  pub each : All (λ race. IsNearestRace plan es race.first race.second) races
  pub none_left_out : (i j : ℕ) → IsRace plan es i j → Any (λ race. race.second ≡ j) races
  pub rising : IsStrictlyIncreasing (map (λ race. race.second) races)
