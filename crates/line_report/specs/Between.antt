-- The trains of the two sections between each two neighbours: pair p is of the boxes p and p + 1.
use Rattle.std.specs.Prelude.{◌≡◌, ◌≢◌, ◌⊎◌, ℕ, ◌+◌, ◌<◌, ◌^◌, List, [], ◌∷◌, ◌++◌, length, true, false}
use Rattle.std.specs.Prelude.{slice_index_or, slice_set}
use Rattle.block_words.specs.declared.Way.{Way}
use Rattle.block_words.specs.declared.Way.TheVariants.{Up, Down}
use Rattle.line_plan.specs.Plans.{PlanFields}
use Rattle.line_plan.specs.declared.section.Section.{Section}
use Rattle.line_law.specs.declared.call.Entry.{Entry}
use Rattle.line_law.specs.declared.ways.ByWay.{ByWay}
use Rattle.line_law.specs.Ways.{of_way}
use Rattle.line_report.specs.Gains.{count_after, counts_trains}
use Rattle.line_report.specs.Sections.{most_of, section_text}
use Rattle.line_report.specs.declared.sections.HeldTrains.{HeldTrains}

-- the section of a way between the boxes of pair p
abbrev pub section_between : ℕ → Way → Section
section_between p Up = record { rear = p + 1; way = Up }
section_between p Down = record { rear = p; way = Down }

-- no trains on either way
abbrev pub no_trains : ByWay HeldTrains
no_trains = record { up = record { now = 0; most = 0 }; down = record { now = 0; most = 0 } }

-- the trains of pair p, of those of each pair
abbrev pub trains_at : List (ByWay HeldTrains) → ℕ → ByWay HeldTrains
trains_at trains p = slice_index_or trains p no_trains

-- each of a pair's two sections may gain a train, and the number still fits its type
abbrev pub MayGain : ByWay HeldTrains → Type 0
MayGain trains = (trains.up.now + 1 < 2 ^ 32) × (trains.down.now + 1 < 2 ^ 32)

-- the most that each pair's sections held are those of the journal
pub record AreMost (plan : PlanFields) (es : List Entry) (trains : List (ByWay HeldTrains)) : Type 0 where
  pub each : length trains + 1 ≡ length plan.boxes
  pub at_pair : (p : ℕ) (way : Way) → p < length trains
      → (of_way (trains_at trains p) way).most ≡ most_of plan es (section_between p way)

-- the trains of the two sections of pair p after an entry
abbrev pub pair_after : PlanFields → Entry → ℕ → ByWay HeldTrains → ByWay HeldTrains
pair_after plan e p trains =
    record {
      up = count_after plan (section_between p Up) e trains.up;
      down = count_after plan (section_between p Down) e trains.down;
    }

-- pair p is counted on by an entry
abbrev pub pairs_after : PlanFields → Entry → ℕ → List (ByWay HeldTrains) → List (ByWay HeldTrains)
pairs_after plan e p trains = slice_set trains p (pair_after plan e p (trains_at trains p))

-- the pairs of an entry's box are counted on by it; all others stay
pub record CountsBeside (plan : PlanFields) (e : Entry) (old new : List (ByWay HeldTrains)) : Type 0 where
  pub each : length new ≡ length old
  pub beside : (p : ℕ) → p < length old → (p ≡ e.box_no) ⊎ (p + 1 ≡ e.box_no)
      → trains_at new p ≡ pair_after plan e p (trains_at old p)
  pub others : (p : ℕ) → p ≢ e.box_no → p + 1 ≢ e.box_no → trains_at new p ≡ trains_at old p

-- the trains of each pair are counted on by an entry; where its reply tells of none more or less, all stay
pub record CountsOn (plan : PlanFields) (e : Entry) (old new : List (ByWay HeldTrains)) : Type 0 where
  pub beside : counts_trains e.reply ≡ true → CountsBeside plan e old new
  pub none : counts_trains e.reply ≡ false → new ≡ old

-- the lines of the two sections of pair p: the down line's, then the up line's
abbrev pub pair_text : PlanFields → ℕ → ByWay HeldTrains → List ℕ
pair_text plan p trains = section_text plan (section_between p Down) trains.down.most
    ++ section_text plan (section_between p Up) trains.up.most

-- the lines of all sections, by the trains of each pair from pair p on
abbrev pub pairs_text : PlanFields → ℕ → List (ByWay HeldTrains) → List ℕ
pairs_text plan p [] = []
pairs_text plan p (trains ∷ others) = pair_text plan p trains ++ pairs_text plan (p + 1) others
