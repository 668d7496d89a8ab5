-- The indicator board: rounds of sights, and how they are printed.
use Rattle.std.specs.Prelude.{◌≡◌, ℕ, ◌+◌, ◌*◌, ◌-◌, ◌≤◌, List, [], ◌∷◌, ◌++◌, All, length, codes, decimal}
use Rattle.block_words.specs.declared.Way.{Way}
use Rattle.block_words.specs.declared.Way.TheVariants.{Up, Down}
use Rattle.line_plan.specs.Plans.{PlanFields}
use Rattle.line_plan.specs.Sections.{section_name, sections_of}
use Rattle.line_plan.specs.declared.section.Section.{Section}
use Rattle.script_text.specs.Names.{position_text}
use Rattle.script_text.specs.Replies.{spent_text}
use Rattle.line_watch.specs.declared.sight.Sight.{Sight}

-- a board: of how many boxes its line is, how many rounds are still to be filled, and the rounds so far, each with a
-- sight of each section in the order in which sections are printed
pub record BoardFields : Type 0 where
  pub boxes : ℕ
  pub left : ℕ
  pub rounds : List (List Sight)

-- a round: its sights so far, and for how many more it has room
pub record RoundFields : Type 0 where
  pub sights : List Sight
  pub spare : ℕ

-- how many sections a line of so many boxes has
abbrev pub section_count : ℕ → ℕ
section_count boxes = 2 * (boxes - 1)

-- a round with no sights, and room for one of each section of a line of so many boxes
abbrev pub blank_round : ℕ → RoundFields
blank_round boxes = record { sights = []; spare = section_count boxes }

-- what every board keeps: each round so far has a sight of each section, and each of the others is blank and has its
-- room already; there are at most 1000
pub record IsBoard (boxes : ℕ) (rounds blank : List RoundFields) (capacity : ℕ) : Type 0 where
  pub full : All (λ round. length round.sights ≡ section_count boxes) rounds
  pub blank_left : All (λ round. round ≡ blank_round boxes) blank
  pub has_room : length rounds + length blank ≤ capacity
  pub few : length rounds + length blank ≤ 1000

-- the number of the section of a way that a box is in the rear of
abbrev pub number_on : ℕ → Way → ℕ
number_on rear Up = 2 * rear - 1
number_on rear Down = 2 * rear

-- the number of a section, from 0, in the order in which sections are printed: of each pair of neighbours the down
-- line's, then the up line's
abbrev pub section_number : Section → ℕ
section_number section = number_on section.rear section.way

-- ---- as it is printed

-- what an instrument showed: its turn count, its position and its spent mark
unfoldable pub shown_text : Sight → List ℕ
shown_text sight = decimal sight.turns ++ 32 ∷ position_text sight.position ++ 32 ∷ spent_text sight.spent

-- a sight's line: its round, its section and what the instrument showed
unfoldable pub sight_text : PlanFields → ℕ → Section → Sight → List ℕ
sight_text plan round section sight =
    decimal round ++ 32 ∷ section_name plan section ++ 32 ∷ shown_text sight ++ 10 ∷ []

-- a round's lines, one for each section
abbrev pub round_text : PlanFields → ℕ → List Section → List Sight → List ℕ
round_text plan round [] sights = []
round_text plan round (section ∷ sections) [] = []
round_text plan round (section ∷ sections) (sight ∷ sights) =
    sight_text plan round section sight ++ round_text plan round sections sights

-- the lines of rounds, numbered from this number on
abbrev pub rounds_text : PlanFields → ℕ → List (List Sight) → List ℕ
rounds_text plan number [] = []
rounds_text plan number (round ∷ rounds) =
    round_text plan number (sections_of plan) round ++ rounds_text plan (number + 1) rounds

-- a board of these rounds
unfoldable pub board_text : PlanFields → List (List Sight) → List ℕ
board_text plan rounds = codes "board " ++ decimal (length rounds) ++ 10 ∷ rounds_text plan 1 rounds
