-- The numbers of the shared words of a line, and which words agree with what a box has for itself.
use Rattle.std.specs.Prelude.{ℕ, ◌≡◌, ◌+◌, ◌%◌, ◌<◌, ◌≤◌, ◌^◌, List, [], ◌∷◌, Option, Some, None, Bool, true, false}
use Rattle.std.specs.Prelude.{◌&&◌, ◌==◌, if◌then◌else◌, All, IfSome, length}
use Rattle.block_words.specs.Bells.{bell_word}
use Rattle.block_words.specs.Instruments.{block_word}
use Rattle.block_words.specs.Sections.{lanes_word}
use Rattle.block_words.specs.declared.Way.{Way}
use Rattle.line_plan.specs.Plans.{PlanFields}
use Rattle.line_plan.specs.Sections.{advance_of}
use Rattle.line_plan.specs.declared.section.Section.{Section}
use Rattle.line_law.specs.declared.call.Entry.{Entry}
use Rattle.line_law.specs.declared.link.Link.{Link}
use Rattle.line_law.specs.declared.link.Link.TheVariants.{Out, In}
use Rattle.line_law.specs.declared.state.Bell.{Bell}
use Rattle.line_law.specs.declared.state.Block.{Block}
use Rattle.line_law.specs.declared.state.BoxState.{BoxState}
use Rattle.line_law.specs.declared.state.PairState.{PairState}
use Rattle.line_law.specs.declared.state.Passage.{Passage}
use Rattle.word_laws.specs.Footprint.{Kind, Tally, BellWord, BlockWord, PlainLineWord}
use Rattle.line_law.specs.History.{state_of}
use Rattle.line_law.specs.Lines.{AreNumbered, IsFirst, pair_in}
use Rattle.line_law.specs.Law.{pair_of, box_plan_of, link_of}
use Rattle.line_law.specs.Links.{way_of}
use Rattle.line_law.specs.States.{LineState, box_at, pair_at}
use Rattle.word_laws.specs.TellsWord.{kind_told}
use Rattle.line_law.specs.Ways.{of_way}

-- ---- the words of a pair

-- the number of the code that stands unheard; 0 is none
abbrev pub code_number : Option ℕ → ℕ
code_number None = 0
code_number (Some code) = code

-- a bell's number
abbrev pub bell_number : Bell → ℕ
bell_number bell = bell_word bell.count (code_number bell.unheard)

-- an instrument's number
abbrev pub block_number : Block → ℕ
block_number block = block_word block.turns block.spent block.position

-- the train on a plain line that stands in lane i, of 0 to 3: the one whose number is i modulo 4; 0 where there is none
abbrev pub lane_of : List Passage → ℕ → ℕ
lane_of [] i = 0
lane_of (passage ∷ line) i = if passage.number % 4 == i then passage.train else lane_of line i

-- a plain line's number
abbrev pub plain_line_number : List Passage → ℕ
plain_line_number line = lanes_word (lane_of line)

-- the number of a pair's word of this kind and way; a pair has no tally
abbrev pub number_at : Kind → Way → PairState → ℕ
number_at Tally way pair = 0
number_at BellWord way pair = bell_number (of_way pair.bells way)
number_at BlockWord way pair = block_number (of_way pair.blocks way)
number_at PlainLineWord way pair = plain_line_number (of_way pair.lines way)

-- ---- the words of a line

-- a shared word of a line: the tally of a box, or a word of the pair p of the boxes p and p + 1
pub data Word : Type 0 where
  TallyOf : ℕ → Word
  BellOf : ℕ → Way → Word
  BlockOf : ℕ → Way → Word
  PlainLineOf : ℕ → Way → Word

-- the word of this kind, of a box, or of a pair and a way
abbrev pub word_named : Kind → ℕ → ℕ → Way → Word
word_named Tally b p way = TallyOf b
word_named BellWord b p way = BellOf p way
word_named BlockWord b p way = BlockOf p way
word_named PlainLineWord b p way = PlainLineOf p way

-- the word on which an entry's call was decided, by its act and its reply alone
abbrev pub word_of : PlanFields → Entry → Word
word_of plan e = word_named (kind_told e.reply) e.box_no (pair_of plan e.box_no e.call)
    (way_of (link_of (box_plan_of plan e.box_no) e.call.act))

-- a kind is the tally
abbrev pub is_tally : Kind → Bool
is_tally Tally = true
is_tally BellWord = false
is_tally BlockWord = false
is_tally PlainLineWord = false

-- one where it is so, and none where it isn't
abbrev pub one_if : Bool → ℕ
one_if true = 1
one_if false = 0

-- one for an entry of box b that was decided in the box alone
abbrev pub tally_added : ℕ → Entry → ℕ
tally_added b e = one_if ((e.box_no == b) && is_tally (kind_told e.reply))

-- how many of the entries are of box b and were decided in the box alone
abbrev pub tally_of : ℕ → List Entry → ℕ
tally_of b [] = 0
tally_of b (e ∷ es) = tally_added b e + tally_of b es

-- the number of a shared word after a history
abbrev pub number_after : PlanFields → List Entry → Word → ℕ
number_after plan es (TallyOf b) = tally_of b es
number_after plan es (BellOf p way) = number_at BellWord way (pair_at (state_of plan es) p)
number_after plan es (BlockOf p way) = number_at BlockWord way (pair_at (state_of plan es) p)
number_after plan es (PlainLineOf p way) = number_at PlainLineWord way (pair_at (state_of plan es) p)

-- ---- words that agree with a box

-- a code fits a bell's word, and isn't 0
abbrev pub IsCodeNo : ℕ → Type 0
IsCodeNo code = (0 < code) × (code < 256)

-- a train fits a lane, and isn't 0
abbrev pub IsTrainNo : ℕ → Type 0
IsTrainNo train = (0 < train) × (train < 65536)

-- the box in the rear of a line rings its bell: it has counted the codes
abbrev pub RungHere : Link → BoxState → Bell → Type 0
RungHere (Out way) here bell = bell.count ≡ of_way here.rung way
RungHere (In way) here bell = Unit {0}

-- a bell agrees with a box on its line
pub record BellAgrees (link : Link) (here : BoxState) (bell : Bell) : Type 0 where
  pub code : IfSome bell.unheard IsCodeNo
  pub count : bell.count < 2 ^ 56
  pub rung : RungHere link here bell

-- the box in advance of a line turns its instrument: it has counted the turns, and its commutator shows the position
abbrev pub TurnedHere : Link → BoxState → Block → Type 0
TurnedHere (Out way) here block = Unit {0}
TurnedHere (In way) here block =
    (block.turns ≡ (of_way here.incoming way).turns) × (block.position ≡ (of_way here.incoming way).position)

-- an instrument agrees with a box on its line
pub record BlockAgrees (link : Link) (here : BoxState) (block : Block) : Type 0 where
  pub count : block.turns < 2 ^ 61
  pub turned : TurnedHere link here block

-- The box in the rear of a line sends its trains: the last one's number is that of the trains sent. The box in advance
-- takes them: the first one's number is one more than the trains taken, and a left portion is that train's.
abbrev pub NumberedHere : Link → BoxState → List Passage → Type 0
NumberedHere (Out way) here line = (taken : ℕ) × AreNumbered taken (of_way here.sent way) line
NumberedHere (In way) here line =
    (sent : ℕ) × AreNumbered (of_way here.incoming way).taken sent line
    × IsFirst (of_way here.incoming way).portion line

-- a plain line agrees with a box on it: at most four trains, whose numbers follow one another
pub record PlainLineAgrees (link : Link) (here : BoxState) (line : List Passage) : Type 0 where
  pub four : length line ≤ 4
  pub each : All (λ passage. IsTrainNo passage.train) line
  pub numbered : NumberedHere link here line

-- the word of this kind on a line agrees with a box: the counts, the position and the portion that this box makes are
-- its own
abbrev pub Agrees : Kind → Link → BoxState → PairState → Type 0
Agrees Tally link here pair = Unit {0}
Agrees BellWord link here pair = BellAgrees link here (of_way pair.bells (way_of link))
Agrees BlockWord link here pair = BlockAgrees link here (of_way pair.blocks (way_of link))
Agrees PlainLineWord link here pair = PlainLineAgrees link here (of_way pair.lines (way_of link))

-- a number agrees with a box as its word of this kind on a line: it is that of some pair that does
pub record NumberAgrees (kind : Kind) (link : Link) (here : BoxState) (number : ℕ) : Type 0 where
  pub pair : PairState
  pub agrees : Agrees kind link here pair
  pub packs : number_at kind (way_of link) pair ≡ number

-- the words of a section agree with its rear box and with its box in advance
pub record SectionAgrees (state : LineState) (section : Section) : Type 0 where
  pub rear : (kind : Kind) → Agrees kind (Out section.way) (box_at state section.rear) (pair_in state section)
  pub advance : (kind : Kind) → Agrees kind (In section.way) (box_at state (advance_of section)) (pair_in state section)
