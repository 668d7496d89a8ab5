-- The two ends of each word of a section: what the box in the rear does there, and what the box in advance does. Each
-- call that is decided on a word is one of these functions of the word.
use Rattle.std.specs.Prelude.{◌≡◌, ℕ, List}
use Rattle.block_words.specs.declared.Position.{Position}
use Rattle.block_words.specs.declared.Way.{Way}
use Rattle.line_law.specs.declared.link.Link.{Link}
use Rattle.line_law.specs.declared.link.Link.TheVariants.{Out, In}
use Rattle.line_law.specs.declared.state.Bell.{Bell}
use Rattle.line_law.specs.declared.state.Block.{Block}
use Rattle.line_law.specs.declared.state.BoxState.{BoxState}
use Rattle.line_law.specs.declared.state.Passage.{Passage}
use Rattle.line_law.specs.Arrivals.{await_train, berthed, cleared, parted}
use Rattle.line_law.specs.Bells.{await_bell, hear, ring}
use Rattle.line_law.specs.Decisions.{Told, Decision, Here, OnBell, OnBlock, OnPlainLine}
use Rattle.word_laws.specs.Footprint.{Tally}
use Rattle.line_law.specs.Instruments.{await_block, turned}
use Rattle.line_law.specs.Levers.{pulled_under}
use Rattle.word_laws.specs.TellsWord.{kind_told}
use Rattle.line_law.specs.Trains.{enter}

-- the rear box rings the bell
pub data OutBell (way : Way) : (Bell → Told Bell) → Type 0 where
  RingsIt : (here : BoxState) (code : ℕ) → OutBell way (ring here way code)

-- the box in advance hears it, or waits for a code
pub data InBell : (Bell → Told Bell) → Type 0 where
  HearsIt : (here : BoxState) → InBell (hear here)
  AwaitsIt : (here : BoxState) (code : ℕ) → InBell (await_bell here code)

-- the rear box pulls its starter under the instrument, or looks at it
pub data OutBlock (way : Way) : (Block → Told Block) → Type 0 where
  PullsUnder : (here after : BoxState) → OutBlock way (pulled_under here after way)
  LooksAt : (here : BoxState) (position : Position) → OutBlock way (await_block here position)

-- the box in advance turns it
pub data InBlock (way : Way) : (Block → Told Block) → Type 0 where
  TurnsIt : (here : BoxState) (position : Position) → InBlock way (turned here way position)

-- the rear box sends a train onto the plain line
pub data OutPlainLine (way : Way) : (List Passage → Told (List Passage)) → Type 0 where
  Sends : (here left : BoxState) (train : ℕ) → OutPlainLine way (enter here left way train)

-- the box in advance waits for a train, takes it whole or in part, or has its portion cleared away
pub data InPlainLine (way : Way) : (List Passage → Told (List Passage)) → Type 0 where
  LooksOut : (here : BoxState) → InPlainLine way (await_train here way)
  Takes : (here : BoxState) (place : ℕ) → InPlainLine way (berthed here way place)
  TakesPart : (here : BoxState) (place : ℕ) → InPlainLine way (parted here way place)
  ClearsAway : (here : BoxState) → InPlainLine way (cleared here way)

-- what a box does on its outgoing line of a way, or in itself alone
abbrev pub IsOut : Way → Decision → Type 0
IsOut way (Here reply here) = kind_told reply ≡ Tally
IsOut way (OnBell act) = OutBell way act
IsOut way (OnBlock act) = OutBlock way act
IsOut way (OnPlainLine act) = OutPlainLine way act

-- what a box does on its incoming line of a way, or in itself alone
abbrev pub IsIn : Way → Decision → Type 0
IsIn way (Here reply here) = kind_told reply ≡ Tally
IsIn way (OnBell act) = InBell act
IsIn way (OnBlock act) = InBlock way act
IsIn way (OnPlainLine act) = InPlainLine way act

-- what a box does on this line, or in itself alone
abbrev pub AtEnd : Link → Decision → Type 0
AtEnd (Out way) d = IsOut way d
AtEnd (In way) d = IsIn way d
