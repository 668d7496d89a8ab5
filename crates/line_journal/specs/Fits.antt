-- What a reply tells of the word on which its call was decided: on which words the law gives it, and what becomes of
-- the word.
use Rattle.std.specs.Prelude.{ℕ, ◌+◌, ◌≡◌, List, [], ◌∷◌, ◌++◌, Some, None, true, false, drop}
use Rattle.block_words.specs.declared.Position.{Position}
use Rattle.block_words.specs.declared.Position.TheVariants as shows
use Rattle.block_words.specs.declared.Way.{Way}
use Rattle.line_law.specs.declared.call.Act.{Act}
use Rattle.line_law.specs.declared.call.Act.TheVariants.{Ring, Turn, AwaitBlock}
use Rattle.line_law.specs.declared.call.Reply.{Reply}
use Rattle.line_law.specs.declared.call.Reply.TheVariants.{Rung, BellBusy, Heard, Silent, BellNotYet}
use Rattle.line_law.specs.declared.call.Reply.TheVariants.{Turned, Seen, BlockNotYet, PulledUnder, HeldByInstrument}
use Rattle.line_law.specs.declared.call.Reply.TheVariants.{Entered, SectionFull, Approaching, TrainNotYet, Berthed}
use Rattle.line_law.specs.declared.call.Reply.TheVariants.{PartBerthed, NoTrainAt, Cleared}
use Rattle.line_law.specs.declared.state.Bell.{Bell}
use Rattle.line_law.specs.declared.state.Block.{Block}
use Rattle.line_law.specs.declared.state.PairState.{PairState}
use Rattle.line_law.specs.declared.state.Passage.{Passage}
use Rattle.line_law.specs.Arrivals.{first_train}
use Rattle.line_law.specs.Bells.{silent}
use Rattle.word_laws.specs.Footprint.{Kind, Tally, BellWord, BlockWord, PlainLineWord}
use Rattle.line_law.specs.Levers.{is_unspent_clear}
use Rattle.line_law.specs.Trains.{holds}
use Rattle.line_law.specs.Ways.{of_way, with_way}

-- ---- what the call adds to its reply

-- the code that a call rings
abbrev pub code_of : Act → ℕ
code_of (Ring side code) = code
code_of act = 0

-- the position to which a call turns an instrument, or for which it looks there
abbrev pub position_of : Act → Position
position_of (Turn way position) = position
position_of (AwaitBlock way position) = position
position_of act = shows.Normal

-- ---- a bell

-- the law gives the reply on a bell that is so
abbrev pub FitsBell : Reply → Bell → Type 0
FitsBell (Rung k) bell = (bell.count + 1 ≡ k) × (bell.unheard ≡ None)
FitsBell (BellBusy code k) bell = (bell.count ≡ k) × (bell.unheard ≡ Some code)
FitsBell (Heard code k) bell = (bell.count ≡ k) × (bell.unheard ≡ Some code)
FitsBell (Silent k) bell = (bell.count ≡ k) × (bell.unheard ≡ None)
FitsBell (BellNotYet shown k) bell = (bell.count ≡ k) × (bell.unheard ≡ shown)
FitsBell reply bell = ⊥

-- what becomes of the bell
abbrev pub bell_made : Act → Reply → Bell → Bell
bell_made act (Rung k) bell = record { count = k; unheard = Some (code_of act) }
bell_made act (Heard code k) bell = silent k
bell_made act reply bell = bell

-- ---- an instrument

-- the law gives the reply on an instrument that is so
abbrev pub FitsBlock : Act → Reply → Block → Type 0
FitsBlock act (Turned v) block = block.turns + 1 ≡ v
FitsBlock act (Seen v) block = (block.turns ≡ v) × (block.position ≡ position_of act)
FitsBlock act (BlockNotYet shown v) block = (block.turns ≡ v) × (block.position ≡ shown)
FitsBlock act (PulledUnder v) block = (block.turns ≡ v) × (is_unspent_clear block ≡ true)
FitsBlock act (HeldByInstrument way shown spent v) block =
    (block.turns ≡ v) × (block.position ≡ shown) × (block.spent ≡ spent)
FitsBlock act reply block = ⊥

-- what becomes of the instrument
abbrev pub block_made : Act → Reply → Block → Block
block_made act (Turned v) block = record { turns = v; position = position_of act; spent = false }
block_made act (PulledUnder v) block = record block { spent = true }
block_made act (HeldByInstrument way shown spent v) block = record block { spent = true }
block_made act reply block = block

-- ---- a plain line

-- the law gives the reply on a plain line that is so
abbrev pub FitsPlainLine : Reply → List Passage → Type 0
FitsPlainLine (Entered train k) line = holds line k ≡ false
FitsPlainLine (SectionFull k) line = holds line k ≡ true
FitsPlainLine (Approaching train j) line = first_train j line ≡ Some train
FitsPlainLine (TrainNotYet j) line = first_train j line ≡ None
FitsPlainLine (Berthed train j) line = first_train j line ≡ Some train
FitsPlainLine (PartBerthed train j) line = first_train j line ≡ Some train
FitsPlainLine (NoTrainAt j) line = first_train j line ≡ None
FitsPlainLine (Cleared train j) line = first_train j line ≡ Some train
FitsPlainLine reply line = ⊥

-- what becomes of the plain line
abbrev pub plain_line_made : Reply → List Passage → List Passage
plain_line_made (Entered train k) line = line ++ record { number = k; train = train } ∷ []
plain_line_made (Berthed train j) line = drop 1 line
plain_line_made (Cleared train j) line = drop 1 line
plain_line_made reply line = line

-- ---- a pair

-- the reply fits the word of this kind and way in a pair; on its box's own tally it fits always
abbrev pub FitsWord : Kind → Way → Act → Reply → PairState → Type 0
FitsWord Tally way act reply pair = Unit {0}
FitsWord BellWord way act reply pair = FitsBell reply (of_way pair.bells way)
FitsWord BlockWord way act reply pair = FitsBlock act reply (of_way pair.blocks way)
FitsWord PlainLineWord way act reply pair = FitsPlainLine reply (of_way pair.lines way)

-- what becomes of the pair
abbrev pub word_made : Kind → Way → Act → Reply → PairState → PairState
word_made Tally way act reply pair = pair
word_made BellWord way act reply pair =
    record pair { bells = with_way pair.bells way (bell_made act reply (of_way pair.bells way)) }
word_made BlockWord way act reply pair =
    record pair { blocks = with_way pair.blocks way (block_made act reply (of_way pair.blocks way)) }
word_made PlainLineWord way act reply pair =
    record pair { lines = with_way pair.lines way (plain_line_made reply (of_way pair.lines way)) }
