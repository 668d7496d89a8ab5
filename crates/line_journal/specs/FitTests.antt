-- Whether a reply fits its word, as the merge tests it, and the space that a train needs on a plain line.
use Rattle.std.specs.Prelude.{ℕ, ◌-◌, ◌<◌, ◌==◌, ◌&&◌, nat_lt, not, Bool, true, false, List, Option, Some, None, length}
use Rattle.block_words.specs.declared.Way.{Way}
use Rattle.line_law.specs.declared.call.Act.{Act}
use Rattle.line_law.specs.declared.call.Entry.{Entry}
use Rattle.line_law.specs.declared.call.Reply.{Reply}
use Rattle.line_law.specs.declared.call.Reply.TheVariants.{Rung, BellBusy, Heard, Silent, BellNotYet}
use Rattle.line_law.specs.declared.call.Reply.TheVariants.{Turned, Seen, BlockNotYet, PulledUnder, HeldByInstrument}
use Rattle.line_law.specs.declared.call.Reply.TheVariants.{Entered, SectionFull, Approaching, TrainNotYet, Berthed}
use Rattle.line_law.specs.declared.call.Reply.TheVariants.{PartBerthed, NoTrainAt, Cleared}
use Rattle.line_law.specs.declared.state.Bell.{Bell}
use Rattle.line_law.specs.declared.state.Block.{Block}
use Rattle.line_law.specs.declared.state.PairState.{PairState}
use Rattle.line_law.specs.declared.state.Passage.{Passage}
use Rattle.line_law.specs.Arrivals.{first_train}
use Rattle.word_laws.specs.Footprint.{Kind, Tally, BellWord, BlockWord, PlainLineWord, way_at}
use Rattle.line_law.specs.Instruments.{same_position}
use Rattle.line_law.specs.Levers.{is_unspent_clear}
use Rattle.word_laws.specs.TellsWord.{kind_told}
use Rattle.line_law.specs.Trains.{holds}
use Rattle.line_law.specs.Ways.{of_way}
use Rattle.line_plan.specs.Plans.{PlanFields}
use Rattle.line_journal.specs.Fits.{position_of}
use Rattle.line_journal.specs.Halves.{found_at, pair_for}

-- two numbers, where there are any, are one
abbrev pub same_number : Option ℕ → Option ℕ → Bool
same_number None None = true
same_number None (Some n) = false
same_number (Some m) None = false
same_number (Some m) (Some n) = m == n

-- one number is the next after another
abbrev pub is_next : ℕ → ℕ → Bool
is_next n k = nat_lt n k && (k - n == 1)

-- two marks are one
abbrev pub same_mark : Bool → Bool → Bool
same_mark true mark = mark
same_mark false mark = not mark

-- a word of this kind is a shared one
abbrev pub is_word : Kind → Bool
is_word Tally = false
is_word kind = true

-- a reply fits a bell
abbrev pub fits_bell : Reply → Bell → Bool
fits_bell (Rung k) bell = is_next bell.count k && same_number bell.unheard None
fits_bell (BellBusy code k) bell = (bell.count == k) && same_number bell.unheard (Some code)
fits_bell (Heard code k) bell = (bell.count == k) && same_number bell.unheard (Some code)
fits_bell (Silent k) bell = (bell.count == k) && same_number bell.unheard None
fits_bell (BellNotYet shown k) bell = (bell.count == k) && same_number bell.unheard shown
fits_bell reply bell = false

-- a reply of an act fits an instrument
abbrev pub fits_block : Act → Reply → Block → Bool
fits_block act (Turned v) block = is_next block.turns v
fits_block act (Seen v) block = (block.turns == v) && same_position block.position (position_of act)
fits_block act (BlockNotYet shown v) block = (block.turns == v) && same_position block.position shown
fits_block act (PulledUnder v) block = (block.turns == v) && is_unspent_clear block
fits_block act (HeldByInstrument way shown spent v) block =
    (block.turns == v) && (same_position block.position shown && same_mark block.spent spent)
fits_block act reply block = false

-- a reply fits a plain line
abbrev pub fits_plain_line : Reply → List Passage → Bool
fits_plain_line (Entered train k) line = not (holds line k)
fits_plain_line (SectionFull k) line = holds line k
fits_plain_line (Approaching train j) line = same_number (first_train j line) (Some train)
fits_plain_line (TrainNotYet j) line = same_number (first_train j line) None
fits_plain_line (Berthed train j) line = same_number (first_train j line) (Some train)
fits_plain_line (PartBerthed train j) line = same_number (first_train j line) (Some train)
fits_plain_line (NoTrainAt j) line = same_number (first_train j line) None
fits_plain_line (Cleared train j) line = same_number (first_train j line) (Some train)
fits_plain_line reply line = false

-- a reply of an act fits the word of this kind and way in a pair
abbrev pub fits_word : Kind → Way → Act → Reply → PairState → Bool
fits_word Tally way act reply pair = true
fits_word BellWord way act reply pair = fits_bell reply (of_way pair.bells way)
fits_word BlockWord way act reply pair = fits_block act reply (of_way pair.blocks way)
fits_word PlainLineWord way act reply pair = fits_plain_line reply (of_way pair.lines way)

-- an entry fits its word
abbrev pub fits_here : PlanFields → List PairState → Entry → Bool
fits_here plan pairs e =
    fits_word (kind_told e.reply) (way_at plan e.box_no e.call) e.call.act e.reply (found_at pairs (pair_for plan e))

-- a train that enters finds a place on the plain line of that way, and one that leaves it is there
abbrev pub HasSpace : Reply → List Passage → Type 0
HasSpace (Entered train k) line = length line < 4
HasSpace (Berthed train j) line = 0 < length line
HasSpace (Cleared train j) line = 0 < length line
HasSpace reply line = Unit {0}
