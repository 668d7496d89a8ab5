-- Entries of two boxes that change places on the shared words of a line, and replies that are lost.
use Rattle.std.specs.Prelude.{◌≡◌, ◌≢◌, ◌<◌, ◌⊎◌, false, List, None}
use Rattle.block_words.specs.declared.Way.{Way}
use Rattle.line_plan.specs.Plans.{PlanFields}
use Rattle.line_law.specs.declared.call.Entry.{Entry}
use Rattle.line_law.specs.declared.call.Reply.{Reply}
use Rattle.line_law.specs.declared.call.Reply.TheVariants.{BellBusy, Silent, BellNotYet, PulledUnder, HeldByInstrument}
use Rattle.line_law.specs.declared.call.Reply.TheVariants.{Seen, BlockNotYet, SectionFull, NoTrainAt, TrainNotYet}
use Rattle.line_law.specs.declared.state.Bell.{Bell}
use Rattle.line_law.specs.declared.state.Block.{Block}
use Rattle.line_law.specs.declared.state.PairState.{PairState}
use Rattle.line_law.specs.declared.state.Passage.{Passage}
use Rattle.line_law.specs.Arrivals.{first_train}
use Rattle.line_law.specs.Trains.{holds}
use Rattle.line_law.specs.Ways.{of_way}
use Rattle.word_laws.specs.Footprint.{Kind, Tally, BellWord, BlockWord, PlainLineWord, Apart, way_at}
use Rattle.word_laws.specs.TellsWord.{kind_told}
use Rattle.line_journal.specs.Halves.{Fits, found_at, made, pair_for}

-- ---- what changes places

-- two moves of something change places: each fits after the other, and in the end it is the same
pub record ChangePlaces {W : Type 0} (F G : W → Type 0) (m n : W → W) (w : W) : Type 0 where
  pub first : F (n w)
  pub second : G (m w)
  pub word : n (m w) ≡ m (n w)

-- two entries change places on the pairs of a line
abbrev pub MayChangePlaces : PlanFields → List PairState → Entry → Entry → Type 0
MayChangePlaces plan pairs e x =
    ChangePlaces (λ ps. Fits plan ps e) (λ ps. Fits plan ps x) (λ ps. made plan ps e) (λ ps. made plan ps x) pairs

-- two entries were decided on different words
abbrev pub AreOnOtherWords : PlanFields → Entry → Entry → Type 0
AreOnOtherWords plan e x =
    (pair_for plan e ≢ pair_for plan x)
    ⊎ ((pair_for plan e ≡ pair_for plan x)
    × Apart (kind_told e.reply) (way_at plan e.box_no e.call) (kind_told x.reply) (way_at plan x.box_no x.call))

-- ---- what is lost

-- a reply on a bell that can no more be given there while the other end alone works the bell
abbrev pub IsLostOnBell : Reply → Bell → Type 0
IsLostOnBell (BellBusy held k) bell = bell.unheard ≡ None
IsLostOnBell (Silent k) bell = k < bell.count
IsLostOnBell (BellNotYet shown k) bell = k < bell.count
IsLostOnBell reply bell = ⊥

-- a reply at the rear of an instrument that can no more be given there
abbrev pub IsLostOnBlock : Reply → Block → Type 0
IsLostOnBlock (PulledUnder v) block = v < block.turns
IsLostOnBlock (HeldByInstrument way shown spent v) block = v < block.turns
IsLostOnBlock (Seen v) block = v < block.turns
IsLostOnBlock (BlockNotYet shown v) block = v < block.turns
IsLostOnBlock reply block = ⊥

-- a reply on a plain line that can no more be given there while the other end alone works the line
abbrev pub IsLostOnPlainLine : Reply → List Passage → Type 0
IsLostOnPlainLine (SectionFull k) line = holds line k ≡ false
IsLostOnPlainLine (NoTrainAt j) line = first_train j line ≡ None → ⊥
IsLostOnPlainLine (TrainNotYet j) line = first_train j line ≡ None → ⊥
IsLostOnPlainLine reply line = ⊥

-- a reply can no more be given on its word while the other end alone works that
abbrev pub IsLostOnWord : Kind → Way → Reply → PairState → Type 0
IsLostOnWord Tally way reply pair = ⊥
IsLostOnWord BellWord way reply pair = IsLostOnBell reply (of_way pair.bells way)
IsLostOnWord BlockWord way reply pair = IsLostOnBlock reply (of_way pair.blocks way)
IsLostOnWord PlainLineWord way reply pair = IsLostOnPlainLine reply (of_way pair.lines way)

-- an entry can no more be made while the other box alone works its word
abbrev pub IsLost : PlanFields → List PairState → Entry → Type 0
IsLost plan pairs e =
    IsLostOnWord (kind_told e.reply) (way_at plan e.box_no e.call) e.reply (found_at pairs (pair_for plan e))
