-- What the entries of a journal tell of the instruments.
use Rattle.std.specs.Prelude.{ℕ, ◌+◌, ◌*◌, Option, None, Some, true, false}
use Rattle.block_words.specs.declared.Position.TheVariants as shows
use Rattle.block_words.specs.declared.Way.{Way}
use Rattle.block_words.specs.declared.Way.TheVariants.{Up, Down}
use Rattle.line_plan.specs.Plans.{PlanFields}
use Rattle.line_law.specs.declared.call.Act.{Act}
use Rattle.line_law.specs.declared.call.Entry.{Entry}
use Rattle.line_law.specs.declared.call.Reply.{Reply}
use Rattle.line_law.specs.declared.call.Reply.TheVariants.{HeldByInstrument, PulledUnder, Turned}
use Rattle.word_laws.specs.Footprint.{way_at}
use Rattle.line_journal.specs.Fits.{position_of}
use Rattle.line_journal.specs.Halves.{pair_for}
use Rattle.line_watch.specs.declared.sight.Sight.{Sight}

-- what the instrument of an entry's line shows after a turn, or after a pull of the starter; no other entry changes one
abbrev pub sight_told : Act → Reply → Option Sight
sight_told act (Turned v) = Some (record { turns = v; position = position_of act; spent = false })
sight_told act (PulledUnder v) = Some (record { turns = v; position = shows.LineClear; spent = true })
sight_told act (HeldByInstrument way shown spent v) = Some (record { turns = v; position = shown; spent = true })
sight_told act reply = None

-- the number of the section of a way between two neighbours: of each pair the down line's, then the up line's
abbrev pub number_in : ℕ → Way → ℕ
number_in pair Down = 2 * pair
number_in pair Up = 2 * pair + 1

-- the number of the section on whose line an entry's call may be decided
abbrev pub number_told : PlanFields → Entry → ℕ
number_told plan e = number_in (pair_for plan e) (way_at plan e.box_no e.call)
