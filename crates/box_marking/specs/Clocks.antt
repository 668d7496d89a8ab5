-- When a box last rang, turned its commutators and sent trains; and which entry of a neighbour made an entry possible.
use Rattle.std.specs.Prelude.{ℕ, ◌%◌, List, [], ◌∷◌, Option, Some, None, slice_index_or, slice_set}
use Rattle.block_words.specs.Ways.{opposite}
use Rattle.block_words.specs.declared.Way.{Way}
use Rattle.line_plan.specs.Sections.{next_box}
use Rattle.line_law.specs.declared.ways.ByWay.{ByWay}
use Rattle.line_law.specs.Ways.{of_way, with_way}
use Rattle.reg_audit.specs.declared.bell.BellKind.{BellKind}
use Rattle.reg_audit.specs.declared.bell.BellKind.TheVariants as kinds
use Rattle.box_marking.specs.declared.clock.SideClock.{SideClock}
use Rattle.box_marking.specs.declared.clock.Timed.{Timed}
use Rattle.box_marking.specs.declared.doing.Doing.{Doing}
use Rattle.box_marking.specs.declared.doing.Doing.TheVariants as doings

-- nothing was done
abbrev pub empty_clock : SideClock
empty_clock = record { rung = None; turned = None; sent = None ∷ None ∷ None ∷ None ∷ [] }

abbrev pub opening_clocks : ByWay SideClock
opening_clocks = record { up = empty_clock; down = empty_clock }

-- the k-th train was sent; no more than four are on a plain line
abbrev pub with_sent : ℕ → Timed → SideClock → SideClock
with_sent k now clock = record clock { sent = slice_set clock.sent (k % 4) (Some now) }

-- when the j-th train was sent
abbrev pub sent_at : ℕ → SideClock → Option Timed
sent_at j clock = slice_index_or clock.sent (j % 4) None

-- the clock of a side after a code was rung there; what was heard sets none
abbrev pub bell_set : Timed → BellKind → SideClock → SideClock
bell_set now kinds.Rung clock = record clock { rung = Some now }
bell_set now kinds.Heard clock = clock

-- the clocks of a box after something was done
abbrev pub clocks_set : Timed → Doing → ByWay SideClock → ByWay SideClock
clocks_set now (doings.Bell side bell) clocks = with_way clocks side (bell_set now bell.kind (of_way clocks side))
clocks_set now (doings.Turned way position) clocks =
    with_way clocks (opposite way) (record (of_way clocks (opposite way)) { turned = Some now })
clocks_set now (doings.PassedStarter way lever train k) clocks =
    with_way clocks way (with_sent k now (of_way clocks way))
clocks_set now (doings.Overran way k) clocks = with_way clocks way (with_sent k now (of_way clocks way))
clocks_set now doing clocks = clocks

-- the clocks of box b
abbrev pub clocks_at : List (ByWay SideClock) → ℕ → ByWay SideClock
clocks_at clocks b = slice_index_or clocks b opening_clocks

-- the clock of the neighbour on a side, on the side of box b
abbrev pub clock_beside : (ℕ → ByWay SideClock) → ℕ → Way → SideClock
clock_beside clocks b side = of_way (clocks (next_box b side)) (opposite side)

-- the code that was heard was rung
abbrev pub bell_cause : BellKind → SideClock → Option Timed
bell_cause kinds.Rung clock = None
bell_cause kinds.Heard clock = clock.rung

-- The entry of a neighbour that made possible what was done at box b: the code that was heard was rung; the instrument
-- that was seen, or met by the starter, was turned; the train that was found, or came to the berth, was sent.
abbrev pub cause_from : (ℕ → ByWay SideClock) → ℕ → Doing → Option Timed
cause_from clocks b (doings.Bell side bell) = bell_cause bell.kind (clock_beside clocks b side)
cause_from clocks b (doings.Saw way) = (clock_beside clocks b way).turned
cause_from clocks b (doings.PulledStarter way) = (clock_beside clocks b way).turned
cause_from clocks b (doings.Found way j) = sent_at j (clock_beside clocks b (opposite way))
cause_from clocks b (doings.Berthed way j) = sent_at j (clock_beside clocks b (opposite way))
cause_from clocks b doing = None
