-- What an entry leaves on its word for the man at the other end to come upon, and what of it makes his reply what it
-- is.
use Rattle.std.specs.Prelude.{◌-◌, Bool, true, false, Option, Some, None}
use Rattle.block_words.specs.declared.Position.{Position}
use Rattle.line_law.specs.declared.call.Act.{Act}
use Rattle.line_law.specs.declared.call.Act.TheVariants.{AwaitBell, AwaitBlock, AwaitTrain}
use Rattle.line_law.specs.declared.call.Reply.{Reply}
use Rattle.line_law.specs.declared.call.Reply.TheVariants.{Rung, BellBusy, Heard, Silent, BellNotYet}
use Rattle.line_law.specs.declared.call.Reply.TheVariants.{Turned, Seen, BlockNotYet, PulledUnder, HeldByInstrument}
use Rattle.line_law.specs.declared.call.Reply.TheVariants.{Entered, SectionFull, Approaching, TrainNotYet, Berthed}
use Rattle.line_law.specs.declared.call.Reply.TheVariants.{PartBerthed, NoTrainAt, Cleared}
use Rattle.line_races.specs.declared.marks.Mark.{Mark}
use Rattle.line_races.specs.declared.marks.Mark.TheVariants.{RungAs, BusyAt, HeardAs, InVainAt, TurnedAs, UsedAt}
use Rattle.line_races.specs.declared.marks.Mark.TheVariants.{EnteredAs, FullUntil, NoneAt, LeftAs, TurnedFrom}

-- the mark that an entry leaves by its reply
abbrev pub mark_left : Reply → Option Mark
mark_left (Rung k) = Some (RungAs k)
mark_left (BellBusy code k) = Some (BusyAt k)
mark_left (Heard code k) = Some (HeardAs k)
mark_left (Silent k) = Some (InVainAt k)
mark_left (BellNotYet shown k) = Some (InVainAt k)
mark_left (Turned v) = Some (TurnedAs v)
mark_left (Seen v) = Some (UsedAt v)
mark_left (BlockNotYet shown v) = Some (UsedAt v)
mark_left (PulledUnder v) = Some (UsedAt v)
mark_left (HeldByInstrument way shown spent v) = Some (UsedAt v)
mark_left (Entered train k) = Some (EnteredAs k)
mark_left (SectionFull k) = Some (FullUntil (k - 4))
mark_left (TrainNotYet j) = Some (NoneAt j)
mark_left (NoTrainAt j) = Some (NoneAt j)
mark_left (Berthed train j) = Some (LeftAs j)
mark_left (Cleared train j) = Some (LeftAs j)
mark_left reply = None

-- The mark that made a reply possible: a code that is heard was rung; a bell was freed before it is rung again; an
-- instrument that is seen or pulled under was turned; a train that is found in its section has entered it; a train
-- enters where another has left.
abbrev pub made_by : Reply → Option Mark
made_by (Heard code k) = Some (RungAs k)
made_by (Rung k) = Some (HeardAs (k - 1))
made_by (Seen v) = Some (TurnedAs v)
made_by (PulledUnder v) = Some (TurnedAs v)
made_by (Approaching train j) = Some (EnteredAs j)
made_by (Berthed train j) = Some (EnteredAs j)
made_by (PartBerthed train j) = Some (EnteredAs j)
made_by (Cleared train j) = Some (EnteredAs j)
made_by (Entered train k) = Some (LeftAs (k - 4))
made_by reply = None

-- the mark that can't come behind a reply without being another one
abbrev pub kept_by : Reply → Option Mark
kept_by (Rung k) = Some (InVainAt (k - 1))
kept_by (Heard code k) = Some (BusyAt k)
kept_by (BellNotYet shown k) = Some (RungAs k)
kept_by (HeldByInstrument way shown spent v) = Some (TurnedAs v)
kept_by (BlockNotYet shown v) = Some (TurnedAs v)
kept_by (Turned v) = Some (UsedAt (v - 1))
kept_by (Entered train k) = Some (NoneAt k)
kept_by (Berthed train j) = Some (FullUntil j)
kept_by (Cleared train j) = Some (FullUntil j)
kept_by reply = None

-- ---- positions of an instrument

-- the reply tells of a turn
abbrev pub is_turned : Reply → Bool
is_turned (Turned v) = true
is_turned reply = false

-- the mark of a turn that ends this position
abbrev pub mark_ended : Position → Reply → Option Mark
mark_ended position (Turned v) = Some (TurnedFrom position)
mark_ended position reply = None

-- the mark of a turn that ends the position for which a call waits
abbrev pub mark_awaited : Act → Option Mark
mark_awaited (AwaitBlock way position) = Some (TurnedFrom position)
mark_awaited act = None

-- the mark of a turn that ends the position which an await saw
abbrev pub mark_missed : Act → Reply → Option Mark
mark_missed act (Seen v) = mark_awaited act
mark_missed act reply = None

-- ---- who waits

-- the man waits at this call
abbrev pub is_await : Act → Bool
is_await (AwaitBell side code) = true
is_await (AwaitBlock way position) = true
is_await (AwaitTrain way) = true
is_await act = false
