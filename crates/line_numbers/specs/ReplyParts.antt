-- Replies in numbers, and the reply that is found again from its numbers.
use Rattle.std.specs.Prelude.{◌≢◌, ℕ, List, [], ◌∷◌, Option, Some, if◌then◌else◌, slice_get}
use Rattle.block_words.specs.Instruments.{position_code}
use Rattle.line_law.specs.declared.call.Reply.{Reply}
use Rattle.line_law.specs.declared.call.Reply.TheVariants.{Rung, BellBusy, Heard, Silent, BellNotYet, Turned}
use Rattle.line_law.specs.declared.call.Reply.TheVariants.{AlreadyThere, NotFromNormal, HomeReversed, TrackOccupied}
use Rattle.line_law.specs.declared.call.Reply.TheVariants.{WelwynHolds, CountFull, Seen, BlockNotYet, Pulled}
use Rattle.line_law.specs.declared.call.Reply.TheVariants.{PulledUnder, AlreadyReversed, Spare, HeldByLever}
use Rattle.line_law.specs.declared.call.Reply.TheVariants.{HeldByTrack, HeldByInstrument, Put, AlreadyNormal, Brought}
use Rattle.line_law.specs.declared.call.Reply.TheVariants.{AlreadyBrought, Occupied, Passed, Entered, NoTrain, AtDanger}
use Rattle.line_law.specs.declared.call.Reply.TheVariants.{ArmOff, SectionFull, Approaching, TrainNotYet, Berthed}
use Rattle.line_law.specs.declared.call.Reply.TheVariants.{PartBerthed, NoTrainAt, BerthOccupied, PortionAhead, Cleared}
use Rattle.line_law.specs.declared.call.Reply.TheVariants.{NoPortion, Winding, AlreadyWinding, NotAtNormal, Released}
use Rattle.line_law.specs.declared.call.Reply.TheVariants.{NotWinding, TooSoon}
use Rattle.line_law.specs.Refusals.{is_refused}
use Rattle.line_law.specs.Replies.{mark_number, way_number, welwyn_number}
use Rattle.line_numbers.specs.declared.replies.ReplyNumbers.{ReplyNumbers}
use Rattle.line_numbers.specs.Parts.{mark_of, number_if, position_of, some_if, state_of, way_of}

-- which of the replies it is, in their order from 0
abbrev pub reply_kind : Reply → ℕ
reply_kind (Rung k) = 0
reply_kind (BellBusy code k) = 1
reply_kind (Heard code k) = 2
reply_kind (Silent k) = 3
reply_kind (BellNotYet shown k) = 4
reply_kind (Turned v) = 5
reply_kind AlreadyThere = 6
reply_kind NotFromNormal = 7
reply_kind (HomeReversed lever) = 8
reply_kind (TrackOccupied place train) = 9
reply_kind (WelwynHolds state) = 10
reply_kind (CountFull out) = 11
reply_kind (Seen v) = 12
reply_kind (BlockNotYet shown v) = 13
reply_kind Pulled = 14
reply_kind (PulledUnder v) = 15
reply_kind AlreadyReversed = 16
reply_kind Spare = 17
reply_kind (HeldByLever lever row) = 18
reply_kind (HeldByTrack place train) = 19
reply_kind (HeldByInstrument way shown spent v) = 20
reply_kind Put = 21
reply_kind AlreadyNormal = 22
reply_kind Brought = 23
reply_kind AlreadyBrought = 24
reply_kind (Occupied place train) = 25
reply_kind (Passed train) = 26
reply_kind (Entered train k) = 27
reply_kind NoTrain = 28
reply_kind AtDanger = 29
reply_kind ArmOff = 30
reply_kind (SectionFull k) = 31
reply_kind (Approaching train j) = 32
reply_kind (TrainNotYet j) = 33
reply_kind (Berthed train j) = 34
reply_kind (PartBerthed train j) = 35
reply_kind (NoTrainAt j) = 36
reply_kind (BerthOccupied train) = 37
reply_kind (PortionAhead train) = 38
reply_kind (Cleared train j) = 39
reply_kind NoPortion = 40
reply_kind (Winding ready_at) = 41
reply_kind AlreadyWinding = 42
reply_kind NotAtNormal = 43
reply_kind Released = 44
reply_kind NotWinding = 45
reply_kind (TooSoon ready_at) = 46

-- whether what was asked for is done: 1 where it is
abbrev pub done_number : Reply → ℕ
done_number reply = if is_refused reply then 0 else 1

-- numbers that tell nothing
abbrev pub told_nothing : ReplyNumbers
told_nothing =
    record {
      count = 0;
      kind = 0;
      done = 0;
      lever = 0;
      row = 0;
      place = 0;
      train = 0;
      shown = 0;
      way = 0;
      spent = 0;
      moment = 0;
    }

-- numbers that tell a count alone
abbrev pub told_count : ℕ → ReplyNumbers
told_count n = record told_nothing { count = n }

-- a count, and what a bell or an instrument shows
abbrev pub told_shown : ℕ → ℕ → ReplyNumbers
told_shown n what = record (told_count n) { shown = what }

-- a count, and a train
abbrev pub told_train : ℕ → ℕ → ReplyNumbers
told_train n t = record (told_count n) { train = t }

-- a place, and the train on it
abbrev pub told_place : ℕ → ℕ → ReplyNumbers
told_place p t = record told_nothing { place = p; train = t }

-- what a reply without a count tells
abbrev pub told_otherwise : Reply → ReplyNumbers
told_otherwise (HomeReversed l) = record told_nothing { lever = l }
told_otherwise (TrackOccupied p t) = told_place p t
told_otherwise (WelwynHolds state) = record told_nothing { shown = welwyn_number state }
told_otherwise (HeldByLever l r) = record told_nothing { lever = l; row = r }
told_otherwise (HeldByTrack p t) = told_place p t
told_otherwise (Occupied p t) = told_place p t
told_otherwise (Passed t) = record told_nothing { train = t }
told_otherwise (BerthOccupied t) = record told_nothing { train = t }
told_otherwise (PortionAhead t) = record told_nothing { train = t }
told_otherwise (Winding ready_at) = record told_nothing { moment = ready_at }
told_otherwise (TooSoon ready_at) = record told_nothing { moment = ready_at }
told_otherwise reply = told_nothing

-- what a reply tells
abbrev pub told : Reply → ReplyNumbers
told (Rung k) = told_count k
told (BellBusy code k) = told_shown k code
told (Heard code k) = told_shown k code
told (Silent k) = told_count k
told (BellNotYet code k) = told_shown k (number_if code)
told (Turned v) = told_count v
told (CountFull out) = told_count out
told (Seen v) = told_count v
told (BlockNotYet position v) = told_shown v (position_code position)
told (PulledUnder v) = told_count v
told (HeldByInstrument w position mark v) =
    record (told_shown v (position_code position)) { way = way_number w; spent = mark_number mark }
told (Entered t k) = told_train k t
told (SectionFull k) = told_count k
told (Approaching t j) = told_train j t
told (TrainNotYet j) = told_count j
told (Berthed t j) = told_train j t
told (PartBerthed t j) = told_train j t
told (NoTrainAt j) = told_count j
told (Cleared t j) = told_train j t
told reply = told_otherwise reply

-- the numbers of a reply
abbrev pub reply_numbers : Reply → ReplyNumbers
reply_numbers reply = record (told reply) { kind = reply_kind reply; done = done_number reply }

-- the replies in their order, with what these numbers tell
abbrev pub replies_with : ReplyNumbers → List Reply
replies_with n =
    Rung n.count
    ∷ BellBusy n.shown n.count
    ∷ Heard n.shown n.count
    ∷ Silent n.count
    ∷ BellNotYet (some_if n.shown) n.count
    ∷ Turned n.count
    ∷ AlreadyThere
    ∷ NotFromNormal
    ∷ HomeReversed n.lever
    ∷ TrackOccupied n.place n.train
    ∷ WelwynHolds (state_of n.shown)
    ∷ CountFull n.count
    ∷ Seen n.count
    ∷ BlockNotYet (position_of n.shown) n.count
    ∷ Pulled
    ∷ PulledUnder n.count
    ∷ AlreadyReversed
    ∷ Spare
    ∷ HeldByLever n.lever n.row
    ∷ HeldByTrack n.place n.train
    ∷ HeldByInstrument (way_of n.way) (position_of n.shown) (mark_of n.spent) n.count
    ∷ Put
    ∷ AlreadyNormal
    ∷ Brought
    ∷ AlreadyBrought
    ∷ Occupied n.place n.train
    ∷ Passed n.train
    ∷ Entered n.train n.count
    ∷ NoTrain
    ∷ AtDanger
    ∷ ArmOff
    ∷ SectionFull n.count
    ∷ Approaching n.train n.count
    ∷ TrainNotYet n.count
    ∷ Berthed n.train n.count
    ∷ PartBerthed n.train n.count
    ∷ NoTrainAt n.count
    ∷ BerthOccupied n.train
    ∷ PortionAhead n.train
    ∷ Cleared n.train n.count
    ∷ NoPortion
    ∷ Winding n.moment
    ∷ AlreadyWinding
    ∷ NotAtNormal
    ∷ Released
    ∷ NotWinding
    ∷ TooSoon n.moment
    ∷ []

-- the reply with these numbers; none where no reply is of that kind
abbrev pub reply_in : ReplyNumbers → Option Reply
reply_in n = slice_get (replies_with n) n.kind

-- where a reply tells which code a bell shows, that is a code: they are numbered from 1
abbrev pub ShowsCode : Reply → Type 0
ShowsCode (BellNotYet shown k) = shown ≢ Some 0
ShowsCode reply = Unit {0}
