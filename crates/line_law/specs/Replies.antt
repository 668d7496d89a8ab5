-- When two replies are the same: they are of one kind, and tell the same numbers.
use Rattle.std.specs.Prelude.{ℕ, ◌+◌, List, [], ◌∷◌, Bool, true, false, Option, Some, None, nat_eq}
use Rattle.std.specs.Cmp.Lexicographic.{pointwise}
use Rattle.block_words.specs.Instruments.{position_code}
use Rattle.block_words.specs.declared.Way.{Way}
use Rattle.block_words.specs.declared.Way.TheVariants.{Up, Down}
use Rattle.block_words.specs.declared.WelwynState.{WelwynState}
use Rattle.block_words.specs.declared.WelwynState.TheVariants as welwyn
use Rattle.line_law.specs.declared.call.Reply.{Reply}
use Rattle.line_law.specs.declared.call.Reply.TheVariants.{Rung, BellBusy, Heard, Silent, BellNotYet, Turned}
use Rattle.line_law.specs.declared.call.Reply.TheVariants.{AlreadyThere, NotFromNormal, HomeReversed, TrackOccupied}
use Rattle.line_law.specs.declared.call.Reply.TheVariants.{WelwynHolds, CountFull, Seen, BlockNotYet, Pulled}
use Rattle.line_law.specs.declared.call.Reply.TheVariants.{PulledUnder, AlreadyReversed, Spare, HeldByLever}
use Rattle.line_law.specs.declared.call.Reply.TheVariants.{HeldByTrack, HeldByInstrument, Put, AlreadyNormal, Brought}
use Rattle.line_law.specs.declared.call.Reply.TheVariants.{AlreadyBrought, Occupied, Passed, Entered, NoTrain, AtDanger}
use Rattle.line_law.specs.declared.call.Reply.TheVariants.{ArmOff, SectionFull, Approaching, TrainNotYet, Berthed}
use Rattle.line_law.specs.declared.call.Reply.TheVariants.{PartBerthed, NoTrainAt, BerthOccupied, PortionAhead, Cleared}
use Rattle.line_law.specs.declared.call.Reply.TheVariants.{NoPortion, Winding, AlreadyWinding, NotAtNormal, Released}
use Rattle.line_law.specs.declared.call.Reply.TheVariants.{NotWinding, TooSoon}

-- the number of a Welwyn state
abbrev pub welwyn_number : WelwynState → ℕ
welwyn_number welwyn.Ready = 0
welwyn_number welwyn.Given = 1
welwyn_number welwyn.Berthed = 2

-- the number of a way
abbrev pub way_number : Way → ℕ
way_number Up = 0
way_number Down = 1

-- the number of a spent mark
abbrev pub mark_number : Bool → ℕ
mark_number false = 0
mark_number true = 1

-- the number of what a bell shows: 0 for no code, else one more than the code
abbrev pub shown_code : Option ℕ → ℕ
shown_code None = 0
shown_code (Some code) = code + 1

-- which of the replies it is, numbered in their order from 0; then the numbers that it tells, in its order, with 0 for
-- each that it tells less than four
abbrev pub reply_numbers : Reply → List ℕ
reply_numbers (Rung k) = 0 ∷ k ∷ 0 ∷ 0 ∷ 0 ∷ []
reply_numbers (BellBusy code k) = 1 ∷ k ∷ code ∷ 0 ∷ 0 ∷ []
reply_numbers (Heard code k) = 2 ∷ k ∷ code ∷ 0 ∷ 0 ∷ []
reply_numbers (Silent k) = 3 ∷ k ∷ 0 ∷ 0 ∷ 0 ∷ []
reply_numbers (BellNotYet shown k) = 4 ∷ k ∷ shown_code shown ∷ 0 ∷ 0 ∷ []
reply_numbers (Turned v) = 5 ∷ v ∷ 0 ∷ 0 ∷ 0 ∷ []
reply_numbers AlreadyThere = 6 ∷ 0 ∷ 0 ∷ 0 ∷ 0 ∷ []
reply_numbers NotFromNormal = 7 ∷ 0 ∷ 0 ∷ 0 ∷ 0 ∷ []
reply_numbers (HomeReversed lever) = 8 ∷ lever ∷ 0 ∷ 0 ∷ 0 ∷ []
reply_numbers (TrackOccupied place train) = 9 ∷ place ∷ train ∷ 0 ∷ 0 ∷ []
reply_numbers (WelwynHolds state) = 10 ∷ welwyn_number state ∷ 0 ∷ 0 ∷ 0 ∷ []
reply_numbers (CountFull out) = 11 ∷ out ∷ 0 ∷ 0 ∷ 0 ∷ []
reply_numbers (Seen v) = 12 ∷ v ∷ 0 ∷ 0 ∷ 0 ∷ []
reply_numbers (BlockNotYet shown v) = 13 ∷ v ∷ position_code shown ∷ 0 ∷ 0 ∷ []
reply_numbers Pulled = 14 ∷ 0 ∷ 0 ∷ 0 ∷ 0 ∷ []
reply_numbers (PulledUnder v) = 15 ∷ v ∷ 0 ∷ 0 ∷ 0 ∷ []
reply_numbers AlreadyReversed = 16 ∷ 0 ∷ 0 ∷ 0 ∷ 0 ∷ []
reply_numbers Spare = 17 ∷ 0 ∷ 0 ∷ 0 ∷ 0 ∷ []
reply_numbers (HeldByLever lever row) = 18 ∷ lever ∷ row ∷ 0 ∷ 0 ∷ []
reply_numbers (HeldByTrack place train) = 19 ∷ place ∷ train ∷ 0 ∷ 0 ∷ []
reply_numbers (HeldByInstrument way shown spent v) =
    20 ∷ way_number way ∷ v ∷ position_code shown ∷ mark_number spent ∷ []
reply_numbers Put = 21 ∷ 0 ∷ 0 ∷ 0 ∷ 0 ∷ []
reply_numbers AlreadyNormal = 22 ∷ 0 ∷ 0 ∷ 0 ∷ 0 ∷ []
reply_numbers Brought = 23 ∷ 0 ∷ 0 ∷ 0 ∷ 0 ∷ []
reply_numbers AlreadyBrought = 24 ∷ 0 ∷ 0 ∷ 0 ∷ 0 ∷ []
reply_numbers (Occupied place train) = 25 ∷ place ∷ train ∷ 0 ∷ 0 ∷ []
reply_numbers (Passed train) = 26 ∷ train ∷ 0 ∷ 0 ∷ 0 ∷ []
reply_numbers (Entered train k) = 27 ∷ k ∷ train ∷ 0 ∷ 0 ∷ []
reply_numbers NoTrain = 28 ∷ 0 ∷ 0 ∷ 0 ∷ 0 ∷ []
reply_numbers AtDanger = 29 ∷ 0 ∷ 0 ∷ 0 ∷ 0 ∷ []
reply_numbers ArmOff = 30 ∷ 0 ∷ 0 ∷ 0 ∷ 0 ∷ []
reply_numbers (SectionFull k) = 31 ∷ k ∷ 0 ∷ 0 ∷ 0 ∷ []
reply_numbers (Approaching train j) = 32 ∷ j ∷ train ∷ 0 ∷ 0 ∷ []
reply_numbers (TrainNotYet j) = 33 ∷ j ∷ 0 ∷ 0 ∷ 0 ∷ []
reply_numbers (Berthed train j) = 34 ∷ j ∷ train ∷ 0 ∷ 0 ∷ []
reply_numbers (PartBerthed train j) = 35 ∷ j ∷ train ∷ 0 ∷ 0 ∷ []
reply_numbers (NoTrainAt j) = 36 ∷ j ∷ 0 ∷ 0 ∷ 0 ∷ []
reply_numbers (BerthOccupied train) = 37 ∷ train ∷ 0 ∷ 0 ∷ 0 ∷ []
reply_numbers (PortionAhead train) = 38 ∷ train ∷ 0 ∷ 0 ∷ 0 ∷ []
reply_numbers (Cleared train j) = 39 ∷ j ∷ train ∷ 0 ∷ 0 ∷ []
reply_numbers NoPortion = 40 ∷ 0 ∷ 0 ∷ 0 ∷ 0 ∷ []
reply_numbers (Winding ready_at) = 41 ∷ ready_at ∷ 0 ∷ 0 ∷ 0 ∷ []
reply_numbers AlreadyWinding = 42 ∷ 0 ∷ 0 ∷ 0 ∷ 0 ∷ []
reply_numbers NotAtNormal = 43 ∷ 0 ∷ 0 ∷ 0 ∷ 0 ∷ []
reply_numbers Released = 44 ∷ 0 ∷ 0 ∷ 0 ∷ 0 ∷ []
reply_numbers NotWinding = 45 ∷ 0 ∷ 0 ∷ 0 ∷ 0 ∷ []
reply_numbers (TooSoon ready_at) = 46 ∷ ready_at ∷ 0 ∷ 0 ∷ 0 ∷ []

-- two replies are the same
abbrev pub same_reply : Reply → Reply → Bool
same_reply reply other = pointwise nat_eq (reply_numbers reply) (reply_numbers other)
