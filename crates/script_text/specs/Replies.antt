-- Replies as they are printed, and which replies a text can spell.
use Rattle.std.specs.Prelude.{ℕ, ◌^◌, Bool, true, false, ◌&&◌, nat_lt, nat_le, List, [], ◌∷◌, length, Option, Some}
use Rattle.std.specs.Prelude.{None, codes, decimal}
use Rattle.std.specs.List.{join_with_byte}
use Rattle.block_words.specs.declared.WelwynState.{WelwynState}
use Rattle.block_words.specs.declared.WelwynState.TheVariants as states
use Rattle.line_plan.specs.Plans.{PlanFields, box_at, is_train}
use Rattle.line_plan.specs.Ways.{way_word}
use Rattle.line_law.specs.declared.call.Reply.{Reply}
use Rattle.line_law.specs.declared.call.Reply.TheVariants as replies
use Rattle.line_law.specs.Known.{is_code_no, knows_lever}
use Rattle.script_text.specs.Moments.{moment_text, ready_moments}
use Rattle.script_text.specs.Names.{position_text, code_no_text, place_text, train_text}

-- ---- as they are printed

-- what a bell shows
abbrev pub shown_text : PlanFields → Option ℕ → List ℕ
shown_text plan None = codes "none"
shown_text plan (Some code) = code_no_text plan.codes code

-- a Welwyn state by which the commutator is held
abbrev pub state_text : WelwynState → List ℕ
state_text states.Ready = codes "ready"
state_text states.Given = codes "given"
state_text states.Berthed = codes "berthed"

-- whether an instrument is spent
abbrev pub spent_text : Bool → List ℕ
spent_text true = codes "spent"
spent_text false = codes "unspent"

-- the words of a reply at box b
abbrev pub reply_words : PlanFields → ℕ → Reply → List (List ℕ)
reply_words plan b (replies.Rung k) = codes "rung" ∷ decimal k ∷ []
reply_words plan b (replies.BellBusy code k) = codes "bell_busy" ∷ decimal k ∷ code_no_text plan.codes code ∷ []
reply_words plan b (replies.Heard code k) = codes "heard" ∷ decimal k ∷ code_no_text plan.codes code ∷ []
reply_words plan b (replies.Silent k) = codes "silent" ∷ decimal k ∷ []
reply_words plan b (replies.BellNotYet shown k) = codes "not_yet" ∷ decimal k ∷ shown_text plan shown ∷ []
reply_words plan b (replies.Turned v) = codes "turned" ∷ decimal v ∷ []
reply_words plan b replies.AlreadyThere = codes "already_there" ∷ []
reply_words plan b replies.NotFromNormal = codes "not_from_normal" ∷ []
reply_words plan b (replies.HomeReversed lever) = codes "home_reversed" ∷ decimal lever ∷ []
reply_words plan b (replies.TrackOccupied place train) =
    codes "track_occupied" ∷ place_text plan b place ∷ train_text plan train ∷ []
reply_words plan b (replies.WelwynHolds state) = codes "welwyn_holds" ∷ state_text state ∷ []
reply_words plan b (replies.CountFull out) = codes "count_full" ∷ decimal out ∷ []
reply_words plan b (replies.Seen v) = codes "seen" ∷ decimal v ∷ []
reply_words plan b (replies.BlockNotYet shown v) = codes "not_yet" ∷ decimal v ∷ position_text shown ∷ []
reply_words plan b replies.Pulled = codes "pulled" ∷ []
reply_words plan b (replies.PulledUnder v) = codes "pulled_under" ∷ decimal v ∷ []
reply_words plan b replies.AlreadyReversed = codes "already_reversed" ∷ []
reply_words plan b replies.Spare = codes "spare" ∷ []
reply_words plan b (replies.HeldByLever lever row) =
    codes "held_by_lever" ∷ decimal lever ∷ codes "row" ∷ decimal row ∷ []
reply_words plan b (replies.HeldByTrack place train) =
    codes "held_by_track" ∷ place_text plan b place ∷ train_text plan train ∷ []
reply_words plan b (replies.HeldByInstrument way shown spent v) =
    codes "held_by_instrument" ∷ way_word way ∷ decimal v ∷ position_text shown ∷ spent_text spent ∷ []
reply_words plan b replies.Put = codes "put" ∷ []
reply_words plan b replies.AlreadyNormal = codes "already_normal" ∷ []
reply_words plan b replies.Brought = codes "brought" ∷ []
reply_words plan b replies.AlreadyBrought = codes "already_brought" ∷ []
reply_words plan b (replies.Occupied place train) =
    codes "occupied" ∷ place_text plan b place ∷ train_text plan train ∷ []
reply_words plan b (replies.Passed train) = codes "passed" ∷ train_text plan train ∷ []
reply_words plan b (replies.Entered train k) = codes "entered" ∷ decimal k ∷ train_text plan train ∷ []
reply_words plan b replies.NoTrain = codes "no_train" ∷ []
reply_words plan b replies.AtDanger = codes "at_danger" ∷ []
reply_words plan b replies.ArmOff = codes "arm_off" ∷ []
reply_words plan b (replies.SectionFull k) = codes "section_full" ∷ decimal k ∷ []
reply_words plan b (replies.Approaching train j) = codes "approaching" ∷ decimal j ∷ train_text plan train ∷ []
reply_words plan b (replies.TrainNotYet j) = codes "not_yet" ∷ decimal j ∷ []
reply_words plan b (replies.Berthed train j) = codes "berthed" ∷ decimal j ∷ train_text plan train ∷ []
reply_words plan b (replies.PartBerthed train j) = codes "part_berthed" ∷ decimal j ∷ train_text plan train ∷ []
reply_words plan b (replies.NoTrainAt j) = codes "no_train" ∷ decimal j ∷ []
reply_words plan b (replies.BerthOccupied train) = codes "occupied" ∷ train_text plan train ∷ []
reply_words plan b (replies.PortionAhead train) = codes "portion_ahead" ∷ train_text plan train ∷ []
reply_words plan b (replies.Cleared train j) = codes "cleared" ∷ decimal j ∷ train_text plan train ∷ []
reply_words plan b replies.NoPortion = codes "no_portion" ∷ []
reply_words plan b (replies.Winding ready_at) = codes "winding" ∷ moment_text plan.version ready_at ∷ []
reply_words plan b replies.AlreadyWinding = codes "already_winding" ∷ []
reply_words plan b replies.NotAtNormal = codes "not_at_normal" ∷ []
reply_words plan b replies.Released = codes "released" ∷ []
reply_words plan b replies.NotWinding = codes "not_winding" ∷ []
reply_words plan b (replies.TooSoon ready_at) = codes "too_soon" ∷ moment_text plan.version ready_at ∷ []

-- a reply at box b as it is printed: its words, with one space between each two
unfoldable pub reply_text : PlanFields → ℕ → Reply → List ℕ
reply_text plan b reply = join_with_byte 32 (reply_words plan b reply)

-- ---- which replies a text can spell

-- a count of at most ten digits
abbrev pub is_count : ℕ → Bool
is_count n = nat_lt n (10 ^ 10)

-- a count of 32 bits
abbrev pub is_small : ℕ → Bool
is_small n = nat_lt n (2 ^ 32)

-- a place of box b
abbrev pub is_place : PlanFields → ℕ → ℕ → Bool
is_place plan b place = nat_lt place (length (box_at plan.boxes b).places)

-- a row of the locking table of box b; rows are numbered from 1
abbrev pub is_row : PlanFields → ℕ → ℕ → Bool
is_row plan b row = nat_le 1 row && nat_le row (length (box_at plan.boxes b).rows)

-- a train stands at a place: the place is of box b, the train of the plan
abbrev pub is_stand : PlanFields → ℕ → ℕ → ℕ → Bool
is_stand plan b place train = is_place plan b place && is_train plan.trains train

-- a code that a bell shows is in the code table
abbrev pub shows_code : PlanFields → Option ℕ → Bool
shows_code plan None = true
shows_code plan (Some code) = is_code_no plan code

-- a state other than Ready, which holds nothing
abbrev pub is_holding : WelwynState → Bool
is_holding states.Ready = false
is_holding states.Given = true
is_holding states.Berthed = true

-- a moment at which a release may come
abbrev pub is_ready_moment : PlanFields → ℕ → Bool
is_ready_moment plan moment = nat_lt moment (ready_moments plan.version)

-- Some text spells the reply at box b: its codes, places, trains, levers and rows are there, and its numbers and
-- moments in range. A reply that tells nothing more is always spelled.
unfoldable pub is_spelled_reply : PlanFields → ℕ → Reply → Bool
is_spelled_reply plan b (replies.Rung k) = is_count k
is_spelled_reply plan b (replies.BellBusy code k) = is_count k && is_code_no plan code
is_spelled_reply plan b (replies.Heard code k) = is_count k && is_code_no plan code
is_spelled_reply plan b (replies.Silent k) = is_count k
is_spelled_reply plan b (replies.BellNotYet shown k) = is_count k && shows_code plan shown
is_spelled_reply plan b (replies.Turned v) = is_count v
is_spelled_reply plan b (replies.HomeReversed lever) = knows_lever plan b lever
is_spelled_reply plan b (replies.TrackOccupied place train) = is_stand plan b place train
is_spelled_reply plan b (replies.WelwynHolds state) = is_holding state
is_spelled_reply plan b (replies.CountFull out) = is_small out
is_spelled_reply plan b (replies.Seen v) = is_count v
is_spelled_reply plan b (replies.BlockNotYet shown v) = is_count v
is_spelled_reply plan b (replies.PulledUnder v) = is_count v
is_spelled_reply plan b (replies.HeldByLever lever row) = knows_lever plan b lever && is_row plan b row
is_spelled_reply plan b (replies.HeldByTrack place train) = is_stand plan b place train
is_spelled_reply plan b (replies.HeldByInstrument way shown spent v) = is_count v
is_spelled_reply plan b (replies.Occupied place train) = is_stand plan b place train
is_spelled_reply plan b (replies.Passed train) = is_train plan.trains train
is_spelled_reply plan b (replies.Entered train k) = is_count k && is_train plan.trains train
is_spelled_reply plan b (replies.SectionFull k) = is_count k
is_spelled_reply plan b (replies.Approaching train j) = is_count j && is_train plan.trains train
is_spelled_reply plan b (replies.TrainNotYet j) = is_count j
is_spelled_reply plan b (replies.Berthed train j) = is_count j && is_train plan.trains train
is_spelled_reply plan b (replies.PartBerthed train j) = is_count j && is_train plan.trains train
is_spelled_reply plan b (replies.NoTrainAt j) = is_count j
is_spelled_reply plan b (replies.BerthOccupied train) = is_train plan.trains train
is_spelled_reply plan b (replies.PortionAhead train) = is_train plan.trains train
is_spelled_reply plan b (replies.Cleared train j) = is_count j && is_train plan.trains train
is_spelled_reply plan b (replies.Winding ready_at) = is_ready_moment plan ready_at
is_spelled_reply plan b (replies.TooSoon ready_at) = is_ready_moment plan ready_at
is_spelled_reply plan b reply = true
