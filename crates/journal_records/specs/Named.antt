-- What a reply names: a lever, a place, a train.
use Rattle.std.specs.Prelude.{ℕ, List, Option, Some, None, option_map}
use Rattle.line_plan.specs.Plans.{PlanFields}
use Rattle.line_law.specs.declared.call.Reply.{Reply}
use Rattle.line_law.specs.declared.call.Reply.TheVariants as replies
use Rattle.script_text.specs.Names.{place_text, train_text}

-- the lever that a reply names
abbrev pub lever_named : Reply → Option ℕ
lever_named (replies.HomeReversed lever) = Some lever
lever_named (replies.HeldByLever lever row) = Some lever
lever_named reply = None

-- the place of a box that a reply names, by its number
abbrev pub place_in : Reply → Option ℕ
place_in (replies.TrackOccupied place train) = Some place
place_in (replies.HeldByTrack place train) = Some place
place_in (replies.Occupied place train) = Some place
place_in reply = None

-- the train that a reply names, by its number
abbrev pub train_in : Reply → Option ℕ
train_in (replies.TrackOccupied place train) = Some train
train_in (replies.HeldByTrack place train) = Some train
train_in (replies.Occupied place train) = Some train
train_in (replies.Passed train) = Some train
train_in (replies.Entered train k) = Some train
train_in (replies.Approaching train j) = Some train
train_in (replies.Berthed train j) = Some train
train_in (replies.PartBerthed train j) = Some train
train_in (replies.BerthOccupied train) = Some train
train_in (replies.PortionAhead train) = Some train
train_in (replies.Cleared train j) = Some train
train_in reply = None

-- the place of box b that a reply names, by its name
abbrev pub place_named : PlanFields → ℕ → Reply → Option (List ℕ)
place_named plan b reply = option_map (place_text plan b) (place_in reply)

-- the train that a reply names, by its name
abbrev pub train_named : PlanFields → Reply → Option (List ℕ)
train_named plan reply = option_map (train_text plan) (train_in reply)
