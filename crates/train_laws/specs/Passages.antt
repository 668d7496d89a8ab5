-- The trains that enter the plain line of a section, and those that leave it.
use Rattle.std.specs.Prelude.{◌≡◌, ℕ, ◌==◌, ◌&&◌, ◌⊎◌, Bool, false, IsTrue, List, [], ◌∷◌, ◌++◌, if◌then◌else◌}
use Rattle.line_plan.specs.Frames.{is_way, same_way}
use Rattle.line_plan.specs.Plans.{PlanFields}
use Rattle.line_plan.specs.Sections.{advance_of}
use Rattle.line_plan.specs.declared.section.Section.{Section}
use Rattle.line_law.specs.declared.call.Act.{Act}
use Rattle.line_law.specs.declared.call.Act.TheVariants as acts
use Rattle.line_law.specs.declared.call.Entry.{Entry}
use Rattle.line_law.specs.declared.call.Reply.{Reply}
use Rattle.line_law.specs.declared.call.Reply.TheVariants as replies
use Rattle.line_law.specs.declared.state.Passage.{Passage}
use Rattle.train_laws.specs.MayPull.{starter_at}

-- a call by which a train passes or overruns the section's starter
abbrev pub is_entering : PlanFields → Section → Act → Bool
is_entering plan section (acts.Pass lever) = is_way section.way (starter_at plan section.rear lever)
is_entering plan section (acts.Overrun lever) = is_way section.way (starter_at plan section.rear lever)
is_entering plan section act = false

-- a call by which a train comes whole into the section's berth, or a portion of it is cleared away
abbrev pub is_leaving : Section → Act → Bool
is_leaving section (acts.Berth way) = same_way way section.way
is_leaving section (acts.ClearPortion way) = same_way way section.way
is_leaving section act = false

-- the train that entered, with its number, if one did
abbrev pub train_entered : Reply → List Passage
train_entered (replies.Entered train k) = record { number = k; train = train } ∷ []
train_entered reply = []

-- the train that left, with its number, if one did
abbrev pub train_left : Reply → List Passage
train_left (replies.Berthed train j) = record { number = j; train = train } ∷ []
train_left (replies.Cleared train j) = record { number = j; train = train } ∷ []
train_left reply = []

-- the train that an entry brings onto the section's plain line, if it brings one
abbrev pub entering : PlanFields → Section → Entry → List Passage
entering plan section e =
    if (e.box_no == section.rear) && is_entering plan section e.call.act then train_entered e.reply else []

-- the train that an entry takes off the section's plain line, if it takes one
abbrev pub leaving : Section → Entry → List Passage
leaving section e = if (e.box_no == advance_of section) && is_leaving section e.call.act then train_left e.reply else []

-- the trains that entered the section's plain line, in order
abbrev pub trains_entered : PlanFields → Section → List Entry → List Passage
trains_entered plan section [] = []
trains_entered plan section (e ∷ es) = entering plan section e ++ trains_entered plan section es

-- the trains that left it, in order
abbrev pub trains_left : Section → List Entry → List Passage
trains_left section [] = []
trains_left section (e ∷ es) = leaving section e ++ trains_left section es

-- a train entered the section's plain line as its k-th
pub record EntersAs (plan : PlanFields) (section : Section) (k train : ℕ) (e : Entry) : Type 0 where
  pub box : e.box_no ≡ section.rear
  pub act : IsTrue (is_entering plan section e.call.act)
  pub reply : e.reply ≡ replies.Entered train k

-- the k-th train left the section's plain line: it came whole into the berth, or its portion was cleared away
pub record LeavesAs (section : Section) (k train : ℕ) (e : Entry) : Type 0 where
  pub box : e.box_no ≡ advance_of section
  pub act : IsTrue (is_leaving section e.call.act)
  pub reply : (e.reply ≡ replies.Berthed train k) ⊎ (e.reply ≡ replies.Cleared train k)
