-- Answers that list entries.
use Rattle.std.specs.Prelude.{◌≡◌, ℕ, ◌+◌, ◌-◌, ◌<◌, ◌≤◌, ◌^◌, ◌&&◌, false, List, [], ◌∷◌, ◌++◌, codes, drop, length}
use Rattle.std.specs.Prelude.{Option, Some, None, Result, Ok, Err, nat_le, nat_lt, if◌then◌else◌}
use Rattle.serde_json.specs.Data.{Data, array, member, no_members, object}
use Rattle.serde_json.specs.View.{items_of}
use Rattle.json_objects.specs.Texts.{IsTextOf}
use Rattle.rail_text.specs.Gives.{◌>>=◌}
use Rattle.rail_text.specs.declared.cause.Cause.TheVariants as causes
use Rattle.line_plan.specs.Plans.{box_at as box_plan_at}
use Rattle.line_plan.specs.declared.frame.Lever.{Lever}
use Rattle.line_law.specs.Known.{moments_of}
use Rattle.line_law.specs.States.{box_at}
use Rattle.script_text.specs.Moments.{moment_of}
use Rattle.journal_records.specs.Objects.{IsEntryData}
use Rattle.box_view.specs.Moves.{move_entry}
use Rattle.line_requests.specs.Answers.{IsFaultText}
use Rattle.line_requests.specs.declared.fault.Fault.{Fault}
use Rattle.line_requests.specs.declared.fault.Fault.TheVariants as faults
use Rattle.line_service.specs.Calls.{box_named}
use Rattle.line_service.specs.Services.{ServiceFields, count_in_all, has_script, line_of}
use Rattle.line_service.specs.declared.moves.Present.{Present}
use Rattle.line_service.specs.declared.service.TheConstants.{MOST_ENTRIES}

-- behind these objects come one for each of these things, in order: such as is told of it at its place
abbrev pub PutsEach : {X : Type 0} → (ℕ → X → Data → Type 0) → ℕ → List X → List Data → List Data → Type 0
PutsEach Is at [] old new = new ≡ old
PutsEach Is at (x ∷ xs) old new = (d : Data) × Is at x d × PutsEach Is (at + 1) xs (old ++ d ∷ []) new

-- a list of objects under a key
abbrev pub list_data : List ℕ → List Data → Data
list_data key items = object (member key (array (items_of items)) no_members)

-- ---- the journal

-- how many entries come before the one with a number, which may be one more than there are
abbrev pub before_entry : ServiceFields → ℕ → Result ℕ Fault
before_entry service from =
    if nat_le 1 from && nat_le from (length service.entries + 1) then Ok (from - 1) else Err faults.UnknownEntry

-- the text of the objects of the entries behind so many
pub record IsJournalText (service : ServiceFields) (before : ℕ) (text : List ℕ) : Type 0 where
  pub items : List Data
  pub each : PutsEach (λ at e d. IsEntryData service.plan (before + 1 + at) e d) 0 (drop before service.entries) []
      items
  pub is : IsTextOf (list_data (codes "journal") items) text

-- what answers where the entries from a number on are asked for
abbrev pub IsListed : ServiceFields → Result ℕ Fault → List ℕ → Type 0
IsListed service (Ok before) text = IsJournalText service before text
IsListed service (Err fault) text = IsFaultText fault text

-- ---- which levers may be moved

-- a moment, or none that the day has
abbrev pub moment_or : Option ℕ → Result ℕ Fault
moment_or None = Err (faults.Cause causes.BadMoment)
moment_or (Some moment) = Ok moment

-- it is a box of the line that no script works, and may make a call at that moment of the day
pub record IsPresent (service : ServiceFields) (here : Present) : Type 0 where
  pub at : here.box_no < length service.plan.boxes
  pub day : here.moment < moments_of service.plan.version
  pub later : (box_at (line_of service) here.box_no).moment ≤ here.moment
  pub own : has_script service here.box_no ≡ false
  pub room : count_in_all service + 1 < 2 ^ 32

-- box b at a moment, where it may make a call then
unfoldable pub present_at : ServiceFields → ℕ → ℕ → Result Present Fault
present_at service b moment =
    if has_script service b then Err faults.HasScript
    else if nat_le MOST_ENTRIES (count_in_all service) then Err faults.Full
    else if nat_lt moment (box_at (line_of service) b).moment then Err (faults.Cause causes.MomentFalls)
    else Ok (record { box_no = b; moment = moment })

-- the box of that name at the moment of that word
unfoldable pub present_of : ServiceFields → List ℕ → List ℕ → Result Present Fault
present_of service name at =
    box_named service.plan name >>= (λ b. moment_or (moment_of service.plan.version at) >>= (λ moment.
    present_at service b moment))

-- the object of the call that moves a lever of a box at a moment, with the law's reply, as its entry would be
abbrev pub IsMoveData : ServiceFields → Present → Lever → Data → Type 0
IsMoveData service here lever d =
    IsEntryData service.plan (length service.entries + 1)
    (move_entry service.plan (line_of service) here.box_no here.moment lever.number) d

-- the text of these, one for each lever of the box, in order
pub record IsMovesText (service : ServiceFields) (here : Present) (text : List ℕ) : Type 0 where
  pub items : List Data
  pub each : PutsEach (λ at lever d. IsMoveData service here lever d) 0
      (box_plan_at service.plan.boxes here.box_no).levers [] items
  pub is : IsTextOf (list_data (codes "may") items) text

-- what answers where it is asked which levers of a box may be moved
abbrev pub AreMoves : ServiceFields → Result Present Fault → List ℕ → Type 0
AreMoves service (Ok here) text = IsMovesText service here text
AreMoves service (Err fault) text = IsFaultText fault text
