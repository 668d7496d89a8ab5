-- A line that is held for a program of others.
use Rattle.std.specs.Prelude.{◌≡◌, ℕ, ◌+◌, ◌<◌, ◌≤◌, ◌^◌, Bool, List, [], ◌++◌, length, nat_lt, replicate, take}
use Rattle.line_plan.specs.Plans.{PlanFields}
use Rattle.line_law.specs.declared.call.Call.{Call}
use Rattle.line_law.specs.declared.call.Entry.{Entry}
use Rattle.line_law.specs.History.{IsLegal, state_of}
use Rattle.line_law.specs.Lines.{PlainState}
use Rattle.line_law.specs.Serial.{AreLeft, calls_left, count_left}
use Rattle.line_law.specs.States.{LineState}
use Rattle.line_rehearsal.specs.Rehearsals.{left_after}
use Rattle.box_session.specs.Others.{others_from}

-- what a service is to its callers: the plan; the calls made so far, with their replies; and for each box the calls
-- that are left of its script
pub record ServiceFields : Type 0 where
  pub plan : PlanFields
  pub entries : List Entry
  pub left : List (List Call)

-- the line as the calls leave it
abbrev pub line_of : ServiceFields → LineState
line_of service = state_of service.plan service.entries

-- no box has a script
abbrev pub none_left : PlanFields → List (List Call)
none_left plan = replicate (length plan.boxes) []

-- the line of a plan that has just opened: no call is made yet, and no script is given
abbrev pub opening : PlanFields → ServiceFields
opening plan = record { plan = plan; entries = []; left = none_left plan }

-- box b is worked by its script, which has calls left
abbrev pub has_script : ServiceFields → ℕ → Bool
has_script service b = nat_lt 0 (length (calls_left service.left b))

-- how many entries there are, those counted that are still to come by what is left of the scripts
abbrev pub count_in_all : ServiceFields → ℕ
count_in_all service = length service.entries + count_left service.left

-- ---- the boxes that are worked by their scripts

-- what these do, the lowest first, up to where each is stopped at an await that the line doesn't satisfy, or has ended
abbrev pub others_of : ServiceFields → List Entry
others_of service = others_from service.plan (line_of service) service.left

-- the service where they have done that
abbrev pub gone_on : ServiceFields → ServiceFields
gone_on service = record service {
  entries = service.entries ++ others_of service;
  left = left_after service.left (others_of service);
}

-- ---- what a service keeps

-- a legal history of the plan's line, few enough to be counted; the line is as it leaves it
pub record IsKept (plan : PlanFields) (entries : List Entry) (plain : PlainState) : Type 0 where
  pub legal : IsLegal plan entries
  pub few : length entries < 2 ^ 32
  pub line : plain ≡ record { line = state_of plan entries; calls = length entries }

-- The same; and what is left of the scripts are calls that the boxes may make in turn, few enough to be counted.
pub record IsWorked (plan : PlanFields) (entries : List Entry) (left : List (List Call)) (plain : PlainState)
    : Type 0 where
  pub kept : IsKept plan entries plain
  pub may : AreLeft plan (state_of plan entries) left
  pub few : length entries + count_left left < 2 ^ 32

-- The same; and an earlier line, as it stood behind the first so many of the calls.
pub record IsHeld (plan : PlanFields) (entries : List Entry) (left : List (List Call)) (plain earlier : PlainState)
    (count : ℕ) : Type 0 where
  pub worked : IsWorked plan entries left plain
  pub within : count ≤ length entries
  pub stood : IsKept plan (take count entries) earlier
