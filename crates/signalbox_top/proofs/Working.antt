-- How many levers of a frame work something.
use Rattle.std.proofs.Common.{◌≡◌, ℕ, ◌+◌, ◌<◌, ◌≤◌, Bool, true, false, List, [], ◌∷◌, length, cond, arith, ltb}
use Rattle.std.proofs.lemmas.Bool.Decides.{nat_tests}
use Rattle.line_plan.specs.Frames.{are_rising, last_number}
use Rattle.line_plan.specs.Plans.{IsPlan, PlanFields, box_at}
use Rattle.line_plan.specs.declared.frame.Lever.{Lever}
use Rattle.locking_table.specs.Places.{most_levers}
use Rattle.rail_text.proofs.PrintedLines.{both}
use Rattle.signalbox_top.specs.WalkedFrames.{is_working, working_numbers}

less_is : (a b : ℕ) → ltb a b ≡ true → a < b
less_is a b h = grind (arith, nat_tests)

-- no more of them work something than the number of the last
pub working_few : (before : ℕ) (levers : List Lever) → are_rising before levers ≡ true
    → before + length (working_numbers levers) ≤ last_number before levers
working_few before [] h = omega arith
working_few before (lever ∷ levers) h =
    let parts = both (ltb before lever.number) (are_rising lever.number levers) h in
    let rest = working_few lever.number levers parts.1 in
    let low = less_is before lever.number parts.0 in
    go (is_working lever.kind) low rest where
      go : (works : Bool) → before < lever.number
          → lever.number + length (working_numbers levers) ≤ last_number lever.number levers
          → before + length (cond works (lever.number ∷ working_numbers levers) (working_numbers levers))
          ≤ last_number lever.number levers
      go true low rest = omega (arith, low, rest)
      go false low rest = omega (arith, low, rest)

-- no more levers of a box of a plan work something than a frame has room for
pub box_few : (plan : PlanFields) (b : ℕ) → IsPlan plan → b < length plan.boxes
    → length (working_numbers (box_at plan.boxes b).levers) ≤ most_levers
box_few plan b is within =
    let here = is.each b within in
    omega (arith, working_few 0 (box_at plan.boxes b).levers here.rising, here.frame)
