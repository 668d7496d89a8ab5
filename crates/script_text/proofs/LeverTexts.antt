-- The levers of a frame are numbered from 1 to 120.
use Rattle.std.proofs.Common.{◌≡◌, ℕ, ◌+◌, ◌<◌, ◌≤◌, Bool, true, false, cond, eqb, ltb, List, [], ◌∷◌, length, Some}
use Rattle.std.proofs.Common.{is_some, refl, arith}
use Rattle.std.specs.List.{find}
use Rattle.std.proofs.lemmas.Bool.Decides.{nat_tests}
use Rattle.rail_text.proofs.PrintedLines.{both}
use Rattle.line_plan.specs.declared.frame.Lever.{Lever}
use Rattle.line_plan.specs.Frames.{last_number, are_rising}
use Rattle.line_plan.specs.Plans.{PlanFields, IsPlan, box_at}
use Rattle.line_law.specs.Known.{knows_lever}

rising_last : (before : ℕ) (levers : List Lever) → are_rising before levers ≡ true → before ≤ last_number before levers
rising_last before [] h = omega arith
rising_last before (lever ∷ levers) h =
    let e = both (ltb before lever.number) (are_rising lever.number levers) h in
    let up : before < lever.number = grind (arith, nat_tests, e.0) in
    omega (arith, up, rising_last lever.number levers e.1)

-- a number from low to high
pub record IsFrom (low high n : ℕ) : Type 0 where
  pub low_enough : low ≤ n
  pub high_enough : n ≤ high

rising_from : (before : ℕ) (levers : List Lever) (n : ℕ) → are_rising before levers ≡ true
    → is_some (find (λ lever. eqb lever.number n) levers) ≡ true → IsFrom (before + 1) (last_number before levers) n
rising_from before [] n h k = absurd cc
rising_from before (lever ∷ levers) n h k =
    let e = both (ltb before lever.number) (are_rising lever.number levers) h in
    let up : before < lever.number = grind (arith, nat_tests, e.0) in
    go up (rising_last lever.number levers e.1) (rising_from lever.number levers n e.1) (eqb lever.number n) refl k
  where
    go : before < lever.number → lever.number ≤ last_number lever.number levers
        → (is_some (find (λ other. eqb other.number n) levers) ≡ true
        → IsFrom (lever.number + 1) (last_number lever.number levers) n)
        → (same : Bool) → eqb lever.number n ≡ same
        → is_some (cond same (Some lever) (find (λ other. eqb other.number n) levers)) ≡ true
        → IsFrom (before + 1) (last_number lever.number levers) n
    go up last rest true e k =
        let is : lever.number ≡ n = grind (arith, nat_tests, e) in
        record { low_enough = omega (arith, up, is); high_enough = omega (arith, is, last) }
    go up last rest false e k =
        let r = rest k in
        record { low_enough = omega (arith, up, r.low_enough); high_enough = r.high_enough }

-- a lever of the frame
pub lever_from : (plan : PlanFields) (b lever : ℕ) → IsPlan plan → b < length plan.boxes
    → knows_lever plan b lever ≡ true → IsFrom 1 120 lever
lever_from plan b lever p at h =
    let is = p.each b at in
    let f = rising_from 0 (box_at plan.boxes b).levers lever is.rising h in
    record { low_enough = f.low_enough; high_enough = omega (arith, f.high_enough, is.frame) }
