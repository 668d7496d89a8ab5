-- Which lines a line may follow.
use Rattle.std.proofs.Common.{◌≡◌, ℕ, ◌+◌, ◌-◌, ◌≤◌, Bool, true, false, cond, List, [], ◌∷◌, ◌++◌, length, Result, refl}
use Rattle.std.proofs.Common.{ap, ◌∙◌, arith}
use Rattle.std.proofs.lemmas.Bool.Decides.{nat_tests}
use Rattle.rail_text.specs.Gives.{◌>>=◌, FailsLine}
use Rattle.rail_text.specs.declared.cause.Cause.{Cause}
use Rattle.rail_text.specs.declared.line_fault.LineFault.{LineFault}
use Rattle.rail_text.specs.declared.line_fault.LineFault.TheVariants as faults
use Rattle.plan_draft.specs.declared.draft.Stage.{Stage}
use Rattle.plan_draft.specs.declared.draft.Stage.TheVariants as stages
use Rattle.std.proofs.lemmas.List.{length-append, length-map}
use Rattle.line_plan.specs.Frames.{BoxFields}
use Rattle.line_plan.specs.Plans.{names_of}
use Rattle.plan_draft.specs.Drafts.{rank, in_box, behind_box, boxes_with}
use Rattle.plan_draft.specs.Reading.{between, may_follow}

-- before the lines of boxes
pub not_in_box : (stage : Stage) → rank stage ≤ 5 → in_box stage ≡ false
not_in_box stage low = grind (arith, nat_tests)

-- a stage that lies between two ranks is at least the one and at most the other
pub bounds : (low high : ℕ) (stage : Stage) → between low high stage ≡ true → (low ≤ rank stage) × (rank stage ≤ high)
bounds low high stage e = (grind (arith, nat_tests), grind (arith, nat_tests))

within : (high : ℕ) (last : Stage) → high ≤ 15 → between 6 high last ≡ true → in_box last ≡ true
within high last few e = grind (arith, nat_tests)

-- the lines before all boxes follow no line of a box
pub early : (kind last : Stage) → rank kind ≤ 5 → may_follow kind last ≡ true → in_box last ≡ false
unfolding may_follow
early stages.Start last low may = absurd cc
early stages.Plan last low may = let b = bounds 0 0 last may in not_in_box last (omega (arith, b.1))
early stages.Boxes last low may = let b = bounds 1 1 last may in not_in_box last (omega (arith, b.1))
early stages.Delay last low may = let b = bounds 2 2 last may in not_in_box last (omega (arith, b.1))
early stages.Looks last low may = let b = bounds 3 3 last may in not_in_box last (omega (arith, b.1))
early stages.Class last low may = let b = bounds 4 5 last may in not_in_box last b.1
early stages.Box last low may = absurd (omega (arith, low))
early stages.Place last low may = absurd (omega (arith, low))
early stages.Lever last low may = absurd (omega (arith, low))
early stages.Signal last low may = absurd (omega (arith, low))
early stages.Starter last low may = absurd (omega (arith, low))
early stages.Berth last low may = absurd (omega (arith, low))
early stages.Clear last low may = absurd (omega (arith, low))
early stages.Permissive last low may = absurd (omega (arith, low))
early stages.Track last low may = absurd (omega (arith, low))
early stages.Row last low may = absurd (omega (arith, low))
early stages.Train last low may = absurd (omega (arith, low))
early stages.Ended last low may = absurd (omega (arith, low))

-- the lines of a box behind its first follow a line of a box
pub behind : (kind last : Stage) → behind_box kind ≡ true → may_follow kind last ≡ true → in_box last ≡ true
unfolding may_follow
behind stages.Place last is may = within 7 last (omega arith) may
behind stages.Lever last is may = within 8 last (omega arith) may
behind stages.Signal last is may = within 9 last (omega arith) may
behind stages.Starter last is may = within 10 last (omega arith) may
behind stages.Berth last is may = within 11 last (omega arith) may
behind stages.Clear last is may = within 12 last (omega arith) may
behind stages.Permissive last is may = within 13 last (omega arith) may
behind stages.Track last is may = within 14 last (omega arith) may
behind stages.Row last is may = within 15 last (omega arith) may
behind stages.Start last is may = absurd cc
behind stages.Plan last is may = absurd cc
behind stages.Boxes last is may = absurd cc
behind stages.Delay last is may = absurd cc
behind stages.Looks last is may = absurd cc
behind stages.Class last is may = absurd cc
behind stages.Box last is may = absurd cc
behind stages.Train last is may = absurd cc
behind stages.Ended last is may = absurd cc

-- where a line of the box fails, so does the line of the draft
pub fails_then : {A B : Type 0} (e : LineFault) (r : Result A Cause) (f : A → Result B Cause) → FailsLine e r
    → FailsLine e (r >>= f)
fails_then (faults.Cause cause) r f h = rw h refl
fails_then faults.NoMemory r f h = tt

-- how many boxes stand in front of the one whose lines are being read
pub in_front : (stage : Stage) (boxes : List BoxFields) (here : BoxFields) (names : List (List ℕ)) (n : ℕ)
    → in_box stage ≡ true → n ≡ length names → names ≡ names_of (boxes_with stage boxes here) → n - 1 ≡ length boxes
in_front stage boxes here names n is counted named =
    let all : names ≡ names_of (boxes ++ here ∷ []) = named
    ∙ ap (λ (b : Bool). names_of (cond b (boxes ++ here ∷ []) boxes)) is in
    let long : length (names_of (boxes ++ here ∷ []))
    ≡ length (boxes ++ here ∷ []) = length-map (boxes ++ here ∷ []) (λ b. b.name) in
    let more : length (boxes ++ here ∷ []) ≡ length boxes + 1 = length-append boxes (here ∷ []) in
    omega (arith, counted, ap length all, long, more)
