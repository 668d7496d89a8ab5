-- The lines of a frame that were fetched whole.
use Rattle.std.proofs.Common.{◌≡◌, ℕ, ◌+◌, ◌≤◌, List, Option, Some, None, Ok, IfSome, ap, arith, length, refl, sym}
use Rattle.std.proofs.Common.{take, ◌∙◌}
use Rattle.std.proofs.lemmas.List.{length-take, take_all}
use Rattle.std.specs.Prelude.{min, option_map}
use Rattle.line_plan.specs.Limits.{most_bytes}
use Rattle.line_plan.specs.Plans.{PlanFields}
use Rattle.plan_draft.specs.Reading.{plan_of}
use Rattle.text_fetch.specs.FromTexts.{IsGiven, text_told}
use Rattle.explained_texts.specs.Frames.{framed}

-- where fewer bytes were fetched than might have been, they are all
whole : (n : ℕ) (all : List ℕ) → length (take (n + 1) all) ≤ n → take (n + 1) all ≡ all
whole n all few =
    let count : min (n + 1) (length all) ≤ n = rw (sym (length-take (n + 1) all)) few in
    take_all (n + 1) all (grind arith)

-- the plan of the lines that a shelf tells is that of those that were fetched
pub frame_given : (held : Option (List ℕ)) (lines : List ℕ) (plan : PlanFields)
    → IfSome held (λ all. lines ≡ take (most_bytes + 1) all) → length lines ≤ most_bytes
    → plan_of (framed lines) ≡ Ok plan → IsGiven plan (text_told 1 plan_of (option_map framed held))
frame_given None lines plan told few is = tt
frame_given (Some all) lines plan told few is =
    let all_of : lines ≡ all = told ∙ whole most_bytes all (rw (sym told) few) in
    let same : plan_of (framed all) ≡ Ok plan = ap (λ xs. plan_of (framed xs)) (sym all_of) ∙ is in
    rw same refl
