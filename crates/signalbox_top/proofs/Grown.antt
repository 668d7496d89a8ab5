-- What is told behind prompts, and what is taken of a transcript.
use Rattle.std.proofs.Common.{ℕ, ◌≤◌, List, [], ◌∷◌, ◌++◌, Option, length, inl, inr, ap, sym, ◌∙◌, arith}
use Rattle.std.proofs.Math.Seq.{take-append_seam}
use Rattle.std.proofs.lemmas.List.{length-append}
use Rattle.rail_text.specs.Bytes.{TakesPart, appended}
use Rattle.rail_text.proofs.Appended.{appended-two}
use Rattle.hand_working.specs.Works.{Grows}
use Rattle.signalbox_top.specs.Told.{TellsWhy}
use Rattle.signalbox_top.specs.Top.{TakesFront}

-- why something could not be done is told behind prompts
pub why_behind : (old middle new : Option (List ℕ)) (first then last : ℕ) → Grows old middle → first ≤ then
    → TellsWhy middle new then last → TellsWhy old new first last
why_behind old middle new first then last grows later (inl told) =
    (let long = length-append grows.0 told.0 in
    inl (
      grows.0 ++ told.0,
      omega (arith, long, told.1),
      told.2 ∙ ap (λ (taken : Option (List ℕ)). appended taken told.0) grows.1 ∙ appended-two old grows.0 told.0,
    ))
why_behind old middle new first then last grows later (inr rose) = inr (omega (arith, later, rose))

-- what was taken is the front part of some text
pub front_of : (old new : Option (List ℕ)) → Grows old new → TakesFront old new
front_of old new grows =
    let long = length-append grows.0 (0 ∷ []) in
    let part : TakesPart old new (grows.0 ++ 0 ∷ []) = (
      length grows.0,
      omega (arith, long),
      grows.1 ∙ ap (appended old) (sym (take-append_seam grows.0 (0 ∷ []))),
    ) in
    inr (grows.0 ++ 0 ∷ [], part)
