-- The first train of a plain line is one of the plan.
use Rattle.std.proofs.Common.{◌≡◌, ℕ, List, [], ◌∷◌, Option, All, IfSome, IsTrue, slice_get, sym, subst}
use Rattle.std.proofs.lemmas.List.Elements.{All-head}
use Rattle.block_words.specs.declared.Way.{Way}
use Rattle.line_plan.specs.Plans.{PlanFields, is_train}
use Rattle.line_plan.specs.declared.plan.TrainPlan.{TrainPlan}
use Rattle.line_law.specs.declared.link.Link.TheVariants.{In}
use Rattle.line_law.specs.declared.state.Passage.{Passage}
use Rattle.line_law.specs.Lines.{IsLineOf, PlainState}
use Rattle.line_law.specs.Links.{pair_no}
use Rattle.line_law.specs.States.{pair_at}
use Rattle.line_law.specs.Ways.{of_way}
use Rattle.box_view.specs.Look.{first_coming}

-- a train of the plan passes
abbrev IsKnown : List TrainPlan → Passage → Type 0
IsKnown trains passage = IsTrue (is_train trains passage.train)

first_known : (trains : List TrainPlan) (line : List Passage) → All (IsKnown trains) line
    → IfSome (slice_get line 0) (IsKnown trains)
first_known trains [] h = tt
first_known trains (passage ∷ rest) h = All-head (IsKnown trains) passage rest h

-- the first train on the plain line of an incoming line is one of the plan
pub coming_known : (plan : PlanFields) (plain : PlainState) (b : ℕ) (way : Way) (first : Option Passage)
    → IsLineOf plan plain → first ≡ first_coming plain.line b way
    → IfSome first (λ passage. IsTrue (is_train plan.trains passage.train))
coming_known plan plain b way first is e =
    subst (λ (o : Option Passage). IfSome o (IsKnown plan.trains)) (sym e)
    (first_known plan.trains (of_way (pair_at plain.line (pair_no b (In way))).lines way)
    ((is.pairs (pair_no b (In way))).lines way))
