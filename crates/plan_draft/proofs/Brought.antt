-- A place of a box that is found by its number.
use Rattle.std.proofs.Common.{◌≡◌, ℕ, Bool, true, false, cond, List, None, Err, Result, slice_get, refl, ap, ◌∙◌}
use Rattle.std.proofs.lemmas.Option.{get_or_from_slice_get}
use Rattle.rail_text.specs.Words.{is_name}
use Rattle.rail_text.specs.declared.cause.Cause.{Cause}
use Rattle.rail_text.specs.declared.cause.Cause.TheVariants as causes
use Rattle.line_plan.specs.Frames.{BoxFields}
use Rattle.plan_draft.specs.LineWords.{number_in_names}
use Rattle.line_plan.specs.Plans.{no_box, box_at}
use Rattle.plan_draft.specs.Reading.{brought_in}
use Rattle.line_plan.proofs.Named.{none_here}

either : {A : Type 0} (b : Bool) (x : A) → cond b x x ≡ x
either true x = refl
either false x = refl

nothing : (text : List ℕ) → brought_in no_box text ≡ Err causes.UnknownName
unfolding brought_in number_in_names
nothing text = let none : Result ℕ Cause = Err causes.UnknownName in rw (either (is_name text) none) refl

-- where there is no such box, no place has the name
pub brought_none : (boxes : List BoxFields) (i : ℕ) (text : List ℕ) → slice_get boxes i ≡ None
    → brought_in (box_at boxes i) text ≡ Err causes.UnknownName
brought_none boxes i text e = ap (λ (b : BoxFields). brought_in b text) (none_here boxes i no_box e) ∙ nothing text

pub ruleset brought_rules = (brought_none, get_or_from_slice_get)
