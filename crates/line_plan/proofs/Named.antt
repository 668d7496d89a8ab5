-- What stands at a number of a list.
use Rattle.std.proofs.Common.{◌≡◌, ℕ, zero, suc, ◌<◌, List, [], ◌∷◌, length, get_or, slice_get, Option, None, refl, sym}
use Rattle.std.proofs.Common.{ap, ◌∙◌, arith}
use Rattle.std.specs.Option.{unwrap_or}
use Rattle.std.proofs.lemmas.Option.{unwrap_or-slice_get}
use Rattle.line_plan.specs.Frames.{BoxFields}
use Rattle.line_plan.specs.Plans.{names_of}

-- the name at a box's number is that box's name
pub name_at : (boxes : List BoxFields) (b : ℕ) (d : BoxFields) → b < length boxes
    → get_or (names_of boxes) b [] ≡ (get_or boxes b d).name
name_at [] b d lt = absurd (omega arith)
name_at (x ∷ xs) zero d lt = refl
name_at (x ∷ xs) (suc b) d lt = name_at xs b d (omega arith)

-- behind the list there is nothing
pub none_here : {X : Type 0} (xs : List X) (i : ℕ) (d : X) → slice_get xs i ≡ None → get_or xs i d ≡ d
none_here {X} xs i d e = sym (unwrap_or-slice_get xs i d) ∙ ap (λ (o : Option X). unwrap_or o d) e
