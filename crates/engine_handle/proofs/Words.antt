-- The machine values of a slot.
use Rattle.std.proofs.Common.{◌≡◌, List, [], ◌∷◌, refl}
use mathlib.Core.Bool.{true, ◌&&◌}
use lib.Dec.{T, lit<}
use mir.Syntax.{Ty}
use mir.Val.{Val, vnull, vstruct, vcons, vnil, has_ty, WT}
use denote.Laws.{Typed}
use Rattle.std.proofs.ResultValues.{and_tt}

-- a struct of two fields
abbrev pub both : Val → Val → Val
both v w = vstruct (vcons v (vcons w vnil))

-- a value that has its type and fits
abbrev pub Good : Ty → Val → Type 0
Good τ v = T (has_ty τ v) × WT v

-- a list of values of one type is one value
pub one : (τ : Ty) (vs : List Val) → Typed (τ ∷ []) vs → (v : Val) × (vs ≡ v ∷ []) × Good τ v
one τ [] t = absurd t
one τ (v ∷ []) t = (v, refl, t.0)
one τ (v ∷ w ∷ vs) t = absurd t.1

-- null beside a handle
pub both_good : (τ : Ty) (h : Val) → Good τ h → T (has_ty τ h && true) × WT (both vnull h)
both_good τ h fits = (and_tt (has_ty τ h) fits.0, (record { fits = lit< tt }, (fits.1, tt)))
