use Rattle.std.proofs.Common.{ℕ, ◌<◌, ◌≤◌, ◌⊎◌, inl, inr, Option, Some, None, arith, refl}
use Rattle.std.proofs.lemmas.Bool.Decides.{nat_tests}
use Rattle.welwyn_control.specs.declared.releases.ReleaseReply.{ReleaseReply}
use Rattle.welwyn_control.specs.declared.releases.ReleaseReply.TheVariants.{Released, NotWinding, TooSoon}
use Rattle.welwyn_control.specs.Releases.{ComesAt}
use Rattle.welwyn_control.proofs.releases.releases_law.Goals as goal

one_comes : (winding : Option ℕ) (moment : ℕ) → (reply : ReleaseReply) × ComesAt reply winding moment
one_comes None moment = (NotWinding, refl)
one_comes (Some ready_at) moment =
    let due : (moment < ready_at) ⊎ (ready_at ≤ moment) = grind (arith, nat_tests) in
    elim due [ inl early ↦ (TooSoon ready_at, (refl, early)) | inr late ↦ (Released, late) ]

pub returns-clause-some : goal.returns-clause-some
returns-clause-some c = one_comes
