-- Releases: when each reply comes, and what it makes of the winding.
use Rattle.std.specs.Prelude.{◌≡◌, ℕ, ◌<◌, ◌≤◌, Option, Some, None, IsSomeAnd}
use Rattle.welwyn_control.specs.declared.releases.ReleaseReply.{ReleaseReply}
use Rattle.welwyn_control.specs.declared.releases.ReleaseReply.TheVariants.{Released, NotWinding, TooSoon}

-- where this reply comes: by the ready moment of the winding, if there is one, and the moment of the call
abbrev pub ComesAt : ReleaseReply → Option ℕ → ℕ → Type 0
ComesAt Released winding moment = IsSomeAnd winding (λ ready_at. ready_at ≤ moment)
ComesAt NotWinding winding moment = winding ≡ None
ComesAt (TooSoon ready_at) winding moment = (winding ≡ Some ready_at) × (moment < ready_at)

-- a release that is complete ends the winding
abbrev pub winding_after : ReleaseReply → Option ℕ → Option ℕ
winding_after Released winding = None
winding_after NotWinding winding = winding
winding_after (TooSoon _) winding = winding
