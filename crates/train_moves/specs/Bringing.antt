-- How a train is brought to its place.
use Rattle.std.specs.Prelude.{ℕ, ◌-◌, List, Option, Some, None, Bool, true, false, if◌then◌else◌, slice_index_or}
use Rattle.std.specs.Prelude.{slice_set}
use Rattle.track_circuits.specs.Tracks.{occupant_of}
use Rattle.train_moves.specs.declared.trains.BringReply.{BringReply}
use Rattle.train_moves.specs.declared.trains.BringReply.TheVariants.{Brought, AlreadyBrought, Occupied}

-- a train was brought before
abbrev pub was_brought : List Bool → ℕ → Bool
was_brought brought train = slice_index_or brought (train - 1) false

-- refused where a train stands at the place
abbrev pub place_reply : ℕ → Option ℕ → BringReply
place_reply place None = Brought
place_reply place (Some there) = Occupied place there

-- what comes of bringing a train to its place: it was brought before, or a train stands there, or it is brought
abbrev pub bring_reply : List Bool → List (Option ℕ) → ℕ → ℕ → BringReply
bring_reply brought tracks place train =
    if was_brought brought train then AlreadyBrought else place_reply place (occupant_of tracks place)

-- which trains were brought, after this reply
abbrev pub trains_after : BringReply → List Bool → ℕ → List Bool
trains_after Brought brought train = slice_set brought (train - 1) true
trains_after AlreadyBrought brought train = brought
trains_after (Occupied place there) brought train = brought

-- the occupants of the places, after this reply
abbrev pub tracks_after : BringReply → List (Option ℕ) → ℕ → ℕ → List (Option ℕ)
tracks_after Brought tracks place train = slice_set tracks place (Some train)
tracks_after AlreadyBrought tracks place train = tracks
tracks_after (Occupied there other) tracks place train = tracks
