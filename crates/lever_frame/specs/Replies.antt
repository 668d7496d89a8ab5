-- What holds a lever: a row of the locking table, or a train on a place.
use Rattle.std.specs.Prelude.{ℕ, List, [], ◌∷◌, Option, Some, None}
use Rattle.locking_table.specs.declared.row.Holder.{Holder}
use Rattle.track_circuits.specs.Tracks.{occupant_of}
use Rattle.lever_frame.specs.declared.reply.LeverReply.{LeverReply}
use Rattle.lever_frame.specs.declared.reply.LeverReply.TheVariants.{Free, HeldByLever, HeldByTrack}

-- the row that holds the lever, with the lever that it names; else what comes later
abbrev pub row_reply : Option Holder → LeverReply → LeverReply
row_reply None later = later
row_reply (Some holder) later = HeldByLever holder.lever holder.row

-- this place with its train, if it has one; else what comes later
abbrev pub place_reply : Option ℕ → ℕ → LeverReply → LeverReply
place_reply None place later = later
place_reply (Some train) place later = HeldByTrack place train

-- the first of these places on which a train stands, with the train
abbrev pub track_reply : List (Option ℕ) → List ℕ → LeverReply
track_reply tracks [] = Free
track_reply tracks (place ∷ places) = place_reply (occupant_of tracks place) place (track_reply tracks places)
