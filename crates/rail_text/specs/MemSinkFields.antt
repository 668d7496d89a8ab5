-- What holds of the fields of every sink in memory.
use Rattle.std.specs.Prelude.{ℕ, ◌≤◌}

-- it takes some byte in a put, no more than its room in all, and has the memory for that
pub record IsMemSink (cap room taken capacity : ℕ) : Type 0 where
  pub takes_some : 1 ≤ cap
  pub within : taken ≤ room
  pub has_room : room ≤ capacity
