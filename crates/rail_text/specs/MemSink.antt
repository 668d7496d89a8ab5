-- A sink in memory.
use Rattle.std.specs.Prelude.{ℕ, ◌-◌, ◌==◌, min, List, ◌++◌, length, take, Option, Some, None, is_some, unwrap_or}
use Rattle.std.specs.Prelude.{if◌then◌else◌}
use Rattle.rail_text.specs.Causes.{raised}
use Rattle.rail_text.specs.MemShelf.{fails_next}

-- what it took, how much it has room for, the most that it takes in a put, the numbers of the calls that fail, and its
-- counts
pub record SinkState : Type 0 where
  pub taken : List ℕ
  pub room : ℕ
  pub cap : ℕ
  pub fails : List ℕ
  pub calls : ℕ
  pub faults : ℕ

-- how many bytes may still be taken
abbrev pub room_left : SinkState → ℕ
room_left sink = sink.room - length sink.taken

-- how many bytes of the piece the next put takes; none at all where it is a fault: it is a call that fails, or there is
-- a byte and no room is left
abbrev pub taken_next : SinkState → List ℕ → Option ℕ
taken_next sink piece =
    if fails_next sink.fails sink.calls then None
    else if length piece == 0 then Some 0
    else if room_left sink == 0 then None
    else Some (min (min (length piece) sink.cap) (room_left sink))

-- the sink after that put
abbrev pub sink_after : SinkState → List ℕ → SinkState
sink_after sink piece = record sink {
  taken = sink.taken ++ take (unwrap_or (taken_next sink piece) 0) piece;
  calls = raised sink.calls;
  faults = if is_some (taken_next sink piece) then sink.faults else raised sink.faults;
}
