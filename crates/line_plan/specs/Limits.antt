-- The limits of a plan, by its version.
use Rattle.std.specs.Prelude.{ℕ, ◌==◌, if◌then◌else◌}

-- the most boxes of a line
abbrev pub most_boxes : ℕ → ℕ
most_boxes version = if version == 1 then 32 else 64

-- the most places of a box
abbrev pub most_places : ℕ
most_places = 64

-- the most rows of a box
abbrev pub most_rows : ℕ
most_rows = 400

-- the most trains of a line
abbrev pub most_plan_trains : ℕ
most_plan_trains = 5000

-- the longest delay: minutes in version 1, seconds in version 2
abbrev pub most_delay : ℕ → ℕ
most_delay version = if version == 1 then 60 else 3600

-- the most looks of an await
abbrev pub most_looks : ℕ
most_looks = 1000000000

-- the most bytes of a plan's text
abbrev pub most_bytes : ℕ
most_bytes = 4194304
