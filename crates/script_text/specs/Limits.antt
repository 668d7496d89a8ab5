-- The limits of a script.
use Rattle.std.specs.Prelude.{ℕ}

-- the most calls of a script
abbrev pub most_calls : ℕ
most_calls = 10000

-- the most bytes of a script's text
abbrev pub most_script_bytes : ℕ
most_script_bytes = 1048576
