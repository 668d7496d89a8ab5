-- The limits of a token script.
use Rattle.std.specs.Prelude.{ℕ}

-- the most calls of a token script
abbrev pub most_calls : ℕ
most_calls = 10000

-- the most bytes of a token script's text
abbrev pub most_script_bytes : ℕ
most_script_bytes = 1048576

-- the greatest number of a train
abbrev pub last_train : ℕ
last_train = 65535
