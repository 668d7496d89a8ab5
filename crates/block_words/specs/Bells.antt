-- The word of a bell.
use Rattle.std.specs.Prelude.{ℕ, ◌+◌, ◌*◌, ◌/◌, ◌%◌}

-- a bell on which k codes were rung, and this code stands unheard; 0 is none
abbrev pub bell_word : ℕ → ℕ → ℕ
bell_word k code = 256 * k + code

-- how many codes were rung
abbrev pub bell_count : ℕ → ℕ
bell_count w = w / 256

-- the code that stands unheard, or 0
abbrev pub bell_code : ℕ → ℕ
bell_code w = w % 256
