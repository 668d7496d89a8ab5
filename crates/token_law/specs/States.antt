-- The state of a single line: what its instruments show, and the tokens in each.
use Rattle.std.specs.Prelude.{ℕ, ◌+◌, ◌==◌, ◌≤◌, if◌then◌else◌}
use Rattle.token_law.specs.declared.calls.Shown.{Shown}
use Rattle.token_law.specs.declared.calls.Shown.TheVariants.{Idle, Leave, Held, OnLine}

-- what both instruments show, and the tokens in the instrument of each box
pub record TokenState : Type 0 where
  pub shown : Shown
  pub at_0 : ℕ
  pub at_1 : ℕ

-- a line that opens: it is idle
abbrev pub opening_tokens : ℕ → ℕ → TokenState
opening_tokens at_0 at_1 = record { shown = Idle; at_0 = at_0; at_1 = at_1 }

-- the tokens in the instrument of box b
abbrev pub tokens_at : TokenState → ℕ → ℕ
tokens_at state b = if b == 0 then state.at_0 else state.at_1

-- the line with so many tokens in the instrument of box b
abbrev pub with_tokens : TokenState → ℕ → ℕ → TokenState
with_tokens state b tokens = if b == 0 then record state { at_0 = tokens } else record state { at_1 = tokens }

-- the tokens that are out: 1 for a token held or on the line
abbrev pub out_by : Shown → ℕ
out_by Idle = 0
out_by (Leave to) = 0
out_by (Held at train) = 1
out_by (OnLine to train) = 1

-- the tokens of a line: those in both instruments, and one that is out
abbrev pub all_tokens : TokenState → ℕ
all_tokens state = state.at_0 + state.at_1 + out_by state.shown

-- the most tokens in an instrument at the opening
abbrev pub most_tokens : ℕ
most_tokens = 50

-- a line has no more tokens than two full instruments
pub record IsTokenState (state : TokenState) : Type 0 where
  pub few : all_tokens state ≤ most_tokens + most_tokens
