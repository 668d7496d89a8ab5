-- The trains of the made line, numbered from 1.
use Rattle.std.specs.Prelude.{ℕ, ◌+◌, ◌-◌, ◌*◌, ◌%◌, ◌==◌, Bool, if◌then◌else◌}

-- odd trains run down, even ones up
abbrev pub runs_down : ℕ → Bool
runs_down i = i % 2 == 1

-- the number of a train's class in the plan: trains are ordinary, express, empty and light in turn
abbrev pub class_of : ℕ → ℕ
class_of i = if i % 4 == 1 then 1 else if i % 4 == 2 then 0 else if i % 4 == 3 then 2 else 3

-- the bell code of its class: the opening classes have the codes from 2 on
abbrev pub class_code : ℕ → ℕ
class_code i = class_of i + 2

-- the moment of all calls for a train: five minutes behind the train before, the first at 06:00
abbrev pub train_moment : ℕ → ℕ
train_moment i = 360 + 5 * (i - 1)
