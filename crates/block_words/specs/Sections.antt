-- The word of a section: four lanes of 16 bits, lane 0 lowest. The i-th train stands in lane i mod 4.
use Rattle.std.specs.Prelude.{ℕ, ◌+◌, ◌-◌, ◌*◌, ◌/◌, ◌%◌, ◌==◌, if◌then◌else◌}

-- the lowest bit of the lane of the i-th train
abbrev pub lane_unit : ℕ → ℕ
lane_unit i = if i % 4 == 0 then 1
    else (if i % 4 == 1 then 65536 else (if i % 4 == 2 then 4294967296 else 281474976710656))

-- the train in the lane of the i-th train, or 0
abbrev pub lane : ℕ → ℕ → ℕ
lane w i = w / lane_unit i % 65536

-- this train in the lane of the i-th train, and all other lanes empty
abbrev pub lane_bits : ℕ → ℕ → ℕ
lane_bits i train = train * lane_unit i

-- all bits but those of the lane of the i-th train
abbrev pub lane_mask : ℕ → ℕ
lane_mask i = 18446744073709551615 - 65535 * lane_unit i

-- the word of four lanes, by the train in each
abbrev pub lanes_word : (ℕ → ℕ) → ℕ
lanes_word train = train 0 + 65536 * train 1 + 4294967296 * train 2 + 281474976710656 * train 3
