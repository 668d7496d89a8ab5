use Rattle.std.proofs.Common.{◌≡◌, ◌-◌, ◌≤◌, Some, length, map, take, drop, replicate}
use Rattle.bell_codes.specs.Reading.{groups_of}
use Rattle.bell_codes.proofs.reading.code_in.Given as goal

-- the parts so far are groups, and stand first among the beats; zeros stand behind them
abbrev pub invariant-loop-part : goal.invariant-loop-part
invariant-loop-part l = record {
  can : (goal.iterator-loop-part).can_next l.part-iterator;
  finite : (goal.iterator-loop-part).is_finite l.part-iterator;
  count : l.groups ≡ length l.yielded;
  few : l.groups ≤ 5;
  len : length l.beats ≡ 5;
  read : groups_of (map (λ part. part.now) l.yielded) ≡ Some (take l.groups l.beats);
  zeros : drop l.groups l.beats ≡ replicate (5 - l.groups) 0;
}
