use Rattle.std.proofs.Common.{◌≡◌, ℕ, ◌<◌, get_or, length}
use Rattle.std.specs.Global.{Vec}
use Rattle.sheet_text.proofs.rows.no_remarks.Given as goal

abbrev pub invariant-loop : goal.invariant-loop
invariant-loop l = record {
  count : length l.parts.items ≡ l.counter;
  none : (t : ℕ) (d : Vec ℕ) → t < l.counter → length (get_or l.parts.items t d).items ≡ 0;
}
