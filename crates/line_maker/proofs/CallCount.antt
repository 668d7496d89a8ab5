-- The made line has 60 calls for each train.
use Rattle.std.proofs.Common.{◌≡◌, ℕ, ◌+◌, ◌*◌, zero, suc, Bool, true, false, length, refl, arith}
use Rattle.std.specs.Prelude.{if◌then◌else◌, sum_by}
use Rattle.std.proofs.lemmas.List.{length-append}
use Rattle.line_maker.specs.MadeCalls.{acts_for, calls_at, down_acts, made_calls, made_scripts, off, send}
use Rattle.line_maker.specs.MadeCalls.{take_in, up_acts}
use Rattle.line_maker.specs.MadeTrains.{runs_down, train_moment}
use Rattle.line_maker.specs.declared.working.MadeBox.{MadeBox}
use Rattle.line_maker.specs.declared.working.MadeBox.TheVariants.{Ash, Beech, Cedar}

-- how many calls the three boxes make for a train that runs down, or up
for_one : (down : Bool) (i moment : ℕ)
    → length (calls_at moment (if down then down_acts Ash i else up_acts Ash i))
    + length (calls_at moment (if down then down_acts Beech i else up_acts Beech i))
    + length (calls_at moment (if down then down_acts Cedar i else up_acts Cedar i)) ≡ 60
unfolding send take_in off down_acts up_acts
for_one true i moment = refl
for_one false i moment = refl

-- the calls of a box for one train more
one_more : (at : MadeBox) (n : ℕ)
    → length (made_calls at (suc n)) ≡ length (made_calls at n) + length (calls_at (train_moment (suc n))
    (acts_for at (suc n)))
unfolding made_calls
one_more at n = length-append (made_calls at n) (calls_at (train_moment (suc n)) (acts_for at (suc n)))

none_yet : (at : MadeBox) → length (made_calls at 0) ≡ 0
unfolding made_calls
none_yet at = refl

pub calls_counted : (n : ℕ)
    → length (made_calls Ash n) + length (made_calls Beech n) + length (made_calls Cedar n) ≡ 60 * n
calls_counted zero = omega (arith, none_yet Ash, none_yet Beech, none_yet Cedar)
calls_counted (suc n) =
    let one = for_one (runs_down (suc n)) (suc n) (train_moment (suc n)) in
    omega (arith, one_more Ash n, one_more Beech n, one_more Cedar n, calls_counted n, one)

-- the scripts of the made line have 60 calls for each of its trains
pub scripts_counted : (n : ℕ) → sum_by (λ script. length script.calls) (made_scripts n) ≡ 60 * n
unfolding made_scripts
scripts_counted n = omega (arith, calls_counted n)
