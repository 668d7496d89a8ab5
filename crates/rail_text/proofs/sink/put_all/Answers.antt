use Rattle.std.proofs.Common.{ℕ, length, refl, ap, arith, length-drop}
use Rattle.rail_text.proofs.Appended.{appended-on, appended-none, rest_is}
use Rattle.rail_text.proofs.sink.put_all.Goals as goal

pub loop-at-init : goal.loop-at-init
loop-at-init g c = record { within = omega arith; taken = appended-none _; start = λ _. refl; later = omega arith }

pub loop-at-preserved : goal.loop-at-preserved
loop-at-preserved g c = record {
  within = omega (arith, c.in_ok-n.ensures.bound);
  taken = appended-on _ _ _ c.args.bytes.now c.loop-at.at c.in_ok-n.n c.loop-at.invariant.taken c.in_ok-n.ensures.took;
  start = λ none.
      absurd (omega (
        arith,
        c.in_ok-n.ensures.some
            (omega (arith, ap length (rest_is c.args.bytes.now c.loop-at.at), length-drop {A = ℕ})),
      ));
  later = omega (arith, c.loop-at.invariant.later, c.put.ensures.later);
}
