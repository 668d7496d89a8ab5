use Rattle.std.proofs.Common.{◌≡◌, ℕ, ◌++◌, List, length}
use Rattle.std.specs.Vec.Iter.{into_iter_items}
use Rattle.text_fetch.specs.FromTexts.{Held}
use Rattle.text_fetch.specs.Fetches.{AreEachRead, AreFetched}
use Rattle.text_fetch.specs.Runs.{AreOwn}
use Rattle.text_fetch.proofs.Gathering.{AreRead}
use Rattle.text_fetch.proofs.gather.read_scripts.Given as goal

abbrev pub invariant-loop-script : goal.invariant-loop-script
invariant-loop-script g l = record {
  can : (goal.iterator-loop-script g).can_next l.script-iterator;
  ends : (goal.iterator-loop-script g).is_finite l.script-iterator;
  each : AreEachRead l.plan l.texts (l.yielded ++ into_iter_items l.script-iterator);
  all : length (l.yielded ++ into_iter_items l.script-iterator) ≡ length l.texts;
  counted : length l.scripts.items ≡ length l.yielded;
  read : (held : Held) (names : List (List ℕ)) → length names ≡ length l.texts → AreFetched held names l.texts
      → AreRead held l.plan names (length l.yielded) l.scripts.items;
  own : AreOwn l.plan l.scripts.items;
}
