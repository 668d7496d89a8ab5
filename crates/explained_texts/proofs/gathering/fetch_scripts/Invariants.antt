use Rattle.std.proofs.Common.{◌≡◌, ◌+◌, ◌≤◌, ℕ, List, All, length, map}
use Rattle.script_text.specs.Scripts.{most_script_bytes}
use Rattle.text_fetch.specs.Fetches.{AreFetched}
use Rattle.text_fetch.specs.Runs.{AreOwn}
use Rattle.text_fetch.proofs.Gathering.{AreRead}
use Rattle.explained_texts.proofs.gathering.fetch_scripts.Given as goal

abbrev pub invariant-loop-box_no : goal.invariant-loop-box_no
invariant-loop-box_no g l =
    let held = g.S.Shelf.held l.fn.shelf in
    let names = map (λ name. name.now) l.names in
    record {
      same : (n : List ℕ) → g.S.Shelf.held l.shelf n ≡ held n;
      later : (n : List ℕ) → g.S.Shelf.faults l.fn.shelf n ≤ g.S.Shelf.faults l.shelf n;
      read : AreRead held l.plan names l.box_no l.scripts.items;
      own : AreOwn l.plan l.scripts.items;
      counted : length l.texts.items ≡ l.box_no;
      fetched : AreFetched held names l.texts.items;
      few : All (λ text. length text.items ≤ most_script_bytes + 1) l.texts.items;
    }
