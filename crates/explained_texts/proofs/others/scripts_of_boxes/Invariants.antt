use Rattle.std.proofs.Common.{◌≡◌, ℕ, List, length}
use Rattle.text_fetch.specs.FromTexts.{named}
use Rattle.text_fetch.specs.Runs.{AreOwn}
use Rattle.explained_texts.specs.Others.{AreOthers}
use Rattle.explained_texts.proofs.others.scripts_of_boxes.Given as goal

abbrev pub invariant-loop-box_no : goal.invariant-loop-box_no
invariant-loop-box_no g l =
    let held = g.S.Shelf.held l.fn.shelf in
    record {
      same : (n : List ℕ) → g.S.Shelf.held l.shelf n ≡ held n;
      counted : length l.scripts.items ≡ l.box_no;
      own : AreOwn l.plan l.scripts.items;
      others : AreOthers held l.plan l.own (named l.names) l.scripts.items;
    }
