use Rattle.std.proofs.Common.{◌≡◌, ℕ, ◌≤◌, List, map, vec_len}
use Rattle.text_fetch.specs.Fetches.{AreFetched}
use Rattle.text_fetch.proofs.gather.fetch_texts.Given as goal

abbrev pub invariant-loop-name : goal.invariant-loop-name
invariant-loop-name g l =
    let held = g.S.Shelf.held l.fn.shelf in
    record {
      same : (n : List ℕ) → g.S.Shelf.held l.shelf n ≡ held n;
      later : (n : List ℕ) → g.S.Shelf.faults l.fn.shelf n ≤ g.S.Shelf.faults l.shelf n;
      fetched : AreFetched held (map (λ name. name.now) l.names) l.texts.items;
      counted : vec_len l.texts ≡ l.name-index;
    }
