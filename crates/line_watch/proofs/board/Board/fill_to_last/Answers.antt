use Rattle.std.proofs.Common.{◌≡◌, List, [], ◌∷◌, ◌++◌, ap, ◌∙◌, append_assoc, arith, length-append}
use Rattle.line_watch.specs.declared.sight.Sight.{Sight}
use Rattle.line_watch.specs.Boards.{BoardFields}
use Rattle.line_watch.proofs.BoardsShown.{begins_itself, rounds_on}
use Rattle.line_watch.proofs.board.Board.fill_to_last.Goals as goal

pub loop-preserved : goal.loop-preserved
loop-preserved c =
    let now = c.loop.invariant in
    let one = c.fill.ensures.filled in
    let plan = c.args.line.now.table.shared.key in
    let seen = c.loop.watcher.view.seen in
    let later = c.fill.new.watcher.view.seen in
    let rounds : c.fill.new.self.rounds ≡ c.args.self.now.rounds ++ (now.filled.0 ++ one.0 ∷ []) =
    ap (λ (b : BoardFields). b.rounds) one.1 ∙ (ap (λ (l : List (List Sight)). l ++ one.0 ∷ []) now.filled.1
    ∙ append_assoc c.args.self.now.rounds now.filled.0 (one.0 ∷ [])) in
    record {
      watches = c.fill.ensures.line;
      boxes = ap (λ (b : BoardFields). b.boxes) one.1 ∙ now.boxes;
      left = (let a = now.left in let b = ap (λ (b : BoardFields). b.left) one.1 in let t = c.loop-test.true in
          let r = c.requires.left in let m = c.left-but_last.ensures in omega arith);
      filled = (
        now.filled.0 ++ one.0 ∷ [],
        rounds,
        (let l = length-append now.filled.0 (one.0 ∷ []) in let n = now.filled.2 in omega arith),
        rounds_on plan now.filled.0 one.0 _ seen seen later later now.filled.3 (begins_itself seen) one.2
            (begins_itself later),
      );
    }
