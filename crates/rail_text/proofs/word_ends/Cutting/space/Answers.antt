use Rattle.rail_text.proofs.Cuts.{space_kept, space_only}
use Rattle.rail_text.proofs.word_ends.Cutting.space.Goals as goal
use Rattle.rail_text.proofs.word_ends.Cutting.space.Goals.{then-self-lt-KEPT, else-self-lt-KEPT}

pub returns : goal.returns
returns c text lt is h =
    elim c.if-self-lt-KEPT.branch [
      | then-self-lt-KEPT w ↦ rw w.ends-is (space_kept text c.args.ends.now c.args.at c.args.self.now.spaces
          c.args.self.now.start c.args.self.now.gap lt is w.if-self-lt-KEPT.true h)
      | else-self-lt-KEPT w ↦ rw w.ends-is (space_only text c.args.ends.now c.args.at c.args.self.now.spaces
          c.args.self.now.start c.args.self.now.gap lt is w.if-self-lt-KEPT.false h)
    ]
