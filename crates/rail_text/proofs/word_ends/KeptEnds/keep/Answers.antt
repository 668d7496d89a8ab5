use Rattle.std.proofs.Common.{◌%◌, ◌∙◌, refl}
use Rattle.std.proofs.lemmas.List.{length-set}
use Rattle.rail_text.proofs.Cuts.{ends_full, ends_kept, ends_none}
use Rattle.rail_text.proofs.word_ends.KeptEnds.keep.Goals as goal
use Rattle.rail_text.proofs.word_ends.KeptEnds.keep.Goals.{then-spaces-lt-KEPT, else-spaces-lt-KEPT}
use Rattle.rail_text.proofs.word_ends.KeptEnds.keep.Goals.{then-len-lt256, else-len-lt256}

pub returns-clause-ends : goal.returns-clause-ends
returns-clause-ends c text start gap is h =
    elim c.if-len-lt256.branch [
      | then-len-lt256 w ↦ elim c.if-spaces-lt-KEPT.branch [
        | then-spaces-lt-KEPT v ↦ rw (w.self-is, v.self-is) (ends_kept text c.args.self.now.at c.args.len
            c.args.spaces start w.min-self.result gap is h v.if-spaces-lt-KEPT.true w.if-len-lt256.true
            w.min-self.ensures)
        | else-spaces-lt-KEPT v ↦ rw (w.self-is, v.self-is) (ends_full text c.args.self.now.at c.args.len
            c.args.spaces start w.min-self.result gap is h v.if-spaces-lt-KEPT.false w.if-len-lt256.true
            w.min-self.ensures)
      ]
      | else-len-lt256 w ↦ elim c.if-spaces-lt-KEPT.branch [
        | then-spaces-lt-KEPT v ↦ rw (w.self-is, v.self-is) (ends_none text _ 0
            (length-set c.args.self.now.at c.args.spaces (c.args.len % 256) ∙ h.room) refl)
        | else-spaces-lt-KEPT v ↦ rw (w.self-is, v.self-is) (ends_none text _ 0 h.room refl)
      ]
    ]
