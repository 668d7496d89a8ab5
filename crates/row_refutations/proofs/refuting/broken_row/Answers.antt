use Rattle.row_refutations.proofs.refuting.broken_row.Goals as goal

pub returns : goal.returns
returns c = λ state at is hold so agrees. c.go_on.ensures state at is hold (c.suppose.ensures state so agrees)
