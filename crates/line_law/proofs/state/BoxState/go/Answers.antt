use Rattle.line_law.proofs.state.BoxState.go.Goals as goal

pub returns-in-Section : goal.returns-in-Section
returns-in-Section c = rw c.in-Section.is c.enter_on.ensures
