use Rattle.token_block.proofs.post.TokenPost.step.Given as goal

abbrev pub ghosts-step_as : goal.ghosts-step_as
ghosts-step_as a = record { tokens = a.line.now.table.shared.key; box_no = a.box_no; act = a.act }
