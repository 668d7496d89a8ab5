use Rattle.tappet_compiler.proofs.compiler.frame_of.Goals as goal

pub new-requires-clause-fits : goal.new-requires-clause-fits
new-requires-clause-fits c = c.in_ok-bridles.ensures.fits c.args.levers c.requires
