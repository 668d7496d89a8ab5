use Rattle.std.proofs.Common.{false}
use Rattle.instrument_rule.specs.Posts.{plan_of}
use Rattle.instrument_rule.proofs.post.Post.look_at.Given as goal

abbrev pub ghosts-look_as : goal.ghosts-look_as
ghosts-look_as a = record { plan = plan_of a.line.now; call = a.call.now; op = a.op; last = false }
