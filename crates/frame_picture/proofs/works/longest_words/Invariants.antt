use Rattle.std.proofs.Common.{◌≡◌, drop, max}
use Rattle.frame_picture.specs.Levers.{longest_words}
use Rattle.frame_picture.proofs.works.longest_words.Given as goal

abbrev pub invariant-loop-lever : goal.invariant-loop-lever
invariant-loop-lever l = max l.longest (longest_words l.plan (drop l.lever-index l.plan.levers))
    ≡ longest_words l.plan l.plan.levers
