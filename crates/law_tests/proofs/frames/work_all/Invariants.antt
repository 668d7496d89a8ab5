use Rattle.lever_frame.specs.LeverFrames.{IsFrameOf}
use Rattle.law_tests.proofs.frames.work_all.Given as goal

abbrev pub invariant-loop-name : goal.invariant-loop-name
invariant-loop-name g l = IsFrameOf l.plan l.frame
