use Rattle.std.proofs.Common.{arith, refl}
use Rattle.plan_draft.specs.Reading.{kind_onto, here_onto, box_with}
use Rattle.plan_draft.proofs.Following.{early}
use Rattle.plan_draft.proofs.kinds.kind_line.Goals as goal

pub plan_line-requires : goal.plan_line-requires
plan_line-requires c = early c.args.kind c.args.draft.now.stage (rw c.in-Plan.is (omega arith)) c.requires

pub boxes_line-requires : goal.boxes_line-requires
boxes_line-requires c = early c.args.kind c.args.draft.now.stage (rw c.in-Boxes.is (omega arith)) c.requires

pub delay_line-requires : goal.delay_line-requires
delay_line-requires c = early c.args.kind c.args.draft.now.stage (rw c.in-Delay.is (omega arith)) c.requires

pub looks_line-requires : goal.looks_line-requires
looks_line-requires c = early c.args.kind c.args.draft.now.stage (rw c.in-Looks.is (omega arith)) c.requires

pub class_line-requires : goal.class_line-requires
class_line-requires c = early c.args.kind c.args.draft.now.stage (rw c.in-Class.is (omega arith)) c.requires

pub returns-in-Start-clause-gives : goal.returns-in-Start-clause-gives
unfolding kind_onto here_onto box_with
returns-in-Start-clause-gives c = rw c.in-Start.is refl
