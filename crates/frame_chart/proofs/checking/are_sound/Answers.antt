use Rattle.frame_chart.proofs.Judged.{lengths_differ}
use Rattle.frame_chart.proofs.checking.are_sound.Goals as goal

pub returns-then-channels-bridles : goal.returns-then-channels-bridles
returns-then-channels-bridles c = lengths_differ c.args.bridles.now c.args.channels.now c.if-channels-bridles.true
