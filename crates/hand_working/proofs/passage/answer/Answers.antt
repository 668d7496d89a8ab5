use Rattle.std.proofs.Common.{ap}
use Rattle.typed_words.specs.Typed.{shown}
use Rattle.hand_working.proofs.passage.answer.Goals as goal

pub answer_call-requires-clause-later : goal.answer_call-requires-clause-later
answer_call-requires-clause-later g c = (c.requires.call c.in-Call.call (ap shown c.in-Call.is)).1

pub set_clock-requires-clause-later : goal.set_clock-requires-clause-later
set_clock-requires-clause-later g c = (c.requires.clock c.in-At.moment (ap shown c.in-At.is)).0

pub set_clock-requires-clause-day : goal.set_clock-requires-clause-day
set_clock-requires-clause-day g c = (c.requires.clock c.in-At.moment (ap shown c.in-At.is)).1
