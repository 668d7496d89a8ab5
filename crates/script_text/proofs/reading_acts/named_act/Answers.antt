-- The call of a word is that of its row.
use Rattle.std.proofs.Common.{ap, ◌∙◌}
use Rattle.script_text.specs.Acts.{act_worded}
use Rattle.script_text.proofs.reading_acts.named_act.Goals as goal

pub returns-in-Some : goal.returns-in-Some
returns-in-Some c =
    c.worded_act.ensures ∙ ap (act_worded c.args.plan.now c.args.box_no c.args.words.now) c.in-Some.ensures

pub returns-in-None : goal.returns-in-None
returns-in-None c = ap (act_worded c.args.plan.now c.args.box_no c.args.words.now) c.in-None.ensures
