use Rattle.line_maker.proofs.CallsKnown.{own_box, own_calls}
use Rattle.law_tests.proofs.made.is_printed.Goals as goal

pub print_script-requires-clause-at : goal.print_script-requires-clause-at
print_script-requires-clause-at c =
    let here =
    c.in-Some.ensures.lookup.3 in
    own_box c.args.plan.now c.args.scripts.now c.args.box_no c.in-Some.script.now c.requires here.0
    (here.1 c.in-Some.script.now)

pub print_script-requires-clause-script : goal.print_script-requires-clause-script
print_script-requires-clause-script c =
    let here =
    c.in-Some.ensures.lookup.3 in
    own_calls c.args.plan.now c.args.scripts.now c.args.box_no c.in-Some.script.now c.requires here.0
    (here.1 c.in-Some.script.now)
