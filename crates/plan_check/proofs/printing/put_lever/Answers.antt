use Rattle.std.proofs.Common.{codes, decimal, string_bytes}
use Rattle.std.proofs.lemmas.Result.{on_ok_weaker}
use Rattle.plan_check.specs.Texts.{box_text}
use Rattle.plan_check.proofs.Lines.{number_between}
use Rattle.plan_check.proofs.printing.put_lever.Goals as goal

pub returns : goal.returns
returns c = on_ok_weaker c.write.result
    (number_between (string_bytes c.args.out.now) (string_bytes c.put_box.new.out) (string_bytes c.write.new.self)
    (box_text c.args.plan.now c.args.box_no) (codes " lever ") (decimal c.args.lever) (codes " has no row\n")
    c.in_ok-put_box.ensures)
    c.write.ensures.bytes
