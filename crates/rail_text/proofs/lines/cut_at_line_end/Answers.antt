use Rattle.std.proofs.Common.{◌+◌, ◌∙◌, Some, ap, sym}
use Rattle.rail_text.proofs.Appended.{rest_is}
use Rattle.rail_text.proofs.FirstByte.{first_some}
use Rattle.rail_text.proofs.lines.cut_at_line_end.Goals as goal

pub returns-in-Some-clause-rest : goal.returns-in-Some-clause-rest
returns-in-Some-clause-rest c =
    ap Some (rest_is c.args.bytes.now (c.in-Some.i + 1))
    ∙ sym (ap (λ p. p.1) (first_some 10 c.args.bytes.now c.in-Some.i c.in-Some.ensures))
