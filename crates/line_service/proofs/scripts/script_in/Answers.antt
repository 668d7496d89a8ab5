use Rattle.std.proofs.Common.{◌∙◌, sym}
use Rattle.line_service.proofs.Scripted.{found_here, passed_on}
use Rattle.line_service.proofs.scripts.script_in.Goals as goal

pub returns-then-counts-clause-exact : goal.returns-then-counts-clause-exact
returns-then-counts-clause-exact c =
    rw c.loop-box_no.invariant
    (found_here _ _ _ _ c.read_script-read.result c.loop-box_no-test.true c.read_script-read.ensures.exact
    (sym c.counts.ensures ∙ c.if-counts.true))

pub loop-box_no-preserved : goal.loop-box_no-preserved
loop-box_no-preserved c =
    c.loop-box_no.invariant
    ∙ passed_on _ _ _ _ c.read_script-read.result c.loop-box_no-test.true c.read_script-read.ensures.exact
    (sym c.counts.ensures ∙ c.if-counts.false)
