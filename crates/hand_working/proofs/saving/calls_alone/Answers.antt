use Rattle.std.proofs.Common.{map, ap, ◌∙◌}
use Rattle.std.proofs.lemmas.List.{take_all}
use Rattle.box_session.specs.declared.made_call.MadeCall.{MadeCall}
use Rattle.hand_working.proofs.Parts.{mapped_next}
use Rattle.hand_working.proofs.saving.calls_alone.Goals as goal

pub loop-one-preserved : goal.loop-one-preserved
loop-one-preserved c =
    c.in_ok-push_call.ensures
    ∙ rw c.loop-one.invariant
    (mapped_next (λ (m : MadeCall). m.call) c.args.made.now c.loop-one.one-index _ c.loop-one-test.true)

pub returns : goal.returns
returns c =
    c.loop-one.invariant
    ∙ ap (map (λ (m : MadeCall). m.call)) (take_all c.loop-one.one-index c.args.made.now c.loop-one-test.false)
