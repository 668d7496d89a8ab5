use Rattle.std.proofs.Common.{◌≡◌, ℕ, ◌-◌, length, sym, subst, ap, ◌∙◌, true}
use Rattle.rail_text.specs.Gives.{FailsLine}
use Rattle.plan_draft.specs.Drafts.{DraftFields, in_box}
use Rattle.plan_draft.specs.Reading.{box_with, here_onto}
use Rattle.plan_draft.proofs.Following.{fails_then, in_front}
use Rattle.plan_draft.proofs.kinds.here_line.Goals as goal

pub returns-in-Err-clause-gives : goal.returns-in-Err-clause-gives
unfolding here_onto
returns-in-Err-clause-gives c =
    let here : in_box c.draft.inside.stage ≡ true = ap (λ (d : DraftFields). in_box d.stage) c.draft.view_is
    ∙ c.requires.here in
    let count : c.len.result - 1
    ≡ length c.draft.inside.boxes.items =
    in_front c.draft.inside.stage c.draft.inside.boxes.items c.draft.inside.here c.draft.inside.box_names
    c.len.result here c.len.ensures.len c.draft.invariant.1 in
    rw (sym c.draft.view_is)
    (fails_then c.in-Err.fault _ _
    (subst (λ (n : ℕ). FailsLine c.in-Err.fault
    (box_with c.args.kind c.draft.inside.count n c.draft.inside.here c.args.words.now)) count
    c.in-Err.ensures.gives))
