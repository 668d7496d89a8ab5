use Rattle.std.proofs.Common.{◌≡◌, ◌++◌, drop, filter, map}
use Rattle.line_plan.specs.Frames.{begins_at, homes_of}
use Rattle.plan_draft.proofs.box_lines.homes_of.Given as goal

abbrev pub invariant-loop-lever : goal.invariant-loop-lever
invariant-loop-lever l =
    l.homes.items ++ map (λ lever. lever.number) (filter (begins_at l.here l.place) (drop l.lever-index l.lever-items))
    ≡ homes_of l.here l.place
