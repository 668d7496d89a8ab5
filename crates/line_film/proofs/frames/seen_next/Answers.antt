use Rattle.std.proofs.Common.{◌≡◌, IfOk, subst}
use Rattle.line_law.specs.States.{LineState}
use Rattle.line_scene.specs.Scenes.{things_of}
use Rattle.line_film.proofs.Framed.{call_at, state_next}
use Rattle.line_film.proofs.frames.seen_next.Goals as goal

pub perform-requires-clause-call : goal.perform-requires-clause-call
perform-requires-clause-call c =
    call_at c.args.plan.now c.args.entries.now c.args.at _ c.args.line.now.line c.requires.legal c.requires.at
    c.requires.state

pub returns-clause-seen : goal.returns-clause-seen
returns-clause-seen c =
    subst (λ (state : LineState). IfOk c.things_of.result (λ things. things.items ≡ things_of c.args.plan.now state))
    (state_next c.args.plan.now c.args.entries.now c.args.at _ c.args.line.now.line c.perform.new.self.line _
    c.requires.at c.requires.state c.perform.ensures.told) c.things_of.ensures

pub returns-clause-state : goal.returns-clause-state
returns-clause-state c =
    state_next c.args.plan.now c.args.entries.now c.args.at _ c.args.line.now.line c.perform.new.self.line _
    c.requires.at c.requires.state c.perform.ensures.told
