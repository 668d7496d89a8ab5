use Rattle.std.proofs.Common.{ap, ◌∙◌}
use Rattle.token_block.specs.Men.{Man}
use Rattle.token_block.proofs.Performing.{few_tokens}
use Rattle.token_block.proofs.man.TokenMan.perform.Goals as goal

pub note-requires-clause-tokens : goal.note-requires-clause-tokens
note-requires-clause-tokens c =
    let line = c.args.line.now in
    few_tokens line.table.shared.key c.self.inside.post.seat.me.0 c.self.inside.box_no c.self.inside.own
    c.self.invariant (ap (λ (man : Man). man.view.opened) c.self.view_is ∙ c.requires.line.1) line.few.0 line.few.1
