use Rattle.std.proofs.Common.{sym, ap, ◌∙◌, subst}
use Rattle.token_block.specs.declared.view.TokenView.{TokenView}
use Rattle.token_block.specs.Men.{IsMan, Man}
use Rattle.token_block.proofs.Meeting.{takes_in}
use Rattle.token_block.proofs.man.TokenMan.meet.Goals as goal

pub invariant_of-other : goal.invariant_of-other
invariant_of-other c =
    let other = c.other.inside in
    let j = c.join.ensures in
    subst (λ (v : TokenView). IsMan v other.box_no other.own) (sym c.split-twin-2.ensures.kept)
    (takes_in c.args.line.now.table.shared.key other.post.seat.me.0 c.join.new.self.seat.me.0
    c.split-twin.result.seat.me.0 other.box_no other.own
    (ap (λ (man : Man). man.view.opened) c.other.view_is ∙ c.requires.theirs.1) c.other.invariant j.view j.mine j.legal)

pub invariant_of-self : goal.invariant_of-self
invariant_of-self c =
    let own = c.self.inside in
    let j = c.join-2.ensures in
    let kept = c.split-twin.ensures.kept in
    takes_in c.args.line.now.table.shared.key c.split-twin.new.self.seat.me.0 c.join-2.new.self.seat.me.0
    c.split-twin-2.result.seat.me.0 own.box_no own.own
    (ap (λ (v : TokenView). v.opened) kept ∙
    (ap (λ (man : Man). man.view.opened) c.self.view_is ∙ c.requires.mine.1))
    (subst (λ (v : TokenView). IsMan v own.box_no own.own) (sym kept) c.self.invariant) j.view j.mine j.legal
