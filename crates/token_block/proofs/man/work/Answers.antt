use Rattle.std.proofs.Common.{◌≡◌, ℕ, Option, sym, ap, ◌∙◌, subst}
use Rattle.token_law.specs.declared.calls.TokenReply.{TokenReply}
use Rattle.token_block.specs.declared.post.TokenPost.{TokenPost}
use Rattle.token_block.specs.Men.{Answered}
use Rattle.token_block.specs.Rule.{shown_after}
use Rattle.token_block.specs.Steps.{found_coming}
use Rattle.token_block.proofs.Performing.{decided_there, refused_here, shown_found, taken_in}
use Rattle.token_block.proofs.man.work.Goals as goal
use Rattle.token_block.proofs.man.work.Goals.{in-Some, in_default-coming}

pub returns-in-Count-clause-answered : goal.returns-in-Count-clause-answered
returns-in-Count-clause-answered c =
    let key = c.args.line.now.table.shared.key in
    let b = c.args.box_no in
    let v = c.args.post.now.seat.me.0 in
    let u = c.step-word.new.self.seat.me.0 in
    subst (λ (r : TokenReply). Answered key b c.args.act r v u) (sym c.own_refusal.ensures)
    (refused_here key b c.args.act v c.step-word.result u c.requires.may c.step-word.ensures.told c.args.op
    c.requires.op c.in-Count.is)

pub returns : goal.returns
returns c =
    let key = c.args.line.now.table.shared.key in
    let b = c.args.box_no in
    let act = c.args.act in
    let v = c.args.post.now.seat.me.0 in
    let n = c.step-word.result in
    let u = c.step-word.new.self.seat.me.0 in
    let told = c.step-word.ensures.told in
    let shown = c.shown_by-shown.result in
    let reply = c.reply_by.result in
    let there : shown ≡ shown_after key told.log =
    shown_found key b act v n u c.requires.may told c.args.op shown c.requires.op c.in_default.not-Count
    c.shown_by-shown.ensures in
    let found : found_coming b act v.came shown ≡ c.coming.result =
    ap (λ (x : Option ℕ). found_coming b act x shown) c.requires.came ∙ sym c.coming.ensures in
    elim c.match-coming.branch [
      | in-Some w ↦ record {
        same = ap (λ (p : TokenPost). p.seat.table_id) w.post-is ∙ (w.step.ensures.same ∙ c.step-word.ensures.same);
        answered = subst (λ (p : TokenPost). Answered key b act reply v p.seat.me.0) (sym w.post-is)
            (taken_in key b act v n u w.step.result w.step.new.self.seat.me.0 shown w.in-Some.train reply told
            c.requires.may w.step.ensures.told there (found ∙ w.in-Some.is) c.reply_by.ensures);
      }
      | in_default-coming w ↦ record {
        same = ap (λ (p : TokenPost). p.seat.table_id) w.post-is ∙ c.step-word.ensures.same;
        answered = subst (λ (p : TokenPost). Answered key b act reply v p.seat.me.0) (sym w.post-is)
            (decided_there key b act v n u c.requires.may told c.args.op shown reply c.requires.op
            c.in_default.not-Count there (found ∙ w.in_default-coming.is) c.reply_by.ensures);
      }
    ]
