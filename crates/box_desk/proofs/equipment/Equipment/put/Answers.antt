use Rattle.std.proofs.Common.{ℕ, ap, subst, sym, ◌∙◌}
use Rattle.locking_table.specs.Places.{IsLever}
use Rattle.lever_frame.specs.declared.reply.LeverReply.{LeverReply}
use Rattle.line_law.specs.declared.call.Reply.TheVariants.{AlreadyNormal}
use Rattle.box_desk.specs.Boxes.{here_of}
use Rattle.box_desk.specs.LeverReplies.{refusal_of}
use Rattle.box_desk.proofs.LeverLaws.{put_done, put_refused, put_tells}
use Rattle.box_desk.proofs.equipment.Equipment.put.Goals as goal

pub returns-in-Some-clause-told : goal.returns-in-Some-clause-told
returns-in-Some-clause-told c =
    let lever = subst (λ (n : ℕ). IsLever n c.args.lever) (sym c.requires.fitted.frame.size) c.requires.lever in
    put_refused c.args.plan.now c.args.self.now c.args.lever c.put_local-answer.result c.in-Some.reply
    c.put_local-answer.new.self
    (ap (λ (answer : LeverReply). refusal_of AlreadyNormal answer)
    (c.put_local-answer.ensures.reply ∙ c.answer_law.ensures.put c.args.plan.now c.args.self.now.frame c.args.lever
    c.args.self.now.tracks c.requires.fitted.frame lever)
    ∙ put_tells c.args.plan.now (here_of c.args.self.now) c.args.lever)
    (sym c.refusal_of.ensures ∙ c.in-Some.is)
    c.put_local-answer.ensures.moved

pub returns-in-None-clause-told : goal.returns-in-None-clause-told
returns-in-None-clause-told c =
    let lever = subst (λ (n : ℕ). IsLever n c.args.lever) (sym c.requires.fitted.frame.size) c.requires.lever in
    put_done c.args.plan.now c.args.self.now c.args.lever c.put_local-answer.result c.put_local-answer.new.self
    (ap (λ (answer : LeverReply). refusal_of AlreadyNormal answer)
    (c.put_local-answer.ensures.reply ∙ c.answer_law.ensures.put c.args.plan.now c.args.self.now.frame c.args.lever
    c.args.self.now.tracks c.requires.fitted.frame lever)
    ∙ put_tells c.args.plan.now (here_of c.args.self.now) c.args.lever)
    (sym c.refusal_of.ensures ∙ c.in-None.is)
    c.put_local-answer.ensures.moved
