use Rattle.std.proofs.Common.{ℕ, ap, subst, sym, ◌∙◌}
use Rattle.locking_table.specs.Places.{IsLever}
use Rattle.lever_frame.specs.declared.reply.LeverReply.{LeverReply}
use Rattle.line_law.specs.declared.call.Reply.TheVariants.{AlreadyReversed}
use Rattle.box_desk.specs.Boxes.{here_of}
use Rattle.box_desk.specs.LeverReplies.{refusal_of}
use Rattle.box_desk.proofs.LeverLaws.{pull_tells}
use Rattle.box_desk.proofs.equipment.Equipment.pull_refusal.Goals as goal

pub returns : goal.returns
returns c =
    c.refusal_of.ensures
    ∙ ap (λ (answer : LeverReply). refusal_of AlreadyReversed answer)
    (c.pull_test.ensures ∙ c.answer_law.ensures.pull c.args.plan.now c.args.self.now.frame c.args.lever
    c.args.self.now.tracks c.requires.fitted.frame
    (subst (λ (n : ℕ). IsLever n c.args.lever) (sym c.requires.fitted.frame.size) c.requires.lever))
    ∙ pull_tells c.args.plan.now (here_of c.args.self.now) c.args.lever
