use Rattle.std.proofs.Common.{rules, ◌≡◌, Bool, IsTrue, sym, subst}
use Rattle.std.specs.Prelude.{◌↔◌}
use Rattle.line_law.specs.Replies.{same_reply}
use Rattle.line_law.proofs.SameReplies.{same_reply_is}
use Rattle.line_law.proofs.call.Reply.is_same.Goals as goal

-- what the code tests is whether the replies are the same
pub returns-clause-one : goal.returns-clause-one
returns-clause-one c =
    let e : c.eq.result ≡ same_reply c.args.self.now c.args.other.now = search rules in
    subst (λ (b : Bool). IsTrue b ↔ (c.args.self.now ≡ c.args.other.now)) (sym e)
    (same_reply_is c.args.self.now c.args.other.now)
