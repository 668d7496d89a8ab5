use Rattle.script_text.proofs.ReplyTexts.{spelled_reply}
use Rattle.script_text.proofs.laws.replies_law.Goals as goal

pub returns-clause-spelled : goal.returns-clause-spelled
returns-clause-spelled c = spelled_reply
