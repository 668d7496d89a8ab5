-- What was told at a box: a call and its reply.
use Rattle.std.specs.Prelude.{ℕ, ◌<◌, List, ◌++◌, length, codes, IsTrue}
use Rattle.line_plan.specs.Plans.{PlanFields}
use Rattle.line_law.specs.declared.call.Entry.{Entry}
use Rattle.line_law.specs.Known.{KnowsCall}
use Rattle.script_text.specs.Calls.{call_text}
use Rattle.script_text.specs.Replies.{is_spelled_reply, reply_text}

-- an entry that a line can spell: the plan has its box and knows its call, and some text spells its reply at that box
pub record IsSpelled (plan : PlanFields) (e : Entry) : Type 0 where
  pub box : e.box_no < length plan.boxes
  pub call : KnowsCall plan e.box_no e.call
  pub reply : IsTrue (is_spelled_reply plan e.box_no e.reply)

-- what was told at a box: the call, with its moment, and its reply
unfoldable pub told_text : PlanFields → Entry → List ℕ
told_text plan e = call_text plan e.call ++ codes " -> " ++ reply_text plan e.box_no e.reply
