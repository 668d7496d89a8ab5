-- What the line knows of an entry that it can spell.
use Rattle.std.proofs.Common.{IsTrue}
use Rattle.line_plan.specs.Plans.{PlanFields}
use Rattle.line_law.specs.declared.call.Entry.{Entry}
use Rattle.line_law.specs.Known.{knows_act}
use Rattle.line_law.proofs.Sides.{known_parts}
use Rattle.script_text.specs.Entries.{IsSpelled}

-- the act of an entry that a text spells is known to the plan
pub act_known : (plan : PlanFields) (e : Entry) → IsSpelled plan e → IsTrue (knows_act plan e.box_no e.call.act)
act_known plan e is = (known_parts plan e.box_no e.call is.call).act
