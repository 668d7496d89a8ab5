use Rattle.std.proofs.Common.{◌∙◌, sym}
use Rattle.line_law.proofs.Lines.{box_fits, may_exactly}
use Rattle.line_law.proofs.plain.Plain.may_call.Goals as goal

pub last_moment-requires : goal.last_moment-requires
last_moment-requires c = box_fits _ _ _ _ c.requires (sym c.knows.ensures ∙ c.if-knows.true)

pub returns-then-knows : goal.returns-then-knows
returns-then-knows c = may_exactly _ _ _ _ _ (sym c.knows.ensures ∙ c.if-knows.true) c.last_moment.ensures
