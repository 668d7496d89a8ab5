-- What stands at a number of a list, or behind its end.
use Rattle.std.proofs.lemmas.Option.{get_or_from_slice_get}
use Rattle.line_plan.proofs.Named.{none_here}

pub ruleset name_rules = (get_or_from_slice_get, none_here)
