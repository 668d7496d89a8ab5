-- What the getters of clap's matches read, by the rows of the matches.
use Rattle.clap.proofs.WalkLemmas.{first_value-rows, raw_values-rows}

pub ruleset match_rules = (first_value-rows, raw_values-rows)
