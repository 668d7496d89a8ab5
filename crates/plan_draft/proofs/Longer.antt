-- Lists that grow.
use Rattle.std.proofs.lemmas.List.{length-map, map-append, length-append}

pub ruleset growing_rules = (map-append, length-append)

pub ruleset counting_rules = (length-map)
