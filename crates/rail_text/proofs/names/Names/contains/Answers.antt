use Rattle.std.proofs.Common.{bytes_eq}
use Rattle.rail_text.proofs.NameLemmas.{list_any-names}
use Rattle.rail_text.proofs.names.Names.contains.Goals as goal

pub returns-clause-there : goal.returns-clause-there
returns-clause-there c =
    rw (← c.self.view_is, list_any-names (bytes_eq c.args.name.now) c.self.inside.set.keys) c.contains.ensures
