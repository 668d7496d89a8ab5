use Rattle.std.proofs.Common.{subst, sym}
use Rattle.rail_text.specs.Names.{AreNumbered}
use Rattle.rail_text.proofs.NameLemmas.{names-inserted}
use Rattle.rail_text.proofs.DistinctNames.{numbered-append}
use Rattle.rail_text.proofs.names.Names.append.Goals as goal

pub returns-clause-ok : goal.returns-clause-ok
returns-clause-ok c =
    names-inserted c.self.inside.set.keys c.insert.new.self.keys c.in_ok-name.name c.args.self.now c.args.name.now
    c.self.view_is c.in_ok-name.ensures.ok c.requires.absent c.in_ok-insert.ensures.keys

pub invariant_of-self-2 : goal.invariant_of-self-2
invariant_of-self-2 c =
    let grown = returns-clause-ok c in
    let old = subst AreNumbered c.self.view_is c.self.invariant in
    subst AreNumbered (sym grown) (numbered-append c.args.self.now c.args.name.now old c.requires.absent c.requires.few)

pub returns-clause-numbered : goal.returns-clause-numbered
returns-clause-numbered c = invariant_of-self-2 c
