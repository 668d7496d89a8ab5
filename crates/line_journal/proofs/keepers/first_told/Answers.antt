use Rattle.std.proofs.Common.{List, length, subst}
use Rattle.line_journal.specs.declared.keeper.Keeper.{Keeper}
use Rattle.line_journal.specs.Keepers.{AreCut}
use Rattle.line_journal.proofs.KeepersIn.{first_told, keepers_cut}
use Rattle.line_journal.proofs.keepers.first_told.Goals as goal

pub returns-clause-keepers : goal.returns-clause-keepers
returns-clause-keepers c =
    keepers_cut _ c.requires.keepers c.requires.other c.requires.some c.requires.few c.of_box.ensures
    (subst (λ (old : List Keeper). AreCut (length c.of_box.result.now) old c.cut.new.self) c.index_mut.ensures.value
    c.cut.ensures.cut)

pub returns-clause-first : goal.returns-clause-first
returns-clause-first c =
    first_told c.cut.result _ c.requires.keepers c.requires.other c.requires.some c.requires.few c.of_box.ensures
    (subst (λ (old : List Keeper). AreCut (length c.of_box.result.now) old c.cut.new.self) c.index_mut.ensures.value
    c.cut.ensures.cut)
    c.cut.ensures.top
