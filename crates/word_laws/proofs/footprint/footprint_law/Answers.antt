use Rattle.word_laws.proofs.Footprints.{ends_alike, keeps_others}
use Rattle.word_laws.proofs.footprint.footprint_law.Goals as goal

pub returns-clause-function : goal.returns-clause-function
returns-clause-function c = ends_alike

pub returns-clause-others : goal.returns-clause-others
returns-clause-others c = keeps_others
