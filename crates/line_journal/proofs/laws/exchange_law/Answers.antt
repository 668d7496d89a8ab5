use Rattle.line_journal.proofs.Exchange.{apart_places, changes_places, lost_fits, lost_next}
use Rattle.line_journal.proofs.laws.exchange_law.Goals as goal

pub returns-clause-apart : goal.returns-clause-apart
returns-clause-apart c = apart_places

pub returns-clause-places : goal.returns-clause-places
returns-clause-places c = changes_places

pub returns-clause-stays : goal.returns-clause-stays
returns-clause-stays c = lost_next

pub returns-clause-lost : goal.returns-clause-lost
returns-clause-lost c = lost_fits
