use Rattle.line_law.proofs.Numbers.{length_numbered, not_full}
use Rattle.line_law.proofs.laws.section_law.Goals as goal

pub returns-clause-count : goal.returns-clause-count
returns-clause-count c = λ way rear advance bell block line is. length_numbered _ _ line is.numbered

pub returns-clause-room : goal.returns-clause-room
returns-clause-room c = λ way rear advance bell block line is absent. not_full _ _ line is.numbered is.four absent
