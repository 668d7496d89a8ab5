use Rattle.line_watch.proofs.Firsts.{first_no_earlier, first_right, one_first}
use Rattle.line_watch.proofs.Marks.{never_back}
use Rattle.line_watch.proofs.Traces.{right_in_other}
use Rattle.line_watch.proofs.laws.sight_law.Goals as goal

pub returns-clause-never_back : goal.returns-clause-never_back
returns-clause-never_back c = never_back

pub returns-clause-first : goal.returns-clause-first
returns-clause-first c = first_right

pub returns-clause-one : goal.returns-clause-one
returns-clause-one c = one_first

pub returns-clause-later : goal.returns-clause-later
returns-clause-later c = first_no_earlier

pub returns-clause-parts : goal.returns-clause-parts
returns-clause-parts c = right_in_other
