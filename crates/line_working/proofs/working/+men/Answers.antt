use Rattle.line_working.proofs.EachMan.{can_first, did_first}
use Rattle.line_working.proofs.working.+men.Goals as goal

pub work_men-work_first-requires-clause-first : goal.work_men-work_first-requires-clause-first
work_men-work_first-requires-clause-first g t c κs within =
    (can_first _ _ 0 _ _ _ _ _ _ c.in-Some.ensures.cases.0 c.in-Some-split_first_mut.ensures.cases.0
    c.requires.ready).0

pub work_men-work_first-requires-clause-others : goal.work_men-work_first-requires-clause-others
work_men-work_first-requires-clause-others g t c κs within =
    (can_first _ _ 0 _ _ _ _ _ _ c.in-Some.ensures.cases.0 c.in-Some-split_first_mut.ensures.cases.0
    c.requires.ready).1

pub work_men-returns : goal.work_men-returns
work_men-returns g t c =
    did_first _ _ _ _ _ _ _ _ _ _ _ c.in-Some.ensures.cases.0 c.in-Some-split_first_mut.ensures.cases.0
    c.work_first.ensures.first c.work_first.ensures.others
