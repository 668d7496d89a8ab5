use Rattle.std.proofs.Common.{◌∙◌}
use Rattle.line_requests.proofs.Lines.{members_counted, none_counted, some_counted}
use Rattle.line_requests.proofs.reading.member_count.Goals as goal

pub returns-in-Some : goal.returns-in-Some
returns-in-Some c =
    some_counted _ _ _ c.in-Some.ensures (c.len.ensures.len ∙ members_counted c.in-Some.members.now.entries)

pub returns-in-None : goal.returns-in-None
returns-in-None c = none_counted _ c.in-None.ensures
