use Rattle.std.proofs.Common.{◌≡◌, true, false}
use Rattle.line_requests.proofs.Lines.{line_read, line_unread}
use Rattle.line_requests.proofs.reading.value_in.Goals as goal

pub returns-in-Ok : goal.returns-in-Ok
returns-in-Ok c = line_read _ _ c.in-Ok.ensures.ok.0 c.in-Ok.ensures.ok.1

pub returns-else-is_memory : goal.returns-else-is_memory
returns-else-is_memory c =
    line_unread _
    (c.in-Err.ensures.err (λ is. let no : false ≡ true = c.if-is_memory.ensures.1 is in absurd (cc)))
