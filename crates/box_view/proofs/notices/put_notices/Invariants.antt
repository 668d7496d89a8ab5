use Rattle.std.proofs.Common.{◌≡◌, ◌++◌, string_bytes, take}
use Rattle.box_view.specs.Notices.{notices_text}
use Rattle.box_view.proofs.notices.put_notices.Given as goal

abbrev pub invariant-loop-entry : goal.invariant-loop-entry
invariant-loop-entry l =
    string_bytes l.out ≡ string_bytes l.fn.out ++ notices_text l.plan l.him (take l.entry-index l.entries)
