use Rattle.std.proofs.Common.{◌+◌}
use Rattle.script_text.specs.Scripts.{most_script_bytes}
use Rattle.explained_texts.proofs.Faults.{read_is_had}
use Rattle.explained_texts.proofs.Stopped.{explained_at, front}
use Rattle.explained_texts.proofs.gathering.fetch_script.Goals as goal

pub returns-in-Err-clause-explained : goal.returns-in-Err-clause-explained
returns-in-Err-clause-explained g c =
    let held = g.S.Shelf.held c.args.shelf.now in
    let bytes = c.in_ok-bytes.bytes.items in
    explained_at held (c.args.box_no + 2) c.args.name.now bytes c.in-Err.trouble
    (front (held c.args.name.now) (most_script_bytes + 1) bytes c.in_ok-bytes.ensures.bytes)
    (rw c.deref.ensures.value at c.in-Err.ensures.explained)

pub returns-in-Err-clause-fault : goal.returns-in-Err-clause-fault
returns-in-Err-clause-fault g c = read_is_had (c.args.box_no + 2) _ _ c.in-Err.trouble _ c.in-Err.ensures.explained
