use Rattle.std.proofs.Common.{◌+◌}
use Rattle.std.proofs.lemmas.Result.{IfErr-weaker}
use Rattle.explained_texts.proofs.ByName.{by_name}
use Rattle.explained_texts.proofs.Stopped.{explained_at, front}
use Rattle.explained_texts.proofs.journals.fetch_entries.Goals as goal

pub returns-clause-explained : goal.returns-clause-explained
returns-clause-explained g c =
    let held = g.S.Shelf.held c.args.shelf.now in
    let bytes = c.in_ok-bytes.bytes.items in
    let name = c.args.name.now in
    let here = front (held name) (c.most_journal_bytes.result + 1) bytes c.in_ok-bytes.ensures.bytes in
    IfErr-weaker c.read_journal_text-journal.result _ _
    (λ trouble h. by_name held 2 name trouble
    (explained_at held 2 name bytes trouble here (rw c.deref.ensures.value at h)))
    c.read_journal_text-journal.ensures.explained
