use Rattle.text_fetch.proofs.Fetched.{fetched_given, fetched_stops}
use Rattle.token_text.proofs.Taken.{token_script_of-take}
use Rattle.token_text.specs.Limits.{most_script_bytes}
use Rattle.token_text.specs.Scripts.{token_script_of}
use Rattle.desk_reports.proofs.single_line.fetch_tokens.Goals as goal

pub returns-in-Ok-clause-script : goal.returns-in-Ok-clause-script
returns-in-Ok-clause-script g c =
    fetched_given 1 most_script_bytes token_script_of (g.S.Shelf.held c.args.shelf.now c.args.name.now)
    c.in_ok-bytes.bytes.items c.in-Ok.script token_script_of-take c.in_ok-bytes.ensures.bytes
    (rw c.deref.ensures.value at c.in-Ok.ensures.exact)

pub returns-clause-script : goal.returns-clause-script
returns-clause-script g c =
    fetched_stops 1 most_script_bytes token_script_of (g.S.Shelf.held c.args.shelf.now c.args.name.now)
    c.in_ok-bytes.bytes.items c.in-Err.error c.stop_of.result token_script_of-take c.in_ok-bytes.ensures.bytes
    (rw c.deref.ensures.value at c.in-Err.ensures.exact) c.stop_of.ensures
