use Rattle.std.proofs.Common.{◌+◌, List, [], drop, map}
use Rattle.serde_json.specs.Data.{Data}
use Rattle.serde_json.specs.View.{view}
use Rattle.journal_records.specs.Objects.{IsEntryData}
use Rattle.line_service.specs.Lists.{PutsEach}
use Rattle.line_service.proofs.lists.entry_items.Given as goal

abbrev pub invariant-loop-place : goal.invariant-loop-place
invariant-loop-place l =
    (new : List Data)
    → PutsEach (λ at e d. IsEntryData l.plan (l.before + 1 + at) e d) l.place (drop l.place l.entries)
    (map view l.items.items) new
    → PutsEach (λ at e d. IsEntryData l.plan (l.before + 1 + at) e d) 0 l.entries [] new
