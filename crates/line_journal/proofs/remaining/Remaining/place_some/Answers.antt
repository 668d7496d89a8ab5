use Rattle.std.proofs.Common.{List, drop, ap, ◌∙◌}
use Rattle.line_law.specs.declared.call.Entry.{Entry}
use Rattle.line_journal.proofs.Lefts.{lists_set}
use Rattle.line_journal.proofs.remaining.Remaining.place_some.Goals as goal

pub returns : goal.returns
returns c =
    lists_set (λ list. list.now) c.self.inside.lists.items c.args.box_no c.args.many c.behind.result c.args.self.now
    c.self.view_is (c.behind.ensures ∙ ap (λ (l : List Entry). drop c.args.many l) c.of_box.ensures)
