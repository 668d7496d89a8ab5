use Rattle.std.proofs.Common.{◌∙◌, ap, sym}
use Rattle.locking_table.specs.Reading.{has_no_word}
use Rattle.locking_table.specs.Words.{Left}
use Rattle.locking_table.proofs.WordLemmas.{no_word}
use Rattle.locking_table.proofs.words.Words.is_empty.Goals as goal

pub returns : goal.returns
returns c =
    no_word (λ s. s.now) c.self.inside.rest c.is_none.result (sym c.is_none.ensures)
    ∙ ap (λ (left : Left). has_no_word left.words) c.self.view_is
