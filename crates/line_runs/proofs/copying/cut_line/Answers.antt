use Rattle.std.proofs.Common.{[], ap, sym, ◌∙◌, List, ℕ, Option, ◌+◌}
use Rattle.std.specs.Option.{unwrap_or}
use Rattle.std.proofs.lemmas.List.{take_rest}
use Rattle.rail_text.proofs.FirstByte.{first_some}
use Rattle.line_runs.proofs.copying.cut_line.Goals as goal

pub returns-in-Some-clause-behind : goal.returns-in-Some-clause-behind
returns-in-Some-clause-behind c =
    take_rest c.args.text.now (c.in-Some.at + 1)
    ∙ ap (λ (cut : List ℕ × Option (List ℕ)). unwrap_or cut.1 [])
    (sym (first_some 10 c.args.text.now c.in-Some.at c.in-Some.ensures))
