use Rattle.std.proofs.Common.{◌≡◌, ℕ, ◌+◌, ◌-◌, ◌/◌, ap, ◌∙◌, arith}
use Rattle.block_words.specs.declared.Way.TheVariants.{Up, Down}
use Rattle.line_plan.specs.declared.section.Section.{Section}
use Rattle.line_watch.proofs.SectionNumbers.{down_listed, up_listed}
use Rattle.line_watch.proofs.numbers.section_numbered.Goals as goal

pub returns-then-number-eq0-clause-listed : goal.returns-then-number-eq0-clause-listed
returns-then-number-eq0-clause-listed c =
    let k = c.args.number / 2 in
    let rear : 0 + k ≡ k = omega arith in
    λ d. down_listed 0 (c.args.boxes - 1) c.args.number k d (omega arith) (omega arith)
    ∙ ap (λ (m : ℕ). let s : Section = record { rear = m; way = Down } in s) rear

pub returns-else-number-eq0-clause-listed : goal.returns-else-number-eq0-clause-listed
returns-else-number-eq0-clause-listed c =
    let k = c.args.number / 2 in
    let rear : 0 + k + 1 ≡ k + 1 = omega arith in
    λ d. up_listed 0 (c.args.boxes - 1) c.args.number k d (omega arith) (omega arith)
    ∙ ap (λ (m : ℕ). let s : Section = record { rear = m; way = Up } in s) rear
