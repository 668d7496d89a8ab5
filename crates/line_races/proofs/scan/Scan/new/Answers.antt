use Rattle.std.proofs.Common.{None, ap, length, replicate, rules, ◌∙◌, ◌≡◌, ℕ}
use Rattle.line_races.specs.Scans.{both_normal}
use Rattle.line_races.proofs.Scanning.{nothing_scanned}
use Rattle.line_races.proofs.scan.Scan.new.Goals as goal

pub returns : goal.returns
returns c =
    let boxes : c.len-boxes.result ≡ length c.args.plan.now.boxes = search rules in
    λ es. nothing_scanned c.args.plan.now es
    (record {
      marks = c.new.result;
      turns = c.new-2.result;
      shown = c.in_ok-new.field-0;
      known = c.in_ok-new-2.field-0;
    })
    c.new.ensures c.new-2.ensures (c.in_ok-new.ensures ∙ ap (λ (n : ℕ). replicate n both_normal) boxes)
    (c.in_ok-new-2.ensures.above ∙ ap (λ (n : ℕ). replicate n None) boxes)
    (c.in_ok-new-2.ensures.below ∙ ap (λ (n : ℕ). replicate n None) boxes)
