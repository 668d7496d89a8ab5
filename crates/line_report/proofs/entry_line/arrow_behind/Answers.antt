use Rattle.std.proofs.Common.{◌≡◌, ◌∙◌, ◌+◌, ◌-◌, ap, arith, bytes_eq, codes, drop, option_map, sym}
use Rattle.std.proofs.lemmas.List.{length-drop}
use Rattle.rail_text.proofs.WordEnds.{not_there, sought_here, sought_never, sought_on, sought_start}
use Rattle.line_report.proofs.Arrows.{word_behind}
use Rattle.line_report.proofs.entry_line.arrow_behind.Goals as goal
use Rattle.line_report.proofs.entry_line.arrow_behind.Goals.{in-Some+else-is_arrow, in_default}

pub loop-i-init : goal.loop-i-init
loop-i-init c =
    let none : c.args.from - c.args.from ≡ 0 = omega arith in
    record {
      low = omega arith;
      sought = rw none (sought_start (bytes_eq (codes "->")) (drop c.args.from c.args.words.now));
    }

pub returns-then-is_arrow : goal.returns-then-is_arrow
returns-then-is_arrow c =
    sought_here (bytes_eq (codes "->")) (drop c.args.from c.args.words.now) (c.loop-i.i - c.args.from)
    c.in-Some.word.now
    (sym (ap (option_map (λ s. s.now)) c.in-Some.is) ∙ c.word.ensures
    ∙ word_behind c.args.words.now c.args.from c.loop-i.i c.loop-i.invariant.low)
    (sym c.if-is_arrow.true ∙ c.is_arrow.ensures) c.loop-i.invariant.sought

pub loop-i-preserved : goal.loop-i-preserved
loop-i-preserved c =
    let behind = drop c.args.from c.args.words.now in
    let at = c.loop-i.i - c.args.from in
    let next : c.loop-i.i + 1 - c.args.from ≡ at + 1 = omega (arith, c.loop-i.invariant.low) in
    elim c.match-word.branch [
      | in-Some+else-is_arrow w ↦ record {
        low = omega (arith, c.loop-i.invariant.low);
        sought = rw next (sought_on (bytes_eq (codes "->")) behind at w.in-Some.word.now
            (sym (ap (option_map (λ s. s.now)) w.in-Some.is) ∙ c.word.ensures
            ∙ word_behind c.args.words.now c.args.from c.loop-i.i c.loop-i.invariant.low)
            (sym w.if-is_arrow.false ∙ w.is_arrow.ensures) c.loop-i.invariant.sought);
      }
      | in_default w ↦
          not_there c.args.words.now c.loop-i.i (sym (ap (option_map (λ s. s.now)) w.in_default.is) ∙ c.word.ensures)
          (omega (arith, c.loop-i-test.true, c.word_count-i-end.ensures))
    ]

pub returns : goal.returns
returns c =
    let behind = drop c.args.from c.args.words.now in
    let left = length-drop c.args.from c.args.words.now in
    sought_never (bytes_eq (codes "->")) behind (c.loop-i.i - c.args.from)
    (omega (arith, left, c.loop-i-test.false, c.word_count-i-end.ensures))
    (omega (arith, left, c.loop-i.auto.i-end, c.word_count-i-end.ensures, c.loop-i.invariant.low))
    c.loop-i.invariant.sought
