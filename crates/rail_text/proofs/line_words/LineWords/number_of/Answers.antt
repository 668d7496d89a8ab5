use Rattle.std.proofs.Common.{◌≡◌, ◌∙◌, ap, arith, bytes_eq, length, option_map, sym}
use Rattle.rail_text.specs.Lines.{words_of}
use Rattle.rail_text.proofs.WordEnds.{length_of_row, not_there, sought_here, sought_never, sought_on, sought_start}
use Rattle.rail_text.proofs.line_words.LineWords.number_of.Goals as goal
use Rattle.rail_text.proofs.line_words.LineWords.number_of.Goals.{in-Some+else-eq, in_default}

pub loop-i-init : goal.loop-i-init
loop-i-init c = sought_start (bytes_eq c.args.word.now) c.args.self.now

pub returns-then-eq : goal.returns-then-eq
returns-then-eq c =
    sought_here (bytes_eq c.args.word.now) c.args.self.now c.loop-i.i c.in-Some.found.now
    (sym (ap (option_map (λ s. s.now)) c.in-Some.is) ∙ c.word.ensures) (sym c.if-eq.true ∙ c.eq.ensures)
    c.loop-i.invariant

pub loop-i-preserved : goal.loop-i-preserved
loop-i-preserved c =
    let count : c.self.inside.count ≡ length c.args.self.now =
    length_of_row c.args.self.now (words_of c.self.inside.text.now) c.self.inside.from c.self.inside.count
    (sym c.self.view_is) c.self.invariant.there in
    elim c.match-word.branch [
      | in-Some+else-eq w ↦ sought_on (bytes_eq c.args.word.now) c.args.self.now c.loop-i.i w.in-Some.found.now
          (sym (ap (option_map (λ s. s.now)) w.in-Some.is) ∙ c.word.ensures) (sym w.if-eq.false ∙ w.eq.ensures)
          c.loop-i.invariant
      | in_default w ↦ not_there c.args.self.now c.loop-i.i
          (sym (ap (option_map (λ s. s.now)) w.in_default.is) ∙ c.word.ensures)
          (omega (arith, c.loop-i-test.true, count))
    ]

pub returns : goal.returns
returns c =
    let count : c.self.inside.count ≡ length c.args.self.now =
    length_of_row c.args.self.now (words_of c.self.inside.text.now) c.self.inside.from c.self.inside.count
    (sym c.self.view_is) c.self.invariant.there in
    sought_never (bytes_eq c.args.word.now) c.args.self.now c.loop-i.i (omega (arith, c.loop-i-test.false, count))
    (omega (arith, c.loop-i.auto.i-end, count)) c.loop-i.invariant
