use Rattle.std.proofs.Common.{ℕ, ap, sym, ◌∙◌}
use Rattle.block_words.specs.Sections.{lane}
use Rattle.line_law.specs.Arrivals.{next_number}
use Rattle.box_desk.specs.Boxes.{here_of}
use Rattle.box_desk.proofs.Arriving.{none_comes, one_comes}
use Rattle.box_desk.proofs.equipment.Equipment.next_train.Goals as goal

pub returns-then-train-eq0 : goal.returns-then-train-eq0
returns-then-train-eq0 c = λ line agrees packs.
    none_comes (here_of c.args.self.now) c.args.way line agrees
    (ap (λ (w : ℕ). lane w (next_number (here_of c.args.self.now) c.args.way)) packs
    ∙ ap (λ (n : ℕ). lane c.args.word n) (sym c.next_number.ensures)
    ∙ sym c.lane-train.ensures.train ∙ c.if-train-eq0.true)

pub returns : goal.returns
returns c = λ line agrees packs.
    one_comes (here_of c.args.self.now) c.args.way line c.from.result agrees
    (ap (λ (w : ℕ). lane w (next_number (here_of c.args.self.now) c.args.way)) packs
    ∙ ap (λ (n : ℕ). lane c.args.word n) (sym c.next_number.ensures)
    ∙ sym c.lane-train.ensures.train ∙ sym c.from.ensures)
    (λ none. c.if-train-eq0.false (sym c.from.ensures ∙ none))
