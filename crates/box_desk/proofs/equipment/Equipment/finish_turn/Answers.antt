use Rattle.box_desk.specs.Boxes.{here_of}
use Rattle.box_desk.proofs.Fitting.{lets_turn, on_block, unrefused}
use Rattle.box_desk.proofs.equipment.Equipment.finish_turn.Goals as goal

pub turn-requires-clause-free : goal.turn-requires-clause-free
turn-requires-clause-free c =
    lets_turn c.args.self.now c.args.berth.now c.args.way c.args.position c.requires.suits
    (unrefused _ (here_of c.args.self.now) _ c.requires.agrees.on_word)

pub returns-clause-told : goal.returns-clause-told
returns-clause-told c =
    on_block _ (here_of c.args.self.now) _ _ _ _ _ (unrefused _ (here_of c.args.self.now) _ c.requires.agrees.on_word)
    (λ block agrees packs. c.turn.ensures.told block agrees)
