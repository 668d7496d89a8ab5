use Rattle.std.proofs.Common.{ℕ, ap, sym, ⊎_elim, ◌∙◌}
use Rattle.line_plan.specs.declared.signal.To.{To}
use Rattle.line_law.specs.Trains.{left_by}
use Rattle.box_desk.specs.Boxes.{here_of}
use Rattle.box_desk.specs.TrainMoves.{gone_to}
use Rattle.box_desk.proofs.Moving.{goes_off, leads_in, one_train, stays}
use Rattle.box_desk.proofs.equipment.Equipment.go_locally.Goals as goal

pub returns-in-Section-clause-told : goal.returns-in-Section-clause-told
returns-in-Section-clause-told c =
    stays c.args.overrun c.args.plan.now _ c.args.signal.now c.args.train _ c.requires.free c.in-Section.is

pub returns-in-Place-clause-told : goal.returns-in-Place-clause-told
returns-in-Place-clause-told c =
    goes_off c.args.overrun c.args.plan.now _ _ c.args.signal.now c.args.train c.requires.free
    (⊎_elim (λ (place : _). ap (λ (to : To). leads_in to) place.1) (λ (away : _). ap (λ (to : To). leads_in to) away)
    c.in-Place.is)
    (c.go.ensures.here ∙ ap (λ (train : ℕ). gone_to c.args.signal.now.to train
    (left_by c.args.plan.now (here_of c.args.self.now) c.args.signal.now))
    (one_train c.go.result c.args.train (sym c.go.ensures.train ∙ c.requires.free.stands)))
