use Rattle.command_words.specs.Commands.{desk_shown}
use Rattle.box_top.proofs.DeskDone.{desk_done, desk_works_none}
use Rattle.box_top.proofs.Serving.{outcome_served}
use Rattle.box_top.proofs.desk.serve_desk.Goals as goal

pub returns : goal.returns
returns g c =
    let put = c.put_outcome.ensures in
    let made = c.desk_outcome-outcome.ensures in
    outcome_served g.S.Shelf.held g.S.Shelf.faults g.K.Sink.taken g.K.Sink.faults c.desk_outcome-outcome.result
    (λ text. text.items) (desk_shown c.args.command) _ _ _ _ _ made.told
    put.took put.sink put.not_fetched put.no_memory made.fault made.same
    (λ done. desk_works_none c.args.command (g.S.Shelf.held c.args.shelf.now) (g.K.Sink.taken c.args.out.now)
    (g.K.Sink.taken c.put_outcome.new.out))
    (desk_done c.args.command c.desk_outcome-outcome.result (λ text. text.items) _ _ _ _ made.told made.sound put.took)
