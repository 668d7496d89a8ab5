use Rattle.std.proofs.Common.{◌≡◌, Some, refl}
use Rattle.command_words.specs.Commands.{Command, bytes_of, command_of}
use Rattle.line_runs.specs.Made.{IsSummaryOf}
use Rattle.text_fetch.specs.FromTexts.{Gives}
use Rattle.box_top.specs.Outcomes.{SummaryOf}
use Rattle.box_top.proofs.Headlines.{stress_done}
use Rattle.box_top.proofs.Outcomes.{makes_print}
use Rattle.box_top.proofs.Serving.{outcome_served}
use Rattle.box_top.proofs.top.serve.Goals as goal

pub returns-in-Ok-Some-Stress : goal.returns-in-Ok-Some-Stress
returns-in-Ok-Some-Stress g c =
    let words : Some (Command.Stress c.in-Ok-Some-Stress.trains) ≡ command_of (bytes_of c.args.words.now) =
    rw (c.in-Ok-Some-Stress.field-0-is, c.in-Ok-Some-Stress.field-0-0-is) at c.in-Ok-Some-Stress.ensures.read in
    let put = c.put_outcome.ensures in
    let made = c.stress_outcome-outcome.ensures in
    let trains = c.in-Ok-Some-Stress.trains in
    rw (← words) (outcome_served g.S.Shelf.held g.S.Shelf.faults g.K.Sink.taken g.K.Sink.faults
    c.stress_outcome-outcome.result (λ text. text.items) (Command.Stress trains) _ _ _ _ _
    (makes_print IsSummaryOf SummaryOf (λ n text h. h) c.stress_outcome-outcome.result (λ text. text.items)
    (Gives trains) made.told)
    put.took put.sink put.not_fetched put.no_memory (λ e. absurd (made.no_fault e)) (λ n. refl)
    (stress_done trains c.stress_outcome-outcome.result (λ text. text.items) _ _ _ made.told put.took) (λ done. tt))
