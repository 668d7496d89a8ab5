-- What serves a command.
use Rattle.std.proofs.Common.{◌≡◌, ℕ, List, Option, Some, Result, IsErrOf}
use Rattle.rail_text.specs.Causes.{Rose}
use Rattle.command_words.specs.Commands.{Command}
use Rattle.line_runs.specs.Outputs.{MakesText}
use Rattle.text_fetch.specs.FromTexts.{Held}
use Rattle.text_fetch.specs.declared.stop.Stop.{Stop}
use Rattle.text_fetch.specs.declared.stop.Stop.TheVariants as stops
use Rattle.box_top.specs.declared.status.Status.{Status}
use Rattle.box_top.specs.declared.status.Status.TheVariants as statuses
use Rattle.box_top.specs.Headlines.{Headline, Reported}
use Rattle.box_top.specs.Outcomes.{IsPrintOf, command_told}
use Rattle.box_top.specs.Served.{IsServed}
use Rattle.box_top.specs.Top.{PutOutcome, ShelfCause}
use Rattle.box_top.proofs.Outcomes.{completes, outcome_fault, outcome_printed}

module _ {S K : Type 0} (held : S → Held) (faults : S → List ℕ → ℕ) (taken : K → Option (List ℕ)) (sink_faults : K → ℕ)
  where
    -- an outcome of a command that is put serves it
    pub outcome_served : {X : Type 0} (outcome : Result X Stop) (view : X → List ℕ) (command : Command)
        (before after : S) (old new : K) (status : Status)
        → MakesText IsPrintOf view outcome (command_told (held before) command)
        → PutOutcome view outcome (taken old) (taken new) status
        → (status ≡ statuses.SinkFault → Rose (sink_faults old) (sink_faults new))
        → (status ≡ statuses.ShelfFault → new ≡ old) → (status ≡ statuses.NoMemory → new ≡ old)
        → (IsErrOf outcome stops.ShelfFault
        → ShelfCause (held before) (faults before) (faults after) (Some command))
        → ((n : List ℕ) → held after n ≡ held before n)
        → (status ≡ statuses.Done → Headline (held before) (Some command) (taken old) (taken new))
        → (status ≡ statuses.Done → Reported (held before) (Some command) (taken old) (taken new))
        → IsServed held faults taken sink_faults (Some command) before after old new status
    outcome_served outcome view command before after old new status made put sink not_fetched no_memory fault same
        headline reported =
        let printed = outcome_printed outcome view (held before) command (taken old) (taken new) status made put in
        let shelf : status ≡ statuses.ShelfFault
        → ShelfCause (held before) (faults before) (faults after) (Some command) =
        λ e. fault (outcome_fault outcome view (taken old) (taken new) status put e) in
        record {
          printed = printed;
          headline = headline;
          reported = reported;
          complete = completes (held before) (faults before) (faults after) (Some command) (taken old) (taken new)
              (sink_faults old) (sink_faults new) status printed sink shelf;
          sink = sink;
          shelf = shelf;
          not_fetched = not_fetched;
          no_memory = no_memory;
          not_asked = λ e. absurd cc;
          same = same;
        }
