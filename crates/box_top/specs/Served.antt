-- How a command is served.
use Rattle.std.specs.Prelude.{◌≡◌, ℕ, List, Option, None}
use Rattle.rail_text.specs.Causes.{Rose}
use Rattle.command_words.specs.Commands.{Command}
use Rattle.text_fetch.specs.FromTexts.{Held}
use Rattle.box_top.specs.Headlines.{Headline, Reported}
use Rattle.box_top.specs.Outcomes.{NoneRose}
use Rattle.box_top.specs.Top.{Completes, Printed, ShelfCause}
use Rattle.box_top.specs.declared.status.Status.{Status}
use Rattle.box_top.specs.declared.status.Status.TheVariants as statuses

-- The words of a command line are served, over a shelf, before and after, and a sink, old and new. The status tells
-- what the sink has taken (`printed`). Where it is done, this is in the words of the railway what comes of a line that
-- was worked (`headline`), or a report of the desk (`reported`). Where the texts spell what the command needs and no
-- count of faults rose, it is done, unless memory runs out (`complete`). A fault comes only where its count rose
-- (`sink`, `shelf`). After one of the shelf, and where memory ran out, the sink is as it was (`not_fetched`,
-- `no_memory`). Words that are no command ask nothing of the shelf (`not_asked`), and what it holds stays the same
-- (`same`).
pub record IsServed {S K : Type 0} (held : S → Held) (faults : S → List ℕ → ℕ) (taken : K → Option (List ℕ))
    (sink_faults : K → ℕ) (words : Option Command) (before after : S) (old new : K) (status : Status) : Type 0 where
  pub printed : Printed (held before) words (taken old) (taken new) status
  pub headline : status ≡ statuses.Done → Headline (held before) words (taken old) (taken new)
  pub reported : status ≡ statuses.Done → Reported (held before) words (taken old) (taken new)
  pub complete : NoneRose (faults before) (faults after) words → ¬ Rose (sink_faults old) (sink_faults new)
      → Completes (held before) words (taken old) (taken new) status
  pub sink : status ≡ statuses.SinkFault → Rose (sink_faults old) (sink_faults new)
  pub shelf : status ≡ statuses.ShelfFault → ShelfCause (held before) (faults before) (faults after) words
  pub not_fetched : status ≡ statuses.ShelfFault → new ≡ old
  pub no_memory : status ≡ statuses.NoMemory → new ≡ old
  pub not_asked : words ≡ None → after ≡ before
  pub same : (n : List ℕ) → held after n ≡ held before n
