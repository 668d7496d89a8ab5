-- What is wanted of a rehearsal, and what is told where there is none.
use Rattle.std.specs.Prelude.{◌≡◌, ◌<◌, ℕ, length, map}
use Rattle.rail_text.specs.Gives.{Fault}
use Rattle.text_fetch.specs.FromTexts.{Held, Refuses}
use Rattle.text_fetch.specs.Runs.{run_told}
use Rattle.explained_texts.specs.Troubles.{told_of}
use Rattle.explained_texts.specs.declared.trouble.Trouble.{Trouble}
use Rattle.signalbox_words.specs.Commands.{Rehearsing}
use Rattle.signalbox_top.specs.Told.{FaultCounts, SaysFault}
use Rattle.signalbox_top.specs.declared.rehearsing.Wanted.{Wanted}

-- what is wanted, with the names as their bytes
abbrev pub wanted_shown : Wanted → Rehearsing
wanted_shown wanted = record {
  to_refusal = wanted.to_refusal;
  as_journal = wanted.as_journal;
  plan = wanted.plan.now;
  scripts = map (λ name. name.now) wanted.scripts.now;
}

-- Something is told of trouble. Where a text of the run is refused, it is what is told of that fault.
pub record IsTroubleOf (held : Held) (counts : FaultCounts) (wanted : Rehearsing) (trouble : Trouble) : Type 0 where
  pub some : 0 < length (told_of trouble)
  pub fault : (n : ℕ) (fault : Fault) → run_told held wanted.plan wanted.scripts ≡ Refuses n fault
      → SaysFault held counts wanted n fault (told_of trouble)
