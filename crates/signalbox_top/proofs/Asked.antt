-- What is taken, and what is told, of words, by whether clap takes them.
use Rattle.std.proofs.Common.{◌≡◌, ℕ, Bool, true, false, List, Option, Some, None, cond, refl, ◌⊎◌, inl, inr}
use Rattle.std.proofs.Common.{codes, sym, ◌∙◌}
use Rattle.clap.specs.Words.{Text, takes}
use Rattle.signalbox_words.specs.Commands.{Command, command_of}
use Rattle.signalbox_words.specs.Table.{program}
use Rattle.text_fetch.specs.FromTexts.{Held}
use Rattle.signalbox_top.specs.Told.{FaultCounts, FaultIsTold, IsTold}
use Rattle.signalbox_top.specs.Top.{Headline, asked}
use Rattle.signalbox_top.specs.declared.status.Status.{Status}

-- ---- what is taken

-- of the command that words are
pub asked_command : (held : Held) (texts : List Text) (command : Command) (status : Status) (old new : Option (List ℕ))
    → command_of texts ≡ Some command → Headline held (Some command) status old new
    → Headline held (asked texts) status old new
asked_command held texts command status old new is done = go (takes program texts) where
  go : (t : Bool) → Headline held (cond t (command_of texts) None) status old new
  go true = rw is done
  go false = tt

-- of words that clap doesn't take
pub asked_none : (held : Held) (texts : List Text) (status : Status) (old new : Option (List ℕ))
    → ¬ (takes program texts ≡ true) → Headline held (asked texts) status old new
asked_none held texts status old new refused = go (takes program texts) refused where
  go : (t : Bool) → ¬ (t ≡ true) → Headline held (cond t (command_of texts) None) status old new
  go true other = absurd (other refl)
  go false other = tt

-- words that clap takes ask for the command that they are
pub asked_is : (texts : List Text) (command other : Command) → command_of texts ≡ Some command
    → asked texts ≡ Some other → command ≡ other
asked_is texts command other is asks = go (takes program texts) asks where
  go : (t : Bool) → cond t (command_of texts) None ≡ Some other → command ≡ other
  go true e = (let same : Some command ≡ Some other = sym is ∙ e in cc)
  go false e = absurd cc

-- words that clap doesn't take ask for none
pub asks_none : (texts : List Text) (other : Command) → ¬ (takes program texts ≡ true) ⊎ (command_of texts ≡ None)
    → asked texts ≡ Some other → ⊥
asks_none texts other none asks = go (takes program texts) none asks where
  go : (t : Bool) → ¬ (t ≡ true) ⊎ (command_of texts ≡ None) → cond t (command_of texts) None ≡ Some other → ⊥
  go true (inl other) e = other refl
  go true (inr is) e = (let same : None ≡ Some other = sym is ∙ e in absurd cc)
  go false none e = absurd cc

-- ---- what is told

-- where the fault of a command is told, it is told of the words that are this command
pub fault_asked : (held : Held) (counts : FaultCounts) (texts : List Text) (command : Command)
    (old new : Option (List ℕ)) (before now : ℕ)
    → command_of texts ≡ Some command → FaultIsTold held counts (Some command) old new before now
    → FaultIsTold held counts (asked texts) old new before now
fault_asked held counts texts command old new before now is told = go (takes program texts) where
  go : (t : Bool) → FaultIsTold held counts (cond t (command_of texts) None) old new before now
  go true = rw is told
  go false = tt

-- of words that clap doesn't take, or that are no command, no fault is to be told
pub fault_of_none : (held : Held) (counts : FaultCounts) (texts : List Text) (old new : Option (List ℕ))
    (before now : ℕ) → ¬ (takes program texts ≡ true) ⊎ (command_of texts ≡ None)
    → FaultIsTold held counts (asked texts) old new before now
fault_of_none held counts texts old new before now none = go (takes program texts) none where
  go : (t : Bool) → ¬ (t ≡ true) ⊎ (command_of texts ≡ None)
      → FaultIsTold held counts (cond t (command_of texts) None) old new before now
  go true (inl other) = absurd (other refl)
  go true (inr is) = rw is tt
  go false none = tt

-- where memory ran out, that is told
pub fault_without_memory : (held : Held) (counts : FaultCounts) (command : Option Command)
    (old new : Option (List ℕ)) (before now : ℕ) → IsTold (codes "signalbox: out of memory\n") old new before now
    → FaultIsTold held counts command old new before now
fault_without_memory held counts None old new before now told = tt
fault_without_memory held counts (Some (Command.Rehearse wanted)) old new before now told =
    λ n fault refused. (codes "signalbox: out of memory\n", (inr (inr refl), told))
fault_without_memory held counts (Some other) old new before now told = tt
