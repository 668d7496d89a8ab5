-- What `signalbox` tells where a command couldn't be done.
use Rattle.std.specs.Prelude.{◌≡◌, ◌<◌, ◌⊎◌, ℕ, List, ◌∷◌, length, Option, Some, None}
use Rattle.rail_text.specs.Bytes.{appended}
use Rattle.rail_text.specs.Causes.{Rose}
use Rattle.rail_text.specs.Gives.{Fault}
use Rattle.text_fetch.specs.FromTexts.{HasShelfFault, Held, Refuses}
use Rattle.text_fetch.specs.Runs.{run_told, run_told_before}
use Rattle.explained_texts.specs.Troubles.{ExplainsHeld, IsOwnLine, name_of_text, told_of}
use Rattle.explained_texts.specs.declared.trouble.Trouble.{Trouble}
use Rattle.explained_texts.specs.declared.trouble.Trouble.TheVariants as troubles
use Rattle.signalbox_words.specs.Commands.{Command, Rehearsing}

-- a text is told that isn't empty, or it couldn't be told, for a fault that was counted
abbrev pub TellsWhy : Option (List ℕ) → Option (List ℕ) → ℕ → ℕ → Type 0
TellsWhy old new before now = ((line : List ℕ) × (0 < length line) × (new ≡ appended old line)) ⊎ Rose before now

-- this is told, or couldn't be told, for a fault that was counted
abbrev pub IsTold : List ℕ → Option (List ℕ) → Option (List ℕ) → ℕ → ℕ → Type 0
IsTold text old new before now = (new ≡ appended old text) ⊎ Rose before now

-- trouble is told
abbrev pub TellsTrouble : Trouble → Option (List ℕ) → Option (List ℕ) → ℕ → ℕ → Type 0
TellsTrouble trouble old new before now = 0 < length (told_of trouble) → IsTold (told_of trouble) old new before now

-- the counts of a shelf's faults, by name, as they were and as they are
pub record FaultCounts : Type 0 where
  pub before : List ℕ → ℕ
  pub now : List ℕ → ℕ

-- A line of the program's own is told of a run. Either a text couldn't be fetched: its count rose, and no text before
-- it is refused. Or memory ran out.
abbrev pub SaysNoText : Held → FaultCounts → Rehearsing → List ℕ → Type 0
SaysNoText held counts wanted told =
    (IsOwnLine told × HasShelfFault counts.before counts.now (wanted.plan ∷ wanted.scripts)
    (run_told_before held wanted.plan wanted.scripts))
    ⊎ (told ≡ told_of troubles.NoMemory)

-- What is told where text n of a run is refused: the explanation, with its place and its cause, those for which
-- `box_main` refuses the text, and the line as it stands. Or that a text can't be had.
abbrev pub SaysFault : Held → FaultCounts → Rehearsing → ℕ → Fault → List ℕ → Type 0
SaysFault held counts wanted n fault told =
    ExplainsHeld held (name_of_text wanted.plan wanted.scripts n) fault.line fault.cause told
    ⊎ SaysNoText held counts wanted told

-- that is told, or nothing could be told
abbrev pub TellsFault : Held → FaultCounts → Rehearsing → ℕ → Fault → Option (List ℕ) → Option (List ℕ) → ℕ → ℕ
    → Type 0
TellsFault held counts wanted n fault old new before now =
    ((told : List ℕ) × (SaysFault held counts wanted n fault told × IsTold told old new before now))

-- where a text of a run is refused, its fault is told
abbrev pub FaultIsTold : Held → FaultCounts → Option Command → Option (List ℕ) → Option (List ℕ) → ℕ → ℕ → Type 0
FaultIsTold held counts None old new before now = Unit {0}
FaultIsTold held counts (Some (Command.Rehearse wanted)) old new before now =
    (n : ℕ) (fault : Fault) → run_told held wanted.plan wanted.scripts ≡ Refuses n fault
    → TellsFault held counts wanted n fault old new before now
FaultIsTold held counts (Some other) old new before now = Unit {0}
