-- What the program answers, and what it prints.
use Rattle.std.specs.Prelude.{◌≡◌, ℕ, List, ◌++◌, ◌⊎◌, Option, Some, None, Result, Ok, Err, codes, decimal}
use Rattle.rail_text.specs.Bytes.{appended, TakesPart}
use Rattle.rail_text.specs.CauseText.{cause_bytes}
use Rattle.rail_text.specs.Gives.{Fault}
use Rattle.command_words.specs.Commands.{Command, texts_of}
use Rattle.text_fetch.specs.FromTexts.{HasShelfFault, Held, FromTexts, Untold, Gives, Refuses}
use Rattle.box_top.specs.Outcomes.{IsPrintOf, Print, command_told, told_before}
use Rattle.box_top.specs.declared.status.Status.{Status}
use Rattle.box_top.specs.declared.status.Status.TheVariants as statuses
use Rattle.text_fetch.specs.declared.stop.Stop.{Stop}
use Rattle.text_fetch.specs.declared.stop.Stop.TheVariants as stops

-- the line that is printed of words that are no command
abbrev pub words_line : List ℕ
words_line = codes "words not understood\n"

-- the line that is printed of a refused text
unfoldable pub refused_line : ℕ → Fault → List ℕ
refused_line text fault =
    codes "refused text " ++ decimal text ++ codes " line " ++ decimal fault.line ++ codes ": "
    ++ cause_bytes fault.cause ++ codes "\n"

-- the status, and a text of what is told, unless a fault or want of memory comes
abbrev pub Answers : FromTexts Print → Status → List ℕ → Type 0
Answers Untold status text = (status ≡ statuses.Done) ⊎ (status ≡ statuses.Refused)
Answers (Gives print) status text = (status ≡ statuses.Done) × IsPrintOf print text
Answers (Refuses n fault) status text = (status ≡ statuses.Refused) × (text ≡ refused_line n fault)

-- the same for the words of a command line
abbrev pub AnswersWords : Held → Option Command → Status → List ℕ → Type 0
AnswersWords held None status text = (status ≡ statuses.Words) × (text ≡ words_line)
AnswersWords held (Some command) status text = Answers (command_told held command) status text

-- all of the text was put, or the sink failed
abbrev pub PutText : Option (List ℕ) → Option (List ℕ) → List ℕ → Status → Status → Type 0
PutText old new text wanted status =
    ((status ≡ wanted) × (new ≡ appended old text)) ⊎ ((status ≡ statuses.SinkFault) × TakesPart old new text)

-- nothing was put
abbrev pub PutNothing : Option (List ℕ) → Option (List ℕ) → Status → Status → Type 0
PutNothing old new wanted status = (status ≡ wanted) × (new ≡ old)

-- of a step that stops: the line of a refusal was put, unless memory ran out for it; of a fault of the shelf, and of
-- want of memory, nothing
abbrev pub PutStop : Stop → Option (List ℕ) → Option (List ℕ) → Status → Type 0
PutStop (stops.Refused text line cause) old new status =
    PutText old new (refused_line text (record { line = line; cause = cause })) statuses.Refused status
    ⊎ PutNothing old new statuses.NoMemory status
PutStop stops.ShelfFault old new status = PutNothing old new statuses.ShelfFault status
PutStop stops.NoMemory old new status = PutNothing old new statuses.NoMemory status

-- of an outcome: its text was put, or what comes of the stop in its place
abbrev pub PutOutcome : {X : Type 0} → (X → List ℕ) → Result X Stop → Option (List ℕ) → Option (List ℕ) → Status
    → Type 0
PutOutcome view (Ok x) old new status = PutText old new (view x) statuses.Done status
PutOutcome view (Err stop) old new status = PutStop stop old new status

-- what the sink has taken, by the status: the whole text; in its place a proper prefix, where the sink failed; or
-- nothing
abbrev pub Printed : Held → Option Command → Option (List ℕ) → Option (List ℕ) → Status → Type 0
Printed held command old new statuses.Done =
    (text : List ℕ) × AnswersWords held command statuses.Done text × (new ≡ appended old text)
Printed held command old new statuses.Words =
    (text : List ℕ) × AnswersWords held command statuses.Words text × (new ≡ appended old text)
Printed held command old new statuses.Refused =
    (text : List ℕ) × AnswersWords held command statuses.Refused text × (new ≡ appended old text)
Printed held command old new statuses.SinkFault =
    (status : Status) × (text : List ℕ) × AnswersWords held command status text × TakesPart old new text
Printed held command old new statuses.ShelfFault = new ≡ old
Printed held command old new statuses.NoMemory = new ≡ old

-- only where the words name a text whose count rose, and nothing before its fetch is refused
abbrev pub ShelfCause : Held → (List ℕ → ℕ) → (List ℕ → ℕ) → Option Command → Type 0
ShelfCause held before now None = ⊥
ShelfCause held before now (Some command) = HasShelfFault before now (texts_of command) (told_before held command)

-- The words name told texts that spell what the command needs: it is done and its whole output is taken, unless memory
-- runs out.
abbrev pub Completes : Held → Option Command → Option (List ℕ) → Option (List ℕ) → Status → Type 0
Completes held words old new status = (command : Command) (print : Print) → words ≡ Some command
    → command_told held command ≡ Gives print
    → ((status ≡ statuses.Done) × ((text : List ℕ) × IsPrintOf print text × (new ≡ appended old text)))
    ⊎ (status ≡ statuses.NoMemory)
