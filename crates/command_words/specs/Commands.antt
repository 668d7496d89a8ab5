-- The command table.
use Rattle.std.specs.Prelude.{ℕ, ◌≤◌, Bool, true, false, not, ◌&&◌, ◌==◌, nat_le, nat_lt, List, [], ◌∷◌, length, drop}
use Rattle.std.specs.Prelude.{Option, Some, None, if◌then◌else◌, bytes_eq, codes, map, option_map, option_and_then}
use Rattle.std.specs.Prelude.{String, string_bytes}
use Rattle.std.specs.Global.{Global}
use Rattle.std.specs.List.{find, list_all}
use Rattle.rail_text.specs.Number.{number_of}
use Rattle.command_words.specs.declared.command.CommandLine.{CommandLine}
use Rattle.command_words.specs.declared.command.CommandLine.TheVariants as lines
use Rattle.command_words.specs.declared.command.DeskCommand.{DeskCommand}
use Rattle.command_words.specs.declared.command.DeskCommand.TheVariants as desk
use Rattle.command_words.specs.declared.table.CommandName.{CommandName}
use Rattle.command_words.specs.declared.table.CommandName.TheVariants as names
use Rattle.command_words.specs.declared.table.Row.{Row}

-- What the words of a command line ask for, with the names of the texts. Run: a plan's line is worked by the scripts of
-- its boxes; Stress: the made line of so many trains is worked by its own scripts; Check: a plan is checked; Tables:
-- the frame of a plan's box is shown, the box by its name; Chart: the locking chart of such a box is shown; Judge: a
-- journal of a plan's line is judged; Audit: such a journal is audited; Upgrade: a plan is put into version 2; Token: a
-- single line with tokens is worked by the calls of a token script; Watch: as Run, and the line's instruments are
-- looked at in so many rounds.
pub data Command : Type 0 where
  Run : List ℕ → List (List ℕ) → Command
  Stress : ℕ → Command
  Check : List ℕ → Command
  Tables : List ℕ → List ℕ → Command
  Chart : List ℕ → List ℕ → Command
  Judge : List ℕ → List ℕ → Command
  Audit : List ℕ → List ℕ → Command
  Upgrade : List ℕ → Command
  Token : List ℕ → Command
  Watch : ℕ → List ℕ → List (List ℕ) → Command

-- ---- the table

-- a row of the table: the first word of a command, the arguments that stand for one word each, and whether scripts
-- stand behind these, one or more
pub record CommandRow : Type 0 where
  pub word : List ℕ
  pub arguments : List (List ℕ)
  pub has_scripts : Bool

-- the row of each command
abbrev pub row_of : CommandName → CommandRow
row_of names.Run = record { word = codes "run"; arguments = codes "plan" ∷ []; has_scripts = true }
row_of names.Stress = record { word = codes "stress"; arguments = codes "trains" ∷ []; has_scripts = false }
row_of names.Check = record { word = codes "check"; arguments = codes "plan" ∷ []; has_scripts = false }
row_of names.Tables = record { word = codes "tables"; arguments = codes "plan" ∷ codes "box" ∷ []; has_scripts = false }
row_of names.Chart = record { word = codes "chart"; arguments = codes "plan" ∷ codes "box" ∷ []; has_scripts = false }
row_of names.Judge =
    record { word = codes "judge"; arguments = codes "plan" ∷ codes "journal" ∷ []; has_scripts = false }
row_of names.Audit =
    record { word = codes "audit"; arguments = codes "plan" ∷ codes "journal" ∷ []; has_scripts = false }
row_of names.Upgrade = record { word = codes "upgrade"; arguments = codes "plan" ∷ []; has_scripts = false }
row_of names.Token = record { word = codes "token"; arguments = codes "script" ∷ []; has_scripts = false }
row_of names.Watch = record { word = codes "watch"; arguments = codes "rounds" ∷ codes "plan" ∷ []; has_scripts = true }

-- the names of all commands
abbrev pub all_names : List CommandName
all_names =
    names.Run ∷ names.Stress ∷ names.Check ∷ names.Tables ∷ names.Chart ∷ names.Judge ∷ names.Audit ∷ names.Upgrade
    ∷ names.Token ∷ names.Watch ∷ []

-- the command with this first word
abbrev pub name_of : List ℕ → Option CommandName
name_of word = find (λ name. bytes_eq word (row_of name).word) all_names

-- so many words may stand behind the first word of a command
abbrev pub may_have : CommandName → ℕ → Bool
may_have name count =
    if (row_of name).has_scripts then nat_lt (length (row_of name).arguments) count
    else count == length (row_of name).arguments

-- ---- which words are a command

-- words as their bytes
abbrev pub bytes_of : List (String Global) → List (List ℕ)
bytes_of words = map (λ word. string_bytes word) words

-- a word that the table may have: not empty, and without a hyphen in front
abbrev pub is_plain_word : List ℕ → Bool
is_plain_word [] = false
is_plain_word (b ∷ bs) = not (b == 45)

-- the command with this first word, if so many words may stand behind it
abbrev pub form_named : List ℕ → ℕ → Option CommandName
form_named first count = option_and_then (λ name. if may_have name count then Some name else None) (name_of first)

-- the command of which words have the form: plain, the first its own, and as many behind it as it has
abbrev pub form_of : List (List ℕ) → Option CommandName
form_of [] = None
form_of (first ∷ words) =
    if list_all is_plain_word (first ∷ words) then form_named first (length words) else None

-- the most trains of a made line
abbrev pub most_made_trains : ℕ
most_made_trains = 200

-- the most rounds of a watch
abbrev pub most_rounds : ℕ
most_rounds = 1000

-- a count, from 1 to the most, if the number is one
abbrev pub within_count : ℕ → ℕ → Option ℕ
within_count most n = if nat_le 1 n && nat_le n most then Some n else None

-- the count that a word names, from 1 to the most; it is written as numbers are printed
abbrev pub count_of : ℕ → List ℕ → Option ℕ
count_of most word = option_and_then (within_count most) (number_of word)

-- what a command makes of the words behind its first
abbrev pub command_in : CommandName → List (List ℕ) → Option Command
command_in names.Run (plan ∷ scripts) = Some (Command.Run plan scripts)
command_in names.Stress (n ∷ []) = option_map Command.Stress (count_of most_made_trains n)
command_in names.Check (plan ∷ []) = Some (Command.Check plan)
command_in names.Tables (plan ∷ name ∷ []) = Some (Command.Tables plan name)
command_in names.Chart (plan ∷ name ∷ []) = Some (Command.Chart plan name)
command_in names.Judge (plan ∷ journal ∷ []) = Some (Command.Judge plan journal)
command_in names.Audit (plan ∷ journal ∷ []) = Some (Command.Audit plan journal)
command_in names.Upgrade (plan ∷ []) = Some (Command.Upgrade plan)
command_in names.Token (script ∷ []) = Some (Command.Token script)
command_in names.Watch (n ∷ plan ∷ scripts) =
    option_map (λ rounds. Command.Watch rounds plan scripts) (count_of most_rounds n)
command_in name words = None

-- the names of a command's texts, in the order in which they are fetched: text 1, text 2 and so on
abbrev pub texts_of : Command → List (List ℕ)
texts_of (Command.Run plan scripts) = plan ∷ scripts
texts_of (Command.Stress n) = []
texts_of (Command.Check plan) = plan ∷ []
texts_of (Command.Tables plan name) = plan ∷ []
texts_of (Command.Chart plan name) = plan ∷ []
texts_of (Command.Judge plan journal) = plan ∷ journal ∷ []
texts_of (Command.Audit plan journal) = plan ∷ journal ∷ []
texts_of (Command.Upgrade plan) = plan ∷ []
texts_of (Command.Token script) = script ∷ []
texts_of (Command.Watch n plan scripts) = plan ∷ scripts

-- the command of these words, if they are of the table
unfoldable pub command_of : List (List ℕ) → Option Command
command_of words = option_and_then (λ name. command_in name (drop 1 words)) (form_of words)

-- ---- the desk, which works no line of a plan

-- a command, if the desk serves it: every one but `run`, `stress` and `watch`
abbrev pub at_desk : Option Command → Option Command
at_desk (Some (Command.Run plan scripts)) = None
at_desk (Some (Command.Stress n)) = None
at_desk (Some (Command.Watch n plan scripts)) = None
at_desk command = command

-- the command of these words, if the desk serves it
unfoldable pub desk_command_of : List (List ℕ) → Option Command
desk_command_of words = at_desk (command_of words)

-- ---- as the program holds them

-- a row of the table
abbrev pub row_shown : Row → CommandRow
row_shown row = record { word = row.0.now; arguments = map (λ id. id.now) row.1.now; has_scripts = row.2 }

-- a command of the desk
abbrev pub desk_shown : DeskCommand → Command
desk_shown (desk.Check plan) = Command.Check plan.now
desk_shown (desk.Tables plan name) = Command.Tables plan.now name.now
desk_shown (desk.Chart plan name) = Command.Chart plan.now name.now
desk_shown (desk.Judge plan journal) = Command.Judge plan.now journal.now
desk_shown (desk.Audit plan journal) = Command.Audit plan.now journal.now
desk_shown (desk.Upgrade plan) = Command.Upgrade plan.now
desk_shown (desk.Token script) = Command.Token script.now

-- any command
abbrev pub shown : CommandLine → Command
shown (lines.Run plan scripts) = Command.Run plan.now (map (λ name. name.now) scripts.items)
shown (lines.Stress trains) = Command.Stress trains
shown (lines.Watch rounds plan scripts) = Command.Watch rounds plan.now (map (λ name. name.now) scripts.items)
shown (lines.Desk command) = desk_shown command

-- the count of a command that has one is from 1 to the most
abbrev pub IsCounted : CommandLine → Type 0
IsCounted (lines.Stress trains) = (1 ≤ trains) × (trains ≤ most_made_trains)
IsCounted (lines.Watch rounds plan scripts) = (1 ≤ rounds) × (rounds ≤ most_rounds)
IsCounted line = Unit {0}
