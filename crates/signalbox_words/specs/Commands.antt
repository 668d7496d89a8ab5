-- What the words of a command line ask for.
use Rattle.std.specs.Prelude.{◌≡◌, ◌≢◌, ◌⊎◌, ℕ, Bool, true, false, List, [], Option, Some, None, if◌then◌else◌}
use Rattle.std.specs.Prelude.{String, bytes_eq, codes, map, option_and_then, option_map, string_bytes}
use Rattle.std.specs.Global.{Global}
use Rattle.clap.specs.Words.{Row, Text, all_of, first_of, subcommand_of, takes}
use Rattle.clap.specs.declared.error.kind.ErrorKind.{ErrorKind}
use Rattle.clap.specs.declared.error.kind.ErrorKind.TheVariants as kinds
use Rattle.signalbox_words.specs.Table.{program}
use Rattle.signalbox_words.specs.declared.reading.MarkWords.{MarkWords}
use Rattle.signalbox_words.specs.declared.reading.PictureWords.{PictureWords}
use Rattle.signalbox_words.specs.declared.reading.SheetWords.{SheetWords}
use Rattle.signalbox_words.specs.declared.reading.SignalboxCommand.{SignalboxCommand}
use Rattle.signalbox_words.specs.declared.reading.SignalboxCommand.TheVariants as commands
use Rattle.signalbox_words.specs.declared.reading.Words.{Words}
use Rattle.signalbox_words.specs.declared.reading.Words.TheVariants as words

-- What is wanted of a rehearsal: whether it ends at the first refused call, whether its journal is printed in the place
-- of its report, and the names of the plan and the scripts.
pub record Rehearsing : Type 0 where
  pub to_refusal : Bool
  pub as_journal : Bool
  pub plan : List ℕ
  pub scripts : List (List ℕ)

-- What is wanted where a box is worked by hand: the names of the plan and of the box, and of the scripts of the other
-- boxes; whether it is told what is due, whether all is without colour, and whether the box is drawn anew; and the
-- names of the files to which the journal and his calls are written, if they are.
pub record Working : Type 0 where
  pub hint : Bool
  pub plain : Bool
  pub screen : Bool
  pub plan : List ℕ
  pub box_name : List ℕ
  pub scripts : List (List ℕ)
  pub journal : Option (List ℕ)
  pub script : Option (List ℕ)

-- What is wanted of marks: the names of the plan and of the journal; that of the box, if only what it did is marked;
-- and the time within which an answer is to come, as it was written, if there is one.
pub record MarkWanted : Type 0 where
  pub plan : List ℕ
  pub output : List ℕ
  pub box_name : Option (List ℕ)
  pub within : Option (List ℕ)

-- What is wanted of a frame's states: the names of the plan and of the box; how many states may be kept, if that is
-- given; and the levers that are never to be reversed together, and that are to be, as they were written.
pub record WalkWanted : Type 0 where
  pub plan : List ℕ
  pub box_name : List ℕ
  pub limit : Option (List ℕ)
  pub never : List (List ℕ)
  pub reach : List (List ℕ)

-- What is wanted of a register sheet: whether it is a page for a browser; the names of the plan and of the journal, and
-- that of the box, if only its sheets are printed.
pub record SheetWanted : Type 0 where
  pub html : Bool
  pub plan : List ℕ
  pub output : List ℕ
  pub box_name : Option (List ℕ)

-- What is wanted of a picture of the line: whether it is a film; the names of the plan and of the journal, and the
-- number of the entry after which the line is drawn, as it was written, if there is one.
pub record PictureWanted : Type 0 where
  pub film : Bool
  pub plan : List ℕ
  pub output : List ℕ
  pub number : Option (List ℕ)

-- Tidy: a text is printed with its form mended; Rehearse: a plan's line is rehearsed by the scripts of its boxes; Work:
-- one of its boxes is worked by hand; Frame: the lever frame of one of its boxes is drawn, a plan and a box by their
-- names; Graph: the train graph of a journal is drawn, a plan and the journal by their names; States: the states
-- of a lever frame are walked; Mark: a journal is marked; Sheet: the train register is printed as a sheet; Picture: the
-- line is drawn; Table: the locking table of a box is printed, as a page for a browser or not, a plan and a box by their
-- names; Rows: the rows of a locking table are printed for a plan; Json: a journal is printed for other programs, as
-- CSV or not, a plan and the journal by their names; Serve: the line of a plan is held for another program.
pub data Command : Type 0 where
  Tidy : List ℕ → Command
  Rehearse : Rehearsing → Command
  Work : Working → Command
  Frame : List ℕ → List ℕ → Command
  Graph : List ℕ → List ℕ → Command
  States : WalkWanted → Command
  Mark : MarkWanted → Command
  Sheet : SheetWanted → Command
  Picture : PictureWanted → Command
  Table : Bool → List ℕ → List ℕ → Command
  Rows : List ℕ → Command
  Json : Bool → List ℕ → List ℕ → Command
  Serve : List ℕ → Command

-- the words of `mark`, as their bytes
abbrev pub mark_shown : MarkWords → MarkWanted
mark_shown given = record {
  plan = given.plan.now;
  output = given.output.now;
  box_name = option_map (λ name. name.now) given.box_name;
  within = option_map (λ word. word.now) given.within;
}

-- the words of `sheet`, as their bytes
abbrev pub sheet_shown : SheetWords → SheetWanted
sheet_shown given = record {
  html = given.html;
  plan = given.plan.now;
  output = given.output.now;
  box_name = option_map (λ name. name.now) given.box_name;
}

-- the words of `picture`, as their bytes
abbrev pub picture_shown : PictureWords → PictureWanted
picture_shown given = record {
  film = given.film;
  plan = given.plan.now;
  output = given.output.now;
  number = option_map (λ word. word.now) given.number;
}

-- the command with the names as their bytes
abbrev pub shown : SignalboxCommand → Command
shown (commands.Tidy file) = Command.Tidy file.now
shown (commands.Rehearse to_refusal as_journal plan scripts) =
    Command.Rehearse (record {
      to_refusal = to_refusal;
      as_journal = as_journal;
      plan = plan.now;
      scripts = map (λ name. name.now) scripts.items;
    })
shown (commands.Work hint plain screen plan box_name scripts journal script) =
    Command.Work (record {
      hint = hint;
      plain = plain;
      screen = screen;
      plan = plan.now;
      box_name = box_name.now;
      scripts = map (λ name. name.now) scripts.items;
      journal = option_map (λ name. name.now) journal;
      script = option_map (λ name. name.now) script;
    })
shown (commands.Frame plan box_name) = Command.Frame plan.now box_name.now
shown (commands.Graph plan output) = Command.Graph plan.now output.now
shown (commands.States plan box_name limit never reach) =
    Command.States (record {
      plan = plan.now;
      box_name = box_name.now;
      limit = option_map (λ word. word.now) limit;
      never = map (λ word. word.now) never.items;
      reach = map (λ word. word.now) reach.items;
    })
shown (commands.Mark given) = Command.Mark (mark_shown given)
shown (commands.Sheet given) = Command.Sheet (sheet_shown given)
shown (commands.Picture given) = Command.Picture (picture_shown given)
shown (commands.Table html plan box_name) = Command.Table html plan.now box_name.now
shown (commands.Rows file) = Command.Rows file.now
shown (commands.Json csv plan output) = Command.Json csv plan.now output.now
shown (commands.Serve plan) = Command.Serve plan.now

-- words as their bytes
abbrev pub bytes_of : List (String Global) → List Text
bytes_of words = map (λ word. string_bytes word) words

-- a flag is given
abbrev pub is_given : Option Text → Bool
is_given None = false
is_given (Some value) = bytes_eq value (codes "true")

-- the names of a plan and of scripts, where there are both
abbrev pub both_names : Option Text → Option (List Text) → Option (Text × List Text)
both_names None scripts = None
both_names (Some plan) None = None
both_names (Some plan) (Some scripts) = Some (plan, scripts)

-- PLAN SCRIPT..
abbrev pub names_read : List Row → Option (Text × List Text)
names_read rows = both_names (first_of (codes "plan") rows) (all_of (codes "script") rows)

-- a rehearsal of the texts of these names, with the flags that are given
abbrev pub rehearsal_with : List Row → Text × List Text → Command
rehearsal_with rows names =
    Command.Rehearse (record {
      to_refusal = is_given (first_of (codes "to-refusal") rows);
      as_journal = is_given (first_of (codes "journal") rows);
      plan = names.0;
      scripts = names.1;
    })

-- `rehearse [--to-refusal] [--journal] PLAN SCRIPT..`
abbrev pub rehearse_read : List Row → Option Command
rehearse_read rows = option_map (rehearsal_with rows) (names_read rows)

-- the names of a plan, of a box and of scripts, where there are all
abbrev pub line_names : Option Text → Option (Text × List Text) → Option (Text × Text × List Text)
line_names None names = None
line_names (Some plan) None = None
line_names (Some plan) (Some names) = Some (plan, names.0, names.1)

-- PLAN BOX SCRIPT..
abbrev pub line_read : List Row → Option (Text × Text × List Text)
line_read rows =
    line_names (first_of (codes "plan") rows) (both_names (first_of (codes "box") rows) (all_of (codes "others") rows))

-- a box of these names is worked by hand, with the files that are named
abbrev pub working_with : List Row → Text × Text × List Text → Command
working_with rows names =
    Command.Work (record {
      hint = is_given (first_of (codes "hint") rows);
      plain = is_given (first_of (codes "plain") rows);
      screen = is_given (first_of (codes "screen") rows);
      plan = names.0;
      box_name = names.1;
      scripts = names.2;
      journal = first_of (codes "journal") rows;
      script = first_of (codes "script") rows;
    })

-- `work [--hint] [--journal FILE] [--plain] [--screen] [--script FILE] PLAN BOX SCRIPT..`
abbrev pub work_read : List Row → Option Command
work_read rows = option_map (working_with rows) (line_read rows)

-- two names, where there are both
abbrev pub two_names : Option Text → Option Text → Option (Text × Text)
two_names None name = None
two_names (Some plan) None = None
two_names (Some plan) (Some name) = Some (plan, name)

-- `frame PLAN BOX`
abbrev pub frame_read : List Row → Option Command
frame_read rows =
    option_map (λ names. Command.Frame names.0 names.1)
    (two_names (first_of (codes "plan") rows) (first_of (codes "box") rows))

-- `graph PLAN OUTPUT`
abbrev pub graph_read : List Row → Option Command
graph_read rows =
    option_map (λ names. Command.Graph names.0 names.1)
    (two_names (first_of (codes "plan") rows) (first_of (codes "output") rows))

-- the words that are listed behind an option, none where it isn't given
abbrev pub listed : Option (List Text) → List Text
listed None = []
listed (Some words) = words

-- the states of the frame of a box of these names, with what may be left out
abbrev pub walk_with : List Row → Text × Text → Command
walk_with rows names =
    Command.States (record {
      plan = names.0;
      box_name = names.1;
      limit = first_of (codes "limit") rows;
      never = listed (all_of (codes "never") rows);
      reach = listed (all_of (codes "reach") rows);
    })

-- `states PLAN BOX [--limit N] [--never L..] [--reach L..]`
abbrev pub states_read : List Row → Option Command
states_read rows =
    option_map (walk_with rows) (two_names (first_of (codes "plan") rows) (first_of (codes "box") rows))

-- marks of a plan and a journal of these names, with what may be left out
abbrev pub marking_with : List Row → Text × Text → Command
marking_with rows names =
    Command.Mark (record {
      plan = names.0;
      output = names.1;
      box_name = first_of (codes "box") rows;
      within = first_of (codes "within") rows;
    })

-- `mark [--within M] PLAN OUTPUT [BOX]`
abbrev pub mark_read : List Row → Option Command
mark_read rows =
    option_map (marking_with rows) (two_names (first_of (codes "plan") rows) (first_of (codes "output") rows))

-- the sheets of a plan and a journal of these names
abbrev pub sheet_with : List Row → Text × Text → Command
sheet_with rows names =
    Command.Sheet (record {
      html = is_given (first_of (codes "html") rows);
      plan = names.0;
      output = names.1;
      box_name = first_of (codes "box") rows;
    })

-- `sheet [--html] PLAN OUTPUT [BOX]`
abbrev pub sheet_read : List Row → Option Command
sheet_read rows =
    option_map (sheet_with rows) (two_names (first_of (codes "plan") rows) (first_of (codes "output") rows))

-- the picture of a line by a plan and a journal of these names
abbrev pub picture_with : List Row → Text × Text → Command
picture_with rows names =
    Command.Picture (record {
      film = is_given (first_of (codes "film") rows);
      plan = names.0;
      output = names.1;
      number = first_of (codes "entry") rows;
    })

-- `picture [--film] PLAN OUTPUT [ENTRY]`
abbrev pub picture_read : List Row → Option Command
picture_read rows =
    option_map (picture_with rows) (two_names (first_of (codes "plan") rows) (first_of (codes "output") rows))

-- `table [--html] PLAN BOX`
abbrev pub table_read : List Row → Option Command
table_read rows =
    option_map (λ names. Command.Table (is_given (first_of (codes "html") rows)) names.0 names.1)
    (two_names (first_of (codes "plan") rows) (first_of (codes "box") rows))

-- `json [--csv] PLAN OUTPUT`
abbrev pub json_read : List Row → Option Command
json_read rows =
    option_map (λ names. Command.Json (is_given (first_of (codes "csv") rows)) names.0 names.1)
    (two_names (first_of (codes "plan") rows) (first_of (codes "output") rows))

-- a command, by its name and the values that clap found
abbrev pub command_read : Text → List Row → Option Command
command_read name rows =
    if bytes_eq name (codes "tidy") then option_map Command.Tidy (first_of (codes "file") rows)
    else if bytes_eq name (codes "rehearse") then rehearse_read rows
    else if bytes_eq name (codes "work") then work_read rows
    else if bytes_eq name (codes "frame") then frame_read rows
    else if bytes_eq name (codes "graph") then graph_read rows
    else if bytes_eq name (codes "states") then states_read rows
    else if bytes_eq name (codes "mark") then mark_read rows
    else if bytes_eq name (codes "sheet") then sheet_read rows
    else if bytes_eq name (codes "picture") then picture_read rows
    else if bytes_eq name (codes "table") then table_read rows
    else if bytes_eq name (codes "rows") then option_map Command.Rows (first_of (codes "file") rows)
    else if bytes_eq name (codes "json") then json_read rows
    else if bytes_eq name (codes "serve") then option_map Command.Serve (first_of (codes "plan") rows)
    else None

-- the command of these words, as clap reads them by the table of commands
abbrev pub command_of : List Text → Option Command
command_of words = option_and_then (λ found. command_read found.0 found.1) (subcommand_of program words)

-- a text is told of a fault other than want of memory
abbrev pub TellsFault : ErrorKind → Words → Type 0
TellsFault kind (words.Command command) = ⊥
TellsFault kind (words.Shown text) = kind ≢ kinds.OutOfMemory
TellsFault kind (words.Wrong text) = kind ≢ kinds.OutOfMemory

-- Words come to the command that they are; to a text only where clap doesn't take them, or they are no command.
abbrev pub AreRead : List Text → Words → Type 0
AreRead texts (words.Command command) = command_of texts ≡ Some (shown command)
AreRead texts (words.Shown text) = ¬ (takes program texts ≡ true)
AreRead texts (words.Wrong text) = ¬ (takes program texts ≡ true) ⊎ (command_of texts ≡ None)
