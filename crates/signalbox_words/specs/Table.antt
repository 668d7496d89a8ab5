-- The commands of `signalbox` as clap sees them.
use Rattle.std.specs.Prelude.{true, codes, Some}
use Rattle.clap.specs.Lexer.{usize_max}
use Rattle.clap.specs.Words.{App, Rule, Text, new_app, new_rule, with_rule, with_subcommand}
use Rattle.clap.specs.declared.builder.action.ArgAction.TheVariants.{SetTrue}

-- an argument that is required, with a name in the help
abbrev pub required_argument : Text → Rule
required_argument id = record (new_rule id) { value_names = 1; required = true }

-- the same, with one word or more
abbrev pub repeated_argument : Text → Rule
repeated_argument id = record (required_argument id) {
  range = Some (record { start_inclusive = 1; end_inclusive = usize_max });
}

-- a flag: `--` and its name
abbrev pub flag : Text → Rule
flag id = record (new_rule id) { long = Some id; action = Some SetTrue }

-- an argument that may be left out
abbrev pub optional_argument : Text → Rule
optional_argument id = record (new_rule id) { value_names = 1 }

-- an option with a value: `--`, its name, and what it names
abbrev pub value_option : Text → Rule
value_option id = record (new_rule id) { long = Some id; value_names = 1 }

-- `tidy FILE`
abbrev pub tidy_command : App
tidy_command = with_rule (new_app (codes "tidy")) (required_argument (codes "file"))

-- `rehearse --to-refusal`
abbrev pub to_refusal_form : App
to_refusal_form = with_rule (new_app (codes "rehearse")) (flag (codes "to-refusal"))

-- the same with `--journal`
abbrev pub flags_form : App
flags_form = with_rule to_refusal_form (flag (codes "journal"))

-- the same with `PLAN`
abbrev pub plan_form : App
plan_form = with_rule flags_form (required_argument (codes "plan"))

-- `rehearse [--to-refusal] [--journal] PLAN SCRIPT..`
abbrev pub rehearse_command : App
rehearse_command = with_rule plan_form (repeated_argument (codes "script"))

-- `work --hint`
abbrev pub hint_form : App
hint_form = with_rule (new_app (codes "work")) (flag (codes "hint"))

-- the same with `--journal FILE`
abbrev pub journal_form : App
journal_form = with_rule hint_form (value_option (codes "journal"))

-- the same with `--plain`
abbrev pub plain_form : App
plain_form = with_rule journal_form (flag (codes "plain"))

-- the same with `--screen`
abbrev pub screen_form : App
screen_form = with_rule plain_form (flag (codes "screen"))

-- the same with `--script FILE`
abbrev pub files_form : App
files_form = with_rule screen_form (value_option (codes "script"))

-- the same with `PLAN`
abbrev pub line_form : App
line_form = with_rule files_form (required_argument (codes "plan"))

-- the same with `BOX`
abbrev pub box_form : App
box_form = with_rule line_form (required_argument (codes "box"))

-- `work [--hint] [--journal FILE] [--plain] [--screen] [--script FILE] PLAN BOX SCRIPT..`
abbrev pub work_command : App
work_command = with_rule box_form (repeated_argument (codes "others"))

-- a command with `PLAN`
abbrev pub planned_form : Text → App
planned_form name = with_rule (new_app name) (required_argument (codes "plan"))

-- an option with one value or more: `--`, its name, and what it names
abbrev pub list_option : Text → Rule
list_option id = record (value_option id) {
  range = Some (record { start_inclusive = 1; end_inclusive = usize_max });
}

-- `frame PLAN BOX`
abbrev pub frame_command : App
frame_command = with_rule (planned_form (codes "frame")) (required_argument (codes "box"))

-- `graph PLAN OUTPUT`
abbrev pub graph_command : App
graph_command = with_rule (planned_form (codes "graph")) (required_argument (codes "output"))

-- `states PLAN BOX`
abbrev pub walked_form : App
walked_form = with_rule (planned_form (codes "states")) (required_argument (codes "box"))

-- the same with `--limit N`
abbrev pub limit_form : App
limit_form = with_rule walked_form (value_option (codes "limit"))

-- the same with `--never L..`
abbrev pub never_form : App
never_form = with_rule limit_form (list_option (codes "never"))

-- `states PLAN BOX [--limit N] [--never L..] [--reach L..]`
abbrev pub states_command : App
states_command = with_rule never_form (list_option (codes "reach"))

-- `mark PLAN OUTPUT`
abbrev pub marked_form : App
marked_form = with_rule (planned_form (codes "mark")) (required_argument (codes "output"))

-- `mark PLAN OUTPUT [BOX]`
abbrev pub marked_box_form : App
marked_box_form = with_rule marked_form (optional_argument (codes "box"))

-- `mark [--within M] PLAN OUTPUT [BOX]`
abbrev pub mark_command : App
mark_command = with_rule marked_box_form (value_option (codes "within"))

-- `sheet PLAN OUTPUT`
abbrev pub sheet_form : App
sheet_form = with_rule (planned_form (codes "sheet")) (required_argument (codes "output"))

-- `sheet PLAN OUTPUT [BOX]`
abbrev pub sheet_box_form : App
sheet_box_form = with_rule sheet_form (optional_argument (codes "box"))

-- `sheet [--html] PLAN OUTPUT [BOX]`
abbrev pub sheet_command : App
sheet_command = with_rule sheet_box_form (flag (codes "html"))

-- `picture PLAN OUTPUT`
abbrev pub picture_form : App
picture_form = with_rule (planned_form (codes "picture")) (required_argument (codes "output"))

-- `picture PLAN OUTPUT [ENTRY]`
abbrev pub picture_entry_form : App
picture_entry_form = with_rule picture_form (optional_argument (codes "entry"))

-- `picture [--film] PLAN OUTPUT [ENTRY]`
abbrev pub picture_command : App
picture_command = with_rule picture_entry_form (flag (codes "film"))

-- `table PLAN BOX`
abbrev pub table_form : App
table_form = with_rule (planned_form (codes "table")) (required_argument (codes "box"))

-- `table [--html] PLAN BOX`
abbrev pub table_command : App
table_command = with_rule table_form (flag (codes "html"))

-- `rows FILE`
abbrev pub rows_command : App
rows_command = with_rule (new_app (codes "rows")) (required_argument (codes "file"))

-- `json PLAN OUTPUT`
abbrev pub json_form : App
json_form = with_rule (planned_form (codes "json")) (required_argument (codes "output"))

-- `json [--csv] PLAN OUTPUT`
abbrev pub json_command : App
json_command = with_rule json_form (flag (codes "csv"))

-- `serve PLAN`
abbrev pub serve_command : App
serve_command = planned_form (codes "serve")

-- the program with no command; clap is given its words without its own name in front
abbrev pub bare_program : App
bare_program = record (new_app (codes "signalbox")) {
  top = record (new_app (codes "signalbox")).top {
    no_binary_name = true;
    has_version = true;
    arg_required_else_help = true;
    subcommand_required = true;
  };
}

-- the program with the commands that work a line
abbrev pub line_program : App
line_program = with_subcommand (with_subcommand bare_program rehearse_command.top) work_command.top

-- the same with those that draw
abbrev pub picture_program : App
picture_program = with_subcommand (with_subcommand line_program frame_command.top) graph_command.top

-- the same with those that draw a line, and print its registers
abbrev pub register_program : App
register_program = with_subcommand (with_subcommand picture_program picture_command.top) sheet_command.top

-- the same with the one that walks a frame
abbrev pub frame_program : App
frame_program = with_subcommand register_program states_command.top

-- the same with those of locking tables
abbrev pub table_program : App
table_program = with_subcommand (with_subcommand frame_program table_command.top) rows_command.top

-- the same with those for other programs
abbrev pub listed_program : App
listed_program = with_subcommand (with_subcommand table_program json_command.top) serve_command.top

-- the program with all its commands
abbrev pub program : App
program = with_subcommand (with_subcommand listed_program mark_command.top) tidy_command.top
