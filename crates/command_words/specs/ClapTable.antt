-- The table of commands as clap sees it.
use Rattle.std.specs.Prelude.{Bool, true, false, List, Some, codes}
use Rattle.std.specs.List.{fold}
use Rattle.clap.specs.Lexer.{usize_max}
use Rattle.clap.specs.Words.{App, Rule, Text, new_app, new_rule, with_rule, with_subcommand}
use Rattle.command_words.specs.Commands.{all_names, row_of}
use Rattle.command_words.specs.declared.table.CommandName.{CommandName}

-- an argument that is required
abbrev pub required_argument : Text → Rule
required_argument id = record (new_rule id) { required = true }

-- an argument that takes one word or more
abbrev pub repeated_argument : Text → Rule
repeated_argument id = record (required_argument id) {
  range = Some (record { start_inclusive = 1; end_inclusive = usize_max });
}

-- a command with one more argument
abbrev pub with_argument : App → Text → App
with_argument app id = with_rule app (required_argument id)

-- a command with these arguments, each required
abbrev pub with_arguments : Text → List Text → App
with_arguments word ids = fold with_argument (new_app word) ids

-- a command with scripts behind its arguments, if it has them
abbrev pub with_scripts : App → Bool → App
with_scripts app true = with_rule app (repeated_argument (codes "script"))
with_scripts app false = app

-- the command of a name
abbrev pub command_named : CommandName → App
command_named name =
    with_scripts (with_arguments (row_of name).word (row_of name).arguments) (row_of name).has_scripts

-- the program; clap is given its words without its own name in front
abbrev pub program : App
program = record (new_app (codes "box_main")) {
  top = record (new_app (codes "box_main")).top { no_binary_name = true };
}

-- the program with one more command
abbrev pub with_command : App → CommandName → App
with_command app name = with_subcommand app (command_named name).top

-- the program with all its commands
abbrev pub all_commands : App
all_commands = fold with_command program all_names
