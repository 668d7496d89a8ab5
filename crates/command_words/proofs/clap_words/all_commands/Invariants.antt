use Rattle.std.proofs.Common.{◌≡◌, drop}
use Rattle.std.specs.List.{fold}
use Rattle.clap.specs.Words.{app_of}
use Rattle.command_words.specs.Commands.{all_names}
use Rattle.command_words.specs.ClapTable.{all_commands, with_command}
use Rattle.command_words.proofs.clap_words.all_commands.Given as goal

abbrev pub invariant-loop-name : goal.invariant-loop-name
invariant-loop-name l = fold with_command (app_of l.commands) (drop l.name-index all_names) ≡ all_commands
