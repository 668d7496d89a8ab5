-- The command that clap found in words.
use Rattle.std.proofs.Common.{◌≡◌, true, List, Option, Some, None, ap, sym, ◌∙◌}
use Rattle.std.specs.Prelude.{Box, option_and_then, option_map}
use Rattle.std.specs.Box.{box_value}
use Rattle.clap.specs.Words.{App, HasMatchesOf, Row, Text, is_simple, subcommand_of, subcommand_rows}
use Rattle.clap.specs.Words.{subcommand_rows_of}
use Rattle.clap.specs.declared.parser.matches.ArgMatches.{ArgMatches}
use Rattle.clap.specs.declared.parser.matches.ArgMatches.TheViews.{out-SubCommand}
use Rattle.clap.specs.declared.parser.matches.SubCommand.{SubCommand}
use Rattle.signalbox_words.specs.Commands.{Command, command_read}

-- the one subcommand that clap found has this name, and these values
pub found_one : {Z : Type 0} (found : Option (Box SubCommand Z)) (name : Text) (rows : List Row)
    → Some name ≡ option_map (λ b. (out-SubCommand (box_value b)).name.now) found
    → Some rows ≡ option_map (λ pair. pair.1) (subcommand_rows found) → subcommand_rows found ≡ Some (name, rows)
found_one None name rows named valued = absurd cc
found_one (Some b) name rows named valued =
    let names : name ≡ (out-SubCommand (box_value b)).name.now = cc in
    let values : Some rows ≡ option_map (λ pair. pair.1) (subcommand_rows (Some b)) = valued in
    rw names (ap (option_map (λ (r : List Row). ((out-SubCommand (box_value b)).name.now, r))) (sym values))

-- a command that was read by the name and the values that clap found is the one that the words are
pub found_command : (app : App) (texts : List Text) (found : ArgMatches) (name : Text) (rows : List Row)
    (command : Option Command) → is_simple app ≡ true → HasMatchesOf app texts found
    → subcommand_rows_of found ≡ Some (name, rows) → command ≡ command_read name rows
    → option_and_then (λ pair. command_read pair.0 pair.1) (subcommand_of app texts) ≡ command
found_command app texts found name rows command simple has is read =
    ap (λ (pair : Option (Text × List Row)). option_and_then (λ p. command_read p.0 p.1) pair)
    (sym (has simple).1 ∙ is) ∙ sym read
