-- A command as it is read from what clap found.
use Rattle.std.specs.Prelude.{List, Option, Some, None, codes, option_map, option_and_then}
use Rattle.clap.specs.Words.{Row, Text, all_of, first_of}
use Rattle.command_words.specs.Commands.{Command, count_of, most_made_trains, most_rounds}
use Rattle.command_words.specs.declared.table.CommandName.{CommandName}
use Rattle.command_words.specs.declared.table.CommandName.TheVariants as names

-- what is made of the plan and of the scripts that were found
abbrev pub on_scripts : (Text → List Text → Command) → List Row → Option Command
on_scripts make rows =
    option_and_then (λ plan. option_map (make plan) (all_of (codes "script") rows)) (first_of (codes "plan") rows)

-- a command of the desk on this plan
abbrev pub on_plan : CommandName → List Row → Text → Option Command
on_plan names.Check rows plan = Some (Command.Check plan)
on_plan names.Tables rows plan = option_map (Command.Tables plan) (first_of (codes "box") rows)
on_plan names.Chart rows plan = option_map (Command.Chart plan) (first_of (codes "box") rows)
on_plan names.Judge rows plan = option_map (Command.Judge plan) (first_of (codes "journal") rows)
on_plan names.Audit rows plan = option_map (Command.Audit plan) (first_of (codes "journal") rows)
on_plan names.Upgrade rows plan = Some (Command.Upgrade plan)
on_plan name rows plan = None

-- a command of the desk on the plan that was found
abbrev pub plan_read : CommandName → List Row → Option Command
plan_read name rows = option_and_then (on_plan name rows) (first_of (codes "plan") rows)

-- a command of the desk
abbrev pub desk_read : CommandName → List Row → Option Command
desk_read names.Token rows = option_map Command.Token (first_of (codes "script") rows)
desk_read name rows = plan_read name rows

-- any command
abbrev pub command_read : CommandName → List Row → Option Command
command_read names.Run rows = on_scripts Command.Run rows
command_read names.Stress rows =
    option_map Command.Stress (option_and_then (count_of most_made_trains) (first_of (codes "trains") rows))
command_read names.Watch rows = option_and_then (λ n. on_scripts (Command.Watch n) rows)
    (option_and_then (count_of most_rounds) (first_of (codes "rounds") rows))
command_read name rows = desk_read name rows
