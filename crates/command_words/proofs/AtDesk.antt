-- The desk serves each of its commands.
use Rattle.std.proofs.Common.{◌≡◌, Some, refl}
use Rattle.command_words.specs.declared.command.DeskCommand.{DeskCommand}
use Rattle.command_words.specs.declared.command.DeskCommand.TheVariants as desk
use Rattle.command_words.specs.Commands.{at_desk, desk_shown}

-- the desk serves each of its commands
pub desk_is_served : (command : DeskCommand) → at_desk (Some (desk_shown command)) ≡ Some (desk_shown command)
desk_is_served (desk.Check plan) = refl
desk_is_served command = refl
