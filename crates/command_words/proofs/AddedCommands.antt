-- A command with one more subcommand, as clap reads it.
use Rattle.std.proofs.Common.{◌≡◌, ◌∙◌, ap, ap₂, false}
use Rattle.clap.specs.Built.{AddsSubcommand}
use Rattle.clap.specs.Words.{App, app_of, with_subcommand}
use Rattle.clap.specs.declared.builder.command.Command.{Command}
use Rattle.clap.specs.declared.builder.command.Command.TheViews.{out-Command}

-- a command with one more subcommand is, as clap reads it, the command above with the shape of the one below behind
-- its others
pub with_added : (old sub new : Command) (above below : App) → AddsSubcommand old sub new
    → (out-Command sub).has_globals ≡ false
    → app_of old ≡ above → app_of sub ≡ below → app_of new ≡ with_subcommand above below.top
with_added old sub new above below added own is_above is_below =
    added.shape own ∙ ap₂ with_subcommand is_above (ap (λ (a : App). a.top) is_below)
