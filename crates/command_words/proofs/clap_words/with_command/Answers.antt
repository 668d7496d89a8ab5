-- The command is added to those that the program has.
use Rattle.std.proofs.Common.{refl}
use Rattle.std.proofs.lemmas.Result.{IfOk-weaker}
use Rattle.command_words.proofs.AddedCommands.{with_added}
use Rattle.command_words.proofs.clap_words.with_command.Goals as goal

pub returns : goal.returns
returns c =
    IfOk-weaker c.subcommand.result _ _
    (λ all added. with_added _ _ _ _ _ added c.in_ok-command.ensures.own refl c.in_ok-command.ensures.shape)
    c.subcommand.ensures
