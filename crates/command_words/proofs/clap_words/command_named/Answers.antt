-- The command is made of its row.
use Rattle.std.proofs.Common.{◌∙◌, ap}
use Rattle.std.proofs.lemmas.Result.{IfOk-weaker}
use Rattle.clap.specs.Words.{App}
use Rattle.command_words.specs.Commands.{CommandRow}
use Rattle.command_words.specs.ClapTable.{with_arguments, with_scripts}
use Rattle.command_words.proofs.clap_words.command_named.Goals as goal

pub returns-clause-shape : goal.returns-clause-shape
returns-clause-shape c =
    IfOk-weaker c.with_scripts.result _ _ (λ all is. is
    ∙ ap (λ (app : App). with_scripts app c.row_of-has_scripts.result.2) c.in_ok-command.ensures.shape
    ∙ ap (λ (row : CommandRow). with_scripts (with_arguments row.word row.arguments) row.has_scripts)
    c.row_of-has_scripts.ensures) c.with_scripts.ensures.shape
