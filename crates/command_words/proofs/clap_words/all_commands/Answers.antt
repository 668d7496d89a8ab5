-- The loop folds the names.
use Rattle.std.proofs.Common.{◌∙◌, ◌+◌, ap, sym, drop}
use Rattle.std.proofs.lemmas.List.{at_drop_more}
use Rattle.std.specs.List.{fold}
use Rattle.clap.specs.Words.{app_of}
use Rattle.command_words.specs.Commands.{all_names}
use Rattle.command_words.specs.ClapTable.{with_command}
use Rattle.command_words.specs.declared.table.CommandName.TheVariants as names
use Rattle.command_words.proofs.clap_words.all_commands.Goals as goal

pub loop-name-preserved : goal.loop-name-preserved
loop-name-preserved c =
    let rest = drop (c.loop-name.name-index + 1) all_names in
    ap (λ app. fold with_command app rest) c.in_ok-commands.ensures
    ∙ sym (at_drop_more (fold with_command (app_of c.loop-name.commands)) all_names c.loop-name.name-index names.Run
    c.loop-name-test.true)
    ∙ c.loop-name.invariant
