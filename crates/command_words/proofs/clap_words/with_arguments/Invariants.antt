use Rattle.std.proofs.Common.{◌≡◌, drop, false, map}
use Rattle.std.specs.List.{fold}
use Rattle.clap.specs.Words.{app_of}
use Rattle.clap.specs.declared.builder.command.Command.TheViews.{out-Command}
use Rattle.command_words.specs.ClapTable.{with_argument, with_arguments}
use Rattle.command_words.proofs.clap_words.with_arguments.Given as goal

abbrev pub invariant-loop-id : goal.invariant-loop-id
invariant-loop-id l = record {
  shape : fold with_argument (app_of l.command) (map (λ id. id.now) (drop l.id-index l.arguments))
      ≡ with_arguments l.word (map (λ id. id.now) l.arguments);
  own : (out-Command l.command).has_globals ≡ false;
}
