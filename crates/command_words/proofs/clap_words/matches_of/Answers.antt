-- clap takes words that have the form of a command, and what it finds is the command.
use Rattle.std.proofs.Common.{arith, ap, ◌∙◌}
use Rattle.std.specs.Prelude.{option_and_then, option_map}
use Rattle.clap.specs.Words.{App, is_simple, subcommand_of, takes}
use Rattle.command_words.specs.Commands.{bytes_of}
use Rattle.command_words.specs.ClapReads.{command_read}
use Rattle.command_words.proofs.Enters.{table_is_simple}
use Rattle.command_words.proofs.Forms.{words_read}
use Rattle.command_words.proofs.clap_words.matches_of.Goals as goal

pub unreachable-requires : goal.unreachable-requires
unreachable-requires c =
    let reads = words_read c.args.words.now c.args.name c.requires (omega arith) in
    let passes =
    c.in-Err.ensures.passes
    (ap (λ (a : App). takes a (bytes_of c.args.words.now)) c.in_ok-commands.ensures ∙ reads.taken) in
    c.in_default.not-OutOfMemory (c.kind.ensures ∙ passes)

pub returns-in-Ok : goal.returns-in-Ok
returns-in-Ok c =
    let reads = words_read c.args.words.now c.args.name c.requires (omega arith) in
    let is = c.in_ok-commands.ensures in
    let matches = c.in-Ok.ensures.matches (ap is_simple is ∙ table_is_simple) in
    ap (λ rows. option_and_then (command_read c.args.name) (option_map (λ p. p.1) rows))
    (matches.1 ∙ ap (λ (a : App). subcommand_of a (bytes_of c.args.words.now)) is) ∙ reads.found
