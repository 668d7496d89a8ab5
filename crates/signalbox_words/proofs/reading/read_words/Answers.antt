use Rattle.std.proofs.Common.{Some, None, ap, inr, refl, subst, ◌∙◌}
use Rattle.std.proofs.lemmas.Result.{IfOk-weaker}
use Rattle.clap.specs.Words.{App, HasMatchesOf, found_of, rows_of, takes}
use Rattle.clap.specs.declared.parser.matches.ArgMatches.TheViews.{out-ArgMatches}
use Rattle.signalbox_words.specs.Commands.{bytes_of, shown}
use Rattle.signalbox_words.specs.Table.{program}
use Rattle.signalbox_words.proofs.Asked.{found_command, found_one}
use Rattle.signalbox_words.proofs.Told.{not_taken}
use Rattle.signalbox_words.proofs.reading.read_words.Goals as goal

pub returns : goal.returns
returns c =
    let texts = bytes_of c.args.words.now in
    IfOk-weaker c.told.result _ _
    (λ told tells. not_taken texts _ told
    (λ taken. c.in-Err.ensures.passes (ap (λ (a : App). takes a texts) c.in_ok-program.ensures ∙ taken)) tells)
    c.told.ensures

pub returns-in-Some-2 : goal.returns-in-Some-2
returns-in-Some-2 c =
    let texts = bytes_of c.args.words.now in
    let rows = rows_of (found_of c.in-Some.found.now) in
    found_command program texts c.in-Ok.matches c.in-Some.name.now rows (Some (shown c.in-Some-2.command)) refl
    (subst (λ (a : App). HasMatchesOf a texts c.in-Ok.matches) c.in_ok-program.ensures c.in-Ok.ensures.matches)
    (found_one (out-ArgMatches c.in-Ok.matches).subcommand c.in-Some.name.now rows c.in-Some.ensures.name
    c.in-Some.ensures.rows) (rw c.in-Some-2.is at c.in_ok-command-in-Ok.ensures)

pub returns-in-Ok : goal.returns-in-Ok
returns-in-Ok c =
    let texts = bytes_of c.args.words.now in
    let rows = rows_of (found_of c.in-Some.found.now) in
    inr (found_command program texts c.in-Ok.matches c.in-Some.name.now rows None refl
    (subst (λ (a : App). HasMatchesOf a texts c.in-Ok.matches) c.in_ok-program.ensures c.in-Ok.ensures.matches)
    (found_one (out-ArgMatches c.in-Ok.matches).subcommand c.in-Some.name.now rows c.in-Some.ensures.name
    c.in-Some.ensures.rows) (rw c.in-None.is at c.in_ok-command-in-Ok.ensures))
