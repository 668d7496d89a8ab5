-- The test mirrors the definition.
use Rattle.std.proofs.Common.{◌≡◌, ◌∙◌, ◌-◌, cond, arith, ap, ap₂, sym, length, None}
use Rattle.std.proofs.lemmas.Grind.{common_steps}
use Rattle.std.specs.Prelude.{string_bytes}
use Rattle.command_words.specs.Commands.{form_named}
use Rattle.command_words.proofs.Forms.{form_is}
use Rattle.command_words.proofs.command.form_of.Goals as goal

pub returns-then-are_plain_words : goal.returns-then-are_plain_words
returns-then-are_plain_words c =
    let is = form_is c.args.words.now c.first-item.result (omega arith) c.first-item.is in
    let count : c.form_named.result ≡ form_named (string_bytes c.first-item.result) (length c.args.words.now - 1) =
    c.form_named.ensures ∙ ap₂ form_named c.as_str.ensures.value (grind (arith, common_steps)) in
    count ∙ ap (λ plain. cond plain (form_named (string_bytes c.first-item.result) (length c.args.words.now - 1)) None)
    (sym c.if-are_plain_words.true ∙ c.are_plain_words.ensures) ∙ is

pub returns-else-are_plain_words : goal.returns-else-are_plain_words
returns-else-are_plain_words c =
    let is = form_is c.args.words.now c.first-item.result (omega arith) c.first-item.is in
    ap (λ plain. cond plain (form_named (string_bytes c.first-item.result) (length c.args.words.now - 1)) None)
    (sym c.if-are_plain_words.false ∙ c.are_plain_words.ensures) ∙ is
