use Rattle.std.proofs.Common.{◌++◌, string_bytes, flat_map, sym, ap, ◌∙◌, map-id}
use Rattle.std.proofs.lemmas.List.{flat_map_more}
use Rattle.std.proofs.lemmas.Iterator.{YieldsList-from_chars}
use Rattle.std.proofs.lemmas.Iterator.Consumers.{YieldsList-end}
use Rattle.mark_up.specs.Escapes.{escaped, escaped_char}
use Rattle.mark_up.proofs.escapes.put_escaped.Goals as goal

pub loop-c-preserved : goal.loop-c-preserved
loop-c-preserved c =
    c.in_ok-put_escaped_char.ensures ∙ (ap (λ bytes. bytes ++ escaped_char c.in-Some.c) c.loop-c.invariant
    ∙ flat_map_more escaped_char _ c.loop-c.yielded c.in-Some.c)

pub returns : goal.returns
unfolding escaped
returns c =
    let end = YieldsList-end (YieldsList-from_chars c.args.text.now c.utf8.text cc) c.loop-c.yielded _
    c.loop-c.yielded_by _ _ c.in-None.is c.next.ensures.steps in
    c.loop-c.invariant ∙ ap (λ said. string_bytes c.args.out.now ++ flat_map escaped_char said)
    (sym (map-id c.loop-c.yielded) ∙ end.0)
