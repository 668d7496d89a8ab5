use Rattle.std.proofs.Common.{ℕ, List, ◌++◌, ap, append_assoc, decimal, string_bytes, ◌∙◌}
use Rattle.std.proofs.lemmas.Result.{on_ok_weaker}
use Rattle.std.specs.Prelude.{codes}
use Rattle.hand_working.specs.Endings.{number_text}
use Rattle.hand_working.proofs.ending.put_rule_number.Goals as goal

pub returns : goal.returns
unfolding number_text
returns c =
    let words : List ℕ = codes "against rule " in
    on_ok_weaker c.put_number.result
    (λ put.
    put ∙ ap (λ (front : List ℕ). front ++ decimal c.number_of.result) c.in_ok-push_str.ensures.bytes
    ∙ append_assoc (string_bytes c.args.out.now) words (decimal c.number_of.result)
    ∙ ap (λ (n : ℕ). string_bytes c.args.out.now ++ (words ++ decimal n)) c.number_of.ensures)
    c.put_number.ensures
