use Rattle.std.proofs.Common.{◌∙◌, ◌++◌, [], ◌∷◌, List, ℕ, ap, codes, sym}
use Rattle.std.proofs.lemmas.List.{append_assoc}
use Rattle.explained_texts.proofs.trouble.trouble_with.Goals as goal

pub returns-in-Ok-clause-refusal : goal.returns-in-Ok-clause-refusal
returns-in-Ok-clause-refusal c = (_, c.in-Ok.ensures.ok)

pub returns-in-Ok-clause-line : goal.returns-in-Ok-clause-line
returns-in-Ok-clause-line c =
    let file = c.args.file.now in
    let what = c.args.what.now in
    let mark = codes ": " in
    c.in-Ok.ensures.ok ∙ ap (λ (rest : List ℕ). codes "signalbox: " ++ rest)
    (sym (append_assoc (file ++ mark) what (10 ∷ []) ∙ append_assoc file mark (what ++ 10 ∷ [])))
