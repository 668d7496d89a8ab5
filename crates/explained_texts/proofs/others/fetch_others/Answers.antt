use mathlib.Core.Path.{fun_ext}
use Rattle.std.proofs.Common.{IfOk, subst}
use Rattle.text_fetch.specs.FromTexts.{Held, named}
use Rattle.explained_texts.specs.Others.{AreOthers}
use Rattle.explained_texts.proofs.others.fetch_others.Goals as goal

pub returns-in-Ok-clause-others : goal.returns-in-Ok-clause-others
returns-in-Ok-clause-others g c =
    subst (λ (x : Held). IfOk c.scripts_behind.result (λ texts. AreOthers x texts.plan texts.box_no
    (named c.args.script_names.now) texts.scripts.items)) (fun_ext c.fetch_plan.ensures.same)
    c.scripts_behind.ensures.others

pub returns-in-Err-clause-explained : goal.returns-in-Err-clause-explained
returns-in-Err-clause-explained g c = c.in-Err.ensures.explained (g.S.Shelf.held c.args.shelf.now)
