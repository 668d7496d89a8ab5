use Rattle.std.proofs.Common.{◌≡◌, ℕ, List, ◌++◌, sym, subst, string_bytes}
use Rattle.std.specs.Prelude.{OnOk, codes}
use Rattle.box_marking.specs.declared.lapse.Lapse.{Lapse}
use Rattle.box_marking.specs.Texts.{lapse_text}
use Rattle.box_marking.proofs.printing.put_lapse.Goals as goal

pub returns-in-LeftOn : goal.returns-in-LeftOn
returns-in-LeftOn c =
    subst (λ (lapse : Lapse). OnOk c.put_both.result (string_bytes c.put_both.new.out
    ≡ string_bytes c.args.out.now ++ lapse_text c.args.plan.now lapse)) (sym c.in-LeftOn.is)
    (subst (λ (word : List ℕ). OnOk c.put_both.result (string_bytes c.put_both.new.out
    ≡ string_bytes c.args.out.now ++ (codes "the commutator was left at " ++ word))) c.position_word.ensures
    c.put_both.ensures)

pub returns-in-Late : goal.returns-in-Late
returns-in-Late c =
    subst (λ (lapse : Lapse). OnOk c.put_numbered-in-Late.result (string_bytes c.put_numbered-in-Late.new.out
    ≡ string_bytes c.args.out.now ++ lapse_text c.args.plan.now lapse)) (sym c.in-Late.is)
    c.put_numbered-in-Late.ensures
