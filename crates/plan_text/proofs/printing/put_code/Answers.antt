use Rattle.std.proofs.Common.{◌≡◌, ℕ, ◌-◌, List, None, slice_get, sym, ap, ◌∙◌}
use Rattle.std.proofs.lemmas.Option.{slice_get_past}
use Rattle.plan_text.proofs.Printed.{no_code}
use Rattle.plan_text.proofs.printing.put_code.Goals as goal

pub returns-in-None : goal.returns-in-None
returns-in-None c =
    let past : slice_get c.args.table.now (c.args.number - 1) ≡ None =
    ap (λ (i : ℕ). slice_get c.args.table.now i) (sym c.saturating_sub-place.ensures)
    ∙ ap (λ (table : List (List ℕ)). slice_get table c.saturating_sub-place.result) (sym c.codes.ensures)
    ∙ slice_get_past c.codes.result.now c.saturating_sub-place.result c.in-None.ensures.lookup.3 in
    rw (sym (no_code c.args.table.now (c.args.number - 1) past)) c.put_word.ensures
