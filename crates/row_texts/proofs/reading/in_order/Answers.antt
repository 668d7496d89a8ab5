use Rattle.std.proofs.Common.{List, ℕ, [], sym, subst, ◌∙◌}
use Rattle.std.proofs.lemmas.List.{get_or_default}
use Rattle.row_texts.specs.Drafts.{no_number}
use Rattle.row_texts.specs.Places.{AreFiled}
use Rattle.row_texts.proofs.OrderLemmas.{all_rows, list_there, next_rows}
use Rattle.row_texts.proofs.reading.in_order.Goals as goal

pub put_rows_at-requires : goal.put_rows_at-requires
put_rows_at-requires c =
    list_there c.args.entries.now c.deref.result.now c.deref-list-items.result.now c.loop-list.list-index
    c.as_slice.result.now
    (subst (λ (lists : List (List ℕ)). AreFiled no_number c.deref.result.now lists) (sym c.deref-list-items.ensures.value)
    c.in_ok-lists.ensures) (c.deref.ensures.value ∙ c.in_ok-keys.ensures) c.loop-list-test.true
    (c.as_slice.ensures
    ∙ (c.list-item.is
    ∙ get_or_default c.deref-list-items.result.now c.loop-list.list-index c.list-item.result [] c.loop-list-test.true))

pub loop-list-preserved : goal.loop-list-preserved
loop-list-preserved c =
    next_rows c.args.entries.now c.deref.result.now c.deref-list-items.result.now c.loop-list.list-index
    c.as_slice.result.now
    (subst (λ (lists : List (List ℕ)). AreFiled no_number c.deref.result.now lists) (sym c.deref-list-items.ensures.value)
    c.in_ok-lists.ensures) (c.deref.ensures.value ∙ c.in_ok-keys.ensures) c.loop-list-test.true
    (c.as_slice.ensures
    ∙ (c.list-item.is
    ∙ get_or_default c.deref-list-items.result.now c.loop-list.list-index c.list-item.result [] c.loop-list-test.true))
    c.loop-list.rows.items c.put_rows_at.new.rows.items c.loop-list.invariant c.in_ok-put_rows_at.ensures

pub returns : goal.returns
returns c =
    all_rows c.args.entries.now c.deref.result.now c.deref-list-items.result.now c.loop-list.list-index
    c.loop-list.rows.items
    (subst (λ (lists : List (List ℕ)). AreFiled no_number c.deref.result.now lists) (sym c.deref-list-items.ensures.value)
    c.in_ok-lists.ensures) c.loop-list-test.false c.loop-list.auto.list-index-end c.loop-list.invariant
