use Rattle.std.proofs.Common.{◌≡◌, ◌<◌, ◌-◌, arith, get_or, length, subst, sym, take}
use Rattle.mark_up.proofs.Growing.{ended}
use Rattle.mark_up.proofs.page.Page.end.Goals as goal

pub invariant_of-self-2 : goal.invariant_of-self-2
invariant_of-self-2 c =
    let tags = c.self.inside.open_tags.items in
    let tag = c.index-tag.result.now in
    let many : c.len-outer.result ≡ length tags = omega (arith, c.len-outer.ensures, c.self.inside.open_tags.ok) in
    ended _ _ tags c.truncate.new.self.items tag
    (subst (λ page. 1 < length page.open_tags) (sym c.self.view_is) c.requires) c.self.invariant
    (subst (λ n. tag ≡ get_or tags (n - 1) tag) many c.index-tag.ensures)
    (subst (λ n. c.truncate.new.self.items ≡ take (n - 1) tags) many c.truncate.ensures.items)
    c.in_ok-add_end.ensures.ok
