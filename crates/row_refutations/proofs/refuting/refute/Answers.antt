use Rattle.std.proofs.Common.{List, Option, refl, sym, subst}
use Rattle.locking_table.specs.declared.places.End.{End}
use Rattle.row_refutations.specs.Known.{Agrees}
use Rattle.row_refutations.proofs.refuting.refute.Goals as goal

pub returns-in-Some : goal.returns-in-Some
returns-in-Some c = λ yes state hold so.
    c.in-Some.ensures state c.in-Some.field-0 refl hold so
    (subst (λ (known : List (Option End)). Agrees known state) (sym c.deref_mut.ensures.value)
    (c.in_ok-known.ensures state))
