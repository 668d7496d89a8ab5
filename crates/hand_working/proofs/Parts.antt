-- The part of a box, entry by entry; and calls alone.
use Rattle.std.proofs.Common.{◌≡◌, ℕ, ◌+◌, ◌<◌, List, [], ◌∷◌, ◌++◌, length, take, get_or, map, ◌==◌, sym, ap, ◌∙◌}
use Rattle.std.proofs.lemmas.List.{map-append, take_more}
use Rattle.std.proofs.lemmas.List.Elements.{filter-append}
use Rattle.line_law.specs.declared.call.Entry.{Entry}
use Rattle.line_law.specs.History.{part_of}

-- one entry more of those of which a part is taken
pub part_next : (b : ℕ) (es : List Entry) (i : ℕ) (d : Entry) → i < length es
    → part_of b (take i es) ++ part_of b (get_or es i d ∷ []) ≡ part_of b (take (i + 1) es)
part_next b es i d lt =
    sym (ap (λ (xs : List Entry). part_of b xs) (take_more es i d lt)
    ∙ filter-append (λ (e : Entry). e.box_no == b) (take i es) (get_or es i d ∷ []))

-- one more of what is mapped
pub mapped_next : {A B : Type 0} (f : A → B) (xs : List A) (i : ℕ) (d : A) → i < length xs
    → map f (take i xs) ++ f (get_or xs i d) ∷ [] ≡ map f (take (i + 1) xs)
mapped_next f xs i d lt =
    sym (ap (map f) (take_more xs i d lt) ∙ map-append f (take i xs) (get_or xs i d ∷ []))
