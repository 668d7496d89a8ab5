-- Words with spaces between them, one list of words behind another.
use Rattle.std.proofs.Common.{◌≡◌, ℕ, List, [], ◌∷◌, ◌++◌, refl, ap, ◌∙◌, sym, append_assoc}
use Rattle.locking_table.specs.Words.{spaced}

pub spaced-append : (ws vs : List (List ℕ)) → spaced (ws ++ vs) ≡ spaced ws ++ spaced vs
spaced-append [] vs = refl
spaced-append (w ∷ ws) vs =
    ap (λ (b : List ℕ). (32 ∷ w) ++ b) (spaced-append ws vs) ∙ sym (append_assoc (32 ∷ w) (spaced ws) (spaced vs))

pub ruleset print_rules = (spaced-append)
