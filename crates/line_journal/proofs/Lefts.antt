-- The lists of entries that remain.
use Rattle.std.proofs.Common.{◌≡◌, ℕ, zero, suc, ◌+◌, ◌<◌, List, [], ◌∷◌, length, drop, map, set, refl, ap, ◌∙◌}
use Rattle.std.proofs.Common.{arith}
use Rattle.std.proofs.lemmas.List.{map-set}
use Rattle.line_plan.specs.Plans.{PlanFields}
use Rattle.line_law.specs.declared.call.Entry.{Entry}
use Rattle.line_law.specs.History.{part_of}
use Rattle.train_register.specs.Registers.{AreParts, RegisterFields, register_at}
use Rattle.line_journal.specs.Order.{list_at, lists_of, placed_some}

-- one more entry is dropped
pub drop_next : (n : ℕ) (list : List Entry) → drop (n + 1) list ≡ drop 1 (drop n list)
drop_next zero list = refl
drop_next (suc n) [] = let e : suc n + 1 ≡ suc (n + 1) = omega arith in rw e refl
drop_next (suc n) (x ∷ list) = let e : suc n + 1 ≡ suc (n + 1) = omega arith in rw e (drop_next n list)

-- the entries of a register
pub lists_at : (registers : List RegisterFields) (b : ℕ) → list_at (lists_of registers) b
    ≡ (register_at registers b).entries
lists_at [] b = refl
lists_at (register ∷ registers) zero = refl
lists_at (register ∷ registers) (suc b) = lists_at registers b

-- of registers that are the parts of a history
pub lists_part : (plan : PlanFields) (es : List Entry) (registers : List RegisterFields) → AreParts plan es registers
    → (b : ℕ) → b < length plan.boxes → list_at (lists_of registers) b ≡ part_of b es
lists_part plan es registers parts b at = lists_at registers b ∙ parts.entries b at

-- so many entries of one list are placed
pub lists_set : {A : Type 0} (f : A → List Entry) (lists : List A) (b n : ℕ) (rest : A) (left : List (List Entry))
    → map f lists ≡ left → f rest ≡ drop n (list_at left b) → map f (set lists b rest) ≡ placed_some left b n
lists_set {A} f lists b n rest left same behind =
    map-set f lists b rest ∙ ap (λ (ls : List (List Entry)). set ls b (f rest)) same
    ∙ ap (λ (l : List Entry). set left b l) behind
