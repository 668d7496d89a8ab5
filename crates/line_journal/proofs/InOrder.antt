-- Where registers are a journal's own parts, their order is the journal's.
use Rattle.std.proofs.Common.{ℕ, suc, ◌+◌, ◌≡◌, ◌<◌, List, [], ◌∷◌, length, map, refl, ap, subst, ◌∙◌, add-zero, arith}
use Rattle.std.specs.List.{range_with_len}
use Rattle.line_plan.specs.Plans.{IsPlan, PlanFields}
use Rattle.line_law.specs.declared.call.Entry.{Entry}
use Rattle.line_law.specs.History.{part_of}
use Rattle.line_law.specs.States.{opening_state}
use Rattle.train_register.specs.Registers.{AreParts, RegisterFields, register_at}
use Rattle.line_journal.specs.Lists.{HaveEnded}
use Rattle.line_journal.specs.Order.{IsInOrder, IsMergeOf, IsOrder, IsOrderFrom, lists_of, parts_of}
use Rattle.line_journal.proofs.Looping.{order_count, order_legal, order_parts}

-- the entries of registers from a box on are its part and those of the next ones
lists_from : (es : List Entry) (first : ℕ) (registers : List RegisterFields)
    → ((b : ℕ) → b < length registers → (register_at registers b).entries ≡ part_of (first + b) es)
    → lists_of registers ≡ map (λ b. part_of b es) (range_with_len first (length registers))
lists_from es first [] parts = refl
lists_from es first (register ∷ registers) parts =
    let head : register.entries ≡ part_of first es =
    parts 0 (omega arith) ∙ ap (λ (b : ℕ). part_of b es) (add-zero first) in
    let rest : lists_of registers ≡ map (λ b. part_of b es) (range_with_len (first + 1) (length registers)) =
    lists_from es (first + 1) registers (λ b lt. let moved : first + suc b ≡ first + 1 + b = omega arith in
    parts (suc b) (omega arith) ∙ ap (λ (c : ℕ). part_of c es) moved) in
    ap (λ (list : List Entry). list ∷ lists_of registers) head
    ∙ ap (λ (lists : List (List Entry)). part_of first es ∷ lists) rest

pub in_order : (plan : PlanFields) (registers : List RegisterFields) (es : List Entry) → AreParts plan es registers
    → IsOrder plan registers es → IsInOrder plan es
in_order plan registers es parts order =
    let lists : lists_of registers ≡ parts_of plan es =
    lists_from es 0 registers (λ b lt. let at : 0 + b ≡ b = omega arith in
    rw at (parts.entries b (omega (arith, lt, parts.each))))
    ∙ ap (λ (n : ℕ). map (λ b. part_of b es) (range_with_len 0 n)) parts.each in
    subst (λ (ls : List (List Entry)). IsOrderFrom plan (opening_state plan) ls es) lists order

-- an order of the entries of registers is what comes of their merge
pub merge_is : (plan : PlanFields) (registers : List RegisterFields) (es : List Entry) → IsPlan plan
    → HaveEnded plan registers → IsOrder plan registers es → IsMergeOf plan registers es
merge_is plan registers es is ended order =
    let parts = order_parts plan registers es ended order in
    record {
      order = order;
      legal = order_legal plan registers es is ended order;
      parts = parts;
      in_order = in_order plan registers es parts order;
      count = λ history legal others. order_count plan registers history es is legal others order;
    }
