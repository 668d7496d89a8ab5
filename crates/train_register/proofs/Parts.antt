-- The registers of a line, each with the entries of its box.
use Rattle.std.proofs.Common.{◌≡◌, ℕ, ◌+◌, ◌<◌, List, [], ◌∷◌, ◌++◌, ◌==◌, All, length, suc, ap, ◌∙◌, refl, add-zero}
use Rattle.std.proofs.Common.{arith}
use Rattle.std.specs.List.{flat_map, range_with_len}
use Rattle.std.proofs.lemmas.List.Elements.{All-filter, All-from_get_or}
use Rattle.line_plan.specs.Plans.{PlanFields}
use Rattle.line_law.specs.declared.call.Entry.{Entry}
use Rattle.line_law.specs.History.{part_of}
use Rattle.script_text.specs.Entries.{IsSpelled}
use Rattle.train_register.specs.Registers.{AreParts, IsPrintable, RegisterFields, no_register, register_at}
use Rattle.train_register.specs.Registers.{register_text, registers_text}
use Rattle.train_register.specs.Filling.{AreFilling}

-- when all is entered, each register has the entries of its box
pub filled_parts : (plan : PlanFields) (es : List Entry) (registers : List RegisterFields)
    → length registers ≡ length plan.boxes → AreFilling es [] registers → AreParts plan es registers
filled_parts plan es registers each are =
    record {
      each = each;
      boxes = λ b lt. ap (λ (r : RegisterFields). r.box_no) (are b (omega (arith, each)));
      entries = λ b lt. ap (λ (r : RegisterFields). r.entries) (are b (omega (arith, each)));
    }

-- registers of entries that the line can spell can be printed
pub parts_printable : (plan : PlanFields) (es : List Entry) (registers : List RegisterFields)
    → AreParts plan es registers → All (IsSpelled plan) es → All (IsPrintable plan) registers
parts_printable plan es registers parts spelled =
    All-from_get_or (IsPrintable plan) registers no_register (λ b lt.
    let in_line : b < length plan.boxes = omega (arith, parts.each) in
    record {
      box = rw (parts.boxes b in_line) in_line;
      spelled = rw (parts.entries b in_line) (All-filter (λ (e : Entry). e.box_no == b) (IsSpelled plan) es spelled);
    })

-- registers that are filled by entries of a line can be printed
pub filled_printable : (plan : PlanFields) (es : List Entry) (registers : List RegisterFields)
    → length registers ≡ length plan.boxes → AreFilling es [] registers → All (IsSpelled plan) es
    → All (IsPrintable plan) registers
filled_printable plan es registers each are spelled =
    parts_printable plan es registers (filled_parts plan es registers each are) spelled

-- the texts of registers are those of the boxes, in order
same_texts : (f : RegisterFields → List ℕ) (g : ℕ → List ℕ) (first : ℕ) (registers : List RegisterFields)
    → ((b : ℕ) → b < length registers → f (register_at registers b) ≡ g (first + b))
    → flat_map f registers ≡ flat_map g (range_with_len first (length registers))
same_texts f g first [] same = refl
same_texts f g first (register ∷ registers) same =
    let head : f register ≡ g first = same 0 (omega arith) ∙ ap g (add-zero first) in
    let rest : flat_map f registers ≡ flat_map g (range_with_len (first + 1) (length registers)) =
    same_texts f g (first + 1) registers
    (λ b lt. let moved : first + suc b ≡ first + 1 + b = omega arith in same (suc b) (omega arith) ∙ ap g moved) in
    ap (λ (t : List ℕ). t ++ flat_map f registers) head ∙ ap (λ (t : List ℕ). g first ++ t) rest

-- the registers that are the parts of a journal are printed as the parts are
pub parts_text : (plan : PlanFields) (es : List Entry) (registers : List RegisterFields) → AreParts plan es registers
    → flat_map (λ register. register_text plan register.box_no register.entries) registers ≡ registers_text plan es
unfolding registers_text
parts_text plan es registers parts =
    let texts : flat_map (λ register. register_text plan register.box_no register.entries) registers
    ≡ flat_map (λ b. register_text plan b (part_of b es)) (range_with_len 0 (length registers)) =
    same_texts (λ register. register_text plan register.box_no register.entries)
    (λ b. register_text plan b (part_of b es)) 0 registers (λ b lt.
    let in_line : b < length plan.boxes = omega (arith, parts.each) in
    let at : 0 + b ≡ b = omega arith in
    rw (parts.boxes b in_line, parts.entries b in_line, at) refl) in
    texts ∙ ap (λ (n : ℕ). flat_map (λ b. register_text plan b (part_of b es)) (range_with_len 0 n)) parts.each
