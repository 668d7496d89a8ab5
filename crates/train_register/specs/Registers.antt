-- The registers of the signalmen, and how they are printed.
use Rattle.std.specs.Prelude.{◌≡◌, ℕ, ◌+◌, ◌<◌, ◌≤◌, List, [], ◌∷◌, ◌++◌, length, slice_index_or, All, codes, decimal}
use Rattle.std.specs.List.{flat_map, range_with_len}
use Rattle.line_plan.specs.Plans.{PlanFields, box_name}
use Rattle.line_law.specs.declared.call.Entry.{Entry}
use Rattle.line_law.specs.History.{part_of}
use Rattle.script_text.specs.Entries.{IsSpelled, told_text}

-- a register: its box, what was done there, in order, and how many more entries it has room for
pub record RegisterFields : Type 0 where
  pub box_no : ℕ
  pub entries : List Entry
  pub spare : ℕ

-- what every register keeps: each entry is one of its box, and the room that is spare is in its memory already
pub record IsRegister (box_no : ℕ) (entries : List Entry) (spare count capacity : ℕ) : Type 0 where
  pub own : All (λ e. e.box_no ≡ box_no) entries
  pub has_room : count + spare ≤ capacity

-- no register
abbrev pub no_register : RegisterFields
no_register = record { box_no = 0; entries = []; spare = 0 }

-- the register in place b; past the last there is none
abbrev pub register_at : List RegisterFields → ℕ → RegisterFields
register_at registers b = slice_index_or registers b no_register

-- the registers of a plan's boxes, one for each in their order: the register of a box has the entries of that box, in
-- order
pub record AreParts (plan : PlanFields) (es : List Entry) (registers : List RegisterFields) : Type 0 where
  pub each : length registers ≡ length plan.boxes
  pub boxes : (b : ℕ) → b < length plan.boxes → (register_at registers b).box_no ≡ b
  pub entries : (b : ℕ) → b < length plan.boxes → (register_at registers b).entries ≡ part_of b es

-- a register that can be printed: the plan has its box, and can spell each of its entries
pub record IsPrintable (plan : PlanFields) (register : RegisterFields) : Type 0 where
  pub box : register.box_no < length plan.boxes
  pub spelled : All (IsSpelled plan) register.entries

-- ---- as they are printed

-- an entry's line in a register: its number there, and what was told: its call, and its reply
unfoldable pub told_line : PlanFields → ℕ → Entry → List ℕ
told_line plan number e = decimal number ++ 32 ∷ told_text plan e ++ 10 ∷ []

-- the entries' lines, numbered from this number on
abbrev pub told_lines : PlanFields → ℕ → List Entry → List ℕ
told_lines plan number [] = []
told_lines plan number (e ∷ es) = told_line plan number e ++ told_lines plan (number + 1) es

-- the register of box b: its name, the number of its entries, and these, numbered from 1
unfoldable pub register_text : PlanFields → ℕ → List Entry → List ℕ
register_text plan b es = codes "register " ++ box_name plan b ++ 32 ∷ decimal (length es) ++ 10 ∷ told_lines plan 1 es

-- the registers of all boxes of a plan, in order: each has the entries of its box
unfoldable pub registers_text : PlanFields → List Entry → List ℕ
registers_text plan es = flat_map (λ b. register_text plan b (part_of b es)) (range_with_len 0 (length plan.boxes))
