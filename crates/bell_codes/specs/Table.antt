-- The code table: the codes in the order of their numbers, which begin at 1.
use Rattle.std.specs.Prelude.{◌≡◌, ◌≢◌, ℕ, ◌+◌, ◌-◌, ◌<◌, ◌≤◌, true, List, [], ◌∷◌, ◌++◌, length, slice_get}
use Rattle.std.specs.Prelude.{slice_index_or, Option, Some, None, position, bytes_eq}
use Rattle.std.specs.List.{list_all, AllPairs}
use Rattle.std.specs.Option.{option_map}
use Rattle.bell_codes.specs.Codes.{is_code}
use Rattle.bell_codes.specs.declared.fault.AddFault.{AddFault}
use Rattle.bell_codes.specs.declared.fault.AddFault.TheVariants.{Known, Full, NoMemory}

-- the number of a code, where the table has it
unfoldable pub code_number : List (List ℕ) → List ℕ → Option ℕ
code_number codes code = option_map (λ place. place + 1) (position (bytes_eq code) codes)

-- the code under a number of the table
unfoldable pub code_at : List (List ℕ) → ℕ → List ℕ
code_at codes number = slice_index_or codes (number - 1) []

-- the code stands in the table under this number
pub record IsNumber (codes : List (List ℕ)) (code : List ℕ) (number : ℕ) : Type 0 where
  pub low : 1 ≤ number
  pub high : number ≤ length codes
  pub here : slice_get codes (number - 1) ≡ Some code

-- the code was new and there was room for it: it stands at the end, under the next number
pub record AddsCode (old new : List (List ℕ)) (code : List ℕ) (number : ℕ) : Type 0 where
  pub absent : code_number old code ≡ None
  pub room : length old < 200
  pub next : number ≡ length old + 1
  pub codes : new ≡ old ++ code ∷ []

-- why a code was not added: it is there; else the table is full; else memory ran out
abbrev pub IsWhyNotAdded : List (List ℕ) → List ℕ → AddFault → Type 0
IsWhyNotAdded codes code (Known number) = code_number codes code ≡ Some number
IsWhyNotAdded codes code Full = (code_number codes code ≡ None) × (length codes ≡ 200)
IsWhyNotAdded codes code NoMemory = (code_number codes code ≡ None) × (length codes < 200)

-- what every code table meets: at most 200 codes, no two alike
pub record IsCodeTable (codes : List (List ℕ)) : Type 0 where
  pub most : length codes ≤ 200
  pub valid : list_all is_code codes ≡ true
  pub distinct : AllPairs (λ one other. one ≢ other) codes

-- the codes with which every table begins
unfoldable pub opening_codes : List (List ℕ)
opening_codes =
    (1 ∷ [])  -- 1: Call Attention
    ∷ (4 ∷ [])  -- 2: class express, express passenger
    ∷ (3 ∷ 1 ∷ [])  -- 3: class ordinary, ordinary passenger
    ∷ (2 ∷ 2 ∷ 1 ∷ [])  -- 4: class empty, empty coaching stock
    ∷ (2 ∷ 3 ∷ [])  -- 5: class light, light engine
    ∷ (2 ∷ [])  -- 6: Train Entering Section
    ∷ (2 ∷ 1 ∷ [])  -- 7: Train Out of Section
    ∷ (3 ∷ 5 ∷ [])  -- 8: Cancelling
    ∷ (6 ∷ [])  -- 9: Obstruction Danger
    ∷ (16 ∷ [])  -- 10: Testing
    ∷ []
