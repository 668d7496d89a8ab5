-- The answers that tell a fault, or a count.
use Rattle.std.specs.Prelude.{ℕ, List, Option, codes, option_map}
use Rattle.serde_json.specs.Data.{Data, member, no_members, number, object, string, unsigned}
use Rattle.json_objects.specs.Members.{member_if}
use Rattle.json_objects.specs.Texts.{IsTextOf}
use Rattle.line_requests.specs.declared.fault.Fault.{Fault}
use Rattle.line_requests.specs.Faults.{fault_bytes, fault_line}

-- an error, the line at fault, where there is one, and what is said of it
abbrev pub fault_data : List ℕ → Option ℕ → List ℕ → Data
fault_data word line said =
    object (member (codes "error") (string word)
    (member_if (codes "line") (option_map (λ n. number (unsigned n)) line)
    (member (codes "says") (string said) no_members)))

-- the text of a fault as JSON
pub record IsFaultText (fault : Fault) (text : List ℕ) : Type 0 where
  pub said : List ℕ
  pub is : IsTextOf (fault_data (fault_bytes fault) (fault_line fault) said) text

-- how many entries there are
abbrev pub count_data : ℕ → Data
count_data count = object (member (codes "entries") (number (unsigned count)) no_members)

-- the text of a count as JSON
abbrev pub IsCountText : ℕ → List ℕ → Type 0
IsCountText count text = IsTextOf (count_data count) text
