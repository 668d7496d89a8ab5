-- What is told of an entry.
use Rattle.std.specs.Prelude.{ℕ, Bool, List, Option}

-- What is told of an entry: its number in the journal; its box; its moment and what was done, as a script has them; the
-- reply, as a journal has it; whether what was asked for is done; the lever, the place and the train that the reply
-- names, if it names one; and what is said of a refusal.
pub record EntryFields : Type 0 where
  pub n : ℕ
  pub box_name : List ℕ
  pub at : List ℕ
  pub call : List ℕ
  pub reply : List ℕ
  pub done : Bool
  pub lever : Option ℕ
  pub place : Option (List ℕ)
  pub train : Option (List ℕ)
  pub says : Option (List ℕ)
