-- Sentences: what is put behind a text.
use Rattle.std.specs.Prelude.{◌≡◌, ℕ, ◌≤◌, ◌<◌, List, ◌++◌, All, length}

-- a byte that prints, from the blank to the tilde
abbrev pub IsPrinting : ℕ → Type 0
IsPrinting byte = (32 ≤ byte) × (byte ≤ 126)

-- a text of bytes that print
abbrev pub ArePrinting : List ℕ → Type 0
ArePrinting text = All (λ byte. IsPrinting byte) text

-- behind what stood there comes one line's text, not empty, of bytes that print
pub record Says (old new : List ℕ) : Type 0 where
  pub said : List ℕ
  pub behind : new ≡ old ++ said
  pub some : 0 < length said
  pub printing : ArePrinting said
