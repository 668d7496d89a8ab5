-- What is said of an entry.
use Rattle.std.specs.Prelude.{◌≡◌, ℕ, ◌<◌, Bool, true, false, List, Option, Some, None, length}
use Rattle.reply_sentences.specs.Sentences.{ArePrinting}

-- a sentence where a call is refused, in one line, not empty, of bytes that print; else nothing
abbrev pub IsSaid : Bool → Option (List ℕ) → Type 0
IsSaid is_refused None = is_refused ≡ false
IsSaid is_refused (Some text) = (is_refused ≡ true) × (0 < length text) × ArePrinting text
