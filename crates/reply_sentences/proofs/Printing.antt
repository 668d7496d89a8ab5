-- Texts of bytes that print, byte by byte.
use Rattle.std.proofs.Common.{ℕ, zero, suc, ◌<◌, List, [], ◌∷◌, length, drop, get_or, arith}
use Rattle.std.proofs.lemmas.List.Elements.{All-cons}
use Rattle.reply_sentences.specs.Sentences.{ArePrinting, IsPrinting}

-- where a byte prints and all behind it do, all from it on do
pub printing_from : (bytes : List ℕ) (i d : ℕ) → i < length bytes → IsPrinting (get_or bytes i d)
    → ArePrinting (drop (suc i) bytes) → ArePrinting (drop i bytes)
printing_from [] i d lt here rest = absurd (omega (arith, lt))
printing_from (byte ∷ bytes) zero d lt here rest = All-cons IsPrinting byte bytes here rest
printing_from (byte ∷ bytes) (suc i) d lt here rest = printing_from bytes i d (omega (arith, lt)) here rest
