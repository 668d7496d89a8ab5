-- The bytes of a line as they are shown, one after another.
use Rattle.std.proofs.Common.{◌≡◌, ℕ, Bool, true, false, cond, ◌&&◌, List, [], ◌∷◌, map, refl, ap, append_assoc}
use Rattle.std.specs.List.{list_all}
use Rattle.rail_text.specs.Forms.{is_printable}
use Rattle.fault_sentences.specs.Explained.{shown_byte}

pub ruleset shown = (append_assoc)

both : (a b : Bool) → a && b ≡ true → (a ≡ true) × (b ≡ true)
both true b e = (refl, e)
both false b e = absurd cc

printed_or_mark : (t : Bool) (b : ℕ) → is_printable b ≡ t → is_printable (cond t b 63) ≡ true
printed_or_mark true b e = e
printed_or_mark false b e = refl

printed_byte : (b : ℕ) → is_printable (shown_byte b) ≡ true
printed_byte b = printed_or_mark (is_printable b) b refl

pub printed_line : (bytes : List ℕ) → list_all is_printable (map shown_byte bytes) ≡ true
printed_line [] = refl
printed_line (b ∷ bs) = rw (printed_byte b) (printed_line bs)

same_byte : (t : Bool) (b : ℕ) → t ≡ true → cond t b 63 ≡ b
same_byte true b e = refl
same_byte false b e = absurd cc

pub same_line : (bytes : List ℕ) → list_all is_printable bytes ≡ true → map shown_byte bytes ≡ bytes
same_line [] e = refl
same_line (b ∷ bs) e = let h = both _ _ e in rw (same_byte (is_printable b) b h.0, same_line bs h.1) refl

pub ruleset shown_laws = (printed_line, same_line)
