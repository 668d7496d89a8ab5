-- What is put while a man works his box.
use Rattle.std.specs.Prelude.{◌≡◌, ℕ, List, [], ◌∷◌, ◌++◌}
use Rattle.hand_working.specs.declared.manner.Manner.{Manner}
use Rattle.hand_working.specs.Duties.{Doings, Post}
use Rattle.hand_working.specs.Passages.{IsPassage, after_line}

-- what he has done behind these lines
abbrev pub after_lines : Post → Doings → List (List ℕ) → Doings
after_lines post doings [] = doings
after_lines post doings (line ∷ lines) = after_lines post (after_line post doings line) lines

-- the transcript of these lines: one passage for each, in order
abbrev pub IsTranscript : Manner → Post → Doings → List (List ℕ) → List ℕ → Type 0
IsTranscript manner post doings [] text = text ≡ []
IsTranscript manner post doings (line ∷ lines) text =
    (passage rest : List ℕ)
    × IsPassage manner post doings line passage
    × IsTranscript manner post (after_line post doings line) lines rest
    × (text ≡ passage ++ rest)
