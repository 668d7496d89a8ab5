-- A man works his box: which lines were given, what he has done behind them, and what was put.
use Rattle.std.specs.Prelude.{◌≡◌, ℕ, false, List, [], ◌∷◌, ◌++◌, Option}
use Rattle.rail_text.specs.Bytes.{appended}
use Rattle.hand_working.specs.declared.manner.Manner.{Manner}
use Rattle.typed_words.specs.Typed.{line_read}
use Rattle.hand_working.specs.Duties.{Doings, Post, without_last}
use Rattle.hand_working.specs.Endings.{IsEnding}
use Rattle.hand_working.specs.Passages.{IsPassage, after_line, is_end, opening_text}
use Rattle.hand_working.specs.Transcripts.{IsTranscript, after_lines}

-- something was put, or nothing
abbrev pub Grows : Option (List ℕ) → Option (List ℕ) → Type 0
Grows old new = (text : List ℕ) × (new ≡ appended old text)

-- the passage of a line is put
abbrev pub PutsPassage : Manner → Post → Doings → List ℕ → Option (List ℕ) → Option (List ℕ) → Type 0
PutsPassage manner post doings line old new =
    (passage : List ℕ) × IsPassage manner post doings line passage × (new ≡ appended old passage)

-- he goes off duty by none of these lines
abbrev pub NoneEnds : Post → Doings → List (List ℕ) → Type 0
NoneEnds post doings [] = Unit {0}
NoneEnds post doings (line ∷ lines) =
    (is_end (line_read post.plan post.box_no doings.moment line) ≡ false)
    × NoneEnds post (after_line post doings line) lines

-- Some lines were given, from one list of given lines to another; what he has done is what they make of it; their
-- transcript was put; and he goes off duty by none of them but the last.
pub record AreLines (manner : Manner) (post : Post) (before after : Doings) (given now : List (List ℕ))
    (old new : Option (List ℕ)) : Type 0 where
  pub lines : List (List ℕ)
  pub text : List ℕ
  pub are : now ≡ given ++ lines
  pub doings : after ≡ after_lines post before lines
  pub transcript : IsTranscript manner post before lines text
  pub onward : NoneEnds post before (without_last lines)
  pub taken : new ≡ appended old text

-- the same, and he may go on: he has gone off duty by none of them
pub record AreOnward (manner : Manner) (post : Post) (before after : Doings) (given now : List (List ℕ))
    (old new : Option (List ℕ)) : Type 0 where
  pub are : AreLines manner post before after given now old new
  pub none : NoneEnds post before are.lines

-- He comes on duty, and is told what he notices of what the others have done; some lines are given, and their
-- transcript put; and he goes off duty.
pub record IsWorked (manner : Manner) (post : Post) (before after : Doings) (given now : List (List ℕ))
    (old new : Option (List ℕ)) : Type 0 where
  pub begun : Option (List ℕ)
  pub opening : begun ≡ appended old (opening_text manner post before)
  pub middle : Option (List ℕ)
  pub lines : AreLines manner post before after given now begun middle
  pub ending : List ℕ
  pub is_ending : IsEnding post after ending
  pub taken : new ≡ appended middle ending
