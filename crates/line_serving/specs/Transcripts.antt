-- What is put for the lines of a source.
use Rattle.std.specs.Prelude.{◌≡◌, ◌⊎◌, ℕ, false, List, [], ◌∷◌, ◌++◌, All, Option, option_to_list, take}
use Rattle.rail_text.specs.Bytes.{appended}
use Rattle.line_service.specs.Answers.{IsAnswer, after_line, ends}
use Rattle.line_service.specs.Services.{ServiceFields}
use Rattle.line_serving.specs.Sources.{given_all}

-- what these lines make of a service
abbrev pub after_lines : ServiceFields → List (List ℕ) → ServiceFields
after_lines service [] = service
after_lines service (line ∷ lines) = after_lines (after_line service line) lines

-- the transcript of these lines: for each its answer, as one line, in order
abbrev pub IsTranscript : ServiceFields → List (List ℕ) → List ℕ → Type 0
IsTranscript service [] text = text ≡ []
IsTranscript service (line ∷ lines) text =
    (answer rest : List ℕ)
    × IsAnswer service line answer
    × IsTranscript (after_line service line) lines rest
    × (text ≡ answer ++ 10 ∷ rest)

-- ---- one line

-- a part of a line with its end is put, if not all of it
abbrev pub PutsPart : Option (List ℕ) → Option (List ℕ) → List ℕ → Type 0
PutsPart old new line = (n : ℕ) × (new ≡ appended old (take n line))

-- a line is answered: its answer is put, and the service is what it makes of it
pub record Answers (before : ServiceFields) (line : List ℕ) (after : ServiceFields) (old new : Option (List ℕ))
    : Type 0 where
  pub answer : List ℕ
  pub is : IsAnswer before line answer
  pub service : after ≡ after_line before line
  pub taken : new ≡ appended old (answer ++ 10 ∷ [])

-- it isn't, and changes nothing, or a part of its answer is put
pub record AnswersPart (before : ServiceFields) (line : List ℕ) (after : ServiceFields) (old new : Option (List ℕ))
    : Type 0 where
  pub done : ((after ≡ before) × (new ≡ old))
      ⊎ ((answer : List ℕ) × IsAnswer before line answer × (after ≡ after_line before line)
      × PutsPart old new (answer ++ 10 ∷ []))

-- ---- lines, one after another

-- a line that doesn't ask to end
abbrev pub IsOnward : List ℕ → Type 0
IsOnward line = ends line ≡ false

-- These lines were given, and their transcript put. What is told of lines and bytes is so where the source and the sink
-- tell them.
pub record AreServed (before after : ServiceFields) (given now : Option (List (List ℕ))) (old new : Option (List ℕ))
    (lines : List (List ℕ)) : Type 0 where
  pub text : List ℕ
  pub are : now ≡ given_all given lines
  pub service : after ≡ after_lines before lines
  pub transcript : IsTranscript before lines text
  pub taken : new ≡ appended old text

-- Some lines were given, none of which asks to end, and their transcript put.
pub record AreOnward (before after : ServiceFields) (given now : Option (List (List ℕ))) (old new : Option (List ℕ))
    : Type 0 where
  pub lines : List (List ℕ)
  pub onward : All IsOnward lines
  pub are : AreServed before after given now old new lines

-- Some lines were given, and their transcript put; none of them asks to end but the last, if it does.
pub record IsServed (before after : ServiceFields) (given now : Option (List (List ℕ))) (old new : Option (List ℕ))
    : Type 0 where
  pub front : List (List ℕ)
  pub last : Option (List ℕ)
  pub onward : All IsOnward front
  pub are : AreServed before after given now old new (front ++ option_to_list last)

-- The same, but it was cut short: of the transcript a front part was put, and a line more may have been given, which
-- made nothing of the service.
pub record IsCutShort (before after : ServiceFields) (given now : Option (List (List ℕ))) (old new : Option (List ℕ))
    : Type 0 where
  pub front : List (List ℕ)
  pub last : Option (List ℕ)
  pub unanswered : Option (List ℕ)
  pub text : List ℕ
  pub part : ℕ
  pub onward : All IsOnward front
  pub are : now ≡ given_all given ((front ++ option_to_list last) ++ option_to_list unanswered)
  pub service : after ≡ after_lines before (front ++ option_to_list last)
  pub transcript : IsTranscript before (front ++ option_to_list last) text
  pub taken : new ≡ appended old (take part text)
