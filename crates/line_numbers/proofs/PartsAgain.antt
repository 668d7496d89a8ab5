-- The parts of calls, replies and things are found again from their numbers.
use Rattle.std.proofs.Common.{◌≡◌, ◌≢◌, ℕ, ◌<◌, Bool, true, false, Option, Some, None, refl, ap, arith, eqb-true}
use Rattle.std.specs.Prelude.{◌==◌, if◌then◌else◌}
use Rattle.block_words.specs.Instruments.{position_code}
use Rattle.block_words.specs.declared.Position.{Position}
use Rattle.block_words.specs.declared.Position.TheVariants.{Normal, LineClear, TrainOnLine}
use Rattle.block_words.specs.declared.Way.{Way}
use Rattle.block_words.specs.declared.Way.TheVariants.{Up, Down}
use Rattle.block_words.specs.declared.WelwynState.{WelwynState}
use Rattle.block_words.specs.declared.WelwynState.TheVariants.{Ready, Given, Berthed}
use Rattle.line_law.specs.Replies.{mark_number, way_number, welwyn_number}
use Rattle.line_numbers.specs.Parts.{code_of, mark_of, number_if, position_of, some_if, state_of, way_of}

pub way_again : (way : Way) → way_of (way_number way) ≡ way
way_again Up = refl
way_again Down = refl

pub position_again : (position : Position) → position_of (position_code position) ≡ position
position_again Normal = refl
position_again LineClear = refl
position_again TrainOnLine = refl

pub state_again : (state : WelwynState) → state_of (welwyn_number state) ≡ state
state_again Ready = refl
state_again Given = refl
state_again Berthed = refl

pub mark_again : (mark : Bool) → mark_of (mark_number mark) ≡ mark
mark_again true = refl
mark_again false = refl

pub code_again : (code : ℕ) → code < 256 → code_of code ≡ code
code_again code small = omega arith

-- a number that isn't 0 is some number
some_again : (n : ℕ) → Some n ≢ Some 0 → some_if n ≡ Some n
some_again n not_zero = by (n == 0) refl where
  by : (b : Bool) → (n == 0) ≡ b → (if b then None else Some n) ≡ Some n
  by true e = absurd (not_zero (ap (λ (m : ℕ). Some m) (eqb-true n 0 e)))
  by false e = refl

pub number_again : (number : Option ℕ) → number ≢ Some 0 → some_if (number_if number) ≡ number
number_again None not_zero = refl
number_again (Some n) not_zero = some_again n not_zero
