-- What the words behind a box say that is done there, and the words of a call as it is printed.
use Rattle.std.specs.Prelude.{ℕ, List, [], ◌∷◌, Option, Some, None, Result, Ok, Err, if◌then◌else◌, bytes_eq, codes}
use Rattle.std.specs.Prelude.{slice_get, decimal}
use Rattle.std.specs.List.{join_with_byte}
use Rattle.rail_text.specs.Gives.{◌>>=◌}
use Rattle.rail_text.specs.Words.{keyword, number_in}
use Rattle.rail_text.specs.declared.cause.Cause.{Cause}
use Rattle.rail_text.specs.declared.cause.Cause.TheVariants as causes
use Rattle.token_law.specs.declared.calls.TokenAct.{TokenAct}
use Rattle.token_law.specs.declared.calls.TokenAct.TheVariants as acts
use Rattle.token_law.specs.declared.calls.TokenCall.{TokenCall}
use Rattle.token_text.specs.Limits.{last_train}

-- ---- as they are read

-- the act, where no word stands behind its own
abbrev pub alone : TokenAct → Option (List ℕ) → Result TokenAct Cause
alone act None = Ok act
alone act (Some word) = Err causes.WordCount

-- the word behind the act's, where there is no other
abbrev pub single_word : Option (List ℕ) → Option (List ℕ) → Result (List ℕ) Cause
single_word (Some only) None = Ok only
single_word (Some only) (Some more) = Err causes.WordCount
single_word None more = Err causes.WordCount

-- draw T: a token for a train, from 1
unfoldable pub draw_of : List (List ℕ) → Result TokenAct Cause
draw_of words = do
  word ← single_word (slice_get words 2) (slice_get words 3)
  train ← number_in 1 last_train word
  Ok (acts.Draw train)

-- what the act's word says with the words of the line
unfoldable pub act_by : List (List ℕ) → List ℕ → Result TokenAct Cause
act_by words word =
    if bytes_eq word (codes "draw") then draw_of words
    else if bytes_eq word (codes "give") then alone acts.Give (slice_get words 2)
    else if bytes_eq word (codes "withdraw") then alone acts.Withdraw (slice_get words 2)
    else if bytes_eq word (codes "depart") then alone acts.Depart (slice_get words 2)
    else if bytes_eq word (codes "arrive") then alone acts.Arrive (slice_get words 2)
    else if bytes_eq word (codes "replace") then alone acts.Replace (slice_get words 2)
    else if bytes_eq word (codes "look") then alone acts.Look (slice_get words 2)
    else Err causes.UnknownWord

-- what the act's word, if there is one, says
abbrev pub act_named : List (List ℕ) → Option (List ℕ) → Result TokenAct Cause
act_named words None = Err causes.UnknownWord
act_named words (Some word) = act_by words word

-- what a line says behind its box
unfoldable pub act_of : List (List ℕ) → Result TokenAct Cause
act_of words = act_named words (slice_get words 1)

-- the call that the words of a line spell: its box, then what is done there
unfoldable pub call_of : List (List ℕ) → Result TokenCall Cause
call_of words = do
  box_no ← number_in 0 1 (keyword words)
  act ← act_of words
  Ok (record { box_no = box_no; act = act })

-- ---- as they are printed

-- the words of an act
abbrev pub act_words : TokenAct → List (List ℕ)
act_words acts.Give = codes "give" ∷ []
act_words acts.Withdraw = codes "withdraw" ∷ []
act_words (acts.Draw train) = codes "draw" ∷ decimal train ∷ []
act_words acts.Depart = codes "depart" ∷ []
act_words acts.Arrive = codes "arrive" ∷ []
act_words acts.Replace = codes "replace" ∷ []
act_words acts.Look = codes "look" ∷ []

-- the words of a call: its box, and those of what is done there
abbrev pub call_words : TokenCall → List (List ℕ)
call_words call = decimal call.box_no ∷ act_words call.act

-- a call as it is printed: its words, with one space between each two
abbrev pub token_call_text : TokenCall → List ℕ
token_call_text call = join_with_byte 32 (call_words call)
