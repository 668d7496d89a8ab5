-- Which token script a text gives, or its first fault.
use Rattle.std.specs.Prelude.{◌≤◌, ℕ, Bool, true, false, nat_le, List, [], ◌∷◌, ◌++◌, length, Option, Some, None}
use Rattle.std.specs.Prelude.{Result, Ok, Err, if◌then◌else◌, bytes_eq, codes, slice_get}
use Rattle.rail_text.specs.Gives.{◌>>=◌, Fault}
use Rattle.rail_text.specs.Texts.{text_onto}
use Rattle.rail_text.specs.Words.{keyword, one_word, no_word, number_in}
use Rattle.rail_text.specs.declared.cause.Cause.{Cause}
use Rattle.rail_text.specs.declared.cause.Cause.TheVariants as causes
use Rattle.token_law.specs.History.{AreTokenCalls}
use Rattle.token_law.specs.States.{most_tokens}
use Rattle.token_law.specs.declared.calls.TokenCall.{TokenCall}
use Rattle.token_text.specs.declared.draft.Stage.{Stage}
use Rattle.token_text.specs.declared.draft.Stage.TheVariants as stages
use Rattle.token_text.specs.Acts.{call_of}
pub use Rattle.token_text.specs.Limits.{most_calls, most_script_bytes}
use Rattle.token_text.specs.Drafts.{TokenDraftFields, start}

-- the tokens at each box at the opening, and the calls in order
pub record TokenScriptFields : Type 0 where
  pub at_0 : ℕ
  pub at_1 : ℕ
  pub calls : List TokenCall

-- a token script: no more tokens at each box than an instrument has at the opening, and calls that may be made, no more
-- than a script may have
pub record IsTokenScript (script : TokenScriptFields) : Type 0 where
  pub few_0 : script.at_0 ≤ most_tokens
  pub few_1 : script.at_1 ≤ most_tokens
  pub calls : AreTokenCalls script.calls
  pub few : length script.calls ≤ most_calls

-- ---- what a line of each kind makes of the script so far

-- token 1: the version
unfoldable pub version_onto : TokenDraftFields → List (List ℕ) → Result TokenDraftFields Cause
version_onto draft words = do
  word ← one_word words
  version ← number_in 1 1 word
  Ok (record draft { stage = stages.Tokens })

-- the two words behind the first, where there is no other
abbrev pub pair_of : Option (List ℕ) → Option (List ℕ) → Option (List ℕ) → Result (List ℕ × List ℕ) Cause
pair_of (Some first) (Some second) None = Ok (first, second)
pair_of (Some first) (Some second) (Some more) = Err causes.WordCount
pair_of (Some first) None more = Err causes.WordCount
pair_of None second more = Err causes.WordCount

-- tokens A B: the tokens at each box
unfoldable pub tokens_onto : TokenDraftFields → List (List ℕ) → Result TokenDraftFields Cause
tokens_onto draft words = do
  both ← pair_of (slice_get words 1) (slice_get words 2) (slice_get words 3)
  at_0 ← number_in 0 most_tokens both.0
  at_1 ← number_in 0 most_tokens both.1
  Ok (record draft { stage = stages.Calls; at_0 = at_0; at_1 = at_1 })

-- a call more: too many is tested last
unfoldable pub call_onto : TokenDraftFields → List (List ℕ) → Result TokenDraftFields Cause
call_onto draft words = do
  call ← call_of words
  if nat_le most_calls (length draft.calls) then Err causes.TooMany
      else Ok (record draft { calls = draft.calls ++ call ∷ [] })

-- end: the script ends
unfoldable pub end_onto : TokenDraftFields → List (List ℕ) → Result TokenDraftFields Cause
end_onto draft words = do
  nothing ← no_word words
  Ok (record draft { stage = stages.Ended })

-- ---- lines

-- the lines that may stand at each stage: `token`, then `tokens`, then calls up to `end`, then none
unfoldable pub stage_onto : Stage → TokenDraftFields → List (List ℕ) → Result TokenDraftFields Cause
stage_onto stages.Version draft words =
    if bytes_eq (keyword words) (codes "token") then version_onto draft words else Err causes.WrongKeyword
stage_onto stages.Tokens draft words =
    if bytes_eq (keyword words) (codes "tokens") then tokens_onto draft words else Err causes.WrongKeyword
stage_onto stages.Calls draft words =
    if bytes_eq (keyword words) (codes "end") then end_onto draft words else call_onto draft words
stage_onto stages.Ended draft words = Err causes.AfterEnd

-- what the words of a line make of the script so far
abbrev pub words_onto : TokenDraftFields → List (List ℕ) → Result TokenDraftFields Cause
words_onto draft words = stage_onto draft.stage draft words

-- `end` has stood
abbrev pub has_ended : Stage → Bool
has_ended stages.Version = false
has_ended stages.Tokens = false
has_ended stages.Calls = false
has_ended stages.Ended = true

-- the script of a draft
abbrev pub script_from : TokenDraftFields → TokenScriptFields
script_from draft = record { at_0 = draft.at_0; at_1 = draft.at_1; calls = draft.calls }

-- the token script that the bytes spell, or the first fault
unfoldable pub token_script_of : List ℕ → Result TokenScriptFields Fault
token_script_of bytes =
    text_onto words_onto (λ draft. has_ended draft.stage) most_script_bytes start bytes
    >>= (λ draft. Ok (script_from draft))
