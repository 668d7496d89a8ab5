-- Which script a text gives, or its first fault; and the one printed spelling.
use Rattle.std.specs.Prelude.{◌≡◌, ◌≤◌, ℕ, Bool, true, false, nat_le, nat_lt, List, [], ◌∷◌, ◌++◌, length, Result, Ok}
use Rattle.std.specs.Prelude.{Err, if◌then◌else◌, bytes_eq, codes}
use Rattle.std.specs.List.{flat_map}
use Rattle.rail_text.specs.Gives.{◌>>=◌, Fault}
use Rattle.rail_text.specs.Texts.{text_onto}
use Rattle.rail_text.specs.Words.{keyword, one_word, no_word}
use Rattle.rail_text.specs.declared.cause.Cause.{Cause}
use Rattle.rail_text.specs.declared.cause.Cause.TheVariants as causes
use Rattle.line_plan.specs.Plans.{PlanFields, box_name}
use Rattle.line_law.specs.Serial.{AreCalls}
use Rattle.line_law.specs.declared.call.Call.{Call}
use Rattle.script_text.specs.declared.script.Script.{Script}
use Rattle.script_text.specs.declared.draft.Stage.{Stage}
use Rattle.script_text.specs.declared.draft.Stage.TheVariants as stages
use Rattle.script_text.specs.Acts.{act_of}
use Rattle.script_text.specs.Calls.{moment_in, call_text}
pub use Rattle.script_text.specs.Limits.{most_calls, most_script_bytes}
use Rattle.script_text.specs.Drafts.{DraftFields, start}

-- a script of box b: calls that it may make in turn from the start of the day, as many as a script may have
pub record IsScriptOf (plan : PlanFields) (b : ℕ) (script : Script) : Type 0 where
  pub box : script.box_no ≡ b
  pub calls : AreCalls plan b 0 script.calls
  pub few : length script.calls ≤ most_calls

-- ---- what a line of each kind makes of the script so far

-- script NAME: the box for which it is read
unfoldable pub script_onto : DraftFields → List (List ℕ) → Result DraftFields Cause
script_onto draft words = do
  name ← one_word words
  if bytes_eq name (box_name draft.plan draft.box_no) then Ok (record draft { stage = stages.Calls })
      else Err causes.WrongBox

-- a moment that isn't below the one before
abbrev pub not_falling : ℕ → ℕ → Result ℕ Cause
not_falling before moment = if nat_lt moment before then Err causes.MomentFalls else Ok moment

-- a call more: its moment, which doesn't fall, then the rest of the call; too many is tested last
unfoldable pub call_onto : DraftFields → List (List ℕ) → Result DraftFields Cause
call_onto draft words = do
  read ← moment_in draft.plan.version words
  moment ← not_falling draft.moment read
  act ← act_of draft.plan draft.box_no words
  if nat_le most_calls (length draft.calls) then Err causes.TooMany
      else Ok (record draft { moment = moment; calls = draft.calls ++ record { moment = moment; act = act } ∷ [] })

-- end: the script ends
unfoldable pub end_onto : DraftFields → List (List ℕ) → Result DraftFields Cause
end_onto draft words = do
  nothing ← no_word words
  Ok (record draft { stage = stages.Ended })

-- ---- lines

-- the lines that may stand at each stage: first `script`, then calls up to `end`, then none
unfoldable pub stage_onto : Stage → DraftFields → List (List ℕ) → Result DraftFields Cause
stage_onto stages.Script draft words =
    if bytes_eq (keyword words) (codes "script") then script_onto draft words else Err causes.WrongKeyword
stage_onto stages.Calls draft words =
    if bytes_eq (keyword words) (codes "end") then end_onto draft words else call_onto draft words
stage_onto stages.Ended draft words = Err causes.AfterEnd

-- what the words of a line make of the script so far
abbrev pub words_onto : DraftFields → List (List ℕ) → Result DraftFields Cause
words_onto draft words = stage_onto draft.stage draft words

-- `end` has stood
abbrev pub has_ended : Stage → Bool
has_ended stages.Script = false
has_ended stages.Calls = false
has_ended stages.Ended = true

-- the script of box b that the bytes spell, or the first fault
unfoldable pub script_of : PlanFields → ℕ → List ℕ → Result Script Fault
script_of plan b bytes =
    text_onto words_onto (λ draft. has_ended draft.stage) most_script_bytes (start plan b) bytes
    >>= (λ draft. Ok (record { box_no = draft.box_no; calls = draft.calls }))

-- ---- as it is printed

-- the line of a call, with its end
abbrev pub call_line : PlanFields → Call → List ℕ
call_line plan call = call_text plan call ++ 10 ∷ []

-- a script as it is printed: the line of its box, the lines of its calls, and `end`
unfoldable pub script_text : PlanFields → Script → List ℕ
script_text plan script =
    codes "script " ++ box_name plan script.box_no ++ 10 ∷ [] ++ flat_map (λ call. call_line plan call) script.calls
    ++ codes "end\n"
