-- A call's line: the moment, then the call.
use Rattle.std.specs.Prelude.{ℕ, List, ◌∷◌, Option, Some, None, Result, Ok, Err}
use Rattle.std.specs.List.{join_with_byte}
use Rattle.rail_text.specs.Gives.{◌>>=◌}
use Rattle.rail_text.specs.Lines.{words_of}
use Rattle.rail_text.specs.Words.{keyword}
use Rattle.rail_text.specs.declared.cause.Cause.{Cause}
use Rattle.rail_text.specs.declared.cause.Cause.TheVariants as causes
use Rattle.line_plan.specs.Plans.{PlanFields}
use Rattle.line_law.specs.declared.call.Call.{Call}
use Rattle.script_text.specs.Moments.{moment_of, moment_text}
use Rattle.script_text.specs.Acts.{act_of, act_words}

-- the moment that a word spells, if it spells one
abbrev pub timed : Option ℕ → Result ℕ Cause
timed None = Err causes.BadMoment
timed (Some moment) = Ok moment

-- the moment that begins a line, in the form of the version
unfoldable pub moment_in : ℕ → List (List ℕ) → Result ℕ Cause
moment_in version words = timed (moment_of version (keyword words))

-- the call that the words of a line spell
unfoldable pub call_in : PlanFields → ℕ → List (List ℕ) → Result Call Cause
call_in plan b words = do
  moment ← moment_in plan.version words
  act ← act_of plan b words
  Ok (record { moment = moment; act = act })

-- the call that a line spells
unfoldable pub call_of : PlanFields → ℕ → List ℕ → Result Call Cause
call_of plan b text = call_in plan b (words_of text)

-- the words of a call: its moment, and those of what is done
abbrev pub call_words : PlanFields → Call → List (List ℕ)
call_words plan call = moment_text plan.version call.moment ∷ act_words plan call.act

-- a call as it is printed: its words, with one space between each two
unfoldable pub call_text : PlanFields → Call → List ℕ
call_text plan call = join_with_byte 32 (call_words plan call)
