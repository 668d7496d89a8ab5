-- What a typed line comes to.
use Rattle.std.specs.Prelude.{◌≡◌, ◌≤◌, ℕ, List, [], ◌∷◌, Option, Some, None, Result, Ok, Err, if◌then◌else◌}
use Rattle.std.specs.Prelude.{string_bytes}
use Rattle.std.specs.List.{join_with_byte}
use Rattle.rail_text.specs.Gives.{◌>>=◌}
use Rattle.rail_text.specs.declared.cause.Cause.{Cause}
use Rattle.rail_text.specs.declared.cause.Cause.TheVariants as causes
use Rattle.line_plan.specs.Plans.{PlanFields}
use Rattle.line_law.specs.declared.call.Call as calls
use Rattle.script_text.specs.Calls.{call_of, timed}
use Rattle.script_text.specs.Moments.{moment_of, moment_text}
use Rattle.script_text.specs.Scripts.{not_falling}
use Rattle.script_text.specs.Spelled.{SpellsCall}
use Rattle.typed_words.specs.declared.table.Command.{Command}
use Rattle.typed_words.specs.declared.table.Command.TheVariants as commands
use Rattle.typed_words.specs.declared.table.WordKind.TheVariants as kinds
use Rattle.typed_words.specs.declared.typed.Typed.{Typed}
use Rattle.typed_words.specs.declared.typed.Typed.TheVariants as typed
use Rattle.typed_words.specs.Table.{command_of}
use Rattle.typed_words.specs.Chosen.{Misread, Row, meant}
use Rattle.typed_words.specs.Gives.{shown_misread}
use Rattle.typed_words.specs.Lines.{call_in_full, full_line, is_timed, timed_in_full, typed_words}

-- What a line comes to: a call; a command, `at` with its moment and `save` with the name of its file; nothing; or what
-- isn't understood in it.
pub data TypedLine : Type 0 where
  Call : calls.Call → TypedLine
  At : ℕ → TypedLine
  Look : TypedLine
  May : TypedLine
  Why : TypedLine
  Codes : TypedLine
  Undo : TypedLine
  Book : TypedLine
  Save : List ℕ → TypedLine
  Help : TypedLine
  End : TypedLine
  Nothing : TypedLine
  NotUnderstood : Misread → TypedLine

-- the same of the program's value, with names and words as their bytes
abbrev pub shown : Typed → TypedLine
shown (typed.Call call) = TypedLine.Call call
shown (typed.At moment) = TypedLine.At moment
shown typed.Look = TypedLine.Look
shown typed.May = TypedLine.May
shown typed.Why = TypedLine.Why
shown typed.Codes = TypedLine.Codes
shown typed.Undo = TypedLine.Undo
shown typed.Book = TypedLine.Book
shown (typed.Save name) = TypedLine.Save (string_bytes name)
shown typed.Help = TypedLine.Help
shown typed.End = TypedLine.End
shown typed.Nothing = TypedLine.Nothing
shown (typed.NotUnderstood what) = TypedLine.NotUnderstood (shown_misread what)

-- a cause is what isn't understood
abbrev pub or_refused : {X : Type 0} → Result X Cause → Result X Misread
or_refused (Ok x) = Ok x
or_refused (Err cause) = Err (Misread.Refused cause)

-- the moment that a word spells, where it isn't below the last one
unfoldable pub later_moment : ℕ → ℕ → List ℕ → Result ℕ Cause
later_moment version last word = timed (moment_of version word) >>= not_falling last

-- the call that a script's reader reads in a line in full
unfoldable pub call_read : PlanFields → ℕ → List ℕ → List (List ℕ) → Result TypedLine Misread
call_read plan b moment words =
    or_refused (call_of plan b (join_with_byte 32 (moment ∷ words))) >>= (λ call. Ok (TypedLine.Call call))

-- the one word behind a command's word
abbrev pub the_one : List (List ℕ) → Result (List ℕ) Cause
the_one [] = Err causes.WordCount
the_one (word ∷ []) = Ok word
the_one (word ∷ next ∷ words) = Err causes.WordCount

-- a command's word stands alone
abbrev pub no_words : List (List ℕ) → Result (Unit {0}) Cause
no_words [] = Ok tt
no_words (word ∷ words) = Err causes.WordCount

-- a command that has no words behind its own
abbrev pub alone : List (List ℕ) → TypedLine → Result TypedLine Misread
alone words command = or_refused (no_words words) >>= (λ nothing. Ok command)

-- a command, with the words behind its own
unfoldable pub command_read : ℕ → ℕ → List (List ℕ) → Command → Result TypedLine Misread
command_read version last words commands.At =
    or_refused (the_one words >>= later_moment version last) >>= (λ moment. Ok (TypedLine.At moment))
command_read version last words commands.Look = alone words TypedLine.Look
command_read version last words commands.May = alone words TypedLine.May
command_read version last words commands.Why = alone words TypedLine.Why
command_read version last words commands.Codes = alone words TypedLine.Codes
command_read version last words commands.Undo = alone words TypedLine.Undo
command_read version last words commands.Book = alone words TypedLine.Book
command_read version last words commands.Save = or_refused (the_one words) >>= (λ name. Ok (TypedLine.Save name))
command_read version last words commands.Help = alone words TypedLine.Help
command_read version last words commands.End = alone words TypedLine.End

-- a line with a moment in front: the moment first, then the call
unfoldable pub timed_read : PlanFields → ℕ → ℕ → List ℕ → List (List ℕ) → Result TypedLine Misread
timed_read plan b last first words = do
  moment ← or_refused (later_moment plan.version last first)
  full ← timed_in_full words
  call_read plan b first full

-- a call at the last moment, where its first word is chosen
unfoldable pub last_read : PlanFields → ℕ → ℕ → List (List ℕ) → Row → Result TypedLine Misread
last_read plan b last words row = call_in_full 1 words row >>= call_read plan b (moment_text plan.version last)

-- a command, or a call at the last moment
abbrev pub chosen_read : PlanFields → ℕ → ℕ → List (List ℕ) → Row → Option Command → Result TypedLine Misread
chosen_read plan b last words row (Some command) = command_read plan.version last words command
chosen_read plan b last words row None = last_read plan b last words row

-- a line without a moment, by its first word
unfoldable pub untimed_read : PlanFields → ℕ → ℕ → List ℕ → List (List ℕ) → Result TypedLine Misread
untimed_read plan b last first words =
    meant kinds.First 0 first >>= (λ row. chosen_read plan b last words row (command_of row.1))

-- the words of a line
abbrev pub words_read : PlanFields → ℕ → ℕ → List (List ℕ) → Result TypedLine Misread
words_read plan b last [] = Ok TypedLine.Nothing
words_read plan b last (first ∷ words) =
    if is_timed first then timed_read plan b last first words else untimed_read plan b last first words

-- what is read, or what isn't understood
abbrev pub told : Result TypedLine Misread → TypedLine
told (Ok line) = line
told (Err what) = TypedLine.NotUnderstood what

-- what a line comes to at box b, where the last moment of the box is given
unfoldable pub line_read : PlanFields → ℕ → ℕ → List ℕ → TypedLine
line_read plan b last line = told (words_read plan b last (typed_words line))

-- The line is typed for this call: in full it is a line of a script of box b that spells the call, and its moment isn't
-- below the last one.
pub record TypesCall (plan : PlanFields) (b last : ℕ) (line : List ℕ) (call : calls.Call) : Type 0 where
  pub text : List ℕ
  pub full : full_line plan.version last line ≡ Some text
  pub spelled : SpellsCall plan b text call
  pub later : last ≤ call.moment
