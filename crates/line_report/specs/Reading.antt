-- Which journal a text gives, or its first fault.
use Rattle.std.specs.Prelude.{ℕ, ◌+◌, ◌==◌, ◌≡◌, Bool, true, false, List, [], ◌∷◌, ◌++◌, length, drop, slice_get}
use Rattle.std.specs.Prelude.{nat_lt, Option, Some, None, option_map, Result, Ok, Err, if◌then◌else◌, bytes_eq, codes}
use Rattle.std.specs.Prelude.{position, cond, slice_index}
use Rattle.std.specs.List.{join_with_byte}
use Rattle.rail_text.specs.Forms.{form_of}
use Rattle.rail_text.specs.Gives.{◌>>=◌, Fault}
use Rattle.rail_text.specs.Lines.{Line, lines_of, words_of}
use Rattle.rail_text.specs.Number.{number_of}
use Rattle.rail_text.specs.Texts.{at_line}
use Rattle.rail_text.specs.Words.{keyword, no_word, number_in, one_word}
use Rattle.rail_text.specs.declared.cause.Cause.{Cause}
use Rattle.rail_text.specs.declared.cause.Cause.TheVariants as causes
use Rattle.rail_text.specs.declared.cause.ReadError.{ReadError}
use Rattle.rail_text.specs.declared.cause.ReadError.TheVariants as errors
use Rattle.line_plan.specs.Plans.{PlanFields, names_of}
use Rattle.line_law.specs.declared.call.Act.{Act}
use Rattle.line_law.specs.declared.call.Call.{Call}
use Rattle.line_law.specs.declared.call.Entry.{Entry}
use Rattle.line_law.specs.declared.call.Reply.{Reply}
use Rattle.script_text.specs.Answers.{reply_in, reply_of}
use Rattle.script_text.specs.Calls.{call_in, call_of, moment_in}
use Rattle.script_text.specs.Scripts.{not_falling}
use Rattle.line_report.specs.Arrows.{before_arrow, behind_arrow}
use Rattle.line_report.specs.Readers.{ReaderFields, SoFar, entry_onto, start}

-- the most bytes of a journal's text, by the plan's version
abbrev pub most_journal_bytes : ℕ → ℕ
most_journal_bytes version = cond (version == 1) 67108864 134217728

-- ---- the words of an entry's line

-- a number, if there is one, that is the next one
abbrev pub counted : ℕ → Option ℕ → Result ℕ Cause
counted next None = Err causes.BadNumber
counted next (Some number) = if number == next then Ok number else Err causes.WrongCount

-- the number of an entry, which begins its line: it is the next one
unfoldable pub entry_number : ℕ → List (List ℕ) → Result ℕ Cause
entry_number next words = counted next (number_of (keyword words))

-- the box that a word names, if there is a word
abbrev pub box_named : PlanFields → Option (List ℕ) → Option ℕ
box_named plan None = None
box_named plan (Some word) = position (bytes_eq word) (names_of plan.boxes)

-- a box, if there is one
abbrev pub known_box : Option ℕ → Result ℕ Cause
known_box None = Err causes.UnknownName
known_box (Some b) = Ok b

-- the box that the second word names
unfoldable pub box_in : PlanFields → List (List ℕ) → Result ℕ Cause
box_in plan words = known_box (box_named plan (slice_get words 1))

-- the text of an entry's call: the words between the box and the first `->`, or the end of the line
unfoldable pub call_told : List (List ℕ) → List ℕ
call_told words = join_with_byte 32 (before_arrow (drop 2 words))

-- the text of an entry's reply: the words behind the first `->`, if it stands
unfoldable pub reply_told : List (List ℕ) → Option (List ℕ)
reply_told words = option_map (λ behind. join_with_byte 32 behind) (behind_arrow (drop 2 words))

-- a call of box b: its moment, which isn't below the last one of the box, and then the rest
unfoldable pub call_after : PlanFields → ℕ → ℕ → List ℕ → Result Call Cause
call_after plan b last text = do
  read ← moment_in plan.version (words_of text)
  moment ← not_falling last read
  call_of plan b text

-- a reply for such a call of box b, where a `->` stands before it
unfoldable pub reply_behind : PlanFields → ℕ → Act → Option (List ℕ) → Result Reply Cause
reply_behind plan b act None = Err causes.WordCount
reply_behind plan b act (Some text) = reply_of plan b act text

-- the same by the words of such a call
unfoldable pub later_call_in : PlanFields → ℕ → ℕ → List (List ℕ) → Result Call Cause
later_call_in plan b last words = do
  read ← moment_in plan.version words
  moment ← not_falling last read
  call_in plan b words

-- and by the words of such a reply
unfoldable pub told_reply_in : PlanFields → ℕ → Act → Option (List (List ℕ)) → Result Reply Cause
told_reply_in plan b act None = Err causes.WordCount
told_reply_in plan b act (Some words) = reply_in plan b act words

-- ---- what a line of each kind tells

-- journal V: V is the plan's version
unfoldable pub version_in : PlanFields → List (List ℕ) → Result ℕ Cause
version_in plan words = do
  word ← one_word words
  number_in plan.version plan.version word

-- the keyword of the heading, and what stands behind it
unfoldable pub heading_in : PlanFields → List (List ℕ) → Result ℕ Cause
heading_in plan words =
    if bytes_eq (keyword words) (codes "journal") then version_in plan words else Err causes.WrongKeyword

-- the entry of a line: its number, its box, its call and its reply
unfoldable pub entry_in : SoFar → List (List ℕ) → Result Entry Cause
entry_in so_far words = do
  number ← entry_number (so_far.count + 1) words
  b ← box_in so_far.plan words
  call ← call_after so_far.plan b (slice_index so_far.moments b) (call_told words)
  reply ← reply_behind so_far.plan b call.act (reply_told words)
  Ok (record { box_no = b; call = call; reply = reply })

-- end: it stands alone, and no entry is told
unfoldable pub end_in : List (List ℕ) → Result (Option Entry) Cause
end_in words = do
  nothing ← no_word words
  Ok None

-- a line behind the heading tells an entry, or it is `end`
unfoldable pub told_in : SoFar → List (List ℕ) → Result (Option Entry) Cause
told_in so_far words =
    if bytes_eq (keyword words) (codes "end") then end_in words else entry_in so_far words >>= (λ e. Ok (Some e))

-- ---- lines

-- the heading: its form first, by which no line of a journal is skipped, then its words
unfoldable pub heading_of : PlanFields → Line → Result ℕ Cause
heading_of plan line = do
  form ← form_of false line
  heading_in plan (words_of line.text)

-- the same of a line behind it
unfoldable pub told_by : SoFar → Line → Result (Option Entry) Cause
told_by so_far line = do
  form ← form_of false line
  told_in so_far (words_of line.text)

-- the entry of a line before those of the lines behind it; `end` has none, and nothing behind it is read
abbrev pub told_onto : (Entry → Result (List Entry) Fault) → Option Entry → Result (List Entry) Fault
told_onto behind None = Ok []
told_onto behind (Some e) = behind e >>= (λ es. Ok (e ∷ es))

-- the entries of the lines behind those that are read; the heading is line 1, so the next entry's line has its number
-- and one more
unfoldable pub entries_from : SoFar → List Line → Result (List Entry) Fault
entries_from so_far [] = Err (record { line = so_far.count + 2; cause = causes.NoEnd })
entries_from so_far (line ∷ lines) =
    at_line (so_far.count + 2) (told_by so_far line) >>= told_onto (λ e. entries_from (entry_onto so_far e) lines)

-- the entries that a reader has left, or the first fault
abbrev pub entries_left : ReaderFields → Result (List Entry) Fault
entries_left reader = entries_from reader.so_far (lines_of reader.rest)

-- the entries of all lines: first the heading
unfoldable pub entries_of : PlanFields → List Line → Result (List Entry) Fault
entries_of plan [] = Err (record { line = 1; cause = causes.NoEnd })
entries_of plan (line ∷ lines) =
    at_line 1 (heading_of plan line) >>= (λ version. entries_from (start plan) lines)

-- the entries of the journal that the bytes spell, or the first fault
unfoldable pub journal_of : PlanFields → List ℕ → Result (List Entry) Fault
journal_of plan bytes =
    if nat_lt (most_journal_bytes plan.version) (length bytes) then Err (record { line = 0; cause = causes.TooLong })
    else entries_of plan (lines_of bytes)

-- ---- entry by entry

-- a reader that has such entries left, or the first fault; want of memory is free
abbrev pub GivesReader : Result ReaderFields ReadError → Result (List Entry) Fault → Type 0
GivesReader (Ok reader) read = read ≡ entries_left reader
GivesReader (Err (errors.Refused line cause)) read = read ≡ Err (record { line = line; cause = cause })
GivesReader (Err errors.NoMemory) read = Unit {0}

-- the next line that a reader has left tells this entry, and the reader is behind it
pub record TellsNext (old new : ReaderFields) (e : Entry) : Type 0 where
  pub line : Line
  pub next : lines_of old.rest ≡ line ∷ lines_of new.rest
  pub told : told_by old.so_far line ≡ Ok (Some e)
  pub after : new.so_far ≡ entry_onto old.so_far e

-- What a reader gives: true, with the entry that its next line tells; false where that is `end`; or the first fault,
-- for its line and cause. It takes no memory.
abbrev pub GivesNext : ReaderFields → ReaderFields → Result Bool ReadError → Entry → Type 0
GivesNext old new (Ok true) e = TellsNext old new e
GivesNext old new (Ok false) e = entries_left old ≡ Ok []
GivesNext old new (Err (errors.Refused line cause)) e = entries_left old ≡ Err (record { line = line; cause = cause })
GivesNext old new (Err errors.NoMemory) e = ⊥

-- where no entry is given, no more is read
abbrev pub StandsStill : SoFar → SoFar → Result Bool ReadError → Type 0
StandsStill old new (Ok true) = Unit {0}
StandsStill old new (Ok false) = new ≡ old
StandsStill old new (Err error) = new ≡ old

-- the lines that a reader has left tell these entries one after another, without a fault, up to where another stands
abbrev pub Tells : ReaderFields → List Entry → ReaderFields → Type 0
Tells old [] new = old ≡ new
Tells old (e ∷ es) new = (middle : ReaderFields) × TellsNext old middle e × Tells middle es new

-- Want of memory is told only of a line without a fault: the entries that are kept were read, and one more.
abbrev pub RunsOutAt : ReaderFields → ReaderFields → List Entry → Result (Unit {0}) ReadError → Type 0
RunsOutAt old new kept (Ok done) = Unit {0}
RunsOutAt old new kept (Err (errors.Refused line cause)) = Unit {0}
RunsOutAt old new kept (Err errors.NoMemory) = (e : Entry) × Tells old (kept ++ e ∷ []) new
