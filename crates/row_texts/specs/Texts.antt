-- A locking table as a text.
use Rattle.std.specs.Prelude.{◌≡◌, ℕ, ◌+◌, ◌&&◌, ◌==◌, nat_lt, List, [], ◌∷◌, ◌++◌, Bool, Result, Ok, Err, map, filter}
use Rattle.std.specs.Prelude.{if◌then◌else◌, slice_index_or, zero, suc}
use Rattle.locking_table.specs.declared.row.Row.{Row}
use Rattle.locking_table.specs.Index.{no_row}
use Rattle.locking_table.specs.Reading.{◌>>=◌}
use Rattle.row_texts.specs.declared.cause.RowsCause.{RowsCause}
use Rattle.row_texts.specs.declared.cause.RowsError.{RowsError}
use Rattle.row_texts.specs.declared.cause.RowsError.TheVariants as errors
use Rattle.row_texts.specs.declared.draft.Entry.{Entry}
use Rattle.row_texts.specs.declared.draft.Place.TheVariants as places
use Rattle.row_texts.specs.Drafts.{DraftFields, is_beside, is_start, no_number, start_draft}
use Rattle.row_texts.specs.Items.{with_word}
use Rattle.row_texts.specs.Marks.{ended, ends_word, marked}

-- the word that has begun, and what is read before it
pub record ReaderFields : Type 0 where
  pub word : List ℕ
  pub draft : DraftFields

abbrev pub start : ReaderFields
start = record { word = []; draft = start_draft }

-- the word that has begun, if any, has ended
abbrev pub word_ended : List ℕ → DraftFields → Result DraftFields RowsCause
word_ended [] draft = Ok draft
word_ended (b ∷ bs) draft = with_word (b ∷ bs) draft

-- what isn't read goes on up to the line's end
abbrev pub passed : ℕ → DraftFields → DraftFields
passed b draft = if b == 10 then record draft { place = places.Start } else draft

abbrev pub is_empty : List ℕ → Bool
is_empty [] = Bool.true
is_empty (b ∷ bs) = Bool.false

-- what ends a word, behind a word that has begun
abbrev pub mark_onto : ℕ → List ℕ → DraftFields → Result DraftFields RowsCause
mark_onto b word draft = word_ended word draft >>= marked b

abbrev pub with_no_word : Result DraftFields RowsCause → Result ReaderFields RowsCause
with_no_word (Ok draft) = Ok (record { word = []; draft = draft })
with_no_word (Err cause) = Err cause

-- a byte behind what is read; one that is no end of a word goes on with it, but `#` at the beginning of a line
abbrev pub byte_onto : ℕ → ReaderFields → Result ReaderFields RowsCause
byte_onto b reader =
    if is_beside reader.draft.place then Ok (record { word = []; draft = passed b reader.draft })
    else if ends_word b
    then with_no_word (mark_onto b reader.word reader.draft)
    else if b == 35 && (is_empty reader.word && is_start reader.draft.place)
    then Ok (record { word = []; draft = record reader.draft { place = places.Beside } })
    else Ok (record { word = reader.word ++ b ∷ []; draft = reader.draft })

-- why a text is refused: the line, from 1, and what is wrong with it
pub record Fault : Type 0 where
  pub line : ℕ
  pub cause : RowsCause

abbrev pub at_line : {A : Type 0} → ℕ → Result A RowsCause → Result A Fault
at_line line (Ok value) = Ok value
at_line line (Err cause) = Err (record { line = line; cause = cause })

abbrev pub next_line : ℕ → ℕ → ℕ
next_line b line = if b == 10 then line + 1 else line

-- the end of a text ends all that was begun
abbrev pub all_ended : ReaderFields → Result DraftFields RowsCause
all_ended reader = word_ended reader.word reader.draft >>= ended

-- what bytes make of what is read, from a line on
abbrev pub read_on : ℕ → ReaderFields → List ℕ → Result DraftFields Fault
read_on line reader [] = at_line line (all_ended reader)
read_on line reader (b ∷ bs) = at_line line (byte_onto b reader) >>= λ next. read_on (next_line b line) next bs

abbrev pub entries_of : Result DraftFields Fault → Result (List Entry) Fault
entries_of (Ok draft) = Ok draft.entries
entries_of (Err fault) = Err fault

-- the number by which a row is put in order
abbrev pub key_of : Entry → ℕ
key_of entry = if nat_lt entry.number no_number then entry.number else no_number

-- the rows of a number
abbrev pub rows_numbered : ℕ → List Entry → List Row
rows_numbered number entries = map (λ entry. entry.row) (filter (λ entry. key_of entry == number) entries)

-- the rows whose numbers are below this, by their numbers; those of one number in the order of the text
unfoldable pub rows_below : ℕ → List Entry → List Row
rows_below zero entries = []
rows_below (suc number) entries = rows_below number entries ++ rows_numbered number entries

-- the rows by their numbers, and behind them those that have none
unfoldable pub in_order : List Entry → List Row
in_order entries = rows_below (no_number + 1) entries

abbrev pub no_entry : Entry
no_entry = record { row = no_row; number = 0 }

-- the rows at places of the text
abbrev pub rows_at : List Entry → List ℕ → List Row
rows_at entries places = map (λ place. (slice_index_or entries place no_entry).row) places

-- the rows of a text, or why it is refused
unfoldable pub rows_of : List ℕ → Result (List Row) Fault
rows_of bytes = entries_of (read_on 1 start bytes) >>= λ entries. Ok (in_order entries)

-- The reader gives what reading gives, unless memory ran out.
abbrev pub GivesText : {X Y : Type 0} → (X → Y) → Result X RowsError → Result Y Fault → Type 0
GivesText view (Ok x) read = read ≡ Ok (view x)
GivesText view (Err (errors.Refused line cause)) read = read ≡ Err (record { line = line; cause = cause })
GivesText view (Err errors.NoMemory) read = Unit {0}
