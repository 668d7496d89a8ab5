-- The words of a typed line, and a call's line in full.
use Rattle.std.specs.Prelude.{ℕ, ◌+◌, Bool, false, not, List, [], ◌∷◌, ◌++◌, filter, Option, Some, None}
use Rattle.std.specs.Prelude.{Result, Ok, Err, if◌then◌else◌}
use Rattle.std.specs.List.{join_with_byte}
use Rattle.rail_text.specs.Gives.{◌>>=◌}
use Rattle.rail_text.specs.Lines.{is_empty_word, words_of}
use Rattle.script_text.specs.Moments.{is_digit, moment_text}
use Rattle.typed_words.specs.declared.table.Command.{Command}
use Rattle.typed_words.specs.declared.table.WordsBehind.{WordsBehind}
use Rattle.typed_words.specs.declared.table.WordKind.{WordKind}
use Rattle.typed_words.specs.declared.table.WordKind.TheVariants as kinds
use Rattle.typed_words.specs.Table.{behind_of, command_of, kind_behind}
use Rattle.typed_words.specs.Chosen.{Misread, Row, meant, words_at}

-- the words of a typed line: what stands between spaces, however many they are
abbrev pub typed_words : List ℕ → List (List ℕ)
typed_words line = filter (λ word. not (is_empty_word word)) (words_of line)

-- a word with a space in front
abbrev pub spaced_word : List ℕ → List ℕ
spaced_word word = 32 ∷ word

-- a word that begins with a digit stands for a moment
abbrev pub is_timed : List ℕ → Bool
is_timed [] = false
is_timed (b ∷ bs) = is_digit b

-- a typed word in full, with its number in the line; where none is wanted it stays as it is typed
abbrev pub word_in_full : Option WordKind → ℕ → List ℕ → Result (List ℕ) Misread
word_in_full None at typed = Ok typed
word_in_full (Some kind) at typed = meant kind at typed >>= (λ row. Ok row.0)

-- the words behind a call's word in full, from the place k behind it on; they begin in the line at the number `from`
abbrev pub in_full : WordsBehind → ℕ → ℕ → List (List ℕ) → Result (List (List ℕ)) Misread
in_full behind from k [] = Ok []
in_full behind from k (typed ∷ words) =
    word_in_full (kind_behind behind k) (from + k) typed
    >>= (λ word. in_full behind from (k + 1) words >>= (λ rest. Ok (word ∷ rest)))

-- words in full behind those that stand already
abbrev pub onto_full : List (List ℕ) → Result (List (List ℕ)) Misread → Result (List (List ℕ)) Misread
onto_full front (Ok words) = Ok (front ++ words)
onto_full front (Err what) = Err what

-- a call's words in full, where its first is chosen; those behind it begin in the line at the number `from`
unfoldable pub call_in_full : ℕ → List (List ℕ) → Row → Result (List (List ℕ)) Misread
call_in_full from words row = in_full (behind_of row.1) from 0 words >>= (λ rest. Ok (row.0 ∷ rest))

-- the words behind a moment in full: a call's word is wanted
abbrev pub timed_in_full : List (List ℕ) → Result (List (List ℕ)) Misread
timed_in_full [] = Err (Misread.Unknown 1 (words_at kinds.Call))
timed_in_full (typed ∷ words) = meant kinds.Call 1 typed >>= call_in_full 2 words

-- ---- a line in full

-- a call's words in full; a command's line has none
abbrev pub unless_command : Option Command → Result (List (List ℕ)) Misread → Option (List (List ℕ))
unless_command (Some command) words = None
unless_command None (Err what) = None
unless_command None (Ok words) = Some words

-- the words of a line without a moment in full, where the first is chosen
abbrev pub untimed_in_full : List (List ℕ) → Result Row Misread → Option (List (List ℕ))
untimed_in_full words (Err what) = None
untimed_in_full words (Ok row) = unless_command (command_of row.1) (call_in_full 1 words row)

-- words behind a moment, as a line
abbrev pub with_moment : List ℕ → Option (List (List ℕ)) → Option (List ℕ)
with_moment moment None = None
with_moment moment (Some words) = Some (join_with_byte 32 (moment ∷ words))

-- the line of these typed words in full
abbrev pub line_in_full : ℕ → ℕ → List (List ℕ) → Option (List ℕ)
line_in_full version last [] = None
line_in_full version last (first ∷ words) =
    if is_timed first then with_moment first (unless_command None (timed_in_full words))
    else with_moment (moment_text version last) (untimed_in_full words (meant kinds.First 0 first))

-- A typed call's line in full: its moment in front, the last one where none is typed, and each word that is typed by
-- its beginning as a whole. There is none where a word isn't understood, or the line is no call.
unfoldable pub full_line : ℕ → ℕ → List ℕ → Option (List ℕ)
full_line version last line = line_in_full version last (typed_words line)
