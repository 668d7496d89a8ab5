-- What the words of a plan's lines mean.
use Rattle.std.specs.Prelude.{ℕ, nat_le, ◌&&◌, List, [], ◌∷◌, ◌++◌, length, position, slice_get, Option, Some, None}
use Rattle.std.specs.Prelude.{Result, Ok, Err, if◌then◌else◌, bytes_eq, codes}
use Rattle.std.specs.List.{list_any}
use Rattle.rail_text.specs.Gives.{◌>>=◌}
use Rattle.rail_text.specs.Words.{is_name, name_in, number_in}
use Rattle.rail_text.specs.declared.cause.Cause.{Cause}
use Rattle.rail_text.specs.declared.cause.Cause.TheVariants as causes
use Rattle.block_words.specs.declared.Way.{Way}
use Rattle.block_words.specs.declared.Way.TheVariants.{Up, Down}
use Rattle.bell_codes.specs.Reading.{code_of}
use Rattle.locking_table.specs.Places.{most_levers}
use Rattle.line_plan.specs.declared.frame.Kind.{Kind}
use Rattle.line_plan.specs.declared.frame.Kind.TheVariants as kinds
use Rattle.line_plan.specs.declared.frame.Lever.{Lever}
use Rattle.line_plan.specs.declared.signal.To.{To}
use Rattle.line_plan.specs.declared.signal.To.TheVariants as ends
use Rattle.line_plan.specs.Frames.{BoxFields, lever_of, is_working}

-- the line has so many words, its first among them
abbrev pub counted : ℕ → ℕ → List (List ℕ) → Result (Unit {0}) Cause
counted low high words = if nat_le low (length words) && nat_le (length words) high then Ok tt else Err causes.WordCount

-- the word, if there is one
abbrev pub text_of : Option (List ℕ) → List ℕ
text_of None = []
text_of (Some text) = text

-- the word with this number; the first of the line has the number 0
abbrev pub word : ℕ → List (List ℕ) → List ℕ
word i words = text_of (slice_get words i)

-- a new name among these
unfoldable pub new_name : List (List ℕ) → List ℕ → Result (List ℕ) Cause
new_name names text = name_in text >>=
    (λ name. if list_any (bytes_eq name) names then Err causes.NameTwice else Ok name)

-- what is there, or this cause
abbrev pub known : {A : Type 0} → Cause → Option A → Result A Cause
known cause None = Err cause
known cause (Some x) = Ok x

-- the number of a name among these; nothing but a name has one
unfoldable pub number_in_names : List (List ℕ) → List ℕ → Result ℕ Cause
number_in_names names text =
    if is_name text then known causes.UnknownName (position (bytes_eq text) names) else Err causes.UnknownName

-- the places that these words name, behind those in front
unfoldable pub places_onto : List (List ℕ) → List ℕ → List (List ℕ) → Result (List ℕ) Cause
places_onto names front [] = Ok front
places_onto names front (text ∷ texts) =
    number_in_names names text >>= (λ place. places_onto names (front ++ place ∷ []) texts)

-- up or down
unfoldable pub way_in : List ℕ → Result Way Cause
way_in text = if bytes_eq text (codes "up") then Ok Up else if bytes_eq text (codes "down") then Ok Down
    else Err causes.UnknownWord

-- the kind of a lever
unfoldable pub kind_in : List ℕ → Result Kind Cause
kind_in text =
    if bytes_eq text (codes "signal") then Ok kinds.Signal
    else if bytes_eq text (codes "points") then Ok kinds.Points
    else if bytes_eq text (codes "lock") then Ok kinds.Lock
    else if bytes_eq text (codes "distant") then Ok kinds.Distant
    else if bytes_eq text (codes "spare") then Ok kinds.Spare
    else Err causes.UnknownWord

-- a bell code
abbrev pub code_in : List ℕ → Result (List ℕ) Cause
code_in text = known causes.BadCode (code_of text)

-- where a signal leads: off the line, or to a place
unfoldable pub end_in : List (List ℕ) → List ℕ → Result To Cause
end_in names text = if bytes_eq text (codes "away") then Ok ends.Away
    else number_in_names names text >>= (λ place. Ok (ends.Place place))

-- a lever of the box
unfoldable pub lever_in : BoxFields → List ℕ → Result Lever Cause
lever_in box_plan text =
    number_in 1 most_levers text >>= (λ number. known causes.UnknownLever (lever_of box_plan number))

-- a lever of the box that is no spare one
unfoldable pub working_in : BoxFields → List ℕ → Result ℕ Cause
working_in box_plan text =
    lever_in box_plan text >>= (λ lever. if is_working (Some lever.kind) then Ok lever.number else Err causes.WrongKind)
