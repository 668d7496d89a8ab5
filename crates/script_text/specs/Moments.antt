-- Moments as texts.
use Rattle.std.specs.Prelude.{ℕ, ◌+◌, ◌-◌, ◌*◌, ◌/◌, ◌%◌, Bool, ◌&&◌, ◌==◌, nat_lt, nat_le, List, [], ◌∷◌, ◌++◌, length}
use Rattle.std.specs.Prelude.{slice_index, Option, Some, None, if◌then◌else◌}

-- 0 to 9
abbrev pub is_digit : ℕ → Bool
is_digit c = nat_le 48 c && nat_le c 57

-- the number that two digits make at a place of a word, if they are digits
abbrev pub two_digits : List ℕ → ℕ → Option ℕ
two_digits word at =
    if is_digit (slice_index word at) && is_digit (slice_index word (at + 1))
    then Some (10 * (slice_index word at - 48) + (slice_index word (at + 1) - 48)) else None

-- hours below a limit and minutes below 60, with a colon between them
abbrev pub clock : ℕ → Bool → Option ℕ → Option ℕ → Option ℕ
clock limit colon None minutes = None
clock limit colon (Some hours) None = None
clock limit colon (Some hours) (Some minutes) =
    if colon && nat_lt hours limit && nat_lt minutes 60 then Some (60 * hours + minutes) else None

-- the minutes of the text HH:MM, with hours below a limit
abbrev pub clock_of : ℕ → List ℕ → Option ℕ
clock_of limit word = clock limit (slice_index word 2 == 58) (two_digits word 0) (two_digits word 3)

-- minutes and seconds below 60
abbrev pub with_seconds : Option ℕ → Option ℕ → Option ℕ
with_seconds None seconds = None
with_seconds (Some minutes) None = None
with_seconds (Some minutes) (Some seconds) = if nat_lt seconds 60 then Some (60 * minutes + seconds) else None

-- the seconds of the text HH:MM:SS, with hours below a limit
abbrev pub long_clock : ℕ → List ℕ → Option ℕ
long_clock limit word =
    if length word == 8 && slice_index word 5 == 58 then with_seconds (clock_of limit word) (two_digits word 6)
    else None

-- the time that a word spells, with hours below a limit: HH:MM in version 1, else HH:MM:SS
abbrev pub time_of : ℕ → ℕ → List ℕ → Option ℕ
time_of limit version word =
    if version == 1 then (if length word == 5 then clock_of limit word else None) else long_clock limit word

-- the moment of a day that a word spells
abbrev pub moment_of : ℕ → List ℕ → Option ℕ
moment_of version word = time_of 24 version word

-- the moment that a word spells at which a release may come: it may lie in the hour behind the day
abbrev pub ready_of : ℕ → List ℕ → Option ℕ
ready_of version word = time_of 25 version word

-- how many moments a day has with the hour behind it
abbrev pub ready_moments : ℕ → ℕ
ready_moments version = if version == 1 then 1500 else 90000

-- moments below it are printed with two digits for the hours
abbrev pub hundred_hours : ℕ → ℕ
hundred_hours version = if version == 1 then 6000 else 360000

-- a number below 100 in two digits
abbrev pub two_text : ℕ → List ℕ
two_text n = (48 + n / 10) ∷ (48 + n % 10) ∷ []

-- minutes as HH:MM
abbrev pub clock_text : ℕ → List ℕ
clock_text minutes = two_text (minutes / 60) ++ 58 ∷ two_text (minutes % 60)

-- a moment as it is printed: HH:MM in version 1, else HH:MM:SS
abbrev pub moment_text : ℕ → ℕ → List ℕ
moment_text version moment =
    if version == 1 then clock_text moment else clock_text (moment / 60) ++ 58 ∷ two_text (moment % 60)
