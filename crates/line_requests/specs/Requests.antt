-- What a line of JSON asks for.
use Rattle.std.specs.Prelude.{ℕ, ◌+◌, ◌==◌, nat_lt, Bool, true, false, List, length, codes, if◌then◌else◌}
use Rattle.std.specs.Prelude.{Option, Some, None, option_and_then, Result, Ok, Err}
use Rattle.std.specs.Str.{is_utf8}
use Rattle.serde_json.specs.Data.{Data, Members, object, no_members, member}
use Rattle.serde_json.specs.Find.{as_bool, as_number, as_str, as_u64, get}
use Rattle.serde_json.specs.Read.{read}
use Rattle.rail_text.specs.declared.cause.Cause.TheVariants as causes
use Rattle.line_requests.specs.declared.fault.Fault.{Fault}
use Rattle.line_requests.specs.declared.fault.Fault.TheVariants as faults
use Rattle.line_requests.specs.declared.request.Request.{Request}
use Rattle.line_requests.specs.declared.request.Request.TheVariants as requests
use Rattle.line_requests.specs.declared.request.TheConstants.{LINE_LIMIT}

-- What is asked for: a call of a box, by the box's name, the moment and what is done; what would be answered if a lever
-- of a box were moved, by the box's name and the moment; what stands at a box, by its name; what belongs to a section,
-- by the names of the box in its rear and of the box in advance; all that stands on the line; what stands otherwise
-- than behind so many entries; the entries from a number on; to work a box by a script, by its text; to go back to so
-- many entries; or to end.
pub data Asked : Type 0 where
  Call : List ℕ → List ℕ → List ℕ → Asked
  May : List ℕ → List ℕ → Asked
  Look : List ℕ → Asked
  LookTo : List ℕ → List ℕ → Asked
  LookAll : Asked
  Changes : ℕ → Asked
  Journal : ℕ → Asked
  Script : List ℕ → Asked
  Back : ℕ → Asked
  End : Asked

-- the same of the program's value, with texts as their bytes
abbrev pub shown : Request → Asked
shown (requests.Call box_name at call) = Asked.Call box_name.now at.now call.now
shown (requests.May box_name at) = Asked.May box_name.now at.now
shown (requests.Look box_name) = Asked.Look box_name.now
shown (requests.LookTo rear advance) = Asked.LookTo rear.now advance.now
shown requests.LookAll = Asked.LookAll
shown (requests.Changes count) = Asked.Changes count
shown (requests.Journal from) = Asked.Journal from
shown (requests.Script text) = Asked.Script text.now
shown (requests.Back count) = Asked.Back count
shown requests.End = Asked.End

-- ---- what an object asks for

-- the text that stands at a key
abbrev pub text_at : List ℕ → Data → Option (List ℕ)
text_at key d = option_and_then as_str (get key d)

-- true or false, where it stands at a key
abbrev pub flag_at : List ℕ → Data → Option Bool
flag_at key d = option_and_then as_bool (get key d)

-- the number that stands at a key, where it is one from 0 on and no fraction
abbrev pub number_at : List ℕ → Data → Option ℕ
number_at key d = option_and_then as_u64 (option_and_then as_number (get key d))

-- how many members there are
abbrev pub count_members : Members → ℕ
count_members no_members = 0
count_members (member k d ms) = count_members ms + 1

-- how many members a value has
abbrev pub member_count : Data → ℕ
member_count (object ms) = count_members ms
member_count d = 0

-- a call, where all that it needs is there
abbrev pub call_asked : Option (List ℕ) → Option (List ℕ) → Option (List ℕ) → Option Asked
call_asked None at call = None
call_asked (Some box_name) None call = None
call_asked (Some box_name) (Some at) None = None
call_asked (Some box_name) (Some at) (Some call) = Some (Asked.Call box_name at call)

-- to end, where the flag is true
abbrev pub end_asked : Option Bool → Option Asked
end_asked None = None
end_asked (Some false) = None
end_asked (Some true) = Some Asked.End

-- all that stands, where the flag is true
abbrev pub all_asked : Option Bool → Option Asked
all_asked None = None
all_asked (Some false) = None
all_asked (Some true) = Some Asked.LookAll

-- what stands at a box, where its name is there
abbrev pub box_asked : Option (List ℕ) → Option Asked
box_asked None = None
box_asked (Some box_name) = Some (Asked.Look box_name)

-- a script, where its text is there
abbrev pub script_asked : Option (List ℕ) → Option Asked
script_asked None = None
script_asked (Some text) = Some (Asked.Script text)

-- what is asked for of a number, where it is there
abbrev pub count_asked : (ℕ → Asked) → Option ℕ → Option Asked
count_asked ask None = None
count_asked ask (Some count) = Some (ask count)

-- the first, if that is asked for, else the other
abbrev pub first_asked : Option Asked → Option Asked → Option Asked
first_asked None other = other
first_asked (Some asked) other = Some asked

-- what an object with one member asks for by a number
unfoldable pub number_asked : Data → Option Asked
number_asked d =
    first_asked (count_asked (λ from. Asked.Journal from) (number_at (codes "journal") d))
    (first_asked (count_asked (λ count. Asked.Back count) (number_at (codes "back") d))
    (count_asked (λ count. Asked.Changes count) (number_at (codes "changes") d)))

-- what an object with one member asks to look at
unfoldable pub look_asked : Data → Option Asked
look_asked d = first_asked (box_asked (text_at (codes "look") d)) (all_asked (flag_at (codes "look") d))

-- what an object with one member asks for by a text, or by true
unfoldable pub word_asked : Data → Option Asked
word_asked d = first_asked (script_asked (text_at (codes "script") d)) (look_asked d)

-- what an object with one member asks for
unfoldable pub one_asked : Data → Option Asked
one_asked d = first_asked (end_asked (flag_at (codes "end") d)) (first_asked (number_asked d) (word_asked d))

-- what may be done, where all that it needs is there
abbrev pub may_asked : Option (List ℕ) → Option (List ℕ) → Option Asked
may_asked None at = None
may_asked (Some box_name) None = None
may_asked (Some box_name) (Some at) = Some (Asked.May box_name at)

-- what belongs to a section, where both names are there
abbrev pub section_asked : Option (List ℕ) → Option (List ℕ) → Option Asked
section_asked None advance = None
section_asked (Some rear) None = None
section_asked (Some rear) (Some advance) = Some (Asked.LookTo rear advance)

-- what an object with two members asks for
unfoldable pub two_asked : Data → Option Asked
two_asked d =
    first_asked (may_asked (text_at (codes "may") d) (text_at (codes "at") d))
    (section_asked (text_at (codes "look") d) (text_at (codes "to") d))

-- what an object with three members asks for
unfoldable pub three_asked : Data → Option Asked
three_asked d = call_asked (text_at (codes "box") d) (text_at (codes "at") d) (text_at (codes "call") d)

-- what a value asks for: an object with exactly the keys of one request
unfoldable pub asked_in : Data → Option Asked
asked_in d =
    if member_count d == 3 then three_asked d
    else if member_count d == 2 then two_asked d
    else if member_count d == 1 then one_asked d
    else None

-- ---- what a line asks for

-- the value that a line spells
unfoldable pub value_in : List ℕ → Option Data
value_in line = if is_utf8 line then read line else None

-- what is asked for, if anything is
abbrev pub request_or : Option Asked → Result Asked Fault
request_or None = Err faults.NotRequest
request_or (Some asked) = Ok asked

-- what a value asks for, if there is one
abbrev pub asked_or : Option Data → Result Asked Fault
asked_or None = Err faults.NotJson
asked_or (Some d) = request_or (asked_in d)

-- what a line asks for, or what is wrong with it
unfoldable pub asked_of : List ℕ → Result Asked Fault
asked_of line = if nat_lt LINE_LIMIT (length line) then Err (faults.Cause causes.TooLong) else asked_or (value_in line)
