-- What answers a line, and what it makes of the service.
use Rattle.std.specs.Prelude.{◌≡◌, ◌⊎◌, ℕ, ◌+◌, Bool, true, false, List, length, nat_le, take, if◌then◌else◌}
use Rattle.std.specs.Prelude.{Result, Ok, Err}
use Rattle.line_law.specs.declared.call.Entry.{Entry}
use Rattle.script_text.specs.declared.script.Script.{Script}
use Rattle.journal_records.specs.Objects.{IsEntryText}
use Rattle.line_requests.specs.Answers.{IsCountText, IsFaultText}
use Rattle.line_requests.specs.Requests.{Asked, asked_of}
use Rattle.line_requests.specs.declared.fault.Fault.{Fault}
use Rattle.line_requests.specs.declared.fault.Fault.TheVariants as faults
use Rattle.line_service.specs.Calls.{MayFollow, box_named, call_line, entry_on, with_entry}
use Rattle.line_service.specs.Lists.{AreMoves, IsListed, before_entry, present_of}
use Rattle.line_service.specs.Looks.{AreChanged, IsLookText, IsLooksText, IsSectionText, section_named}
use Rattle.line_service.specs.Scripts.{MayWork, script_given, with_script}
use Rattle.line_service.specs.Services.{ServiceFields, gone_on, none_left}

-- ---- a call

-- a call adds its entry, and the boxes that have scripts go on; one that isn't made changes nothing
abbrev pub after_made : ServiceFields → Result Entry Fault → ServiceFields
after_made service (Ok e) = gone_on (with_entry service e)
after_made service (Err fault) = service

-- it is answered by its entry, with the number that this has in the journal
abbrev pub IsMadeText : ServiceFields → Result Entry Fault → List ℕ → Type 0
IsMadeText service (Ok e) text = IsEntryText service.plan (length service.entries + 1) e text
IsMadeText service (Err fault) text = IsFaultText fault text

-- ---- a script

-- the box is given its script, and all that have one go on; one that isn't taken changes nothing
abbrev pub after_given : ServiceFields → Result Script Fault → ServiceFields
after_given service (Ok script) = gone_on (with_script service script)
after_given service (Err fault) = service

-- it is answered by how many entries there are then
abbrev pub IsGivenText : ServiceFields → Result Script Fault → List ℕ → Type 0
IsGivenText service (Ok script) text = IsCountText (length (gone_on (with_script service script)).entries) text
IsGivenText service (Err fault) text = IsFaultText fault text

-- ---- back

-- so many entries, where there are as many
abbrev pub kept_of : ServiceFields → ℕ → Result ℕ Fault
kept_of service count = if nat_le count (length service.entries) then Ok count else Err faults.UnknownEntry

-- the service with its first entries alone, and no box with a script
abbrev pub with_first : ServiceFields → ℕ → ServiceFields
with_first service count = record service {
  entries = take count service.entries;
  left = none_left service.plan;
}

-- what it is where it has gone back to so many entries
abbrev pub after_back : ServiceFields → Result ℕ Fault → ServiceFields
after_back service (Ok count) = with_first service count
after_back service (Err fault) = service

-- what answers that
abbrev pub IsBackText : Result ℕ Fault → List ℕ → Type 0
IsBackText (Ok count) text = IsCountText count text
IsBackText (Err fault) text = IsFaultText fault text

-- ---- a request

-- what a request makes of the service
abbrev pub after_asked : ServiceFields → Asked → ServiceFields
after_asked service (Asked.Call box_name at call) = after_made service (entry_on service box_name (call_line at call))
after_asked service (Asked.May box_name at) = service
after_asked service (Asked.Look box_name) = service
after_asked service (Asked.LookTo rear advance) = service
after_asked service Asked.LookAll = service
after_asked service (Asked.Changes count) = service
after_asked service (Asked.Journal from) = service
after_asked service (Asked.Script text) = after_given service (script_given service text)
after_asked service (Asked.Back count) = after_back service (kept_of service count)
after_asked service Asked.End = service

-- what answers a request
abbrev pub IsAnswered : ServiceFields → Asked → List ℕ → Type 0
IsAnswered service (Asked.Call box_name at call) text =
    IsMadeText service (entry_on service box_name (call_line at call)) text
IsAnswered service (Asked.May box_name at) text = AreMoves service (present_of service box_name at) text
IsAnswered service (Asked.Look box_name) text = IsLookText service (box_named service.plan box_name) text
IsAnswered service (Asked.LookTo rear advance) text =
    IsSectionText service (section_named service.plan rear advance) text
IsAnswered service Asked.LookAll text = IsLooksText service text
IsAnswered service (Asked.Changes count) text = AreChanged service (kept_of service count) text
IsAnswered service (Asked.Journal from) text = IsListed service (before_entry service from) text
IsAnswered service (Asked.Script script) text = IsGivenText service (script_given service script) text
IsAnswered service (Asked.Back count) text = IsBackText (kept_of service count) text
IsAnswered service Asked.End text = IsCountText (length service.entries) text

-- ---- a line

-- what a line makes of the service, by what it asks for
abbrev pub after_read : ServiceFields → Result Asked Fault → ServiceFields
after_read service (Ok asked) = after_asked service asked
after_read service (Err fault) = service

-- what answers a line, by what it asks for
abbrev pub IsReadText : ServiceFields → Result Asked Fault → List ℕ → Type 0
IsReadText service (Ok asked) text = IsAnswered service asked text
IsReadText service (Err fault) text = IsFaultText fault text

-- ---- what comes of a line

-- the service that comes next: the same; with an entry more that the law allows behind those that are there, and then
-- what the boxes with scripts do; with a script that its box may work by, and then what these do; or with its first
-- entries alone
abbrev pub IsNext : ServiceFields → ServiceFields → Type 0
IsNext old new =
    (new ≡ old) ⊎ ((e : Entry) × MayFollow old e × (new ≡ gone_on (with_entry old e)))
    ⊎ ((script : Script) × MayWork old script × (new ≡ gone_on (with_script old script)))
    ⊎ ((count : ℕ) × (new ≡ with_first old count))

-- it asks to end
abbrev pub is_end : Result Asked Fault → Bool
is_end (Ok Asked.End) = true
is_end read = false

-- what a line makes of the service
unfoldable pub after_line : ServiceFields → List ℕ → ServiceFields
after_line service line = after_read service (asked_of line)

-- what answers a line
unfoldable pub IsAnswer : ServiceFields → List ℕ → List ℕ → Type 0
IsAnswer service line text = IsReadText service (asked_of line) text

-- a line asks to end
unfoldable pub ends : List ℕ → Bool
ends line = is_end (asked_of line)
