-- What stands on the line, as it is asked for.
use Rattle.std.specs.Prelude.{ℕ, ◌+◌, ◌==◌, List, Result, Ok, Err, length, take, if◌then◌else◌}
use Rattle.rail_text.specs.Gives.{◌>>=◌}
use Rattle.block_words.specs.declared.Way.TheVariants.{Up, Down}
use Rattle.json_objects.specs.Texts.{IsTextOf}
use Rattle.line_plan.specs.Plans.{PlanFields}
use Rattle.line_plan.specs.Sections.{advance_of}
use Rattle.line_plan.specs.declared.section.Section.{Section}
use Rattle.line_law.specs.History.{state_of}
use Rattle.look_records.specs.Changes.{IsChangesText, looks_data}
use Rattle.look_records.specs.Objects.{look_data}
use Rattle.look_records.specs.Things.{section_things, things_at}
use Rattle.line_requests.specs.Answers.{IsFaultText}
use Rattle.line_requests.specs.declared.fault.Fault.{Fault}
use Rattle.line_requests.specs.declared.fault.Fault.TheVariants as faults
use Rattle.line_service.specs.Calls.{box_named}
use Rattle.line_service.specs.Services.{ServiceFields, line_of}

-- the section from one box to another, where they are neighbours
unfoldable pub section_between : ℕ → ℕ → Result Section Fault
section_between rear advance =
    if advance == rear + 1 then Ok (record { rear = rear; way = Down })
    else if rear == advance + 1 then Ok (record { rear = rear; way = Up })
    else Err faults.NotNeighbours

-- the section from the box of a name to the box of another
unfoldable pub section_named : PlanFields → List ℕ → List ℕ → Result Section Fault
section_named plan rear advance =
    box_named plan rear >>= (λ r. box_named plan advance >>= (λ a. section_between r a))

-- what answers where it is asked what stands at a box
abbrev pub IsLookText : ServiceFields → Result ℕ Fault → List ℕ → Type 0
IsLookText service (Ok b) text =
    IsTextOf (look_data service.plan b (things_at service.plan (line_of service) b)) text
IsLookText service (Err fault) text = IsFaultText fault text

-- what answers where it is asked what belongs to a section: it stands at the section's box in advance
abbrev pub IsSectionText : ServiceFields → Result Section Fault → List ℕ → Type 0
IsSectionText service (Ok section) text =
    IsTextOf (look_data service.plan (advance_of section) (section_things service.plan (line_of service) section)) text
IsSectionText service (Err fault) text = IsFaultText fault text

-- what answers where it is asked what stands on the whole line
abbrev pub IsLooksText : ServiceFields → List ℕ → Type 0
IsLooksText service text = IsTextOf (looks_data service.plan (line_of service)) text

-- what answers where it is asked what stands otherwise than behind so many entries
abbrev pub AreChanged : ServiceFields → Result ℕ Fault → List ℕ → Type 0
AreChanged service (Ok count) text =
    IsChangesText service.plan (state_of service.plan (take count service.entries)) (line_of service)
    (length service.entries) text
AreChanged service (Err fault) text = IsFaultText fault text
