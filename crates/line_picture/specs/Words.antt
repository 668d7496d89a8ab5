-- The words of a picture of a line.
use Rattle.std.specs.Prelude.{ℕ, ◌-◌, Bool, true, false, List, [], ◌++◌, Option, Some, None, codes, decimal}
use Rattle.std.specs.Prelude.{if◌then◌else◌, slice_index_or}
use Rattle.block_words.specs.declared.Position.{Position}
use Rattle.block_words.specs.declared.Position.TheVariants as shows
use Rattle.block_words.specs.declared.Way.{Way}
use Rattle.line_plan.specs.Frames.{kind_word}
use Rattle.line_plan.specs.Plans.{PlanFields, box_at, box_name, is_train, train_at}
use Rattle.line_plan.specs.Sections.{next_box}
use Rattle.line_plan.specs.Ways.{way_word}
use Rattle.line_plan.specs.declared.frame.Kind.{Kind}
use Rattle.line_plan.specs.declared.signal.To.{To}
use Rattle.line_plan.specs.declared.signal.To.TheVariants as ends
use Rattle.line_law.specs.Known.{is_code_no}
use Rattle.script_text.specs.Names.{code_no_text}

-- ---- names

-- the name of a place of box b; nothing of another
abbrev pub place_name : PlanFields → ℕ → ℕ → List ℕ
place_name plan b place = slice_index_or (box_at plan.boxes b).places place []

-- the name of a train of the plan; nothing of another
abbrev pub train_name : PlanFields → ℕ → List ℕ
train_name plan train = if is_train plan.trains train then (train_at plan.trains train).name else []

-- a code of the plan's code table; nothing of another
abbrev pub code_text : PlanFields → ℕ → List ℕ
code_text plan code = if is_code_no plan code then code_no_text plan.codes code else []

-- what an instrument shows, in words
abbrev pub shown_word : Position → List ℕ
shown_word shows.Normal = codes "Normal"
shown_word shows.LineClear = codes "Line Clear"
shown_word shows.TrainOnLine = codes "Train on Line"

-- ---- what is told of a box

-- what stands at a place
abbrev pub standing_text : PlanFields → Option ℕ → List ℕ
standing_text plan None = codes "clear"
standing_text plan (Some train) = codes "train " ++ train_name plan train

-- a place of box b, with what stands there
unfoldable pub place_words : PlanFields → ℕ → ℕ → Option ℕ → List ℕ
place_words plan b place train =
    box_name plan b ++ codes ", " ++ place_name plan b place ++ codes ": " ++ standing_text plan train

-- where a signal of box b leads
abbrev pub route_text : PlanFields → ℕ → To → List ℕ
route_text plan b (ends.Place place) = codes " to " ++ place_name plan b place
route_text plan b (ends.Section way) = codes " starter, " ++ way_word way
route_text plan b ends.Away = codes " away"

-- how an arm stands
abbrev pub arm_word : Bool → List ℕ
arm_word true = codes ": off"
arm_word false = codes ": on"

-- a signal of box b by its lever, with where it leads and how its arm stands
unfoldable pub arm_words : PlanFields → ℕ → ℕ → To → Bool → List ℕ
arm_words plan b lever to off = decimal lever ++ route_text plan b to ++ arm_word off

-- the same with the name of the box
unfoldable pub arm_name : PlanFields → ℕ → List ℕ → List ℕ
arm_name plan b words = box_name plan b ++ codes ", signal " ++ words

-- at which end a lever stands
abbrev pub end_word : Bool → List ℕ
end_word true = codes ": reversed"
end_word false = codes ": normal"

-- a lever of box b, with what it is and at which end it stands
unfoldable pub lever_words : PlanFields → ℕ → ℕ → Kind → Bool → List ℕ
lever_words plan b number kind reversed =
    box_name plan b ++ codes ", lever " ++ decimal number ++ codes ", " ++ kind_word kind ++ end_word reversed

-- ---- what is told of a section

-- the section of a line from a box in its rear
unfoldable pub section_words : PlanFields → ℕ → Way → List ℕ
section_words plan rear way =
    way_word way ++ codes " line, " ++ box_name plan rear ++ codes " to " ++ box_name plan (next_box rear way)

-- what its instrument shows
unfoldable pub instrument_words : PlanFields → ℕ → Way → Position → List ℕ
instrument_words plan rear way position =
    section_words plan rear way ++ codes ": " ++ shown_word position

-- the bell of the box in advance, with the code that stands unheard on it
unfoldable pub bell_words : PlanFields → ℕ → Way → ℕ → List ℕ
bell_words plan rear way code =
    codes "bell at " ++ box_name plan (next_box rear way) ++ codes ": " ++ code_text plan code

-- what stands before a train's name, where only a portion of it is there
abbrev pub portion_word : Bool → List ℕ
portion_word true = codes "portion of "
portion_word false = []

-- a train on a plain line, or a portion of it
abbrev pub train_words : PlanFields → ℕ → Bool → List ℕ
train_words plan train portion = portion_word portion ++ train_name plan train

-- the same with the section
unfoldable pub on_line_words : PlanFields → ℕ → Way → List ℕ → List ℕ
on_line_words plan rear way words = section_words plan rear way ++ codes ": train " ++ words

-- ---- the picture

-- the name of a picture: of the line from its first box to its last
unfoldable pub picture_name : PlanFields → ℕ → List ℕ
picture_name plan last = codes "The line from " ++ box_name plan 0 ++ codes " to " ++ box_name plan last

-- when it is so
abbrev pub after_words : ℕ → List ℕ
after_words entries = codes "after entry " ++ decimal entries
