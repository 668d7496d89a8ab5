-- Which plan a text gives, or its first fault.
use Rattle.std.specs.Prelude.{ℕ, ◌+◌, Bool, false, nat_le, ◌&&◌, ◌==◌, List, [], ◌∷◌, ◌++◌, length, Option, Some, None}
use Rattle.std.specs.Prelude.{is_some, Result, Ok, Err, if◌then◌else◌, bytes_eq, codes}
use Rattle.std.specs.List.{list_any}
use Rattle.bell_codes.specs.Table.{code_number}
use Rattle.rail_text.specs.Texts.{text_onto}
use Rattle.rail_text.specs.Gives.{◌>>=◌, Fault}
use Rattle.rail_text.specs.Words.{keyword, number_in}
use Rattle.rail_text.specs.declared.cause.Cause.{Cause}
use Rattle.rail_text.specs.declared.cause.Cause.TheVariants as causes
use Rattle.line_plan.specs.Limits.{most_boxes, most_plan_trains, most_delay, most_looks, most_bytes}
use Rattle.line_plan.specs.Frames.{BoxFields, berth_places}
use Rattle.line_plan.specs.Plans.{PlanFields, names_of, names_of_classes, names_of_trains, no_box, box_at}
use Rattle.plan_draft.specs.LineWords.{counted, word, new_name, number_in_names, code_in}
use Rattle.plan_draft.specs.BoxLines.{place_onto, lever_onto, signal_onto, starter_onto, berth_onto, clear_onto}
use Rattle.plan_draft.specs.BoxLines.{permissive_onto, track_onto, row_onto}
use Rattle.plan_draft.specs.Drafts.{DraftFields, start, rank, all_boxes}
use Rattle.plan_draft.specs.declared.draft.Stage.{Stage}
use Rattle.plan_draft.specs.declared.draft.Stage.TheVariants as stages

-- ---- what a line of each kind makes of the plan so far

-- plan V: the version, 1 or 2
unfoldable pub plan_onto : DraftFields → List (List ℕ) → Result DraftFields Cause
plan_onto draft words = do
  two ← counted 2 2 words
  version ← number_in 1 2 (word 1 words)
  Ok (record draft { stage = stages.Plan; plan = record draft.plan { version = version } })

-- boxes N: how many boxes follow
unfoldable pub boxes_onto : DraftFields → List (List ℕ) → Result DraftFields Cause
boxes_onto draft words = do
  two ← counted 2 2 words
  count ← number_in 2 (most_boxes draft.plan.version) (word 1 words)
  Ok (record draft { stage = stages.Boxes; count = count })

-- delay D: how long a winding takes
unfoldable pub delay_onto : DraftFields → List (List ℕ) → Result DraftFields Cause
delay_onto draft words = do
  two ← counted 2 2 words
  delay ← number_in 0 (most_delay draft.plan.version) (word 1 words)
  Ok (record draft { stage = stages.Delay; plan = record draft.plan { delay = delay } })

-- looks K: the most looks of an await
unfoldable pub looks_onto : DraftFields → List (List ℕ) → Result DraftFields Cause
looks_onto draft words = do
  two ← counted 2 2 words
  looks ← number_in 1 most_looks (word 1 words)
  Ok (record draft { stage = stages.Looks; plan = record draft.plan { looks = looks } })

-- a class more, under the next code number; the code table has room for 190
unfoldable pub with_class : DraftFields → List ℕ → List ℕ → Result DraftFields Cause
with_class draft name code =
    if is_some (code_number draft.plan.codes code) then Err causes.CodeTwice
    else if nat_le 200 (length draft.plan.codes) then Err causes.TooMany
    else Ok (record draft {
      stage = stages.Class;
      plan = record draft.plan {
        codes = draft.plan.codes ++ code ∷ [];
        classes =
            draft.plan.classes ++ record { name = name; code = length draft.plan.codes + 1 } ∷ [];
      };
    })

-- class NAME CODE
unfoldable pub class_onto : DraftFields → List (List ℕ) → Result DraftFields Cause
class_onto draft words = do
  three ← counted 3 3 words
  name ← new_name (names_of_classes draft.plan.classes) (word 1 words)
  code ← code_in (word 2 words)
  with_class draft name code

-- all announced boxes stand already
abbrev pub is_full : DraftFields → Bool
is_full draft = nat_le draft.count (length (all_boxes draft))

-- box NAME: first whether all announced boxes stand already, then the name
unfoldable pub box_onto : DraftFields → List (List ℕ) → Result DraftFields Cause
box_onto draft words = do
  two ← counted 2 2 words
  name ← if is_full draft then Err causes.TooMany else new_name (names_of (all_boxes draft)) (word 1 words)
  Ok (record draft {
    stage = stages.Box;
    plan = record draft.plan { boxes = all_boxes draft };
    here = record no_box { name = name };
  })

-- a place where a train may be brought: no berth
unfoldable pub brought_in : BoxFields → List ℕ → Result ℕ Cause
brought_in box_plan text =
    number_in_names box_plan.places text >>=
    (λ place. if list_any (λ berth. berth == place) (berth_places box_plan) then Err causes.BerthEntered else Ok place)

-- the draft when all its boxes are complete
abbrev pub closed : Stage → DraftFields → DraftFields
closed stage draft = record draft { stage = stage; plan = record draft.plan { boxes = all_boxes draft }; here = no_box }

-- a train more
unfoldable pub with_train : DraftFields → List ℕ → ℕ → ℕ → ℕ → Result DraftFields Cause
with_train draft name class_no box_no place =
    if nat_le most_plan_trains (length draft.plan.trains) then Err causes.TooMany
    else Ok (record draft {
      plan
          = record draft.plan {
            trains = draft.plan.trains
                ++ record { name = name; class_no = class_no; box_no = box_no; place = place } ∷ [];
          };
    })

-- train NAME CLASS BOX PLACE, where all boxes are complete
unfoldable pub train_in : DraftFields → List (List ℕ) → Result DraftFields Cause
train_in draft words = do
  name ← new_name (names_of_trains draft.plan.trains) (word 1 words)
  class_no ← number_in_names (names_of_classes draft.plan.classes) (word 2 words)
  box_no ← number_in_names (names_of draft.plan.boxes) (word 3 words)
  place ← brought_in (box_at draft.plan.boxes box_no) (word 4 words)
  with_train draft name class_no box_no place

-- train NAME CLASS BOX PLACE: first whether all announced boxes stand
unfoldable pub train_onto : DraftFields → List (List ℕ) → Result DraftFields Cause
train_onto draft words = do
  five ← counted 5 5 words
  if is_full draft then train_in (closed stages.Train draft) words else Err causes.TooFewBoxes

-- end: all announced boxes stand
unfoldable pub end_onto : DraftFields → List (List ℕ) → Result DraftFields Cause
end_onto draft words = do
  one ← counted 1 1 words
  if is_full draft then Ok (closed stages.Ended draft) else Err causes.TooFewBoxes

-- ---- which line may stand where

-- the kind of line that a keyword begins
unfoldable pub line_kind : List ℕ → Option Stage
line_kind text =
    if bytes_eq text (codes "plan") then Some stages.Plan
    else if bytes_eq text (codes "boxes") then Some stages.Boxes
    else if bytes_eq text (codes "delay") then Some stages.Delay
    else if bytes_eq text (codes "looks") then Some stages.Looks
    else if bytes_eq text (codes "class") then Some stages.Class
    else if bytes_eq text (codes "box") then Some stages.Box
    else if bytes_eq text (codes "place") then Some stages.Place
    else if bytes_eq text (codes "lever") then Some stages.Lever
    else if bytes_eq text (codes "signal") then Some stages.Signal
    else if bytes_eq text (codes "starter") then Some stages.Starter
    else if bytes_eq text (codes "berth") then Some stages.Berth
    else if bytes_eq text (codes "clear") then Some stages.Clear
    else if bytes_eq text (codes "permissive") then Some stages.Permissive
    else if bytes_eq text (codes "track") then Some stages.Track
    else if bytes_eq text (codes "row") then Some stages.Row
    else if bytes_eq text (codes "train") then Some stages.Train
    else if bytes_eq text (codes "end") then Some stages.Ended
    else None

-- the last line is of one of the kinds from low to high
abbrev pub between : ℕ → ℕ → Stage → Bool
between low high last = nat_le low (rank last) && nat_le (rank last) high

-- Which kinds of lines a line of this kind may follow. The first four follow each other; classes stand behind these,
-- and each box behind them or behind another box; the lines of a box stand behind it, kinds in their order; trains and
-- the end stand anywhere behind the first four.
unfoldable pub may_follow : Stage → Stage → Bool
may_follow stages.Start last = false
may_follow stages.Plan last = between 0 0 last
may_follow stages.Boxes last = between 1 1 last
may_follow stages.Delay last = between 2 2 last
may_follow stages.Looks last = between 3 3 last
may_follow stages.Class last = between 4 5 last
may_follow stages.Box last = between 4 15 last
may_follow stages.Place last = between 6 7 last
may_follow stages.Lever last = between 6 8 last
may_follow stages.Signal last = between 6 9 last
may_follow stages.Starter last = between 6 10 last
may_follow stages.Berth last = between 6 11 last
may_follow stages.Clear last = between 6 12 last
may_follow stages.Permissive last = between 6 13 last
may_follow stages.Track last = between 6 14 last
may_follow stages.Row last = between 6 15 last
may_follow stages.Train last = between 4 16 last
may_follow stages.Ended last = between 4 16 last

-- what a line of this kind makes of box b of so many
unfoldable pub box_with : Stage → ℕ → ℕ → BoxFields → List (List ℕ) → Result BoxFields Cause
box_with stages.Place boxes b here words = place_onto here words
box_with stages.Lever boxes b here words = lever_onto here words
box_with stages.Signal boxes b here words = signal_onto here words
box_with stages.Starter boxes b here words = starter_onto boxes b here words
box_with stages.Berth boxes b here words = berth_onto boxes b here words
box_with stages.Clear boxes b here words = clear_onto here words
box_with stages.Permissive boxes b here words = permissive_onto here words
box_with stages.Track boxes b here words = track_onto here words
box_with stages.Row boxes b here words = row_onto here words
box_with stages.Start boxes b here words = Err causes.WrongKeyword
box_with stages.Plan boxes b here words = Err causes.WrongKeyword
box_with stages.Boxes boxes b here words = Err causes.WrongKeyword
box_with stages.Delay boxes b here words = Err causes.WrongKeyword
box_with stages.Looks boxes b here words = Err causes.WrongKeyword
box_with stages.Class boxes b here words = Err causes.WrongKeyword
box_with stages.Box boxes b here words = Err causes.WrongKeyword
box_with stages.Train boxes b here words = Err causes.WrongKeyword
box_with stages.Ended boxes b here words = Err causes.WrongKeyword

-- a line of this kind of the box whose lines are being read
unfoldable pub here_onto : Stage → DraftFields → List (List ℕ) → Result DraftFields Cause
here_onto kind draft words =
    box_with kind draft.count (length draft.plan.boxes) draft.here words >>=
    (λ here. Ok (record draft { stage = kind; here = here }))

-- what a line of this kind makes of the plan so far
unfoldable pub kind_onto : Stage → DraftFields → List (List ℕ) → Result DraftFields Cause
kind_onto stages.Plan draft words = plan_onto draft words
kind_onto stages.Boxes draft words = boxes_onto draft words
kind_onto stages.Delay draft words = delay_onto draft words
kind_onto stages.Looks draft words = looks_onto draft words
kind_onto stages.Class draft words = class_onto draft words
kind_onto stages.Box draft words = box_onto draft words
kind_onto stages.Train draft words = train_onto draft words
kind_onto stages.Ended draft words = end_onto draft words
kind_onto stages.Start draft words = here_onto stages.Start draft words
kind_onto stages.Place draft words = here_onto stages.Place draft words
kind_onto stages.Lever draft words = here_onto stages.Lever draft words
kind_onto stages.Signal draft words = here_onto stages.Signal draft words
kind_onto stages.Starter draft words = here_onto stages.Starter draft words
kind_onto stages.Berth draft words = here_onto stages.Berth draft words
kind_onto stages.Clear draft words = here_onto stages.Clear draft words
kind_onto stages.Permissive draft words = here_onto stages.Permissive draft words
kind_onto stages.Track draft words = here_onto stages.Track draft words
kind_onto stages.Row draft words = here_onto stages.Row draft words

-- ---- lines

-- a line of this kind, if it may stand here
abbrev pub if_it_may : DraftFields → List (List ℕ) → Option Stage → Result DraftFields Cause
if_it_may draft words None = Err causes.WrongKeyword
if_it_may draft words (Some kind) =
    if may_follow kind draft.stage then kind_onto kind draft words else Err causes.WrongKeyword

-- the line `end` has stood
abbrev pub has_ended : Stage → Bool
has_ended stage = rank stage == 17

-- what the words of a line make of the plan so far
unfoldable pub words_onto : DraftFields → List (List ℕ) → Result DraftFields Cause
words_onto draft words =
    if has_ended draft.stage then Err causes.AfterEnd else if_it_may draft words (line_kind (keyword words))

-- the plan that the bytes spell, or the first fault
unfoldable pub plan_of : List ℕ → Result PlanFields Fault
plan_of bytes = text_onto words_onto (λ draft. has_ended draft.stage) most_bytes start bytes >>=
    (λ draft. Ok draft.plan)
