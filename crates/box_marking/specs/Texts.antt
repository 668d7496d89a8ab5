-- The markings of a journal as they are told.
use Rattle.std.specs.Prelude.{ℕ, Bool, true, false, List, [], ◌∷◌, ◌++◌, length, codes, decimal, nat_lt, if◌then◌else◌}
use Rattle.std.specs.List.{flat_map}
use Rattle.line_plan.specs.Plans.{PlanFields, box_name, is_train, train_at}
use Rattle.line_law.specs.Known.{is_code_no}
use Rattle.script_text.specs.Names.{code_no_text, position_text}
use Rattle.box_marking.specs.declared.lapse.Lapse.{Lapse}
use Rattle.box_marking.specs.declared.lapse.Lapse.TheVariants as lapses
use Rattle.box_marking.specs.declared.marking.Marking.{Marking}

-- the name of the rule by which a lapse is marked
abbrev pub rule_name : Lapse → List ℕ
rule_name (lapses.Unacknowledged code) = codes "unacknowledged"
rule_name (lapses.Misrepeated offered repeated by) = codes "misrepeated"
rule_name (lapses.Misdescribed offered train by) = codes "misdescribed"
rule_name (lapses.LeftOff lever) = codes "left off"
rule_name (lapses.LeftOn shown) = codes "left on"
rule_name (lapses.BeforeCause cause) = codes "before its cause"
rule_name (lapses.Late since) = codes "late"

-- a box, a train and a code by their names; the plan has each that a journal tells of
abbrev pub box_word : PlanFields → ℕ → List ℕ
box_word plan b = if nat_lt b (length plan.boxes) then box_name plan b else codes "an unknown box"

abbrev pub train_word : PlanFields → ℕ → List ℕ
train_word plan train =
    if is_train plan.trains train then (train_at plan.trains train).name else codes "an unknown train"

abbrev pub code_word : PlanFields → ℕ → List ℕ
code_word plan code = if is_code_no plan code then code_no_text plan.codes code else codes "an unknown code"

-- a code, and the entry by which it was offered
abbrev pub offered_by : PlanFields → ℕ → ℕ → List ℕ
offered_by plan code by = code_word plan code ++ codes " by entry " ++ decimal by

-- what an entry is marked for
abbrev pub lapse_text : PlanFields → Lapse → List ℕ
lapse_text plan (lapses.Unacknowledged code) = codes "heard " ++ code_word plan code ++ codes ", never rung back"
lapse_text plan (lapses.Misrepeated offered repeated by) =
    codes "offered " ++ offered_by plan offered by ++ codes ", repeated " ++ code_word plan repeated
lapse_text plan (lapses.Misdescribed offered train by) =
    train_word plan train ++ codes " was offered as " ++ offered_by plan offered by
lapse_text plan (lapses.LeftOff lever) =
    codes "lever " ++ decimal lever ++ codes " wasn't put back behind the train"
lapse_text plan (lapses.LeftOn shown) = codes "the commutator was left at " ++ position_text shown
lapse_text plan (lapses.BeforeCause cause) = codes "its moment lies before that of entry " ++ decimal cause
lapse_text plan (lapses.Late since) = codes "too long after entry " ++ decimal since

-- the number of an entry and the name of its box; and the name of the rule
abbrev pub heading_text : PlanFields → ℕ → ℕ → List ℕ
heading_text plan k b = decimal k ++ 32 ∷ box_word plan b ++ 32 ∷ []

abbrev pub rule_text : Lapse → List ℕ
rule_text lapse = rule_name lapse ++ codes ": "

-- a marking's line: the entry's number, its box, the name of the rule, and what the entry is marked for
unfoldable pub marking_text : PlanFields → Marking → List ℕ
marking_text plan marking =
    heading_text plan marking.entry marking.box_no ++ rule_text marking.lapse ++ lapse_text plan marking.lapse
    ++ 10 ∷ []

-- there is a marking
abbrev pub are_some : List Marking → Bool
are_some [] = false
are_some (marking ∷ markings) = true

-- the line of each, or that there is none
unfoldable pub markings_text : PlanFields → List Marking → List ℕ
markings_text plan markings =
    if are_some markings then flat_map (marking_text plan) markings else codes "nothing to mark" ++ 10 ∷ []
