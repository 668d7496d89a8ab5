-- What the bell codes of a plan mean, in the railway's words.
use Rattle.std.specs.Prelude.{ℕ, Bool, ◌+◌, ◌-◌, ◌==◌, ◌&&◌, ◌||◌, nat_le, List, [], ◌∷◌, ◌++◌, codes, if◌then◌else◌}
use Rattle.std.specs.Prelude.{slice_index_or}
use Rattle.line_plan.specs.Plans.{PlanFields}
use Rattle.line_plan.specs.declared.plan.Class.{Class}
use Rattle.script_text.specs.Names.{code_no_text}

-- what the ten codes mean with which every code table begins, by their numbers
abbrev pub opening_meaning : ℕ → List ℕ
opening_meaning code =
    if code == 1 then codes "Call Attention"
    else if code == 2 then codes "express passenger"
    else if code == 3 then codes "ordinary passenger"
    else if code == 4 then codes "empty coaching stock"
    else if code == 5 then codes "light engine"
    else if code == 6 then codes "Train Entering Section"
    else if code == 7 then codes "Train Out of Section"
    else if code == 8 then codes "Cancelling"
    else if code == 9 then codes "Obstruction Danger"
    else codes "Testing"

-- no class
abbrev pub no_class : Class
no_class = record { name = []; code = 0 }

-- the name of the class that a further code offers
abbrev pub class_name : PlanFields → ℕ → List ℕ
class_name plan code = (slice_index_or plan.classes (code - 7) no_class).name

-- what a code means: the first ten as in every plan, each further one a class of the plan
abbrev pub meaning_text : PlanFields → ℕ → List ℕ
meaning_text plan code =
    if nat_le code 10 then opening_meaning code else codes "class " ++ class_name plan code

-- what a train is called that is offered by one of the first five codes
abbrev pub opening_offer : ℕ → List ℕ
opening_offer code =
    if code == 2 then codes "an express passenger train"
    else if code == 3 then codes "an ordinary passenger train"
    else if code == 4 then codes "empty coaching stock"
    else codes "a light engine"

-- what a train is called that is offered by a code
abbrev pub offer_text : PlanFields → ℕ → List ℕ
offer_text plan code =
    if nat_le code 5 then opening_offer code else codes "a train of class " ++ class_name plan code

-- a code that offers a train: the second to the fifth, and those behind the first ten
abbrev pub is_offer : ℕ → Bool
is_offer code = (nat_le 2 code && nat_le code 5) || nat_le 11 code

-- a code as a question, where it offers a train, or else as what it means
abbrev pub asked_text : PlanFields → ℕ → List ℕ
asked_text plan code =
    if is_offer code then codes "is line clear for " ++ offer_text plan code ++ codes "?"
    else meaning_text plan code

-- ---- the code table

-- a code with what it asks or means
abbrev pub code_line : PlanFields → ℕ → List ℕ
code_line plan code = code_no_text plan.codes code ++ codes ": " ++ asked_text plan code ++ 10 ∷ []

-- the lines of these codes, of which the first stands at a place of the code table; codes are numbered from 1
abbrev pub code_lines : PlanFields → ℕ → List (List ℕ) → List ℕ
code_lines plan at [] = []
code_lines plan at (code ∷ rest) = code_line plan (at + 1) ++ code_lines plan (at + 1) rest

-- the lines of the code table
abbrev pub codes_text : PlanFields → List ℕ
codes_text plan = code_lines plan 0 plan.codes
