-- What was rung and what was heard on one bell.
use Rattle.std.specs.Prelude.{ℕ, Bool, true, false, ◌==◌, ◌&&◌, List, [], ◌∷◌, ◌++◌, Option, Some, None, if◌then◌else◌}
use Rattle.std.specs.Option.{option_to_list}
use Rattle.block_words.specs.Ways.{opposite}
use Rattle.block_words.specs.declared.Way.{Way}
use Rattle.line_plan.specs.Frames.{same_way}
use Rattle.line_law.specs.declared.call.Act.{Act}
use Rattle.line_law.specs.declared.call.Act.TheVariants.{Ring, Hear, AwaitBell}
use Rattle.line_law.specs.declared.call.Entry.{Entry}
use Rattle.line_law.specs.declared.call.Reply.{Reply}
use Rattle.line_law.specs.declared.call.Reply.TheVariants.{Rung, BellBusy, Heard, Silent, BellNotYet}
use Rattle.line_law.specs.declared.link.Link.{Link}
use Rattle.line_law.specs.declared.link.Link.TheVariants.{Out, In}
use Rattle.line_law.specs.declared.state.Bell.{Bell}
use Rattle.line_law.specs.Links.{pair_no, way_of}
use Rattle.line_law.specs.States.{LineState, pair_at}
use Rattle.line_law.specs.Ways.{of_way}

-- the line of the bell that a call is on, if it is on one
abbrev pub bell_link : Act → Option Link
bell_link (Ring side code) = Some (Out side)
bell_link (Hear side) = Some (In (opposite side))
bell_link (AwaitBell side code) = Some (In (opposite side))
bell_link act = None

-- the bell of a line of box b is the one between the boxes p and p + 1 that is rung that way
abbrev pub is_bell : ℕ → Way → ℕ → Option Link → Bool
is_bell p way b None = false
is_bell p way b (Some link) = pair_no b link == p && same_way (way_of link) way

-- an entry is on the bell between the boxes p and p + 1 that is rung that way
abbrev pub is_on_bell : ℕ → Way → Entry → Bool
is_on_bell p way e = is_bell p way e.box_no (bell_link e.call.act)

-- a code was rung
abbrev pub is_rung : Reply → Bool
is_rung (Rung k) = true
is_rung reply = false

-- the code that a call rang, if it rang one
abbrev pub code_rung : Act → Reply → List ℕ
code_rung (Ring side code) reply = if is_rung reply then code ∷ [] else []
code_rung act reply = []

-- the code that a call heard, if it heard one
abbrev pub code_heard : Reply → List ℕ
code_heard (Heard code k) = code ∷ []
code_heard reply = []

-- the count of its bell that a reply tells, where it is one of a call on a bell
abbrev pub count_told : Reply → ℕ
count_told (Rung k) = k
count_told (BellBusy code k) = k
count_told (Heard code k) = k
count_told (Silent k) = k
count_told (BellNotYet shown k) = k
count_told reply = 0

-- the codes that were rung on a bell, in order
abbrev pub rung_on : ℕ → Way → List Entry → List ℕ
rung_on p way [] = []
rung_on p way (e ∷ es) = (if is_on_bell p way e then code_rung e.call.act e.reply else []) ++ rung_on p way es

-- the codes that were heard on a bell, in order
abbrev pub heard_on : ℕ → Way → List Entry → List ℕ
heard_on p way [] = []
heard_on p way (e ∷ es) = (if is_on_bell p way e then code_heard e.reply else []) ++ heard_on p way es

-- a bell in a state
abbrev pub bell_at : LineState → ℕ → Way → Bell
bell_at state p way = of_way (pair_at state p).bells way

-- the code that stands unheard on a bell, if one does
abbrev pub unheard_on : LineState → ℕ → Way → List ℕ
unheard_on state p way = option_to_list (bell_at state p way).unheard
