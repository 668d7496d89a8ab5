-- What the man of a box notices of what others do.
use Rattle.std.specs.Prelude.{ℕ, zero, suc, ◌+◌, ◌-◌, ◌==◌, ◌&&◌, Bool, true, false, List, [], ◌∷◌, ◌++◌, Option, Some}
use Rattle.std.specs.Prelude.{None, codes, if◌then◌else◌}
use Rattle.std.specs.List.{flat_map}
use Rattle.bell_codes.specs.Table.{code_at}
use Rattle.block_words.specs.Ways.{opposite}
use Rattle.block_words.specs.declared.Position.{Position}
use Rattle.block_words.specs.declared.Way.{Way}
use Rattle.line_plan.specs.Frames.{signal_of}
use Rattle.line_plan.specs.Plans.{PlanFields, box_name}
use Rattle.line_plan.specs.Ways.{way_word}
use Rattle.line_law.specs.declared.call.Act.{Act}
use Rattle.line_law.specs.declared.call.Act.TheVariants as acts
use Rattle.line_law.specs.declared.call.Entry.{Entry}
use Rattle.line_law.specs.declared.call.Reply.{Reply}
use Rattle.line_law.specs.declared.call.Reply.TheVariants as replies
use Rattle.line_law.specs.declared.state.Passage.{Passage}
use Rattle.line_law.specs.Law.{box_plan_of}
use Rattle.line_law.specs.Levers.{starter_way}
use Rattle.line_law.specs.Ways.{of_way}
use Rattle.reply_sentences.specs.Names.{position_name}
use Rattle.script_text.specs.Names.{code_no_text, train_text}
use Rattle.box_view.specs.declared.notices.Listener.{Listener}
use Rattle.box_view.specs.Meanings.{asked_text, meaning_text}
use Rattle.box_view.specs.Sides.{leads}

-- ---- a bell as it sounds

-- further beats of a group
abbrev pub more_beats : ℕ → List ℕ
more_beats zero = []
more_beats (suc n) = more_beats n ++ codes "-ting"

-- the beats of a group of one or more
abbrev pub group_sound : ℕ → List ℕ
group_sound beats = codes "ting" ++ more_beats (beats - 1)

-- a further group stands behind a pause
abbrev pub further_sound : ℕ → List ℕ
further_sound beats = 32 ∷ group_sound beats

-- a code as it sounds: three beats, a pause and one are `ting-ting-ting ting`
abbrev pub sound_text : List ℕ → List ℕ
sound_text [] = []
sound_text (first ∷ rest) = group_sound first ++ flat_map further_sound rest

-- ---- what is noticed

-- the code that he rang last is this one
abbrev pub is_same_code : Option ℕ → ℕ → Bool
is_same_code None code = false
is_same_code (Some rung) code = rung == code

-- what a code asks or means that is rung to him: where it is the one that he rang last, it is acknowledged
abbrev pub rung_text : PlanFields → Option ℕ → ℕ → List ℕ
rung_text plan last code =
    if is_same_code last code then codes "acknowledged, " ++ meaning_text plan code else asked_text plan code

-- a code as it sounds and as it is written
abbrev pub ring_front : PlanFields → ℕ → List ℕ
ring_front plan code =
    codes "*" ++ sound_text (code_at plan.codes code) ++ codes "*  " ++ code_no_text plan.codes code

-- from which box it comes, and what it asks or means
abbrev pub ring_back : PlanFields → Option ℕ → List ℕ → ℕ → List ℕ
ring_back plan last name code = codes " from " ++ name ++ codes ": " ++ rung_text plan last code ++ 10 ∷ []

-- the line of a code that a box of this name rings to him
abbrev pub named_ring : PlanFields → Option ℕ → List ℕ → ℕ → List ℕ
named_ring plan last name code = ring_front plan code ++ ring_back plan last name code

-- the line of a code that box a rings to him, who rang this one last towards it, if any
abbrev pub ring_line : PlanFields → Option ℕ → ℕ → ℕ → List ℕ
ring_line plan last a code = named_ring plan last (box_name plan a) code

-- what the repeater to a box of this name shows
abbrev pub named_repeater : Way → List ℕ → Position → List ℕ
named_repeater way name position =
    (codes "the repeater of the " ++ way_word way ++ codes " line to " ++ name)
    ++ (codes " shows " ++ position_name position ++ 10 ∷ [])

-- the line of a repeater of his that box a turns
abbrev pub repeater_line : PlanFields → ℕ → Way → Position → List ℕ
repeater_line plan a way position = named_repeater way (box_name plan a) position

-- the line of a train that comes to his home
abbrev pub train_line : PlanFields → Way → ℕ → List ℕ
train_line plan way train =
    codes "a train comes to the home of the " ++ way_word way ++ codes " line: " ++ train_text plan train ++ 10 ∷ []

-- ---- which entries he notices

-- a code was rung
abbrev pub is_rung : Reply → Bool
is_rung (replies.Rung k) = true
is_rung reply = false

-- an instrument was turned
abbrev pub is_turned : Reply → Bool
is_turned (replies.Turned v) = true
is_turned reply = false

-- the train that entered a section, with its number, if one did
abbrev pub entered_by : Reply → Option Passage
entered_by (replies.Entered train k) = Some (record { number = k; train = train })
entered_by reply = None

-- a train that enters a line to him, who has taken so many of it: he notices the next that he takes
abbrev pub entered_text : PlanFields → Way → ℕ → Option Passage → List ℕ
entered_text plan way taken None = []
entered_text plan way taken (Some passage) =
    if passage.number == taken + 1 then train_line plan way passage.train else []

-- the same by the line into which the signal leads, if it is a starter's and the line comes into his box
abbrev pub entering_text : PlanFields → Listener → ℕ → Reply → Option Way → List ℕ
entering_text plan him a reply None = []
entering_text plan him a reply (Some way) =
    if leads plan a way him.box_no then entered_text plan way (of_way him.taken way) (entered_by reply) else []

-- What the man of a box notices of an act of box a: a code that is rung to him, a turn of the instrument of a line that
-- leaves him, and a train that comes to his home.
abbrev pub noticed : PlanFields → Listener → ℕ → Reply → Act → List ℕ
noticed plan him a reply (acts.Ring side code) =
    if is_rung reply && leads plan a side him.box_no then ring_line plan (of_way him.rung (opposite side)) a code
    else []
noticed plan him a reply (acts.Turn way position) =
    if is_turned reply && leads plan a (opposite way) him.box_no then repeater_line plan a way position else []
noticed plan him a reply (acts.Pass lever) =
    entering_text plan him a reply (starter_way (signal_of (box_plan_of plan a) lever))
noticed plan him a reply (acts.Overrun lever) =
    entering_text plan him a reply (starter_way (signal_of (box_plan_of plan a) lever))
noticed plan him a reply act = []

-- what he notices of an entry
abbrev pub notice_text : PlanFields → Listener → Entry → List ℕ
notice_text plan him e = noticed plan him e.box_no e.reply e.call.act

-- what he notices of these entries, in their order
abbrev pub notices_text : PlanFields → Listener → List Entry → List ℕ
notices_text plan him es = flat_map (λ e. notice_text plan him e) es
