-- The turns of instruments, and for how long they show what they were turned to.
use Rattle.std.specs.Prelude.{ℕ, ◌+◌, Bool, false, ◌==◌, ◌&&◌, List, [], ◌∷◌, ◌++◌, Option, Some, None, if◌then◌else◌}
use Rattle.block_words.specs.declared.Position.{Position}
use Rattle.block_words.specs.declared.Position.TheVariants as shows
use Rattle.block_words.specs.declared.Way.{Way}
use Rattle.block_words.specs.declared.Way.TheVariants.{Up, Down}
use Rattle.line_plan.specs.Frames.{same_way}
use Rattle.line_law.specs.declared.call.Act.{Act}
use Rattle.line_law.specs.declared.call.Act.TheVariants as acts
use Rattle.line_law.specs.declared.call.Entry.{Entry}
use Rattle.line_law.specs.declared.call.Reply.{Reply}
use Rattle.line_law.specs.declared.call.Reply.TheVariants as replies
use Rattle.line_law.specs.declared.ways.ByWay.{ByWay}
use Rattle.graph_scene.specs.declared.bars.Bar.{Bar}
use Rattle.graph_scene.specs.declared.bars.Turn.{Turn}

-- the turn of the instrument of an incoming line, by a call and its reply
abbrev pub turned : Act → Reply → Option Turn
turned (acts.Turn way position) (replies.Turned v) = Some (record { way = way; position = position })
turned act reply = None

-- the turn of an instrument by an entry, if there is one
abbrev pub turn_of : Entry → Option Turn
turn_of e = turned e.call.act e.reply

-- a turn, if there is one, that a box makes is one of the instrument that box b works for an incoming line
abbrev pub is_turn_of : ℕ → Way → ℕ → Option Turn → Bool
is_turn_of b way by None = false
is_turn_of b way by (Some turn) = by == b && same_way turn.way way

-- the first of these entries, with these numbers, that turns the instrument of box b for an incoming line
abbrev pub next_turn : ℕ → Way → ℕ → List Entry → Option ℕ
next_turn b way number [] = None
next_turn b way number (e ∷ es) =
    if is_turn_of b way e.box_no (turn_of e) then Some number else next_turn b way (number + 1) es

-- the same for either line
abbrev pub next_turns : ℕ → ℕ → List Entry → ByWay (Option ℕ)
next_turns b number es = record { up = next_turn b Up number es; down = next_turn b Down number es }

-- the bar of a turn by box b, from one entry up to another or to the end
abbrev pub bar_between : ℕ → Turn → ℕ → Option ℕ → Bar
bar_between b turn from to =
    record { box_no = b; way = turn.way; position = turn.position; from = from; to = to }

-- a turn to Normal begins no bar
abbrev pub bar_shown : Position → Bar → List Bar
bar_shown shows.Normal bar = []
bar_shown shows.LineClear bar = bar ∷ []
bar_shown shows.TrainOnLine bar = bar ∷ []

-- the bar that box b begins by the entry with this number, before these entries, if it begins one: up to the next turn
-- of the same instrument
abbrev pub bar_at : ℕ → Option Turn → ℕ → List Entry → List Bar
bar_at b None number es = []
bar_at b (Some turn) number es =
    bar_shown turn.position (bar_between b turn number (next_turn b turn.way (number + 1) es))

-- the bars of entries with these numbers and the next, in order
abbrev pub bars_from : ℕ → List Entry → List Bar
bars_from number [] = []
bars_from number (e ∷ es) = bar_at e.box_no (turn_of e) number es ++ bars_from (number + 1) es

-- the bars of a journal
abbrev pub bars_of : List Entry → List Bar
bars_of es = bars_from 0 es
