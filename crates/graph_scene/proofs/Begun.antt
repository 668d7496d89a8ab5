-- No entry begins two bars.
use Rattle.std.proofs.Common.{ℕ, ◌+◌, ◌<◌, ◌≤◌, List, [], ◌∷◌, ◌++◌, Option, None, Some, All, arith}
use Rattle.std.proofs.lemmas.List.Elements.{All-append, All-cons, All-nil, All-weaker}
use Rattle.std.proofs.lemmas.List.Kept.{AllPairs-cons}
use Rattle.std.specs.List.{AllPairs}
use Rattle.block_words.specs.declared.Position.{Position}
use Rattle.block_words.specs.declared.Position.TheVariants as shows
use Rattle.line_law.specs.declared.call.Entry.{Entry}
use Rattle.graph_scene.specs.declared.bars.Bar.{Bar}
use Rattle.graph_scene.specs.declared.bars.Turn.{Turn}
use Rattle.graph_scene.specs.Turns.{bar_at, bar_between, bar_shown, bars_from, bars_of, next_turn, turn_of}

shown_from : (position : Position) (bar : Bar) (n : ℕ) → n ≤ bar.from
    → All (λ (b : Bar). n ≤ b.from) (bar_shown position bar)
shown_from shows.Normal bar n h = All-nil (λ (b : Bar). n ≤ b.from)
shown_from shows.LineClear bar n h = All-cons (λ (b : Bar). n ≤ b.from) bar [] h (All-nil (λ (b : Bar). n ≤ b.from))
shown_from shows.TrainOnLine bar n h = All-cons (λ (b : Bar). n ≤ b.from) bar [] h (All-nil (λ (b : Bar). n ≤ b.from))

at_from : (b : ℕ) (turn : Option Turn) (n : ℕ) (es : List Entry)
    → All (λ (bar : Bar). n ≤ bar.from) (bar_at b turn n es)
at_from b None n es = All-nil (λ (bar : Bar). n ≤ bar.from)
at_from b (Some turn) n es =
    shown_from turn.position (bar_between b turn n (next_turn b turn.way (n + 1) es)) n (omega arith)

all_from : (n : ℕ) (es : List Entry) → All (λ (bar : Bar). n ≤ bar.from) (bars_from n es)
all_from n [] = All-nil (λ (bar : Bar). n ≤ bar.from)
all_from n (e ∷ es) =
    All-append (λ (bar : Bar). n ≤ bar.from) (bar_at e.box_no (turn_of e) n es) (bars_from (n + 1) es)
    (at_from e.box_no (turn_of e) n es)
    (All-weaker (λ (bar : Bar). n + 1 ≤ bar.from) (λ (bar : Bar). n ≤ bar.from) (λ bar h. omega (arith, h))
    (bars_from (n + 1) es) (all_from (n + 1) es))

before : (position : Position) (bar : Bar) (bars : List Bar) → All (λ (b : Bar). bar.from < b.from) bars
    → AllPairs (λ (one other : Bar). one.from < other.from) bars
    → AllPairs (λ (one other : Bar). one.from < other.from) (bar_shown position bar ++ bars)
before shows.Normal bar bars later rise = rise
before shows.LineClear bar bars later rise =
    AllPairs-cons (λ (one other : Bar). one.from < other.from) bar bars later rise
before shows.TrainOnLine bar bars later rise =
    AllPairs-cons (λ (one other : Bar). one.from < other.from) bar bars later rise

at_before : (b : ℕ) (turn : Option Turn) (n : ℕ) (es : List Entry) (bars : List Bar)
    → All (λ (bar : Bar). n + 1 ≤ bar.from) bars → AllPairs (λ (one other : Bar). one.from < other.from) bars
    → AllPairs (λ (one other : Bar). one.from < other.from) (bar_at b turn n es ++ bars)
at_before b None n es bars later rise = rise
at_before b (Some turn) n es bars later rise =
    before turn.position (bar_between b turn n (next_turn b turn.way (n + 1) es)) bars
    (All-weaker (λ (bar : Bar). n + 1 ≤ bar.from) (λ (bar : Bar). n < bar.from) (λ bar h. omega (arith, h)) bars later)
    rise

rise_from : (n : ℕ) (es : List Entry) → AllPairs (λ (one other : Bar). one.from < other.from) (bars_from n es)
rise_from n [] = λ i j d above within. absurd (omega (arith, within))
rise_from n (e ∷ es) =
    at_before e.box_no (turn_of e) n es (bars_from (n + 1) es) (all_from (n + 1) es) (rise_from (n + 1) es)

-- the bars stand in the order of the entries that begin them, each of which begins one
pub bars_rise : (es : List Entry) → AllPairs (λ (one other : Bar). one.from < other.from) (bars_of es)
bars_rise es = rise_from 0 es
