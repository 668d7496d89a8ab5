-- What an entry adds to the bars, and to the next turns, of the entries behind it.
use Rattle.std.proofs.Common.{◌≡◌, ◌∙◌, ℕ, ◌+◌, ◌<◌, Bool, true, false, cond, ◌&&◌, List, ◌++◌, Option, None, Some}
use Rattle.std.proofs.Common.{length, get_or, drop, reverse, refl, ap, eqb}
use Rattle.std.proofs.lemmas.List.{drop_more}
use Rattle.block_words.specs.declared.Position.{Position}
use Rattle.block_words.specs.declared.Position.TheVariants as shows
use Rattle.block_words.specs.declared.Way.{Way}
use Rattle.block_words.specs.declared.Way.TheVariants.{Up, Down}
use Rattle.line_plan.specs.Frames.{same_way}
use Rattle.line_law.specs.declared.call.Entry.{Entry}
use Rattle.line_law.specs.declared.ways.ByWay.{ByWay}
use Rattle.line_law.specs.Ways.{with_way}
use Rattle.graph_scene.specs.declared.bars.Bar.{Bar}
use Rattle.graph_scene.specs.declared.bars.Turn.{Turn}
use Rattle.graph_scene.specs.Turns.{bar_at, bar_shown, bars_from, is_turn_of, next_turn, next_turns, turn_of}

-- the bars from an entry on, by its turn
pub bars_at : (es : List Entry) (n : ℕ) (d : Entry) (turn : Option Turn) → n < length es
    → turn_of (get_or es n d) ≡ turn
    → bars_from n (drop n es)
    ≡ bar_at (get_or es n d).box_no turn n (drop (n + 1) es) ++ bars_from (n + 1) (drop (n + 1) es)
bars_at es n d turn within is =
    ap (bars_from n) (drop_more es n d within)
    ∙ ap (λ (t : Option Turn). bar_at (get_or es n d).box_no t n (drop (n + 1) es)
    ++ bars_from (n + 1) (drop (n + 1) es)) is

-- the next turn from an entry on
next_at : (es : List Entry) (n : ℕ) (d : Entry) (turn : Option Turn) (b : ℕ) (way : Way) → n < length es
    → turn_of (get_or es n d) ≡ turn
    → next_turn b way n (drop n es)
    ≡ cond (is_turn_of b way (get_or es n d).box_no turn) (Some n) (next_turn b way (n + 1) (drop (n + 1) es))
next_at es n d turn b way within is =
    ap (next_turn b way n) (drop_more es n d within)
    ∙ ap (λ (t : Option Turn). cond (is_turn_of b way (get_or es n d).box_no t) (Some n)
    (next_turn b way (n + 1) (drop (n + 1) es))) is

-- an entry that turns nothing
pub next_same : (es : List Entry) (n : ℕ) (d : Entry) (b : ℕ) → n < length es → turn_of (get_or es n d) ≡ None
    → next_turns b n (drop n es) ≡ next_turns b (n + 1) (drop (n + 1) es)
next_same es n d b within is =
    let up = next_at es n d None b Up within is in
    let down = next_at es n d None b Down within is in
    cc

abbrev by_test : (test : Bool) (n : ℕ) (way : Way) (both : ByWay (Option ℕ)) → ByWay (Option ℕ)
by_test test n way both =
    record {
      up = cond (test && same_way way Up) (Some n) both.up;
      down = cond (test && same_way way Down) (Some n) both.down;
    }

turned_here : (n : ℕ) (way : Way) (both : ByWay (Option ℕ)) → by_test true n way both ≡ with_way both way (Some n)
turned_here n Up both = refl
turned_here n Down both = refl

turned_elsewhere : (n : ℕ) (way : Way) (both : ByWay (Option ℕ)) → by_test false n way both ≡ both
turned_elsewhere n way both = refl

next_by : (es : List Entry) (n : ℕ) (d : Entry) (turn : Turn) (b : ℕ) → n < length es
    → turn_of (get_or es n d) ≡ Some turn
    → next_turns b n (drop n es)
    ≡ by_test (eqb (get_or es n d).box_no b) n turn.way (next_turns b (n + 1) (drop (n + 1) es))
next_by es n d turn b within is =
    let up = next_at es n d (Some turn) b Up within is in
    let down = next_at es n d (Some turn) b Down within is in
    cc

-- an entry that turns an instrument of this box
pub next_here : (es : List Entry) (n : ℕ) (d : Entry) (turn : Turn) (b : ℕ) → n < length es
    → turn_of (get_or es n d) ≡ Some turn → eqb (get_or es n d).box_no b ≡ true
    → next_turns b n (drop n es) ≡ with_way (next_turns b (n + 1) (drop (n + 1) es)) turn.way (Some n)
next_here es n d turn b within is here =
    next_by es n d turn b within is
    ∙ ap (λ (test : Bool). by_test test n turn.way (next_turns b (n + 1) (drop (n + 1) es))) here
    ∙ turned_here n turn.way (next_turns b (n + 1) (drop (n + 1) es))

-- an entry that turns one of another box
pub next_elsewhere : (es : List Entry) (n : ℕ) (d : Entry) (turn : Turn) (b : ℕ) → n < length es
    → turn_of (get_or es n d) ≡ Some turn → eqb (get_or es n d).box_no b ≡ false
    → next_turns b n (drop n es) ≡ next_turns b (n + 1) (drop (n + 1) es)
next_elsewhere es n d turn b within is elsewhere =
    next_by es n d turn b within is
    ∙ ap (λ (test : Bool). by_test test n turn.way (next_turns b (n + 1) (drop (n + 1) es))) elsewhere
    ∙ turned_elsewhere n turn.way (next_turns b (n + 1) (drop (n + 1) es))

-- one bar at most is the same the other way round
pub reverse-shown : (position : Position) (bar : Bar) → reverse (bar_shown position bar) ≡ bar_shown position bar
reverse-shown shows.Normal bar = refl
reverse-shown shows.LineClear bar = refl
reverse-shown shows.TrainOnLine bar = refl

pub ruleset bar_rules = (bars_at, next_same, next_here, next_elsewhere, reverse-shown)
