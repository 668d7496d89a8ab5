-- Every call keeps what a box and a pair have to tell.
use Rattle.std.proofs.Common.{ℕ, ◌+◌, ◌<◌, Bool, true, false, cond, IsTrue, List, Option, Some, None, All, IfSome}
use Rattle.std.proofs.Common.{arith}
use Rattle.std.specs.Prelude.{◌==◌}
use Rattle.block_words.specs.declared.Position.{Position}
use Rattle.block_words.specs.declared.Position.TheVariants as shows
use Rattle.block_words.specs.declared.Way.{Way}
use Rattle.block_words.specs.declared.Way.TheVariants.{Up, Down}
use Rattle.line_plan.specs.Frames.{BoxFields, signal_of}
use Rattle.line_plan.specs.Plans.{PlanFields, is_train}
use Rattle.line_plan.specs.declared.berth.Berth.{Berth}
use Rattle.line_plan.specs.declared.signal.Signal.{Signal}
use Rattle.line_law.specs.declared.call.Act.{Act}
use Rattle.line_law.specs.declared.state.Bell.{Bell}
use Rattle.line_law.specs.declared.state.BoxState.{BoxState}
use Rattle.line_law.specs.declared.state.Incoming.{Incoming}
use Rattle.line_law.specs.declared.state.PairState.{PairState}
use Rattle.line_law.specs.declared.state.Passage.{Passage}
use Rattle.line_law.specs.Arrivals.{next_number, next_train, train_awaited, train_berthed, train_cleared, train_parted}
use Rattle.line_law.specs.Bells.{awaited, heard, rung}
use Rattle.line_law.specs.Controls.{left_control}
use Rattle.line_law.specs.Decisions.{Decision, Told, on_pair}
use Rattle.line_law.specs.Instruments.{line_turned, same_position}
use Rattle.line_law.specs.Known.{is_code_no, knows_act, knows_side, moments_of}
use Rattle.line_law.specs.Levers.{is_unspent_clear, pulled}
use Rattle.line_law.specs.Outcomes.{Outcome, Refused, Rings, Hears, AwaitsBell, Turns, AwaitsBlock, Pulls, PullsStarter}
use Rattle.line_law.specs.Outcomes.{Puts, Brings, GoesTo, GoesAway, Enters, AwaitsTrain, Berths, Parts, Clears, Winds}
use Rattle.line_law.specs.Outcomes.{Releases}
use Rattle.line_law.specs.Tellings.{IsCode, IsOne}
use Rattle.line_law.specs.Trains.{holds, left_by, line_left}
use Rattle.line_law.specs.Ways.{of_way, with_way}
use Rattle.line_law.proofs.Boxes.{ways_with}
use Rattle.line_law.proofs.Found.{both}
use Rattle.line_law.proofs.ToldReplies.{first_one}
use Rattle.line_law.proofs.ToldFacts.{BoxTells, LineTells, PairTells}

-- ---- a box

here_of : {W : Type 0} (t : Bool) (P : BoxState → Type 0) (x y : Told W) → P x.here → P y.here → P (cond t x y).here
here_of true P x y p q = p
here_of false P x y p q = q

rung_here : (plan : PlanFields) (here : BoxState) (side : Way) (code count : ℕ) (u : Option ℕ) → BoxTells plan here
    → BoxTells plan (rung here side code count u).here
rung_here plan here side code count (Some held) h = h
rung_here plan here side code count None h = h

heard_here : (plan : PlanFields) (here : BoxState) (count : ℕ) (u : Option ℕ) → BoxTells plan here
    → BoxTells plan (heard here count u).here
heard_here plan here count (Some code) h = h
heard_here plan here count None h = h

awaited_here : (plan : PlanFields) (here : BoxState) (code count : ℕ) (u : Option ℕ) → BoxTells plan here
    → BoxTells plan (awaited here code count u).here
awaited_here plan here code count (Some held) h = here_of (held == code) (BoxTells plan) _ _ h h
awaited_here plan here code count None h = h

pulled_here : (plan : PlanFields) (here : BoxState) (lever : ℕ) (s : Option Signal) → BoxTells plan here
    → BoxTells plan (pulled here lever s)
pulled_here plan here lever None h = h
pulled_here plan here lever (Some signal) h = h

turned_line : (plan : PlanFields) (line : Incoming) (position : Position) (v : ℕ) → LineTells plan line
    → LineTells plan (line_turned line position v)
turned_line plan line shows.Normal v h = record { ready = h.ready; portion = h.portion }
turned_line plan line shows.LineClear v h = record { ready = tt; portion = h.portion }
turned_line plan line shows.TrainOnLine v h = record { ready = h.ready; portion = h.portion }

left_line : (plan : PlanFields) (b : Option Berth) (place : ℕ) (line : Incoming) → LineTells plan line
    → LineTells plan (line_left b place line)
left_line plan None place line h = h
left_line plan (Some berth) place line h = go (berth.place == place) where
  go : (t : Bool) → LineTells plan (cond t (record line { control = left_control line.control }) line)
  go true = record { ready = h.ready; portion = h.portion }
  go false = h

left_here : (plan : PlanFields) (bp : BoxFields) (here : BoxState) (s : Signal) → BoxTells plan here
    → BoxTells plan (left_by bp here s)
left_here plan bp here s h Up = left_line plan bp.berth_up s.from here.incoming.up (h Up)
left_here plan bp here s h Down = left_line plan bp.berth_down s.from here.incoming.down (h Down)

-- an incoming line is written
line_here : (plan : PlanFields) (here : BoxState) (way : Way) (line : Incoming) → LineTells plan line
    → BoxTells plan here → BoxTells plan (record here { incoming = with_way here.incoming way line })
line_here plan here way line new h = ways_with (λ w (x : Incoming). LineTells plan x) here.incoming way line new h

awaits_here : (o : Option ℕ) (plan : PlanFields) (here : BoxState) (j : ℕ) (line : List Passage) → BoxTells plan here
    → BoxTells plan (train_awaited o here j line).here
awaits_here None plan here j line h = h
awaits_here (Some train) plan here j line h = h

berthed_here : (o : Option ℕ) (plan : PlanFields) (here : BoxState) (way : Way) (place j : ℕ) (line : List Passage)
    → BoxTells plan here → BoxTells plan (train_berthed o here way place j line).here
berthed_here None plan here way place j line h = h
berthed_here (Some train) plan here way place j line h =
    line_here plan here way _ (record { ready = tt; portion = (h way).portion }) h

parted_here : (o : Option ℕ) (plan : PlanFields) (here : BoxState) (way : Way) (place j : ℕ) (line : List Passage)
    → IfSome o (IsOne plan) → BoxTells plan here → BoxTells plan (train_parted o here way place j line).here
parted_here None plan here way place j line one h = h
parted_here (Some train) plan here way place j line one h =
    line_here plan here way _ (record { ready = tt; portion = one }) h

cleared_tells_here : (o : Option ℕ) (plan : PlanFields) (here : BoxState) (way : Way) (j : ℕ) (line : List Passage)
    → BoxTells plan here → BoxTells plan (train_cleared o here way j line).here
cleared_tells_here None plan here way j line h = h
cleared_tells_here (Some train) plan here way j line h =
    line_here plan here way _ (record { ready = (h way).ready; portion = tt }) h

-- every call at a moment of the day keeps what its box has to tell
pub box_tells : (plan : PlanFields) (bp : BoxFields) (here : BoxState) (pair : PairState) (v : Way) (act : Act)
    (d : Decision) → Outcome plan bp here act d → here.moment < moments_of plan.version
    → ((w : Way) → All (λ passage. IsTrue (is_train plan.trains passage.train)) (of_way pair.lines w))
    → BoxTells plan here → BoxTells plan (on_pair v d pair).here
box_tells plan bp here pair v act d (Refused a reply refused) day lines h = h
box_tells plan bp here pair v act d (Rings side code) day lines h =
    rung_here plan here side code (of_way pair.bells v).count (of_way pair.bells v).unheard h
box_tells plan bp here pair v act d (Hears side) day lines h =
    heard_here plan here (of_way pair.bells v).count (of_way pair.bells v).unheard h
box_tells plan bp here pair v act d (AwaitsBell side code) day lines h =
    awaited_here plan here code (of_way pair.bells v).count (of_way pair.bells v).unheard h
box_tells plan bp here pair v act d (Turns way position berth e free) day lines h =
    line_here plan here way _ (turned_line plan (of_way here.incoming way) position _ (h way)) h
box_tells plan bp here pair v act d (AwaitsBlock way position) day lines h =
    here_of (same_position (of_way pair.blocks v).position position) (BoxTells plan) _ _ h h
box_tells plan bp here pair v act d (Pulls lever e free) day lines h =
    pulled_here plan here lever (signal_of bp lever) h
box_tells plan bp here pair v act d (PullsStarter lever way e free) day lines h =
    here_of (is_unspent_clear (of_way pair.blocks v)) (BoxTells plan) _ _
    (pulled_here plan here lever (signal_of bp lever) h) h
box_tells plan bp here pair v act d (Puts lever free) day lines h = h
box_tells plan bp here pair v act d (Brings train free) day lines h = h
box_tells plan bp here pair v act d (GoesTo a lever signal train place e to there moves) day lines h =
    left_here plan bp here signal h
box_tells plan bp here pair v act d (GoesAway a lever signal train e to there moves) day lines h =
    left_here plan bp here signal h
box_tells plan bp here pair v act d (Enters a lever signal train way e to there moves) day lines h =
    here_of (holds (of_way pair.lines v) (of_way here.sent way + 1)) (BoxTells plan) _ _ h
    (left_here plan bp here signal h)
box_tells plan bp here pair v act d (AwaitsTrain way) day lines h =
    awaits_here (next_train here way (of_way pair.lines v)) plan here (next_number here way) (of_way pair.lines v) h
box_tells plan bp here pair v act d (Berths way berth e free) day lines h =
    berthed_here (next_train here way (of_way pair.lines v)) plan here way berth.place (next_number here way)
    (of_way pair.lines v) h
box_tells plan bp here pair v act d (Parts way berth e free) day lines h =
    parted_here (next_train here way (of_way pair.lines v)) plan here way berth.place (next_number here way)
    (of_way pair.lines v) (first_one plan (next_number here way) (of_way pair.lines v) (lines v)) h
box_tells plan bp here pair v act d (Clears way free) day lines h =
    cleared_tells_here (next_train here way (of_way pair.lines v)) plan here way (next_number here way)
    (of_way pair.lines v) h
box_tells plan bp here pair v act d (Winds way free) day lines h =
    line_here plan here way _ (record { ready = omega (arith, day); portion = (h way).portion }) h
box_tells plan bp here pair v act d (Releases way free) day lines h =
    line_here plan here way _ (record { ready = tt; portion = (h way).portion }) h

-- ---- a pair

-- a bell is written
bell_here : (plan : PlanFields) (pair : PairState) (v : Way) (bell : Bell) → IfSome bell.unheard (IsCode plan)
    → PairTells plan pair → PairTells plan (record pair { bells = with_way pair.bells v bell })
bell_here plan pair v bell new h = ways_with (λ w (x : Bell). IfSome x.unheard (IsCode plan)) pair.bells v bell new h

rung_bell : (plan : PlanFields) (here : BoxState) (side : Way) (code count : ℕ) (u : Option ℕ) → IsCode plan code
    → IfSome u (IsCode plan) → IfSome (rung here side code count u).word.unheard (IsCode plan)
rung_bell plan here side code count (Some held) known h = h
rung_bell plan here side code count None known h = known

heard_bell : (plan : PlanFields) (here : BoxState) (count : ℕ) (u : Option ℕ)
    → IfSome (heard here count u).word.unheard (IsCode plan)
heard_bell plan here count (Some code) = tt
heard_bell plan here count None = tt

word_of : {W : Type 0} (t : Bool) (P : W → Type 0) (x y : Told W) → P x.word → P y.word → P (cond t x y).word
word_of true P x y p q = p
word_of false P x y p q = q

awaited_bell : (plan : PlanFields) (here : BoxState) (code count : ℕ) (u : Option ℕ) → IfSome u (IsCode plan)
    → IfSome (awaited here code count u).word.unheard (IsCode plan)
awaited_bell plan here code count (Some held) h =
    word_of (held == code) (λ (x : Bell). IfSome x.unheard (IsCode plan)) _ _ tt h
awaited_bell plan here code count None h = tt

-- every known call keeps what its pair has to tell
pub pair_tells : (plan : PlanFields) (b : ℕ) (bp : BoxFields) (here : BoxState) (pair : PairState) (v : Way) (act : Act)
    (d : Decision) → Outcome plan bp here act d → IsTrue (knows_act plan b act) → PairTells plan pair
    → PairTells plan (on_pair v d pair).word
pair_tells plan b bp here pair v act d (Refused a reply refused) known h = h
pair_tells plan b bp here pair v act d (Rings side code) known h =
    bell_here plan pair v _
    (rung_bell plan here side code (of_way pair.bells v).count (of_way pair.bells v).unheard
    (both (knows_side plan b side) (is_code_no plan code) known).1 (h v)) h
pair_tells plan b bp here pair v act d (Hears side) known h =
    bell_here plan pair v _ (heard_bell plan here (of_way pair.bells v).count (of_way pair.bells v).unheard) h
pair_tells plan b bp here pair v act d (AwaitsBell side code) known h =
    bell_here plan pair v _
    (awaited_bell plan here code (of_way pair.bells v).count (of_way pair.bells v).unheard (h v)) h
pair_tells plan b bp here pair v act d (Turns way position berth e free) known h = h
pair_tells plan b bp here pair v act d (AwaitsBlock way position) known h = h
pair_tells plan b bp here pair v act d (Pulls lever e free) known h = h
pair_tells plan b bp here pair v act d (PullsStarter lever way e free) known h = h
pair_tells plan b bp here pair v act d (Puts lever free) known h = h
pair_tells plan b bp here pair v act d (Brings train free) known h = h
pair_tells plan b bp here pair v act d (GoesTo a lever signal train place e to there moves) known h = h
pair_tells plan b bp here pair v act d (GoesAway a lever signal train e to there moves) known h = h
pair_tells plan b bp here pair v act d (Enters a lever signal train way e to there moves) known h = h
pair_tells plan b bp here pair v act d (AwaitsTrain way) known h = h
pair_tells plan b bp here pair v act d (Berths way berth e free) known h = h
pair_tells plan b bp here pair v act d (Parts way berth e free) known h = h
pair_tells plan b bp here pair v act d (Clears way free) known h = h
pair_tells plan b bp here pair v act d (Winds way free) known h = h
pair_tells plan b bp here pair v act d (Releases way free) known h = h
