-- Every call keeps what a pair keeps.
use Rattle.std.proofs.Common.{◌≡◌, ℕ, ◌+◌, ◌≤◌, Bool, true, false, cond, IsTrue, List, [], ◌∷◌, Option, Some, None, All}
use Rattle.std.proofs.Common.{drop, refl, arith}
use Rattle.std.specs.Prelude.{◌==◌}
use Rattle.std.proofs.lemmas.List.Elements.{All-append, All-cons, All-nil, All-tail}
use Rattle.block_words.specs.declared.Way.{Way}
use Rattle.line_plan.specs.Frames.{BoxFields}
use Rattle.line_plan.specs.Plans.{PlanFields, is_train}
use Rattle.line_plan.specs.declared.plan.TrainPlan.{TrainPlan}
use Rattle.line_law.specs.declared.call.Act.{Act}
use Rattle.line_law.specs.declared.state.Bell.{Bell}
use Rattle.line_law.specs.declared.state.Block.{Block}
use Rattle.line_law.specs.declared.state.BoxState.{BoxState}
use Rattle.line_law.specs.declared.state.PairState.{PairState}
use Rattle.line_law.specs.declared.state.Passage.{Passage}
use Rattle.line_law.specs.Arrivals.{next_number, next_train, train_awaited, train_berthed, train_cleared, train_parted}
use Rattle.line_law.specs.Bells.{awaited, heard, rung}
use Rattle.line_law.specs.Decisions.{Decision, Told, on_pair}
use Rattle.line_law.specs.Instruments.{same_position}
use Rattle.line_law.specs.Levers.{is_unspent_clear}
use Rattle.line_law.specs.Lines.{IsBoxOf, IsPairAfter}
use Rattle.line_law.specs.Outcomes.{Outcome, Refused, Rings, Hears, AwaitsBell, Turns, AwaitsBlock, Pulls, PullsStarter}
use Rattle.line_law.specs.Outcomes.{Puts, Brings, GoesTo, GoesAway, Enters, AwaitsTrain, Berths, Parts, Clears, Winds}
use Rattle.line_law.specs.Outcomes.{Releases}
use Rattle.line_law.specs.Sound.{IsSound}
use Rattle.line_law.specs.Trains.{enter, holds, left_by}
use Rattle.line_law.specs.Ways.{of_way, with_way}
use Rattle.line_law.proofs.Boxes.{stands_is, ways_with}

-- a train on a plain line is one of the plan
abbrev IsOn : List TrainPlan → Passage → Type 0
IsOn trains p = IsTrue (is_train trains p.train)

-- what a pair has after some calls it has after more
pub more : (trains : List TrainPlan) (n : ℕ) (pair : PairState) → IsPairAfter trains n pair
    → IsPairAfter trains (n + 1) pair
more trains n pair h =
    record { bells = λ w. omega (arith, h.bells w); blocks = λ w. omega (arith, h.blocks w); lines = h.lines }

bell_keeps : (trains : List TrainPlan) (n : ℕ) (pair : PairState) (v : Way) (bell : Bell) → bell.count ≤ n + 1
    → IsPairAfter trains n pair → IsPairAfter trains (n + 1) (record pair { bells = with_way pair.bells v bell })
bell_keeps trains n pair v bell few h =
    record {
      bells =
          ways_with (λ w (x : Bell). x.count ≤ n + 1) pair.bells v bell few (λ w. omega (arith, h.bells w));
      blocks =
          λ w. omega (arith, h.blocks w);
      lines = h.lines;
    }

block_keeps : (trains : List TrainPlan) (n : ℕ) (pair : PairState) (v : Way) (block : Block) → block.turns ≤ n + 1
    → IsPairAfter trains n pair → IsPairAfter trains (n + 1) (record pair { blocks = with_way pair.blocks v block })
block_keeps trains n pair v block few h =
    record {
      bells = λ w. omega (arith, h.bells w);
      blocks =
          ways_with (λ w (x : Block). x.turns ≤ n + 1) pair.blocks v block few (λ w. omega (arith, h.blocks w));
      lines =
          h.lines;
    }

line_keeps : (trains : List TrainPlan) (n : ℕ) (pair : PairState) (v : Way) (line : List Passage)
    → All (IsOn trains) line → IsPairAfter trains n pair
    → IsPairAfter trains (n + 1) (record pair { lines = with_way pair.lines v line })
line_keeps trains n pair v line all h =
    record {
      bells = λ w. omega (arith, h.bells w);
      blocks = λ w. omega (arith, h.blocks w);
      lines =
          ways_with (λ w (x : List Passage). All (IsOn trains) x) pair.lines v line all h.lines;
    }

rung_count : (here : BoxState) (side : Way) (code count : ℕ) (u : Option ℕ)
    → (rung here side code count u).word.count ≤ count + 1
rung_count here side code count (Some held) = omega arith
rung_count here side code count None = omega arith

heard_count : (here : BoxState) (count : ℕ) (u : Option ℕ) → (heard here count u).word.count ≡ count
heard_count here count (Some code) = refl
heard_count here count None = refl

word_of : {W : Type 0} (b : Bool) (P : W → Type 0) (x y : Told W) → P x.word → P y.word → P (cond b x y).word
word_of true P x y p q = p
word_of false P x y p q = q

awaited_count : (here : BoxState) (code count : ℕ) (u : Option ℕ) → (awaited here code count u).word.count ≡ count
awaited_count here code count (Some held) = word_of (held == code) (λ (x : Bell). x.count ≡ count) _ _ refl refl
awaited_count here code count None = refl

rest_on : (trains : List TrainPlan) (line : List Passage) → All (IsOn trains) line → All (IsOn trains) (drop 1 line)
rest_on trains [] all = all
rest_on trains (p ∷ line) all = All-tail (IsOn trains) p line all

awaits_on : (t : Option ℕ) (trains : List TrainPlan) (here : BoxState) (j : ℕ) (line : List Passage)
    → All (IsOn trains) line → All (IsOn trains) (train_awaited t here j line).word
awaits_on None trains here j line all = all
awaits_on (Some train) trains here j line all = all

berthed_on : (t : Option ℕ) (trains : List TrainPlan) (here : BoxState) (way : Way) (place j : ℕ) (line : List Passage)
    → All (IsOn trains) line → All (IsOn trains) (train_berthed t here way place j line).word
berthed_on None trains here way place j line all = all
berthed_on (Some train) trains here way place j line all = rest_on trains line all

parted_on : (t : Option ℕ) (trains : List TrainPlan) (here : BoxState) (way : Way) (place j : ℕ) (line : List Passage)
    → All (IsOn trains) line → All (IsOn trains) (train_parted t here way place j line).word
parted_on None trains here way place j line all = all
parted_on (Some train) trains here way place j line all = all

cleared_on : (t : Option ℕ) (trains : List TrainPlan) (here : BoxState) (way : Way) (j : ℕ) (line : List Passage)
    → All (IsOn trains) line → All (IsOn trains) (train_cleared t here way j line).word
cleared_on None trains here way j line all = all
cleared_on (Some train) trains here way j line all = rest_on trains line all

entered_on : (trains : List TrainPlan) (here left : BoxState) (way : Way) (train : ℕ) (line : List Passage)
    → IsTrue (is_train trains train) → All (IsOn trains) line → All (IsOn trains) (enter here left way train line).word
entered_on trains here left way train line one all =
    word_of (holds line (of_way here.sent way + 1)) (λ (x : List Passage). All (IsOn trains) x) _ _ all
    (All-append (IsOn trains) line (record { number = of_way here.sent way + 1; train = train } ∷ []) all
    (All-cons (IsOn trains) (record { number = of_way here.sent way + 1; train = train }) [] one
    (All-nil (IsOn trains))))

-- every call keeps what its pair keeps, with one call more
pub pair_keeps : (plan : PlanFields) (bp : BoxFields) (n : ℕ) (here : BoxState) (pair : PairState) (v : Way) (act : Act)
    (d : Decision) → IsSound bp → IsBoxOf plan.trains bp here → Outcome plan bp here act d
    → IsPairAfter plan.trains n pair → IsPairAfter plan.trains (n + 1) (on_pair v d pair).word
pair_keeps plan bp n here pair v act d sound is (Refused a reply refused) h = more plan.trains n pair h
pair_keeps plan bp n here pair v act d sound is (Rings side code) h = let c =
    rung_count here side code (of_way pair.bells v).count (of_way pair.bells v).unheard in
    bell_keeps plan.trains n pair v _ (omega (arith, c, h.bells v)) h
pair_keeps plan bp n here pair v act d sound is (Hears side) h = let c =
    heard_count here (of_way pair.bells v).count (of_way pair.bells v).unheard in
    bell_keeps plan.trains n pair v _ (omega (arith, c, h.bells v)) h
pair_keeps plan bp n here pair v act d sound is (AwaitsBell side code) h = let c =
    awaited_count here code (of_way pair.bells v).count (of_way pair.bells v).unheard in
    bell_keeps plan.trains n pair v _ (omega (arith, c, h.bells v)) h
pair_keeps plan bp n here pair v act d sound is (Turns way position berth e free) h =
    block_keeps plan.trains n pair v _ (omega (arith, h.blocks v)) h
pair_keeps plan bp n here pair v act d sound is (AwaitsBlock way position) h =
    block_keeps plan.trains n pair v _
    (word_of (same_position (of_way pair.blocks v).position position) (λ (x : Block). x.turns ≤ n + 1) _ _
    (omega (arith, h.blocks v)) (omega (arith, h.blocks v))) h
pair_keeps plan bp n here pair v act d sound is (Pulls lever e free) h = more plan.trains n pair h
pair_keeps plan bp n here pair v act d sound is (PullsStarter lever way e free) h =
    block_keeps plan.trains n pair v _
    (word_of (is_unspent_clear (of_way pair.blocks v)) (λ (x : Block). x.turns ≤ n + 1) _ _
    (omega (arith, h.blocks v)) (omega (arith, h.blocks v))) h
pair_keeps plan bp n here pair v act d sound is (Puts lever free) h = more plan.trains n pair h
pair_keeps plan bp n here pair v act d sound is (Brings train free) h = more plan.trains n pair h
pair_keeps plan bp n here pair v act d sound is (GoesTo a lever signal train place e to there moves) h =
    more plan.trains n pair h
pair_keeps plan bp n here pair v act d sound is (GoesAway a lever signal train e to there moves) h =
    more plan.trains n pair h
pair_keeps plan bp n here pair v act d sound is (Enters a lever signal train way e to there moves) h =
    let says = sound.signal lever signal e in
    let one =
    stands_is plan.trains here.places signal.from train (omega (arith, says.from, is.frame.places)) is.occupants
    there in
    line_keeps plan.trains n pair v _
    (entered_on plan.trains here (left_by bp here signal) way train (of_way pair.lines v) one (h.lines v)) h
pair_keeps plan bp n here pair v act d sound is (AwaitsTrain way) h =
    line_keeps plan.trains n pair v _
    (awaits_on (next_train here way (of_way pair.lines v)) plan.trains here (next_number here way) (of_way pair.lines v)
    (h.lines v)) h
pair_keeps plan bp n here pair v act d sound is (Berths way berth e free) h =
    line_keeps plan.trains n pair v _
    (berthed_on (next_train here way (of_way pair.lines v)) plan.trains here way berth.place (next_number here way)
    (of_way pair.lines v) (h.lines v)) h
pair_keeps plan bp n here pair v act d sound is (Parts way berth e free) h =
    line_keeps plan.trains n pair v _
    (parted_on (next_train here way (of_way pair.lines v)) plan.trains here way berth.place (next_number here way)
    (of_way pair.lines v) (h.lines v)) h
pair_keeps plan bp n here pair v act d sound is (Clears way free) h =
    line_keeps plan.trains n pair v _
    (cleared_on (next_train here way (of_way pair.lines v)) plan.trains here way (next_number here way)
    (of_way pair.lines v) (h.lines v)) h
pair_keeps plan bp n here pair v act d sound is (Winds way free) h = more plan.trains n pair h
pair_keeps plan bp n here pair v act d sound is (Releases way free) h = more plan.trains n pair h
