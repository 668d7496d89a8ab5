-- What a look that met what its call looks for, or didn't, decides.
use Rattle.std.proofs.Common.{◌⊎◌, ⊎_elim, ◌≡◌, ℕ, ◌+◌, ◌≤◌, Bool, true, false, not, ◌&&◌, ◌||◌, Option, Some}
use Rattle.std.proofs.Common.{None, sym, refl, ap, arith}
use Rattle.std.specs.Prelude.{◌==◌, nat_lt}
use Rattle.std.proofs.lemmas.Bool.Decides.{nat_tests}
use Rattle.block_words.specs.Bells.{bell_code}
use Rattle.block_words.specs.Instruments.{block_position}
use Rattle.block_words.specs.Sections.{lane, lane_bits}
use Rattle.block_words.specs.declared.Way.{Way}
use Rattle.block_words.specs.declared.WordOp.{WordOp}
use Rattle.block_words.specs.declared.WordOp.TheVariants as ops
use Rattle.line_plan.specs.Frames.{BoxFields, signal_of}
use Rattle.line_plan.specs.Plans.{PlanFields}
use Rattle.line_law.specs.declared.call.Act.{Act}
use Rattle.line_law.specs.declared.call.Act.TheVariants as acts
use Rattle.line_law.specs.declared.state.BoxState.{BoxState}
use Rattle.line_law.specs.Arrivals.{next_number}
use Rattle.line_law.specs.Instruments.{same_position}
use Rattle.line_law.specs.Law.{decide, link_of}
use Rattle.line_law.specs.Levers.{starter_way}
use Rattle.line_law.specs.Links.{way_of}
use Rattle.line_law.specs.Ways.{of_way}
use Rattle.word_laws.specs.Footprint.{Kind, Tally, BellWord, BlockWord, PlainLineWord, kind_of}
use Rattle.word_laws.specs.Operations.{AtFirst, AtSecond, enter_op, first_by, first_on, first_op, look_op, next_lane}
use Rattle.word_laws.specs.Operations.{pull_op, second_by, second_on, second_op}
use Rattle.word_laws.specs.WordNumbers.{one_if}
use Rattle.word_laws.specs.Operations.{met_by}
use Rattle.box_desk.specs.Steps.{awaits_of}
use Rattle.instrument_rule.specs.Calls.{look_count, looks_by}
use Rattle.word_laws.specs.Operations.{op_decides}

-- ---- by the word that a look has met

not_there : (last : Bool) (m n : ℕ) → (m == n) ≡ true → (last && not (m == n)) ≡ false
not_there true m n h = rw h refl
not_there false m n h = refl

zero_lane : (n : ℕ) → (n == 0) ≡ true → nat_lt 0 n ≡ false
zero_lane n h = grind (arith, nat_tests)

some_lane : (n : ℕ) → (n == 0) ≡ false → nat_lt 0 n ≡ true
some_lane n h = grind (arith, nat_tests)

-- where a second operation follows, the look has decided nothing
move_undecided : (box_plan : BoxFields) (act : Act) (here : BoxState) (train n : ℕ) (last : Bool) (w : Option Way)
    (op : WordOp) → enter_op here train w ≡ Some op
    → ((way : Way) → op_decides box_plan act here (ops.LookSection way) last n ≡ false)
    → op_decides box_plan act here (look_op w) last n ≡ false
move_undecided box_plan act here train n last None op e h = absurd cc
move_undecided box_plan act here train n last (Some way) op e h = h way

by_act : (box_plan : BoxFields) (act : Act) (here : BoxState) (n : ℕ) (last : Bool) (op : WordOp)
    → second_by box_plan act here ≡ Some op → met_by box_plan act here n ≡ true
    → op_decides box_plan act here (first_by box_plan act here) last n ≡ false
by_act box_plan (acts.AwaitBell side code) here n last op e h = not_there last (bell_code n) code h
by_act box_plan (acts.Pass lever) here n last op e h = move_undecided box_plan (acts.Pass lever) here _ n last
    (starter_way (signal_of box_plan lever)) op e (λ way. zero_lane
    (next_lane here (way_of (link_of box_plan (acts.Pass lever))) n) h)
by_act box_plan (acts.Overrun lever) here n last op e h = move_undecided box_plan (acts.Overrun lever) here _ n last
    (starter_way (signal_of box_plan lever)) op e (λ way. zero_lane
    (next_lane here (way_of (link_of box_plan (acts.Overrun lever))) n) h)
by_act box_plan act here n last op e h = absurd cc

-- a first operation that has met what it was for, with a second one due, decides nothing
pub undecided : (box_plan : BoxFields) (act : Act) (here : BoxState) (k : Kind) (n : ℕ) (last : Bool) (op : WordOp)
    → second_on k (second_by box_plan act here) ≡ Some op → met_by box_plan act here n ≡ true
    → op_decides box_plan act here (first_on k (first_by box_plan act here)) last n ≡ false
undecided box_plan act here Tally n last op e h = absurd cc
undecided box_plan act here BellWord n last op e h = by_act box_plan act here n last op e h
undecided box_plan act here BlockWord n last op e h = by_act box_plan act here n last op e h
undecided box_plan act here PlainLineWord n last op e h = by_act box_plan act here n last op e h

-- a look that has met what it was for, and is followed by nothing
or_yes : (last t : Bool) → t ≡ true → (last || t) ≡ true
or_yes true t h = refl
or_yes false t h = h

move_alone : (box_plan : BoxFields) (act : Act) (here : BoxState) (train n : ℕ) (last : Bool) (w : Option Way)
    → enter_op here train w ≡ None → op_decides box_plan act here (look_op w) last n ≡ true
move_alone box_plan act here train n last None e = refl
move_alone box_plan act here train n last (Some way) e = absurd cc

pull_decides : (box_plan : BoxFields) (act : Act) (here : BoxState) (n : ℕ) (last : Bool) (w : Option Way)
    → op_decides box_plan act here (pull_op w) last n ≡ true
pull_decides box_plan act here n last None = refl
pull_decides box_plan act here n last (Some way) = refl

alone_by : (box_plan : BoxFields) (act : Act) (here : BoxState) (n : ℕ) (last : Bool)
    → second_by box_plan act here ≡ None → met_by box_plan act here n ≡ true
    → op_decides box_plan act here (first_by box_plan act here) last n ≡ true
alone_by box_plan (acts.AwaitBell side code) here n last e h = absurd cc
alone_by box_plan (acts.AwaitBlock way p) here n last e h = or_yes last (same_position (block_position n) p) h
alone_by box_plan (acts.Pull lever) here n last e h = pull_decides box_plan (acts.Pull lever) here n last
    (starter_way (signal_of box_plan lever))
alone_by box_plan (acts.Pass lever) here n last e h = move_alone box_plan (acts.Pass lever) here _ n last
    (starter_way (signal_of box_plan lever)) e
alone_by box_plan (acts.Overrun lever) here n last e h = move_alone box_plan (acts.Overrun lever) here _ n last
    (starter_way (signal_of box_plan lever)) e
alone_by box_plan (acts.AwaitTrain way) here n last e h = or_yes last (nat_lt 0 (lane n (next_number here way))) h
alone_by box_plan act here n last e h = refl

-- one that has met what it was for, with no second one, decides its call
pub alone : (box_plan : BoxFields) (act : Act) (here : BoxState) (k : Kind) (n : ℕ) (last : Bool)
    → second_on k (second_by box_plan act here) ≡ None → met_by box_plan act here n ≡ true
    → op_decides box_plan act here (first_on k (first_by box_plan act here)) last n ≡ true
alone box_plan act here Tally n last e h = refl
alone box_plan act here BellWord n last e h = alone_by box_plan act here n last e h
alone box_plan act here BlockWord n last e h = alone_by box_plan act here n last e h
alone box_plan act here PlainLineWord n last e h = alone_by box_plan act here n last e h

-- a last look that has not met what it was for
not_equal : (m n : ℕ) → (m == n) ≡ false → (true && not (m == n)) ≡ true
not_equal m n h = rw h refl

move_last : (box_plan : BoxFields) (act : Act) (here : BoxState) (n : ℕ) (w : Option Way)
    → ((way : Way) → op_decides box_plan act here (ops.LookSection way) true n ≡ true)
    → op_decides box_plan act here (look_op w) true n ≡ true
move_last box_plan act here n None h = refl
move_last box_plan act here n (Some way) h = h way

last_by : (box_plan : BoxFields) (act : Act) (here : BoxState) (n : ℕ) → met_by box_plan act here n ≡ false
    → op_decides box_plan act here (first_by box_plan act here) true n ≡ true
last_by box_plan (acts.AwaitBell side code) here n h = not_equal (bell_code n) code h
last_by box_plan (acts.Pull lever) here n h = pull_decides box_plan (acts.Pull lever) here n true
    (starter_way (signal_of box_plan lever))
last_by box_plan (acts.Pass lever) here n h = move_last box_plan (acts.Pass lever) here n
    (starter_way (signal_of box_plan lever)) (λ way. some_lane
    (next_lane here (way_of (link_of box_plan (acts.Pass lever))) n) h)
last_by box_plan (acts.Overrun lever) here n h = move_last box_plan (acts.Overrun lever) here n
    (starter_way (signal_of box_plan lever)) (λ way. some_lane
    (next_lane here (way_of (link_of box_plan (acts.Overrun lever))) n) h)
last_by box_plan act here n h = refl

-- a last look that has not met what it was for decides its call
pub at_last : (box_plan : BoxFields) (act : Act) (here : BoxState) (k : Kind) (n : ℕ)
    → met_by box_plan act here n ≡ false → op_decides box_plan act here (first_on k (first_by box_plan act here)) true
    n ≡ true
at_last box_plan act here Tally n h = refl
at_last box_plan act here BellWord n h = last_by box_plan act here n h
at_last box_plan act here BlockWord n h = last_by box_plan act here n h
at_last box_plan act here PlainLineWord n h = last_by box_plan act here n h

-- a look of an await that is not the last, and has not met it
pub record Waits (plan : PlanFields) (box_plan : BoxFields) (act : Act) (here : BoxState) (n : ℕ) : Type 0 where
  pub undecided : op_decides box_plan act here (first_on (kind_of (decide plan box_plan act here))
      (first_by box_plan act here)) false n ≡ false
  pub one : looks_by act (first_on (kind_of (decide plan box_plan act here)) (first_by box_plan act here)) ≡ 1

-- an await that has not met what it was for waits on
pub waits : (plan : PlanFields) (box_plan : BoxFields) (act : Act) (here : BoxState) (n : ℕ) → awaits_of act ≡ true
    → met_by box_plan act here n ≡ false → Waits plan box_plan act here n
waits plan box_plan (acts.AwaitBell side code) here n a h = record { undecided = refl; one = refl }
waits plan box_plan (acts.AwaitBlock way p) here n a h = record { undecided = h; one = refl }
waits plan box_plan (acts.AwaitTrain way) here n a h = record { undecided = h; one = refl }
waits plan box_plan act here n a h = absurd cc

-- ---- how many looks an operation is

-- a look of an await is one look, and any operation one at most
pub look_one : (plan : PlanFields) (box_plan : BoxFields) (act : Act) (here : BoxState) → awaits_of act ≡ true
    → looks_by act (first_on (kind_of (decide plan box_plan act here)) (first_by box_plan act here)) ≡ 1
look_one plan box_plan (acts.AwaitBell side code) here a = refl
look_one plan box_plan (acts.AwaitBlock way p) here a = refl
look_one plan box_plan (acts.AwaitTrain way) here a = refl
look_one plan box_plan act here a = absurd cc

count_few : (act : Act) → look_count act ≤ 1
count_few (acts.AwaitBell side code) = omega arith
count_few act = omega arith

-- an operation is one look at most
pub looks_few : (act : Act) (op : WordOp) → looks_by act op ≤ 1
looks_few act (ops.LookBell side) = count_few act
looks_few act (ops.LookBlock way) = count_few act
looks_few act (ops.LookSection way) = count_few act
looks_few act op = omega arith

-- a second operation is none
enter_none : (act : Act) (here : BoxState) (train : ℕ) (w : Option Way) (op : WordOp) → enter_op here train w ≡ Some op
    → looks_by act op ≡ 0
enter_none act here train None op e = absurd cc
enter_none act here train (Some way) op e = let same : ops.Enter way (lane_bits (of_way here.sent way + 1) train) ≡ op =
    cc in ap (looks_by act) (sym same)

-- a second operation is no look
pub second_none : (box_plan : BoxFields) (act : Act) (here : BoxState) (op : WordOp)
    → second_by box_plan act here ≡ Some op → looks_by act op ≡ 0
second_none box_plan (acts.AwaitBell side code) here op e = let same : ops.Hear side ≡ op = cc in
    ap (looks_by (acts.AwaitBell side code)) (sym same)
second_none box_plan (acts.Pass lever) here op e = enter_none (acts.Pass lever) here _
    (starter_way (signal_of box_plan lever)) op e
second_none box_plan (acts.Overrun lever) here op e = enter_none (acts.Overrun lever) here _
    (starter_way (signal_of box_plan lever)) op e
second_none box_plan act here op e = absurd cc

-- the looks of a first operation of an ask, and of a second
-- an await that was decided at its second operation has met what it was for
yes_equal : (m n : ℕ) → m ≡ n → (m == n) ≡ true
yes_equal m n h = grind (arith, nat_tests)

second_met : (plan : PlanFields) (box_plan : BoxFields) (act : Act) (here : BoxState) (op : WordOp) (n : ℕ)
    → awaits_of act ≡ true → second_op plan box_plan act here ≡ Some op → AtSecond plan box_plan act here n
    → met_by box_plan act here n ≡ true
second_met plan box_plan (acts.AwaitBell side code) here op n a e h = yes_equal (bell_code n) code h
second_met plan box_plan act here op n a e h = absurd cc

two_ops : (plan : PlanFields) (box_plan : BoxFields) (act : Act) (here : BoxState) (op : WordOp) → awaits_of act ≡ true
    → first_op plan box_plan act here ≡ op → second_op plan box_plan act here ≡ Some op → ⊥
two_ops plan box_plan (acts.AwaitBell side code) here op a e h = let other : ops.Hear side ≡ op = cc in absurd cc
two_ops plan box_plan act here op a e h = absurd cc

-- so it has where the law decided it at a second operation
pub sure_met : (plan : PlanFields) (box_plan : BoxFields) (act : Act) (here : BoxState) (op : WordOp) (n : ℕ)
    → awaits_of act ≡ true → second_op plan box_plan act here ≡ Some op
    → ((first_op plan box_plan act here ≡ op) × AtFirst plan box_plan act here n) ⊎
    ((second_op plan box_plan act here ≡ Some op) × AtSecond plan box_plan act here n)
    → met_by box_plan act here n ≡ true
sure_met plan box_plan act here op n a e h = ⊎_elim
    (λ (t : (first_op plan box_plan act here ≡ op) × AtFirst plan box_plan act here n). absurd
    (two_ops plan box_plan act here op a t.0 e))
    (λ (t : (second_op plan box_plan act here ≡ Some op) × AtSecond plan box_plan act here n). second_met plan box_plan
    act here op n a e t.1) h

-- a first operation adds a look exactly where its call is an await
not_counted : (act : Act) (op : WordOp) → look_count act ≡ 0 → looks_by act op ≡ 0
not_counted act (ops.LookBell side) h = h
not_counted act (ops.LookBlock way) h = h
not_counted act (ops.LookSection way) h = h
not_counted act op h = refl

-- a first operation is a look exactly where its call is an await
pub first_counted : (plan : PlanFields) (box_plan : BoxFields) (act : Act) (here : BoxState)
    → looks_by act (first_op plan box_plan act here) ≡ one_if (awaits_of act)
first_counted plan box_plan (acts.AwaitBell side code) here = refl
first_counted plan box_plan (acts.AwaitBlock way p) here = refl
first_counted plan box_plan (acts.AwaitTrain way) here = refl
first_counted plan box_plan act here = not_counted act (first_op plan box_plan act here) refl
