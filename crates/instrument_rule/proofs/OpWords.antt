-- The word of a call's operations, and where they decide it.
use Rattle.std.proofs.Common.{◌≡◌, ◌≢◌, ℕ, ◌+◌, ◌<◌, Bool, true, false, not, ◌&&◌, Option, Some, None, refl, sym, ap}
use Rattle.std.proofs.Common.{◌∙◌, arith, inl, inr}
use Rattle.std.specs.Prelude.{◌==◌, nat_lt}
use Rattle.std.proofs.lemmas.Bool.Decides.{eqb_tells, nat_tests}
use Rattle.block_words.specs.Bells.{bell_code}
use Rattle.block_words.specs.Operations.{word_after}
use Rattle.block_words.specs.Sections.{lane_bits}
use Rattle.block_words.specs.declared.Way.{Way}
use Rattle.block_words.specs.declared.WordOp.{WordOp}
use Rattle.block_words.specs.declared.WordOp.TheVariants as ops
use Rattle.line_plan.specs.Frames.{BoxFields, leads_to, signal_of, way_to}
use Rattle.line_plan.specs.Plans.{PlanFields}
use Rattle.line_plan.specs.declared.signal.Signal.{Signal}
use Rattle.line_law.specs.declared.call.Act.{Act}
use Rattle.line_law.specs.declared.call.Act.TheVariants as acts
use Rattle.line_law.specs.declared.link.Link.TheVariants.{Out}
use Rattle.line_law.specs.declared.state.BoxState.{BoxState}
use Rattle.line_law.specs.Decisions.{Decision}
use Rattle.word_laws.specs.Footprint.{BellWord, BlockWord, Kind, PlainLineWord, Tally, kind_of}
use Rattle.line_law.specs.Law.{link_of}
use Rattle.line_law.specs.Levers.{starter_link, starter_way}
use Rattle.line_law.specs.Links.{pair_no, way_of}
use Rattle.word_laws.specs.Operations.{FirstDecides, FirstOn, SecondOn, enter_op, first_by, first_on, look_op}
use Rattle.word_laws.specs.Operations.{next_lane, op_decides, pull_op, second_by, second_on, train_at_signal}
use Rattle.line_law.specs.Outcomes.{Passes, Overruns, Outcome, Refused, Rings, Hears, AwaitsBell, Turns, AwaitsBlock}
use Rattle.line_law.specs.Outcomes.{Pulls, PullsStarter, Puts, Brings, GoesTo, GoesAway, Enters, AwaitsTrain, Berths}
use Rattle.line_law.specs.Outcomes.{Parts, Clears, Winds, Releases}
use Rattle.line_law.specs.Ways.{of_way}
use Rattle.word_laws.specs.WordNumbers.{Word, word_named}
use Rattle.instrument_rule.specs.Calls.{line_on, block_on, op_word}

-- the word on which a decision is made
abbrev pub decided_on : BoxFields → ℕ → Act → Decision → Word
decided_on box_plan b act d = word_named (kind_of d) b (pair_no b (link_of box_plan act))
    (way_of (link_of box_plan act))

-- ---- the first operation

-- of a move past a starter
pull_word : (b lever : ℕ) (w : Option Way) (way : Way) → w ≡ Some way
    → op_word b (acts.Pull lever) (pull_op w) ≡ block_on b (starter_link w)
pull_word b lever None way e = absurd cc
pull_word b lever (Some v) way e = refl

pass_word : (b lever : ℕ) (w : Option Way) (way : Way) → w ≡ Some way
    → op_word b (acts.Pass lever) (look_op w) ≡ line_on b (starter_link w)
pass_word b lever None way e = absurd cc
pass_word b lever (Some v) way e = refl

overrun_word : (b lever : ℕ) (w : Option Way) (way : Way) → w ≡ Some way
    → op_word b (acts.Overrun lever) (look_op w) ≡ line_on b (starter_link w)
overrun_word b lever None way e = absurd cc
overrun_word b lever (Some v) way e = refl

-- the signal past which a train moves into a section is a starter's
pub starter_is : (box_plan : BoxFields) (lever : ℕ) (signal : Signal) (way : Way)
    → signal_of box_plan lever ≡ Some signal → leads_to signal ≡ Some way
    → starter_way (signal_of box_plan lever) ≡ Some way
starter_is box_plan lever signal way is to = ap starter_way is ∙ to

-- the first operation is on the word on which the call is decided
pub first_word : (plan : PlanFields) (box_plan : BoxFields) (b : ℕ) (act : Act) (here : BoxState) (d : Decision)
    → Outcome plan box_plan here act d
    → op_word b act (first_on (kind_of d) (first_by box_plan act here)) ≡ decided_on box_plan b act d
first_word plan box_plan b act here d (Refused a reply refused) = refl
first_word plan box_plan b act here d (Rings side code) = refl
first_word plan box_plan b act here d (Hears side) = refl
first_word plan box_plan b act here d (AwaitsBell side code) = refl
first_word plan box_plan b act here d (Turns way p berth e free) = refl
first_word plan box_plan b act here d (AwaitsBlock way p) = refl
first_word plan box_plan b act here d (Pulls lever e free) = refl
first_word plan box_plan b act here d (PullsStarter lever way e free) = pull_word b lever
    (starter_way (signal_of box_plan lever)) way e
first_word plan box_plan b act here d (Puts lever free) = refl
first_word plan box_plan b act here d (Brings train free) = refl
first_word plan box_plan b act here d (GoesTo a lever signal train place e to there moves) = refl
first_word plan box_plan b act here d (GoesAway a lever signal train e to there moves) = refl
first_word plan box_plan b act here d (Enters a lever signal train way e to there (Passes free)) = pass_word b lever
    (starter_way (signal_of box_plan lever)) way (starter_is box_plan lever signal way e (ap way_to to))
first_word plan box_plan b act here d
    (Enters a lever signal train way e to there (Overruns free)) = overrun_word b lever
    (starter_way (signal_of box_plan lever)) way (starter_is box_plan lever signal way e (ap way_to to))
first_word plan box_plan b act here d (AwaitsTrain way) = refl
first_word plan box_plan b act here d (Berths way berth e free) = refl
first_word plan box_plan b act here d (Parts way berth e free) = refl
first_word plan box_plan b act here d (Clears way free) = refl
first_word plan box_plan b act here d (Winds way free) = refl
first_word plan box_plan b act here d (Releases way free) = refl

-- ---- the second operation

-- an act and an operation of a second kind: a code is heard that was awaited, or a train enters
abbrev pub SecondWord : ℕ → Act → Option WordOp → Word → Type 0
SecondWord b act o word = (op : WordOp) → o ≡ Some op → op_word b act op ≡ word

none_second : (b : ℕ) (act : Act) (word : Word) → SecondWord b act None word
none_second b act word op e = absurd cc

-- a second operation that is on a word
pub some_second : (b : ℕ) (act : Act) (mine : WordOp) (word : Word) → op_word b act mine ≡ word
    → SecondWord b act (Some mine) word
some_second b act mine word h op e = let same : mine ≡ op = cc in ap (op_word b act) (sym same) ∙ h

-- a train that enters does so on the line that its starter leads to
pub enter_word : (b train : ℕ) (act : Act) (here : BoxState) (w : Option Way)
    → SecondWord b act (enter_op here train w) (line_on b (starter_link w))
enter_word b train act here None op e = absurd cc
enter_word b train act here (Some way) op e = some_second b act _ (line_on b (Out way)) refl op e

-- the second operation, if there is one, is on the word on which the call is decided
pub second_word : (plan : PlanFields) (box_plan : BoxFields) (b : ℕ) (act : Act) (here : BoxState) (d : Decision)
    → Outcome plan box_plan here act d
    → SecondWord b act (second_on (kind_of d) (second_by box_plan act here)) (decided_on box_plan b act d)
second_word plan box_plan b act here d (Refused a reply refused) = none_second b a _
second_word plan box_plan b act here d (Rings side code) = none_second b act _
second_word plan box_plan b act here d (Hears side) = none_second b act _
second_word plan box_plan b act here d (AwaitsBell side code) = some_second b act (ops.Hear side) _ refl
second_word plan box_plan b act here d (Turns way p berth e free) = none_second b act _
second_word plan box_plan b act here d (AwaitsBlock way p) = none_second b act _
second_word plan box_plan b act here d (Pulls lever e free) = none_second b act _
second_word plan box_plan b act here d (PullsStarter lever way e free) = none_second b act _
second_word plan box_plan b act here d (Puts lever free) = none_second b act _
second_word plan box_plan b act here d (Brings train free) = none_second b act _
second_word plan box_plan b act here d (GoesTo a lever signal train place e to there moves) = none_second b a _
second_word plan box_plan b act here d (GoesAway a lever signal train e to there moves) = none_second b a _
second_word plan box_plan b act here d (Enters a lever signal train way e to there (Passes free)) =
    enter_word b (train_at_signal here (signal_of box_plan lever)) (acts.Pass lever) here
    (starter_way (signal_of box_plan lever))
second_word plan box_plan b act here d (Enters a lever signal train way e to there (Overruns free)) =
    enter_word b (train_at_signal here (signal_of box_plan lever)) (acts.Overrun lever) here
    (starter_way (signal_of box_plan lever))
second_word plan box_plan b act here d (AwaitsTrain way) = none_second b act _
second_word plan box_plan b act here d (Berths way berth e free) = none_second b act _
second_word plan box_plan b act here d (Parts way berth e free) = none_second b act _
second_word plan box_plan b act here d (Clears way free) = none_second b act _
second_word plan box_plan b act here d (Winds way free) = none_second b act _
second_word plan box_plan b act here d (Releases way free) = none_second b act _

-- ---- where the first operation decides the call

not_equal : (last : Bool) (m n : ℕ) → (last && not (m == n)) ≡ true → m ≢ n
not_equal true m n h same = elim (eqb_tells m n) [ inl t ↦ (let e = t.0 in absurd cc) | inr t ↦ t.1 same ]
not_equal false m n h same = absurd cc

some_there : (n : ℕ) → nat_lt 0 n ≡ true → 0 < n
some_there n h = grind (arith, nat_tests)

-- a number that isn't above 0 is 0
pub none_there : (n : ℕ) → nat_lt 0 n ≡ false → n ≡ 0
none_there n h = grind (arith, nat_tests)

pass_decides : (box_plan : BoxFields) (lever : ℕ) (here : BoxState) (last : Bool) (n : ℕ) (w : Option Way) (way : Way)
    → w ≡ Some way → op_decides box_plan (acts.Pass lever) here (look_op w) last n ≡ true
    → FirstDecides box_plan (acts.Pass lever) here n
pass_decides box_plan lever here last n None way e h = absurd cc
pass_decides box_plan lever here last n (Some v) way e h = some_there
    (next_lane here (way_of (link_of box_plan (acts.Pass lever))) n) h

overrun_decides : (box_plan : BoxFields) (lever : ℕ) (here : BoxState) (last : Bool) (n : ℕ) (w : Option Way)
    (way : Way)
    → w ≡ Some way → op_decides box_plan (acts.Overrun lever) here (look_op w) last n ≡ true
    → FirstDecides box_plan (acts.Overrun lever) here n
overrun_decides box_plan lever here last n None way e h = absurd cc
overrun_decides box_plan lever here last n (Some v) way e h = some_there
    (next_lane here (way_of (link_of box_plan (acts.Overrun lever))) n) h

-- where the first operation tests as deciding its call, the call is decided there
pub first_decides : (plan : PlanFields) (box_plan : BoxFields) (act : Act) (here : BoxState) (d : Decision)
    (last : Bool) (n : ℕ)
    → Outcome plan box_plan here act d
    → op_decides box_plan act here (first_on (kind_of d) (first_by box_plan act here)) last n ≡ true
    → FirstOn (kind_of d) (FirstDecides box_plan act here n)
first_decides plan box_plan act here d last n (Refused a reply refused) h = tt
first_decides plan box_plan act here d last n (Rings side code) h = tt
first_decides plan box_plan act here d last n (Hears side) h = tt
first_decides plan box_plan act here d last n (AwaitsBell side code) h = not_equal last (bell_code n) code h
first_decides plan box_plan act here d last n (Turns way p berth e free) h = tt
first_decides plan box_plan act here d last n (AwaitsBlock way p) h = tt
first_decides plan box_plan act here d last n (Pulls lever e free) h = tt
first_decides plan box_plan act here d last n (PullsStarter lever way e free) h = tt
first_decides plan box_plan act here d last n (Puts lever free) h = tt
first_decides plan box_plan act here d last n (Brings train free) h = tt
first_decides plan box_plan act here d last n (GoesTo a lever signal train place e to there moves) h = tt
first_decides plan box_plan act here d last n (GoesAway a lever signal train e to there moves) h = tt
first_decides plan box_plan act here d last n (Enters a lever signal train way e to there (Passes free)) h =
    pass_decides box_plan lever here last n (starter_way (signal_of box_plan lever)) way
    (starter_is box_plan lever signal way e (ap way_to to)) h
first_decides plan box_plan act here d last n (Enters a lever signal train way e to there (Overruns free)) h =
    overrun_decides box_plan lever here last n (starter_way (signal_of box_plan lever)) way
    (starter_is box_plan lever signal way e (ap way_to to)) h
first_decides plan box_plan act here d last n (AwaitsTrain way) h = tt
first_decides plan box_plan act here d last n (Berths way berth e free) h = tt
first_decides plan box_plan act here d last n (Parts way berth e free) h = tt
first_decides plan box_plan act here d last n (Clears way free) h = tt
first_decides plan box_plan act here d last n (Winds way free) h = tt
first_decides plan box_plan act here d last n (Releases way free) h = tt

-- ---- where an operation decides nothing

-- it is a look, which changes nothing
pub undecided_stays : (box_plan : BoxFields) (act : Act) (here : BoxState) (op : WordOp) (last : Bool) (n : ℕ)
    → op_decides box_plan act here op last n ≡ false → word_after op n ≡ n
undecided_stays box_plan act here ops.Local last n h = absurd cc
undecided_stays box_plan act here (ops.Ring side expect new) last n h = absurd cc
undecided_stays box_plan act here (ops.Hear side) last n h = absurd cc
undecided_stays box_plan act here (ops.LookBell side) last n h = refl
undecided_stays box_plan act here (ops.Turn way new) last n h = absurd cc
undecided_stays box_plan act here (ops.Pull way) last n h = absurd cc
undecided_stays box_plan act here (ops.LookBlock way) last n h = refl
undecided_stays box_plan act here (ops.LookSection way) last n h = refl
undecided_stays box_plan act here (ops.Enter way bits) last n h = absurd cc
undecided_stays box_plan act here (ops.TakeOut way mask) last n h = absurd cc

-- what the table has past what the box refuses
pub on_kind : (k : Kind) (o : Option WordOp) (op : WordOp) → second_on k o ≡ Some op → o ≡ Some op
on_kind Tally o op e = absurd cc
on_kind BellWord o op e = e
on_kind BlockWord o op e = e
on_kind PlainLineWord o op e = e

enter_always : (box_plan : BoxFields) (act : Act) (here there : BoxState) (train n : ℕ) (last : Bool) (w : Option Way)
    (op : WordOp)
    → enter_op here train w ≡ Some op → op_decides box_plan act there op last n ≡ true
enter_always box_plan act here there train n last None op e = absurd cc
enter_always box_plan act here there train n last (Some way) op e =
    let same : ops.Enter way (lane_bits (of_way here.sent way + 1) train) ≡ op = cc in ap
    (λ (o : WordOp). op_decides box_plan act there o last n) (sym same)

-- a second operation decides its call, whatever it meets
pub second_always : (box_plan : BoxFields) (act : Act) (here there : BoxState) (n : ℕ) (last : Bool) (op : WordOp)
    → second_by box_plan act here ≡ Some op → op_decides box_plan act there op last n ≡ true
second_always box_plan (acts.AwaitBell side code) here there n last op e = let same : ops.Hear side ≡ op = cc in ap
    (λ (o : WordOp). op_decides box_plan (acts.AwaitBell side code) there o last n) (sym same)
second_always box_plan (acts.Pass lever) here there n last op e = enter_always box_plan
    (acts.Pass lever) here there _ n last (starter_way (signal_of box_plan lever)) op e
second_always box_plan (acts.Overrun lever) here there n last op e = enter_always box_plan
    (acts.Overrun lever) here there _ n last (starter_way (signal_of box_plan lever)) op e
second_always box_plan act here there n last op e = absurd cc

-- a second operation is that of the table, past what the box refuses
pub second_is : (k : Kind) (o : Option WordOp) (op : WordOp) → second_on k o ≡ Some op → o ≡ Some op
second_is = on_kind

-- where a call may have a second operation that decides it, it is decided on a word
pub on_word : (k : Kind) (o : Option WordOp) (op : WordOp) (P : Type 0) → second_on k o ≡ Some op → P → SecondOn k P
on_word Tally o op P e h = absurd cc
on_word BellWord o op P e h = h
on_word BlockWord o op P e h = h
on_word PlainLineWord o op P e h = h
