-- At which of its operations a call is decided, by what the desk tells of the first.
use Rattle.std.proofs.Common.{◌≡◌, ◌≢◌, ℕ, ◌<◌, Bool, true, false, Option, Some, None, refl, ap, arith}
use Rattle.std.proofs.Common.{inl, inr}
use Rattle.std.specs.Prelude.{◌==◌, ◌⊎◌}
use Rattle.std.proofs.lemmas.Bool.Decides.{eqb_tells}
use Rattle.block_words.specs.Bells.{bell_code}
use Rattle.block_words.specs.Operations.{word_after}
use Rattle.block_words.specs.declared.Way.{Way}
use Rattle.block_words.specs.declared.WordOp.{WordOp}
use Rattle.block_words.specs.declared.WordOp.TheVariants as ops
use Rattle.line_plan.specs.Frames.{BoxFields, signal_of, way_to}
use Rattle.line_plan.specs.Plans.{PlanFields}
use Rattle.line_law.specs.declared.call.Act.{Act}
use Rattle.line_law.specs.declared.call.Act.TheVariants as acts
use Rattle.line_law.specs.declared.state.BoxState.{BoxState}
use Rattle.line_law.specs.Decisions.{Decision}
use Rattle.line_law.specs.Law.{link_of}
use Rattle.line_law.specs.Levers.{starter_way}
use Rattle.line_law.specs.Links.{way_of}
use Rattle.line_law.specs.Outcomes.{Passes, Overruns, Outcome, Refused, Rings, Hears, AwaitsBell, Turns, AwaitsBlock}
use Rattle.line_law.specs.Outcomes.{Pulls, PullsStarter, Puts, Brings, GoesTo, GoesAway, Enters, AwaitsTrain, Berths}
use Rattle.line_law.specs.Outcomes.{Parts, Clears, Winds, Releases}
use Rattle.word_laws.specs.Footprint.{Kind, Tally, BellWord, BlockWord, PlainLineWord, kind_of}
use Rattle.word_laws.specs.Operations.{FirstDecides, FirstOn, SecondDecides, SecondOn, enter_op, first_by, first_on}
use Rattle.word_laws.specs.Operations.{look_op, next_lane, second_by, second_on, train_at_signal}
use Rattle.instrument_rule.proofs.OpWords.{on_word, second_is, starter_is}
use Rattle.word_laws.specs.Operations.{met_by}

-- ---- numbers

differs : (m n : ℕ) → (m == n) ≡ false → m ≢ n
differs m n h same = elim (eqb_tells m n) [ inl t ↦ (let e = t.0 in absurd cc) | inr t ↦ t.1 same ]

is_same : (m n : ℕ) → (m == n) ≡ true → m ≡ n
is_same m n h = elim (eqb_tells m n) [ inl t ↦ t.1 | inr t ↦ (let e = t.0 in absurd cc) ]

positive : (n : ℕ) → (n == 0) ≡ false → 0 < n
positive n h = let ne = differs n 0 h in by n ne
  where
    by : (n : ℕ) → n ≢ 0 → 0 < n
    by n ne = omega (arith, ne)

-- ---- no second operation is due: there is none, or the desk has not met what the call looks for

-- there is no second operation, or the desk hasn't met what the call looks for
abbrev pub IsNotDue : Option WordOp → Bool → Type 0
IsNotDue second met = (second ≡ None) ⊎ (met ≡ false)

bell_not : (n code : ℕ) (op : WordOp) → IsNotDue (Some op) (bell_code n == code) → bell_code n ≢ code
bell_not n code op h = elim h [ inl e ↦ absurd cc | inr e ↦ differs (bell_code n) code e ]

lane_not : (here : BoxState) (train lane : ℕ) (w : Option Way) (way : Way) → w ≡ Some way
    → IsNotDue (enter_op here train w) (lane == 0) → 0 < lane
lane_not here train lane None way e h = absurd cc
lane_not here train lane (Some v) way e h = elim h [ inl n ↦ absurd cc | inr n ↦ positive lane n ]

-- then the first decides the call
pub first_decides_it : (plan : PlanFields) (box_plan : BoxFields) (act : Act) (here : BoxState) (d : Decision) (n : ℕ)
    → Outcome plan box_plan here act d
    → IsNotDue (second_on (kind_of d) (second_by box_plan act here)) (met_by box_plan act here n)
    → FirstOn (kind_of d) (FirstDecides box_plan act here n)
first_decides_it plan box_plan act here d n (Refused a reply refused) h = tt
first_decides_it plan box_plan act here d n (Rings side code) h = tt
first_decides_it plan box_plan act here d n (Hears side) h = tt
first_decides_it plan box_plan act here d n (AwaitsBell side code) h = bell_not n code (ops.Hear side) h
first_decides_it plan box_plan act here d n (Turns way p berth e free) h = tt
first_decides_it plan box_plan act here d n (AwaitsBlock way p) h = tt
first_decides_it plan box_plan act here d n (Pulls lever e free) h = tt
first_decides_it plan box_plan act here d n (PullsStarter lever way e free) h = tt
first_decides_it plan box_plan act here d n (Puts lever free) h = tt
first_decides_it plan box_plan act here d n (Brings train free) h = tt
first_decides_it plan box_plan act here d n (GoesTo a lever signal train place e to there moves) h = tt
first_decides_it plan box_plan act here d n (GoesAway a lever signal train e to there moves) h = tt
first_decides_it plan box_plan act here d n (Enters a lever signal train way e to there (Passes free)) h =
    lane_not here (train_at_signal here (signal_of box_plan lever))
    (next_lane here (way_of (link_of box_plan (acts.Pass lever))) n) (starter_way (signal_of box_plan lever)) way
    (starter_is box_plan lever signal way e (ap way_to to)) h
first_decides_it plan box_plan act here d n (Enters a lever signal train way e to there (Overruns free)) h =
    lane_not here (train_at_signal here (signal_of box_plan lever))
    (next_lane here (way_of (link_of box_plan (acts.Overrun lever))) n) (starter_way (signal_of box_plan lever)) way
    (starter_is box_plan lever signal way e (ap way_to to)) h
first_decides_it plan box_plan act here d n (AwaitsTrain way) h = tt
first_decides_it plan box_plan act here d n (Berths way berth e free) h = tt
first_decides_it plan box_plan act here d n (Parts way berth e free) h = tt
first_decides_it plan box_plan act here d n (Clears way free) h = tt
first_decides_it plan box_plan act here d n (Winds way free) h = tt
first_decides_it plan box_plan act here d n (Releases way free) h = tt

-- ---- a second operation is due

met_decides : (box_plan : BoxFields) (act : Act) (here : BoxState) (n : ℕ) (op : WordOp)
    → second_by box_plan act here ≡ Some op → met_by box_plan act here n ≡ true → SecondDecides box_plan act here n
met_decides box_plan (acts.Ring side code) here n op e h = absurd cc
met_decides box_plan (acts.Hear side) here n op e h = absurd cc
met_decides box_plan (acts.AwaitBell side code) here n op e h = is_same (bell_code n) code h
met_decides box_plan (acts.Turn way p) here n op e h = absurd cc
met_decides box_plan (acts.AwaitBlock way p) here n op e h = absurd cc
met_decides box_plan (acts.Pull lever) here n op e h = absurd cc
met_decides box_plan (acts.Put lever) here n op e h = absurd cc
met_decides box_plan (acts.Bring train) here n op e h = absurd cc
met_decides box_plan (acts.Pass lever) here n op e h = is_same
    (next_lane here (way_of (link_of box_plan (acts.Pass lever))) n) 0 h
met_decides box_plan (acts.Overrun lever) here n op e h = is_same
    (next_lane here (way_of (link_of box_plan (acts.Overrun lever))) n) 0 h
met_decides box_plan (acts.AwaitTrain way) here n op e h = absurd cc
met_decides box_plan (acts.Berth way) here n op e h = absurd cc
met_decides box_plan (acts.BerthPart way) here n op e h = absurd cc
met_decides box_plan (acts.ClearPortion way) here n op e h = absurd cc
met_decides box_plan (acts.Wind way) here n op e h = absurd cc
met_decides box_plan (acts.Release way) here n op e h = absurd cc

-- it decides the call
pub second_decides_it : (box_plan : BoxFields) (act : Act) (here : BoxState) (k : Kind) (n : ℕ) (op : WordOp)
    → second_on k (second_by box_plan act here) ≡ Some op → met_by box_plan act here n ≡ true
    → SecondOn k (SecondDecides box_plan act here n)
second_decides_it box_plan act here k n op e h = on_word k (second_by box_plan act here) op _ e
    (met_decides box_plan act here n op (second_is k (second_by box_plan act here) op e) h)

-- and the first was a look
look_stays : (box_plan : BoxFields) (here : BoxState) (train n : ℕ) (w : Option Way) (op : WordOp)
    → enter_op here train w ≡ Some op → word_after (look_op w) n ≡ n
look_stays box_plan here train n None op e = absurd cc
look_stays box_plan here train n (Some way) op e = refl

first_stays : (box_plan : BoxFields) (act : Act) (here : BoxState) (n : ℕ) (op : WordOp)
    → second_by box_plan act here ≡ Some op → word_after (first_by box_plan act here) n ≡ n
first_stays box_plan (acts.Ring side code) here n op e = absurd cc
first_stays box_plan (acts.Hear side) here n op e = absurd cc
first_stays box_plan (acts.AwaitBell side code) here n op e = refl
first_stays box_plan (acts.Turn way p) here n op e = absurd cc
first_stays box_plan (acts.AwaitBlock way p) here n op e = absurd cc
first_stays box_plan (acts.Pull lever) here n op e = absurd cc
first_stays box_plan (acts.Put lever) here n op e = absurd cc
first_stays box_plan (acts.Bring train) here n op e = absurd cc
first_stays box_plan (acts.Pass lever) here n op e = look_stays box_plan here _ n
    (starter_way (signal_of box_plan lever)) op e
first_stays box_plan (acts.Overrun lever) here n op e = look_stays box_plan here _ n
    (starter_way (signal_of box_plan lever)) op e
first_stays box_plan (acts.AwaitTrain way) here n op e = absurd cc
first_stays box_plan (acts.Berth way) here n op e = absurd cc
first_stays box_plan (acts.BerthPart way) here n op e = absurd cc
first_stays box_plan (acts.ClearPortion way) here n op e = absurd cc
first_stays box_plan (acts.Wind way) here n op e = absurd cc
first_stays box_plan (acts.Release way) here n op e = absurd cc

-- where a call may have a second operation, its first leaves the word as it is
pub first_looks : (k : Kind) (box_plan : BoxFields) (act : Act) (here : BoxState) (n : ℕ) (op : WordOp)
    → second_on k (second_by box_plan act here) ≡ Some op → word_after (first_on k (first_by box_plan act here)) n ≡ n
first_looks Tally box_plan act here n op e = absurd cc
first_looks BellWord box_plan act here n op e = first_stays box_plan act here n op e
first_looks BlockWord box_plan act here n op e = first_stays box_plan act here n op e
first_looks PlainLineWord box_plan act here n op e = first_stays box_plan act here n op e
