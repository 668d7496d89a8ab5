-- In one legal history the turn count and the spent mark of an instrument never come back.
use Rattle.std.proofs.Common.{◌≡◌, ℕ, ◌+◌, ◌*◌, ◌≤◌, ◌<◌, List, [], ◌∷◌, ◌++◌, Bool, true, false, length, refl, sym, ap}
use Rattle.std.proofs.Common.{◌∙◌, append_assoc, append-nil, subst, arith}
use Rattle.std.specs.Prelude.{if◌then◌else◌}
use Rattle.block_words.specs.declared.Position.{Position}
use Rattle.block_words.specs.declared.Way.{Way}
use Rattle.block_words.specs.declared.Way.TheVariants.{Up, Down}
use Rattle.line_plan.specs.Plans.{IsPlan, PlanFields}
use Rattle.line_plan.specs.declared.section.Section.{Section}
use Rattle.line_law.specs.declared.call.Call.{Call}
use Rattle.line_law.specs.declared.call.Entry.{Entry}
use Rattle.line_law.specs.declared.link.Link.{Link}
use Rattle.line_law.specs.declared.link.Link.TheVariants.{In, Out}
use Rattle.line_law.specs.declared.state.Block.{Block}
use Rattle.line_law.specs.declared.state.PairState.{PairState}
use Rattle.line_law.specs.declared.ways.ByWay.{ByWay}
use Rattle.line_law.specs.Decisions.{Decision, Told, Here, OnBell, OnBlock, OnPlainLine, on_pair}
use Rattle.line_law.specs.History.{IsLegal, IsLegalFrom, after_entry, state_after}
use Rattle.line_law.specs.Instruments.{same_position}
use Rattle.line_law.specs.Known.{KnowsCall}
use Rattle.line_law.specs.Law.{at_moment, box_plan_of, link_of, pair_of, step}
use Rattle.line_law.specs.Levers.{is_unspent_clear}
use Rattle.line_law.specs.Links.{pair_no, way_of}
use Rattle.line_law.specs.States.{IsStateOf, LineState, box_at, opening_state, pair_at}
use Rattle.line_law.specs.Ways.{of_way, with_way}
use Rattle.line_law.proofs.Keeping.{shape_stays}
use Rattle.line_law.proofs.Opens.{opening_shape}
use Rattle.line_law.proofs.Sides.{call_within}
use Rattle.word_laws.specs.WordEnds.{AtEnd, LooksAt, PullsUnder, TurnsIt}
use Rattle.word_laws.specs.WordNumbers.{one_if}
use Rattle.word_laws.proofs.Rises.{pair_written}
use Rattle.word_laws.proofs.WordEndsLaws.{call_at_end}
use Rattle.line_watch.specs.Sights.{AreMarkedAlike, instrument_after}

-- ---- one instrument

-- a number that rises with each turn, and with the pull that spends a turn
abbrev pub age : Block → ℕ
age block = 2 * block.turns + one_if block.spent

-- an instrument as it was, and as it is later: no younger, and where of the same age the same
pub record Follows (before after : Block) : Type 0 where
  pub rises : age before ≤ age after
  pub same : age before ≡ age after → before ≡ after

pub as_it_was : (block : Block) → Follows block block
as_it_was block = record { rises = omega arith; same = λ e. refl }

pub then_later : (a b c : Block) → Follows a b → Follows b c → Follows a c
then_later a b c h g =
    record {
      rises = omega (arith, h.rises, g.rises);
      same = λ e. h.same (omega (arith, h.rises, g.rises, e)) ∙ g.same (omega (arith, h.rises, g.rises, e));
    }

most_one : (t : Bool) → one_if t ≤ 1
most_one true = omega arith
most_one false = omega arith

turn_ages : (block : Block) (position : Position)
    → Follows block (record { turns = block.turns + 1; position = position; spent = false })
turn_ages block position =
    record { rises = omega (arith, most_one block.spent); same = λ e. absurd (omega (arith, most_one block.spent, e)) }

pull_ages : (block : Block) (t : Bool) → block.spent ≡ t → Follows block (record block { spent = true })
pull_ages block true e =
    record { rises = omega (arith, most_one block.spent); same = λ f. ap (λ (s : Bool). record block { spent = s }) e }
pull_ages block false e =
    let none : one_if block.spent ≡ 0 = ap one_if e in
    record { rises = omega (arith, none); same = λ f. absurd (omega (arith, none, f)) }

-- ---- a call

-- what a decision makes of an instrument follows it
abbrev AgesAt : Decision → Type 0
AgesAt (Here reply here) = Unit {0}
AgesAt (OnBell act) = Unit {0}
AgesAt (OnBlock act) = (block : Block) → Follows block (act block).word
AgesAt (OnPlainLine act) = Unit {0}

pulled_ages : (block : Block) (t : Bool) (x y : Told Block) → x.word ≡ record block { spent = true }
    → y.word ≡ record block { spent = true } → Follows block (if t then x else y).word
pulled_ages block true x y e f = subst (λ (b : Block). Follows block b) (sym e) (pull_ages block block.spent refl)
pulled_ages block false x y e f = subst (λ (b : Block). Follows block b) (sym f) (pull_ages block block.spent refl)

looked_ages : (block : Block) (t : Bool) (x y : Told Block) → x.word ≡ block → y.word ≡ block
    → Follows block (if t then x else y).word
looked_ages block true x y e f = subst (λ (b : Block). Follows block b) (sym e) (as_it_was block)
looked_ages block false x y e f = subst (λ (b : Block). Follows block b) (sym f) (as_it_was block)

ages : (link : Link) (d : Decision) → AtEnd link d → AgesAt d
ages (Out way) (Here reply here) end = tt
ages (Out way) (OnBell act) end = tt
ages (Out way) (OnBlock act) (PullsUnder here after) =
    λ block. pulled_ages block (is_unspent_clear block) _ _ refl refl
ages (Out way) (OnBlock act) (LooksAt here position) =
    λ block. looked_ages block (same_position block.position position) _ _ refl refl
ages (Out way) (OnPlainLine act) end = tt
ages (In way) (Here reply here) end = tt
ages (In way) (OnBell act) end = tt
ages (In way) (OnBlock act) (TurnsIt here position) = λ block. turn_ages block position
ages (In way) (OnPlainLine act) end = tt

-- ---- in the pair

written : (both : ByWay Block) (way w : Way) (block : Block) → Follows (of_way both way) block
    → Follows (of_way both w) (of_way (with_way both way block) w)
written both Up Up block h = h
written both Up Down block h = as_it_was both.down
written both Down Up block h = as_it_was both.up
written both Down Down block h = h

pair_ages : (way : Way) (d : Decision) (pair : PairState) → AgesAt d → (w : Way)
    → Follows (of_way pair.blocks w) (of_way (on_pair way d pair).word.blocks w)
pair_ages way (Here reply here) pair h w = as_it_was (of_way pair.blocks w)
pair_ages way (OnBell act) pair h w = as_it_was (of_way pair.blocks w)
pair_ages way (OnBlock act) pair h w = written pair.blocks way w _ (h (of_way pair.blocks way))
pair_ages way (OnPlainLine act) pair h w = as_it_was (of_way pair.blocks w)

-- ---- in the line

-- each instrument of a line as it is later follows what it was
abbrev LineAges : LineState → LineState → Type 0
LineAges state later =
    (p : ℕ) (w : Way) → Follows (of_way (pair_at state p).blocks w) (of_way (pair_at later p).blocks w)

call_ages : (plan : PlanFields) (state : LineState) (b : ℕ) (call : Call) → IsPlan plan → IsStateOf plan state
    → KnowsCall plan b call → LineAges state (step plan state b call).after
unfolding step
call_ages plan state b call is shape known =
    let within = call_within plan b call is known in
    let here = at_moment (box_at state b) call.moment in
    let p = pair_of plan b call in
    let at = call_at_end plan (box_plan_of plan b) call.act here in
    let r = pair_ages (way_of (link_of (box_plan_of plan b) call.act)) _ (pair_at state p) (ages _ _ at) in
    let there : p < length state.pairs = omega (arith, shape.pairs, within.pair) in
    λ q w. pair_written (λ k x. Follows (of_way (pair_at state k).blocks w) (of_way x.blocks w)) state.pairs p _ q there
    (r w) (as_it_was (of_way (pair_at state q).blocks w))

-- ---- along a history

ages_from : (plan : PlanFields) (state : LineState) (more later : List Entry) → IsPlan plan → IsStateOf plan state
    → IsLegalFrom plan state (more ++ later) → LineAges state (state_after plan state more)
ages_from plan state [] later is shape legal = λ p w. as_it_was (of_way (pair_at state p).blocks w)
ages_from plan state (e ∷ more) later is shape legal =
    let next = after_entry plan state e in
    let one = call_ages plan state e.box_no e.call is shape legal.0.known in
    let rest = ages_from plan next more later is (shape_stays plan state e.box_no e.call shape) legal.2 in
    λ p w. then_later _ _ _ (one p w) (rest p w)

ages_between : (plan : PlanFields) (state : LineState) (es more later : List Entry) → IsPlan plan
    → IsStateOf plan state → IsLegalFrom plan state (es ++ (more ++ later))
    → LineAges (state_after plan state es) (state_after plan state (es ++ more))
ages_between plan state [] more later is shape legal = ages_from plan state more later is shape legal
ages_between plan state (e ∷ es) more later is shape legal =
    ages_between plan (after_entry plan state e) es more later is (shape_stays plan state e.box_no e.call shape) legal.2

-- an instrument after one beginning of a legal history, and after a longer one
pub instrument_ages : (plan : PlanFields) (es more later : List Entry) (section : Section) → IsPlan plan
    → IsLegal plan (es ++ (more ++ later))
    → Follows (instrument_after plan es section) (instrument_after plan (es ++ more) section)
instrument_ages plan es more later section is legal =
    ages_between plan (opening_state plan) es more later is (opening_shape plan) legal
    (pair_no section.rear (Out section.way)) section.way

-- where the age is the same at both ends, the instrument between is the same
pub same_between : (a b c : Block) → Follows a b → Follows b c → AreMarkedAlike a c → b ≡ a
same_between a b c h g alike =
    let turns : a.turns ≡ c.turns = alike.turns in
    let spent : one_if a.spent ≡ one_if c.spent = ap one_if alike.spent in
    sym (h.same (omega (arith, h.rises, g.rises, turns, spent)))

-- an instrument that is marked as it was has not changed between
pub never_back : (plan : PlanFields) (es more later : List Entry) (section : Section) → IsPlan plan
    → IsLegal plan (es ++ (more ++ later))
    → AreMarkedAlike (instrument_after plan es section) (instrument_after plan (es ++ (more ++ later)) section)
    → instrument_after plan (es ++ more) section ≡ instrument_after plan es section
never_back plan es more later section is legal alike =
    let a = instrument_after plan es section in
    let b = instrument_after plan (es ++ more) section in
    let c = instrument_after plan ((es ++ more) ++ later) section in
    let all : (es ++ more) ++ later ≡ es ++ (more ++ later) = append_assoc es more later in
    let nil : (es ++ more) ++ (later ++ []) ≡ es ++ (more ++ later) =
    ap (λ (l : List Entry). (es ++ more) ++ l) (append-nil later) ∙ all in
    let second : Follows b c =
    instrument_ages plan (es ++ more) later [] section is
    (subst (λ (l : List Entry). IsLegal plan l) (sym nil) legal) in
    same_between a b c (instrument_ages plan es more later section is legal) second
    (subst (λ (l : List Entry). AreMarkedAlike a (instrument_after plan l section)) (sym all) alike)
