-- In every legal history the words of a line agree with both boxes of their section.
use Rattle.std.proofs.Common.{◌≡◌, ℕ, ◌+◌, ◌-◌, ◌<◌, ◌≤◌, ◌^◌, ◌⊎◌, inl, inr, List, [], ◌∷◌, Option, Some, None, IfSome}
use Rattle.std.proofs.Common.{Bool, true, false, IsTrue, All, length, refl, sym, subst, arith}
use Rattle.std.specs.Prelude.{◌==◌, nat_lt, nat_le, if◌then◌else◌}
use Rattle.std.proofs.lemmas.Bool.{cases_lt}
use Rattle.std.proofs.lemmas.Bool.Decides.{nat_tests}
use Rattle.std.proofs.lemmas.List.{get_or_past}
use Rattle.std.proofs.lemmas.List.Elements.{All-cons, All-get_or, All-head, All-nil, All-tail}
use Rattle.block_words.specs.declared.Way.{Way}
use Rattle.block_words.specs.declared.Way.TheVariants.{Up, Down}
use Rattle.line_plan.specs.Frames.{BoxFields}
use Rattle.line_plan.specs.Plans.{IsPlan, PlanFields, is_train}
use Rattle.line_plan.specs.Sections.{IsSection, advance_of, next_box}
use Rattle.line_plan.specs.Ways.{comes_in, leaves}
use Rattle.line_plan.specs.declared.section.Section.{Section}
use Rattle.line_law.specs.declared.call.Act.{Act}
use Rattle.line_law.specs.declared.call.Call.{Call}
use Rattle.line_law.specs.declared.call.Entry.{Entry}
use Rattle.line_law.specs.declared.call.Reply.TheVariants as replies
use Rattle.line_law.specs.declared.link.Link.{Link}
use Rattle.line_law.specs.declared.link.Link.TheVariants.{Out, In}
use Rattle.line_law.specs.declared.state.Bell.{Bell}
use Rattle.line_law.specs.declared.state.BoxState.{BoxState}
use Rattle.line_law.specs.declared.state.PairState.{PairState}
use Rattle.line_law.specs.declared.state.Passage.{Passage}
use Rattle.line_law.specs.declared.ways.ByWay.{ByWay}
use Rattle.line_law.specs.Bells.{awaited, heard, rung, silent}
use Rattle.line_law.specs.Decisions.{Told, Decision, Here, OnBell, OnBlock, OnPlainLine, on_pair}
use Rattle.word_laws.specs.Footprint.{Kind, Tally, BellWord, BlockWord, PlainLineWord, kind_of, kind_at}
use Rattle.line_law.specs.History.{IsLegal, IsLegalFrom, after_entry, state_after, state_of}
use Rattle.line_law.specs.Known.{KnowsCall, is_code_no, knows_act, knows_side}
use Rattle.line_law.specs.Law.{at_moment, decide, link_of, pair_of, box_plan_of, step}
use Rattle.line_law.specs.Lines.{IsLineOf, pair_in}
use Rattle.line_law.specs.Links.{pair_no, way_of}
use Rattle.word_laws.specs.Operations.{HasTrainNos}
use Rattle.line_law.specs.Outcomes.{Outcome, Rings, Hears, AwaitsBell}
use Rattle.line_law.specs.SectionFacts.{HasLink, IsLocal}
use Rattle.line_law.specs.States.{IsStateOf, LineState, box_at, opening_pair, opening_state, pair_at}
use Rattle.line_law.specs.Tellings.{IsCode}
use Rattle.line_law.specs.Tracks.{train_on}
use Rattle.line_law.specs.Ways.{of_way, with_way}
use Rattle.word_laws.specs.WordNumbers.{Agrees, IsCodeNo, IsTrainNo, SectionAgrees}
use Rattle.line_law.proofs.Found.{both}
use Rattle.line_law.proofs.Keeping.{shape_stays}
use Rattle.line_law.proofs.KeepingLaws.{history_keeps}
use Rattle.line_law.proofs.Opens.{opening_pair_at, opening_shape}
use Rattle.line_law.proofs.Outcomes.{outcome_of}
use Rattle.word_laws.proofs.Rises.{pair_written}
use Rattle.line_law.proofs.Sides.{call_within, known_link, known_parts}

-- ---- the codes that stand unheard

-- each code that stands unheard on a pair's bells is one of the plan's
abbrev HasCodes : PlanFields → PairState → Type 0
HasCodes plan pair = (w : Way) → IfSome (of_way pair.bells w).unheard (IsCode plan)

-- a decision on a bell leaves one of the plan's codes there, or none
abbrev KeepsCode : PlanFields → Decision → Type 0
KeepsCode plan (Here reply here) = Unit {0}
KeepsCode plan (OnBell act) =
    (bell : Bell) → IfSome bell.unheard (IsCode plan) → IfSome (act bell).word.unheard (IsCode plan)
KeepsCode plan (OnBlock act) = Unit {0}
KeepsCode plan (OnPlainLine act) = Unit {0}

rung_keeps : (plan : PlanFields) (here : BoxState) (side : Way) (code count : ℕ) (u : Option ℕ) → IsCode plan code
    → IfSome u (IsCode plan) → IfSome (rung here side code count u).word.unheard (IsCode plan)
rung_keeps plan here side code count None is h = is
rung_keeps plan here side code count (Some held) is h = h

heard_keeps : (plan : PlanFields) (here : BoxState) (count : ℕ) (u : Option ℕ)
    → IfSome (heard here count u).word.unheard (IsCode plan)
heard_keeps plan here count None = tt
heard_keeps plan here count (Some code) = tt

if_keeps : (plan : PlanFields) (b : Bool) (x y : Told Bell) → IfSome x.word.unheard (IsCode plan)
    → IfSome y.word.unheard (IsCode plan) → IfSome (if b then x else y).word.unheard (IsCode plan)
if_keeps plan true x y h g = h
if_keeps plan false x y h g = g

awaited_keeps : (plan : PlanFields) (here : BoxState) (code count : ℕ) (u : Option ℕ) → IfSome u (IsCode plan)
    → IfSome (awaited here code count u).word.unheard (IsCode plan)
awaited_keeps plan here code count None h = tt
awaited_keeps plan here code count (Some held) h =
    if_keeps plan (held == code) (record { reply = replies.Heard held count; here = here; word = silent count })
    (record {
      reply = replies.BellNotYet (Some held) count;
      here = here;
      word =
          record { count = count; unheard = Some held };
    }) tt h

code_keeps : (plan : PlanFields) (b : ℕ) (box_plan : BoxFields) (act : Act) (here : BoxState) (d : Decision)
    → IsTrue (knows_act plan b act) → Outcome plan box_plan here act d → KeepsCode plan d
code_keeps plan b box_plan act here d known (Rings side code) =
    λ bell h. rung_keeps plan here side code bell.count bell.unheard
    (both (knows_side plan b side) (is_code_no plan code) known).1 h
code_keeps plan b box_plan act here d known (Hears side) = λ bell h. heard_keeps plan here bell.count bell.unheard
code_keeps plan b box_plan act here d known (AwaitsBell side code) =
    λ bell h. awaited_keeps plan here code bell.count bell.unheard h
code_keeps plan b box_plan act here d known out = tt

bells_keep : (plan : PlanFields) (bells : ByWay Bell) (way w : Way) (x : Bell)
    → ((w : Way) → IfSome (of_way bells w).unheard (IsCode plan)) → IfSome x.unheard (IsCode plan)
    → IfSome (of_way (with_way bells way x) w).unheard (IsCode plan)
bells_keep plan bells Up Up x h is = is
bells_keep plan bells Up Down x h is = h Down
bells_keep plan bells Down Up x h is = h Up
bells_keep plan bells Down Down x h is = is

codes_in_pair : (plan : PlanFields) (way : Way) (d : Decision) (pair : PairState) → KeepsCode plan d
    → HasCodes plan pair → HasCodes plan (on_pair way d pair).word
codes_in_pair plan way (Here reply here) pair keeps h w = h w
codes_in_pair plan way (OnBell act) pair keeps h w =
    bells_keep plan pair.bells way w (act (of_way pair.bells way)).word h (keeps (of_way pair.bells way) (h way))
codes_in_pair plan way (OnBlock act) pair keeps h w = h w
codes_in_pair plan way (OnPlainLine act) pair keeps h w = h w

codes_stay : (plan : PlanFields) (state : LineState) (b : ℕ) (call : Call) → IsPlan plan → IsStateOf plan state
    → KnowsCall plan b call → ((p : ℕ) → HasCodes plan (pair_at state p)) → (p : ℕ)
    → HasCodes plan (pair_at (step plan state b call).after p)
unfolding step
codes_stay plan state b call is shape known h p =
    let within = call_within plan b call is known in
    let parts = known_parts plan b call known in
    let here = at_moment (box_at state b) call.moment in
    let keeps =
    code_keeps plan b (box_plan_of plan b) call.act here _ parts.act
    (outcome_of plan (box_plan_of plan b) call.act here) in
    pair_written (λ (k : ℕ) (x : PairState). HasCodes plan x) state.pairs (pair_of plan b call) _ p
    (omega (arith, shape.pairs, within.pair))
    (codes_in_pair plan (way_of (link_of (box_plan_of plan b) call.act)) _ (pair_at state (pair_of plan b call)) keeps
    (h (pair_of plan b call))) (h p)

codes_from : (plan : PlanFields) (state : LineState) (es : List Entry) → IsPlan plan → IsStateOf plan state
    → IsLegalFrom plan state es → ((p : ℕ) → HasCodes plan (pair_at state p)) → (p : ℕ)
    → HasCodes plan (pair_at (state_after plan state es) p)
codes_from plan state [] is shape legal h p = h p
codes_from plan state (e ∷ es) is shape legal h p =
    codes_from plan (after_entry plan state e) es is (shape_stays plan state e.box_no e.call shape) legal.2
    (codes_stay plan state e.box_no e.call is shape legal.0.known h) p

no_codes : (plan : PlanFields) (w : Way) → IfSome (of_way opening_pair.bells w).unheard (IsCode plan)
no_codes plan Up = tt
no_codes plan Down = tt

codes_of : (plan : PlanFields) (es : List Entry) → IsPlan plan → IsLegal plan es → (p : ℕ)
    → HasCodes plan (pair_at (state_of plan es) p)
codes_of plan es is legal =
    codes_from plan (opening_state plan) es is (opening_shape plan) legal
    (λ p. subst (HasCodes plan) (sym (opening_pair_at plan p)) (no_codes plan))

code_fits : (plan : PlanFields) (u : Option ℕ) → IsPlan plan → IfSome u (IsCode plan) → IfSome u IsCodeNo
code_fits plan None is h = tt
code_fits plan (Some code) is h =
    let parts = both (nat_le 1 code) (nat_le code (length plan.codes)) h in
    let low = parts.0 in
    let high = parts.1 in
    let most : length plan.codes ≤ 200 = is.classes.table.most in
    let above : 1 ≤ code = grind (arith, nat_tests) in
    let below : code ≤ length plan.codes = grind (arith, nat_tests) in
    (omega (arith, above), omega (arith, below, most))

-- ---- the trains

train_fits : (plan : PlanFields) (train : ℕ) → IsPlan plan → IsTrue (is_train plan.trains train) → IsTrainNo train
train_fits plan train is h =
    let parts = both (nat_lt 0 train) (nat_lt (train - 1) (length plan.trains)) h in
    let low = parts.0 in
    let high = parts.1 in
    let some : 0 < train = grind (arith, nat_tests) in
    let few : train - 1 < length plan.trains = grind (arith, nat_tests) in
    (some, omega (arith, few, some, is.few_trains))

trains_fit : (plan : PlanFields) (line : List Passage) → IsPlan plan
    → All (λ passage. IsTrue (is_train plan.trains passage.train)) line → All (λ passage. IsTrainNo passage.train) line
trains_fit plan [] is h = All-nil (λ (passage : Passage). IsTrainNo passage.train)
trains_fit plan (p ∷ line) is h =
    All-cons (λ (passage : Passage). IsTrainNo passage.train) p line
    (train_fits plan p.train is
    (All-head (λ (passage : Passage). IsTrue (is_train plan.trains passage.train)) p line h))
    (trains_fit plan line is (All-tail (λ (passage : Passage). IsTrue (is_train plan.trains passage.train)) p line h))

standing_fits : (plan : PlanFields) (there : Option ℕ) → IsPlan plan
    → IfSome there (λ train. IsTrue (is_train plan.trains train)) → IfSome there IsTrainNo
standing_fits plan None is h = tt
standing_fits plan (Some train) is h = train_fits plan train is h

-- each train at a place of a box fits a lane
pub trains_of : (plan : PlanFields) (es : List Entry) (b : ℕ) → IsPlan plan → IsLegal plan es → b < length plan.boxes
    → HasTrainNos (box_at (state_of plan es) b)
trains_of plan es b is legal within place = by (cases_lt place (length places)) where
  places : List (Option ℕ)
  places = (box_at (state_of plan es) b).places

  by : (place < length places) ⊎ (length places ≤ place) → IfSome (train_on places place) IsTrainNo
  by (inl inside) =
      let line = history_keeps plan es is legal in
      standing_fits plan (train_on places place) is
      (All-get_or (λ (there : Option ℕ). IfSome there (λ train. IsTrue (is_train plan.trains train))) places place
      None inside (line.boxes b within).shape.occupants)
  by (inr outside) = subst (λ (o : Option ℕ). IfSome o IsTrainNo) (sym (get_or_past places place None outside)) tt

-- ---- a section

-- the words of a section agree with both of its boxes
pub section_agrees : (plan : PlanFields) (es : List Entry) (x : Section) → IsPlan plan → IsLegal plan es
    → length es < 2 ^ 32 → IsSection plan x → SectionAgrees (state_of plan es) x
section_agrees plan es x is legal few in_line = record { rear = rear; advance = advance }
  where
    state : LineState
    state = state_of plan es

    line : IsLineOf plan (record { line = state_of plan es; calls = length es })
    line = history_keeps plan es is legal

    p : ℕ
    p = pair_no x.rear (Out x.way)

    rear : (kind : Kind) → Agrees kind (Out x.way) (box_at (state_of plan es) x.rear) (pair_in (state_of plan es) x)
    rear Tally = tt
    rear BellWord = let says =
        line.sections x in_line in
        record {
          code = code_fits plan _ is (codes_of plan es is legal (pair_no x.rear (Out x.way)) x.way);
          count =
              omega (arith, few, (line.pairs (pair_no x.rear (Out x.way))).bells x.way);
          rung = sym says.rung;
        }
    rear BlockWord =
        record { count = omega (arith, few, (line.pairs (pair_no x.rear (Out x.way))).blocks x.way); turned = tt }
    rear PlainLineWord = let says =
        line.sections x in_line in
        record {
          four = says.four;
          each =
              trains_fit plan _ is ((line.pairs (pair_no x.rear (Out x.way))).lines x.way);
          numbered = (_, says.numbered);
        }

    advance : (kind : Kind)
        → Agrees kind (In x.way) (box_at (state_of plan es) (advance_of x)) (pair_in (state_of plan es) x)
    advance Tally = tt
    advance BellWord =
        record {
          code = code_fits plan _ is (codes_of plan es is legal (pair_no x.rear (Out x.way)) x.way);
          count =
              omega (arith, few, (line.pairs (pair_no x.rear (Out x.way))).bells x.way);
          rung = tt;
        }
    advance BlockWord = let says =
        line.sections x in_line in
        record {
          count = omega (arith, few, (line.pairs (pair_no x.rear (Out x.way))).blocks x.way);
          turned =
              (sym says.turns, sym says.position);
        }
    advance PlainLineWord = let says =
        line.sections x in_line in
        record {
          four = says.four;
          each =
              trains_fit plan _ is ((line.pairs (pair_no x.rear (Out x.way))).lines x.way);
          numbered =
              (_, says.numbered, says.portion);
        }

-- ---- a call

-- the section of which an incoming line comes
record Coming (n b : ℕ) (way : Way) : Type 0 where
  pub rear : ℕ
  pub leaves_it : IsTrue (leaves n rear way)
  pub advance : next_box rear way ≡ b
  pub pair : pair_no rear (Out way) ≡ pair_no b (In way)

coming : (n b : ℕ) (way : Way) → IsTrue (comes_in n b way) → Coming n b way
coming n b Up h =
    record {
      rear = b + 1;
      leaves_it =
          (let d : b + 1 < n = grind (arith, nat_tests) in grind (arith, nat_tests));
      advance = omega arith;
      pair =
          omega arith;
    }
coming n b Down h =
    let parts = both (nat_lt 0 b) (nat_lt b n) h in
    let low = parts.0 in
    let high = parts.1 in
    let some : 0 < b = grind (arith, nat_tests) in
    let in_n : b < n = grind (arith, nat_tests) in
    let back : b - 1 + 1 ≡ b = omega arith in
    record {
      rear = b - 1;
      leaves_it = subst (λ (k : ℕ). IsTrue (nat_lt k n)) (sym back) high;
      advance = back;
      pair =
          refl;
    }

same_moment : (kind : Kind) (link : Link) (here : BoxState) (moment : ℕ) (pair : PairState) → Agrees kind link here pair
    → Agrees kind link (at_moment here moment) pair
same_moment Tally link here moment pair a = tt
same_moment BellWord (Out way) here moment pair a = record { code = a.code; count = a.count; rung = a.rung }
same_moment BellWord (In way) here moment pair a = record { code = a.code; count = a.count; rung = a.rung }
same_moment BlockWord (Out way) here moment pair a = record { count = a.count; turned = a.turned }
same_moment BlockWord (In way) here moment pair a = record { count = a.count; turned = a.turned }
same_moment PlainLineWord (Out way) here moment pair a = record { four = a.four; each = a.each; numbered = a.numbered }
same_moment PlainLineWord (In way) here moment pair a = record { four = a.four; each = a.each; numbered = a.numbered }

by_link : (plan : PlanFields) (es : List Entry) (b : ℕ) (link : Link) (kind : Kind) → IsPlan plan → IsLegal plan es
    → length es < 2 ^ 32 → HasLink (length plan.boxes) b link
    → Agrees kind link (box_at (state_of plan es) b) (pair_at (state_of plan es) (pair_no b link))
by_link plan es b (Out way) kind is legal few has =
    (section_agrees plan es (record { rear = b; way = way }) is legal few has).rear kind
by_link plan es b (In way) kind is legal few has =
    let c = coming (length plan.boxes) b way has in
    let a = (section_agrees plan es (record { rear = c.rear; way = way }) is legal few c.leaves_it).advance kind in
    subst (λ (p : ℕ). Agrees kind (In way) (box_at (state_of plan es) b) (pair_at (state_of plan es) p)) c.pair
    (subst (λ (k : ℕ). Agrees kind (In way) (box_at (state_of plan es) k)
    (pair_at (state_of plan es) (pair_no c.rear (Out way)))) c.advance a)

local_tally : (d : Decision) (link : Link) (here : BoxState) (pair : PairState) → IsLocal d
    → Agrees (kind_of d) link here pair
local_tally (Here reply after) link here pair l = tt
local_tally (OnBell act) link here pair l = absurd l
local_tally (OnBlock act) link here pair l = absurd l
local_tally (OnPlainLine act) link here pair l = absurd l

-- the word on which a known call is decided agrees with its box
pub met_agrees : (plan : PlanFields) (es : List Entry) (b : ℕ) (call : Call) → IsPlan plan → IsLegal plan es
    → length es < 2 ^ 32 → KnowsCall plan b call
    → Agrees (kind_at plan (state_of plan es) b call) (link_of (box_plan_of plan b) call.act)
    (at_moment (box_at (state_of plan es) b) call.moment) (pair_at (state_of plan es) (pair_of plan b call))
met_agrees plan es b call is legal few known = by (known_link plan b call (box_at (state_of plan es) b) is known) where
  link : Link
  link = link_of (box_plan_of plan b) call.act

  by : (HasLink (length plan.boxes) b (link_of (box_plan_of plan b) call.act))
      ⊎ IsLocal (decide plan (box_plan_of plan b) call.act (at_moment (box_at (state_of plan es) b) call.moment))
      → Agrees (kind_at plan (state_of plan es) b call) (link_of (box_plan_of plan b) call.act)
      (at_moment (box_at (state_of plan es) b) call.moment) (pair_at (state_of plan es) (pair_of plan b call))
  by (inl has) =
      same_moment (kind_at plan (state_of plan es) b call) (link_of (box_plan_of plan b) call.act)
      (box_at (state_of plan es) b) call.moment _
      (by_link plan es b (link_of (box_plan_of plan b) call.act) (kind_at plan (state_of plan es) b call) is legal few
      has)
  by (inr local) =
      local_tally _ (link_of (box_plan_of plan b) call.act) (at_moment (box_at (state_of plan es) b) call.moment) _
      local
