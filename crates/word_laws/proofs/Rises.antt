-- No count of codes rung, of turns, of trains sent or of trains taken falls.
use Rattle.std.proofs.Common.{◌≡◌, ℕ, ◌+◌, ◌<◌, ◌≤◌, List, [], ◌∷◌, ◌++◌, Option, Some, None, Bool, true, false, length}
use Rattle.std.proofs.Common.{refl, sym, ap, subst, arith, inl, inr, slice_set, slice_index_or}
use Rattle.std.specs.Prelude.{◌==◌, if◌then◌else◌}
use Rattle.std.proofs.lemmas.Bool.Decides.{eqb_tells}
use Rattle.std.proofs.lemmas.List.{get_or-set_same, get_or-set_other}
use Rattle.block_words.specs.declared.Position.{Position}
use Rattle.block_words.specs.declared.Position.TheVariants as shows
use Rattle.block_words.specs.declared.Way.{Way}
use Rattle.block_words.specs.declared.Way.TheVariants.{Up, Down}
use Rattle.line_plan.specs.Frames.{BoxFields, signal_of}
use Rattle.line_plan.specs.Plans.{IsPlan, PlanFields}
use Rattle.line_plan.specs.declared.berth.Berth.{Berth}
use Rattle.line_plan.specs.declared.signal.Signal.{Signal}
use Rattle.line_law.specs.declared.call.Act.{Act}
use Rattle.line_law.specs.declared.call.Call.{Call}
use Rattle.line_law.specs.declared.call.Entry.{Entry}
use Rattle.line_law.specs.declared.call.Reply.TheVariants as replies
use Rattle.line_law.specs.declared.state.Bell.{Bell}
use Rattle.line_law.specs.declared.state.Block.{Block}
use Rattle.line_law.specs.declared.state.BoxState.{BoxState}
use Rattle.line_law.specs.declared.state.Incoming.{Incoming}
use Rattle.line_law.specs.declared.state.PairState.{PairState}
use Rattle.line_law.specs.declared.state.Passage.{Passage}
use Rattle.line_law.specs.declared.ways.ByWay.{ByWay}
use Rattle.line_law.specs.Arrivals.{line_berthed, line_cleared, line_parted, next_number, next_train, train_awaited}
use Rattle.line_law.specs.Arrivals.{train_berthed, train_cleared, train_parted}
use Rattle.line_law.specs.Bells.{awaited, heard, rung, silent}
use Rattle.line_law.specs.Controls.{released_line, wound}
use Rattle.line_law.specs.Decisions.{Told, Decision, Here, OnBell, OnBlock, OnPlainLine, on_pair}
use Rattle.line_law.specs.History.{IsLegal, IsLegalFrom, after_entry, state_after, state_of}
use Rattle.line_law.specs.Instruments.{await_block, line_turned, same_position, turned}
use Rattle.line_law.specs.Known.{KnowsCall}
use Rattle.line_law.specs.Law.{at_moment, link_of, pair_of, box_plan_of, step}
use Rattle.line_law.specs.Levers.{is_unspent_clear, pulled, pulled_under}
use Rattle.line_law.specs.Links.{way_of}
use Rattle.line_law.specs.Outcomes.{Outcome, Refused, Rings, Hears, AwaitsBell, Turns, AwaitsBlock, Pulls, PullsStarter}
use Rattle.line_law.specs.Outcomes.{Puts, Brings, GoesTo, GoesAway, Enters, AwaitsTrain, Berths, Parts, Clears, Winds}
use Rattle.line_law.specs.Outcomes.{Releases}
use Rattle.line_law.specs.States.{IsStateOf, LineState, box_at, no_state, opening_pair, opening_state, pair_at}
use Rattle.word_laws.specs.TellsWord.{NeverFalls}
use Rattle.line_law.specs.Trains.{enter, holds, is_berth_at, left_by, line_left}
use Rattle.line_law.specs.Ways.{of_way, with_way}
use Rattle.line_law.proofs.Keeping.{shape_stays}
use Rattle.line_law.proofs.Opens.{opening_shape}
use Rattle.line_law.proofs.Outcomes.{outcome_of}
use Rattle.line_law.proofs.Sides.{call_within}

-- ---- a box

-- the counts of trains sent and taken are no lower after
record BoxRises (here after : BoxState) : Type 0 where
  pub sent : (way : Way) → of_way here.sent way ≤ of_way after.sent way
  pub taken : (way : Way) → (of_way here.incoming way).taken ≤ (of_way after.incoming way).taken

-- where both counts stay
stays_so : (here after : BoxState) → after.sent ≡ here.sent → after.incoming ≡ here.incoming → BoxRises here after
stays_so here after s i = record {
  sent = λ way.
      (let e : of_way after.sent way ≡ of_way here.sent way = ap (λ (b : ByWay ℕ). of_way b way) s in omega (arith, e));
  taken = λ way.
      (let e : (of_way after.incoming way).taken ≡ (of_way here.incoming way).taken =
      ap (λ (b : ByWay Incoming). (of_way b way).taken) i in omega (arith, e));
}

same_box : (here : BoxState) → BoxRises here here
same_box here = stays_so here here refl refl

higher : (both : ByWay ℕ) (way w : Way) (n : ℕ) → of_way both way ≤ n → of_way both w ≤ of_way (with_way both way n) w
higher both Up Up n h = h
higher both Up Down n h = omega arith
higher both Down Up n h = omega arith
higher both Down Down n h = h

higher_line : (both : ByWay Incoming) (way w : Way) (x : Incoming) → (of_way both way).taken ≤ x.taken
    → (of_way both w).taken ≤ (of_way (with_way both way x) w).taken
higher_line both Up Up x h = h
higher_line both Up Down x h = omega arith
higher_line both Down Up x h = omega arith
higher_line both Down Down x h = h

-- a box of which one incoming line was changed, with no fewer trains taken
line_rises : (here : BoxState) (way : Way) (x : Incoming) → (of_way here.incoming way).taken ≤ x.taken → (w : Way)
    → (of_way here.incoming w).taken ≤ (of_way (with_way here.incoming way x) w).taken
line_rises here way x h w = higher_line here.incoming way w x h

turned_taken : (line : Incoming) (p : Position) (v : ℕ) → line.taken ≤ (line_turned line p v).taken
turned_taken line shows.Normal v = omega arith
turned_taken line shows.LineClear v = omega arith
turned_taken line shows.TrainOnLine v = omega arith

left_taken : (b : Option Berth) (place : ℕ) (line : Incoming) → line.taken ≤ (line_left b place line).taken
left_taken b place line =
    elim (is_berth_at b place) as
    (λ (t : Bool).
    line.taken ≤ (if t then record line { control = Rattle.line_law.specs.Controls.left_control line.control }
    else line).taken) [ true ↦ omega arith | false ↦ omega arith ]

left_rises : (box_plan : BoxFields) (here : BoxState) (signal : Signal) → BoxRises here (left_by box_plan here signal)
left_rises box_plan here signal = record { sent = λ way. omega arith; taken = by }
  where
    by : (way : Way) → (of_way here.incoming way).taken ≤ (of_way (left_by box_plan here signal).incoming way).taken
    by Up = left_taken box_plan.berth_up signal.from here.incoming.up
    by Down = left_taken box_plan.berth_down signal.from here.incoming.down

pulled_rises : (s : Option Signal) (here : BoxState) (lever : ℕ) → BoxRises here (pulled here lever s)
pulled_rises None here lever = stays_so here (pulled here lever None) refl refl
pulled_rises (Some signal) here lever = stays_so here (pulled here lever (Some signal)) refl refl

-- ---- a call

-- no count falls in a decision
abbrev RisesAt : BoxState → Decision → Type 0
RisesAt here (Here reply after) = BoxRises here after
RisesAt here (OnBell act) = (bell : Bell) → (bell.count ≤ (act bell).word.count) × BoxRises here (act bell).here
RisesAt here (OnBlock act) = (block : Block) → (block.turns ≤ (act block).word.turns) × BoxRises here (act block).here
RisesAt here (OnPlainLine act) = (line : List Passage) → BoxRises here (act line).here

rung_rises : (here : BoxState) (side : Way) (code count : ℕ) (u : Option ℕ)
    → (count ≤ (rung here side code count u).word.count) × BoxRises here (rung here side code count u).here
rung_rises here side code count None = (omega arith, stays_so here _ refl refl)
rung_rises here side code count (Some held) = (omega arith, same_box here)

heard_rises : (here : BoxState) (count : ℕ) (u : Option ℕ)
    → (count ≤ (heard here count u).word.count) × BoxRises here (heard here count u).here
heard_rises here count None = (omega arith, same_box here)
heard_rises here count (Some code) = (omega arith, same_box here)

if_rises : {W : Type 0} (here : BoxState) (before : ℕ) (after : W → ℕ) (b : Bool) (x y : Told W)
    → (before ≤ after x.word) × BoxRises here x.here → (before ≤ after y.word) × BoxRises here y.here
    → (before ≤ after (if b then x else y).word) × BoxRises here (if b then x else y).here
if_rises here before after true x y h g = h
if_rises here before after false x y h g = g

awaited_rises : (here : BoxState) (code count : ℕ) (u : Option ℕ)
    → (count ≤ (awaited here code count u).word.count) × BoxRises here (awaited here code count u).here
awaited_rises here code count None = (omega arith, same_box here)
awaited_rises here code count (Some held) =
    if_rises {W = Bell} here count (λ (b : Bell). b.count) (held == code)
    (record { reply = replies.Heard held count; here = here; word = silent count })
    (record {
      reply = replies.BellNotYet (Some held) count;
      here = here;
      word =
          record { count = count; unheard = Some held };
    }) (omega arith, same_box here) (omega arith, same_box here)

turned_rises : (here : BoxState) (way : Way) (p : Position) (block : Block)
    → (block.turns ≤ (turned here way p block).word.turns) × BoxRises here (turned here way p block).here
turned_rises here way p block = (
  omega arith,
  record {
    sent = λ w. omega arith;
    taken =
        line_rises here way (line_turned (of_way here.incoming way) p (block.turns + 1))
        (turned_taken (of_way here.incoming way) p (block.turns + 1));
  },
)

seen_rises : (here : BoxState) (p : Position) (block : Block)
    → (block.turns ≤ (await_block here p block).word.turns) × BoxRises here (await_block here p block).here
seen_rises here p block =
    if_rises {W = Block} here block.turns (λ (b : Block). b.turns) (same_position block.position p)
    (record { reply = replies.Seen block.turns; here = here; word = block })
    (record { reply = replies.BlockNotYet block.position block.turns; here = here; word = block })
    (omega arith, same_box here) (omega arith, same_box here)

under_rises : (here after : BoxState) (way : Way) (block : Block) → BoxRises here after
    → (block.turns ≤ (pulled_under here after way block).word.turns)
    × BoxRises here (pulled_under here after way block).here
under_rises here after way block h =
    if_rises {W = Block} here block.turns (λ (b : Block). b.turns) (is_unspent_clear block)
    (record { reply = replies.PulledUnder block.turns; here = after; word = record block { spent = true } })
    (record {
      reply = replies.HeldByInstrument way block.position block.spent block.turns;
      here = here;
      word =
          record block { spent = true };
    }) (omega arith, h) (omega arith, same_box here)

either_rises : (here : BoxState) (b : Bool) (x y : Told (List Passage)) → BoxRises here x.here → BoxRises here y.here
    → BoxRises here (if b then x else y).here
either_rises here true x y h g = h
either_rises here false x y h g = g

enter_rises : (box_plan : BoxFields) (here : BoxState) (signal : Signal) (way : Way) (train : ℕ) (line : List Passage)
    → BoxRises here (enter here (left_by box_plan here signal) way train line).here
enter_rises box_plan here signal way train line =
    let left = left_rises box_plan here signal in
    either_rises here (holds line (of_way here.sent way + 1))
    (record { reply = replies.SectionFull (of_way here.sent way + 1); here = here; word = line })
    (record {
      reply = replies.Entered train (of_way here.sent way + 1);
      here =
          record (left_by box_plan here signal) { sent = with_way here.sent way (of_way here.sent way + 1) };
      word =
          line ++ record { number = of_way here.sent way + 1; train = train } ∷ [];
    })
    (same_box here)
    (record { sent = λ w. higher here.sent way w (of_way here.sent way + 1) (omega arith); taken = left.taken })

awaits_rises : (t : Option ℕ) (here : BoxState) (j : ℕ) (line : List Passage)
    → BoxRises here (train_awaited t here j line).here
awaits_rises None here j line = same_box here
awaits_rises (Some train) here j line = same_box here

berths_rises : (t : Option ℕ) (here : BoxState) (way : Way) (place : ℕ) (line : List Passage)
    → BoxRises here (train_berthed t here way place (next_number here way) line).here
berths_rises None here way place line = same_box here
berths_rises (Some train) here way place line =
    record {
      sent = λ w. omega arith;
      taken =
          line_rises here way (line_berthed (of_way here.incoming way) (next_number here way)) (omega arith);
    }

parts_rises : (t : Option ℕ) (here : BoxState) (way : Way) (place : ℕ) (line : List Passage)
    → BoxRises here (train_parted t here way place (next_number here way) line).here
parts_rises None here way place line = same_box here
parts_rises (Some train) here way place line =
    record {
      sent = λ w. omega arith;
      taken =
          line_rises here way (line_parted (of_way here.incoming way) train) (omega arith);
    }

clears_rises : (t : Option ℕ) (here : BoxState) (way : Way) (line : List Passage)
    → BoxRises here (train_cleared t here way (next_number here way) line).here
clears_rises None here way line = same_box here
clears_rises (Some train) here way line =
    record {
      sent = λ w. omega arith;
      taken =
          line_rises here way (line_cleared (of_way here.incoming way) (next_number here way)) (omega arith);
    }

call_rises : (plan : PlanFields) (box_plan : BoxFields) (act : Act) (here : BoxState) (d : Decision)
    → Outcome plan box_plan here act d → RisesAt here d
call_rises plan box_plan act here d (Refused a reply refused) = same_box here
call_rises plan box_plan act here d (Rings side code) = λ bell. rung_rises here side code bell.count bell.unheard
call_rises plan box_plan act here d (Hears side) = λ bell. heard_rises here bell.count bell.unheard
call_rises plan box_plan act here d (AwaitsBell side code) = λ bell. awaited_rises here code bell.count bell.unheard
call_rises plan box_plan act here d (Turns way p b e free) = λ block. turned_rises here way p block
call_rises plan box_plan act here d (AwaitsBlock way p) = λ block. seen_rises here p block
call_rises plan box_plan act here d (Pulls lever e free) = pulled_rises (signal_of box_plan lever) here lever
call_rises plan box_plan act here d (PullsStarter lever way e free) =
    λ block. under_rises here (pulled here lever (signal_of box_plan lever)) way block
    (pulled_rises (signal_of box_plan lever) here lever)
call_rises plan box_plan act here d (Puts lever free) = stays_so here _ refl refl
call_rises plan box_plan act here d (Brings train free) = stays_so here _ refl refl
call_rises plan box_plan act here d (GoesTo a lever signal train place e to there moves) = let left =
    left_rises box_plan here signal in record { sent = left.sent; taken = left.taken }
call_rises plan box_plan act here d (GoesAway a lever signal train e to there moves) = left_rises box_plan here signal
call_rises plan box_plan act here d (Enters a lever signal train way e to there moves) =
    λ line. enter_rises box_plan here signal way train line
call_rises plan box_plan act here d (AwaitsTrain way) =
    λ line. awaits_rises (next_train here way line) here (next_number here way) line
call_rises plan box_plan act here d (Berths way b e free) =
    λ line. berths_rises (next_train here way line) here way b.place line
call_rises plan box_plan act here d (Parts way b e free) =
    λ line. parts_rises (next_train here way line) here way b.place line
call_rises plan box_plan act here d (Clears way free) = λ line. clears_rises (next_train here way line) here way line
call_rises plan box_plan act here d (Winds way free) =
    record {
      sent = λ w. omega arith;
      taken =
          line_rises here way (wound (of_way here.incoming way) (here.moment + plan.delay)) (omega arith);
    }
call_rises plan box_plan act here d (Releases way free) =
    record {
      sent = λ w. omega arith;
      taken =
          line_rises here way (released_line (of_way here.incoming way)) (omega arith);
    }

-- ---- in the pair

record PairRises (here : BoxState) (pair : PairState) (told : Told PairState) : Type 0 where
  pub box : BoxRises here told.here
  pub rung : (w : Way) → (of_way pair.bells w).count ≤ (of_way told.word.bells w).count
  pub turns : (w : Way) → (of_way pair.blocks w).turns ≤ (of_way told.word.blocks w).turns

higher_bell : (both : ByWay Bell) (way w : Way) (x : Bell) → (of_way both way).count ≤ x.count
    → (of_way both w).count ≤ (of_way (with_way both way x) w).count
higher_bell both Up Up x h = h
higher_bell both Up Down x h = omega arith
higher_bell both Down Up x h = omega arith
higher_bell both Down Down x h = h

higher_block : (both : ByWay Block) (way w : Way) (x : Block) → (of_way both way).turns ≤ x.turns
    → (of_way both w).turns ≤ (of_way (with_way both way x) w).turns
higher_block both Up Up x h = h
higher_block both Up Down x h = omega arith
higher_block both Down Up x h = omega arith
higher_block both Down Down x h = h

pair_rises : (here : BoxState) (way : Way) (d : Decision) (pair : PairState) → RisesAt here d
    → PairRises here pair (on_pair way d pair)
pair_rises here way (Here reply after) pair r = record { box = r; rung = λ w. omega arith; turns = λ w. omega arith }
pair_rises here way (OnBell act) pair r = let h =
    r (of_way pair.bells way) in
    record { box = h.1; rung = λ w. higher_bell pair.bells way w _ h.0; turns = λ w. omega arith }
pair_rises here way (OnBlock act) pair r = let h =
    r (of_way pair.blocks way) in
    record { box = h.1; rung = λ w. omega arith; turns = λ w. higher_block pair.blocks way w _ h.0 }
pair_rises here way (OnPlainLine act) pair r =
    record { box = r (of_way pair.lines way); rung = λ w. omega arith; turns = λ w. omega arith }

-- ---- in the line

-- what each box of a list has after one of them was written
pub box_written : (P : ℕ → BoxState → Type 0) (boxes : List BoxState) (b : ℕ) (new : BoxState) (other : ℕ)
    → b < length boxes → P b new → P other (slice_index_or boxes other no_state)
    → P other (slice_index_or (slice_set boxes b new) other no_state)
box_written P boxes b new other within here there = elim (eqb_tells other b) [
  | inl same ↦
      let e : slice_index_or (slice_set boxes b new) b no_state ≡ new = get_or-set_same boxes b new no_state within in
      let at : P b (slice_index_or (slice_set boxes b new) b no_state) = subst (λ (x : BoxState). P b x) (sym e) here in
      subst (λ (k : ℕ). P k (slice_index_or (slice_set boxes b new) k no_state)) (sym same.1) at
  | inr differ ↦ subst (λ (x : BoxState). P other x) (sym (get_or-set_other boxes b other new no_state differ.1)) there
]

-- the same of pairs
pub pair_written : (P : ℕ → PairState → Type 0) (pairs : List PairState) (p : ℕ) (new : PairState) (other : ℕ)
    → p < length pairs → P p new → P other (slice_index_or pairs other opening_pair)
    → P other (slice_index_or (slice_set pairs p new) other opening_pair)
pair_written P pairs p new other within here there = elim (eqb_tells other p) [
  | inl same ↦
      let e : slice_index_or (slice_set pairs p new) p opening_pair ≡ new =
      get_or-set_same pairs p new opening_pair within in
      let at : P p (slice_index_or (slice_set pairs p new) p opening_pair) =
      subst (λ (x : PairState). P p x) (sym e) here in
      subst (λ (k : ℕ). P k (slice_index_or (slice_set pairs p new) k opening_pair)) (sym same.1) at
  | inr differ ↦
      subst (λ (x : PairState). P other x) (sym (get_or-set_other pairs p other new opening_pair differ.1)) there
]

-- in a known call no count of the line falls
pub call_never_falls : (plan : PlanFields) (state : LineState) (b : ℕ) (call : Call) → IsPlan plan
    → IsStateOf plan state → KnowsCall plan b call → NeverFalls state (step plan state b call).after
unfolding step
call_never_falls plan state b call is shape known =
    let within = call_within plan b call is known in
    let here = at_moment (box_at state b) call.moment in
    let p = pair_of plan b call in
    let pair = pair_at state p in
    let r = pair_rises here (way_of (link_of (box_plan_of plan b) call.act)) _ pair
    (call_rises plan (box_plan_of plan b) call.act here _ (outcome_of plan (box_plan_of plan b) call.act here)) in
    let box_in : b < length state.boxes = omega (arith, shape.boxes, within.box) in
    let pair_in : p < length state.pairs = omega (arith, shape.pairs, within.pair) in
    record {
      rung = λ q w. pair_written (λ k x. (of_way (pair_at state k).bells w).count ≤ (of_way x.bells w).count)
          state.pairs p _ q pair_in (r.rung w) (omega arith);
      turns = λ q w. pair_written (λ k x. (of_way (pair_at state k).blocks w).turns ≤ (of_way x.blocks w).turns)
          state.pairs p _ q pair_in (r.turns w) (omega arith);
      sent = λ c w. box_written (λ k x. of_way (box_at state k).sent w ≤ of_way x.sent w) state.boxes b _ c box_in
          (r.box.sent w) (omega arith);
      taken = λ c w. box_written (λ k x. (of_way (box_at state k).incoming w).taken ≤ (of_way x.incoming w).taken)
          state.boxes b _ c box_in (r.box.taken w) (omega arith);
    }

-- ---- along a history

no_fall : (state : LineState) → NeverFalls state state
no_fall state =
    record {
      rung = λ p w. omega arith;
      turns = λ p w. omega arith;
      sent = λ b w. omega arith;
      taken =
          λ b w. omega arith;
    }

then_later : (a b c : LineState) → NeverFalls a b → NeverFalls b c → NeverFalls a c
then_later a b c h g = record {
  rung = λ p w. omega (arith, h.rung p w, g.rung p w);
  turns = λ p w. omega (arith, h.turns p w, g.turns p w);
  sent = λ k w. omega (arith, h.sent k w, g.sent k w);
  taken = λ k w. omega (arith, h.taken k w, g.taken k w);
}

falls_never_from : (plan : PlanFields) (state : LineState) (es : List Entry) → IsPlan plan → IsStateOf plan state
    → IsLegalFrom plan state es → NeverFalls state (state_after plan state es)
falls_never_from plan state [] is shape legal = no_fall state
falls_never_from plan state (e ∷ es) is shape legal =
    then_later state (after_entry plan state e) (state_after plan (after_entry plan state e) es)
    (call_never_falls plan state e.box_no e.call is shape legal.0.known)
    (falls_never_from plan (after_entry plan state e) es is (shape_stays plan state e.box_no e.call shape) legal.2)

falls_never_on : (plan : PlanFields) (state : LineState) (es more : List Entry) → IsPlan plan → IsStateOf plan state
    → IsLegalFrom plan state (es ++ more) → NeverFalls (state_after plan state es) (state_after plan state (es ++ more))
falls_never_on plan state [] more is shape legal = falls_never_from plan state more is shape legal
falls_never_on plan state (e ∷ es) more is shape legal =
    falls_never_on plan (after_entry plan state e) es more is (shape_stays plan state e.box_no e.call shape) legal.2

-- in a legal history no count of the line falls
pub never_falls : (plan : PlanFields) (es more : List Entry) → IsPlan plan → IsLegal plan (es ++ more)
    → NeverFalls (state_of plan es) (state_of plan (es ++ more))
never_falls plan es more is legal = falls_never_on plan (opening_state plan) es more is (opening_shape plan) legal
