-- A refused call leaves its line as it was, but for the last moment of its box and the instrument that holds a pull.
use Rattle.std.proofs.Common.{◌≡◌, ℕ, ◌+◌, Bool, true, false, cond, IsTrue, List, Option, Some, None, refl, ap, ◌∙◌}
use Rattle.std.specs.Prelude.{◌==◌, slice_set}
use Rattle.std.proofs.lemmas.List.{set-get_or}
use Rattle.block_words.specs.declared.Position.{Position}
use Rattle.block_words.specs.declared.Way.{Way}
use Rattle.block_words.specs.declared.Way.TheVariants.{Up, Down}
use Rattle.line_plan.specs.Frames.{BoxFields, signal_of}
use Rattle.line_plan.specs.Plans.{PlanFields}
use Rattle.line_law.specs.declared.call.Act.{Act}
use Rattle.line_law.specs.declared.call.Call.{Call}
use Rattle.line_law.specs.declared.call.Reply.{Reply}
use Rattle.line_law.specs.declared.call.Reply.TheVariants as replies
use Rattle.line_law.specs.declared.link.Link.{Link}
use Rattle.line_law.specs.declared.link.Link.TheVariants.{Out}
use Rattle.line_law.specs.declared.state.Bell.{Bell}
use Rattle.line_law.specs.declared.state.Block.{Block}
use Rattle.line_law.specs.declared.state.BoxState.{BoxState}
use Rattle.line_law.specs.declared.state.PairState.{PairState}
use Rattle.line_law.specs.declared.state.Passage.{Passage}
use Rattle.line_law.specs.declared.ways.ByWay.{ByWay}
use Rattle.line_law.specs.Arrivals.{await_train, berthed, cleared, parted}
use Rattle.line_law.specs.Arrivals.{next_number, next_train, train_awaited, train_berthed, train_cleared, train_parted}
use Rattle.line_law.specs.Bells.{await_bell, awaited, hear, heard, ring, rung}
use Rattle.line_law.specs.Decisions.{Decision, Told, OnBell, OnBlock, OnPlainLine, on_pair}
use Rattle.line_law.specs.Instruments.{await_block, same_position}
use Rattle.line_law.specs.Law.{at_moment, link_of, pair_of, box_plan_of, step}
use Rattle.line_law.specs.Levers.{is_unspent_clear, pulled, pulled_under, starter_link}
use Rattle.line_law.specs.Links.{pair_no, way_of}
use Rattle.line_law.specs.Outcomes.{Outcome, Refused, Rings, Hears, AwaitsBell, AwaitsBlock, PullsStarter}
use Rattle.line_law.specs.Outcomes.{Enters, AwaitsTrain, Berths, Parts, Clears}
use Rattle.line_law.specs.Refusals.{is_held_by_instrument, is_refused, is_refused_here, pair_spent, with_moment}
use Rattle.line_law.specs.Refusals.{with_spent}
use Rattle.line_law.specs.States.{LineState, box_at, opening_pair, pair_at}
use Rattle.line_law.specs.Trains.{enter, holds, left_by}
use Rattle.line_law.specs.Ways.{of_way, with_way}
use Rattle.line_law.proofs.Outcomes.{outcome_of}

-- ---- one word

-- a call that no instrument holds, and that leaves its box and the word where it is refused
abbrev Stays : {W : Type 0} → BoxState → W → Told W → Type 0
Stays here word told =
    (is_held_by_instrument told.reply ≡ false)
    × (IsTrue (is_refused told.reply) → (told.here ≡ here) × (told.word ≡ word))

either_stays : {W : Type 0} (b : Bool) (here : BoxState) (word : W) (x y : Told W) → Stays here word x
    → Stays here word y → Stays here word (cond b x y)
either_stays true here word x y p q = p
either_stays false here word x y p q = q

rung_stays : (here : BoxState) (side : Way) (code count : ℕ) (unheard : Option ℕ)
    → Stays here (let bell : Bell = record { count = count; unheard = unheard } in bell)
    (rung here side code count unheard)
rung_stays here side code count (Some held) = (refl, λ r. (refl, refl))
rung_stays here side code count None = (refl, λ r. absurd cc)

heard_stays : (here : BoxState) (count : ℕ) (unheard : Option ℕ)
    → Stays here (let bell : Bell = record { count = count; unheard = unheard } in bell) (heard here count unheard)
heard_stays here count (Some code) = (refl, λ r. absurd cc)
heard_stays here count None = (refl, λ r. (refl, refl))

awaited_stays : (here : BoxState) (code count : ℕ) (unheard : Option ℕ)
    → Stays here (let bell : Bell = record { count = count; unheard = unheard } in bell)
    (awaited here code count unheard)
awaited_stays here code count (Some held) =
    either_stays (held == code) here _ _ _ (refl, λ r. absurd cc) (refl, λ r. (refl, refl))
awaited_stays here code count None = (refl, λ r. (refl, refl))

block_stays : (here : BoxState) (position : Position) (block : Block)
    → Stays here block (await_block here position block)
block_stays here position block =
    either_stays (same_position block.position position) here block _ _ (refl, λ r. absurd cc) (refl, λ r. (refl, refl))

enter_stays : (here left : BoxState) (way : Way) (train : ℕ) (line : List Passage)
    → Stays here line (enter here left way train line)
enter_stays here left way train line =
    either_stays (holds line (of_way here.sent way + 1)) here line _ _ (refl, λ r. (refl, refl)) (refl, λ r. absurd cc)

awaits_stays : (t : Option ℕ) (here : BoxState) (j : ℕ) (line : List Passage)
    → Stays here line (train_awaited t here j line)
awaits_stays None here j line = (refl, λ r. (refl, refl))
awaits_stays (Some train) here j line = (refl, λ r. absurd cc)

berthed_stays : (t : Option ℕ) (here : BoxState) (way : Way) (place j : ℕ) (line : List Passage)
    → Stays here line (train_berthed t here way place j line)
berthed_stays None here way place j line = (refl, λ r. (refl, refl))
berthed_stays (Some train) here way place j line = (refl, λ r. absurd cc)

parted_stays : (t : Option ℕ) (here : BoxState) (way : Way) (place j : ℕ) (line : List Passage)
    → Stays here line (train_parted t here way place j line)
parted_stays None here way place j line = (refl, λ r. (refl, refl))
parted_stays (Some train) here way place j line = (refl, λ r. absurd cc)

cleared_stays : (t : Option ℕ) (here : BoxState) (way : Way) (j : ℕ) (line : List Passage)
    → Stays here line (train_cleared t here way j line)
cleared_stays None here way j line = (refl, λ r. (refl, refl))
cleared_stays (Some train) here way j line = (refl, λ r. absurd cc)

-- ---- one pair

same_with : {A : Type 0} (both : ByWay A) (way : Way) → with_way both way (of_way both way) ≡ both
same_with both Up = refl
same_with both Down = refl

bell_in : (here : BoxState) (pair : PairState) (v : Way) (f : Bell → Told Bell)
    → Stays here (of_way pair.bells v) (f (of_way pair.bells v)) → Stays here pair (on_pair v (OnBell f) pair)
bell_in here pair v f h = (
  h.0,
  λ r. let kept = h.1 r in (
    kept.0,
    ap (λ (bell : Bell). (let p : PairState = record pair { bells = with_way pair.bells v bell } in p)) kept.1
        ∙ ap (λ (bells : ByWay Bell). (let p : PairState = record pair { bells = bells } in p))
        (same_with pair.bells v),
  ),
)

block_in : (here : BoxState) (pair : PairState) (v : Way) (f : Block → Told Block)
    → Stays here (of_way pair.blocks v) (f (of_way pair.blocks v)) → Stays here pair (on_pair v (OnBlock f) pair)
block_in here pair v f h = (
  h.0,
  λ r. let kept = h.1 r in (
    kept.0,
    ap (λ (block : Block). (let p : PairState = record pair { blocks = with_way pair.blocks v block } in p)) kept.1
        ∙ ap (λ (blocks : ByWay Block). (let p : PairState = record pair { blocks = blocks } in p))
        (same_with pair.blocks v),
  ),
)

line_in : (here : BoxState) (pair : PairState) (v : Way) (f : List Passage → Told (List Passage))
    → Stays here (of_way pair.lines v) (f (of_way pair.lines v)) → Stays here pair (on_pair v (OnPlainLine f) pair)
line_in here pair v f h = (
  h.0,
  λ r. let kept = h.1 r in (
    kept.0,
    ap (λ (line : List Passage). (let p : PairState = record pair { lines = with_way pair.lines v line } in p)) kept.1
        ∙ ap (λ (lines : ByWay (List Passage)). (let p : PairState = record pair { lines = lines } in p))
        (same_with pair.lines v),
  ),
)

-- ---- any call

not_held : (reply : Reply) → IsTrue (is_refused_here reply) → is_held_by_instrument reply ≡ false
not_held (replies.HeldByInstrument way shown spent v) h = absurd cc
not_held reply h = refl

-- what a call leaves that is refused: its box and the pair; or, where an instrument holds it, the box, and the pair
-- with
-- that instrument spent
record Leaves (bp : BoxFields) (act : Act) (here : BoxState) (pair : PairState) (v : Way) (told : Told PairState)
    : Type 0 where
  same : IsTrue (is_refused told.reply) → is_held_by_instrument told.reply ≡ false
      → (told.here ≡ here) × (told.word ≡ pair)
  spent : (way : Way) (turns : ℕ) (shown : Position) (spent : Bool)
      → told.reply ≡ replies.HeldByInstrument way shown spent turns
      → (link_of bp act ≡ Out way) × (told.here ≡ here) × (told.word ≡ pair_spent pair v)

no_instrument : (bp : BoxFields) (act : Act) (here : BoxState) (pair : PairState) (v : Way) (told : Told PairState)
    → Stays here pair told → Leaves bp act here pair v told
no_instrument bp act here pair v told h =
    record {
      same = λ r n. h.1 r;
      spent = λ way turns shown spent e.
          let held : is_held_by_instrument told.reply ≡ true = ap (λ (x : Reply). is_held_by_instrument x) e in
          let free = h.0 in absurd cc;
    }

held_way : (w way : Way) (n turns : ℕ) (p shown : Position) (s spent : Bool)
    → replies.HeldByInstrument w p s n ≡ replies.HeldByInstrument way shown spent turns → w ≡ way
held_way w way n turns p shown s spent e = cc

pull_leaves : (ok : Bool) (bp : BoxFields) (act : Act) (here after : BoxState) (pair : PairState) (v w : Way)
    → link_of bp act ≡ Out w → is_unspent_clear (of_way pair.blocks v) ≡ ok
    → Leaves bp act here pair v (on_pair v (OnBlock (pulled_under here after w)) pair)
pull_leaves true bp act here after pair v w to is =
    rw is (record { same = λ r n. absurd cc; spent = λ way turns shown spent e. absurd cc })
pull_leaves false bp act here after pair v w to is =
    rw is (record {
      same = λ r n. absurd cc;
      spent = λ way turns shown spent e.
          (to ∙ ap (λ (x : Way). Link.Out x) (held_way w way _ turns _ shown _ spent e), refl, refl);
    })

pair_leaves : (plan : PlanFields) (bp : BoxFields) (here : BoxState) (pair : PairState) (v : Way) (act : Act)
    (d : Decision) → Outcome plan bp here act d → Leaves bp act here pair v (on_pair v d pair)
pair_leaves plan bp here pair v act d (Refused a reply refused) =
    no_instrument bp _ here pair v _ (not_held reply refused, λ r. (refl, refl))
pair_leaves plan bp here pair v act d (Rings side code) =
    no_instrument bp _ here pair v _
    (bell_in here pair v (ring here side code)
    (rung_stays here side code (of_way pair.bells v).count (of_way pair.bells v).unheard))
pair_leaves plan bp here pair v act d (Hears side) =
    no_instrument bp _ here pair v _
    (bell_in here pair v (hear here) (heard_stays here (of_way pair.bells v).count (of_way pair.bells v).unheard))
pair_leaves plan bp here pair v act d (AwaitsBell side code) =
    no_instrument bp _ here pair v _
    (bell_in here pair v (await_bell here code)
    (awaited_stays here code (of_way pair.bells v).count (of_way pair.bells v).unheard))
pair_leaves plan bp here pair v act d (AwaitsBlock way position) =
    no_instrument bp _ here pair v _
    (block_in here pair v (await_block here position) (block_stays here position (of_way pair.blocks v)))
pair_leaves plan bp here pair v act d (PullsStarter lever way e free) =
    pull_leaves (is_unspent_clear (of_way pair.blocks v)) bp _ here
    (pulled here lever (signal_of bp lever)) pair v way (ap starter_link e) refl
pair_leaves plan bp here pair v act d (Enters a lever signal train way e to there moves) =
    no_instrument bp _ here pair v _
    (line_in here pair v (enter here (left_by bp here signal) way train)
    (enter_stays here (left_by bp here signal) way train (of_way pair.lines v)))
pair_leaves plan bp here pair v act d (AwaitsTrain way) =
    no_instrument bp _ here pair v _
    (line_in here pair v (await_train here way)
    (awaits_stays (next_train here way (of_way pair.lines v)) here (next_number here way) (of_way pair.lines v)))
pair_leaves plan bp here pair v act d (Berths way berth e free) =
    no_instrument bp _ here pair v _
    (line_in here pair v (berthed here way berth.place)
    (berthed_stays (next_train here way (of_way pair.lines v)) here way berth.place
    (next_number here way) (of_way pair.lines v)))
pair_leaves plan bp here pair v act d (Parts way berth e free) =
    no_instrument bp _ here pair v _
    (line_in here pair v (parted here way berth.place)
    (parted_stays (next_train here way (of_way pair.lines v)) here way berth.place
    (next_number here way) (of_way pair.lines v)))
pair_leaves plan bp here pair v act d (Clears way free) =
    no_instrument bp _ here pair v _
    (line_in here pair v (cleared here way)
    (cleared_stays (next_train here way (of_way pair.lines v)) here way (next_number here way) (of_way pair.lines v)))
pair_leaves plan bp here pair v act d out = no_instrument bp act here pair v _ (refl, λ r. absurd cc)

-- ---- the line

abbrev line_with : List BoxState → List PairState → LineState
line_with boxes pairs = record { boxes = boxes; pairs = pairs }

-- the box that calls, and what the neighbours share, as a call leaves them
placed : (state : LineState) (b p : ℕ) (here next : BoxState) (pair : PairState) → here ≡ next → pair ≡ pair_at state p
    → line_with (slice_set state.boxes b here) (slice_set state.pairs p pair)
    ≡ line_with (slice_set state.boxes b next) state.pairs
placed state b p here next pair e f =
    ap (λ (x : BoxState). line_with (slice_set state.boxes b x) (slice_set state.pairs p pair)) e
    ∙ ap (λ (x : PairState). line_with (slice_set state.boxes b next) (slice_set state.pairs p x)) f
    ∙ ap (λ (xs : List PairState). line_with (slice_set state.boxes b next) xs) (set-get_or state.pairs p opening_pair)

-- a refused call that no instrument holds leaves all but the last moment of its box
pub refusal_leaves : (plan : PlanFields) (state : LineState) (b : ℕ) (call : Call)
    → IsTrue (is_refused (step plan state b call).reply)
    → is_held_by_instrument (step plan state b call).reply ≡ false
    → (step plan state b call).after ≡ with_moment state b call
unfolding step
refusal_leaves plan state b call r n =
    let bp : BoxFields = box_plan_of plan b in
    let here : BoxState = at_moment (box_at state b) call.moment in
    let p : ℕ = pair_of plan b call in
    let kept = (pair_leaves plan bp here (pair_at state p) (way_of (link_of bp call.act)) call.act _
    (outcome_of plan bp call.act here)).same r n in
    placed state b p _ here _ kept.0 kept.1

spent_at : (state : LineState) (b p : ℕ) (link : Link) (here next : BoxState) (pair : PairState) (way : Way)
    → link ≡ Out way → p ≡ pair_no b link → here ≡ next → pair ≡ pair_spent (pair_at state p) (way_of link)
    → line_with (slice_set state.boxes b here) (slice_set state.pairs p pair)
    ≡ with_spent (line_with (slice_set state.boxes b next) state.pairs) b way
spent_at state b p link here next pair way to at e f =
    ap (λ (x : BoxState). line_with (slice_set state.boxes b x) (slice_set state.pairs p pair)) e
    ∙ ap (λ (x : PairState). line_with (slice_set state.boxes b next) (slice_set state.pairs p x)) f
    ∙ ap (λ (q : ℕ). line_with (slice_set state.boxes b next)
    (slice_set state.pairs q (pair_spent (pair_at state q) (way_of link)))) at
    ∙ ap (λ (l : Link). line_with (slice_set state.boxes b next)
    (slice_set state.pairs (pair_no b l) (pair_spent (pair_at state (pair_no b l)) (way_of l)))) to

-- a pull that an instrument holds leaves that instrument spent
pub held_spends : (plan : PlanFields) (state : LineState) (b : ℕ) (call : Call) (way : Way) (turns : ℕ)
    (shown : Position) (spent : Bool) → (step plan state b call).reply ≡ replies.HeldByInstrument way shown spent turns
    → (step plan state b call).after ≡ with_spent (with_moment state b call) b way
unfolding step
held_spends plan state b call way turns shown spent e =
    let bp : BoxFields = box_plan_of plan b in
    let here : BoxState = at_moment (box_at state b) call.moment in
    let p : ℕ = pair_of plan b call in
    let kept = (pair_leaves plan bp here (pair_at state p) (way_of (link_of bp call.act)) call.act _
    (outcome_of plan bp call.act here)).spent way turns shown spent e in
    spent_at state b p (link_of bp call.act) _ here _ way kept.0 refl kept.1 kept.2
