-- The first turns of an instrument, and a pull of its starter, in a box that has done nothing.
use Rattle.std.proofs.Common.{◌≡◌, ℕ, ◌+◌, ◌-◌, ◌<◌, Bool, false, if◌then◌else◌, inl, List, [], ◌∷◌, length}
use Rattle.std.proofs.Common.{Option, Some, None, refl, sym, ap, subst, ◌∙◌, arith, replicate}
use Rattle.block_words.specs.Instruments.{block_word}
use Rattle.block_words.specs.declared.Position.{Position}
use Rattle.block_words.specs.declared.Position.TheVariants as shows
use Rattle.block_words.specs.declared.Way.TheVariants.{Down}
use Rattle.block_words.specs.declared.WelwynState.TheVariants as welwyn
use Rattle.block_words.specs.declared.WordOp.TheVariants as ops
use Rattle.locking_table.specs.Meaning.{holder_of}
use Rattle.locking_table.specs.declared.places.End.TheVariants as ends
use Rattle.locking_table.specs.declared.row.Row.{Row}
use Rattle.line_plan.specs.Frames.{BoxFields, berth_of, frame_size, kind_of, signal_of, track_of}
use Rattle.line_plan.specs.Plans.{IsPlan, PlanFields}
use Rattle.line_plan.specs.declared.berth.Berth.{Berth}
use Rattle.line_plan.specs.declared.frame.Kind.{Kind}
use Rattle.line_law.specs.declared.call.Act.TheVariants as acts
use Rattle.line_law.specs.declared.call.Call.{Call}
use Rattle.line_law.specs.declared.call.Reply.{Reply}
use Rattle.line_law.specs.declared.call.Reply.TheVariants.{AlreadyReversed, AlreadyThere}
use Rattle.line_law.specs.declared.link.Link.TheVariants.{In}
use Rattle.line_law.specs.declared.state.Block.{Block}
use Rattle.line_law.specs.declared.state.BoxState.{BoxState}
use Rattle.line_law.specs.declared.state.Control.TheVariants.{Absolute}
use Rattle.line_law.specs.declared.tracks.Standing.{Standing}
use Rattle.line_law.specs.Decisions.{Decision, OnBlock, on_pair, or_later, unless}
use Rattle.line_law.specs.History.{state_of}
use Rattle.line_law.specs.Instruments.{clearing_refusal, control_refusal, home_refusal, position_refusal, same_position}
use Rattle.line_law.specs.Instruments.{turn, turn_refusal, turned, welwyn_refusal}
use Rattle.line_law.specs.Known.{KnowsCall}
use Rattle.line_law.specs.Law.{at_moment, box_plan_of, decide}
use Rattle.line_law.specs.LeverEnds.{first_reversed, is_reversed_end}
use Rattle.line_law.specs.Levers.{lock_refusal, pull_at, pull_refusal, pulled, pulled_under, row_refusal, spare_refusal}
use Rattle.line_law.specs.Levers.{starter_way, track_refusal}
use Rattle.line_law.specs.Links.{pair_no}
use Rattle.line_law.specs.States.{box_at, control_of, opening_box, opening_control, pair_at}
use Rattle.line_law.specs.Tracks.{first_standing, standing_at}
use Rattle.line_law.proofs.Opens.{all_one, opening_at}
use Rattle.word_laws.specs.Footprint.{Kind as WordKind, kind_of as word_kind}
use Rattle.word_laws.specs.Operations.{first_by, first_on, pull_op}
use Rattle.word_laws.specs.WordNumbers.{Agrees, BlockAgrees}
use Rattle.word_laws.proofs.Agreements.{met_agrees}
use Rattle.instrument_rule.specs.declared.view.View.{View}
use Rattle.instrument_rule.specs.Calls.{OpFits, Sits}
use Rattle.instrument_rule.specs.Told.{Made}
use Rattle.instrument_rule.specs.Views.{caller_of, with_post}
use Rattle.rule_tests.specs.Instruments.{Fresh, Given, IsAbsolute, IsFreeStarter}
use Rattle.rule_tests.proofs.Hands.{fresh, made, same_own}

-- a call at 00:00 that turns the down instrument to a position
abbrev pub turn_call : Position → Call
turn_call position = record { moment = 0; act = acts.Turn Down position }

-- a call at 00:00 that pulls a lever
abbrev pub pull_call : ℕ → Call
pull_call lever = record { moment = 0; act = acts.Pull lever }

-- ---- a box that has done nothing

none_reversed : (n : ℕ) (levers : List ℕ) → first_reversed (replicate n ends.Normal) levers ≡ None
none_reversed n [] = refl
none_reversed n (lever ∷ levers) =
    ap (λ (t : Bool). if t then Some lever else first_reversed (replicate n ends.Normal) levers)
    (ap is_reversed_end (all_one n (lever - 1) ends.Normal)) ∙ none_reversed n levers

none_standing : (n : ℕ) (places : List ℕ) → first_standing (replicate n None) places ≡ None
none_standing n [] = refl
none_standing n (place ∷ places) =
    ap (λ (t : Option ℕ). standing_at t place (first_standing (replicate n None) places)) (all_one n place None)
    ∙ none_standing n places

-- where a seat that had seen nothing has drawn a box, that box has done nothing
pub drawn : (plan : PlanFields) (v : View) (b : ℕ) → Sits plan v → v.posts ≡ [] → v.seen ≡ []
    → b < length plan.boxes → Fresh plan (with_post v b)
drawn plan v b sits free seen within = record {
  knows = fresh plan v b sits free seen within;
  opens = ap (λ (es : List Rattle.line_law.specs.declared.call.Entry.Entry). box_at (state_of plan es) b) seen
      ∙ opening_at plan b within;
}

-- ---- Line Clear

clear_free : (trains : ℕ) (bp : BoxFields) (berth : Berth) → berth_of bp Down ≡ Some berth → berth.permissive ≡ None
    → turn_refusal (at_moment (opening_box trains bp) 0) berth (opening_box trains bp).incoming.down shows.LineClear
    ≡ None
clear_free trains bp berth there absolute =
    let control : opening_control bp.berth_down ≡ Absolute welwyn.Ready =
    ap opening_control there ∙ ap control_of absolute in
    let homes = none_reversed (frame_size bp.levers) berth.homes in
    let clear = none_standing (length bp.places) (berth.place ∷ berth.clearing) in
    (λ i. or_later (home_refusal (homes i)) (control_refusal (control i) (at_moment (opening_box trains bp) 0) berth))
    ∙ ap (λ (t : Option Standing). or_later (clearing_refusal t) (welwyn_refusal welwyn.Ready)) clear

clear_decided : (plan : PlanFields) (bp : BoxFields) (trains : ℕ) (here : BoxState) (berth : Berth)
    → berth_of bp Down ≡ Some berth → berth.permissive ≡ None → here ≡ at_moment (opening_box trains bp) 0
    → decide plan bp (acts.Turn Down shows.LineClear) here ≡ OnBlock (turned here Down shows.LineClear)
clear_decided plan bp trains here berth there absolute opens =
    ap (λ (t : Option Berth). turn t here Down shows.LineClear) there
    ∙ ap (λ (t : Option Reply). unless t here (OnBlock (turned here Down shows.LineClear)))
    (subst (λ (h : BoxState). turn_refusal h berth h.incoming.down shows.LineClear ≡ None) (sym opens)
    (clear_free trains bp berth there absolute))

-- an operation of a turn that its box doesn't refuse
turn_op : (plan : PlanFields) (bp : BoxFields) (here : BoxState) (position : Position) (turns x : ℕ)
    → decide plan bp (acts.Turn Down position) here ≡ OnBlock (turned here Down position)
    → here.incoming.down.turns ≡ turns → x ≡ block_word (turns + 1) false position
    → first_on (word_kind (decide plan bp (acts.Turn Down position) here)) (first_by bp (acts.Turn Down position) here)
    ≡ ops.Turn Down x
turn_op plan bp here position turns x decided counted word =
    ap (λ (d : Decision). first_on (word_kind d) (first_by bp (acts.Turn Down position) here)) decided
    ∙ (ap (λ (t : ℕ). ops.Turn Down (block_word (t + 1) false position)) counted
    ∙ ap (λ (t : ℕ). ops.Turn Down t) (sym word))

module _ (plan : PlanFields) (is : IsPlan plan) (v : View) (f : Fresh plan v) (a : IsAbsolute plan (caller_of v.posts))
  where
    opened : at_moment (box_at (state_of plan v.seen) (caller_of v.posts)) 0
        ≡ at_moment (opening_box (length plan.trains) (box_plan_of plan (caller_of v.posts))) 0
    opened = ap (λ (h : BoxState). at_moment h 0) f.opens

    pub fits_clear : (x : ℕ) → x ≡ block_word 1 false shows.LineClear
        → OpFits plan (caller_of v.posts) (turn_call shows.LineClear) (ops.Turn Down x) v
    fits_clear x word = inl
        (turn_op plan (box_plan_of plan (caller_of v.posts))
        (at_moment (box_at (state_of plan v.seen) (caller_of v.posts)) 0)
        shows.LineClear 0 x
        (clear_decided plan (box_plan_of plan (caller_of v.posts)) (length plan.trains)
        (at_moment (box_at (state_of plan v.seen) (caller_of v.posts)) 0) a.berth a.there a.absolute opened)
        (ap (λ (h : BoxState). h.incoming.down.turns) f.opens) word)

    pub gives : (m x : ℕ) (w : View) → KnowsCall plan (caller_of v.posts) (turn_call shows.LineClear)
        → Made plan (caller_of v.posts) (turn_call shows.LineClear) (ops.Turn Down x) v m w → Given plan w
    gives m x w known t =
        let told = made plan is v 0 0 f.knows (turn_call shows.LineClear) (ops.Turn Down x) m 0 w
        (turned (at_moment (box_at (state_of plan t.log) (caller_of v.posts)) 0) Down shows.LineClear block).here t
        known
        (ap (λ (d : Decision).
        (on_pair Down d (pair_at (state_of plan t.log) (pair_no (caller_of v.posts) (In Down)))).here)
        decision) refl (ap (λ (h : BoxState). h.rung.down) same) (omega arith) in record {
          knows = told.0;
          turned = ap (λ (h : BoxState). h.incoming.down.turns) told.1 ∙ ap (λ (n : ℕ). n + 1) counts;
          given = ap (λ (h : BoxState). h.incoming.down.position) told.1;
        }
      where
        same : box_at (state_of plan t.log) (caller_of v.posts)
            ≡ opening_box (length plan.trains) (box_plan_of plan (caller_of v.posts))
        same = same_own plan is v 0 0 f.knows t.log t.met.seen t.met.legal ∙ f.opens

        decision : decide plan (box_plan_of plan (caller_of v.posts)) (acts.Turn Down shows.LineClear)
            (at_moment (box_at (state_of plan t.log) (caller_of v.posts)) 0)
            ≡ OnBlock (turned (at_moment (box_at (state_of plan t.log) (caller_of v.posts)) 0) Down shows.LineClear)
        decision = clear_decided plan (box_plan_of plan (caller_of v.posts)) (length plan.trains)
            (at_moment (box_at (state_of plan t.log) (caller_of v.posts)) 0) a.berth a.there a.absolute
            (ap (λ (h : BoxState). at_moment h 0) same)

        block : Block
        block = (pair_at (state_of plan t.log) (pair_no (caller_of v.posts) (In Down))).blocks.down

        agrees : BlockAgrees (In Down) (at_moment (box_at (state_of plan t.log) (caller_of v.posts)) 0)
            (pair_at (state_of plan t.log) (pair_no (caller_of v.posts) (In Down))).blocks.down
        agrees = subst (λ (kind : WordKind). Agrees kind (In Down)
            (at_moment (box_at (state_of plan t.log) (caller_of v.posts)) 0)
            (pair_at (state_of plan t.log) (pair_no (caller_of v.posts) (In Down)))) (ap word_kind decision)
            (met_agrees plan t.log (caller_of v.posts) (turn_call shows.LineClear) is t.met.legal t.met.few known)

        counts : (pair_at (state_of plan t.log) (pair_no (caller_of v.posts) (In Down))).blocks.down.turns ≡ 0
        counts = agrees.turned.0 ∙ ap (λ (h : BoxState). h.incoming.down.turns) same

-- ---- Train on Line

train_decided : (plan : PlanFields) (bp : BoxFields) (here : BoxState) (berth : Berth) → berth_of bp Down ≡ Some berth
    → here.incoming.down.position ≡ shows.LineClear
    → decide plan bp (acts.Turn Down shows.TrainOnLine) here ≡ OnBlock (turned here Down shows.TrainOnLine)
train_decided plan bp here berth there given =
    ap (λ (t : Option Berth). turn t here Down shows.TrainOnLine) there
    ∙ ap (λ (p : Position). unless (if same_position p shows.TrainOnLine then Some AlreadyThere
    else position_refusal shows.TrainOnLine here berth here.incoming.down) here
    (OnBlock (turned here Down shows.TrainOnLine))) given

pub fits_train : (plan : PlanFields) (v : View) (x : ℕ) → Given plan v → IsAbsolute plan (caller_of v.posts)
    → x ≡ block_word 2 false shows.TrainOnLine
    → OpFits plan (caller_of v.posts) (turn_call shows.TrainOnLine) (ops.Turn Down x) v
fits_train plan v x g a word = inl
    (turn_op plan (box_plan_of plan (caller_of v.posts))
    (at_moment (box_at (state_of plan v.seen) (caller_of v.posts)) 0)
    shows.TrainOnLine 1 x
    (train_decided plan (box_plan_of plan (caller_of v.posts))
    (at_moment (box_at (state_of plan v.seen) (caller_of v.posts)) 0)
    a.berth a.there g.given) g.turned word)

-- ---- the starter

pull_free : (trains : ℕ) (bp : BoxFields) (lever : ℕ) → bp.rows ≡ []
    → kind_of bp lever ≡ Some Rattle.line_plan.specs.declared.frame.Kind.TheVariants.Signal
    → pull_refusal bp (at_moment (opening_box trains bp) 0) lever ≡ None
pull_free trains bp lever rows kind =
    ap (λ (t : Bool). if t then Some AlreadyReversed else or_later (spare_refusal (kind_of bp lever))
    (lock_refusal bp (at_moment (opening_box trains bp) 0) lever))
    (ap is_reversed_end (all_one (frame_size bp.levers) (lever - 1) ends.Normal))
    ∙ (ap (λ (t : Option Kind). or_later (spare_refusal t)
    (lock_refusal bp (at_moment (opening_box trains bp) 0) lever)) kind
    ∙ (ap (λ (t : List Row). or_later (row_refusal (holder_of (opening_box trains bp).ends lever t))
    (track_refusal (first_standing (opening_box trains bp).places (track_of bp lever)))) rows
    ∙ ap track_refusal (none_standing (length bp.places) (track_of bp lever))))

pull_decided : (plan : PlanFields) (bp : BoxFields) (trains : ℕ) (here : BoxState) (lever : ℕ) → bp.rows ≡ []
    → kind_of bp lever ≡ Some Rattle.line_plan.specs.declared.frame.Kind.TheVariants.Signal
    → starter_way (signal_of bp lever) ≡ Some Down → here ≡ at_moment (opening_box trains bp) 0
    → decide plan bp (acts.Pull lever) here ≡ OnBlock (pulled_under here (pulled here lever (signal_of bp lever)) Down)
pull_decided plan bp trains here lever rows kind leads opens =
    ap (λ (t : Option Reply). unless t here
    (pull_at here (pulled here lever (signal_of bp lever)) (starter_way (signal_of bp lever))))
    (subst (λ (h : BoxState). pull_refusal bp h lever ≡ None) (sym opens) (pull_free trains bp lever rows kind))
    ∙ ap (pull_at here (pulled here lever (signal_of bp lever))) leads

-- in a box that has done nothing, a pull of a free starter first pulls under the down instrument
pub fits_pull : (plan : PlanFields) (v : View) (lever : ℕ) → Fresh plan v → IsFreeStarter plan (caller_of v.posts) lever
    → OpFits plan (caller_of v.posts) (pull_call lever) (ops.Pull Down) v
fits_pull plan v lever f s = inl
    (ap (λ (d : Decision). first_on (word_kind d)
    (pull_op (starter_way (signal_of (box_plan_of plan (caller_of v.posts)) lever))))
    (pull_decided plan (box_plan_of plan (caller_of v.posts)) (length plan.trains)
    (at_moment (box_at (state_of plan v.seen) (caller_of v.posts)) 0) lever s.rows s.kind s.leads
    (ap (λ (h : BoxState). at_moment h 0) f.opens))
    ∙ ap pull_op s.leads)
