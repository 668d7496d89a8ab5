-- What the replies to the calls that move a lever tell.
use Rattle.std.proofs.Common.{◌≡◌, ℕ, ◌+◌, ◌<◌, ◌≤◌, ◌^◌, Bool, true, false, cond, IsTrue, List, [], ◌∷◌, Option, Some}
use Rattle.std.proofs.Common.{None, zero, suc, length, get_or, refl, sym, ap, ◌∙◌, subst, arith}
use Rattle.std.specs.Prelude.{is_some, nat_lt, ◌==◌, ◌&&◌}
use Rattle.std.specs.List.{find}
use Rattle.std.proofs.lemmas.Bool.Decides.{nat_tests}
use Rattle.block_words.specs.declared.Way.{Way}
use Rattle.block_words.specs.declared.Way.TheVariants.{Up, Down}
use Rattle.locking_table.specs.Meaning.{holder_of}
use Rattle.locking_table.specs.declared.row.Holder.{Holder}
use Rattle.line_plan.specs.Frames.{BoxFields, berth_of, kind_of, signal_of, track_of}
use Rattle.line_plan.specs.Plans.{IsPlan, PlanFields}
use Rattle.line_plan.specs.declared.frame.Kind.{Kind}
use Rattle.line_plan.specs.declared.frame.Kind.TheVariants as kinds
use Rattle.line_plan.specs.declared.frame.Lever.{Lever}
use Rattle.line_law.specs.declared.call.Act.TheVariants as acts
use Rattle.line_law.specs.declared.call.Call.{Call}
use Rattle.line_law.specs.declared.call.Entry.{Entry}
use Rattle.line_law.specs.declared.call.Reply.{Reply}
use Rattle.line_law.specs.declared.call.Reply.TheVariants.{AlreadyReversed}
use Rattle.line_law.specs.declared.state.BoxState.{BoxState}
use Rattle.line_law.specs.declared.state.PairState.{PairState}
use Rattle.line_law.specs.declared.tracks.Standing.{Standing}
use Rattle.line_law.specs.Decisions.{Here, Told, on_pair, or_later, unless}
use Rattle.line_law.specs.History.{entry_of}
use Rattle.line_law.specs.Known.{KnowsCall, knows_call, knows_lever, moments_of}
use Rattle.line_law.specs.Law.{MayCall, at_moment, box_plan_of, link_of, pair_of, step}
use Rattle.line_law.specs.LeverEnds.{is_pulled}
use Rattle.line_law.specs.Levers.{is_unspent_clear, pull_at, pull_refusal, pulled}
use Rattle.line_law.specs.Levers.{put_back, put_refusal, row_refusal, spare_refusal, starter_way, track_refusal}
use Rattle.line_law.specs.Lines.{IsBoxAfter, IsControlOf, IsLineOf, IsPairAfter, PlainState}
use Rattle.line_law.specs.Links.{way_of}
use Rattle.line_law.specs.States.{LineState, box_at, pair_at, silent_bell}
use Rattle.line_law.specs.Tracks.{first_standing}
use Rattle.line_law.specs.Ways.{of_way}
use Rattle.line_law.proofs.Keeping.{box_at_moment, known_fits}
use Rattle.line_law.proofs.Sides.{known_parts}
use Rattle.line_law.proofs.ToldFacts.{BoxTells, CanTell, PairTells}
use Rattle.line_law.proofs.ToldReplies.{told}
use Rattle.line_report.proofs.Spellings.{told_spelled}
use Rattle.script_text.specs.Replies.{is_spelled_reply}
use Rattle.box_view.specs.Moves.{is_reversed_already, move_entry}

-- ---- a box and a pair of which only what moves a lever is told

-- a box without windings and left portions
abbrev calm : BoxState → BoxState
calm here =
    record here {
      incoming = record {
        up = record here.incoming.up { ready_at = None; portion = None };
        down = record here.incoming.down { ready_at = None; portion = None };
      };
    }

-- a pair with silent bells
abbrev quiet : PairState → PairState
quiet pair = record pair { bells = record { up = silent_bell; down = silent_bell } }

calm_controls : (way : Way) (bp : BoxFields) (here : BoxState)
    → IsControlOf (berth_of bp way) (of_way here.incoming way).control
    → IsControlOf (berth_of bp way) (of_way (calm here).incoming way).control
calm_controls Up bp here h = h
calm_controls Down bp here h = h

calm_taken : (way : Way) (n : ℕ) (here : BoxState) → (of_way here.incoming way).taken ≤ n
    → (of_way (calm here).incoming way).taken ≤ n
calm_taken Up n here h = h
calm_taken Down n here h = h

calm_tells : (plan : PlanFields) (here : BoxState) → BoxTells plan (calm here)
calm_tells plan here Up = record { ready = tt; portion = tt }
calm_tells plan here Down = record { ready = tt; portion = tt }

calm_box : (plan : PlanFields) (b n : ℕ) (here : BoxState) → IsBoxAfter plan.trains (box_plan_of plan b) n here
    → IsBoxAfter plan.trains (box_plan_of plan b) n (calm here)
calm_box plan b n here is =
    record {
      shape = record {
        frame =
            record { ends = is.shape.frame.ends; off = is.shape.frame.off; places = is.shape.frame.places };
        brought =
            is.shape.brought;
        occupants = is.shape.occupants;
        controls = λ way. calm_controls way (box_plan_of plan b) here (is.shape.controls way);
      };
      arms = is.arms;
      rows = is.rows;
      counts =
          record { sent = is.counts.sent; taken = λ way. calm_taken way n here (is.counts.taken way) };
    }

quiet_bells : (way : Way) (n : ℕ) (pair : PairState) → (of_way (quiet pair).bells way).count ≤ n
quiet_bells Up n pair = omega arith
quiet_bells Down n pair = omega arith

quiet_pair : (plan : PlanFields) (n : ℕ) (pair : PairState) → IsPairAfter plan.trains n pair
    → IsPairAfter plan.trains n (quiet pair)
quiet_pair plan n pair is =
    record { bells = λ way. quiet_bells way n pair; blocks = is.blocks; lines = is.lines }

quiet_tells : (plan : PlanFields) (pair : PairState) → PairTells plan (quiet pair)
quiet_tells plan pair Up = tt
quiet_tells plan pair Down = tt

can_tell : (plan : PlanFields) (plain : PlainState) (b : ℕ) (call : Call) → IsPlan plan → IsLineOf plan plain
    → KnowsCall plan b call
    → CanTell plan b plain.calls (plain.calls + 1) (calm (at_moment (box_at plain.line b) call.moment))
    (quiet (pair_at plain.line (pair_of plan b call)))
can_tell plan plain b call is line known =
    let parts = known_parts plan b call known in
    let here = at_moment (box_at plain.line b) call.moment in
    let pair = pair_at plain.line (pair_of plan b call) in
    record {
      calls = omega arith;
      of_plan = is.each b parts.box;
      box =
          calm_box plan b plain.calls here
          (box_at_moment plan b plain.calls (box_at plain.line b) call.moment (line.boxes b parts.box));
      words = quiet_pair plan plain.calls pair (line.pairs (pair_of plan b call));
      tells = calm_tells plan here;
      shown = quiet_tells plan pair;
      moment = parts.moment;
    }

-- ---- the reply is the same there

reply_of : {W : Type 0} (t : Bool) (x y : Told W) → (cond t x y).reply ≡ cond t x.reply y.reply
reply_of true x y = refl
reply_of false x y = refl

same_pull : (r : Option Reply) (w : Option Way) (one other after after2 : BoxState) (v : Way) (pair : PairState)
    → (on_pair v (unless r one (pull_at one after w)) (quiet pair)).reply
    ≡ (on_pair v (unless r other (pull_at other after2 w)) pair).reply
same_pull (Some reply) w one other after after2 v pair = refl
same_pull None None one other after after2 v pair = refl
same_pull None (Some way) one other after after2 v pair =
    reply_of (is_unspent_clear (of_way pair.blocks v)) _ _
    ∙ sym (reply_of (is_unspent_clear (of_way pair.blocks v)) _ _)

same_put : (r : Option Reply) (one other after after2 : BoxState) (reply : Reply) (v : Way) (pair : PairState)
    → (on_pair v (unless r one (Here reply after)) (quiet pair)).reply
    ≡ (on_pair v (unless r other (Here reply after2)) pair).reply
same_put (Some refusal) one other after after2 reply v pair = refl
same_put None one other after after2 reply v pair = refl

-- ---- the reply to a pull, and to a put, can be spelled

calls_few : (n : ℕ) → n < 2 ^ 32 → n + 1 < 10 ^ 10
calls_few n few = omega arith

-- what a pull of a box is answered has a text that spells it
pub pull_spelled : (plan : PlanFields) (plain : PlainState) (b moment lever : ℕ) → IsPlan plan → IsLineOf plan plain
    → plain.calls < 2 ^ 32 → KnowsCall plan b (record { moment = moment; act = acts.Pull lever })
    → IsTrue (is_spelled_reply plan b
    (step plan plain.line b (record { moment = moment; act = acts.Pull lever })).reply)
unfolding step
pull_spelled plan plain b moment lever is line few known =
    let call : Call = record { moment = moment; act = acts.Pull lever } in
    let bp = box_plan_of plan b in
    let here = at_moment (box_at plain.line b) moment in
    let pair = pair_at plain.line (pair_of plan b call) in
    let v = way_of (link_of bp (acts.Pull lever)) in
    let told_so =
    told (acts.Pull lever) plan b plain.calls (plain.calls + 1) (calm here) (quiet pair) v
    (can_tell plan plain b call is line known) (known_parts plan b call known).act (known_fits plan b call is known) in
    subst (λ (reply : Reply). IsTrue (is_spelled_reply plan b reply))
    (same_pull (pull_refusal bp here lever) (starter_way (signal_of bp lever)) (calm here) here
    (pulled (calm here) lever (signal_of bp lever)) (pulled here lever (signal_of bp lever)) v pair)
    (told_spelled _ plan b (plain.calls + 1) is (calls_few plain.calls few) told_so)

-- what a put of a box is answered has a text that spells it
pub put_spelled : (plan : PlanFields) (plain : PlainState) (b moment lever : ℕ) → IsPlan plan → IsLineOf plan plain
    → plain.calls < 2 ^ 32 → KnowsCall plan b (record { moment = moment; act = acts.Put lever })
    → IsTrue (is_spelled_reply plan b
    (step plan plain.line b (record { moment = moment; act = acts.Put lever })).reply)
unfolding step
put_spelled plan plain b moment lever is line few known =
    let call : Call = record { moment = moment; act = acts.Put lever } in
    let bp = box_plan_of plan b in
    let here = at_moment (box_at plain.line b) moment in
    let pair = pair_at plain.line (pair_of plan b call) in
    let v = way_of (link_of bp (acts.Put lever)) in
    let told_so =
    told (acts.Put lever) plan b plain.calls (plain.calls + 1) (calm here) (quiet pair) v
    (can_tell plan plain b call is line known) (known_parts plan b call known).act (known_fits plan b call is known) in
    subst (λ (reply : Reply). IsTrue (is_spelled_reply plan b reply))
    (same_put (put_refusal bp here lever) (calm here) here (put_back (calm here) lever) (put_back here lever) _ v pair)
    (told_spelled _ plan b (plain.calls + 1) is (calls_few plain.calls few) told_so)

-- ---- a pull tells whether the lever is reversed

under_not : {W : Type 0} (t : Bool) (x y : Told W) → is_reversed_already x.reply ≡ false
    → is_reversed_already y.reply ≡ false → is_reversed_already (cond t x y).reply ≡ false
under_not true x y h k = h
under_not false x y h k = k

locked_not : (h : Option Holder) (s : Option Standing) (w : Option Way) (here after : BoxState) (v : Way)
    (pair : PairState)
    → is_reversed_already
    (on_pair v (unless (or_later (row_refusal h) (track_refusal s)) here (pull_at here after w)) pair).reply
    ≡ false
locked_not (Some holder) s w here after v pair = refl
locked_not None (Some there) w here after v pair = refl
locked_not None None None here after v pair = refl
locked_not None None (Some way) here after v pair =
    under_not (is_unspent_clear (of_way pair.blocks v)) _ _ refl refl

spare_not : (k : Option Kind) (h : Option Holder) (s : Option Standing) (w : Option Way) (here after : BoxState)
    (v : Way) (pair : PairState)
    → is_reversed_already
    (on_pair v
    (unless (or_later (spare_refusal k) (or_later (row_refusal h) (track_refusal s))) here (pull_at here after w))
    pair).reply
    ≡ false
spare_not None h s w here after v pair = locked_not h s w here after v pair
spare_not (Some kinds.Signal) h s w here after v pair = locked_not h s w here after v pair
spare_not (Some kinds.Points) h s w here after v pair = locked_not h s w here after v pair
spare_not (Some kinds.Lock) h s w here after v pair = locked_not h s w here after v pair
spare_not (Some kinds.Distant) h s w here after v pair = locked_not h s w here after v pair
spare_not (Some kinds.Spare) h s w here after v pair = refl

reversed_is : (t : Bool) (k : Option Kind) (h : Option Holder) (s : Option Standing) (w : Option Way)
    (here after : BoxState) (v : Way) (pair : PairState)
    → is_reversed_already
    (on_pair v
    (unless
    (cond t (Some AlreadyReversed) (or_later (spare_refusal k) (or_later (row_refusal h) (track_refusal s)))) here
    (pull_at here after w)) pair).reply
    ≡ t
reversed_is true k h s w here after v pair = refl
reversed_is false k h s w here after v pair = spare_not k h s w here after v pair

pub pull_tells_end : (plan : PlanFields) (state : LineState) (b moment lever : ℕ)
    → is_reversed_already (step plan state b (record { moment = moment; act = acts.Pull lever })).reply
    ≡ is_pulled (box_at state b).ends lever
unfolding step
pull_tells_end plan state b moment lever =
    let call : Call = record { moment = moment; act = acts.Pull lever } in
    let bp = box_plan_of plan b in
    let here = at_moment (box_at state b) moment in
    reversed_is (is_pulled here.ends lever) (kind_of bp lever) (holder_of here.ends lever bp.rows)
    (first_standing here.places (track_of bp lever)) (starter_way (signal_of bp lever)) here
    (pulled here lever (signal_of bp lever)) (way_of (link_of bp (acts.Pull lever)))
    (pair_at state (pair_of plan b call))

-- ---- calls that move a lever are known

knows_one : (b moment boxes moments : ℕ) (t : Bool) → b < boxes → moment < moments → IsTrue t
    → IsTrue (nat_lt b boxes && nat_lt moment moments && t)
knows_one b moment boxes moments t at day h =
    let one : IsTrue (nat_lt b boxes) = grind (arith, nat_tests) in
    let two : IsTrue (nat_lt moment moments) = grind (arith, nat_tests) in
    rw (one, two) h

-- a box of the plan may be asked to pull each of its levers, at each moment of the day
pub pull_known : (plan : PlanFields) (b moment lever : ℕ) → b < length plan.boxes → moment < moments_of plan.version
    → IsTrue (knows_lever plan b lever) → KnowsCall plan b (record { moment = moment; act = acts.Pull lever })
unfolding knows_call
pull_known plan b moment lever at day knows =
    knows_one b moment (length plan.boxes) (moments_of plan.version) (knows_lever plan b lever) at day knows

-- a box of the plan may be asked to put each of its levers, at each moment of the day
pub put_known : (plan : PlanFields) (b moment lever : ℕ) → b < length plan.boxes → moment < moments_of plan.version
    → IsTrue (knows_lever plan b lever) → KnowsCall plan b (record { moment = moment; act = acts.Put lever })
unfolding knows_call
put_known plan b moment lever at day knows =
    knows_one b moment (length plan.boxes) (moments_of plan.version) (knows_lever plan b lever) at day knows

-- ---- the levers of a frame are there

found_more : (t : Bool) (first : Lever) (rest : Option Lever) → IsTrue (is_some rest)
    → IsTrue (is_some (cond t (Some first) rest))
found_more true first rest h = refl
found_more false first rest h = h

lever_found : (levers : List Lever) (i : ℕ) (d : Lever) → i < length levers
    → IsTrue (is_some (find (λ lever. lever.number == (get_or levers i d).number) levers))
lever_found [] i d lt = absurd (omega arith)
lever_found (l ∷ ls) zero d lt =
    let same : IsTrue (l.number == l.number) = grind (arith, nat_tests) in rw same refl
lever_found (l ∷ ls) (suc i) d lt =
    found_more (l.number == (get_or ls i d).number) l _ (lever_found ls i d (omega arith))

-- each lever in the list of a box's levers is one that the box has
pub lever_there : (plan : PlanFields) (b : ℕ) (levers : List Lever) (i : ℕ) (d : Lever)
    → levers ≡ (box_plan_of plan b).levers → i < length levers
    → IsTrue (knows_lever plan b (get_or levers i d).number)
lever_there plan b levers i d is lt =
    subst (λ (xs : List Lever). IsTrue (is_some (find (λ lever. lever.number == (get_or levers i d).number) xs))) is
    (lever_found levers i d lt)

-- ---- the call that moves a lever

-- a man may make a pull of each lever of his box, no earlier than his last call
pub pull_may : (plan : PlanFields) (state : LineState) (b moment lever : ℕ) → b < length plan.boxes
    → moment < moments_of plan.version → (box_at state b).moment ≤ moment → IsTrue (knows_lever plan b lever)
    → MayCall plan state b (record { moment = moment; act = acts.Pull lever })
pull_may plan state b moment lever at day later knows =
    record { known = pull_known plan b moment lever at day knows; later = later }

-- a man may make a put of each lever of his box, no earlier than his last call
pub put_may : (plan : PlanFields) (state : LineState) (b moment lever : ℕ) → b < length plan.boxes
    → moment < moments_of plan.version → (box_at state b).moment ≤ moment → IsTrue (knows_lever plan b lever)
    → MayCall plan state b (record { moment = moment; act = acts.Put lever })
put_may plan state b moment lever at day later knows =
    record { known = put_known plan b moment lever at day knows; later = later }

-- a lever's entry by the end at which it stands
moved_as : (plan : PlanFields) (state : LineState) (b moment lever : ℕ) (t : Bool) (pull : Entry)
    → pull ≡ entry_of plan state b (record { moment = moment; act = acts.Pull lever })
    → is_reversed_already pull.reply ≡ t
    → entry_of plan state b (record { moment = moment; act = cond t (acts.Put lever) (acts.Pull lever) })
    ≡ move_entry plan state b moment lever
moved_as plan state b moment lever t pull h k =
    let end : is_pulled (box_at state b).ends lever ≡ t =
    sym (pull_tells_end plan state b moment lever) ∙ ap (λ (e : Entry). is_reversed_already e.reply) (sym h) ∙ k in
    ap
    (λ (u : Bool). entry_of plan state b (record { moment = moment; act = cond u (acts.Put lever) (acts.Pull lever) }))
    (sym end)

-- where a pull finds its lever reversed already, the call that moves the lever is the put
pub moved_back : (plan : PlanFields) (state : LineState) (b moment lever : ℕ) (pull put : Entry)
    → pull ≡ entry_of plan state b (record { moment = moment; act = acts.Pull lever })
    → is_reversed_already pull.reply ≡ true
    → put ≡ entry_of plan state b (record { moment = moment; act = acts.Put lever })
    → put ≡ move_entry plan state b moment lever
moved_back plan state b moment lever pull put h k e = e ∙ moved_as plan state b moment lever true pull h k

-- where a pull doesn't find its lever reversed already, the call that moves the lever is the pull
pub moved_over : (plan : PlanFields) (state : LineState) (b moment lever : ℕ) (pull : Entry)
    → pull ≡ entry_of plan state b (record { moment = moment; act = acts.Pull lever })
    → is_reversed_already pull.reply ≡ false → pull ≡ move_entry plan state b moment lever
moved_over plan state b moment lever pull h k = h ∙ moved_as plan state b moment lever false pull h k
