-- A pull succeeds exactly where frame, track circuits and instruments allow it, and else its reply says why.
use Rattle.std.proofs.Common.{◌≡◌, ◌≢◌, ℕ, List, [], ◌∷◌, ◌++◌, Bool, true, false, cond, Option, Some, None}
use Rattle.std.proofs.Common.{refl, sym, ap, subst, ◌∙◌}
use Rattle.std.specs.Prelude.{◌&&◌, not}
use Rattle.std.proofs.lemmas.List.Elements.{All-cons, All-head, All-nil, All-tail}
use Rattle.block_words.specs.declared.Position.{Position}
use Rattle.block_words.specs.declared.Position.TheVariants as shows
use Rattle.block_words.specs.declared.Way.{Way}
use Rattle.locking_table.specs.Meaning.{holder_of}
use Rattle.locking_table.specs.declared.places.End.{End}
use Rattle.locking_table.specs.declared.places.End.TheVariants as ends
use Rattle.locking_table.specs.declared.row.Holder.{Holder}
use Rattle.locking_table.proofs.Holding.{held_by_first, held_by_none}
use Rattle.line_plan.specs.Frames.{kind_of, signal_of, track_of}
use Rattle.line_plan.specs.Plans.{PlanFields}
use Rattle.line_plan.specs.declared.frame.Kind.{Kind}
use Rattle.line_plan.specs.declared.frame.Kind.TheVariants as kinds
use Rattle.line_law.specs.declared.call.Act.{Act}
use Rattle.line_law.specs.declared.call.Act.TheVariants as acts
use Rattle.line_law.specs.declared.call.Call.{Call}
use Rattle.line_law.specs.declared.call.Entry.{Entry}
use Rattle.line_law.specs.declared.call.Reply.{Reply}
use Rattle.line_law.specs.declared.call.Reply.TheVariants as replies
use Rattle.line_law.specs.declared.state.Block.{Block}
use Rattle.line_law.specs.declared.state.BoxState.{BoxState}
use Rattle.line_law.specs.declared.state.PairState.{PairState}
use Rattle.line_law.specs.declared.tracks.Standing.{Standing}
use Rattle.line_law.specs.Decisions.{Told, on_pair, or_later, unless}
use Rattle.line_law.specs.History.{IsLegal, state_of}
use Rattle.line_law.specs.Instruments.{same_position}
use Rattle.line_law.specs.Law.{at_moment, box_plan_of, decide, link_of, step}
use Rattle.line_law.specs.LeverEnds.{is_pulled, is_reversed_end}
use Rattle.line_law.specs.Levers.{is_unspent_clear, pull_at, pulled, row_refusal, spare_refusal, starter_link}
use Rattle.line_law.specs.Levers.{track_refusal}
use Rattle.line_law.specs.Links.{pair_no, way_of}
use Rattle.line_law.specs.States.{LineState, box_at, opening_state, pair_at}
use Rattle.line_law.specs.Tracks.{first_standing, standing_at, train_on}
use Rattle.line_law.proofs.Histories.{legal_then}
use Rattle.train_laws.specs.MayPull.{AreEmpty, FrameAllows, InstrumentAllows, IsClearUnspent, IsFirstOccupied}
use Rattle.train_laws.specs.MayPull.{IsPullTold, IsWorkable, MayPull, TracksAllow, instrument_at}
use Rattle.train_laws.specs.MayPull.{starter_at}

-- ---- the lever

reversed_end : (e : End) → is_reversed_end e ≡ true → e ≡ ends.Reversed
reversed_end ends.Normal h = absurd cc
reversed_end ends.Reversed h = refl

normal_end : (e : End) → is_reversed_end e ≡ false → e ≡ ends.Normal
normal_end ends.Normal h = refl
normal_end ends.Reversed h = absurd cc

not_normal : (e : End) → is_reversed_end e ≡ true → e ≡ ends.Normal → ⊥
not_normal e h n = let f : is_reversed_end e ≡ false = ap is_reversed_end n in cc

-- ---- the track circuits

none_empty : (here : BoxState) → AreEmpty here []
none_empty here = All-nil (λ place. train_on here.places place ≡ None)

one_more : (here : BoxState) (place : ℕ) (rest : List ℕ) → train_on here.places place ≡ None → AreEmpty here rest
    → AreEmpty here (place ∷ rest)
one_more here place rest e h = All-cons (λ place. train_on here.places place ≡ None) place rest e h

all_empty : (here : BoxState) (places : List ℕ) → first_standing here.places places ≡ None → AreEmpty here places
all_empty here [] e = none_empty here
all_empty here (place ∷ rest) e = go (train_on here.places place) refl e (all_empty here rest) where
  go : (t : Option ℕ) → train_on here.places place ≡ t
      → standing_at t place (first_standing here.places rest) ≡ None
      → (first_standing here.places rest ≡ None → AreEmpty here rest) → AreEmpty here (place ∷ rest)
  go None is f more = one_more here place rest is (more f)
  go (Some train) is f more = absurd cc

first_there : (here : BoxState) (places : List ℕ) (there : Standing) → first_standing here.places places ≡ Some there
    → IsFirstOccupied here places there.place there.train
first_there here [] there e = absurd cc
first_there here (place ∷ rest) there e = go (train_on here.places place) refl e (first_there here rest there) where
  go : (t : Option ℕ) → train_on here.places place ≡ t
      → standing_at t place (first_standing here.places rest) ≡ Some there
      → (first_standing here.places rest ≡ Some there → IsFirstOccupied here rest there.place there.train)
      → IsFirstOccupied here (place ∷ rest) there.place there.train
  go None is f more =
      let later = more f in
      record {
        front = place ∷ later.front;
        back = later.back;
        split = ap (λ (l : List ℕ). place ∷ l) later.split;
        free = one_more here place later.front is later.free;
        there = later.there;
      }
  go (Some train) is f more =
      let same : record { place = place; train = train } ≡ there = cc in
      let here_place : place ≡ there.place = ap (λ (s : Standing). s.place) same in
      let here_train : train ≡ there.train = ap (λ (s : Standing). s.train) same in
      record {
        front = [];
        back = rest;
        split = ap (λ (p : ℕ). p ∷ rest) here_place;
        free = none_empty here;
        there = ap (λ (p : ℕ). train_on here.places p) (sym here_place) ∙ is ∙ ap (λ (t : ℕ). Some t) here_train;
      }

not_empty : (here : BoxState) (places : List ℕ) (there : Standing) → first_standing here.places places ≡ Some there
    → AreEmpty here places → ⊥
not_empty here [] there e all = absurd cc
not_empty here (place ∷ rest) there e all = go (train_on here.places place) refl e (not_empty here rest there) where
  go : (t : Option ℕ) → train_on here.places place ≡ t
      → standing_at t place (first_standing here.places rest) ≡ Some there
      → (first_standing here.places rest ≡ Some there → AreEmpty here rest → ⊥) → ⊥
  go None is f more = more f (All-tail (λ place. train_on here.places place ≡ None) place rest all)
  go (Some train) is f more =
      let free : train_on here.places place ≡ None = All-head
      (λ place. train_on here.places place ≡ None) place rest all in
      cc

-- ---- the instrument

same_clear : (p : Position) → same_position p shows.LineClear ≡ true → p ≡ shows.LineClear
same_clear shows.Normal e = absurd cc
same_clear shows.LineClear e = refl
same_clear shows.TrainOnLine e = absurd cc

clear_both : (p : Position) (spent : Bool) → (same_position p shows.LineClear && not spent) ≡ true
    → (p ≡ shows.LineClear) × (spent ≡ false)
clear_both shows.Normal spent e = absurd cc
clear_both shows.LineClear false e = (refl, refl)
clear_both shows.LineClear true e = absurd cc
clear_both shows.TrainOnLine spent e = absurd cc

clear_is : (block : Block) → is_unspent_clear block ≡ true → IsClearUnspent block
clear_is block e =
    let both = clear_both block.position block.spent e in record { position = both.0; unspent = both.1 }

clear_shows : (block : Block) → IsClearUnspent block → is_unspent_clear block ≡ true
clear_shows block h = rw (h.position, h.unspent) refl

-- ---- a pull, case by case

-- a pull of box b, by what each test finds
abbrev pull_by : LineState → ℕ → BoxState → BoxState → Bool → Option Kind → Option Holder → Option Standing → Option Way
    → Told PairState
pull_by state b here after reversed kind holder there starter =
    on_pair (way_of (starter_link starter))
    (unless (cond reversed (Some replies.AlreadyReversed)
    (or_later (spare_refusal kind) (or_later (row_refusal holder) (track_refusal there)))) here
    (pull_at here after starter))
    (pair_at state (pair_no b (starter_link starter)))

-- what is known where the tests find so
record Finds (plan : PlanFields) (state : LineState) (b lever : ℕ) (r : Bool) (k : Option Kind) (h : Option Holder)
    (t : Option Standing) (w : Option Way) : Type 0 where
  reversed : is_pulled (box_at state b).ends lever ≡ r
  kind : kind_of (box_plan_of plan b) lever ≡ k
  holder : holder_of (box_at state b).ends lever (box_plan_of plan b).rows ≡ h
  there : first_standing (box_at state b).places (track_of (box_plan_of plan b) lever) ≡ t
  starter : starter_at plan b lever ≡ w

is_pull : (plan : PlanFields) (state : LineState) (b lever : ℕ) (h : FrameAllows (box_plan_of plan b)
    (box_at state b) lever)
    → TracksAllow (box_plan_of plan b) (box_at state b) lever → (way : Way) → starter_at plan b lever ≡ Some way
    → IsClearUnspent (instrument_at state b way) → MayPull plan state b lever
is_pull plan state b lever frame tracks way starter clear =
    record {
      frame = frame;
      tracks = tracks;
      instruments = subst (λ (o : Option Way). InstrumentAllows state b o) (sym starter) clear;
    }

at_instrument : (plan : PlanFields) (state : LineState) (b lever : ℕ) (way : Way) (block : Block) (ok : Bool)
    (here after : BoxState) → FrameAllows (box_plan_of plan b) (box_at state b) lever
    → TracksAllow (box_plan_of plan b) (box_at state b) lever → starter_at plan b lever ≡ Some way
    → instrument_at state b way ≡ block → is_unspent_clear block ≡ ok
    → IsPullTold plan state b lever
    (cond ok (replies.PulledUnder block.turns)
    (replies.HeldByInstrument way block.position block.spent block.turns))
at_instrument plan state b lever way block true here after frame tracks starter stood is =
    let clear = clear_is block is in
    let same : block ≡ record { turns = block.turns; position = shows.LineClear; spent = false } =
    ap (λ (p : Position). (let k : Block = record { turns = block.turns; position = p; spent = block.spent } in k))
    clear.position
    ∙ ap (λ (s : Bool). (let k : Block = record { turns = block.turns; position = shows.LineClear; spent = s } in k))
    clear.unspent in
    record {
      exact = (
        λ told. is_pull plan state b lever frame tracks way starter (subst (λ (k : Block). IsClearUnspent k)
            (sym stood) clear),
        λ may. refl,
      );
      says = (way, record { frame = frame; tracks = tracks; starter = starter; stood = stood ∙ same });
    }
at_instrument plan state b lever way block false here after frame tracks starter stood is =
    let held : IsClearUnspent block → ⊥ = λ clear. let f = clear_shows block clear in cc in
    record {
      exact = (
        λ told. absurd cc,
        λ may.
            absurd (held (subst (λ (k : Block). IsClearUnspent k) stood
            (subst (λ (o : Option Way). InstrumentAllows state b o) starter may.instruments))),
      );
      says = (record { frame = frame; tracks = tracks; starter = starter; stood = stood }, held);
    }

past_tests : (plan : PlanFields) (state : LineState) (b lever : ℕ) (here after : BoxState) (kind : Option Kind)
    (starter : Option Way) → FrameAllows (box_plan_of plan b) (box_at state b) lever
    → TracksAllow (box_plan_of plan b) (box_at state b) lever → starter_at plan b lever ≡ starter
    → IsPullTold plan state b lever
    (on_pair (way_of (starter_link starter)) (pull_at here after starter) (pair_at state (pair_no b
    (starter_link starter)))).reply
past_tests plan state b lever here after kind None frame tracks starter =
    let may : MayPull plan state b lever = record {
      frame = frame;
      tracks = tracks;
      instruments = subst (λ (o : Option Way). InstrumentAllows state b o) (sym starter) tt;
    } in
    record { exact = (λ told. may, λ m. refl); says = (may, starter) }
past_tests plan state b lever here after kind (Some way) frame tracks starter =
    go (is_unspent_clear (instrument_at state b way)) refl where
      go : (ok : Bool) → is_unspent_clear (instrument_at state b way) ≡ ok
          → IsPullTold plan state b lever
          (on_pair (way_of (starter_link (Some way))) (pull_at here after (Some way))
          (pair_at state (pair_no b (starter_link (Some way))))).reply
      go true is =
          let told = at_instrument plan state b lever way
          (instrument_at state b way) true here after frame tracks starter refl is in
          rw is told
      go false is =
          let told = at_instrument plan state b lever way
          (instrument_at state b way) false here after frame tracks starter refl is in
          rw is told

past_kind : (plan : PlanFields) (state : LineState) (b lever : ℕ) (here after : BoxState) (kind : Option Kind)
    (holder : Option Holder) (there : Option Standing) (starter : Option Way)
    → Finds plan state b lever false kind holder there starter → (kind ≢ Some kinds.Spare)
    → IsPullTold plan state b lever
    (on_pair (way_of (starter_link starter))
    (unless (or_later (row_refusal holder) (track_refusal there)) here (pull_at here after starter))
    (pair_at state (pair_no b (starter_link starter)))).reply
past_kind plan state b lever here after kind holder there starter finds used =
    let lever_is : IsWorkable (box_plan_of plan b) (box_at state b) lever = record {
      normal = normal_end _ finds.reversed;
      in_use = λ e. used (sym finds.kind ∙ e);
    } in
    go holder there finds.holder finds.there lever_is where
      go : (h : Option Holder) (t : Option Standing)
          → holder_of (box_at state b).ends lever (box_plan_of plan b).rows ≡ h
          → first_standing (box_at state b).places (track_of (box_plan_of plan b) lever) ≡ t
          → IsWorkable (box_plan_of plan b) (box_at state b) lever
          → IsPullTold plan state b lever
          (on_pair (way_of (starter_link starter))
          (unless (or_later (row_refusal h) (track_refusal t)) here (pull_at here after starter))
          (pair_at state (pair_no b (starter_link starter)))).reply
      go (Some held) t e f is =
          record {
            exact = (
              λ told. absurd cc,
              λ may.
                  absurd (let free = (held_by_none (box_at state b).ends lever
                  (box_plan_of plan b).rows).1 may.frame.rows in cc),
            );
            says = (is, held_by_first (box_at state b).ends lever (box_plan_of plan b).rows held e);
          }
      go None (Some standing) e f is =
          let rows = (held_by_none (box_at state b).ends lever (box_plan_of plan b).rows).0 e in
          record {
            exact = (
              λ told. absurd cc,
              λ may.
                  absurd (not_empty (box_at state b) (track_of (box_plan_of plan b) lever) standing f may.tracks),
            );
            says = (
              record { workable = is; rows = rows },
              first_there (box_at state b) (track_of (box_plan_of plan b) lever) standing f,
            );
          }
      go None None e f is =
          past_tests plan state b lever here after kind starter
          (record { workable = is; rows = (held_by_none (box_at state b).ends lever (box_plan_of plan b).rows).0 e })
          (all_empty (box_at state b) (track_of (box_plan_of plan b) lever) f) finds.starter

by_cases : (plan : PlanFields) (state : LineState) (b lever : ℕ) (here after : BoxState) (reversed : Bool)
    (kind : Option Kind) (holder : Option Holder) (there : Option Standing) (starter : Option Way)
    → Finds plan state b lever reversed kind holder there starter
    → IsPullTold plan state b lever (pull_by state b here after reversed kind holder there starter).reply
by_cases plan state b lever here after true kind holder there starter finds =
    record {
      exact = (λ told. absurd cc, λ may. absurd (not_normal _ finds.reversed may.frame.workable.normal));
      says = reversed_end _ finds.reversed;
    }
by_cases plan state b lever here after false (Some kinds.Spare) holder there starter finds =
    record {
      exact = (λ told. absurd cc, λ may. absurd (may.frame.workable.in_use finds.kind));
      says = (normal_end _ finds.reversed, finds.kind);
    }
by_cases plan state b lever here after false None holder there starter finds =
    past_kind plan state b lever here after None holder there starter finds (λ e. absurd cc)
by_cases plan state b lever here after false (Some kinds.Signal) holder there starter finds =
    past_kind plan state b lever here after (Some kinds.Signal) holder there starter finds (λ e. absurd cc)
by_cases plan state b lever here after false (Some kinds.Points) holder there starter finds =
    past_kind plan state b lever here after (Some kinds.Points) holder there starter finds (λ e. absurd cc)
by_cases plan state b lever here after false (Some kinds.Lock) holder there starter finds =
    past_kind plan state b lever here after (Some kinds.Lock) holder there starter finds (λ e. absurd cc)
by_cases plan state b lever here after false (Some kinds.Distant) holder there starter finds =
    past_kind plan state b lever here after (Some kinds.Distant) holder there starter finds (λ e. absurd cc)

-- ---- a call of the line

abbrev reply_at : PlanFields → LineState → ℕ → ℕ → Act → Reply
reply_at plan state b moment act =
    (on_pair (way_of (link_of (box_plan_of plan b) act)) (decide plan (box_plan_of plan b) act (at_moment
    (box_at state b) moment))
    (pair_at state (pair_no b (link_of (box_plan_of plan b) act)))).reply

-- the reply of a pull tells why it succeeds or what holds the lever
pub pull_told : (plan : PlanFields) (state : LineState) (b : ℕ) (call : Call) (lever : ℕ) → call.act ≡ acts.Pull lever
    → IsPullTold plan state b lever (step plan state b call).reply
unfolding step
pull_told plan state b call lever e =
    subst (λ (act : Act). IsPullTold plan state b lever (reply_at plan state b call.moment act)) (sym e)
    (by_cases plan state b lever (at_moment (box_at state b) call.moment)
    (pulled (at_moment (box_at state b) call.moment) lever (signal_of (box_plan_of plan b) lever))
    (is_pulled (box_at state b).ends lever) (kind_of (box_plan_of plan b) lever)
    (holder_of (box_at state b).ends lever (box_plan_of plan b).rows)
    (first_standing (box_at state b).places (track_of (box_plan_of plan b) lever)) (starter_at plan b lever)
    (record { reversed = refl; kind = refl; holder = refl; there = refl; starter = refl }))

-- each pull of a legal history is told so
pub each_pull_told : (plan : PlanFields) (es more : List Entry) (e : Entry) (lever : ℕ) → IsLegal plan (es ++ e ∷ more)
    → e.call.act ≡ acts.Pull lever → IsPullTold plan (state_of plan es) e.box_no lever e.reply
each_pull_told plan es more e lever legal act =
    let rest = legal_then plan (opening_state plan) es (e ∷ more) legal in
    subst (λ (r : Reply). IsPullTold plan (state_of plan es) e.box_no lever r) (sym rest.1)
    (pull_told plan (state_of plan es) e.box_no e.call lever act)
