-- What a box's plan names is of its equipment, and what a call past the box's refusals may do.
use Rattle.std.proofs.Common.{◌≡◌, ℕ, ◌≢◌, ◌==◌, Bool, true, false, if◌then◌else◌, refl, sym, ap, subst, ◌∙◌, arith}
use Rattle.std.proofs.Common.{inl, inr, Bor}
use Rattle.std.specs.Prelude.{Option, Some, None, length, option_map}
use Rattle.std.proofs.lemmas.Bool.Decides.{eqb_tells}
use Rattle.block_words.specs.declared.Position.{Position}
use Rattle.block_words.specs.declared.Position.TheVariants as shows
use Rattle.block_words.specs.declared.Way.{Way}
use Rattle.block_words.specs.declared.WelwynState.{WelwynState}
use Rattle.block_words.specs.declared.WelwynState.TheVariants as welwyn
use Rattle.line_plan.specs.declared.berth.Berth.{Berth}
use Rattle.line_plan.specs.declared.signal.Signal.{Signal}
use Rattle.line_plan.specs.Frames.{BoxFields, berth_of, entered_by, frame_size}
use Rattle.line_plan.specs.Sections.{most_of}
use Rattle.line_law.specs.declared.call.Reply.{Reply}
use Rattle.line_law.specs.declared.call.Reply.TheVariants.{AlreadyThere}
use Rattle.line_law.specs.declared.link.Link.{Link}
use Rattle.line_law.specs.declared.state.Block.{Block}
use Rattle.line_law.specs.declared.state.BoxState.{BoxState}
use Rattle.line_law.specs.Decisions.{Decision, OnBlock, Told, unless}
use Rattle.line_law.specs.Instruments.{clear_refusal, control_refusal, turn_refusal, welwyn_refusal}
use Rattle.line_law.specs.Instruments.{same_position}
use Rattle.line_law.specs.Sound.{BerthFits, IsSound}
use Rattle.line_law.specs.Tracks.{train_on}
use Rattle.line_law.specs.Trains.{danger_refusal, move, off_refusal, standing_refusal, way_refusal}
use Rattle.line_law.specs.LeverEnds.{is_off}
use Rattle.line_law.specs.Ways.{of_way}
use Rattle.line_law.proofs.Boxes.{both_none}
use Rattle.train_moves.specs.Standings.{AreEmpty, first_standing as first_met}
use Rattle.train_moves.specs.declared.standing.Standing.{Standing as Met}
use Rattle.train_moves.proofs.Standings.{none_stands}
use Rattle.word_laws.specs.Footprint.{kind_of}
use Rattle.word_laws.specs.Operations.{IsOnWord}
use Rattle.word_laws.specs.WordNumbers.{BlockAgrees, block_number}
use Rattle.box_desk.specs.declared.equipment.Equipment.{Equipment}
use Rattle.box_desk.specs.declared.incoming.IncomingLine.{IncomingLine}
use Rattle.box_desk.specs.declared.incoming.LineControl.{LineControl}
use Rattle.box_desk.specs.declared.incoming.LineControl.TheVariants.{Absolute, Permissive}
use Rattle.box_desk.specs.Boxes.{IsFitted, here_of}
use Rattle.box_desk.specs.IncomingLines.{IsFree, LetsTurn, Suits, control_of, incoming_of}
use Rattle.box_desk.specs.Steps.{Finishes, IsTold}
use Rattle.box_desk.specs.TrainMoves.{move_signal}
use Rattle.box_desk.proofs.Counts.{incoming_at}
use Rattle.box_desk.proofs.Standings.{as_law, way_is}

-- ---- what the plan names

-- a berth of the plan fits the equipment
pub berth_fits : (box_plan : BoxFields) (box : Equipment) (way : Way) (berth : Berth) → IsSound box_plan
    → IsFitted box_plan box → berth_of box_plan way ≡ Some berth
    → BerthFits (length box.frame.ends) (length box.tracks) berth
berth_fits box_plan box way berth sound fitted is =
    subst (λ (n : ℕ). BerthFits n (length box.tracks) berth) (sym fitted.frame.size)
    (subst (λ (n : ℕ). BerthFits (frame_size box_plan.levers) n berth) (sym fitted.tracks) (sound.berth way berth is))

-- the berth that is lent is the plan's
pub berth_is : (lent : Option (Bor Berth)) (there : Bor Berth) {plan : Option Berth}
    → option_map (λ berth. berth.now) lent ≡ plan → lent ≡ Some there → plan ≡ Some there.now
berth_is lent there is some =
    sym is ∙ ap (λ (o : Option (Bor Berth)). option_map (λ (berth : Bor Berth). berth.now) o) some

-- ---- a turn that nothing refuses

welwyn_free : (state : WelwynState) → welwyn_refusal state ≡ None → state ≡ welwyn.Ready
welwyn_free welwyn.Ready none = refl
welwyn_free welwyn.Given none = absurd cc
welwyn_free welwyn.Berthed none = absurd cc

control_free : (most : Option ℕ) (control : LineControl) (here : BoxState) (berth : Berth)
    → berth.permissive ≡ most → Suits most control → control_refusal (control_of control) here berth ≡ None
    → IsFree control
control_free None (Absolute w) here berth is suits none = welwyn_free w.state (both_none _ _ none).1
control_free None (Permissive p) here berth is suits none = absurd suits
control_free (Some n) (Absolute w) here berth is suits none = absurd suits
control_free (Some n) (Permissive p) here berth is suits none = elim (eqb_tells p.out (most_of berth.permissive)) [
  | inl full ↦
      let test : (p.out == most_of berth.permissive) ≡ true = full.0 in
      let again : control_refusal (control_of (Permissive p)) here berth ≡ None = none in
      absurd (let f = rw test at again in cc)
  | inr differ ↦
      let most : most_of berth.permissive ≡ n = ap most_of is in
      let apart : p.out ≢ n = λ same. differ.1 (same ∙ sym most) in
      omega (arith, suits.0, suits.1, apart)
]

past_there : (b : Bool) (r : Option Reply) → (if b then Some AlreadyThere else r) ≡ None → r ≡ None
past_there true r none = absurd cc
past_there false r none = none

turns_free : (position : Position) (here : BoxState) (berth : Berth) (line : IncomingLine)
    → Suits berth.permissive line.control → turn_refusal here berth (incoming_of line) position ≡ None
    → LetsTurn position line.control
turns_free shows.Normal here berth line suits none = tt
turns_free shows.TrainOnLine here berth line suits none = tt
turns_free shows.LineClear here berth line suits none =
    let clear : clear_refusal here berth (incoming_of line) ≡ None =
    past_there (same_position line.position shows.LineClear) (clear_refusal here berth (incoming_of line)) none in
    control_free berth.permissive line.control here berth refl suits
    (both_none _ _ (both_none _ _ clear).1).1

-- a call that is decided on a word isn't refused in its box
pub unrefused : (r : Option Reply) (here : BoxState) (rest : Decision) → IsOnWord (kind_of (unless r here rest))
    → r ≡ None
unrefused None here rest on = refl
unrefused (Some reply) here rest on = absurd on

-- a turn that isn't refused is one that the control lets be
pub lets_turn : (box : Equipment) (berth : Berth) (way : Way) (position : Position)
    → Suits berth.permissive (of_way box.lines way).control
    → turn_refusal (here_of box) berth (of_way (here_of box).incoming way) position ≡ None
    → LetsTurn position (of_way box.lines way).control
lets_turn box berth way position suits none =
    turns_free position (here_of box) berth (of_way box.lines way) suits
    (subst (λ (line : _). turn_refusal (here_of box) berth line position ≡ None) (incoming_at box.lines way) none)

-- past its refusals a call is decided at its instrument
pub on_block : (r : Option Reply) (here new : BoxState) (act : Block → Told Block) (link : Link) (word : ℕ)
    (reply : Reply) → r ≡ None
    → ((block : Block) → BlockAgrees link here block → block_number block ≡ word → IsTold Block (act block) reply new)
    → Finishes (unless r here (OnBlock act)) link here word reply new
on_block None here new act link word reply none told = λ pair agrees packs.
    let t = told _ agrees packs in record { reply_is = t.reply_is; here_is = t.here_is }
on_block (Some other) here new act link word reply none told = absurd cc

-- ---- a train that nothing refuses

go_unrefused : (t : Option ℕ) (r : Option Reply) (box_plan : BoxFields) (here : BoxState) (signal : Signal)
    → IsOnWord (kind_of (move t r box_plan here signal)) → r ≡ None
go_unrefused None r box_plan here signal on = absurd on
go_unrefused (Some t) (Some reply) box_plan here signal on = absurd on
go_unrefused (Some t) None box_plan here signal on = refl

none_there : (met : Option Met) → standing_refusal (as_law met) ≡ None → met ≡ None
none_there None none = refl
none_there (Some there) none = absurd cc

way_empty : (here : BoxState) (signal : Signal) → way_refusal here signal ≡ None
    → AreEmpty here.places (entered_by signal)
way_empty here signal none =
    none_stands here.places (entered_by signal)
    (none_there (first_met here.places (entered_by signal)) (way_is here signal ∙ none))

-- where a train's move is decided on a word its way is empty
pub moves_free : (overrun : Bool) (box_plan : BoxFields) (here : BoxState) (signal : Signal)
    → IsOnWord (kind_of (move_signal overrun signal box_plan here)) → AreEmpty here.places (entered_by signal)
moves_free false box_plan here signal on =
    way_empty here signal (both_none (danger_refusal (is_off here.off signal.lever)) (way_refusal here signal)
    (go_unrefused (train_on here.places signal.from) _ box_plan here signal on)).1
moves_free true box_plan here signal on =
    way_empty here signal (both_none (off_refusal (is_off here.off signal.lever)) (way_refusal here signal)
    (go_unrefused (train_on here.places signal.from) _ box_plan here signal on)).1
