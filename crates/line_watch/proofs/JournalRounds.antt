-- A round that is made of what the entries of a journal tell.
use Rattle.std.proofs.Common.{◌≡◌, ◌≢◌, ◌⊎◌, inl, inr, ⊎_elim, ℕ, ◌+◌, ◌-◌, ◌*◌, ◌/◌, ◌<◌, ◌≤◌, ◌==◌, true, false, All}
use Rattle.std.proofs.Common.{List, [], ◌∷◌, ◌++◌, None, Some, length, take, drop, get_or, set, map, replicate, suc}
use Rattle.std.proofs.Common.{refl, sym, ap, subst, ◌∙◌, arith, drop-cons}
use Rattle.std.proofs.lemmas.Bool.Decides.{eqb_tells}
use Rattle.std.proofs.lemmas.List.{get_or-set_other, get_or-set_same, length-replicate, length-set, take-append-drop}
use Rattle.std.proofs.lemmas.List.{take_all, take_more}
use Rattle.std.proofs.lemmas.List.Elements.{All-get_or, All-map, All-weaker}
use Rattle.block_words.specs.declared.Position.TheVariants as shows
use Rattle.block_words.specs.declared.Way.{Way}
use Rattle.block_words.specs.declared.Way.TheVariants.{Up, Down}
use Rattle.line_plan.specs.Plans.{IsPlan, PlanFields}
use Rattle.line_plan.specs.Sections.{sections_of}
use Rattle.line_plan.specs.declared.section.Section.{Section}
use Rattle.line_law.specs.declared.call.Act.{Act}
use Rattle.line_law.specs.declared.call.Act.TheVariants.{Ring}
use Rattle.line_law.specs.declared.call.Entry.{Entry}
use Rattle.line_law.specs.declared.call.Reply.{Reply}
use Rattle.line_law.specs.declared.call.Reply.TheVariants.{HeldByInstrument, PulledUnder, Rung, Turned}
use Rattle.line_law.specs.declared.link.Link.TheVariants.{Out}
use Rattle.line_law.specs.declared.state.Block.{Block}
use Rattle.line_law.specs.declared.state.PairState.{PairState}
use Rattle.line_law.specs.History.{IsLegal, after_entry, state_of}
use Rattle.line_law.specs.Known.{KnowsCall}
use Rattle.line_law.specs.Law.{step}
use Rattle.line_law.specs.Links.{pair_no}
use Rattle.line_law.specs.States.{LineState, opening_block, opening_pair, opening_state}
use Rattle.line_law.proofs.Histories.{entry_determined, history_states, state_grows}
use Rattle.line_law.proofs.Opens.{all_one}
use Rattle.line_law.proofs.Sides.{call_within, known_box}
use Rattle.word_laws.specs.Footprint.{BlockWord, way_at}
use Rattle.word_laws.specs.TellsWord.{kind_told}
use Rattle.line_journal.specs.Fits.{position_of}
use Rattle.line_journal.specs.Halves.{pair_for}
use Rattle.line_watch.specs.declared.sight.Sight.{Sight}
use Rattle.line_watch.specs.Boards.{RoundFields, section_count}
use Rattle.line_watch.specs.Shown.{IsBoardOf, IsRoundAfter, first_sight, section_in, sight_in}
use Rattle.line_watch.specs.Sights.{IsFirstRight, IsRightAfter, instrument_after}
use Rattle.line_watch.specs.Told.{number_in, number_told, sight_told}
use Rattle.line_watch.proofs.BoardsShown.{begins_itself}
use Rattle.line_watch.proofs.Firsts.{right_there}
use Rattle.line_watch.proofs.Rounds.{counted}
use Rattle.line_watch.proofs.SectionNumbers.{down_listed, even_or_odd, sections_counted, up_listed}
use Rattle.line_watch.proofs.Traces.{ShowsAt, block_in, block_shown, step_back, step_shows}

-- ---- what one entry tells

abbrev block_of : Sight → Block
block_of sight = record { turns = sight.turns; position = sight.position; spent = sight.spent }

told_shown : (act : Act) (reply : Reply) (sight : Sight) → sight_told act reply ≡ Some sight
    → block_shown act reply ≡ Some (block_of sight)
told_shown act (Turned v) sight e =
    let same : record { turns = v; position = position_of act; spent = false } ≡ sight = cc in
    ap (λ (x : Sight). Some (block_of x)) same
told_shown act (PulledUnder v) sight e =
    let same : record { turns = v; position = shows.LineClear; spent = true } ≡ sight = cc in
    ap (λ (x : Sight). Some (block_of x)) same
told_shown act (HeldByInstrument way shown spent v) sight e =
    let same : record { turns = v; position = shown; spent = true } ≡ sight = cc in
    ap (λ (x : Sight). Some (block_of x)) same
told_shown act reply sight e = absurd cc

told_kind : (act : Act) (reply : Reply) (sight : Sight) → sight_told act reply ≡ Some sight
    → kind_told reply ≡ BlockWord
told_kind act (Turned v) sight e = refl
told_kind act (PulledUnder v) sight e = refl
told_kind act (HeldByInstrument way shown spent v) sight e = refl
told_kind act reply sight e = absurd cc

-- an entry that tells nothing shows nothing
silent : (act : Act) (reply : Reply) (block : Block) → sight_told act reply ≡ None
    → block_shown act reply ≡ Some block → ⊥
silent act (Turned v) block e h = cc
silent act (PulledUnder v) block e h = cc
silent act (HeldByInstrument way shown spent v) block e h = cc
silent act reply block e h = cc

-- ---- sections by their numbers

-- the section of a way between two neighbours
abbrev section_between : ℕ → Way → Section
section_between pair Down = record { rear = pair; way = Down }
section_between pair Up = record { rear = pair + 1; way = Up }

section_numbered : (plan : PlanFields) (pair : ℕ) (way : Way) → pair + 1 < length plan.boxes
    → section_in plan (number_in pair way) ≡ section_between pair way
section_numbered plan pair Down lt =
    down_listed 0 (length plan.boxes - 1) (2 * pair) pair _ refl (omega (arith, lt))
    ∙ ap (λ (m : ℕ). let s : Section = record { rear = m; way = Down } in s) (omega arith)
section_numbered plan pair Up lt =
    up_listed 0 (length plan.boxes - 1) (2 * pair + 1) pair _ refl (omega (arith, lt))
    ∙ ap (λ (m : ℕ). let s : Section = record { rear = m; way = Up } in s) (omega arith)

block_between : (state : LineState) (pair : ℕ) (way : Way)
    → block_in state (pair_no (section_between pair way).rear (Out (section_between pair way).way))
    (section_between pair way).way ≡ block_in state pair way
block_between state pair Down = refl
block_between state pair Up =
    let e : pair + 1 - 1 ≡ pair = omega arith in
    ap (λ (p : ℕ). block_in state p Up) e

instrument_numbered : (plan : PlanFields) (log : List Entry) (pair : ℕ) (way : Way) → pair + 1 < length plan.boxes
    → instrument_after plan log (section_in plan (number_in pair way)) ≡ block_in (state_of plan log) pair way
instrument_numbered plan log pair way lt =
    ap (λ (s : Section). instrument_after plan log s) (section_numbered plan pair way lt)
    ∙ block_between (state_of plan log) pair way

-- the pair and the way of a number
record Numbered (plan : PlanFields) (k : ℕ) : Type 0 where
  pair : ℕ
  way : Way
  is : k ≡ number_in pair way
  within : pair + 1 < length plan.boxes

numbered : (plan : PlanFields) (k : ℕ) → k < length (sections_of plan) → Numbered plan k
numbered plan k lt =
    let c = sections_counted 0 (length plan.boxes - 1) in
    let half : k / 2 + 1 < length plan.boxes = omega (arith, lt, c) in
    ⊎_elim (λ e. record { pair = k / 2; way = Down; is = e; within = half })
    (λ e. record { pair = k / 2; way = Up; is = e; within = half }) (even_or_odd k)

number_within : (plan : PlanFields) (pair : ℕ) (way : Way) → pair + 1 < length plan.boxes
    → number_in pair way < section_count (length plan.boxes)
number_within plan pair Down lt = omega (arith, lt)
number_within plan pair Up lt = omega (arith, lt)

pub told_within : (plan : PlanFields) (e : Entry) → IsPlan plan → KnowsCall plan e.box_no e.call
    → number_told plan e < section_count (length plan.boxes)
told_within plan e is known =
    let within = call_within plan e.box_no e.call is known in
    number_within plan (pair_for plan e) (way_at plan e.box_no e.call) within.pair

-- an entry off a list
abbrev pub no_entry : Entry
no_entry = record { box_no = 0; call = record { moment = 0; act = Ring Up 0 }; reply = Rung 0 }

-- ---- one entry more

-- an entry of a legal history, with what comes before it
record Stands (plan : PlanFields) (before : List Entry) (e : Entry) : Type 0 where
  known : KnowsCall plan e.box_no e.call
  told : e.reply ≡ (step plan (state_of plan before) e.box_no e.call).reply

stands : (plan : PlanFields) (es : List Entry) (i : ℕ) (d e : Entry) → IsLegal plan es → i < length es
    → get_or es i d ≡ e → Stands plan (take i es) e × (take (i + 1) es ≡ take i es ++ e ∷ [])
stands plan es i d e legal lt at =
    let next : take (i + 1) es ≡ take i es ++ e ∷ [] =
    take_more es i d lt ∙ ap (λ (x : Entry). take i es ++ x ∷ []) at in
    let next_number : suc i ≡ i + 1 = omega arith in
    let rest : drop i es ≡ e ∷ drop (i + 1) es =
    drop-cons es i d lt ∙ (ap (λ (x : Entry). x ∷ drop (suc i) es) at
    ∙ ap (λ (m : ℕ). e ∷ drop m es) next_number) in
    let all : take i es ++ e ∷ drop (i + 1) es ≡ es =
    ap (λ (l : List Entry). take i es ++ l) (sym rest) ∙ take-append-drop i es in
    let d = entry_determined plan (take i es) (drop (i + 1) es) e (subst (λ (l : List Entry). IsLegal plan l) (sym all)
    legal) in
    (record { known = d.0.known; told = ap (λ (x : Entry). x.reply) d.1 }, next)

-- an entry of a legal history is of a box of the line
pub box_there : (plan : PlanFields) (es : List Entry) (i : ℕ) (d : Entry) → IsLegal plan es → i < length es
    → (get_or es i d).box_no < length plan.boxes
box_there plan es i d legal lt =
    let e = get_or es i d in
    known_box plan e.box_no e.call (stands plan es i d e legal lt refl).0.known

-- the section that an entry tells of has its sight in the round
pub number_there : (plan : PlanFields) (es : List Entry) (i : ℕ) (d : Entry) (before : List Entry) (round : List Sight)
    → IsPlan plan → IsLegal plan es → i < length es → IsRoundAfter plan before round
    → number_told plan (get_or es i d) < length round
number_there plan es i d before round is legal lt h =
    let e = get_or es i d in
    let within = told_within plan e is (stands plan es i d e legal lt refl).0.known in
    let c = counted plan (length plan.boxes) refl in
    omega (arith, within, c, h.each)

-- what the instrument of a number shows after an entry
after_one : (plan : PlanFields) (before : List Entry) (e : Entry) (k : ℕ) (n : Numbered plan k)
    → instrument_after plan (before ++ e ∷ []) (section_in plan k)
    ≡ block_in (after_entry plan (state_of plan before) e) n.pair n.way
after_one plan before e k n =
    ap (λ (m : ℕ). instrument_after plan (before ++ e ∷ []) (section_in plan m)) n.is
    ∙ (instrument_numbered plan (before ++ e ∷ []) n.pair n.way n.within
    ∙ ap (λ (s : LineState). block_in s n.pair n.way) (state_grows plan before e))

before_one : (plan : PlanFields) (before : List Entry) (k : ℕ) (n : Numbered plan k)
    → instrument_after plan before (section_in plan k) ≡ block_in (state_of plan before) n.pair n.way
before_one plan before k n =
    ap (λ (m : ℕ). instrument_after plan before (section_in plan m)) n.is
    ∙ instrument_numbered plan before n.pair n.way n.within

-- it stays, or it is the one of which the entry tells
stays_or_told : (plan : PlanFields) (before : List Entry) (e : Entry) (k : ℕ) → IsPlan plan → Stands plan before e
    → k < length (sections_of plan)
    → (instrument_after plan (before ++ e ∷ []) (section_in plan k)
    ≡ instrument_after plan before (section_in plan k))
    ⊎ ((k ≡ number_told plan e) × (block : Block) × (block_shown e.call.act e.reply ≡ Some block))
stays_or_told plan before e k is h lt =
    let n = numbered plan k lt in
    ⊎_elim (λ same. inl (after_one plan before e k n ∙ (same ∙ sym (before_one plan before k n))))
    (λ (s : ShowsAt plan e n.pair n.way (block_in (after_entry plan (state_of plan before) e) n.pair n.way)).
    inr (
      n.is ∙ (ap (λ (p : ℕ). number_in p n.way) (sym s.pair)
          ∙ ap (λ (w : Way). number_in (pair_for plan e) w) (sym s.way)),
      _,
      s.shown,
    ))
    (step_shows plan (state_of plan before) e n.pair n.way is (history_states plan before) h.known h.told)

-- the one of which it tells shows that
told_there : (plan : PlanFields) (before : List Entry) (e : Entry) (sight : Sight) → IsPlan plan
    → Stands plan before e → sight_told e.call.act e.reply ≡ Some sight
    → IsRightAfter plan (before ++ e ∷ []) (section_in plan (number_told plan e)) sight
told_there plan before e sight is h tells =
    let within = call_within plan e.box_no e.call is h.known in
    let p = pair_for plan e in
    let w = way_at plan e.box_no e.call in
    let shape = history_states plan before in
    let there = instrument_numbered plan (before ++ e ∷ []) p w within.pair
    ∙ ap (λ (s : LineState). block_in s p w) (state_grows plan before e) in
    let back = step_back plan (state_of plan before) e p w (block_of sight) h.told
    (omega (arith, shape.pairs, within.pair))
    (record {
      kind = told_kind e.call.act e.reply sight tells;
      pair = refl;
      way = refl;
      shown = told_shown e.call.act e.reply sight tells;
    }) in
    let same = sym (there ∙ back) in
    record {
      turns = ap (λ (block : Block). block.turns) same;
      position = ap (λ (block : Block). block.position) same;
      spent = ap (λ (block : Block). block.spent) same;
    }

-- ---- a round, entry by entry

opens : (plan : PlanFields) (pair : ℕ) (way : Way) → block_in (opening_state plan) pair way ≡ opening_block
unfolding opening_state
opens plan pair Up = ap (λ (p : PairState). p.blocks.up) (all_one (length plan.boxes - 1) pair opening_pair)
opens plan pair Down = ap (λ (p : PairState). p.blocks.down) (all_one (length plan.boxes - 1) pair opening_pair)

-- a round of first sights is right before all entries
pub round_opens : (plan : PlanFields) (boxes : ℕ) → boxes ≡ length plan.boxes
    → IsRoundAfter plan [] (replicate (section_count boxes) first_sight)
round_opens plan boxes e = record {
  each = length-replicate (section_count boxes) first_sight ∙ sym (counted plan boxes e);
  right = λ k lt. (let n = numbered plan k lt in
      let opening : instrument_after plan [] (section_in plan k) ≡ opening_block =
      before_one plan [] k n ∙ opens plan n.pair n.way in
      subst (λ (x : Sight). IsRightAfter plan [] (section_in plan k) x)
      (sym (all_one (section_count boxes) k first_sight))
      (record {
        turns = sym (ap (λ (block : Block). block.turns) opening);
        position = sym (ap (λ (block : Block). block.position) opening);
        spent = sym (ap (λ (block : Block). block.spent) opening);
      }));
}

-- an entry that tells nothing of an instrument leaves the round right
pub round_stays : (plan : PlanFields) (es : List Entry) (i : ℕ) (d e : Entry) (round : List Sight) → IsPlan plan
    → IsLegal plan es → i < length es → get_or es i d ≡ e → sight_told e.call.act e.reply ≡ None
    → IsRoundAfter plan (take i es) round → IsRoundAfter plan (take (i + 1) es) round
round_stays plan es i d e round is legal lt at tells h =
    let s = stands plan es i d e legal lt at in
    subst (λ (l : List Entry). IsRoundAfter plan l round) (sym s.1) (record {
      each = h.each;
      right = λ k within. ⊎_elim
          (λ same. right_there plan (take i es) (take i es ++ e ∷ []) (section_in plan k) (get_or round k first_sight)
          (sym same) (h.right k within))
          (λ t. absurd (silent e.call.act e.reply t.1 tells t.2))
          (stays_or_told plan (take i es) e k is s.0 within);
    })

-- one that does leaves it right with the sight that it tells
pub round_told : (plan : PlanFields) (es : List Entry) (i : ℕ) (d e : Entry) (sight : Sight) (round : List Sight)
    → IsPlan plan → IsLegal plan es → i < length es → get_or es i d ≡ e
    → sight_told e.call.act e.reply ≡ Some sight → IsRoundAfter plan (take i es) round
    → IsRoundAfter plan (take (i + 1) es) (set round (number_told plan e) sight)
round_told plan es i d e sight round is legal lt at tells h =
    subst (λ (l : List Entry). IsRoundAfter plan l (set round number sight)) (sym s.1) (record {
      each = length-set round number sight ∙ h.each;
      right = λ k within. ⊎_elim (λ (t : ((k == number) ≡ true) × (k ≡ number)). one k t.1)
          (λ (t : ((k == number) ≡ false) × (k ≢ number)). others k within t.1) (eqb_tells k number);
    })
  where
    s : Stands plan (take i es) e × (take (i + 1) es ≡ take i es ++ e ∷ [])
    s = stands plan es i d e legal lt at

    number : ℕ
    number = number_told plan e

    there : number < length round
    there =
        let within = told_within plan e is s.0.known in
        let c = counted plan (length plan.boxes) refl in
        omega (arith, within, c, h.each)

    one : (k : ℕ) → k ≡ number
        → IsRightAfter plan (take i es ++ e ∷ []) (section_in plan k) (get_or (set round number sight) k first_sight)
    one k same =
        subst (λ (m : ℕ). IsRightAfter plan (take i es ++ e ∷ []) (section_in plan m)
        (get_or (set round number sight) m first_sight)) (sym same)
        (subst (λ (x : Sight). IsRightAfter plan (take i es ++ e ∷ []) (section_in plan number) x)
        (sym (get_or-set_same round number sight first_sight there))
        (told_there plan (take i es) e sight is s.0 tells))

    others : (k : ℕ) → k < length (sections_of plan) → k ≢ number
        → IsRightAfter plan (take i es ++ e ∷ []) (section_in plan k) (get_or (set round number sight) k first_sight)
    others k within ne =
        subst (λ (x : Sight). IsRightAfter plan (take i es ++ e ∷ []) (section_in plan k) x)
        (sym (get_or-set_other round number k sight first_sight ne))
        (⊎_elim
        (λ same. right_there plan (take i es) (take i es ++ e ∷ []) (section_in plan k) (get_or round k first_sight)
        (sym same) (h.right k within))
        (λ t. absurd (ne t.0)) (stays_or_told plan (take i es) e k is s.0 within))

-- a round that is right after all entries is right after the journal
pub round_whole : (plan : PlanFields) (es : List Entry) (i : ℕ) (round : List Sight) → length es ≤ i
    → IsRoundAfter plan (take i es) round → IsRoundAfter plan es round
round_whole plan es i round h r = subst (λ (l : List Entry). IsRoundAfter plan l round) (take_all i es h) r

-- ---- a board of such rounds

round_of : (plan : PlanFields) (log : List Entry) (rounds : List (List Sight)) (r : ℕ)
    → All (λ (round : List Sight). IsRoundAfter plan log round) rounds → r < length rounds
    → IsRoundAfter plan log (get_or rounds r [])
round_of plan log rounds r all lt = All-get_or (λ (round : List Sight). IsRoundAfter plan log round) rounds r [] lt all

same_first : (plan : PlanFields) (log first next : List Entry) (section : Section) (sight shown : Sight)
    → IsRightAfter plan log section sight → IsRightAfter plan log section shown
    → IsFirstRight plan log section sight first → IsFirstRight plan log section shown next
    → length first ≤ length next
same_first plan log first next section sight shown h g f n = f.shortest next n.begins (record {
  turns = h.turns ∙ (sym g.turns ∙ n.right.turns);
  position = h.position ∙ (sym g.position ∙ n.right.position);
  spent = h.spent ∙ (sym g.spent ∙ n.right.spent);
})

-- a board of rounds that are each right after a journal is one of it
pub board_stands : (plan : PlanFields) (log : List Entry) (rounds : List (List Sight))
    → All (λ (round : List Sight). IsRoundAfter plan log round) rounds → IsBoardOf plan log rounds
board_stands plan log rounds all = record {
  each = λ r lt. (round_of plan log rounds r all lt).each;
  right = λ r k lt within. (log, begins_itself log, (round_of plan log rounds r all lt).right k within);
  later = λ r s k first next le lt within h g. same_first plan log first next (section_in plan k) (sight_in rounds r k)
      (sight_in rounds s k) ((round_of plan log rounds r all (omega (arith, le, lt))).right k within)
      ((round_of plan log rounds s all lt).right k within) h g;
  last = λ k some within. (round_of plan log rounds (length rounds - 1) all (omega (arith, some))).right k within;
}

-- each round of the board has these sights
abbrev AllOf : List Sight → List RoundFields → Type 0
AllOf sights rounds = All (λ (round : RoundFields). round.sights ≡ sights) rounds

-- such rounds have a sight of each section
pub all_full : (plan : PlanFields) (boxes : ℕ) (log : List Entry) (sights : List Sight) (rounds : List RoundFields)
    → boxes ≡ length plan.boxes → IsRoundAfter plan log sights → AllOf sights rounds
    → All (λ (round : RoundFields). length round.sights ≡ section_count boxes) rounds
all_full plan boxes log sights rounds e h same =
    All-weaker (λ (round : RoundFields). round.sights ≡ sights)
    (λ (round : RoundFields). length round.sights ≡ section_count boxes)
    (λ round is. ap (λ (xs : List Sight). length xs) is ∙ (h.each ∙ counted plan boxes e)) rounds same

-- so each shows how all instruments stand after the history
pub all_after : (plan : PlanFields) (log : List Entry) (sights : List Sight) (rounds : List RoundFields)
    → IsRoundAfter plan log sights → AllOf sights rounds
    → All (λ (round : List Sight). IsRoundAfter plan log round) (map (λ (round : RoundFields). round.sights) rounds)
all_after plan log sights rounds h same =
    All-map (λ (xs : List Sight). IsRoundAfter plan log xs) (λ (round : RoundFields). round.sights) rounds
    (All-weaker (λ (round : RoundFields). round.sights ≡ sights)
    (λ (round : RoundFields). IsRoundAfter plan log round.sights)
    (λ round is. subst (λ (xs : List Sight). IsRoundAfter plan log xs) (sym is) h) rounds same)
