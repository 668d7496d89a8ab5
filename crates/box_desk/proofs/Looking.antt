-- What a look tells of the reply that the call would get at that word.
use Rattle.std.proofs.Common.{◌≡◌, ◌≢◌, ℕ, ◌<◌, ◌==◌, List, Bool, true, false, not, cond}
use Rattle.std.proofs.Common.{refl, sym, ap, subst, ◌∙◌, arith, inl, inr, nat_lt}
use Rattle.std.specs.Prelude.{Option, Some, None, is_some}
use Rattle.std.proofs.lemmas.Bool.Decides.{eqb_tells, nat_tests}
use Rattle.block_words.specs.Ways.{opposite}
use Rattle.block_words.specs.Bells.{bell_code}
use Rattle.block_words.specs.Instruments.{block_position}
use Rattle.block_words.specs.Sections.{lane}
use Rattle.block_words.specs.declared.Position.{Position}
use Rattle.block_words.specs.declared.Way.{Way}
use Rattle.line_plan.specs.declared.signal.Signal.{Signal}
use Rattle.line_plan.specs.declared.signal.To.{To}
use Rattle.line_plan.specs.declared.signal.To.TheVariants as leads
use Rattle.line_plan.specs.Frames.{BoxFields, signal_of, way_to}
use Rattle.line_plan.specs.Plans.{PlanFields}
use Rattle.line_law.specs.declared.call.Act.{Act}
use Rattle.line_law.specs.declared.call.Act.TheVariants as acts
use Rattle.line_law.specs.declared.call.Reply.{Reply}
use Rattle.line_law.specs.declared.link.Link.{Link}
use Rattle.line_law.specs.declared.link.Link.TheVariants.{In, Out}
use Rattle.line_law.specs.declared.state.BoxState.{BoxState}
use Rattle.line_law.specs.declared.state.PairState.{PairState}
use Rattle.line_law.specs.declared.state.Passage.{Passage}
use Rattle.line_law.specs.Arrivals.{next_number, next_train}
use Rattle.line_law.specs.Arrivals.{train_awaited, train_berthed, train_cleared, train_parted}
use Rattle.line_law.specs.Bells.{awaited, heard, rung}
use Rattle.line_law.specs.Decisions.{Decision, OnPlainLine, Told, on_pair}
use Rattle.line_law.specs.Instruments.{same_position}
use Rattle.line_law.specs.Law.{decide, link_of}
use Rattle.line_law.specs.Levers.{is_unspent_clear, starter_link, starter_way}
use Rattle.line_law.specs.Links.{way_of}
use Rattle.line_law.specs.Outcomes.{Outcome, Moves, Passes, Overruns, Refused, Rings, Hears, AwaitsBell, Turns}
use Rattle.line_law.specs.Outcomes.{AwaitsBlock, Pulls, PullsStarter, Puts, Brings, GoesTo, GoesAway, Enters}
use Rattle.line_law.specs.Outcomes.{AwaitsTrain, Berths, Parts, Clears, Winds, Releases}
use Rattle.line_law.specs.Trains.{enter, left_by}
use Rattle.line_law.specs.Ways.{of_way}
use Rattle.word_laws.specs.Footprint.{kind_of}
use Rattle.word_laws.specs.Operations.{IsOnWord, next_lane}
use Rattle.word_laws.specs.WordNumbers.{Agrees, PlainLineAgrees}
use Rattle.word_laws.specs.WordNumbers.{code_number, number_at, plain_line_number}
use Rattle.block_words.proofs.Packing.{bell_code-bell_word, block_position-block_word}
use Rattle.line_law.proofs.Outcomes.{outcome_of}
use Rattle.word_laws.proofs.WordCalls.{code_small}
use Rattle.word_laws.specs.Operations.{met_by}
use Rattle.box_desk.specs.Looks.{fell_short}
use Rattle.box_desk.proofs.Arriving.{none_comes, one_comes}
use Rattle.box_desk.proofs.Entering.{entered_told, full_told}

-- the awaited code is a code, and not the number that stands for none
abbrev pub AwaitsCode : Act → Type 0
AwaitsCode (acts.AwaitBell side code) = 0 < code
AwaitsCode act = Unit {0}

one_short : {Word : Type 0} (b : Bool) (x y : Told Word) → fell_short x.reply ≡ false → fell_short y.reply ≡ true
    → fell_short (cond b x y).reply ≡ not b
one_short true x y p q = p
one_short false x y p q = q

never_short : {Word : Type 0} (b : Bool) (x y : Told Word) → fell_short x.reply ≡ false → fell_short y.reply ≡ false
    → fell_short (cond b x y).reply ≡ false
never_short true x y p q = p
never_short false x y p q = q

-- ---- bells

rung_short : (here : BoxState) (side : Way) (code count : ℕ) (unheard : Option ℕ)
    → fell_short (rung here side code count unheard).reply ≡ false
rung_short here side code count (Some held) = refl
rung_short here side code count None = refl

heard_short : (here : BoxState) (count : ℕ) (unheard : Option ℕ) → fell_short (heard here count unheard).reply ≡ false
heard_short here count (Some code) = refl
heard_short here count None = refl

differs : (code : ℕ) → 0 < code → (0 == code) ≡ false
differs code some = elim (eqb_tells 0 code) [
  | inl same ↦ absurd (omega (arith, same.1, some))
  | inr differ ↦ differ.0
]

awaited_short : (here : BoxState) (code count : ℕ) (unheard : Option ℕ) → 0 < code
    → fell_short (awaited here code count unheard).reply ≡ not (code_number unheard == code)
awaited_short here code count (Some held) some = one_short (held == code) _ _ refl refl
awaited_short here code count None some = sym (ap not (differs code some))

-- ---- sections

awaits_short : (here : BoxState) (way : Way) (line : List Passage) (t : Option ℕ) (j : ℕ)
    → fell_short (train_awaited t here j line).reply ≡ not (is_some t)
awaits_short here way line None j = refl
awaits_short here way line (Some train) j = refl

comes_by : (here : BoxState) (way : Way) (line : List Passage) → PlainLineAgrees (In way) here line
    → is_some (next_train here way line) ≡ nat_lt 0 (lane (plain_line_number line) (next_number here way))
comes_by here way line agrees = by _ refl where
  by : (train : ℕ) → lane (plain_line_number line) (next_number here way) ≡ train
      → is_some (next_train here way line) ≡ nat_lt 0 (lane (plain_line_number line) (next_number here way))
  by train is = elim (eqb_tells train 0) [
    | inl none ↦
        let empty = is ∙ none.1 in
        ap (λ (t : Option ℕ). is_some t) (none_comes here way line agrees empty)
        ∙ sym (ap (λ (n : ℕ). nat_lt 0 n) empty)
    | inr some ↦
        ap (λ (t : Option ℕ). is_some t) (one_comes here way line train agrees is some.1)
        ∙ sym (ap (λ (n : ℕ). nat_lt 0 n) is ∙ above train some.1)
  ]
    where
      above : (n : ℕ) → n ≢ 0 → nat_lt 0 n ≡ true
      above n some = grind (arith, nat_tests)

berthed_short : (t : Option ℕ) (here : BoxState) (way : Way) (place j : ℕ) (line : List Passage)
    → fell_short (train_berthed t here way place j line).reply ≡ false
berthed_short None here way place j line = refl
berthed_short (Some train) here way place j line = refl

parted_short : (t : Option ℕ) (here : BoxState) (way : Way) (place j : ℕ) (line : List Passage)
    → fell_short (train_parted t here way place j line).reply ≡ false
parted_short None here way place j line = refl
parted_short (Some train) here way place j line = refl

cleared_short : (t : Option ℕ) (here : BoxState) (way : Way) (j : ℕ) (line : List Passage)
    → fell_short (train_cleared t here way j line).reply ≡ false
cleared_short None here way j line = refl
cleared_short (Some train) here way j line = refl

entered_short : (here left : BoxState) (way : Way) (train : ℕ) (line : List Passage)
    → PlainLineAgrees (Out way) here line
    → fell_short (enter here left way train line).reply
    ≡ not (next_lane here way (plain_line_number line) == 0)
entered_short here left way train line agrees = elim (eqb_tells (next_lane here way (plain_line_number line)) 0) [
  | inl none ↦
      ap (λ (r : Reply). fell_short r) (entered_told here left way train line agrees none.1).reply_is
      ∙ sym (ap not none.0)
  | inr some ↦
      ap (λ (r : Reply). fell_short r) (full_told here left way train line agrees some.1).reply_is
      ∙ sym (ap not some.0)
]

-- the line of a starter's lever
lever_out : (box_plan : BoxFields) (lever : ℕ) (signal : Signal) (way : Way) → signal_of box_plan lever ≡ Some signal
    → signal.to ≡ leads.Section way → starter_link (starter_way (signal_of box_plan lever)) ≡ Out way
lever_out box_plan lever signal way is to =
    ap (λ (s : Option Signal). starter_link (starter_way s)) is ∙ ap (λ (end : To). starter_link (way_to end)) to

-- ---- every call

-- the reply at a pair whose number the word is
abbrev TellsShort : BoxFields → Act → BoxState → ℕ → Decision → Type 0
TellsShort box_plan act here word d =
    (pair : PairState) → Agrees (kind_of d) (link_of box_plan act) here pair
    → number_at (kind_of d) (way_of (link_of box_plan act)) pair ≡ word
    → fell_short (on_pair (way_of (link_of box_plan act)) d pair).reply ≡ not (met_by box_plan act here word)

-- the same of a train at the starter of a line
abbrev EntersShort : BoxFields → BoxState → ℕ → Signal → ℕ → Way → Link → Type 0
EntersShort box_plan here word signal train way link =
    (pair : PairState) → PlainLineAgrees link here (of_way pair.lines (way_of link))
    → plain_line_number (of_way pair.lines (way_of link)) ≡ word
    → fell_short (enter here (left_by box_plan here signal) way train (of_way pair.lines (way_of link))).reply
    ≡ not (next_lane here (way_of link) word == 0)

enters_at : (box_plan : BoxFields) (here : BoxState) (word lever : ℕ) (signal : Signal) (train : ℕ) (way : Way)
    → signal_of box_plan lever ≡ Some signal → signal.to ≡ leads.Section way
    → EntersShort box_plan here word signal train way (starter_link (starter_way (signal_of box_plan lever)))
enters_at box_plan here word lever signal train way is to =
    subst (λ (link : Link). EntersShort box_plan here word signal train way link)
    (sym (lever_out box_plan lever signal way is to))
    (λ pair agrees packs.
    entered_short here (left_by box_plan here signal) way train (of_way pair.lines way) agrees
    ∙ ap (λ (w : ℕ). not (next_lane here way w == 0)) packs)

enters_short : (box_plan : BoxFields) (act : Act) (here : BoxState) (word lever : ℕ) (signal : Signal) (train : ℕ)
    (way : Way) → signal_of box_plan lever ≡ Some signal → signal.to ≡ leads.Section way → Moves here lever signal act
    → TellsShort box_plan act here word (OnPlainLine (enter here (left_by box_plan here signal) way train))
enters_short box_plan act here word lever signal train way is to (Passes free) =
    enters_at box_plan here word lever signal train way is to
enters_short box_plan act here word lever signal train way is to (Overruns free) =
    enters_at box_plan here word lever signal train way is to

outcome_short : (plan : PlanFields) (box_plan : BoxFields) (act : Act) (here : BoxState) (word : ℕ) (d : Decision)
    → Outcome plan box_plan here act d → AwaitsCode act → IsOnWord (kind_of d) → TellsShort box_plan act here word d
outcome_short plan box_plan act here word d (Refused a reply refused) code on = absurd on
outcome_short plan box_plan act here word d (Rings side c) code on = λ pair agrees packs.
    rung_short here side c (of_way pair.bells side).count (of_way pair.bells side).unheard
outcome_short plan box_plan act here word d (Hears side) code on = λ pair agrees packs.
    heard_short here (of_way pair.bells (opposite side)).count (of_way pair.bells (opposite side)).unheard
outcome_short plan box_plan act here word d (AwaitsBell side c) code on = λ pair agrees packs.
    let bell = of_way pair.bells (opposite side) in
    awaited_short here c bell.count bell.unheard code
    ∙ ap (λ (n : ℕ). not (n == c)) (sym (bell_code-bell_word bell.count (code_number bell.unheard)
    (code_small bell.unheard agrees.code)) ∙ ap bell_code packs)
outcome_short plan box_plan act here word d (Turns way position berth is free) code on = λ pair agrees packs. refl
outcome_short plan box_plan act here word d (AwaitsBlock way position) code on = λ pair agrees packs.
    let block = of_way pair.blocks way in
    one_short (same_position block.position position) _ _ refl refl
    ∙ ap (λ (p : Position). not (same_position p position)) (sym (block_position-block_word block.turns block.spent
    block.position) ∙ ap block_position packs)
outcome_short plan box_plan act here word d (Pulls lever is free) code on = absurd on
outcome_short plan box_plan act here word d (PullsStarter lever way is free) code on = λ pair agrees packs.
    never_short (is_unspent_clear (of_way pair.blocks (way_of (starter_link (starter_way (signal_of box_plan lever))))))
    _ _ refl refl
outcome_short plan box_plan act here word d (Puts lever free) code on = absurd on
outcome_short plan box_plan act here word d (Brings train free) code on = absurd on
outcome_short plan box_plan act here word d (GoesTo a lever signal train place is to there moves) code on = absurd on
outcome_short plan box_plan act here word d (GoesAway a lever signal train is to there moves) code on = absurd on
outcome_short plan box_plan act here word d (Enters a lever signal train way is to there moves) code on =
    enters_short box_plan act here word lever signal train way is to moves
outcome_short plan box_plan act here word d (AwaitsTrain way) code on = λ pair agrees packs.
    let line = of_way pair.lines way in
    awaits_short here way line (next_train here way line) (next_number here way)
    ∙ ap not (comes_by here way line agrees ∙ ap (λ (w : ℕ). nat_lt 0 (lane w (next_number here way))) packs)
outcome_short plan box_plan act here word d (Berths way berth is free) code on = λ pair agrees packs.
    berthed_short (next_train here way (of_way pair.lines way)) here way berth.place (next_number here way)
    (of_way pair.lines way)
outcome_short plan box_plan act here word d (Parts way berth is free) code on = λ pair agrees packs.
    parted_short (next_train here way (of_way pair.lines way)) here way berth.place (next_number here way)
    (of_way pair.lines way)
outcome_short plan box_plan act here word d (Clears way free) code on = λ pair agrees packs.
    cleared_short (next_train here way (of_way pair.lines way)) here way (next_number here way) (of_way pair.lines way)
outcome_short plan box_plan act here word d (Winds way free) code on = absurd on
outcome_short plan box_plan act here word d (Releases way free) code on = absurd on

-- whether a word satisfies a call is told by the law's reply at it
pub met_tells : (plan : PlanFields) (box_plan : BoxFields) (act : Act) (here : BoxState) (word : ℕ) → AwaitsCode act
    → IsOnWord (kind_of (decide plan box_plan act here))
    → TellsShort box_plan act here word (decide plan box_plan act here)
met_tells plan box_plan act here word code on =
    outcome_short plan box_plan act here word (decide plan box_plan act here) (outcome_of plan box_plan act here) code
    on
