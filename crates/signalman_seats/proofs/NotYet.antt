-- An await that is told that it wasn't satisfied has not met what it looks for.
use Rattle.std.proofs.Common.{◌≡◌, ℕ, ◌+◌, ◌%◌, ◌<◌, Bool, true, false, List, [], ◌∷◌, Option, Some, None, refl}
use Rattle.std.proofs.Common.{ap, ◌∙◌, arith}
use Rattle.std.specs.Prelude.{◌==◌, nat_lt, if◌then◌else◌, All, IfSome}
use Rattle.std.proofs.lemmas.Bool.Decides.{nat_tests}
use Rattle.block_words.specs.Bells.{bell_code, bell_word}
use Rattle.block_words.specs.Sections.{lane}
use Rattle.block_words.specs.declared.Position.{Position}
use Rattle.block_words.specs.declared.Way.{Way}
use Rattle.block_words.proofs.Packing.{bell_code-bell_word, block_position-block_word}
use Rattle.line_plan.specs.Frames.{BoxFields, signal_of}
use Rattle.line_plan.specs.Plans.{PlanFields}
use Rattle.line_law.specs.declared.call.Act.{Act}
use Rattle.line_law.specs.declared.call.Act.TheVariants as acts
use Rattle.line_law.specs.declared.call.Reply.{Reply}
use Rattle.line_law.specs.declared.call.Reply.TheVariants as replies
use Rattle.line_law.specs.declared.state.Bell.{Bell}
use Rattle.line_law.specs.declared.state.Block.{Block}
use Rattle.line_law.specs.declared.state.BoxState.{BoxState}
use Rattle.line_law.specs.declared.state.PairState.{PairState}
use Rattle.line_law.specs.declared.state.Passage.{Passage}
use Rattle.line_law.specs.Arrivals.{first_train, next_number, train_awaited, train_berthed, train_cleared}
use Rattle.line_law.specs.Arrivals.{train_parted}
use Rattle.line_law.specs.Bells.{awaited, heard, rung, silent}
use Rattle.line_law.specs.Decisions.{Decision, Told, on_pair}
use Rattle.line_law.specs.Instruments.{same_position}
use Rattle.line_law.specs.Law.{link_of}
use Rattle.line_law.specs.Serial.{is_not_yet}
use Rattle.line_law.specs.Levers.{is_unspent_clear, pulled, pulled_under}
use Rattle.line_law.specs.Trains.{enter, holds, left_by}
use Rattle.line_law.specs.Lines.{AreNumbered}
use Rattle.line_law.specs.Links.{way_of}
use Rattle.line_law.specs.Outcomes.{Outcome, Refused, Rings, Hears, AwaitsBell, Turns, AwaitsBlock}
use Rattle.line_law.specs.Outcomes.{Pulls, PullsStarter, Puts, Brings, GoesTo, GoesAway, Enters, AwaitsTrain, Berths}
use Rattle.line_law.specs.Outcomes.{Parts, Clears, Winds, Releases}
use Rattle.line_law.specs.Ways.{of_way}
use Rattle.word_laws.specs.Footprint.{Tally, kind_of}
use Rattle.word_laws.specs.TellsWord.{kind_told}
use Rattle.word_laws.specs.WordNumbers.{Agrees, IsCodeNo, IsTrainNo, code_number, lane_of, number_at, plain_line_number}
use Rattle.word_laws.proofs.Lanes.{eqb_no, eqb_yes, if_true, lane-plain_line_number}
use Rattle.word_laws.proofs.TellsKind.{TellsKind}
use Rattle.word_laws.specs.Operations.{met_by}
use Rattle.box_desk.specs.Steps.{awaits_of}

-- a call that was decided in its box alone isn't told so
tally_ends : (reply : Reply) → kind_told reply ≡ Tally → is_not_yet reply ≡ false
tally_ends (replies.BellNotYet shown k) h = absurd cc
tally_ends (replies.BlockNotYet shown v) h = absurd cc
tally_ends (replies.TrainNotYet j) h = absurd cc
tally_ends reply h = refl

-- nor is one with two replies of which neither is
of_two : {W : Type 0} (b : Bool) (x y : Told W) → is_not_yet x.reply ≡ false → is_not_yet y.reply ≡ false
    → is_not_yet (if b then x else y).reply ≡ false
of_two true x y h k = h
of_two false x y h k = k

rung_ends : (here : BoxState) (side : Way) (code count : ℕ) (u : Option ℕ)
    → is_not_yet (rung here side code count u).reply ≡ false
rung_ends here side code count None = refl
rung_ends here side code count (Some held) = refl

heard_ends : (here : BoxState) (count : ℕ) (u : Option ℕ) → is_not_yet (heard here count u).reply ≡ false
heard_ends here count None = refl
heard_ends here count (Some code) = refl

pulled_ends : (here after : BoxState) (way : Way) (block : Block)
    → is_not_yet (pulled_under here after way block).reply ≡ false
pulled_ends here after way block = of_two {W = Block} (is_unspent_clear block) _ _ refl refl

entered_ends : (here left : BoxState) (way : Way) (train : ℕ) (line : List Passage)
    → is_not_yet (enter here left way train line).reply ≡ false
entered_ends here left way train line = of_two {W = List Passage} (holds line (of_way here.sent way + 1)) _ _ refl refl

berthed_ends : (t : Option ℕ) (here : BoxState) (way : Way) (place j : ℕ) (line : List Passage)
    → is_not_yet (train_berthed t here way place j line).reply ≡ false
berthed_ends None here way place j line = refl
berthed_ends (Some train) here way place j line = refl

parted_ends : (t : Option ℕ) (here : BoxState) (way : Way) (place j : ℕ) (line : List Passage)
    → is_not_yet (train_parted t here way place j line).reply ≡ false
parted_ends None here way place j line = refl
parted_ends (Some train) here way place j line = refl

cleared_ends : (t : Option ℕ) (here : BoxState) (way : Way) (j : ℕ) (line : List Passage)
    → is_not_yet (train_cleared t here way j line).reply ≡ false
cleared_ends None here way j line = refl
cleared_ends (Some train) here way j line = refl

-- ---- the awaits

-- of two replies one was given, by the test
by_test : {W : Type 0} (b : Bool) (x y : Told W) → is_not_yet x.reply ≡ false
    → is_not_yet (if b then x else y).reply ≡ true → b ≡ false
by_test true x y h e = absurd cc
by_test false x y h e = refl

bell_missed : (here : BoxState) (code count : ℕ) (u : Option ℕ) → 0 < code → IfSome u IsCodeNo
    → is_not_yet (awaited here code count u).reply ≡ true
    → (bell_code (bell_word count (code_number u)) == code) ≡ false
bell_missed here code count None some fits e = ap (λ (c : ℕ). c == code) (bell_code-bell_word count 0 (omega arith))
    ∙ eqb_no 0 code (λ z. omega arith)
bell_missed here code count (Some held) some fits e = ap (λ (c : ℕ). c == code) (bell_code-bell_word count held fits.1)
    ∙ by_test {W = Bell} (held == code) (record { reply = replies.Heard held count; here = here; word = silent count })
    (record {
      reply = replies.BellNotYet (Some held) count;
      here = here;
      word = record
          { count = count; unheard = Some held };
    }) refl e

-- a plain line on which the next train isn't the first has no train
none_first : (taken sent : ℕ) (line : List Passage) → AreNumbered taken sent line → first_train (taken + 1) line ≡ None
    → line ≡ []
none_first taken sent [] h e = refl
none_first taken sent (passage ∷ line) h e =
    let found : first_train (taken + 1) (passage ∷ line) ≡ Some passage.train = if_true (passage.number == taken + 1)
    (Some passage.train) None (eqb_yes passage.number (taken + 1) h.0) in
    absurd cc

not_waited : (t : Option ℕ) (here : BoxState) (j : ℕ) (line : List Passage)
    → is_not_yet (train_awaited t here j line).reply ≡ true → t ≡ None
not_waited None here j line e = refl
not_waited (Some train) here j line e = absurd cc

no_lane : (line : List Passage) (j : ℕ) → line ≡ [] → All (λ passage. IsTrainNo passage.train) line
    → lane (plain_line_number line) j ≡ 0
no_lane line j e each = lane-plain_line_number line j each ∙ ap (λ (l : List Passage). lane_of l (j % 4)) e

nothing : (n : ℕ) → n ≡ 0 → nat_lt 0 n ≡ false
nothing n e = grind (arith, nat_tests)

-- ---- every call

-- an await, and its word isn't what it looks for
pub record Missed (box_plan : BoxFields) (act : Act) (here : BoxState) (word : ℕ) : Type 0 where
  pub awaits : awaits_of act ≡ true
  pub missed : met_by box_plan act here word ≡ false

-- a code that an await looks for is no 0
abbrev pub HasCode : Act → Type 0
HasCode (acts.AwaitBell side code) = 0 < code
HasCode act = Unit {0}

not_so : {A : Type 0} (b : Bool) → b ≡ false → b ≡ true → A
not_so true h e = absurd cc
not_so false h e = absurd cc

-- a reply that an await isn't satisfied yet tells that its word missed what it looks for
pub not_yet_missed : (plan : PlanFields) (box_plan : BoxFields) (act : Act) (here : BoxState) (d : Decision)
    (pair : PairState) → Outcome plan box_plan here act d → TellsKind d → HasCode act
    → Agrees (kind_of d) (link_of box_plan act) here pair → is_not_yet (on_pair (way_of (link_of box_plan act)) d
    pair).reply ≡ true → Missed box_plan act here (number_at (kind_of d) (way_of (link_of box_plan act)) pair)
not_yet_missed plan box_plan act here d pair (Refused a reply refused) tells coded agrees e = not_so (is_not_yet reply)
    (tally_ends reply tells) e
not_yet_missed plan box_plan act here d pair (Rings side code) tells coded agrees e = not_so _
    (rung_ends here side code (of_way pair.bells (way_of (link_of box_plan (acts.Ring side code)))).count
    (of_way pair.bells (way_of (link_of box_plan (acts.Ring side code)))).unheard) e
not_yet_missed plan box_plan act here d pair (Hears side) tells coded agrees e = not_so _
    (heard_ends here (of_way pair.bells (way_of (link_of box_plan (acts.Hear side)))).count
    (of_way pair.bells (way_of (link_of box_plan (acts.Hear side)))).unheard) e
not_yet_missed plan box_plan act here d pair (AwaitsBell side c) tells coded agrees e = record {
  awaits = refl;
  missed = bell_missed here c (of_way pair.bells
      (way_of (link_of box_plan (acts.AwaitBell side c)))).count
      (of_way pair.bells (way_of (link_of box_plan (acts.AwaitBell side c)))).unheard coded agrees.code e;
}
not_yet_missed plan box_plan act here d pair (Turns way p berth is free) tells coded agrees e = absurd cc
not_yet_missed plan box_plan act here d pair (AwaitsBlock way p) tells coded agrees e = let block : Block = of_way
    pair.blocks way in record {
      awaits = refl;
      missed = ap (λ (q : Position). same_position q p)
          (block_position-block_word block.turns block.spent block.position)
          ∙ by_test {W = Block} (same_position block.position p) (record {
            reply = replies.Seen block.turns;
            here = here;
            word = block;
          }) (record { reply = replies.BlockNotYet block.position block.turns; here = here; word = block })
          refl e;
    }
not_yet_missed plan box_plan act here d pair (Pulls lever is free) tells coded agrees e = absurd cc
not_yet_missed plan box_plan act here d pair (PullsStarter lever way is free) tells coded agrees e = not_so _
    (pulled_ends here (pulled here lever (signal_of box_plan lever)) way
    (of_way pair.blocks (way_of (link_of box_plan (acts.Pull lever))))) e
not_yet_missed plan box_plan act here d pair (Puts lever free) tells coded agrees e = absurd cc
not_yet_missed plan box_plan act here d pair (Brings train free) tells coded agrees e = absurd cc
not_yet_missed plan box_plan act here d pair (GoesTo a lever signal train place is to there moves) tells coded agrees
    e = absurd cc
not_yet_missed plan box_plan act here d pair (GoesAway a lever signal train is to there moves) tells coded agrees e =
    absurd cc
not_yet_missed plan box_plan act here d pair (Enters a lever signal train way is to there moves) tells coded agrees e =
    not_so _ (entered_ends here (left_by box_plan here signal) way train
    (of_way pair.lines (way_of (link_of box_plan act)))) e
not_yet_missed plan box_plan act here d pair (AwaitsTrain way) tells coded agrees e = record {
  awaits = refl;
  missed = nothing (lane (plain_line_number (of_way pair.lines way)) (next_number here way))
      (no_lane (of_way pair.lines way) (next_number here way) (none_first (of_way here.incoming way).taken
      agrees.numbered.0 (of_way pair.lines way) agrees.numbered.1
      (not_waited (first_train (next_number here way) (of_way pair.lines way)) here (next_number here way)
      (of_way pair.lines way) e)) agrees.each);
}
not_yet_missed plan box_plan act here d pair (Berths way berth is free) tells coded agrees e = not_so _
    (berthed_ends (first_train (next_number here way) (of_way pair.lines way)) here way berth.place
    (next_number here way) (of_way pair.lines way)) e
not_yet_missed plan box_plan act here d pair (Parts way berth is free) tells coded agrees e = not_so _
    (parted_ends (first_train (next_number here way) (of_way pair.lines way)) here way berth.place
    (next_number here way) (of_way pair.lines way)) e
not_yet_missed plan box_plan act here d pair (Clears way free) tells coded agrees e = not_so _
    (cleared_ends (first_train (next_number here way) (of_way pair.lines way)) here way (next_number here way)
    (of_way pair.lines way)) e
not_yet_missed plan box_plan act here d pair (Winds way free) tells coded agrees e = absurd cc
not_yet_missed plan box_plan act here d pair (Releases way free) tells coded agrees e = absurd cc
