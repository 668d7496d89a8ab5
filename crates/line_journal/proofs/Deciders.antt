-- The first entry of a kind that remains of a box decides for all of them whether they keep an entry back.
use Rattle.std.proofs.Common.{ℕ, zero, suc, ◌+◌, ◌-◌, ◌*◌, ◌==◌, ◌&&◌, ◌≡◌, ◌≢◌, ◌<◌, ◌≤◌}
use Rattle.std.proofs.Common.{◌⊎◌, inl, inr, ⊎_elim, List, [], ◌∷◌, ◌++◌, Option, Some, Bool, true}
use Rattle.std.proofs.Common.{false, IsTrue, lt-ltb, length, refl, sym, ap, subst, ◌∙◌, arith}
use Rattle.std.specs.Prelude.{nat_lt}
use Rattle.std.proofs.lemmas.Bool.{eq-eqb, eqb-true, ltb-true, ltb-false}
use Rattle.std.proofs.lemmas.Bool.Decides.{eqb_tells}
use Rattle.block_words.specs.declared.Way.{Way}
use Rattle.block_words.specs.declared.Way.TheVariants.{Up, Down}
use Rattle.line_plan.specs.Plans.{IsPlan, PlanFields}
use Rattle.line_plan.specs.Sections.{IsSection, next_box}
use Rattle.line_plan.specs.declared.section.Section.{Section}
use Rattle.line_law.specs.declared.call.Entry.{Entry}
use Rattle.line_law.specs.declared.call.Reply.{Reply}
use Rattle.line_law.specs.declared.call.Reply.TheVariants.{Rung, BellBusy, Heard, Silent}
use Rattle.line_law.specs.declared.call.Reply.TheVariants.{BellNotYet, Turned, Seen, BlockNotYet}
use Rattle.line_law.specs.declared.call.Reply.TheVariants.{PulledUnder, HeldByInstrument, Entered, SectionFull}
use Rattle.line_law.specs.declared.call.Reply.TheVariants.{TrainNotYet, Berthed, NoTrainAt, Cleared}
use Rattle.line_law.specs.declared.link.Link.{Link}
use Rattle.line_law.specs.declared.link.Link.TheVariants.{Out, In}
use Rattle.line_law.specs.declared.state.Passage.{Passage}
use Rattle.word_laws.specs.Footprint.{Kind, Tally, BellWord, BlockWord, PlainLineWord, kind_at, way_at}
use Rattle.line_law.specs.History.{IsLegal, after_entry, part_of, state_of}
use Rattle.line_law.specs.Known.{KnowsCall}
use Rattle.line_law.specs.Law.{link_of, box_plan_of, step}
use Rattle.line_law.specs.Lines.{AreNumbered, IsSectionIn}
use Rattle.line_law.specs.Links.{pair_no, way_of}
use Rattle.line_law.specs.Replies.{way_number}
use Rattle.line_law.specs.SectionFacts.{HasLink}
use Rattle.line_law.specs.States.{IsStateOf, LineState, box_at, opening_state, pair_at}
use Rattle.word_laws.specs.TellsWord.{IsInReply, IsOutReply, IsReplyAt, NeverFalls, count_before, count_met, kind_told}
use Rattle.line_law.specs.Trains.{holds}
use Rattle.line_law.specs.Ways.{of_way}
use Rattle.line_law.proofs.Histories.{history_states, legal_then, prefix_legal, state_grows}
use Rattle.line_law.proofs.KeepingLaws.{history_keeps}
use Rattle.word_laws.proofs.Rises.{call_never_falls}
use Rattle.word_laws.proofs.TellsCount.{count_is_told}
use Rattle.word_laws.proofs.TellsKind.{kind_is_told}
use Rattle.line_journal.specs.Fits.{FitsPlainLine, FitsWord}
use Rattle.line_journal.specs.Keepers.{LetsPass, first_keeper, keeper_no, keeper_slot, kept_by, kept_slot}
use Rattle.line_journal.specs.Order.{Each, keeps_back, kept_back, same_kind}
use Rattle.line_journal.specs.Halves.{Fits, Stands, pair_for}
use Rattle.line_journal.proofs.PairMoves.{OppositeEnds, OutIn, InOut, opposite_ends}
use Rattle.line_journal.proofs.Exchange.{part_other, part_own}
use Rattle.line_journal.proofs.Legal.{fits_in}
use Rattle.line_journal.proofs.LineSettled.{append_one, empty_line, gone, is_same, next_is}
use Rattle.line_journal.proofs.Settled.{keeping, one_kind}

-- ---- by the count that a reply tells

-- an entry is kept back by one of its kind that tells such a count
abbrev Test : Reply → ℕ → Type 0
Test (Rung k) n = n + 1 ≡ k
Test (Heard code k) n = n ≡ k
Test (Turned v) n = n < v
Test (Entered train k) n = n + 1 ≡ k
Test (Berthed train j) n = n ≡ j + 3
Test (Cleared train j) n = n ≡ j + 3
Test reply n = ⊥

-- trains are numbered from 1
abbrev IsCounted : Reply → Type 0
IsCounted (NoTrainAt j) = 0 < j
IsCounted (TrainNotYet j) = 0 < j
IsCounted reply = Unit {0}

rung_told : (k : ℕ) (q : Reply) → IsCounted q → kept_back (Rung k) q ≡ true
    → (keeper_no q ≡ kept_by (Rung k)) × Test (Rung k) (count_before q)
rung_told k (Silent n) at kept = (refl, omega (arith, eqb-true (n + 1) k kept))
rung_told k (BellNotYet shown n) at kept = (refl, omega (arith, eqb-true (n + 1) k kept))
rung_told k q at kept = absurd cc

rung_kept : (k : ℕ) (q : Reply) → IsCounted q → keeper_no q ≡ kept_by (Rung k) → Test (Rung k) (count_before q)
    → kept_back (Rung k) q ≡ true
rung_kept k (Silent n) at is test = eq-eqb (n + 1) k test
rung_kept k (BellNotYet shown n) at is test = eq-eqb (n + 1) k test
rung_kept k (BellBusy held n) at is test = absurd (omega (arith, is))
rung_kept k (PulledUnder n) at is test = absurd (omega (arith, is))
rung_kept k (HeldByInstrument way shown spent n) at is test = absurd (omega (arith, is))
rung_kept k (Seen n) at is test = absurd (omega (arith, is))
rung_kept k (BlockNotYet shown n) at is test = absurd (omega (arith, is))
rung_kept k (SectionFull n) at is test = absurd (omega (arith, is))
rung_kept k (NoTrainAt n) at is test = absurd (omega (arith, is))
rung_kept k (TrainNotYet n) at is test = absurd (omega (arith, is))
rung_kept k q at is test = absurd (omega (arith, is))

heard_told : (k : ℕ) (code : ℕ) (q : Reply) → IsCounted q → kept_back (Heard code k) q ≡ true
    → (keeper_no q ≡ kept_by (Heard code k)) × Test (Heard code k) (count_before q)
heard_told k code (BellBusy held n) at kept = (refl, eqb-true n k kept)
heard_told k code q at kept = absurd cc

heard_kept : (k : ℕ) (code : ℕ) (q : Reply) → IsCounted q → keeper_no q ≡ kept_by (Heard code k)
    → Test (Heard code k) (count_before q) → kept_back (Heard code k) q ≡ true
heard_kept k code (BellBusy held n) at is test = eq-eqb n k test
heard_kept k code (Silent n) at is test = absurd (omega (arith, is))
heard_kept k code (BellNotYet shown n) at is test = absurd (omega (arith, is))
heard_kept k code (PulledUnder n) at is test = absurd (omega (arith, is))
heard_kept k code (HeldByInstrument way shown spent n) at is test = absurd (omega (arith, is))
heard_kept k code (Seen n) at is test = absurd (omega (arith, is))
heard_kept k code (BlockNotYet shown n) at is test = absurd (omega (arith, is))
heard_kept k code (SectionFull n) at is test = absurd (omega (arith, is))
heard_kept k code (NoTrainAt n) at is test = absurd (omega (arith, is))
heard_kept k code (TrainNotYet n) at is test = absurd (omega (arith, is))
heard_kept k code q at is test = absurd (omega (arith, is))

turned_told : (v : ℕ) (q : Reply) → IsCounted q → kept_back (Turned v) q ≡ true
    → (keeper_no q ≡ kept_by (Turned v)) × Test (Turned v) (count_before q)
turned_told v (PulledUnder n) at kept = (refl, ltb-true n v kept)
turned_told v (HeldByInstrument way shown spent n) at kept = (refl, ltb-true n v kept)
turned_told v (Seen n) at kept = (refl, ltb-true n v kept)
turned_told v (BlockNotYet shown n) at kept = (refl, ltb-true n v kept)
turned_told v q at kept = absurd cc

turned_kept : (v : ℕ) (q : Reply) → IsCounted q → keeper_no q ≡ kept_by (Turned v) → Test (Turned v) (count_before q)
    → kept_back (Turned v) q ≡ true
turned_kept v (PulledUnder n) at is test = lt-ltb n v test
turned_kept v (HeldByInstrument way shown spent n) at is test = lt-ltb n v test
turned_kept v (Seen n) at is test = lt-ltb n v test
turned_kept v (BlockNotYet shown n) at is test = lt-ltb n v test
turned_kept v (BellBusy held n) at is test = absurd (omega (arith, is))
turned_kept v (Silent n) at is test = absurd (omega (arith, is))
turned_kept v (BellNotYet shown n) at is test = absurd (omega (arith, is))
turned_kept v (SectionFull n) at is test = absurd (omega (arith, is))
turned_kept v (NoTrainAt n) at is test = absurd (omega (arith, is))
turned_kept v (TrainNotYet n) at is test = absurd (omega (arith, is))
turned_kept v q at is test = absurd (omega (arith, is))

entered_told : (k : ℕ) (train : ℕ) (q : Reply) → IsCounted q → kept_back (Entered train k) q ≡ true
    → (keeper_no q ≡ kept_by (Entered train k)) × Test (Entered train k) (count_before q)
entered_told k train (NoTrainAt j) at kept = (refl, let e = eqb-true j k kept in omega (arith, e, at))
entered_told k train (TrainNotYet j) at kept = (refl, let e = eqb-true j k kept in omega (arith, e, at))
entered_told k train q at kept = absurd cc

entered_kept : (k : ℕ) (train : ℕ) (q : Reply) → IsCounted q → keeper_no q ≡ kept_by (Entered train k)
    → Test (Entered train k) (count_before q) → kept_back (Entered train k) q ≡ true
entered_kept k train (NoTrainAt j) at is test = eq-eqb j k (omega (arith, test, at))
entered_kept k train (TrainNotYet j) at is test = eq-eqb j k (omega (arith, test, at))
entered_kept k train (BellBusy held n) at is test = absurd (omega (arith, is))
entered_kept k train (Silent n) at is test = absurd (omega (arith, is))
entered_kept k train (BellNotYet shown n) at is test = absurd (omega (arith, is))
entered_kept k train (PulledUnder n) at is test = absurd (omega (arith, is))
entered_kept k train (HeldByInstrument way shown spent n) at is test = absurd (omega (arith, is))
entered_kept k train (Seen n) at is test = absurd (omega (arith, is))
entered_kept k train (BlockNotYet shown n) at is test = absurd (omega (arith, is))
entered_kept k train (SectionFull n) at is test = absurd (omega (arith, is))
entered_kept k train q at is test = absurd (omega (arith, is))

berthed_told : (j : ℕ) (train : ℕ) (q : Reply) → IsCounted q → kept_back (Berthed train j) q ≡ true
    → (keeper_no q ≡ kept_by (Berthed train j)) × Test (Berthed train j) (count_before q)
berthed_told j train (SectionFull k) at kept = (refl, let e = eqb-true k (j + 4) kept in omega (arith, e))
berthed_told j train q at kept = absurd cc

berthed_kept : (j : ℕ) (train : ℕ) (q : Reply) → IsCounted q → keeper_no q ≡ kept_by (Berthed train j)
    → Test (Berthed train j) (count_before q) → kept_back (Berthed train j) q ≡ true
berthed_kept j train (SectionFull k) at is test = eq-eqb k (j + 4) (omega (arith, test))
berthed_kept j train (BellBusy held n) at is test = absurd (omega (arith, is))
berthed_kept j train (Silent n) at is test = absurd (omega (arith, is))
berthed_kept j train (BellNotYet shown n) at is test = absurd (omega (arith, is))
berthed_kept j train (PulledUnder n) at is test = absurd (omega (arith, is))
berthed_kept j train (HeldByInstrument way shown spent n) at is test = absurd (omega (arith, is))
berthed_kept j train (Seen n) at is test = absurd (omega (arith, is))
berthed_kept j train (BlockNotYet shown n) at is test = absurd (omega (arith, is))
berthed_kept j train (NoTrainAt n) at is test = absurd (omega (arith, is))
berthed_kept j train (TrainNotYet n) at is test = absurd (omega (arith, is))
berthed_kept j train q at is test = absurd (omega (arith, is))

cleared_told : (j : ℕ) (train : ℕ) (q : Reply) → IsCounted q → kept_back (Cleared train j) q ≡ true
    → (keeper_no q ≡ kept_by (Cleared train j)) × Test (Cleared train j) (count_before q)
cleared_told j train (SectionFull k) at kept = (refl, let e = eqb-true k (j + 4) kept in omega (arith, e))
cleared_told j train q at kept = absurd cc

cleared_kept : (j : ℕ) (train : ℕ) (q : Reply) → IsCounted q → keeper_no q ≡ kept_by (Cleared train j)
    → Test (Cleared train j) (count_before q) → kept_back (Cleared train j) q ≡ true
cleared_kept j train (SectionFull k) at is test = eq-eqb k (j + 4) (omega (arith, test))
cleared_kept j train (BellBusy held n) at is test = absurd (omega (arith, is))
cleared_kept j train (Silent n) at is test = absurd (omega (arith, is))
cleared_kept j train (BellNotYet shown n) at is test = absurd (omega (arith, is))
cleared_kept j train (PulledUnder n) at is test = absurd (omega (arith, is))
cleared_kept j train (HeldByInstrument way shown spent n) at is test = absurd (omega (arith, is))
cleared_kept j train (Seen n) at is test = absurd (omega (arith, is))
cleared_kept j train (BlockNotYet shown n) at is test = absurd (omega (arith, is))
cleared_kept j train (NoTrainAt n) at is test = absurd (omega (arith, is))
cleared_kept j train (TrainNotYet n) at is test = absurd (omega (arith, is))
cleared_kept j train q at is test = absurd (omega (arith, is))

kept_told : (r q : Reply) → IsCounted q → kept_back r q ≡ true → (keeper_no q ≡ kept_by r) × Test r (count_before q)
kept_told (Rung k) q at kept = rung_told k q at kept
kept_told (Heard code k) q at kept = heard_told k code q at kept
kept_told (Turned v) q at kept = turned_told v q at kept
kept_told (Entered train k) q at kept = entered_told k train q at kept
kept_told (Berthed train j) q at kept = berthed_told j train q at kept
kept_told (Cleared train j) q at kept = cleared_told j train q at kept
kept_told r q at kept = absurd cc

test_kept : (r q : Reply) → IsCounted q → keeper_no q ≡ kept_by r → Test r (count_before q) → kept_back r q ≡ true
test_kept (Rung k) q at is test = rung_kept k q at is test
test_kept (Heard code k) q at is test = heard_kept k code q at is test
test_kept (Turned v) q at is test = turned_kept v q at is test
test_kept (Entered train k) q at is test = entered_kept k train q at is test
test_kept (Berthed train j) q at is test = berthed_kept j train q at is test
test_kept (Cleared train j) q at is test = cleared_kept j train q at is test
test_kept r q at is test = absurd test

-- where the law gives the first reply, a later one of the kind tells so much at least
abbrev Enough : Reply → ℕ → Type 0
Enough (Rung k) n = k ≤ n + 1
Enough (Heard code k) n = k ≤ n
Enough (Entered train k) n = k ≤ n + 1
Enough (Berthed train j) n = j + 3 ≤ n
Enough (Cleared train j) n = j + 3 ≤ n
Enough reply n = Unit {0}

lower_test : (r : Reply) (low high : ℕ) → Test r high → low ≤ high → Enough r low → Test r low
lower_test (Rung k) low high test le enough = omega (arith, test, le, enough)
lower_test (Heard code k) low high test le enough = omega (arith, test, le, enough)
lower_test (Turned v) low high test le enough = omega (arith, test, le)
lower_test (Entered train k) low high test le enough = omega (arith, test, le, enough)
lower_test (Berthed train j) low high test le enough = omega (arith, test, le, enough)
lower_test (Cleared train j) low high test le enough = omega (arith, test, le, enough)
lower_test r low high test le enough = absurd test

-- ---- what a keeper's number tells of it

is_counted : (l : Link) (q : Reply) → IsReplyAt l q → IsCounted q
is_counted (Out way) (NoTrainAt j) at = absurd at
is_counted (Out way) (TrainNotYet j) at = absurd at
is_counted (In way) (NoTrainAt j) at = at
is_counted (In way) (TrainNotYet j) at = at
is_counted l q at = tt

kind_1 : (r : Reply) → 1 ≡ kept_by r → BellWord ≡ kind_told r
kind_1 (Rung k) is = absurd (omega (arith, is))
kind_1 (Heard code k) is = refl
kind_1 (Turned v) is = absurd (omega (arith, is))
kind_1 (Entered train k) is = absurd (omega (arith, is))
kind_1 (Berthed train j) is = absurd (omega (arith, is))
kind_1 (Cleared train j) is = absurd (omega (arith, is))
kind_1 r is = absurd (omega (arith, is))

kind_2 : (r : Reply) → 2 ≡ kept_by r → BellWord ≡ kind_told r
kind_2 (Rung k) is = refl
kind_2 (Heard code k) is = absurd (omega (arith, is))
kind_2 (Turned v) is = absurd (omega (arith, is))
kind_2 (Entered train k) is = absurd (omega (arith, is))
kind_2 (Berthed train j) is = absurd (omega (arith, is))
kind_2 (Cleared train j) is = absurd (omega (arith, is))
kind_2 r is = absurd (omega (arith, is))

kind_3 : (r : Reply) → 3 ≡ kept_by r → BlockWord ≡ kind_told r
kind_3 (Rung k) is = absurd (omega (arith, is))
kind_3 (Heard code k) is = absurd (omega (arith, is))
kind_3 (Turned v) is = refl
kind_3 (Entered train k) is = absurd (omega (arith, is))
kind_3 (Berthed train j) is = absurd (omega (arith, is))
kind_3 (Cleared train j) is = absurd (omega (arith, is))
kind_3 r is = absurd (omega (arith, is))

kind_4 : (r : Reply) → 4 ≡ kept_by r → PlainLineWord ≡ kind_told r
kind_4 (Rung k) is = absurd (omega (arith, is))
kind_4 (Heard code k) is = absurd (omega (arith, is))
kind_4 (Turned v) is = absurd (omega (arith, is))
kind_4 (Entered train k) is = absurd (omega (arith, is))
kind_4 (Berthed train j) is = refl
kind_4 (Cleared train j) is = refl
kind_4 r is = absurd (omega (arith, is))

kind_5 : (r : Reply) → 5 ≡ kept_by r → PlainLineWord ≡ kind_told r
kind_5 (Rung k) is = absurd (omega (arith, is))
kind_5 (Heard code k) is = absurd (omega (arith, is))
kind_5 (Turned v) is = absurd (omega (arith, is))
kind_5 (Entered train k) is = refl
kind_5 (Berthed train j) is = absurd (omega (arith, is))
kind_5 (Cleared train j) is = absurd (omega (arith, is))
kind_5 r is = absurd (omega (arith, is))

-- a keeper is of the kind of word of what it may keep back
keeper_kind : (q r : Reply) → keeper_no q ≡ kept_by r → 0 < keeper_no q → kind_told q ≡ kind_told r
keeper_kind (BellBusy held n) r is some = kind_1 r is
keeper_kind (Silent n) r is some = kind_2 r is
keeper_kind (BellNotYet shown n) r is some = kind_2 r is
keeper_kind (PulledUnder n) r is some = kind_3 r is
keeper_kind (HeldByInstrument way shown spent n) r is some = kind_3 r is
keeper_kind (Seen n) r is some = kind_3 r is
keeper_kind (BlockNotYet shown n) r is some = kind_3 r is
keeper_kind (SectionFull n) r is some = kind_4 r is
keeper_kind (NoTrainAt n) r is some = kind_5 r is
keeper_kind (TrainNotYet n) r is some = kind_5 r is
keeper_kind q r is some = absurd (omega (arith, some))

tests_some : (r : Reply) (n : ℕ) → Test r n → 0 < kept_by r
tests_some (Rung k) n test = omega arith
tests_some (Heard code k) n test = omega arith
tests_some (Turned v) n test = omega arith
tests_some (Entered train k) n test = omega arith
tests_some (Berthed train j) n test = omega arith
tests_some (Cleared train j) n test = omega arith
tests_some r n test = absurd test

in_not_1 : (q : Reply) → IsInReply q → 1 ≡ keeper_no q → ⊥
in_not_1 (BellBusy held n) at is = at
in_not_1 (Silent n) at is = omega (arith, is)
in_not_1 (BellNotYet shown n) at is = omega (arith, is)
in_not_1 (PulledUnder n) at is = at
in_not_1 (HeldByInstrument way shown spent n) at is = at
in_not_1 (Seen n) at is = at
in_not_1 (BlockNotYet shown n) at is = at
in_not_1 (SectionFull n) at is = at
in_not_1 (NoTrainAt n) at is = omega (arith, is)
in_not_1 (TrainNotYet n) at is = omega (arith, is)
in_not_1 q at is = omega (arith, is)

in_not_3 : (q : Reply) → IsInReply q → 3 ≡ keeper_no q → ⊥
in_not_3 (BellBusy held n) at is = at
in_not_3 (Silent n) at is = omega (arith, is)
in_not_3 (BellNotYet shown n) at is = omega (arith, is)
in_not_3 (PulledUnder n) at is = at
in_not_3 (HeldByInstrument way shown spent n) at is = at
in_not_3 (Seen n) at is = at
in_not_3 (BlockNotYet shown n) at is = at
in_not_3 (SectionFull n) at is = at
in_not_3 (NoTrainAt n) at is = omega (arith, is)
in_not_3 (TrainNotYet n) at is = omega (arith, is)
in_not_3 q at is = omega (arith, is)

in_not_4 : (q : Reply) → IsInReply q → 4 ≡ keeper_no q → ⊥
in_not_4 (BellBusy held n) at is = at
in_not_4 (Silent n) at is = omega (arith, is)
in_not_4 (BellNotYet shown n) at is = omega (arith, is)
in_not_4 (PulledUnder n) at is = at
in_not_4 (HeldByInstrument way shown spent n) at is = at
in_not_4 (Seen n) at is = at
in_not_4 (BlockNotYet shown n) at is = at
in_not_4 (SectionFull n) at is = at
in_not_4 (NoTrainAt n) at is = omega (arith, is)
in_not_4 (TrainNotYet n) at is = omega (arith, is)
in_not_4 q at is = omega (arith, is)

-- keepers of one kind are at one end
one_end : (q p : Reply) → IsOutReply q → IsInReply p → keeper_no q ≡ keeper_no p → 0 < keeper_no q → ⊥
one_end (BellBusy held n) p out at is some = in_not_1 p at is
one_end (Silent n) p out at is some = out
one_end (BellNotYet shown n) p out at is some = out
one_end (PulledUnder n) p out at is some = in_not_3 p at is
one_end (HeldByInstrument way shown spent n) p out at is some = in_not_3 p at is
one_end (Seen n) p out at is some = in_not_3 p at is
one_end (BlockNotYet shown n) p out at is some = in_not_3 p at is
one_end (SectionFull n) p out at is some = in_not_4 p at is
one_end (NoTrainAt n) p out at is some = out
one_end (TrainNotYet n) p out at is some = out
one_end q p out at is some = omega (arith, some)

same_end : (l m : Link) (q p : Reply) → IsReplyAt l q → IsReplyAt m p → keeper_no q ≡ keeper_no p → 0 < keeper_no q
    → way_of l ≡ way_of m → l ≡ m
same_end (Out v) (Out u) q p at there is some e = ap (λ (w : Way). Out w) e
same_end (Out v) (In u) q p at there is some e = absurd (one_end q p at there is some)
same_end (In v) (Out u) q p at there is some e =
    let other : 0 < keeper_no p = omega (arith, is, some) in absurd (one_end p q there at (sym is) other)
same_end (In v) (In u) q p at there is some e = ap (λ (w : Way). In w) e

-- a number of keepers tells the kind and the way
pub slot_parts : (a b : ℕ) (v u : Way) → 2 * a + way_number v ≡ 2 * b + way_number u → (a ≡ b) × (v ≡ u)
slot_parts a b Up Up e = (omega (arith, e), refl)
slot_parts a b Up Down e = absurd (omega (arith, e))
slot_parts a b Down Up e = absurd (omega (arith, e))
slot_parts a b Down Down e = (omega (arith, e), refl)

-- ---- counts along a history

abbrev link_in : PlanFields → Entry → Link
link_in plan e = link_of (box_plan_of plan e.box_no) e.call.act

-- the count that goes with a word of this kind, at box b on this line
abbrev counted : Kind → Link → ℕ → LineState → ℕ
counted k l b t = count_met k l (box_at t b) (pair_at t (pair_no b l))

told_count : (plan : PlanFields) (t : LineState) (x : Entry) → IsPlan plan → IsStateOf plan t
    → KnowsCall plan x.box_no x.call → x.reply ≡ (step plan t x.box_no x.call).reply
    → count_before x.reply ≡ counted (kind_told x.reply) (link_in plan x) x.box_no t
told_count plan t x is are known told =
    let kind : kind_at plan t x.box_no x.call ≡ kind_told x.reply =
    sym (kind_is_told plan t x.box_no x.call) ∙ ap kind_told (sym told) in
    ap count_before told ∙ (count_is_told plan t x.box_no x.call is are known).before
    ∙ ap (λ (k : Kind). counted k (link_in plan x) x.box_no t) kind

counts_rise : (k : Kind) (l : Link) (b : ℕ) (s t : LineState) → NeverFalls s t → counted k l b s ≤ counted k l b t
counts_rise Tally l b s t falls = omega arith
counts_rise BellWord l b s t falls = falls.rung (pair_no b l) (way_of l)
counts_rise BlockWord l b s t falls = falls.turns (pair_no b l) (way_of l)
counts_rise PlainLineWord (Out way) b s t falls = falls.sent b way
counts_rise PlainLineWord (In way) b s t falls = falls.taken b way

falls_on : (r s t : LineState) → NeverFalls r s → NeverFalls s t → NeverFalls r t
falls_on r s t f g =
    record {
      rung = λ p way. let a = f.rung p way in let b = g.rung p way in omega (arith, a, b);
      turns = λ p way. let a = f.turns p way in let b = g.turns p way in omega (arith, a, b);
      sent = λ p way. let a = f.sent p way in let b = g.sent p way in omega (arith, a, b);
      taken = λ p way. let a = f.taken p way in let b = g.taken p way in omega (arith, a, b);
    }

falls_self : (s : LineState) → NeverFalls s s
falls_self s =
    record {
      rung = λ p way. omega arith;
      turns = λ p way. omega arith;
      sent = λ p way. omega arith;
      taken = λ p way. omega arith;
    }

-- ---- a keeper tells enough

enough_bell : (r : Reply) (n : ℕ) → kind_told r ≡ BellWord → count_before r ≤ n → Enough r n
enough_bell (Rung k) n kind h = omega (arith, h)
enough_bell (Heard code k) n kind h = h
enough_bell (Entered train k) n kind h = cc
enough_bell (Berthed train j) n kind h = cc
enough_bell (Cleared train j) n kind h = cc
enough_bell r n kind h = tt

enough_block : (r : Reply) (n : ℕ) → kind_told r ≡ BlockWord → Enough r n
enough_block (Rung k) n kind = cc
enough_block (Heard code k) n kind = cc
enough_block (Entered train k) n kind = cc
enough_block (Berthed train j) n kind = cc
enough_block (Cleared train j) n kind = cc
enough_block r n kind = tt

enough_tally : (r : Reply) (n : ℕ) → kind_told r ≡ Tally → Enough r n
enough_tally (Rung k) n kind = cc
enough_tally (Heard code k) n kind = cc
enough_tally (Entered train k) n kind = cc
enough_tally (Berthed train j) n kind = cc
enough_tally (Cleared train j) n kind = cc
enough_tally r n kind = tt

or_above : (a b : ℕ) (is : Bool) → nat_lt a b ≡ is → (a < b) ⊎ (b ≤ a)
or_above a b true e = inl (ltb-true a b e)
or_above a b false e = let h = ltb-false a b e in inr (omega (arith, h))

-- a train on the line wasn't taken
held_above : (taken sent k : ℕ) (line : List Passage) → AreNumbered taken sent line → holds line k ≡ true
    → taken < k - 4
held_above taken sent k line n full =
    ⊎_elim (λ (h : taken < k - 4). h) (λ (h : k - 4 ≤ taken). absurd (gone taken sent k line n h full))
    (or_above taken (k - 4) (nat_lt taken (k - 4)) refl)

entered_enough : (k : ℕ) (q : Reply) (taken sent : ℕ) (line : List Passage) → IsInReply q → keeper_no q ≡ 5
    → k - 1 ≤ sent → count_before q ≡ taken → FitsPlainLine q line → AreNumbered taken sent line
    → k ≤ count_before q + 1
entered_enough k (NoTrainAt j) taken sent line at is low told fits n =
    let all = empty_line taken sent j line n (omega (arith, told, at)) fits in omega (arith, all, low, told)
entered_enough k (TrainNotYet j) taken sent line at is low told fits n =
    let all = empty_line taken sent j line n (omega (arith, told, at)) fits in omega (arith, all, low, told)
entered_enough k (BellBusy held m) taken sent line at is low told fits n = absurd (omega (arith, is))
entered_enough k (Silent m) taken sent line at is low told fits n = absurd (omega (arith, is))
entered_enough k (BellNotYet shown m) taken sent line at is low told fits n = absurd (omega (arith, is))
entered_enough k (PulledUnder m) taken sent line at is low told fits n = absurd (omega (arith, is))
entered_enough k (HeldByInstrument way shown spent m) taken sent line at is low told fits n = absurd (omega (arith, is))
entered_enough k (Seen m) taken sent line at is low told fits n = absurd (omega (arith, is))
entered_enough k (BlockNotYet shown m) taken sent line at is low told fits n = absurd (omega (arith, is))
entered_enough k (SectionFull m) taken sent line at is low told fits n = absurd (omega (arith, is))
entered_enough k q taken sent line at is low told fits n = absurd (omega (arith, is))

full_enough : (j : ℕ) (q : Reply) (taken sent : ℕ) (line : List Passage) → keeper_no q ≡ 4 → j - 1 ≤ taken → 0 < j
    → FitsPlainLine q line → AreNumbered taken sent line → j + 3 ≤ count_before q
full_enough j (SectionFull k) taken sent line is low pos fits n =
    let above = held_above taken sent k line n fits in omega (arith, above, low, pos)
full_enough j (BellBusy held m) taken sent line is low pos fits n = absurd (omega (arith, is))
full_enough j (Silent m) taken sent line is low pos fits n = absurd (omega (arith, is))
full_enough j (BellNotYet shown m) taken sent line is low pos fits n = absurd (omega (arith, is))
full_enough j (PulledUnder m) taken sent line is low pos fits n = absurd (omega (arith, is))
full_enough j (HeldByInstrument way shown spent m) taken sent line is low pos fits n = absurd (omega (arith, is))
full_enough j (Seen m) taken sent line is low pos fits n = absurd (omega (arith, is))
full_enough j (BlockNotYet shown m) taken sent line is low pos fits n = absurd (omega (arith, is))
full_enough j (NoTrainAt m) taken sent line is low pos fits n = absurd (omega (arith, is))
full_enough j (TrainNotYet m) taken sent line is low pos fits n = absurd (omega (arith, is))
full_enough j q taken sent line is low pos fits n = absurd (omega (arith, is))

out_enough : (r q : Reply) (taken sent : ℕ) (line : List Passage) → IsOutReply r → IsInReply q
    → kind_told r ≡ PlainLineWord → keeper_no q ≡ kept_by r → count_before r ≤ sent → count_before q ≡ taken
    → FitsPlainLine q line → AreNumbered taken sent line → Enough r (count_before q)
out_enough (Entered train k) q taken sent line out at kind is low told fits n =
    entered_enough k q taken sent line at is low told fits n
out_enough (Berthed train j) q taken sent line out at kind is low told fits n = absurd out
out_enough (Cleared train j) q taken sent line out at kind is low told fits n = absurd out
out_enough (Rung k) q taken sent line out at kind is low told fits n = cc
out_enough (Heard code k) q taken sent line out at kind is low told fits n = cc
out_enough r q taken sent line out at kind is low told fits n = tt

in_enough : (r q : Reply) (taken sent : ℕ) (line : List Passage) → IsInReply r → kind_told r ≡ PlainLineWord
    → keeper_no q ≡ kept_by r → count_before r ≤ taken → FitsPlainLine q line → AreNumbered taken sent line
    → Enough r (count_before q)
in_enough (Berthed train j) q taken sent line at kind is low fits n = full_enough j q taken sent line is low at fits n
in_enough (Cleared train j) q taken sent line at kind is low fits n = full_enough j q taken sent line is low at fits n
in_enough (Entered train k) q taken sent line at kind is low fits n = absurd at
in_enough (Rung k) q taken sent line at kind is low fits n = cc
in_enough (Heard code k) q taken sent line at kind is low fits n = cc
in_enough r q taken sent line at kind is low fits n = tt

line_enough : (plan : PlanFields) (t : LineState) (b c : ℕ) (l m : Link) (r q : Reply) → OppositeEnds l m
    → HasLink (length plan.boxes) b l → HasLink (length plan.boxes) c m → pair_no b l ≡ pair_no c m → IsReplyAt l r
    → IsReplyAt m q → kind_told r ≡ PlainLineWord → keeper_no q ≡ kept_by r
    → count_before r ≤ counted PlainLineWord l b t → count_before q ≡ counted PlainLineWord m c t
    → FitsPlainLine q (of_way (pair_at t (pair_no c m)).lines (way_of m))
    → ((section : Section) → IsSection plan section → IsSectionIn t section) → Enough r (count_before q)
line_enough plan t b c l m r q (OutIn way) has there pair out at kind is low told fits sections =
    let section : Section = record { rear = b; way = way } in
    let one = next_is (length plan.boxes) b c way has there pair in
    let L : ℕ → ℕ → Type 0 =
    λ d p. AreNumbered (of_way (box_at t d).incoming way).taken (of_way (box_at t b).sent way)
    (of_way (pair_at t p).lines way) in
    let n : L c (pair_no c (In way)) =
    subst (λ (d : ℕ). L d (pair_no c (In way))) one (subst (λ (p : ℕ). L (next_box b way) p) pair
    (sections section has).numbered) in
    out_enough r q (of_way (box_at t c).incoming way).taken (of_way (box_at t b).sent way)
    (of_way (pair_at t (pair_no c (In way))).lines way) out at kind is low told fits n
line_enough plan t b c l m r q (InOut way) has there pair at out kind is low told fits sections =
    let section : Section = record { rear = c; way = way } in
    let one = next_is (length plan.boxes) c b way there has (sym pair) in
    let L : ℕ → Type 0 =
    λ d. AreNumbered (of_way (box_at t d).incoming way).taken (of_way (box_at t c).sent way)
    (of_way (pair_at t (pair_no c (Out way))).lines way) in
    in_enough r q (of_way (box_at t b).incoming way).taken (of_way (box_at t c).sent way)
    (of_way (pair_at t (pair_no c (Out way))).lines way) at kind is low fits
    (subst L one (sections section there).numbered)

-- the state at an entry, and what holds there
record Stage (plan : PlanFields) (t : LineState) (x : Entry) : Type 0 where
  are : IsStateOf plan t
  stands : Stands plan x
  told : x.reply ≡ (step plan t x.box_no x.call).reply
  sections : (section : Section) → IsSection plan section → IsSectionIn t section

bell_enough : (plan : PlanFields) (s t : LineState) (e x : Entry) → IsPlan plan → Stage plan s e → Stage plan t x
    → NeverFalls s t → kind_told e.reply ≡ BellWord → kind_told x.reply ≡ kind_told e.reply
    → pair_for plan e ≡ pair_for plan x → way_at plan e.box_no e.call ≡ way_at plan x.box_no x.call
    → Enough e.reply (count_before x.reply)
bell_enough plan s t e x is se sx falls kind kinds pair way =
    let low : count_before e.reply ≡ (of_way (pair_at s (pair_for plan e)).bells (way_at plan e.box_no e.call)).count =
    told_count plan s e is se.are se.stands.known se.told ∙ ap (λ (k : Kind). counted k (link_in plan e) e.box_no s)
    kind in
    let high : count_before x.reply ≡ (of_way (pair_at t (pair_for plan x)).bells (way_at plan x.box_no x.call)).count =
    told_count plan t x is sx.are sx.stands.known sx.told ∙ ap (λ (k : Kind). counted k (link_in plan x) x.box_no t)
    (kinds ∙ kind) in
    let same : (of_way (pair_at t (pair_for plan x)).bells (way_at plan x.box_no x.call)).count
    ≡ (of_way (pair_at t (pair_for plan e)).bells (way_at plan e.box_no e.call)).count =
    ap (λ (p : ℕ). (of_way (pair_at t p).bells (way_at plan x.box_no x.call)).count) (sym pair)
    ∙ ap (λ (v : Way). (of_way (pair_at t (pair_for plan e)).bells v).count) (sym way) in
    let rise = falls.rung (pair_for plan e) (way_at plan e.box_no e.call) in
    enough_bell e.reply (count_before x.reply) kind (omega (arith, low, high, same, rise))

line_fits : (plan : PlanFields) (t : LineState) (x : Entry) → kind_told x.reply ≡ PlainLineWord → Fits plan t.pairs x
    → FitsPlainLine x.reply (of_way (pair_at t (pair_for plan x)).lines (way_at plan x.box_no x.call))
line_fits plan t x kind fits =
    subst (λ (k : Kind). FitsWord k (way_at plan x.box_no x.call) x.call.act x.reply (pair_at t (pair_for plan x))) kind
    fits

enough_by : (plan : PlanFields) (s t : LineState) (e x : Entry) (k : Kind) → kind_told e.reply ≡ k → IsPlan plan
    → Stage plan s e → Stage plan t x → NeverFalls s t → e.box_no ≢ x.box_no → kind_told x.reply ≡ kind_told e.reply
    → pair_for plan e ≡ pair_for plan x → way_at plan e.box_no e.call ≡ way_at plan x.box_no x.call
    → keeper_no x.reply ≡ kept_by e.reply
    → Enough e.reply (count_before x.reply)
enough_by plan s t e x Tally kind is se sx falls ne kinds pair way no_is =
    enough_tally e.reply (count_before x.reply) kind
enough_by plan s t e x BellWord kind is se sx falls ne kinds pair way no_is =
    bell_enough plan s t e x is se sx falls kind kinds pair way
enough_by plan s t e x BlockWord kind is se sx falls ne kinds pair way no_is =
    enough_block e.reply (count_before x.reply) kind
enough_by plan s t e x PlainLineWord kind is se sx falls ne kinds pair way no_is =
    let no_tally : kind_told e.reply ≡ Tally → ⊥ = λ h. let f : PlainLineWord ≡ Tally = sym kind ∙ h in cc f in
    let has = se.stands.link no_tally in
    let there = sx.stands.link (λ h. no_tally (sym kinds ∙ h)) in
    let ends =
    opposite_ends (length plan.boxes) e.box_no x.box_no (link_in plan e) (link_in plan x) ne has there pair
    (is_same _ _ way) in
    let low : count_before e.reply ≡ counted PlainLineWord (link_in plan e) e.box_no s =
    told_count plan s e is se.are se.stands.known se.told ∙ ap (λ (k : Kind). counted k (link_in plan e) e.box_no s)
    kind in
    let rise = counts_rise PlainLineWord (link_in plan e) e.box_no s t falls in
    let high : count_before x.reply ≡ counted PlainLineWord (link_in plan x) x.box_no t =
    told_count plan t x is sx.are sx.stands.known sx.told ∙ ap (λ (k : Kind). counted k (link_in plan x) x.box_no t)
    (kinds ∙ kind) in
    line_enough plan t e.box_no x.box_no (link_in plan e) (link_in plan x) e.reply x.reply ends has there pair
    se.stands.end sx.stands.end kind no_is (omega (arith, low, rise)) high
    (line_fits plan t x (kinds ∙ kind) (fits_in plan t x sx.told)) sx.sections

both_true : (a b : Bool) → IsTrue a → IsTrue b → IsTrue (a && b)
both_true true b p q = q
both_true false b p q = absurd cc

-- where a later entry of a box keeps an entry back, the first of its kind does
decide_one : (plan : PlanFields) (s t u : LineState) (e x y : Entry) → IsPlan plan → Stage plan s e → Stage plan t x
    → Stage plan u y → NeverFalls s t → NeverFalls t u → e.box_no ≢ x.box_no → x.box_no ≡ y.box_no
    → keeper_slot plan x ≡ kept_slot plan e → keeps_back plan e y ≡ true → keeps_back plan e x ≡ true
decide_one plan s t u e x y is se sx sy falls later ne own slot keeps =
    let k = keeping plan e y keeps in
    let kinds = one_kind (kind_told e.reply) (kind_told y.reply) k.kinds in
    let ty = kept_told e.reply y.reply (is_counted (link_in plan y) y.reply sy.stands.end) k.kept in
    let parts =
    slot_parts (keeper_no x.reply) (kept_by e.reply) (way_at plan x.box_no x.call) (way_at plan e.box_no e.call)
    slot in
    let some : 0 < kept_by e.reply = tests_some e.reply (count_before y.reply) ty.1 in
    let one : keeper_no x.reply ≡ keeper_no y.reply = parts.0 ∙ sym ty.0 in
    let some_x : 0 < keeper_no x.reply = omega (arith, parts.0, some) in
    let links : link_in plan x ≡ link_in plan y =
    same_end (link_in plan x) (link_in plan y) x.reply y.reply sx.stands.end sy.stands.end one some_x
    (parts.1 ∙ k.ways) in
    let kind_x : kind_told x.reply ≡ kind_told e.reply = keeper_kind x.reply e.reply parts.0 some_x in
    let pair_x : pair_for plan x ≡ pair_for plan y =
    ap (λ (b : ℕ). pair_no b (link_in plan x)) own ∙ ap (λ (l : Link). pair_no y.box_no l) links in
    let pair : pair_for plan e ≡ pair_for plan x = k.pairs ∙ sym pair_x in
    let cx = told_count plan t x is sx.are sx.stands.known sx.told in
    let cy = told_count plan u y is sy.are sy.stands.known sy.told in
    let rise = counts_rise (kind_told x.reply) (link_in plan x) x.box_no t u later in
    let same : counted (kind_told x.reply) (link_in plan x) x.box_no u
    ≡ counted (kind_told y.reply) (link_in plan y) y.box_no u =
    ap (λ (q : Kind). counted q (link_in plan x) x.box_no u) (kind_x ∙ kinds.0)
    ∙ ap (λ (l : Link). counted (kind_told y.reply) l x.box_no u) links
    ∙ ap (λ (b : ℕ). counted (kind_told y.reply) (link_in plan y) b u) own in
    let order : count_before x.reply ≤ count_before y.reply = omega (arith, cx, cy, rise, same) in
    let enough = enough_by plan s t e x (kind_told e.reply) refl is se sx falls ne kind_x pair (sym parts.1) parts.0 in
    let kept =
    test_kept e.reply x.reply (is_counted (link_in plan x) x.reply sx.stands.end) parts.0
    (lower_test e.reply (count_before x.reply) (count_before y.reply) ty.1 order enough) in
    let same_kinds : IsTrue (same_kind (kind_told e.reply) (kind_told x.reply)) =
    subst (λ (q : Kind). IsTrue (same_kind (kind_told e.reply) q)) (sym (kind_x ∙ kinds.0)) k.kinds in
    both_true _ (kept_back e.reply x.reply) (both_true (same_kind (kind_told e.reply) (kind_told x.reply)) _ same_kinds
    (both_true (pair_for plan e == pair_for plan x) _ (eq-eqb _ _ pair) (is_same _ _ (sym parts.1)))) kept

-- ---- along what remains

false_if : (b : Bool) → (b ≡ true → ⊥) → b ≡ false
false_if true h = absurd (h refl)
false_if false h = refl

stage : (plan : PlanFields) (first : List Entry) (x : Entry) (R : List Entry) → IsPlan plan
    → IsLegal plan (first ++ x ∷ R) → Stands plan x → Stage plan (state_of plan first) x
stage plan first x R is legal stands =
    record {
      are = history_states plan first;
      stands = stands;
      told = (legal_then plan (opening_state plan) first (x ∷ R) legal).1;
      sections = (history_keeps plan first is (prefix_legal plan first (x ∷ R) legal)).sections;
    }

falls_next : (plan : PlanFields) (s : LineState) (first : List Entry) (x : Entry) → IsPlan plan → Stands plan x
    → NeverFalls s (state_of plan first) → NeverFalls s (state_of plan (first ++ x ∷ []))
falls_next plan s first x is stands falls =
    subst (λ (t : LineState). NeverFalls s t) (sym (state_grows plan first x))
    (falls_on s (state_of plan first) (after_entry plan (state_of plan first) x) falls
    (call_never_falls plan (state_of plan first) x.box_no x.call is (history_states plan first) stands.known))

regroup : (plan : PlanFields) (first : List Entry) (x : Entry) (R : List Entry) → IsLegal plan (first ++ x ∷ R)
    → IsLegal plan ((first ++ x ∷ []) ++ R)
regroup plan first x R legal = subst (λ (l : List Entry). IsLegal plan l) (sym (append_one first x R)) legal

-- behind a keeper that lets an entry pass all of its box do
all_behind : (plan : PlanFields) (s t : LineState) (e x : Entry) (first R : List Entry) → IsPlan plan → Stage plan s e
    → Stage plan t x → NeverFalls s t → NeverFalls t (state_of plan first) → e.box_no ≢ x.box_no
    → keeper_slot plan x ≡ kept_slot plan e → keeps_back plan e x ≡ false
    → IsLegal plan (first ++ R) → Each (Stands plan) R → Each (λ y. keeps_back plan e y ≡ false) (part_of x.box_no R)
all_behind plan s t e x first [] is se sx falls later ne slot passes legal stand = tt
all_behind plan s t e x first (y ∷ R) is se sx falls later ne slot passes legal stand =
    let rest =
    all_behind plan s t e x (first ++ y ∷ []) R is se sx falls (falls_next plan t first y is stand.0 later) ne slot
    passes (regroup plan first y R legal) stand.1 in
    ⊎_elim
    (λ mine.
    subst (λ (l : List Entry). Each (λ y. keeps_back plan e y ≡ false) l) (sym (part_own y R x.box_no mine.0)) (
      false_if (keeps_back plan e y) (λ keeps. let k = decide_one plan s t (state_of plan first) e x y is se sx
          (stage plan first y R is legal stand.0) falls later ne (sym mine.1) slot keeps in cc (k, passes)),
      rest,
    ))
    (λ other. subst (λ (l : List Entry). Each (λ y. keeps_back plan e y ≡ false) l)
    (sym (part_other y R x.box_no other.0)) rest)
    (eqb_tells y.box_no x.box_no)

-- only an entry of the kind keeps back
slot_kept : (plan : PlanFields) (e y : Entry) → Stands plan y → keeps_back plan e y ≡ true
    → keeper_slot plan y ≡ kept_slot plan e
slot_kept plan e y stands keeps =
    let k = keeping plan e y keeps in
    let ty = kept_told e.reply y.reply (is_counted (link_in plan y) y.reply stands.end) k.kept in
    ap (λ (n : ℕ). 2 * n + way_number (way_at plan y.box_no y.call)) ty.0
    ∙ ap (λ (v : Way). 2 * kept_by e.reply + way_number v) (sym k.ways)

found_here : (plan : PlanFields) (e x : Entry) (list : List Entry) → (keeper_slot plan x == kept_slot plan e) ≡ true
    → first_keeper plan e (x ∷ list) ≡ Some x
found_here plan e x list is = rw is refl

found_later : (plan : PlanFields) (e x : Entry) (list : List Entry) → (keeper_slot plan x == kept_slot plan e) ≡ false
    → first_keeper plan e (x ∷ list) ≡ first_keeper plan e list
found_later plan e x list is = rw is refl

-- the first keeper decides for all of a box
decides_on : (plan : PlanFields) (s : LineState) (e : Entry) (c : ℕ) (first R : List Entry) → IsPlan plan
    → Stage plan s e → NeverFalls s (state_of plan first) → e.box_no ≢ c → IsLegal plan (first ++ R)
    → Each (Stands plan) R → LetsPass plan e (first_keeper plan e (part_of c R))
    → Each (λ y. keeps_back plan e y ≡ false) (part_of c R)
decides_on plan s e c first [] is se falls ne legal stand passes = tt
decides_on plan s e c first (x ∷ R) is se falls ne legal stand passes =
    ⊎_elim
    (λ mine.
    let P : List Entry → Type 0 = λ l. Each (λ y. keeps_back plan e y ≡ false) l in
    let front : LetsPass plan e (first_keeper plan e (x ∷ part_of c R)) =
    subst (λ (l : List Entry). LetsPass plan e (first_keeper plan e l)) (part_own x R c mine.0) passes in
    subst P (sym (part_own x R c mine.0))
    (⊎_elim
    (λ (hit : ((keeper_slot plan x == kept_slot plan e) ≡ true) × (keeper_slot plan x ≡ kept_slot plan e)).
    let pass : keeps_back plan e x ≡ false =
    subst (λ (o : Option Entry). LetsPass plan e o) (found_here plan e x (part_of c R) hit.0) front in
    let t : LineState = state_of plan first in
    let behind =
    all_behind plan s t e x (first ++ x ∷ []) R is se (stage plan first x R is legal stand.0) falls
    (falls_next plan t first x is stand.0 (falls_self t)) (λ h. ne (h ∙ mine.1)) hit.1 pass
    (regroup plan first x R legal) stand.1 in
    let here : Each (λ y. keeps_back plan e y ≡ false) (x ∷ part_of c R) =
    (pass, subst (λ (k : ℕ). Each (λ y. keeps_back plan e y ≡ false) (part_of k R)) mine.1 behind) in here)
    (λ (miss : ((keeper_slot plan x == kept_slot plan e) ≡ false) × (keeper_slot plan x ≡ kept_slot plan e → ⊥)).
    let later =
    decides_on plan s e c (first ++ x ∷ []) R is se (falls_next plan s first x is stand.0 falls) ne
    (regroup plan first x R legal) stand.1 (subst (λ (o : Option Entry). LetsPass plan e o)
    (found_later plan e x (part_of c R) miss.0) front) in
    let here : Each (λ y. keeps_back plan e y ≡ false) (x ∷ part_of c R) =
    (false_if (keeps_back plan e x) (λ keeps. miss.1 (slot_kept plan e x stand.0 keeps)), later) in here)
    (eqb_tells (keeper_slot plan x) (kept_slot plan e))))
    (λ other.
    subst (λ (l : List Entry). Each (λ y. keeps_back plan e y ≡ false) l) (sym (part_other x R c other.0))
    (decides_on plan s e c (first ++ x ∷ []) R is se (falls_next plan s first x is stand.0 falls) ne
    (regroup plan first x R legal) stand.1
    (subst (λ (l : List Entry). LetsPass plan e (first_keeper plan e l)) (part_other x R c other.0) passes)))
    (eqb_tells x.box_no c)

-- and where all of a box let the entry pass, the first does
pub first_passes : (plan : PlanFields) (e : Entry) (list : List Entry) → Each (λ y. keeps_back plan e y ≡ false) list
    → LetsPass plan e (first_keeper plan e list)
first_passes plan e [] all = tt
first_passes plan e (x ∷ list) all =
    ⊎_elim
    (λ hit. subst (λ (o : Option Entry). LetsPass plan e o) (sym (found_here plan e x list hit.0)) all.0)
    (λ miss. subst (λ (o : Option Entry). LetsPass plan e o) (sym (found_later plan e x list miss.0))
    (first_passes plan e list all.1))
    (eqb_tells (keeper_slot plan x) (kept_slot plan e))

-- an entry that the law gives where a history has come to: the first keeper of a box decides for all of its entries
-- that remain
pub first_decides : (plan : PlanFields) (done R : List Entry) (e : Entry) (c : ℕ) → IsPlan plan
    → IsLegal plan (done ++ R) → Each (Stands plan) R → Stands plan e
    → e.reply ≡ (step plan (state_of plan done) e.box_no e.call).reply → e.box_no ≢ c
    → LetsPass plan e (first_keeper plan e (part_of c R))
    → Each (λ y. keeps_back plan e y ≡ false) (part_of c R)
first_decides plan done R e c is legal stand es told ne passes =
    decides_on plan (state_of plan done) e c done R is
    (record {
      are = history_states plan done;
      stands = es;
      told = told;
      sections =
          (history_keeps plan done is (prefix_legal plan done R legal)).sections;
    }) (falls_self (state_of plan done)) ne
    legal stand passes

-- boxes that reach one pair are neighbours
low_or_same : (b : ℕ) (l : Link) → (pair_no b l ≡ b) ⊎ (pair_no b l ≡ b - 1)
low_or_same b (Out Up) = inr refl
low_or_same b (Out Down) = inl refl
low_or_same b (In Up) = inl refl
low_or_same b (In Down) = inr refl

apart_by : (b c p : ℕ) → b ≢ c → (p ≡ b) ⊎ (p ≡ b - 1) → (p ≡ c) ⊎ (p ≡ c - 1) → (c + 1 ≡ b) ⊎ (c ≡ b + 1)
apart_by b c p ne (inl e) (inl f) = absurd (ne (omega (arith, e, f)))
apart_by zero c p ne (inl e) (inr f) = by_zero c p ne e f where
  by_zero : (c p : ℕ) → zero ≢ c → p ≡ zero → p ≡ c - 1 → (c + 1 ≡ zero) ⊎ (c ≡ zero + 1)
  by_zero zero p ne e f = absurd (ne refl)
  by_zero (suc c) p ne e f = inr (omega (arith, e, f))
apart_by (suc b) c p ne (inl e) (inr f) = inr (omega (arith, e, f))
apart_by b zero p ne (inr e) (inl f) = by_zero b p ne e f where
  by_zero : (b p : ℕ) → b ≢ zero → p ≡ b - 1 → p ≡ zero → (zero + 1 ≡ b) ⊎ (zero ≡ b + 1)
  by_zero zero p ne e f = absurd (ne refl)
  by_zero (suc b) p ne e f = inl (omega (arith, e, f))
apart_by b (suc c) p ne (inr e) (inl f) = inl (omega (arith, e, f))
apart_by zero zero p ne (inr e) (inr f) = absurd (ne refl)
apart_by zero (suc c) p ne (inr e) (inr f) = inr (omega (arith, e, f))
apart_by (suc b) zero p ne (inr e) (inr f) = inl (omega (arith, e, f))
apart_by (suc b) (suc c) p ne (inr e) (inr f) = absurd (ne (omega (arith, e, f)))

-- an entry is kept back only by one of a neighbour
pub keeper_near : (plan : PlanFields) (e y : Entry) → e.box_no ≢ y.box_no → keeps_back plan e y ≡ true
    → (y.box_no + 1 ≡ e.box_no) ⊎ (y.box_no ≡ e.box_no + 1)
keeper_near plan e y ne keeps =
    let pair = (keeping plan e y keeps).pairs in
    apart_by e.box_no y.box_no (pair_for plan e) ne (low_or_same e.box_no (link_in plan e))
    (⊎_elim (λ (h : pair_for plan y ≡ y.box_no). inl (pair ∙ h))
    (λ (h : pair_for plan y ≡ y.box_no - 1). inr (pair ∙ h)) (low_or_same y.box_no (link_in plan y)))

-- only a reply of these kinds is kept back at all
pub none_kept : (plan : PlanFields) (e y : Entry) → Stands plan y → kept_by e.reply ≡ 0 → keeps_back plan e y ≡ false
none_kept plan e y stands none =
    false_if (keeps_back plan e y) (λ keeps.
    let k = keeping plan e y keeps in
    let ty = kept_told e.reply y.reply (is_counted (link_in plan y) y.reply stands.end) k.kept in
    let some = tests_some e.reply (count_before y.reply) ty.1 in omega (arith, some, none))
