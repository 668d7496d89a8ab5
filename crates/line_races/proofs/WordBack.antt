-- A reply that fits a word behind another from its other end, whose mark isn't looked for, fits the word before it,
-- too.
use Rattle.std.proofs.Common.{ℕ, ◌-◌, ◌==◌, ◌||◌, ◌≡◌, ◌≢◌, ⊎_elim, Bool, true, false, List}
use Rattle.std.proofs.Common.{[], ◌∷◌, ◌++◌, Some, None, drop, refl, sym, ap, ◌∙◌, arith}
use Rattle.std.proofs.lemmas.Bool.{cases_eq, cond-false, ne_eqb, or_right}
use Rattle.block_words.specs.declared.Way.{Way}
use Rattle.block_words.specs.declared.Way.TheVariants.{Up, Down}
use Rattle.line_law.specs.declared.call.Act.{Act}
use Rattle.line_law.specs.declared.call.Reply.{Reply}
use Rattle.line_law.specs.declared.call.Reply.TheVariants.{Rung, BellBusy, Heard, Silent, BellNotYet}
use Rattle.line_law.specs.declared.call.Reply.TheVariants.{Turned, Seen, BlockNotYet, PulledUnder, HeldByInstrument}
use Rattle.line_law.specs.declared.call.Reply.TheVariants.{Entered, SectionFull, Approaching, TrainNotYet, Berthed}
use Rattle.line_law.specs.declared.call.Reply.TheVariants.{PartBerthed, NoTrainAt, Cleared}
use Rattle.line_law.specs.declared.link.Link.{Link}
use Rattle.line_law.specs.declared.link.Link.TheVariants.{Out, In}
use Rattle.line_law.specs.declared.state.Bell.{Bell}
use Rattle.line_law.specs.declared.state.Block.{Block}
use Rattle.line_law.specs.declared.state.PairState.{PairState}
use Rattle.line_law.specs.declared.state.Passage.{Passage}
use Rattle.line_law.specs.Arrivals.{first_train}
use Rattle.line_law.specs.Links.{way_of}
use Rattle.line_law.specs.Trains.{holds}
use Rattle.line_law.specs.Ways.{of_way}
use Rattle.word_laws.specs.Footprint.{Kind, Tally, BellWord, BlockWord, PlainLineWord}
use Rattle.word_laws.specs.TellsWord.{IsInReply, IsOutReply, IsReplyAt}
use Rattle.line_journal.specs.Fits.{FitsBell, FitsBlock, FitsPlainLine, FitsWord}
use Rattle.line_journal.specs.Fits.{bell_made, block_made, plain_line_made}
use Rattle.line_journal.specs.Fits.{word_made}
use Rattle.line_journal.proofs.PairMoves.{InOut, OppositeEnds, OutIn}
use Rattle.line_races.specs.Marks.{kept_by, made_by, mark_left}
use Rattle.line_races.specs.declared.marks.Mark.{Mark}
use Rattle.line_races.specs.declared.marks.Mark.TheVariants.{RungAs, HeardAs, TurnedAs}
use Rattle.line_races.specs.declared.marks.Mark.TheVariants.{EnteredAs, LeftAs}

-- the mark of the first reply isn't looked for by the second
pub record IsUnsought (r q : Reply) : Type 0 where
  pub made : (m : Mark) → mark_left r ≡ Some m → made_by q ≡ Some m → ⊥
  pub kept : (m : Mark) → mark_left r ≡ Some m → kept_by q ≡ Some m → ⊥

-- ---- a bell

rung_back : (a : Act) (k : ℕ) (q : Reply) (w : Bell) → IsUnsought (Rung k) q → FitsBell q (bell_made a (Rung k) w)
    → IsInReply q → FitsBell q w
rung_back a k (Rung n) w un g at = absurd at
rung_back a k (BellBusy held n) w un g at = absurd at
rung_back a k (Heard code n) w un g at = absurd (un.made (RungAs k) refl (ap (λ (i : ℕ). Some (RungAs i)) (sym g.0)))
rung_back a k (Silent n) w un g at = let e = g.1 in absurd cc
rung_back a k (BellNotYet shown n) w un g at =
    absurd (un.kept (RungAs k) refl (ap (λ (i : ℕ). Some (RungAs i)) (sym g.0)))
rung_back a k q w un g at = absurd g

out_bell_back : (a : Act) (r q : Reply) (w : Bell) → IsOutReply r → IsInReply q → IsUnsought r q
    → FitsBell q (bell_made a r w) → FitsBell q w
out_bell_back a (Rung k) q w out at un g = rung_back a k q w un g at
out_bell_back a (Heard code k) q w out at un g = absurd out
out_bell_back a r q w out at un g = g

heard_back : (a : Act) (code k : ℕ) (q : Reply) (w : Bell) → IsUnsought (Heard code k) q
    → FitsBell q (bell_made a (Heard code k) w) → IsOutReply q → FitsBell q w
heard_back a code k (Rung n) w un g at =
    let same : n - 1 ≡ k = let e = g.0 in omega arith in
    absurd (un.made (HeardAs k) refl (ap (λ (i : ℕ). Some (HeardAs i)) same))
heard_back a code k (BellBusy held n) w un g at = let e = g.1 in absurd cc
heard_back a code k (Heard other n) w un g at = absurd at
heard_back a code k (Silent n) w un g at = absurd at
heard_back a code k (BellNotYet shown n) w un g at = absurd at
heard_back a code k q w un g at = absurd g

in_bell_back : (a : Act) (r q : Reply) (w : Bell) → IsInReply r → IsOutReply q → IsUnsought r q
    → FitsBell q (bell_made a r w) → FitsBell q w
in_bell_back a (Rung k) q w here at un g = absurd here
in_bell_back a (Heard code k) q w here at un g = heard_back a code k q w un g at
in_bell_back a r q w here at un g = g

-- ---- an instrument

spent_back : (c : Act) (q : Reply) (w : Block) → IsInReply q
    → FitsBlock c q (record w { spent = true }) → FitsBlock c q w
spent_back c (Turned n) w at g = g
spent_back c (Seen n) w at g = absurd at
spent_back c (BlockNotYet shown n) w at g = absurd at
spent_back c (PulledUnder n) w at g = absurd at
spent_back c (HeldByInstrument way shown spent n) w at g = absurd at
spent_back c q w at g = absurd g

out_block_back : (a c : Act) (r q : Reply) (w : Block) → IsOutReply r → IsInReply q → IsUnsought r q
    → FitsBlock c q (block_made a r w) → FitsBlock c q w
out_block_back a c (Turned v) q w out at un g = absurd out
out_block_back a c (PulledUnder v) q w out at un g = spent_back c q w at g
out_block_back a c (HeldByInstrument way shown spent v) q w out at un g = spent_back c q w at g
out_block_back a c r q w out at un g = g

turned_back : (a c : Act) (v : ℕ) (q : Reply) (w : Block) → IsUnsought (Turned v) q
    → FitsBlock c q (block_made a (Turned v) w) → IsOutReply q → FitsBlock c q w
turned_back a c v (Turned n) w un g at = absurd at
turned_back a c v (Seen n) w un g at = absurd (un.made (TurnedAs v) refl (ap (λ (i : ℕ). Some (TurnedAs i)) (sym g.0)))
turned_back a c v (BlockNotYet shown n) w un g at =
    absurd (un.kept (TurnedAs v) refl (ap (λ (i : ℕ). Some (TurnedAs i)) (sym g.0)))
turned_back a c v (PulledUnder n) w un g at =
    absurd (un.made (TurnedAs v) refl (ap (λ (i : ℕ). Some (TurnedAs i)) (sym g.0)))
turned_back a c v (HeldByInstrument way shown spent n) w un g at =
    absurd (un.kept (TurnedAs v) refl (ap (λ (i : ℕ). Some (TurnedAs i)) (sym g.0)))
turned_back a c v q w un g at = absurd g

in_block_back : (a c : Act) (r q : Reply) (w : Block) → IsInReply r → IsOutReply q → IsUnsought r q
    → FitsBlock c q (block_made a r w) → FitsBlock c q w
in_block_back a c (Turned v) q w here at un g = turned_back a c v q w un g at
in_block_back a c (PulledUnder v) q w here at un g = absurd here
in_block_back a c (HeldByInstrument way shown spent v) q w here at un g = absurd here
in_block_back a c r q w here at un g = g

-- ---- a plain line

-- another train that is found first was found before one entered
found_before : (j : ℕ) (w : List Passage) (p : Passage) (train : ℕ) → (p.number ≡ j → ⊥)
    → first_train j (w ++ p ∷ []) ≡ Some train → first_train j w ≡ Some train
found_before j [] p train other g =
    let none : first_train j (p ∷ []) ≡ None =
    cond-false (p.number == j) (Some p.train) None (ne_eqb p.number j other) in
    absurd cc
found_before j (first ∷ w) p train other g = g

-- a train that isn't found once another has entered wasn't before
unfound_before : (j : ℕ) (w : List Passage) (p : Passage) → first_train j (w ++ p ∷ []) ≡ None
    → first_train j w ≡ None
unfound_before j [] p g = refl
unfound_before j (first ∷ w) p g = g

entered_back : (t k : ℕ) (q : Reply) (w : List Passage) → IsUnsought (Entered t k) q
    → FitsPlainLine q (plain_line_made (Entered t k) w) → IsInReply q → FitsPlainLine q w
entered_back t k (Entered u n) w un g at = absurd at
entered_back t k (SectionFull n) w un g at = absurd at
entered_back t k (Approaching u j) w un g at =
    found_before j w _ u (λ same. un.made (EnteredAs k) refl (ap (λ (i : ℕ). Some (EnteredAs i)) (sym same))) g
entered_back t k (Berthed u j) w un g at =
    found_before j w _ u (λ same. un.made (EnteredAs k) refl (ap (λ (i : ℕ). Some (EnteredAs i)) (sym same))) g
entered_back t k (PartBerthed u j) w un g at =
    found_before j w _ u (λ same. un.made (EnteredAs k) refl (ap (λ (i : ℕ). Some (EnteredAs i)) (sym same))) g
entered_back t k (Cleared u j) w un g at =
    found_before j w _ u (λ same. un.made (EnteredAs k) refl (ap (λ (i : ℕ). Some (EnteredAs i)) (sym same))) g
entered_back t k (TrainNotYet j) w un g at = unfound_before j w _ g
entered_back t k (NoTrainAt j) w un g at = unfound_before j w _ g
entered_back t k q w un g at = absurd g

out_line_back : (r q : Reply) (w : List Passage) → IsOutReply r → IsInReply q → IsUnsought r q
    → FitsPlainLine q (plain_line_made r w) → FitsPlainLine q w
out_line_back (Entered t k) q w out at un g = entered_back t k q w un g at
out_line_back (Berthed t j) q w out at un g = absurd out
out_line_back (Cleared t j) q w out at un g = absurd out
out_line_back r q w out at un g = g

first_number : (j : ℕ) (p : Passage) (w : List Passage) (train : ℕ) → first_train j (p ∷ w) ≡ Some train
    → p.number ≡ j
first_number j p w train f =
    ⊎_elim (λ (same : p.number ≡ j). same)
    (λ (differ : p.number ≢ j).
    let none : first_train j (p ∷ w) ≡ None =
    cond-false (p.number == j) (Some p.train) None (ne_eqb p.number j differ) in absurd cc)
    (cases_eq p.number j)

-- the line was free of a train that hasn't just left
free_before : (j k : ℕ) (w : List Passage) (train : ℕ) → first_train j w ≡ Some train → (j ≡ k - 4 → ⊥)
    → holds (drop 1 w) k ≡ false → holds w k ≡ false
free_before j k [] train f other g = refl
free_before j k (p ∷ w) train f other g =
    let number = first_number j p w train f in
    ap (λ (b : Bool). b || holds w k) (ne_eqb p.number (k - 4) (λ same. other (sym number ∙ same))) ∙ g

-- the line held a train that it holds once another has left
held_before : (k : ℕ) (w : List Passage) → holds (drop 1 w) k ≡ true → holds w k ≡ true
held_before k [] g = g
held_before k (p ∷ w) g = or_right (p.number == k - 4) (holds w k) g

-- the first train leaves
left_back : (r : Reply) (t j : ℕ) (q : Reply) (w : List Passage) → mark_left r ≡ Some (LeftAs j) → IsUnsought r q
    → first_train j w ≡ Some t → FitsPlainLine q (drop 1 w) → IsOutReply q → FitsPlainLine q w
left_back r t j (Entered u k) w left un f g at =
    free_before j k w t f (λ same. un.made (LeftAs j) left (ap (λ (i : ℕ). Some (LeftAs i)) (sym same))) g
left_back r t j (SectionFull k) w left un f g at = held_before k w g
left_back r t j (Approaching u n) w left un f g at = absurd at
left_back r t j (TrainNotYet n) w left un f g at = absurd at
left_back r t j (Berthed u n) w left un f g at = absurd at
left_back r t j (PartBerthed u n) w left un f g at = absurd at
left_back r t j (NoTrainAt n) w left un f g at = absurd at
left_back r t j (Cleared u n) w left un f g at = absurd at
left_back r t j q w left un f g at = absurd g

in_line_back : (r q : Reply) (w : List Passage) → IsInReply r → IsOutReply q → IsUnsought r q → FitsPlainLine r w
    → FitsPlainLine q (plain_line_made r w) → FitsPlainLine q w
in_line_back (Entered t k) q w here at un f g = absurd here
in_line_back (Berthed t j) q w here at un f g = left_back (Berthed t j) t j q w refl un f g at
in_line_back (Cleared t j) q w here at un f g = left_back (Cleared t j) t j q w refl un f g at
in_line_back r q w here at un f g = g

-- ---- in a pair

out_back : (v : Way) (k : Kind) (a c : Act) (r q : Reply) (p : PairState) → IsReplyAt (Out v) r → IsReplyAt (In v) q
    → IsUnsought r q → FitsWord k v c q (word_made k v a r p) → FitsWord k v c q p
out_back v Tally a c r q p out at un g = g
out_back Up BellWord a c r q p out at un g = out_bell_back a r q (of_way p.bells Up) out at un g
out_back Down BellWord a c r q p out at un g = out_bell_back a r q (of_way p.bells Down) out at un g
out_back Up BlockWord a c r q p out at un g = out_block_back a c r q (of_way p.blocks Up) out at un g
out_back Down BlockWord a c r q p out at un g = out_block_back a c r q (of_way p.blocks Down) out at un g
out_back Up PlainLineWord a c r q p out at un g = out_line_back r q (of_way p.lines Up) out at un g
out_back Down PlainLineWord a c r q p out at un g = out_line_back r q (of_way p.lines Down) out at un g

in_back : (v : Way) (k : Kind) (a c : Act) (r q : Reply) (p : PairState) → IsReplyAt (In v) r → IsReplyAt (Out v) q
    → IsUnsought r q → FitsWord k v a r p → FitsWord k v c q (word_made k v a r p) → FitsWord k v c q p
in_back v Tally a c r q p here at un f g = g
in_back Up BellWord a c r q p here at un f g = in_bell_back a r q (of_way p.bells Up) here at un g
in_back Down BellWord a c r q p here at un f g = in_bell_back a r q (of_way p.bells Down) here at un g
in_back Up BlockWord a c r q p here at un f g = in_block_back a c r q (of_way p.blocks Up) here at un g
in_back Down BlockWord a c r q p here at un f g = in_block_back a c r q (of_way p.blocks Down) here at un g
in_back Up PlainLineWord a c r q p here at un f g = in_line_back r q (of_way p.lines Up) here at un f g
in_back Down PlainLineWord a c r q p here at un f g = in_line_back r q (of_way p.lines Down) here at un f g

-- a reply that fits a word behind one from its other end fits it before that
pub fits_back : (l m : Link) → OppositeEnds l m → (k : Kind) (a c : Act) (r q : Reply) (p : PairState) → IsReplyAt l r
    → IsReplyAt m q → IsUnsought r q → FitsWord k (way_of l) a r p
    → FitsWord k (way_of m) c q (word_made k (way_of l) a r p) → FitsWord k (way_of m) c q p
fits_back l m (OutIn v) k a c r q p here at un f g = out_back v k a c r q p here at un g
fits_back l m (InOut v) k a c r q p here at un f g = in_back v k a c r q p here at un f g
