-- Two replies told at the two ends of one word: the table keeps the first back, or the two change places, or the first
-- is lost after the second.
use Rattle.std.proofs.Common.{ℕ, ◌+◌, ◌-◌, ◌≡◌, ◌<◌, ◌⊎◌, inl, inr, ⊎_elim, List, [], ◌∷◌, ◌++◌, Option}
use Rattle.std.proofs.Common.{Some, None, Bool, true, false, cond, IsTrue, lt-ltb, refl, sym, ap, ◌∙◌, arith}
use Rattle.std.specs.Prelude.{◌==◌, ◌||◌, drop, nat_lt}
use Rattle.std.proofs.lemmas.Bool.{eq-eqb, eqb-true}
use Rattle.line_law.specs.declared.call.Act.{Act}
use Rattle.line_law.specs.declared.call.Reply.{Reply}
use Rattle.line_law.specs.declared.call.Reply.TheVariants.{Rung, BellBusy, Heard, Silent, BellNotYet}
use Rattle.line_law.specs.declared.call.Reply.TheVariants.{Turned, Seen, BlockNotYet, PulledUnder, HeldByInstrument}
use Rattle.line_law.specs.declared.call.Reply.TheVariants.{Entered, SectionFull, Approaching, TrainNotYet, Berthed}
use Rattle.line_law.specs.declared.call.Reply.TheVariants.{PartBerthed, NoTrainAt, Cleared}
use Rattle.line_law.specs.declared.state.Bell.{Bell}
use Rattle.line_law.specs.declared.state.Block.{Block}
use Rattle.line_law.specs.declared.state.Passage.{Passage}
use Rattle.line_law.specs.Arrivals.{first_train}
use Rattle.line_law.specs.Trains.{holds}
use Rattle.word_laws.specs.TellsWord.{IsInReply, IsOutReply}
use Rattle.line_journal.specs.Fits.{FitsBell, FitsBlock, FitsPlainLine, bell_made, block_made, plain_line_made}
use Rattle.line_journal.specs.Exchanges.{ChangePlaces, IsLostOnBell, IsLostOnBlock, IsLostOnPlainLine}
use Rattle.line_journal.specs.Order.{kept_back}

-- what the first owes to the second, which stands before it
abbrev pub Moves : {W : Type 0} → Bool → (W → Type 0) → (W → Type 0) → (W → Type 0) → (W → W) → (W → W) → W → Type 0
Moves kept IsLost F G m n w = IsTrue kept ⊎ (ChangePlaces F G m n w ⊎ IsLost (n w))

same : (a b : ℕ) → a ≡ b → IsTrue (a == b)
same a b e = eq-eqb a b e

less : (a b : ℕ) → a < b → IsTrue (nat_lt a b)
less a b h = lt-ltb a b h

-- ---- a bell

abbrev BellMoves : Act → Act → Reply → Reply → Bell → Type 0
BellMoves a c r q w = Moves (kept_back r q) (IsLostOnBell r) (FitsBell r) (FitsBell q) (bell_made a r) (bell_made c q) w

silent_not_rung : (u : Option ℕ) (code : ℕ) → u ≡ None → u ≡ Some code → ⊥
silent_not_rung u code e f = cc

rung_past : (a c : Act) (k : ℕ) (q : Reply) (w : Bell) → IsInReply q → FitsBell (Rung k) w → FitsBell q w
    → BellMoves a c (Rung k) q w
rung_past a c k (Rung n) w at f g = absurd at
rung_past a c k (BellBusy held n) w at f g = absurd at
rung_past a c k (Heard code n) w at f g = absurd (silent_not_rung w.unheard code f.1 g.1)
rung_past a c k (Silent n) w at f g = inl (same (n + 1) k (omega (arith, f.0, g.0)))
rung_past a c k (BellNotYet shown n) w at f g = inl (same (n + 1) k (omega (arith, f.0, g.0)))
rung_past a c k q w at f g = absurd g

busy_past : (a c : Act) (k held : ℕ) (q : Reply) (w : Bell) → IsInReply q → FitsBell (BellBusy held k) w → FitsBell q w
    → BellMoves a c (BellBusy held k) q w
busy_past a c k held (Rung n) w at f g = absurd at
busy_past a c k held (BellBusy other n) w at f g = absurd at
busy_past a c k held (Heard code n) w at f g = inr (inr refl)
busy_past a c k held (Silent n) w at f g = absurd (silent_not_rung w.unheard held g.1 f.1)
busy_past a c k held (BellNotYet shown n) w at f g = inr (inl (record { first = f; second = g; word = refl }))
busy_past a c k held q w at f g = absurd g

-- what a bell entry of the ringer makes of one of the hearer
pub out_bell_moves : (a c : Act) (r q : Reply) (w : Bell) → IsOutReply r → IsInReply q → FitsBell r w → FitsBell q w
    → BellMoves a c r q w
out_bell_moves a c (Rung k) q w out at f g = rung_past a c k q w at f g
out_bell_moves a c (BellBusy held k) q w out at f g = busy_past a c k held q w at f g
out_bell_moves a c (Heard code k) q w out at f g = absurd out
out_bell_moves a c (Silent k) q w out at f g = absurd out
out_bell_moves a c (BellNotYet shown k) q w out at f g = absurd out
out_bell_moves a c r q w out at f g = absurd f

heard_past : (a c : Act) (k code : ℕ) (q : Reply) (w : Bell) → IsOutReply q → FitsBell (Heard code k) w → FitsBell q w
    → BellMoves a c (Heard code k) q w
heard_past a c k code (Rung n) w at f g = absurd (silent_not_rung w.unheard code g.1 f.1)
heard_past a c k code (BellBusy held n) w at f g = inl (same n k (sym g.0 ∙ f.0))
heard_past a c k code (Heard other n) w at f g = absurd at
heard_past a c k code (Silent n) w at f g = absurd at
heard_past a c k code (BellNotYet shown n) w at f g = absurd at
heard_past a c k code q w at f g = absurd g

silent_past : (a c : Act) (k : ℕ) (q : Reply) (w : Bell) → IsOutReply q → FitsBell (Silent k) w → FitsBell q w
    → BellMoves a c (Silent k) q w
silent_past a c k (Rung n) w at f g = inr (inr (omega (arith, f.0, g.0)))
silent_past a c k (BellBusy held n) w at f g = absurd (silent_not_rung w.unheard held f.1 g.1)
silent_past a c k (Heard other n) w at f g = absurd at
silent_past a c k (Silent n) w at f g = absurd at
silent_past a c k (BellNotYet shown n) w at f g = absurd at
silent_past a c k q w at f g = absurd g

shown_past : (a c : Act) (k : ℕ) (shown : Option ℕ) (q : Reply) (w : Bell) → IsOutReply q
    → FitsBell (BellNotYet shown k) w → FitsBell q w → BellMoves a c (BellNotYet shown k) q w
shown_past a c k shown (Rung n) w at f g = inr (inr (omega (arith, f.0, g.0)))
shown_past a c k shown (BellBusy held n) w at f g = inr (inl (record { first = f; second = g; word = refl }))
shown_past a c k shown (Heard other n) w at f g = absurd at
shown_past a c k shown (Silent n) w at f g = absurd at
shown_past a c k shown (BellNotYet other n) w at f g = absurd at
shown_past a c k shown q w at f g = absurd g

-- and one of the hearer of one of the ringer
pub in_bell_moves : (a c : Act) (r q : Reply) (w : Bell) → IsInReply r → IsOutReply q → FitsBell r w → FitsBell q w
    → BellMoves a c r q w
in_bell_moves a c (Rung k) q w at out f g = absurd at
in_bell_moves a c (BellBusy held k) q w at out f g = absurd at
in_bell_moves a c (Heard code k) q w at out f g = heard_past a c k code q w out f g
in_bell_moves a c (Silent k) q w at out f g = silent_past a c k q w out f g
in_bell_moves a c (BellNotYet shown k) q w at out f g = shown_past a c k shown q w out f g
in_bell_moves a c r q w at out f g = absurd f

-- what is lost at the rear stays lost while the other end works the bell
off_stays : (c : Act) (q : Reply) (w : Bell) → IsInReply q → FitsBell q w → w.unheard ≡ None
    → (bell_made c q w).unheard ≡ None
off_stays c (Rung n) w at g off = absurd at
off_stays c (BellBusy held n) w at g off = off
off_stays c (Heard code n) w at g off = refl
off_stays c (Silent n) w at g off = off
off_stays c (BellNotYet shown n) w at g off = off
off_stays c q w at g off = absurd g

-- the count stays above
count_stays : (c : Act) (k : ℕ) (q : Reply) (w : Bell) → FitsBell q w → k < w.count → k < (bell_made c q w).count
count_stays c k (Rung n) w g h = omega (arith, g.0, h)
count_stays c k (BellBusy held n) w g h = h
count_stays c k (Heard code n) w g h = omega (arith, g.0, h)
count_stays c k (Silent n) w g h = h
count_stays c k (BellNotYet shown n) w g h = h
count_stays c k q w g h = absurd g

-- what the ringer lost stays lost whatever the hearer does
pub out_bell_stays : (c : Act) (r q : Reply) (w : Bell) → IsOutReply r → IsInReply q → FitsBell q w → IsLostOnBell r w
    → IsLostOnBell r (bell_made c q w)
out_bell_stays c (BellBusy held k) q w out at g lost = off_stays c q w at g lost
out_bell_stays c (Silent k) q w out at g lost = absurd out
out_bell_stays c (BellNotYet shown k) q w out at g lost = absurd out
out_bell_stays c r q w out at g lost = absurd lost

-- and so does what the hearer lost
pub in_bell_stays : (c : Act) (r q : Reply) (w : Bell) → IsInReply r → IsOutReply q → FitsBell q w → IsLostOnBell r w
    → IsLostOnBell r (bell_made c q w)
in_bell_stays c (BellBusy held k) q w at out g lost = absurd at
in_bell_stays c (Silent k) q w at out g lost = count_stays c k q w g lost
in_bell_stays c (BellNotYet shown k) q w at out g lost = count_stays c k q w g lost
in_bell_stays c r q w at out g lost = absurd lost

-- where a reply is lost it doesn't fit
pub bell_lost : (r : Reply) (w : Bell) → IsLostOnBell r w → FitsBell r w → ⊥
bell_lost (BellBusy held k) w lost f = silent_not_rung w.unheard held lost f.1
bell_lost (Silent k) w lost f = omega (arith, f.0, lost)
bell_lost (BellNotYet shown k) w lost f = omega (arith, f.0, lost)
bell_lost r w lost f = absurd lost

-- ---- an instrument

abbrev BlockMoves : Act → Act → Reply → Reply → Block → Type 0
BlockMoves a c r q w =
    Moves (kept_back r q) (IsLostOnBlock r) (FitsBlock a r) (FitsBlock c q) (block_made a r) (block_made c q) w

-- what is told at the rear is of the turn that the instrument has
abbrev OfTurn : Reply → ℕ → Type 0
OfTurn (PulledUnder v) n = n ≡ v
OfTurn (HeldByInstrument way shown spent v) n = n ≡ v
OfTurn (Seen v) n = n ≡ v
OfTurn (BlockNotYet shown v) n = n ≡ v
OfTurn reply n = ⊥

of_turn : (a : Act) (r : Reply) (w : Block) → IsOutReply r → FitsBlock a r w → OfTurn r w.turns
of_turn a (Turned v) w out f = absurd out
of_turn a (PulledUnder v) w out f = f.0
of_turn a (HeldByInstrument way shown spent v) w out f = f.0
of_turn a (Seen v) w out f = f.0
of_turn a (BlockNotYet shown v) w out f = f.0
of_turn a r w out f = absurd f

turn_loses : (r : Reply) (n : ℕ) (w : Block) → OfTurn r n → n < w.turns → IsLostOnBlock r w
turn_loses (PulledUnder v) n w e h = omega (arith, e, h)
turn_loses (HeldByInstrument way shown spent v) n w e h = omega (arith, e, h)
turn_loses (Seen v) n w e h = omega (arith, e, h)
turn_loses (BlockNotYet shown v) n w e h = omega (arith, e, h)
turn_loses r n w e h = absurd e

turn_kept : (r : Reply) (n v : ℕ) → OfTurn r n → n < v → IsTrue (kept_back (Turned v) r)
turn_kept (PulledUnder n) m v e h = less n v (omega (arith, e, h))
turn_kept (HeldByInstrument way shown spent n) m v e h = less n v (omega (arith, e, h))
turn_kept (Seen n) m v e h = less n v (omega (arith, e, h))
turn_kept (BlockNotYet shown n) m v e h = less n v (omega (arith, e, h))
turn_kept r m v e h = absurd e

-- the one reply in advance is a turn
abbrev IsTurn : Reply → ℕ → Type 0
IsTurn (Turned v) n = n + 1 ≡ v
IsTurn reply n = ⊥

is_turn : (c : Act) (q : Reply) (w : Block) → IsInReply q → FitsBlock c q w → IsTurn q w.turns
is_turn c (Turned v) w at g = g
is_turn c (PulledUnder v) w at g = absurd at
is_turn c (HeldByInstrument way shown spent v) w at g = absurd at
is_turn c (Seen v) w at g = absurd at
is_turn c (BlockNotYet shown v) w at g = absurd at
is_turn c q w at g = absurd g

turn_raises : (c : Act) (q : Reply) (w : Block) → IsTurn q w.turns → w.turns < (block_made c q w).turns
turn_raises c (Turned v) w e = omega (arith, e)
turn_raises c q w e = absurd e

turn_keeps : (r q : Reply) (n : ℕ) → IsTurn r n → OfTurn q n → IsTrue (kept_back r q)
turn_keeps (Turned v) q n e g = turn_kept q n v g (omega (arith, e))
turn_keeps r q n e g = absurd e

-- what an entry at the rear of an instrument makes of a turn
pub out_block_moves : (a c : Act) (r q : Reply) (w : Block) → IsOutReply r → IsInReply q → FitsBlock a r w
    → FitsBlock c q w → BlockMoves a c r q w
out_block_moves a c r q w out at f g =
    inr (inr (turn_loses r w.turns (block_made c q w) (of_turn a r w out f) (turn_raises c q w (is_turn c q w at g))))

-- and a turn of an entry at the rear
pub in_block_moves : (a c : Act) (r q : Reply) (w : Block) → IsInReply r → IsOutReply q → FitsBlock a r w
    → FitsBlock c q w → BlockMoves a c r q w
in_block_moves a c r q w at out f g = inl (turn_keeps r q w.turns (is_turn a r w at f) (of_turn c q w out g))

turn_stays : (r : Reply) (w v : Block) → IsLostOnBlock r w → w.turns < v.turns → IsLostOnBlock r v
turn_stays (PulledUnder n) w v lost h = omega (arith, lost, h)
turn_stays (HeldByInstrument way shown spent n) w v lost h = omega (arith, lost, h)
turn_stays (Seen n) w v lost h = omega (arith, lost, h)
turn_stays (BlockNotYet shown n) w v lost h = omega (arith, lost, h)
turn_stays r w v lost h = absurd lost

-- what the rear lost stays lost whatever is turned
pub out_block_stays : (c : Act) (r q : Reply) (w : Block) → IsInReply q → FitsBlock c q w → IsLostOnBlock r w
    → IsLostOnBlock r (block_made c q w)
out_block_stays c r q w at g lost = turn_stays r w (block_made c q w) lost (turn_raises c q w (is_turn c q w at g))

-- in advance nothing is lost
pub in_block_lost : (r : Reply) (w : Block) → IsInReply r → IsLostOnBlock r w → ⊥
in_block_lost (PulledUnder n) w at lost = at
in_block_lost (HeldByInstrument way shown spent n) w at lost = at
in_block_lost (Seen n) w at lost = at
in_block_lost (BlockNotYet shown n) w at lost = at
in_block_lost r w at lost = lost

-- what is lost doesn't fit
pub block_lost : (a : Act) (r : Reply) (w : Block) → IsLostOnBlock r w → FitsBlock a r w → ⊥
block_lost a (PulledUnder n) w lost f = omega (arith, f.0, lost)
block_lost a (HeldByInstrument way shown spent n) w lost f = omega (arith, f.0, lost)
block_lost a (Seen n) w lost f = omega (arith, f.0, lost)
block_lost a (BlockNotYet shown n) w lost f = omega (arith, f.0, lost)
block_lost a r w lost f = lost

-- ---- a plain line

abbrev LineMoves : Reply → Reply → List Passage → Type 0
LineMoves r q w =
    Moves (kept_back r q) (IsLostOnPlainLine r) (FitsPlainLine r) (FitsPlainLine q) (plain_line_made r)
    (plain_line_made q) w

-- a train that enters behind others leaves the first of them
pub first_stays : (j : ℕ) (w : List Passage) (p : Passage) (train : ℕ) → first_train j w ≡ Some train
    → first_train j (w ++ p ∷ []) ≡ Some train
first_stays j [] p train e = absurd cc
first_stays j (q ∷ w) p train e = e

drop_first : (j : ℕ) (w : List Passage) (p : Passage) (train : ℕ) → first_train j w ≡ Some train
    → drop 1 (w ++ p ∷ []) ≡ drop 1 w ++ p ∷ []
drop_first j [] p train e = absurd cc
drop_first j (q ∷ w) p train e = refl

or_second : (a b : Bool) → (a || b) ≡ false → b ≡ false
or_second true b e = cc
or_second false b e = e

or_first : (a b : Bool) → (a || b) ≡ true → b ≡ false → a ≡ true
or_first true b e f = refl
or_first false b e f = cc

free_stays : (k : ℕ) (w : List Passage) → holds w k ≡ false → holds (drop 1 w) k ≡ false
free_stays k [] e = refl
free_stays k (p ∷ w) e = or_second (p.number == k - 4) (holds w k) e

-- the first train, where it is there, has its number
first_number : (j : ℕ) (p : Passage) (w : List Passage) (train : ℕ) → first_train j (p ∷ w) ≡ Some train → p.number ≡ j
first_number j p w train e = go (p.number == j) refl e where
  go : (is : Bool) → (p.number == j) ≡ is → cond is (Some p.train) None ≡ Some train → p.number ≡ j
  go true is f = eqb-true p.number j is
  go false is f = absurd cc

-- a train that leaves a full line, and after which it isn't full, is the one four before
only_first : (j k : ℕ) (w : List Passage) (train : ℕ) → first_train j w ≡ Some train → holds w k ≡ true
    → holds (drop 1 w) k ≡ false → j ≡ k - 4
only_first j k [] train e full free = absurd cc
only_first j k (p ∷ w) train e full free =
    let one : p.number ≡ k - 4 = eqb-true p.number (k - 4) (or_first (p.number == k - 4) (holds w k) full free) in
    sym (first_number j p w train e) ∙ one

-- a train enters, and the first one is looked at or leaves
enters_and_stays : (k train j t : ℕ) (q : Reply) (w : List Passage) → first_train j w ≡ Some t → holds w k ≡ false
    → ((v : List Passage) → plain_line_made q v ≡ v) → ((v : List Passage) → first_train j v ≡ Some t
    → FitsPlainLine q v)
    → ChangePlaces (FitsPlainLine (Entered train k)) (FitsPlainLine q) (plain_line_made (Entered train k))
    (plain_line_made q) w
enters_and_stays k train j t q w e free still fits =
    record {
      first = ap (λ (v : List Passage). holds v k) (still w) ∙ free;
      second = fits (plain_line_made (Entered train k) w) (first_stays j w _ t e);
      word =
          still (plain_line_made (Entered train k) w) ∙ ap (λ (v : List Passage). plain_line_made (Entered train k) v)
          (sym (still w));
    }

enters_and_leaves : (k train j t : ℕ) (q : Reply) (w : List Passage) → first_train j w ≡ Some t → holds w k ≡ false
    → ((v : List Passage) → plain_line_made q v ≡ drop 1 v) → ((v : List Passage) → first_train j v ≡ Some t
    → FitsPlainLine q v)
    → ChangePlaces (FitsPlainLine (Entered train k)) (FitsPlainLine q) (plain_line_made (Entered train k))
    (plain_line_made q) w
enters_and_leaves k train j t q w e free leaves fits =
    record {
      first = ap (λ (v : List Passage). holds v k) (leaves w) ∙ free_stays k w free;
      second = fits (plain_line_made (Entered train k) w) (first_stays j w _ t e);
      word =
          leaves (plain_line_made (Entered train k) w) ∙ drop_first j w _ t e
          ∙ ap (λ (v : List Passage). plain_line_made (Entered train k) v) (sym (leaves w));
    }

-- a train enters, and no train j is found: it was the first, or the line is as it was for the other
alone_by : (j k train : ℕ) (is : Bool) → (k == j) ≡ is → (j ≡ k)
    ⊎ (first_train j (record { number = k; train = train } ∷ []) ≡ None)
alone_by j k train true e = inl (sym (eqb-true k j e))
alone_by j k train false e = inr (rw e refl)

unfound_by : (j k train : ℕ) (w : List Passage) → first_train j w ≡ None
    → (j ≡ k) ⊎ (first_train j (w ++ record { number = k; train = train } ∷ []) ≡ None)
unfound_by j k train [] e = alone_by j k train (k == j) refl
unfound_by j k train (p ∷ w) e = inr e

first_alone : (j k train : ℕ) (w : List Passage) → first_train j w ≡ None → j ≡ k
    → (first_train j (w ++ record { number = k; train = train } ∷ []) ≡ None → ⊥)
    ⊎ (first_train j (w ++ record { number = k; train = train } ∷ []) ≡ None)
first_alone j k train [] e f = inl (λ h. found (k == j) (eq-eqb k j (sym f)) h) where
  found : (is : Bool) → is ≡ true → cond is (Some train) None ≡ None → ⊥
  found true t h = cc
  found false t h = cc
first_alone j k train (p ∷ w) e f = inr e

entered_past : (k train : ℕ) (q : Reply) (w : List Passage) → IsInReply q → FitsPlainLine (Entered train k) w
    → FitsPlainLine q w → LineMoves (Entered train k) q w
entered_past k train (Approaching t j) w at f g =
    inr (inl (enters_and_stays k train j t (Approaching t j) w g f (λ v. refl) (λ v e. e)))
entered_past k train (PartBerthed t j) w at f g =
    inr (inl (enters_and_stays k train j t (PartBerthed t j) w g f (λ v. refl) (λ v e. e)))
entered_past k train (Berthed t j) w at f g =
    inr (inl (enters_and_leaves k train j t (Berthed t j) w g f (λ v. refl) (λ v e. e)))
entered_past k train (Cleared t j) w at f g =
    inr (inl (enters_and_leaves k train j t (Cleared t j) w g f (λ v. refl) (λ v e. e)))
entered_past k train (NoTrainAt j) w at f g =
    ⊎_elim (λ (e : j ≡ k). inl (same j k e))
    (λ (e : first_train j (w ++ record { number = k; train = train } ∷ []) ≡ None).
    inr (inl (record { first = f; second = e; word = refl }))) (unfound_by j k train w g)
entered_past k train (TrainNotYet j) w at f g =
    ⊎_elim (λ (e : j ≡ k). inl (same j k e))
    (λ (e : first_train j (w ++ record { number = k; train = train } ∷ []) ≡ None).
    inr (inl (record { first = f; second = e; word = refl }))) (unfound_by j k train w g)
entered_past k train (Entered t n) w at f g = absurd at
entered_past k train (SectionFull n) w at f g = absurd at
entered_past k train q w at f g = absurd g

-- a line that is full, and the first train leaves it: it stays full, or the train was the fourth before
full_and_leaves : (k j t : ℕ) (q : Reply) (w : List Passage) (is : Bool) → holds (drop 1 w) k ≡ is → holds w k ≡ true
    → first_train j w ≡ Some t → 0 < j → ((v : List Passage) → plain_line_made q v ≡ drop 1 v) → FitsPlainLine q w
    → ChangePlaces (FitsPlainLine (SectionFull k)) (FitsPlainLine q) (plain_line_made (SectionFull k))
    (plain_line_made q) w ⊎ ((k ≡ j + 4) × (holds (plain_line_made q w) k ≡ false))
full_and_leaves k j t q w true still full e pos leaves g =
    inl (record { first = ap (λ (v : List Passage). holds v k) (leaves w) ∙ still; second = g; word = refl })
full_and_leaves k j t q w false still full e pos leaves g =
    let one = only_first j k w t e full still in
    inr (omega (arith, one, pos), ap (λ (v : List Passage). holds v k) (leaves w) ∙ still)

full_past_one : (k j t : ℕ) (q : Reply) (w : List Passage) → ChangePlaces (FitsPlainLine (SectionFull k))
    (FitsPlainLine q) (plain_line_made (SectionFull k)) (plain_line_made q) w
    ⊎ ((k ≡ j + 4) × (holds (plain_line_made q w) k ≡ false)) → LineMoves (SectionFull k) q w
full_past_one k j t q w (inl s) = inr (inl s)
full_past_one k j t q w (inr lost) = inr (inr lost.1)

full_past : (k : ℕ) (q : Reply) (w : List Passage) → IsInReply q → FitsPlainLine (SectionFull k) w → FitsPlainLine q w
    → LineMoves (SectionFull k) q w
full_past k (Approaching t j) w at f g = inr (inl (record { first = f; second = g; word = refl }))
full_past k (PartBerthed t j) w at f g = inr (inl (record { first = f; second = g; word = refl }))
full_past k (NoTrainAt j) w at f g = inr (inl (record { first = f; second = g; word = refl }))
full_past k (TrainNotYet j) w at f g = inr (inl (record { first = f; second = g; word = refl }))
full_past k (Berthed t j) w at f g =
    full_past_one k j t (Berthed t j) w (full_and_leaves k j t (Berthed t j) w (holds (drop 1 w) k) refl f g at
    (λ v. refl) g)
full_past k (Cleared t j) w at f g =
    full_past_one k j t (Cleared t j) w (full_and_leaves k j t (Cleared t j) w (holds (drop 1 w) k) refl f g at
    (λ v. refl) g)
full_past k (Entered t n) w at f g = absurd at
full_past k (SectionFull n) w at f g = absurd at
full_past k q w at f g = absurd g

-- what an entry of the box that sends makes of one of the box that takes
pub out_line_moves : (r q : Reply) (w : List Passage) → IsOutReply r → IsInReply q → FitsPlainLine r w
    → FitsPlainLine q w → LineMoves r q w
out_line_moves (Entered train k) q w out at f g = entered_past k train q w at f g
out_line_moves (SectionFull k) q w out at f g = full_past k q w at f g
out_line_moves (Approaching train j) q w out at f g = absurd out
out_line_moves (TrainNotYet j) q w out at f g = absurd out
out_line_moves (Berthed train j) q w out at f g = absurd out
out_line_moves (PartBerthed train j) q w out at f g = absurd out
out_line_moves (NoTrainAt j) q w out at f g = absurd out
out_line_moves (Cleared train j) q w out at f g = absurd out
out_line_moves r q w out at f g = absurd f

-- the other way round
turned_round : {W : Type 0} → (F G : W → Type 0) (m n : W → W) (w : W) → ChangePlaces F G m n w → ChangePlaces G F n m w
turned_round F G m n w s = record { first = s.second; second = s.first; word = sym s.word }

stays_and_enters : (r : Reply) (j t : ℕ) (q : Reply) (w : List Passage) → FitsPlainLine r w → first_train j w ≡ Some t
    → IsOutReply q → FitsPlainLine q w → ((v : List Passage) → plain_line_made r v ≡ v)
    → ((v : List Passage) → first_train j v ≡ Some t → FitsPlainLine r v) → LineMoves r q w
stays_and_enters r j t (Entered train k) w f e out g still fits =
    inr (inl (turned_round (FitsPlainLine (Entered train k)) (FitsPlainLine r) (plain_line_made (Entered train k))
    (plain_line_made r) w (enters_and_stays k train j t r w e g still fits)))
stays_and_enters r j t (SectionFull k) w f e out g still fits =
    inr (inl (record { first = f; second = ap (λ (v : List Passage). holds v k) (still w) ∙ g; word = refl }))
stays_and_enters r j t (Approaching train k) w f e out g still fits = absurd out
stays_and_enters r j t (TrainNotYet k) w f e out g still fits = absurd out
stays_and_enters r j t (Berthed train k) w f e out g still fits = absurd out
stays_and_enters r j t (PartBerthed train k) w f e out g still fits = absurd out
stays_and_enters r j t (NoTrainAt k) w f e out g still fits = absurd out
stays_and_enters r j t (Cleared train k) w f e out g still fits = absurd out
stays_and_enters r j t q w f e out g still fits = absurd g

berthed_full : (j t k : ℕ) (w : List Passage) → ChangePlaces (FitsPlainLine (SectionFull k))
    (FitsPlainLine (Berthed t j)) (plain_line_made (SectionFull k)) (plain_line_made (Berthed t j)) w
    ⊎ ((k ≡ j + 4) × (holds (plain_line_made (Berthed t j) w) k ≡ false)) → LineMoves (Berthed t j) (SectionFull k) w
berthed_full j t k w (inl s) =
    inr (inl (turned_round (FitsPlainLine (SectionFull k)) (FitsPlainLine (Berthed t j))
    (plain_line_made (SectionFull k)) (plain_line_made (Berthed t j)) w s))
berthed_full j t k w (inr kept) = inl (same k (j + 4) kept.0)

cleared_full : (j t k : ℕ) (w : List Passage) → ChangePlaces (FitsPlainLine (SectionFull k))
    (FitsPlainLine (Cleared t j)) (plain_line_made (SectionFull k)) (plain_line_made (Cleared t j)) w
    ⊎ ((k ≡ j + 4) × (holds (plain_line_made (Cleared t j) w) k ≡ false)) → LineMoves (Cleared t j) (SectionFull k) w
cleared_full j t k w (inl s) =
    inr (inl (turned_round (FitsPlainLine (SectionFull k)) (FitsPlainLine (Cleared t j))
    (plain_line_made (SectionFull k)) (plain_line_made (Cleared t j)) w s))
cleared_full j t k w (inr kept) = inl (same k (j + 4) kept.0)

berthed_past : (j t : ℕ) (q : Reply) (w : List Passage) → 0 < j → FitsPlainLine (Berthed t j) w → IsOutReply q
    → FitsPlainLine q w → LineMoves (Berthed t j) q w
berthed_past j t (Entered train k) w pos f out g =
    inr (inl (turned_round (FitsPlainLine (Entered train k)) (FitsPlainLine (Berthed t j))
    (plain_line_made (Entered train k)) (plain_line_made (Berthed t j)) w
    (enters_and_leaves k train j t (Berthed t j) w f g (λ v. refl) (λ v e. e))))
berthed_past j t (SectionFull k) w pos f out g =
    berthed_full j t k w (full_and_leaves k j t (Berthed t j) w (holds (drop 1 w) k) refl g f pos (λ v. refl) f)
berthed_past j t (Approaching train k) w pos f out g = absurd out
berthed_past j t (TrainNotYet k) w pos f out g = absurd out
berthed_past j t (Berthed train k) w pos f out g = absurd out
berthed_past j t (PartBerthed train k) w pos f out g = absurd out
berthed_past j t (NoTrainAt k) w pos f out g = absurd out
berthed_past j t (Cleared train k) w pos f out g = absurd out
berthed_past j t q w pos f out g = absurd g

cleared_past : (j t : ℕ) (q : Reply) (w : List Passage) → 0 < j → FitsPlainLine (Cleared t j) w → IsOutReply q
    → FitsPlainLine q w → LineMoves (Cleared t j) q w
cleared_past j t (Entered train k) w pos f out g =
    inr (inl (turned_round (FitsPlainLine (Entered train k)) (FitsPlainLine (Cleared t j))
    (plain_line_made (Entered train k)) (plain_line_made (Cleared t j)) w
    (enters_and_leaves k train j t (Cleared t j) w f g (λ v. refl) (λ v e. e))))
cleared_past j t (SectionFull k) w pos f out g =
    cleared_full j t k w (full_and_leaves k j t (Cleared t j) w (holds (drop 1 w) k) refl g f pos (λ v. refl) f)
cleared_past j t (Approaching train k) w pos f out g = absurd out
cleared_past j t (TrainNotYet k) w pos f out g = absurd out
cleared_past j t (Berthed train k) w pos f out g = absurd out
cleared_past j t (PartBerthed train k) w pos f out g = absurd out
cleared_past j t (NoTrainAt k) w pos f out g = absurd out
cleared_past j t (Cleared train k) w pos f out g = absurd out
cleared_past j t q w pos f out g = absurd g

unfound_past : (j : ℕ) (q : Reply) (w : List Passage) → FitsPlainLine (NoTrainAt j) w → IsOutReply q → FitsPlainLine q w
    → LineMoves (NoTrainAt j) q w
unfound_past j (Entered train k) w f out g =
    ⊎_elim
    (λ (e : j ≡ k). ⊎_elim (λ (lost : first_train j (w ++ record { number = k; train = train } ∷ []) ≡ None → ⊥).
    inr (inr lost)) (λ (h : first_train j (w ++ record { number = k; train = train } ∷ []) ≡ None).
    inr (inl (record { first = h; second = g; word = refl }))) (first_alone j k train w f e))
    (λ (h : first_train j (w ++ record { number = k; train = train } ∷ []) ≡ None).
    inr (inl (record { first = h; second = g; word = refl })))
    (unfound_by j k train w f)
unfound_past j (SectionFull k) w f out g = inr (inl (record { first = f; second = g; word = refl }))
unfound_past j (Approaching train k) w f out g = absurd out
unfound_past j (TrainNotYet k) w f out g = absurd out
unfound_past j (Berthed train k) w f out g = absurd out
unfound_past j (PartBerthed train k) w f out g = absurd out
unfound_past j (NoTrainAt k) w f out g = absurd out
unfound_past j (Cleared train k) w f out g = absurd out
unfound_past j q w f out g = absurd g

unseen_past : (j : ℕ) (q : Reply) (w : List Passage) → FitsPlainLine (TrainNotYet j) w → IsOutReply q
    → FitsPlainLine q w → LineMoves (TrainNotYet j) q w
unseen_past j (Entered train k) w f out g =
    ⊎_elim
    (λ (e : j ≡ k). ⊎_elim (λ (lost : first_train j (w ++ record { number = k; train = train } ∷ []) ≡ None → ⊥).
    inr (inr lost)) (λ (h : first_train j (w ++ record { number = k; train = train } ∷ []) ≡ None).
    inr (inl (record { first = h; second = g; word = refl }))) (first_alone j k train w f e))
    (λ (h : first_train j (w ++ record { number = k; train = train } ∷ []) ≡ None).
    inr (inl (record { first = h; second = g; word = refl })))
    (unfound_by j k train w f)
unseen_past j (SectionFull k) w f out g = inr (inl (record { first = f; second = g; word = refl }))
unseen_past j (Approaching train k) w f out g = absurd out
unseen_past j (TrainNotYet k) w f out g = absurd out
unseen_past j (Berthed train k) w f out g = absurd out
unseen_past j (PartBerthed train k) w f out g = absurd out
unseen_past j (NoTrainAt k) w f out g = absurd out
unseen_past j (Cleared train k) w f out g = absurd out
unseen_past j q w f out g = absurd g

-- and one of the box that takes of one of the box that sends
pub in_line_moves : (r q : Reply) (w : List Passage) → IsInReply r → IsOutReply q → FitsPlainLine r w
    → FitsPlainLine q w → LineMoves r q w
in_line_moves (Entered train k) q w at out f g = absurd at
in_line_moves (SectionFull k) q w at out f g = absurd at
in_line_moves (Approaching t j) q w at out f g =
    stays_and_enters (Approaching t j) j t q w f f out g (λ v. refl) (λ v e. e)
in_line_moves (PartBerthed t j) q w at out f g =
    stays_and_enters (PartBerthed t j) j t q w f f out g (λ v. refl) (λ v e. e)
in_line_moves (Berthed t j) q w at out f g = berthed_past j t q w at f out g
in_line_moves (Cleared t j) q w at out f g = cleared_past j t q w at f out g
in_line_moves (NoTrainAt j) q w at out f g = unfound_past j q w f out g
in_line_moves (TrainNotYet j) q w at out f g = unseen_past j q w f out g
in_line_moves r q w at out f g = absurd f

-- a line that is free of a train stays so while the other end works it
pub free_after : (k : ℕ) (q : Reply) (w : List Passage) → IsInReply q → holds w k ≡ false
    → holds (plain_line_made q w) k ≡ false
free_after k (Entered t n) w at e = absurd at
free_after k (Berthed t j) w at e = free_stays k w e
free_after k (Cleared t j) w at e = free_stays k w e
free_after k q w at e = e

-- a first train stays there
found_after : (j : ℕ) (q : Reply) (w : List Passage) → IsOutReply q → (first_train j w ≡ None → ⊥)
    → first_train j (plain_line_made q w) ≡ None → ⊥
found_after j (Entered t k) [] out found e = found refl
found_after j (Entered t k) (p ∷ w) out found e = found e
found_after j (Berthed t k) w out found e = out
found_after j (Cleared t k) w out found e = out
found_after j q w out found e = found e

-- what the box that sends lost stays lost
pub out_line_stays : (r q : Reply) (w : List Passage) → IsOutReply r → IsInReply q → IsLostOnPlainLine r w
    → IsLostOnPlainLine r (plain_line_made q w)
out_line_stays (SectionFull k) q w out at lost = free_after k q w at lost
out_line_stays (NoTrainAt j) q w out at lost = absurd out
out_line_stays (TrainNotYet j) q w out at lost = absurd out
out_line_stays r q w out at lost = absurd lost

-- and so does what the box that takes lost
pub in_line_stays : (r q : Reply) (w : List Passage) → IsInReply r → IsOutReply q → IsLostOnPlainLine r w
    → IsLostOnPlainLine r (plain_line_made q w)
in_line_stays (SectionFull k) q w at out lost = absurd at
in_line_stays (NoTrainAt j) q w at out lost = found_after j q w out lost
in_line_stays (TrainNotYet j) q w at out lost = found_after j q w out lost
in_line_stays r q w at out lost = absurd lost

-- what is lost doesn't fit
pub line_lost : (r : Reply) (w : List Passage) → IsLostOnPlainLine r w → FitsPlainLine r w → ⊥
line_lost (SectionFull k) w lost f = cc
line_lost (NoTrainAt j) w lost f = lost f
line_lost (TrainNotYet j) w lost f = lost f
line_lost r w lost f = lost
