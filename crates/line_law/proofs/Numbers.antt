-- The numbers of the trains on a plain line.
use Rattle.std.proofs.Common.{ℕ, ◌+◌, ◌-◌, ◌≡◌, ◌≤◌, ◌<◌, ◌⊎◌, inl, inr, List, [], ◌∷◌, ◌++◌, Option, Some, None}
use Rattle.std.proofs.Common.{length, length-append, drop, Bool, true, false, cond, IsTrue, refl, sym, ap, arith, eqb}
use Rattle.std.specs.Prelude.{◌||◌, ◌==◌}
use Rattle.std.proofs.lemmas.Bool.{eq-eqb}
use Rattle.std.proofs.lemmas.Bool.Decides.{eqb_tells}
use Rattle.line_law.specs.declared.state.Passage.{Passage}
use Rattle.line_law.specs.Arrivals.{first_train}
use Rattle.line_law.specs.Lines.{AreNumbered, HasRoom, IsFirst}
use Rattle.line_law.specs.Trains.{holds}

-- a plain line holds the trains that were sent and not yet taken
pub length_numbered : (taken sent : ℕ) (line : List Passage) → AreNumbered taken sent line → taken + length line ≡ sent
length_numbered taken sent [] n = omega (arith, n)
length_numbered taken sent (p ∷ line) n = omega (arith, length_numbered (taken + 1) sent line n.1)

-- a train that enters has the next number
pub numbered_push : (taken sent train : ℕ) (line : List Passage) → AreNumbered taken sent line
    → AreNumbered taken (sent + 1) (line ++ record { number = sent + 1; train = train } ∷ [])
numbered_push taken sent train [] n = (ap (λ k. k + 1) (sym n), ap (λ k. k + 1) n)
numbered_push taken sent train (p ∷ line) n = (n.0, numbered_push (taken + 1) sent train line n.1)

first_holds : (b : Bool) (rest : Bool) → b ≡ true → IsTrue (b || rest)
first_holds true rest e = refl
first_holds false rest e = cc

-- a line of four holds the train four before the next
full_holds : (taken sent : ℕ) (line : List Passage) → AreNumbered taken sent line → length line ≡ 4
    → IsTrue (holds line (sent + 1))
full_holds taken sent [] n four = absurd (omega (arith, four))
full_holds taken sent (p ∷ line) n four =
    let len = length_numbered (taken + 1) sent line n.1 in
    let e : p.number ≡ sent + 1 - 4 = omega (arith, n.0, four, len) in
    first_holds (p.number == sent + 1 - 4) _ (eq-eqb _ _ e)

four_cases : {n : ℕ} → ((eqb n 4 ≡ true) × (n ≡ 4)) ⊎ ((eqb n 4 ≡ false) × (n ≡ 4 → ⊥)) → n ≤ 4 → (n < 4) ⊎ (n ≡ 4)
four_cases (inl is) h = inr is.1
four_cases (inr no_four) h = inl (omega (arith, no_four.1))

pub less_or_four : (n : ℕ) → n ≤ 4 → (n < 4) ⊎ (n ≡ 4)
less_or_four n h = four_cases (eqb_tells n 4) h

room_by : (taken sent : ℕ) (line : List Passage) → AreNumbered taken sent line → (length line < 4) ⊎ (length line ≡ 4)
    → HasRoom sent line
room_by taken sent line n (inl less) = inl less
room_by taken sent line n (inr full) = inr (full_holds taken sent line n full)

-- a plain line has room for the next train, or holds the one four before it
pub has_room : (taken sent : ℕ) (line : List Passage) → AreNumbered taken sent line → length line ≤ 4
    → HasRoom sent line
has_room taken sent line n four = room_by taken sent line n (less_or_four (length line) four)

not_true : (b : Bool) → IsTrue b → b ≡ false → ⊥
not_true true t e = cc
not_true false t e = cc

few_by : (taken sent : ℕ) (line : List Passage) → AreNumbered taken sent line → holds line (sent + 1) ≡ false
    → (length line < 4) ⊎ (length line ≡ 4) → length line < 4
few_by taken sent line n e (inl less) = less
few_by taken sent line n e (inr four) = absurd (not_true _ (full_holds taken sent line n four) e)

-- a plain line that doesn't hold the train four before the next has fewer than four
pub not_full : (taken sent : ℕ) (line : List Passage) → AreNumbered taken sent line → length line ≤ 4
    → holds line (sent + 1) ≡ false → length line < 4
not_full taken sent line n four e = few_by taken sent line n e (less_or_four (length line) four)

-- a plain line with fewer than four trains has room for one more
pub push_four : (line : List Passage) (p : Passage) → length line < 4 → length (line ++ p ∷ []) ≤ 4
push_four line p few = simp length-append (omega (arith, few))

-- a train that enters behind others leaves the first one
pub push_first : (portion : Option ℕ) (line : List Passage) (p : Passage) → IsFirst portion line
    → IsFirst portion (line ++ p ∷ [])
push_first None line p h = tt
push_first (Some train) [] p h = absurd h
push_first (Some train) (q ∷ line) p h = h

-- what the first train with its number says of the line
pub record Heads (j train taken sent : ℕ) (line : List Passage) : Type 0 where
  pub rest : AreNumbered (taken + 1) sent (drop 1 line)
  pub few : length (drop 1 line) ≤ length line
  pub first : IsFirst (Some train) line

-- the train that is taken next is the first on the plain line
pub heads : (j train taken sent : ℕ) (line : List Passage) → first_train j line ≡ Some train
    → AreNumbered taken sent line → Heads j train taken sent line
heads j train taken sent [] e n = absurd cc
heads j train taken sent (p ∷ line) e n = record { rest = n.1; few = omega arith; first = go (p.number == j) e } where
  go : (t : Bool) → cond t (Some p.train) None ≡ Some train → p.train ≡ train
  go true same = cc
  go false same = absurd cc
