-- What a man knows beforehand, and what he is made to wait for, is what the crate keeps of it.
use Rattle.std.proofs.Common.{ℕ, ◌+◌, ◌<◌, ◌≤◌, ◌≡◌, ◌≢◌, ◌⊎◌, inl, inr, ⊎_elim, Bool, true, false, List, Option}
use Rattle.std.proofs.Common.{Some, None, refl, sym, ap, subst, ◌∙◌, arith}
use Rattle.std.specs.Prelude.{slice_get, if◌then◌else◌}
use Rattle.std.proofs.lemmas.Bool.{both_ways, cases_eq}
use Rattle.line_plan.specs.Plans.{PlanFields}
use Rattle.line_law.specs.declared.call.Entry.{Entry}
use Rattle.line_races.specs.Keys.{other_end}
use Rattle.line_races.specs.Marks.{is_await}
use Rattle.line_races.specs.Nearest.{is_above, known_before, known_then, later_of, maker_at}
use Rattle.line_races.specs.Races.{AreOfOneBox, AreRelated, ComesBefore, Directly, FindsMark, IsAwaitedAt, IsKnownAt}
use Rattle.line_races.specs.Races.{IsWaitedFor, MakesPossible, maker_of, mark_of}
use Rattle.line_races.specs.declared.marks.Mark.{Mark}
use Rattle.line_races.proofs.Crossing.{Crosses, IsAboveIt, IsBelowIt, comes_earlier, crosses_down, crosses_up}
use Rattle.line_races.proofs.Crossing.{crossing_before, mark_side, own_before, side_of}
use Rattle.line_races.proofs.Founds.{one_entry}
use Rattle.line_races.proofs.KeyLaws.{at_other_end}
use Rattle.line_races.proofs.Knowing.{HasLearned, is_kept, maker_reaches, nearest_maker, was_learned}
use Rattle.line_races.proofs.Lasts.{IsNearestOf, IsReached, reached_by, reached_left, reached_right}

-- entry i, which stands before entry j, is of the box at the other end of the word of j
pub record IsOpposite (plan : PlanFields) (es : List Entry) (i j : ℕ) (x : Entry) : Type 0 where
  pub there : slice_get es j ≡ Some x
  pub first : Entry
  pub at : slice_get es i ≡ Some first
  pub earlier : i < j
  pub end : first.box_no ≡ other_end plan x

-- entries that are so related are opposite
pub are_opposite : (plan : PlanFields) (es : List Entry) (left sought : Entry → Option Mark) (i j : ℕ) (x : Entry)
    → slice_get es j ≡ Some x → AreRelated es (FindsMark plan left sought) i j → IsOpposite plan es i j x
are_opposite plan es left sought i j x there related =
    let same : related.second ≡ x = one_entry (slice_get es j) related.second x related.second_at there in
    record {
      there = there;
      first = related.first;
      at = related.first_at;
      earlier = related.earlier;
      end = at_other_end plan related.first related.second related.related.apart related.related.word
          ∙ ap (other_end plan) same;
    }

-- ---- what he knows beforehand

-- the side of a word of box c to which an entry of box b on it belongs
above_it : (plan : PlanFields) (b : ℕ) (x : Entry) → b ≡ x.box_no + 1 → IsAboveIt plan b x ⊎ IsBelowIt plan b x
    → is_above plan x ≡ true
above_it plan b x up side = ⊎_elim (λ (above : IsAboveIt plan b x). above.side)
    (λ (below : IsBelowIt plan b x). let box = below.box in absurd (omega arith)) side

below_it : (plan : PlanFields) (b : ℕ) (x : Entry) → b + 1 ≡ x.box_no → IsAboveIt plan b x ⊎ IsBelowIt plan b x
    → is_above plan x ≡ false
below_it plan b x down side = ⊎_elim (λ (above : IsAboveIt plan b x). let box = above.box in absurd (omega arith))
    (λ (below : IsBelowIt plan b x). below.side) side

-- a crossing before entry j into its box is learned there
learned_above : (plan : PlanFields) (es : List Entry) (b c i k j : ℕ) → b ≡ c + 1 → k < j → Crosses plan es b c i k
    → HasLearned plan es c true i j
learned_above plan es b c i k j next before crosses =
    let u = crosses.until in
    let from = crosses.from in
    let to = crosses.to in
    record {
      maker = crosses.maker;
      made = crosses.made;
      makes = crosses.makes;
      to = crosses.to;
      side = above_it plan crosses.makes.first.box_no crosses.makes.second (omega arith)
          (mark_side plan mark_of maker_of crosses.makes.first crosses.makes.second crosses.makes.related);
      behind = crosses.behind;
      before = omega arith;
    }

learned_below : (plan : PlanFields) (es : List Entry) (b c i k j : ℕ) → b + 1 ≡ c → k < j → Crosses plan es b c i k
    → HasLearned plan es c false i j
learned_below plan es b c i k j next before crosses =
    let u = crosses.until in
    let from = crosses.from in
    let to = crosses.to in
    record {
      maker = crosses.maker;
      made = crosses.made;
      makes = crosses.makes;
      to = crosses.to;
      side = below_it plan crosses.makes.first.box_no crosses.makes.second (omega arith)
          (mark_side plan mark_of maker_of crosses.makes.first crosses.makes.second crosses.makes.related);
      behind = crosses.behind;
      before = omega arith;
    }

-- the earlier entry of the man's own before which entry i comes: its box is that of x
own_at : (es : List Entry) (k j : ℕ) (x : Entry) → slice_get es j ≡ Some x → (r : AreRelated es AreOfOneBox k j)
    → r.first.box_no ≡ x.box_no
own_at es k j x there r =
    r.related ∙ ap (λ (e : Entry). e.box_no) (one_entry (slice_get es j) r.second x r.second_at there)

known_learned : (plan : PlanFields) (es : List Entry) (i j : ℕ) (x : Entry) (o : IsOpposite plan es i j x)
    → IsAboveIt plan o.first.box_no x ⊎ IsBelowIt plan o.first.box_no x → IsKnownAt plan es i j
    → HasLearned plan es x.box_no (is_above plan x) i j
known_learned plan es i j x o (inl above) known =
    let own : known.earlier.first.box_no ≡ x.box_no = own_at es known.own j x o.there known.earlier in
    let box = above.box in
    subst (λ (side : Bool). HasLearned plan es x.box_no side i j) (sym above.side)
    (learned_above plan es o.first.box_no x.box_no i known.own j above.box known.earlier.earlier
    (crosses_down plan es x.box_no i known.own o.first known.earlier.first (sym above.box) o.at known.earlier.first_at
    (omega arith) known.before))
known_learned plan es i j x o (inr below) known =
    let own : known.earlier.first.box_no ≡ x.box_no = own_at es known.own j x o.there known.earlier in
    let box = below.box in
    let crosses : Crosses plan es o.first.box_no (o.first.box_no + 1) i known.own =
    crosses_up plan es i known.own o.first known.earlier.first o.at known.earlier.first_at (omega arith) known.before in
    subst (λ (side : Bool). HasLearned plan es x.box_no side i j) (sym below.side)
    (learned_below plan es o.first.box_no x.box_no i known.own j below.box known.earlier.earlier
    (subst (λ (c : ℕ). Crosses plan es o.first.box_no c i known.own) below.box crosses))

-- where a man knows of an opposite entry beforehand, what is kept of it reaches as far
pub known_reached : (plan : PlanFields) (es : List Entry) (i j : ℕ) (x : Entry) → IsOpposite plan es i j x
    → IsKnownAt plan es i j → IsReached i (known_before plan es x.box_no (is_above plan x) j)
known_reached plan es i j x o known =
    is_kept plan es x.box_no (is_above plan x) i j
    (known_learned plan es i j x o (side_of plan o.first.box_no x o.end) known)

-- the boxes at the other ends of two words of one side are one
one_opposite : (plan : PlanFields) (b c : ℕ) (y x : Entry) → y.box_no ≡ x.box_no → is_above plan y ≡ is_above plan x
    → IsAboveIt plan b y ⊎ IsBelowIt plan b y → IsAboveIt plan c x ⊎ IsBelowIt plan c x → b ≡ c
one_opposite plan b c y x box side (inl up) (inl high) = let p = up.box in let q = high.box in omega arith
one_opposite plan b c y x box side (inr down) (inr low) = let p = down.box in let q = low.box in omega arith
one_opposite plan b c y x box side (inl up) (inr low) =
    absurd (both_ways (is_above plan x) low.side (sym side ∙ up.side))
one_opposite plan b c y x box side (inr down) (inl high) =
    absurd (both_ways (is_above plan y) down.side (side ∙ high.side))

-- the way back
pub reached_known : (plan : PlanFields) (es : List Entry) (i j : ℕ) (x : Entry) → IsOpposite plan es i j x
    → IsReached i (known_before plan es x.box_no (is_above plan x) j) → IsKnownAt plan es i j
reached_known plan es i j x o reached =
    let has : HasLearned plan es x.box_no (is_above plan x) i j =
    was_learned plan es x.box_no (is_above plan x) i j reached in
    let makes = has.makes in
    let box : makes.first.box_no ≡ o.first.box_no =
    one_opposite plan makes.first.box_no o.first.box_no makes.second x has.to has.side
    (mark_side plan mark_of maker_of makes.first makes.second makes.related)
    (side_of plan o.first.box_no x o.end) in
    record {
      own = has.made;
      earlier = record {
        earlier = has.before;
        first = makes.second;
        second = x;
        first_at = makes.second_at;
        second_at = o.there;
        related = has.to;
      };
      before = crossing_before plan es i has.maker has.made o.first o.at makes box has.behind;
    }

-- ---- what he waits for

-- what an await knows then reaches as far as its own maker
awaited_reached : (plan : PlanFields) (es : List Entry) (i j : ℕ) (x : Entry) → IsOpposite plan es i j x
    → IsAwaitedAt plan es i j → (is_await x.call.act ≡ true) × IsReached i (maker_at plan es j x)
awaited_reached plan es i j x o awaited =
    let same : awaited.await ≡ x = one_entry (slice_get es j) awaited.await x awaited.await_at o.there in
    let behind : i ≤ awaited.maker =
    ⊎_elim (λ (h : i ≡ awaited.maker). omega arith)
    (λ (h : ComesBefore plan es i awaited.maker). let lt = comes_earlier plan es i awaited.maker h in omega arith)
    awaited.before in (
      ap (λ (e : Entry). is_await e.call.act) (sym same) ∙ awaited.waits,
      maker_reaches plan es i awaited.maker j (maker_at plan es j x) behind (nearest_maker plan es j x o.there)
          awaited.makes,
    )

reached_awaited : (plan : PlanFields) (es : List Entry) (i j : ℕ) (x : Entry) → IsOpposite plan es i j x
    → is_await x.call.act ≡ true → (found : Option ℕ) → IsNearestOf (λ k. MakesPossible plan es k j) found
    → IsReached i found → IsAwaitedAt plan es i j
unfolding are_opposite
reached_awaited plan es i j x o waits None near reached = absurd reached
reached_awaited plan es i j x o waits (Some m) near reached =
    let makes : MakesPossible plan es m j = near.0 in
    let other = are_opposite plan es mark_of maker_of m j x o.there makes in
    let box : o.first.box_no ≡ makes.first.box_no = o.end ∙ sym other.end in
    record {
      await = x;
      await_at = o.there;
      waits = waits;
      maker = m;
      makes = makes;
      before = ⊎_elim (λ (same : i ≡ m). inl same)
          (λ (differ : i ≢ m).
          inr (Directly (own_before plan es i m o.first makes.first (omega arith) o.at makes.first_at box)))
          (cases_eq i m);
    }

then_left : (i : ℕ) (known maker : Option ℕ) (b : Bool) → IsReached i known
    → IsReached i (if b then later_of known maker else known)
then_left i known maker true reached = reached_left i known maker reached
then_left i known maker false reached = reached

-- where a man was made to wait for an opposite entry, what he knows once his entry is made reaches as far
pub waited_reached : (plan : PlanFields) (es : List Entry) (i j : ℕ) (x : Entry) → IsOpposite plan es i j x
    → IsWaitedFor plan es i j
    → IsReached i (known_then x (known_before plan es x.box_no (is_above plan x) j) (maker_at plan es j x))
waited_reached plan es i j x o (inl known) =
    then_left i (known_before plan es x.box_no (is_above plan x) j) (maker_at plan es j x) (is_await x.call.act)
    (known_reached plan es i j x o known)
waited_reached plan es i j x o (inr awaited) =
    let both = awaited_reached plan es i j x o awaited in
    let known : Option ℕ = known_before plan es x.box_no (is_above plan x) j in
    subst (λ (b : Bool). IsReached i (if b then later_of known (maker_at plan es j x) else known)) (sym both.0)
    (reached_right i known (maker_at plan es j x) both.1)

waited_by : (plan : PlanFields) (es : List Entry) (i j : ℕ) (x : Entry) → IsOpposite plan es i j x → (b : Bool)
    → is_await x.call.act ≡ b
    → IsReached i (if b then later_of (known_before plan es x.box_no (is_above plan x) j) (maker_at plan es j x)
    else known_before plan es x.box_no (is_above plan x) j)
    → IsWaitedFor plan es i j
waited_by plan es i j x o false waits reached = inl (reached_known plan es i j x o reached)
waited_by plan es i j x o true waits reached =
    ⊎_elim (λ r. inl (reached_known plan es i j x o r))
    (λ r. inr (reached_awaited plan es i j x o waits (maker_at plan es j x) (nearest_maker plan es j x o.there) r))
    (reached_by i (known_before plan es x.box_no (is_above plan x) j) (maker_at plan es j x) reached)

-- the way back
pub reached_waited : (plan : PlanFields) (es : List Entry) (i j : ℕ) (x : Entry) → IsOpposite plan es i j x
    → IsReached i (known_then x (known_before plan es x.box_no (is_above plan x) j) (maker_at plan es j x))
    → IsWaitedFor plan es i j
reached_waited plan es i j x o reached = waited_by plan es i j x o (is_await x.call.act) refl reached
