-- What a frame's type keeps as a lever is moved, and what holds a lever.
use Rattle.std.proofs.Common.{◌≡◌, ◌≢◌, ℕ, suc, ◌+◌, ◌-◌, ◌<◌, ◌≤◌, ◌^◌, List, [], ◌∷◌, length, replicate, Bool, true}
use Rattle.std.proofs.Common.{false, ◌==◌, ◌++◌, drop, take, if◌then◌else◌, ◌⊎◌, inl, inr, refl, sym, ap, ◌∙◌, subst}
use Rattle.std.proofs.Common.{arith}
use Rattle.std.specs.Prelude.{Option, Some, None, All, slice_index_or, slice_set}
use Rattle.std.proofs.Math.ListN.{length-set}
use Rattle.std.proofs.Math.Seq.{take-append_seam}
use Rattle.std.proofs.lemmas.Bool.Decides.{eqb_tells}
use Rattle.std.proofs.lemmas.List.{get_or-set_other, get_or-set_same, get_or_default, length-replicate}
use Rattle.locking_table.specs.declared.places.End.{End}
use Rattle.locking_table.specs.declared.places.End.TheVariants.{Normal as NormalEnd, Reversed as ReversedEnd}
use Rattle.locking_table.specs.declared.places.Stand.TheVariants.{AtMid}
use Rattle.locking_table.specs.declared.row.Holder.{Holder}
use Rattle.locking_table.specs.Places.{IsLever, LeverPlace, at_ends, end_at, stand_at, stand_of}
use Rattle.bridle_frame.specs.declared.bridle.Bridle.{Bridle}
use Rattle.bridle_frame.specs.declared.frame.Shift.TheVariants.{Shifted, HeldBy}
use Rattle.bridle_frame.specs.Seated.{BridleFits, IsSeated, holding_lever_in, seated}
use Rattle.bridle_frame.specs.Shifts.{first_holder, first_unseated, reply_of, shift_of}
use Rattle.bridle_frame.specs.Frames.{IsFrame, IsIndex, counted, first_lone, index_at, lying_in_each, no_bridle}
use Rattle.bridle_frame.specs.Frames.{one_fewer, one_more, used_by_all, using}
use Rattle.bridle_frame.proofs.Counts.{counted_moved, length-each}
use Rattle.bridle_frame.proofs.Indexes.{first_lone-using, is_index, used, within}
use Rattle.bridle_frame.proofs.Seats.{all_alike, all_moved, all_seated}

-- the levers stand as before but for the one that was moved
moved_place : (ends : List End) (lever : ℕ) (e : End) (n : ℕ) (test : Bool) → IsLever (length ends) lever
    → IsLever (length ends) n
    → ((test ≡ true) × (n ≡ lever)) ⊎ ((test ≡ false) × (n ≢ lever))
    → (if test then stand_at e else at_ends ends n) ≡ at_ends (slice_set ends (lever - 1) e) n
moved_place ends lever e n test is own (inl here) =
    rw (here.0, here.1) (sym (ap stand_at (get_or-set_same ends (lever - 1) e NormalEnd (let l = is in omega arith))))
moved_place ends lever e n test is own (inr away) =
    rw away.0
    (sym (ap stand_at
    (get_or-set_other ends (lever - 1) (n - 1) e NormalEnd
    (let l = is in let o = own in λ h. away.1 (omega (arith, h))))))

none_of : (o : Option ℕ) → reply_of o ≡ Shifted → o ≡ None
none_of None h = refl
none_of (Some n) h = cc

-- a frame stays one as a lever that nothing holds is moved, once the dogs that lie are counted less in the bridles
-- that it leaves and more in those that it reaches
pub moved_frame : (ends : List End) (bridles : List Bridle) (normal reversed : List (List ℕ)) (lever : ℕ) (e : End)
    (lying left between reached now : List ℕ) → IsFrame ends bridles normal reversed lying → IsLever (length ends) lever
    → shift_of ends lever bridles ≡ Shifted → left ≡ using 0 lever (end_at ends lever) bridles
    → reached ≡ using 0 lever e bridles → between ≡ counted one_fewer lying left
    → now ≡ counted one_more between reached
    → IsFrame (slice_set ends (lever - 1) e) bridles normal reversed now
moved_frame ends bridles normal reversed lever e lying left between reached now frame is told at_left at_reached less
    more =
    let same : length ends ≡ length (slice_set ends (lever - 1) e) = sym (length-set ends (lever - 1) e) in
    let mid =
    all_seated (stand_of ends lever AtMid) 1 bridles
    (none_of (first_unseated (stand_of ends lever AtMid) 1 bridles) told) in
    let moved : (n : ℕ) → IsLever (length ends) n
    → stand_of ends lever (stand_at e) n ≡ at_ends (slice_set ends (lever - 1) e) n =
    λ n own. moved_place ends lever e n (n == lever) is own (eqb_tells n lever) in
    record {
      few = frame.few;
      fits = subst (λ (n : ℕ). All (BridleFits n) bridles) same frame.fits;
      seated = all_alike (length ends) (stand_of ends lever (stand_at e)) (at_ends (slice_set ends (lever - 1) e)) moved
          bridles frame.fits (all_moved ends lever (stand_at e) bridles mid);
      index = λ end. subst (λ (n : ℕ). IsIndex n end bridles (index_at end normal reversed)) same (frame.index end);
      counts = rw (more, less, at_left, at_reached, frame.counts)
          (counted_moved ends (slice_set ends (lever - 1) e) lever (length ends) e bridles frame.fits moved);
    }

-- what is written into all of a list's room is the list
pub written : (room : ℕ) (xs ys : List ℕ) → length xs ≡ room → take room (xs ++ drop (length xs) ys) ≡ xs
written room xs ys h =
    ap (λ (n : ℕ). take n (xs ++ drop (length xs) ys)) (sym h) ∙ take-append_seam xs (drop (length xs) ys)

-- the holder by the first bridle's number
pub record HeldAt (places : LeverPlace) (lever from n : ℕ) (bs : List Bridle) : Type 0 where
  pub above : from ≤ n
  pub within : n < from + length bs
  pub is : first_holder places lever bs
      ≡ Some (record {
        lever = holding_lever_in (slice_index_or bs (n - from) no_bridle).dogs lever;
        row =
            (slice_index_or bs (n - from) no_bridle).row;
      })

at_next : (b : Bridle) (bs : List Bridle) (n from : ℕ) → from < n
    → slice_index_or (b ∷ bs) (n - from) no_bridle ≡ slice_index_or bs (n - (from + 1)) no_bridle
at_next b bs n from h = let e : n - from ≡ suc (n - (from + 1)) = omega arith in rw e refl

abbrev holder_by : Bridle → ℕ → Holder
holder_by b lever = record { lever = holding_lever_in b.dogs lever; row = b.row }

held_step : (ok : Bool) (places : LeverPlace) (lever from n : ℕ) (b : Bridle) (bs : List Bridle) → seated places b ≡ ok
    → (first_unseated places (from + 1) bs ≡ Some n → HeldAt places lever (from + 1) n bs)
    → (if ok then first_unseated places (from + 1) bs else Some from) ≡ Some n → HeldAt places lever from n (b ∷ bs)
held_step true places lever from n b bs is more h =
    let m = more h in
    let a = m.above in let w = m.within in
    record { above = omega arith; within = omega arith; is = rw (is, at_next b bs n from (omega arith)) m.is }
held_step false places lever from n b bs is more h =
    let e : from ≡ n = cc in
    let z : n - from ≡ 0 = omega arith in
    record { above = omega arith; within = omega arith; is = rw (is, z) refl }

pub held_at : (places : LeverPlace) (lever from n : ℕ) (bs : List Bridle) → first_unseated places from bs ≡ Some n
    → HeldAt places lever from n bs
held_at places lever from n [] h = cc
held_at places lever from n (b ∷ bs) h =
    held_step (seated places b) places lever from n b bs refl (held_at places lever (from + 1) n bs) h

free_step : (ok : Bool) (places : LeverPlace) (lever from : ℕ) (b : Bridle) (bs : List Bridle)
    → (first_unseated places (from + 1) bs ≡ None → first_holder places lever bs ≡ None)
    → (if ok then first_unseated places (from + 1) bs else Some from) ≡ None
    → (if ok then first_holder places lever bs else Some (holder_by b lever)) ≡ None
free_step true places lever from b bs more h = more h
free_step false places lever from b bs more h = cc

free_from : (places : LeverPlace) (lever from : ℕ) (bs : List Bridle) → first_unseated places from bs ≡ None
    → first_holder places lever bs ≡ None
free_from places lever from [] h = refl
free_from places lever from (b ∷ bs) h =
    free_step (seated places b) places lever from b bs (free_from places lever (from + 1) bs) h

-- where a lever is shifted, nothing holds it
pub free : (ends : List End) (lever : ℕ) (bs : List Bridle) → shift_of ends lever bs ≡ Shifted
    → first_holder (stand_of ends lever AtMid) lever bs ≡ None
free ends lever bs h =
    free_from (stand_of ends lever AtMid) lever 1 bs (none_of (first_unseated (stand_of ends lever AtMid) 1 bs) h)

some_of : (o : Option ℕ) (n : ℕ) → reply_of o ≡ HeldBy n → o ≡ Some n
some_of None n h = cc
some_of (Some m) n h = let e : m ≡ n = cc in ap (λ (k : ℕ). Some k) e

-- where a lever is held by a bridle, it is one of the frame's, and its row and the lever that it names are what
-- holds it
pub held : (ends : List End) (lever n : ℕ) (bs : List Bridle) → shift_of ends lever bs ≡ HeldBy n
    → HeldAt (stand_of ends lever AtMid) lever 1 n bs
held ends lever n bs h =
    held_at (stand_of ends lever AtMid) lever 1 n bs (some_of (first_unseated (stand_of ends lever AtMid) 1 bs) n h)

new_index : (levers : ℕ) (bridles : List Bridle) (normal reversed : List (List ℕ)) (end : End)
    → normal ≡ used_by_all (replicate levers []) NormalEnd 0 bridles
    → reversed ≡ used_by_all (replicate levers []) ReversedEnd 0 bridles → All (BridleFits levers) bridles
    → IsIndex levers end bridles (index_at end normal reversed)
new_index levers bridles normal reversed NormalEnd made_normal made_reversed fits =
    rw made_normal (is_index levers NormalEnd bridles fits)
new_index levers bridles normal reversed ReversedEnd made_normal made_reversed fits =
    rw made_reversed (is_index levers ReversedEnd bridles fits)

-- a frame with all its levers normal
pub new_frame : (levers : ℕ) (bridles : List Bridle) (ends : List End) (normal reversed : List (List ℕ))
    (lying : List ℕ) → ends ≡ replicate levers NormalEnd
    → normal ≡ used_by_all (replicate levers []) NormalEnd 0 bridles
    → reversed ≡ used_by_all (replicate levers []) ReversedEnd 0 bridles → lying ≡ lying_in_each (at_ends ends) bridles
    → length bridles < 2 ^ 32 → All (BridleFits levers) bridles
    → All (IsSeated (at_ends (replicate levers NormalEnd))) bridles → IsFrame ends bridles normal reversed lying
new_frame levers bridles ends normal reversed lying opens made_normal made_reversed counts few fits seated =
    let wide : levers ≡ length ends = rw opens (sym (length-replicate levers NormalEnd)) in
    record {
      few = few;
      fits = subst (λ (n : ℕ). All (BridleFits n) bridles) wide fits;
      seated = rw opens seated;
      index = λ end. subst (λ (n : ℕ). IsIndex n end bridles (index_at end normal reversed)) wide
          (new_index levers bridles normal reversed end made_normal made_reversed fits);
      counts = counts;
    }

-- what the index for an end gives for a lever
pub used_of : (ends : List End) (bridles : List Bridle) (normal reversed : List (List ℕ)) (lying : List ℕ) (lever : ℕ)
    (e : End) (uses ns rs : List (List ℕ)) (of numbers : List ℕ) → IsFrame ends bridles normal reversed lying
    → IsLever (length ends) lever → uses ≡ index_at e ns rs → ns ≡ normal → rs ≡ reversed
    → of ≡ slice_index_or uses (lever - 1) of → numbers ≡ of → numbers ≡ using 0 lever e bridles
used_of ends bridles normal reversed lying lever e uses ns rs of numbers frame is given at_normal at_reversed read
    same =
    let index : IsIndex (length ends) e bridles uses = rw (given, at_normal, at_reversed) (frame.index e) in
    let wide = index.wide in
    let less : lever - 1 < length uses = let l = is in omega (arith, wide) in
    same ∙ (read ∙ (get_or_default uses (lever - 1) of [] less ∙ used (length ends) lever e bridles uses index is))

-- the numbers are of bridles that are counted
pub used_within : (ends : List End) (bridles : List Bridle) (normal reversed : List (List ℕ)) (lying : List ℕ)
    (lever : ℕ) (e : End) (numbers counts : List ℕ) → IsFrame ends bridles normal reversed lying
    → numbers ≡ using 0 lever e bridles → length counts ≡ length lying → All (λ n. n < length counts) numbers
used_within ends bridles normal reversed lying lever e numbers counts frame is same =
    let wide : length counts ≡ length bridles = same ∙ (ap length frame.counts ∙ length-each (at_ends ends) bridles) in
    rw (wide, is) (within lever e bridles)

-- the counts of the bridles that a lever lies in tell whether it is shifted, and which bridle holds it
pub tested : (ends : List End) (bridles : List Bridle) (normal reversed : List (List ℕ)) (lying : List ℕ) (lever : ℕ)
    (counts numbers : List ℕ) → IsFrame ends bridles normal reversed lying → counts ≡ lying
    → numbers ≡ using 0 lever (end_at ends lever) bridles → first_lone counts numbers ≡ shift_of ends lever bridles
tested ends bridles normal reversed lying lever counts numbers frame same is =
    rw (same, is, frame.counts) (first_lone-using ends lever (length ends) bridles frame.fits frame.seated)

-- the holder that the first unseated bridle names
pub holding : (lever n : ℕ) (bridles : List Bridle) (b : Bridle) (named : ℕ) → 1 ≤ n → n < 1 + length bridles
    → slice_index_or bridles (n - 1) b ≡ b → named ≡ holding_lever_in b.dogs lever
    → Some (record { lever = named; row = b.row }) ≡ Some (holder_by (slice_index_or bridles (n - 1) no_bridle) lever)
holding lever n bridles b named above within at is =
    let same : slice_index_or bridles (n - 1) no_bridle ≡ b =
    get_or_default bridles (n - 1) no_bridle b (omega arith) ∙ at in
    rw (same, is) refl
