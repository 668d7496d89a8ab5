-- A step of the merge, from one box that is awake to the next: what is kept.
use Rattle.std.proofs.Common.{ℕ, ◌+◌, ◌++◌, ◌≡◌, ◌≢◌, ◌<◌, ◌≤◌, List, [], ◌∷◌, Some, Bool, true, false, drop, length}
use Rattle.std.proofs.Common.{slice_index_or, refl, sym, ap, subst, ◌∙◌, ⊎_elim, arith}
use Rattle.std.specs.Prelude.{slice_set}
use Rattle.std.proofs.lemmas.Bool.Decides.{eqb_tells}
use Rattle.std.proofs.lemmas.List.{get_or-set_other, length-set}
use Rattle.line_plan.specs.Plans.{IsPlan, PlanFields}
use Rattle.line_law.specs.declared.call.Entry.{Entry}
use Rattle.line_law.specs.declared.state.PairState.{PairState}
use Rattle.word_laws.specs.TellsWord.{kind_told}
use Rattle.line_journal.specs.declared.merging.MergeState.{MergeState}
use Rattle.line_journal.specs.declared.keeper.Keeper.{Keeper}
use Rattle.line_journal.specs.FitTests.{is_word}
use Rattle.line_journal.specs.Halves.{made, pair_for}
use Rattle.line_journal.specs.Keepers.{AreKeepers, IsFirstAwake, IsOpen, IsPlacing, opens_from, pair_woken, woken}
use Rattle.line_journal.specs.Lists.{count_left}
use Rattle.line_journal.specs.Merging.{AreOfLine, HoldsAt, IsUnderWay, Merges}
use Rattle.line_journal.specs.Order.{list_at, placed}
use Rattle.line_journal.specs.Walks.{AreTalliesPlaced, Leaves, walked}
use Rattle.line_journal.proofs.Answering.{awake_below, below_as, placing_left, placing_merges, same_merges}
use Rattle.line_journal.proofs.Looping.{of_boxes, own_box, pair_count}
use Rattle.line_journal.proofs.Nearby.{asleep_as, none_opens, none_wakes}
use Rattle.line_journal.proofs.Opening.{below_next}
use Rattle.line_journal.proofs.KeepersIn.{keepers_next}
use Rattle.line_journal.proofs.Tallies.{next_leaves, next_walked, tallies_kept, tallies_leave}

-- ---- the next entry of a box is placed or passed over

past_asleep : (awake : List Bool) (b c : ℕ) → c ≢ b → slice_index_or (slice_set awake b false) c true ≡ false
    → slice_index_or awake c true ≡ false
past_asleep awake b c other down = sym (get_or-set_other awake b c false true other) ∙ down

-- a box that isn't open falls asleep
pub holds_past : {plan : PlanFields} {pairs after : List PairState} {lists left : List (List Entry)}
    {keepers cut : List (List Keeper)} {awake woke : List Bool} {b from : ℕ}
    → IsUnderWay plan pairs lists keepers awake b → b < length lists → (IsOpen plan pairs lists b → ⊥)
    → AreKeepers plan lists cut → after ≡ pairs → left ≡ lists → woke ≡ slice_set awake b false → from ≡ b + 1
    → IsUnderWay plan after left cut woke from
holds_past {plan} {pairs} {after} {lists} {left} {keepers} {cut} {awake} {woke} {b} {from}
    holds within shut are p l a f = record {
      are_keepers = subst (λ (ls : List (List Entry)). AreKeepers plan ls cut) (sym l) are;
      each = ap (λ (bs : List Bool). length bs) a ∙ length-set awake b false ∙ holds.each
          ∙ ap (λ (ls : List (List Entry)). length ls) (sym l);
      asleep = asleep_as plan pairs after lists left (slice_set awake b false) woke p l a
          (λ c down was. ⊎_elim
          (λ mine. shut (subst (λ (k : ℕ). IsOpen plan pairs lists k) mine.1 was))
          (λ other. holds.asleep c (past_asleep awake b c other.1 down) was)
          (eqb_tells c b));
      below = below_as plan pairs after lists left (b + 1) from p l f
          (below_next (λ c. IsOpen plan pairs lists c) b holds.below shut);
    }

-- the next entry of one that is open is placed
pub holds_behind : {plan : PlanFields} {pairs after : List PairState} {lists left : List (List Entry)}
    {keepers cut : List (List Keeper)} {awake woke : List Bool} {b from : ℕ} {e : Entry}
    → AreOfLine plan pairs lists → IsUnderWay plan pairs lists keepers awake b → b < length lists
    → list_at lists b ≡ e ∷ drop 1 (list_at lists b) → is_word (kind_told e.reply) ≡ true
    → IsOpen plan pairs lists b → AreKeepers plan lists cut → after ≡ made plan pairs e → left ≡ placed lists b
    → woke ≡ pair_woken (pair_for plan e) awake → from ≡ pair_for plan e → IsUnderWay plan after left cut woke from
holds_behind {plan} {pairs} {after} {lists} {left} {keepers} {cut} {awake} {woke} {b} {from} {e}
    line holds within next word was are p l a f =
    let own = (own_box plan lists b e _ line.boxes next).own in
    let wakes : woken plan e awake ≡ pair_woken (pair_for plan e) awake = rw word refl in
    let opens : opens_from plan e ≡ pair_for plan e = rw word refl in
    record {
      are_keepers = subst (λ (ls : List (List Entry)). AreKeepers plan ls cut) (sym l)
          (keepers_next plan lists cut b are within);
      each = ap (λ (bs : List Bool). length bs) a
          ∙ length-set (slice_set awake (pair_for plan e) true) (pair_for plan e + 1) true
          ∙ length-set awake (pair_for plan e) true ∙ holds.each ∙ sym (length-set lists b _)
          ∙ ap (λ (ls : List (List Entry)). length ls) (sym l);
      asleep = asleep_as plan (made plan pairs e) after (placed lists b) left (woken plan e awake) woke p l
          (a ∙ sym wakes) (none_wakes plan pairs lists b e _ awake line.boxes next was holds.asleep);
      below = below_as plan (made plan pairs e) after (placed lists b) left (opens_from plan e) from p l
          (f ∙ sym opens) (none_opens plan pairs lists b e _ line.boxes next own holds.below);
    }

-- ---- from box to box

-- the entries of these boxes are done
pub record IsMerging (plan : PlanFields) (all : List (List Entry)) (boxes : List ℕ) (merge : MergeState) : Type 0
  where
    pub merges : Merges plan all (walked all boxes) merge.pairs.items merge.left
    pub leaves : Leaves all boxes merge.left
    pub count : length merge.left ≡ length plan.boxes
    pub holds : HoldsAt plan merge merge.from

-- the merge has come to box b, and its next entries that were decided on its own tally are placed
pub record IsReached (plan : PlanFields) (all : List (List Entry)) (boxes : List ℕ) (lists : List (List Entry))
    (merge : MergeState) (b : ℕ) : Type 0 where
  pub merges : Merges plan all (walked all boxes) merge.pairs.items merge.left
  pub leaves : Leaves all boxes merge.left
  pub line : AreOfLine plan merge.pairs.items merge.left
  pub holds : HoldsAt plan merge b
  pub within : b < length merge.left
  pub fewer : count_left merge.left ≤ count_left lists

-- the first box that is awake is one of those that there are
pub awake_within : {awake asked : List Bool} (lists : List (List Entry)) {from b : ℕ} → asked ≡ awake
    → length awake ≡ length lists → IsFirstAwake asked from (Some b) → b < length lists
awake_within {awake} {asked} lists {from} {b} same each first =
    let count : length asked ≡ length awake = ap (λ (bs : List Bool). length bs) same in
    omega (arith, first.1, count, each)

-- the merge comes to the first box that is awake, and places its tallies
pub reached : {plan : PlanFields} {all : List (List Entry)} {boxes more : List ℕ} {merge : MergeState}
    {left : List (List Entry)} {asked : List Bool} {b : ℕ} → IsPlan plan → IsMerging plan all boxes merge
    → asked ≡ merge.awake.items → IsFirstAwake asked merge.from (Some b)
    → AreTalliesPlaced b boxes merge.left more left
    → IsReached plan all more merge.left (record merge { left = left }) b
reached {plan} {all} {boxes} {more} {merge} {left} {asked} {b} is m same first put =
    let within = awake_within merge.left same m.holds.each first in
    let keeps = tallies_kept all merge.left boxes more b left m.leaves within put in
    let kept = keeps.keeps plan all merge.pairs.items merge.awake.items merge.keepers.items is (record {
      merges = m.merges;
      below = awake_below plan merge.pairs.items merge.left merge.awake.items asked merge.from b same m.holds.asleep
          m.holds.below first;
      asleep = m.holds.asleep;
      are_keepers = m.holds.are_keepers;
    }) in
    record {
      merges = kept.merges;
      leaves = tallies_leave m.leaves within put;
      line = record {
        words = pair_count plan all (walked all more) merge.pairs.items left kept.merges;
        count = keeps.count ∙ m.count;
        boxes = of_boxes plan all (walked all more) merge.pairs.items left is kept.merges;
      };
      holds = record {
        are_keepers = kept.are_keepers;
        each = m.holds.each ∙ sym keeps.count;
        asleep = kept.asleep;
        below = kept.below;
      };
      within = subst (λ (n : ℕ). b < n) (sym keeps.count) within;
      fewer = keeps.fewer;
    }

-- its next entry is placed
pub next_placed : {plan : PlanFields} {all : List (List Entry)} {boxes more : List ℕ} {lists : List (List Entry)}
    {merge after : MergeState} {b : ℕ} {e : Entry} → IsPlan plan → IsReached plan all boxes lists merge b
    → IsPlacing plan merge.pairs.items merge.left b e after.pairs.items after.left → more ≡ boxes ++ b ∷ []
    → HoldsAt plan after after.from → IsMerging plan all more after
next_placed {plan} {all} {boxes} {more} {lists} {merge} {after} {b} {e} is here placing told holds = record {
  merges =
      placing_merges plan all (walked all boxes) merge.pairs.items merge.left b e after.pairs.items after.left
      (walked all more) is here.merges here.holds.below placing (next_walked b here.leaves placing.next told);
  leaves = next_leaves b here.leaves placing.next told placing.rest;
  count = placing_left plan merge.pairs.items merge.left b e after.pairs.items after.left placing ∙ here.line.count;
  holds = holds;
}

-- or it isn't, and all is as it was
pub none_placed : {plan : PlanFields} {all : List (List Entry)} {boxes : List ℕ} {lists : List (List Entry)}
    {merge after : MergeState} {b : ℕ} → IsReached plan all boxes lists merge b
    → after.pairs.items ≡ merge.pairs.items → after.left ≡ merge.left → HoldsAt plan after after.from
    → IsMerging plan all boxes after
none_placed {plan} {all} {boxes} {lists} {merge} {after} here words as_it_was holds = record {
  merges =
      same_merges plan all (walked all boxes) merge.pairs.items after.pairs.items merge.left after.left here.merges
      words as_it_was;
  leaves = record { walk = here.leaves.walk; behind = as_it_was ∙ here.leaves.behind };
  count = ap (λ (ls : List (List Entry)). length ls) as_it_was ∙ here.line.count;
  holds = holds;
}
