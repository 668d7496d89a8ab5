use Rattle.std.proofs.Common.{ℕ, ◌-◌, ◌<◌, ◌≤◌, ◌≡◌, ◌∙◌}
use Rattle.std.proofs.Common.{List, [], Bool, true, false, replicate, length, slice_index_or}
use Rattle.std.proofs.Common.{refl, sym, ap, subst, arith}
use Rattle.std.proofs.lemmas.List.{length-map, length-replicate}
use Rattle.std.specs.Prelude.{None}
use Rattle.line_plan.specs.Plans.{PlanFields}
use Rattle.line_law.specs.declared.call.Entry.{Entry}
use Rattle.line_law.specs.States.{opening_pair}
use Rattle.train_register.specs.Registers.{RegisterFields}
use Rattle.line_journal.specs.Lists.{count_left}
use Rattle.line_journal.specs.Order.{lists_of}
use Rattle.line_journal.specs.Walks.{walked}
use Rattle.line_journal.proofs.Answering.{farther_on, fewer_left, none_awake, space_for}
use Rattle.line_journal.proofs.InOrder.{merge_is}
use Rattle.line_journal.proofs.Looping.{ends, fewer, of_boxes, opens_at}
use Rattle.line_journal.proofs.Nearby.{all_awake}
use Rattle.line_journal.proofs.Opening.{lowest_set}
use Rattle.line_journal.proofs.Orders.{in_range}
use Rattle.line_journal.proofs.Steps.{next_placed, none_placed, reached}
use Rattle.line_journal.proofs.merging.merged_boxes.Goals as goal

pub open_keepers-requires : goal.open_keepers-requires
open_keepers-requires c =
    of_boxes c.args.plan.now _ [] c.in_ok-pairs.pairs.items c.in_ok-left.left c.meets_conditions.ensures
    (opens_at c.args.plan.now c.args.ended.now.registers [] c.in_ok-pairs.pairs.items c.in_ok-left.left
    c.meets_conditions.ensures c.requires refl
    (c.in_ok-pairs.ensures ∙ ap (λ (n : ℕ). replicate (n - 1) opening_pair) c.len.ensures
    ∙ ap (λ (p : PlanFields). replicate (length p.boxes - 1) opening_pair) c.plan.view_is)
    (c.in_ok-left.ensures ∙ ap (λ (rs : List RegisterFields). lists_of rs) c.as_slice.ensures))

pub loop-box_no-init : goal.loop-box_no-init
loop-box_no-init c =
    let all : c.in_ok-awake.awake.items ≡ replicate c.boxes.result true = c.in_ok-awake.ensures in
    let each : length c.in_ok-awake.awake.items ≡ length c.in_ok-left.left =
    ap (λ (bs : List Bool). length bs) all ∙ length-replicate c.boxes.result true ∙ c.boxes.ensures in
    let awake : (b : ℕ) → slice_index_or c.in_ok-awake.awake.items b true ≡ false → b < length c.in_ok-left.left → ⊥ =
    λ b down within. all_awake c.boxes.result b (sym (ap (λ (bs : List Bool). slice_index_or bs b true) all) ∙ down) in
    let left : c.in_ok-left.left ≡ lists_of c.args.ended.now.registers =
    c.in_ok-left.ensures ∙ ap (λ (rs : List RegisterFields). lists_of rs) c.as_slice.ensures in
    let none : c.in_ok-boxes.boxes.items ≡ [] = c.in_ok-boxes.ensures.items in
    record {
      merges =
          opens_at c.args.plan.now c.args.ended.now.registers
          (walked (lists_of c.args.ended.now.registers) c.in_ok-boxes.boxes.items) c.in_ok-pairs.pairs.items
          c.in_ok-left.left c.meets_conditions.ensures c.requires
          (ap (λ (bs : List ℕ). walked (lists_of c.args.ended.now.registers) bs) none)
          (c.in_ok-pairs.ensures ∙ ap (λ (n : ℕ). replicate (n - 1) opening_pair) c.len.ensures
          ∙ ap (λ (p : PlanFields). replicate (length p.boxes - 1) opening_pair) c.plan.view_is) left;
      leaves = rw none (record { walk = tt; behind = left });
      count = ap (λ (ls : List (List Entry)). length ls) left ∙ length-map _ _ ∙ c.requires.parts.each;
      holds = record {
        are_keepers = c.in_ok-keepers.ensures;
        each = each;
        asleep = λ b down was. awake b down (in_range c.in_ok-left.left b was.entry was.rest was.next);
        below = λ d less was. omega (arith, less);
      };
    }

pub place-requires-clause-line : goal.place-requires-clause-line
place-requires-clause-line c =
    (reached c.meets_conditions.ensures c.loop-box_no.invariant c.deref.ensures.value c.in-Some.ensures
    c.in_ok-place_tallies.ensures).line

pub place-requires-clause-holds : goal.place-requires-clause-holds
place-requires-clause-holds c =
    (reached c.meets_conditions.ensures c.loop-box_no.invariant c.deref.ensures.value c.in-Some.ensures
    c.in_ok-place_tallies.ensures).holds

pub place-requires-clause-box_no : goal.place-requires-clause-box_no
place-requires-clause-box_no c =
    (reached c.meets_conditions.ensures c.loop-box_no.invariant c.deref.ensures.value c.in-Some.ensures
    c.in_ok-place_tallies.ensures).within

pub place-requires-clause-space : goal.place-requires-clause-space
place-requires-clause-space c =
    let here =
    reached c.meets_conditions.ensures c.loop-box_no.invariant c.deref.ensures.value c.in-Some.ensures
    c.in_ok-place_tallies.ensures in
    space_for c.args.plan.now _ _ c.loop-box_no.merge.pairs.items c.place_tallies.new.left c.in-Some.box_no
    c.meets_conditions.ensures here.merges here.holds.below

pub loop-box_no-preserved-in-Continue-branch-7 : goal.loop-box_no-preserved-in-Continue-branch-7
loop-box_no-preserved-in-Continue-branch-7 c =
    next_placed c.meets_conditions.ensures
    (reached c.meets_conditions.ensures c.loop-box_no.invariant c.deref.ensures.value c.in-Some.ensures
    c.in_ok-place_tallies.ensures)
    c.if-place.ensures.placed.1 c.in_ok-push.ensures.items c.place.ensures.holds

pub loop-box_no-preserved : goal.loop-box_no-preserved
loop-box_no-preserved c =
    none_placed
    (reached c.meets_conditions.ensures c.loop-box_no.invariant c.deref.ensures.value c.in-Some.ensures
    c.in_ok-place_tallies.ensures)
    c.if-place.ensures.placed.0 c.if-place.ensures.placed.1 c.place.ensures.holds

pub loop-box_no-smaller-in-Continue-branch-7 : goal.loop-box_no-smaller-in-Continue-branch-7
loop-box_no-smaller-in-Continue-branch-7 c =
    let here =
    reached c.meets_conditions.ensures c.loop-box_no.invariant c.deref.ensures.value c.in-Some.ensures
    c.in_ok-place_tallies.ensures in
    let placing = c.if-place.ensures.placed.1 in
    let less : count_left c.place.new.self.left < count_left c.place_tallies.new.left =
    subst (λ (ls : List (List Entry)). count_left ls < count_left c.place_tallies.new.left) (sym placing.rest)
    (fewer c.place_tallies.new.left c.in-Some.box_no c.if-place.ensures.placed.0 _ placing.next) in
    let before = here.fewer in
    fewer_left (count_left c.loop-box_no.merge.left) (count_left c.place.new.self.left) (length c.args.plan.now.boxes)
    c.loop-box_no.merge.from c.place.new.self.from (omega (arith, less, before))

pub loop-box_no-smaller : goal.loop-box_no-smaller
loop-box_no-smaller c =
    let here =
    reached c.meets_conditions.ensures c.loop-box_no.invariant c.deref.ensures.value c.in-Some.ensures
    c.in_ok-place_tallies.ensures in
    let count : length c.deref.result.now ≡ length c.args.plan.now.boxes =
    ap (λ (bs : List Bool). length bs) c.deref.ensures.value ∙ c.loop-box_no.invariant.holds.each
    ∙ c.loop-box_no.invariant.count in
    let first = c.in-Some.ensures.0 in
    let within = c.in-Some.ensures.1 in
    let next = c.if-place.ensures.placed.2 in
    let few : count_left c.place.new.self.left ≤ count_left c.loop-box_no.merge.left =
    subst (λ (ls : List (List Entry)). count_left ls ≤ count_left c.loop-box_no.merge.left)
    (sym c.if-place.ensures.placed.1) here.fewer in
    farther_on (count_left c.loop-box_no.merge.left) (count_left c.place.new.self.left)
    (length c.args.plan.now.boxes) c.loop-box_no.merge.from c.place.new.self.from few (omega (arith, first, next))
    (omega (arith, first, within, count))

pub returns-clause-merge : goal.returns-clause-merge
returns-clause-merge c =
    let is = c.meets_conditions.ensures in
    let merge = c.loop-box_no.merge in
    let kept = c.loop-box_no.invariant in
    let none =
    lowest_set c.args.plan.now _ _ merge.pairs.items merge.left None is kept.merges
    (none_awake c.args.plan.now merge.pairs.items merge.left merge.awake.items c.deref.result.now merge.from
    c.deref.ensures.value kept.holds.each kept.holds.asleep kept.holds.below c.in_default.ensures) in
    merge_is c.args.plan.now c.args.ended.now.registers _ is c.requires
    (ends c.args.plan.now _ _ merge.pairs.items merge.left is kept.merges none)
