use Rattle.std.proofs.Common.{◌≡◌, ◌<◌, ◌^◌, ℕ, length, get_or, ap, arith, sym}
use Rattle.std.proofs.lemmas.List.Elements.{All-push, All-same}
use Rattle.std.proofs.lemmas.List.FromFn.{map-range_with_len_more}
use Rattle.std.proofs.lemmas.List.Sums.{sum_by_more}
use Rattle.graph_picture.specs.Places.{room_of, top_of}
use Rattle.graph_picture.proofs.layout.tops_by.Goals as goal

pub loop-box_plan-preserved : goal.loop-box_plan-preserved
loop-box_plan-preserved c =
    let boxes = c.args.boxes.now in
    let i = c.loop-box_plan.box_plan-index in
    let its = c.loop-box_plan.invariant in
    let more = sum_by_more room_of boxes i c.box_plan-item.result c.loop-box_plan-test.true in
    let room : room_of (get_or boxes i c.box_plan-item.result) ≡ room_of c.box_plan-item.result =
    ap room_of (sym c.box_plan-item.is) in
    let longer = map-range_with_len_more (top_of boxes) 0 i i (omega arith) in
    let pushed = c.in_ok-push.ensures.items in
    record {
      top = omega (arith, more, room, its.top, c.height_of.ensures.value);
      tops = cc (pushed, longer, its.top, its.tops);
      most = omega (arith, its.most, c.height_of.ensures.most);
      low = All-same (λ (top : ℕ). top < 2 ^ 40) _ _ pushed
          (All-push (λ (top : ℕ). top < 2 ^ 40) c.loop-box_plan.tops.items c.loop-box_plan.top its.low
          (omega (arith, its.most, c.requires.boxes, c.loop-box_plan-test.true)));
    }

pub returns-clause-value : goal.returns-clause-value
returns-clause-value c =
    let boxes = c.args.boxes.now in
    let i = c.loop-box_plan.box_plan-index in
    let its = c.loop-box_plan.invariant in
    let all : i ≡ length boxes =
    omega (arith, c.loop-box_plan-test.false, c.loop-box_plan.auto.box_plan-index-end) in
    let longer = map-range_with_len_more (top_of boxes) 0 (length boxes) (length boxes) (omega arith) in
    let pushed = c.in_ok-push-2.ensures.items in
    cc (pushed, longer, its.top, its.tops, all)
