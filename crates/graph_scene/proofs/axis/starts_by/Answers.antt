use Rattle.std.proofs.Common.{◌≡◌, ◌<◌, ◌^◌, ℕ, length, arith}
use Rattle.std.proofs.lemmas.List.Elements.{All-push, All-same}
use Rattle.std.proofs.lemmas.List.FromFn.{map-range_with_len_more}
use Rattle.std.proofs.lemmas.List.Sums.{sum_by_more}
use Rattle.graph_scene.specs.Moments.{start_by, width_for}
use Rattle.graph_scene.proofs.axis.starts_by.Goals as goal

pub loop-room-preserved : goal.loop-room-preserved
loop-room-preserved c =
    let rooms = c.args.rooms.now in
    let i = c.loop-room.room-index in
    let its = c.loop-room.invariant in
    let more = sum_by_more (width_for c.args.version) rooms i 0 c.loop-room-test.true in
    let longer = map-range_with_len_more (start_by c.args.version rooms) 0 i i (omega arith) in
    let pushed = c.in_ok-push.ensures.items in
    record {
      start = omega (arith, more, its.start, c.width_for-start.ensures.value);
      starts = cc (pushed, longer, its.start, its.starts);
      most = omega (arith, its.most, c.width_for-start.ensures.most);
      each = All-same (λ (start : ℕ). start < 2 ^ 60) _ _ pushed
          (All-push (λ (start : ℕ). start < 2 ^ 60) c.loop-room.starts.items c.loop-room.start its.each
          (omega (arith, its.most, c.requires.few, c.loop-room-test.true)));
    }

pub returns-clause-value : goal.returns-clause-value
returns-clause-value c =
    let rooms = c.args.rooms.now in
    let i = c.loop-room.room-index in
    let its = c.loop-room.invariant in
    let all : i ≡ length rooms = omega (arith, c.loop-room-test.false, c.loop-room.auto.room-index-end) in
    let end = length rooms in
    let longer = map-range_with_len_more (start_by c.args.version rooms) 0 end end (omega arith) in
    let pushed = c.in_ok-push-2.ensures.items in
    cc (pushed, longer, its.start, its.starts, all)
