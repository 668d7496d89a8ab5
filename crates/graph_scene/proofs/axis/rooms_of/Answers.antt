use Rattle.std.proofs.Common.{◌≡◌, ◌∙◌, ℕ, ◌+◌, List, length, get_or, take, ap, arith}
use Rattle.std.proofs.lemmas.List.{take_at}
use Rattle.std.proofs.lemmas.List.Elements.{All-get_or}
use Rattle.std.proofs.lemmas.List.FromFn.{map-range_with_len_more}
use Rattle.line_law.specs.Known.{moments_of}
use Rattle.graph_scene.specs.Moments.{IsOf, offset_of, rooms_of, with_room}
use Rattle.graph_scene.proofs.Rooms.{length-rooms, no_entry, offset_read, rooms_fit, rooms_on, rooms_reach}
use Rattle.graph_scene.proofs.axis.rooms_of.Goals as goal

pub take_room-requires-clause-moment : goal.take_room-requires-clause-moment
take_room-requires-clause-moment c =
    let plan = c.args.plan.now in
    let es = c.args.entries.now in
    let i = c.loop-entry.entry-index in
    let same : c.deref_mut.result.now ≡ rooms_of plan (take i es) = cc in
    rooms_reach plan es i _ _ (All-get_or (IsOf plan) es i no_entry c.loop-entry-test.true c.requires.of).1 same

pub take_room-requires-clause-few : goal.take_room-requires-clause-few
take_room-requires-clause-few c =
    let plan = c.args.plan.now in
    let es = c.args.entries.now in
    let i = c.loop-entry.entry-index in
    let same : c.deref_mut.result.now ≡ rooms_of plan (take i es) = cc in
    rooms_fit plan es i (get_or es i no_entry).call.moment _
    (All-get_or (IsOf plan) es i no_entry c.loop-entry-test.true c.requires.of).1 same c.requires.few

pub loop-entry-preserved : goal.loop-entry-preserved
loop-entry-preserved c =
    let plan = c.args.plan.now in
    let es = c.args.entries.now in
    let i = c.loop-entry.entry-index in
    let its = c.loop-entry.invariant in
    let within = c.loop-entry-test.true in
    let day = (All-get_or (IsOf plan) es i no_entry within c.requires.of).1 in
    let same : c.deref_mut.result.now ≡ rooms_of plan (take i es) = cc in
    let rooms = ap (with_room plan (get_or es i no_entry)) same ∙ rooms_on plan es i no_entry within day in
    let offset : c.take_room.result ≡ offset_of plan es i =
    c.take_room.ensures.offset
    ∙ (ap (λ (xs : List ℕ). get_or xs (get_or es i no_entry).call.moment 0) same
    ∙ offset_read plan es i no_entry within day) in
    let longer = map-range_with_len_more (offset_of plan es) 0 i i (omega arith) in
    let pushed = c.in_ok-push.ensures.items in
    let new : c.take_room.new.taken ≡ rooms_of plan (take (i + 1) es) = c.take_room.ensures.taken ∙ rooms in
    let long_new : length c.take_room.new.taken ≡ moments_of plan.version =
    ap length new ∙ length-rooms plan (take (i + 1) es) in
    let long_old : length c.deref_mut.result.now ≡ moments_of plan.version =
    ap length same ∙ length-rooms plan (take i es) in
    let long = c.deref_mut.ensures.len in
    record {
      taken = take_at c.take_room.new.taken _ c.loop-entry.taken.len (omega (arith, long_new, long_old, long)) ∙ new;
      offsets = cc (pushed, longer, offset, its.offsets);
    }
