use Rattle.std.proofs.Common.{refl, slice_index_or}
use Rattle.row_texts.proofs.PlaceLemmas.{filed_next}
use Rattle.row_texts.proofs.places.places_by_key.Goals as goal

pub loop-place-preserved : goal.loop-place-preserved
loop-place-preserved c =
    filed_next c.args.most c.args.keys.now c.loop-place.lists.items c.file.new.lists.items
    (slice_index_or c.args.keys.now c.loop-place.place 0) c.loop-place.place 0 c.loop-place-test.true refl
    c.loop-place.invariant c.in_ok-file.ensures
