use Rattle.std.proofs.Common.{◌<◌, length, arith}
use Rattle.plan_draft.proofs.PlaceWords.{places_fail, places_next, stopped}
use Rattle.plan_draft.proofs.line_words.places_from.Goals as goal

pub push-requires : goal.push-requires
push-requires c = omega (arith, c.loop-i.invariant.1, c.loop-i-test.true, c.word_count-i-end.ensures, c.requires)

pub loop-i-preserved : goal.loop-i-preserved
loop-i-preserved c =
    let lt : c.loop-i.i < length c.args.words.now = omega (arith, c.loop-i-test.true, c.word_count-i-end.ensures) in (
      places_next c.args.names.now c.args.words.now c.loop-i.places.items c.push.new.self.items c.word.result.now
          c.loop-i.i c.in_ok-place.place _ lt c.loop-i.invariant.0 c.push.ensures.items c.word.ensures
          c.in_ok-place.ensures,
      omega (arith, c.loop-i.invariant.1, c.push.ensures.len),
    )

pub returns-in_err-place : goal.returns-in_err-place
returns-in_err-place c =
    let lt : c.loop-i.i < length c.args.words.now = omega (arith, c.loop-i-test.true, c.word_count-i-end.ensures) in
    let read = places_fail c.args.names.now c.args.words.now c.loop-i.places.items c.word.result.now c.loop-i.i _
    c.in_err-place.field-0.0 lt c.loop-i.invariant.0 c.word.ensures c.in_err-place.ensures in
    stopped _ c.from_residual.result _ c.in_err-place.field-0.0 c.from_residual.ensures.0 c.from_residual.ensures.1 read
