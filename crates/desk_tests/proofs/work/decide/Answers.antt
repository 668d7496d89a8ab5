use Rattle.desk_tests.proofs.Calls.{finish_done, meets}
use Rattle.desk_tests.proofs.work.decide.Goals as goal

pub finish-requires-clause-asked : goal.finish-requires-clause-asked
finish-requires-clause-asked c =
    let r = c.requires in
    let operated = c.operate_all-met.ensures r.0 r.1 r.2 r.3 r.4 in (
      r.0,
      c.args.box_no,
      r.3.asked,
      meets r.0 r.1 c.args.box_no c.args.desk.now c.args.ask r.3 c.args.boxes r.2 c.args.words.now r.4
          c.operate_all-met.result operated.met_is,
    )

pub returns : goal.returns
returns c = λ plan es wide asks holds. finish_done plan es c.args.box_no c.args.desk.now c.args.ask asks c.args.boxes
    wide c.args.words.now holds c.operate_all-met.result c.finish.result c.finish.new.self c.operate_all-met.new.words
    (c.operate_all-met.ensures plan es wide asks holds)
    (c.finish.ensures.told plan c.args.box_no asks.asked.desk_of) c.finish.ensures.kept
