use Rattle.std.proofs.Common.{inl, inr, sym, ◌∙◌}
use Rattle.desk_tests.proofs.Calls.{first_done, first_met, first_within, meets, second_done, second_within}
use Rattle.desk_tests.proofs.work.operate_all.Goals as goal

pub operate-met-requires : goal.operate-met-requires
operate-met-requires c =
    let r = c.requires in
    first_within r.0 r.1 c.args.box_no c.args.desk.now c.args.ask.now r.3 c.args.boxes r.2 c.args.words.now r.4

pub returns-in_default : goal.returns-in_default
returns-in_default c = λ plan es wide asks holds. rw c.operate-met.ensures.made
    (first_done plan es c.args.box_no c.args.desk.now c.args.ask.now asks c.args.boxes wide c.args.words.now holds
    c.operate-met.result c.operate-met.ensures.met (inl c.in_default.is))

pub met-requires-clause-asked : goal.met-requires-clause-asked
met-requires-clause-asked c =
    let r = c.requires in (
      r.0,
      c.args.box_no,
      r.3.asked,
      meets r.0 r.1 c.args.box_no c.args.desk.now c.args.ask.now r.3 c.args.boxes r.2 c.args.words.now r.4
          c.operate-met.result
          (first_met r.0 r.1 c.args.box_no c.args.desk.now c.args.ask.now r.3 c.args.boxes r.2 c.args.words.now
          r.4 c.operate-met.result c.operate-met.ensures.met),
    )

pub returns-then-not-met : goal.returns-then-not-met
returns-then-not-met c = λ plan es wide asks holds. rw c.operate-met.ensures.made
    (first_done plan es c.args.box_no c.args.desk.now c.args.ask.now asks c.args.boxes wide c.args.words.now holds
    c.operate-met.result c.operate-met.ensures.met (inr (sym c.met.ensures.met ∙ c.if-not-met.true)))

pub operate-requires : goal.operate-requires
operate-requires c =
    let r = c.requires in
    second_within r.0 r.1 c.args.box_no c.args.desk.now c.args.ask.now r.3 c.args.boxes r.2 c.args.words.now r.4
    c.in-Some.second c.in-Some.is c.operate-met.result c.operate-met.ensures.met c.operate-met.new.words
    c.operate-met.ensures.made

pub returns : goal.returns
returns c = λ plan es wide asks holds. rw c.operate.ensures.made
    (second_done plan es c.args.box_no c.args.desk.now c.args.ask.now asks c.args.boxes wide c.args.words.now holds
    c.in-Some.second c.in-Some.is c.operate-met.result c.operate-met.ensures.met c.operate-met.new.words
    c.operate-met.ensures.made c.operate.result c.operate.ensures.met (sym c.met.ensures.met ∙ c.if-not-met.false))
