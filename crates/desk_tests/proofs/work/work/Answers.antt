use Rattle.std.proofs.Common.{ap, subst, ℕ}
use Rattle.block_words.specs.declared.WordOp.TheVariants as ops
use Rattle.line_law.specs.declared.call.Call.{Call}
use Rattle.word_laws.specs.WordPlaces.{word_place}
use Rattle.instrument_rule.specs.Calls.{op_word}
use Rattle.desk_tests.specs.DeskLines.{IsDone}
use Rattle.desk_tests.proofs.Calls.{asks_of, local_done, local_of}
use Rattle.desk_tests.proofs.work.work.Goals as goal

pub decide-requires : goal.decide-requires
decide-requires c =
    let r = c.requires in
    let asks = asks_of r.0 r.1 c.args.box_no c.args.call.now c.args.desk.now c.prepare.new.self c.prepare.result
    c.in-NeedsWord.ask r.3 r.4 (c.prepare.ensures r.0 c.args.box_no r.4.desk_of) c.in-NeedsWord.is in
    (r.0, r.1, r.2, asks.1, r.5)

pub returns-in-Local : goal.returns-in-Local
returns-in-Local c = λ plan es wide ready desk holds. rw c.operate.ensures.made
    (local_done plan es c.args.box_no c.args.call.now ready c.args.desk.now c.prepare.new.self c.in-Local.reply
    c.args.words.now (word_place c.args.boxes (op_word c.args.box_no c.args.call.now.act ops.Local)) c.operate.result
    desk holds
    (local_of plan es c.args.box_no c.args.call.now c.args.desk.now c.prepare.new.self c.prepare.result c.in-Local.reply
    desk (c.prepare.ensures plan c.args.box_no desk.desk_of) c.in-Local.is)
    (ap (λ (n : ℕ). word_place n (op_word c.args.box_no c.args.call.now.act ops.Local)) wide) c.operate.ensures.met)

pub returns-in-NeedsWord : goal.returns-in-NeedsWord
returns-in-NeedsWord c = λ plan es wide ready desk holds.
    let asks = asks_of plan es c.args.box_no c.args.call.now c.args.desk.now c.prepare.new.self c.prepare.result
    c.in-NeedsWord.ask ready desk (c.prepare.ensures plan c.args.box_no desk.desk_of) c.in-NeedsWord.is in
    subst (λ (call : Call). IsDone plan es c.args.box_no call c.decide.result.reply c.decide.new.desk
    c.decide.new.words) asks.0 (c.decide.ensures plan es wide asks.1 holds)
