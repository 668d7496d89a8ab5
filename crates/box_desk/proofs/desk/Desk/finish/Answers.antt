use Rattle.std.proofs.Common.{sym, subst}
use Rattle.box_desk.specs.Boxes.{here_of}
use Rattle.box_desk.specs.Desks.{DeskFields, IsAsked, WordMeets}
use Rattle.box_desk.proofs.Counting.{call_counts}
use Rattle.box_desk.proofs.Keeping.{asked_agrees, finished_counts}
use Rattle.box_desk.proofs.Known.{brings_no, knows_lever_of, knows_train_of}
use Rattle.box_desk.proofs.desk.Desk.finish.Goals as goal

pub decide_by_word-requires-clause-lever : goal.decide_by_word-requires-clause-lever
decide_by_word-requires-clause-lever c =
    let asked = subst (λ (v : DeskFields). IsAsked c.requires.asked.0 c.requires.asked.1 v c.args.ask)
    (sym c.self.view_is) c.requires.asked.2 in
    knows_lever_of c.requires.asked.0 c.requires.asked.1 _ c.args.ask.call asked.desk_of asked.known

pub invariant_of-self : goal.invariant_of-self
invariant_of-self c =
    let plan = c.requires.asked.0 in
    let b = c.requires.asked.1 in
    let asked = subst (λ (v : DeskFields). IsAsked plan b v c.args.ask) (sym c.self.view_is) c.requires.asked.2 in
    let meets = subst (λ (v : DeskFields). WordMeets plan b v c.args.ask c.args.old_word) (sym c.self.view_is)
    c.requires.asked.3 in
    let fits = knows_train_of plan b _ c.args.ask.call asked.desk_of asked.known in
    record {
      sound = c.self.invariant.sound;
      fitted = c.decide_by_word.ensures.fitted;
      counted = finished_counts _ _ _ _ _ _ _ _ (c.decide_by_word.ensures.told plan)
          (asked_agrees plan b _ c.args.ask c.args.old_word asked meets)
          (call_counts plan c.self.inside.plan _ _ (here_of c.self.inside.equipment) c.args.ask.call.act
          (brings_no c.self.inside.plan _ c.args.ask.call.act c.self.invariant.few_trains fits)
          c.self.invariant.counted);
      few_trains = c.self.invariant.few_trains;
      short = c.self.invariant.short;
    }
