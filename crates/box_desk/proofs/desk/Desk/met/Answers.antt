use Rattle.std.proofs.Common.{Bool, ap, sym, subst, ◌∙◌}
use Rattle.line_plan.specs.Frames.{BoxFields}
use Rattle.line_law.specs.Law.{box_plan_of}
use Rattle.box_desk.specs.Boxes.{here_of}
use Rattle.box_desk.specs.Desks.{DeskFields, IsAsked, IsMet}
use Rattle.word_laws.specs.Operations.{met_by}
use Rattle.box_desk.proofs.Known.{awaits_code}
use Rattle.box_desk.proofs.Looking.{met_tells}
use Rattle.box_desk.proofs.desk.Desk.met.Goals as goal

pub returns-clause-short : goal.returns-clause-short
returns-clause-short c =
    subst (λ (v : DeskFields). (plan : _) (b : _) → IsAsked plan b v c.args.ask.now
    → IsMet plan b v c.args.ask.now.call.act c.args.shown c.met.result) c.self.view_is
    (λ plan b asked.
    subst (λ (met : Bool). IsMet plan b (record {
      box_plan = c.self.inside.plan;
      train_places = c.self.inside.train_places.items;
      delay = c.self.inside.delay;
      here = here_of c.self.inside.equipment;
      calls = c.self.inside.calls;
    }) c.args.ask.now.call.act c.args.shown met)
    (ap (λ (box_plan : BoxFields). met_by box_plan c.args.ask.now.call.act (here_of c.self.inside.equipment)
    c.args.shown) (sym asked.desk_of.box_plan) ∙ sym c.met.ensures)
    (met_tells plan (box_plan_of plan b) c.args.ask.now.call.act (here_of c.self.inside.equipment) c.args.shown
    (awaits_code plan b c.args.ask.now.call asked.known) asked.on_word))
