use Rattle.std.proofs.Common.{◌≡◌, Some, ap, ◌∙◌}
use Rattle.line_law.specs.Known.{knows_call}
use Rattle.signalman_seats.specs.Men.{IsAtDesk, Man}
use Rattle.signalman_seats.specs.Notes.{AreNotesOf}
use Rattle.instrument_rule.specs.Posts.{view_of}
use Rattle.signalman_seats.proofs.Gathering.{desk_there}
use Rattle.signalman_seats.proofs.Noting.{known_by_notes}
use Rattle.signalman_seats.proofs.man.Signalman.knows.Goals as goal

pub returns : goal.returns
returns c = λ plan has.
    let b = c.self.inside.box_no in
    let v = view_of c.self.inside.post in
    let there : v.plan ≡ Some plan = ap (λ (man : Man). man.view.plan) c.self.view_is ∙ has in
    let noted = desk_there plan v.plan (λ p. AreNotesOf p b c.self.inside.notes) there c.self.invariant.noted in
    let at = desk_there plan v.plan (λ p. IsAtDesk p b v.seen c.self.inside.desk) there c.self.invariant.at_desk in
    c.knows.ensures
    ∙ (known_by_notes plan b c.self.inside.notes _ c.args.call.now noted (c.box_plan.ensures ∙ at.desk_of.box_plan)
    ∙ ap (λ (man : Man). knows_call plan man.box_no c.args.call.now) c.self.view_is)
