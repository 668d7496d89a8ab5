use Rattle.std.proofs.Common.{◌≡◌, ℕ, ◌+◌, List, ◌++◌, length, take, drop, sym, ap, subst, ◌∙◌, arith}
use Rattle.line_law.specs.declared.call.Entry.{Entry}
use Rattle.line_law.specs.declared.ways.ByWay.{ByWay}
use Rattle.line_law.specs.History.{state_of}
use Rattle.line_report.specs.Between.{CountsOn, MayGain, trains_at}
use Rattle.line_report.specs.declared.sections.HeldTrains.{HeldTrains}
use Rattle.reg_audit.specs.declared.deed.Deed.{Deed}
use Rattle.reg_audit.specs.declared.marks.SideMarks.{SideMarks}
use Rattle.reg_audit.specs.Auditors.{AuditorFields, HasAudited}
use Rattle.reg_audit.specs.Deeds.{deed_of}
use Rattle.reg_audit.specs.Held.{held_told}
use Rattle.reg_audit.proofs.EntryAudited.{at_hand, audited_on}
use Rattle.reg_audit.proofs.HeldKept.{held_at, held_room, held_turned}
use Rattle.reg_audit.proofs.Places.{IsNext, is_next}
use Rattle.reg_audit.proofs.auditing.Auditor.hear.Goals as goal

pub deed_of-deed-requires : goal.deed_of-deed-requires
deed_of-deed-requires c = (is_next c.args.plan.now c.requires.es c.args.entry.now c.requires.legal).box_no

pub count_on-requires-clause-few : goal.count_on-requires-clause-few
count_on-requires-clause-few c =
    let has = subst (λ (auditor : AuditorFields). HasAudited c.args.plan.now c.requires.es auditor)
    (sym c.self.view_is) c.requires.has in
    subst (λ (trains : List (ByWay HeldTrains)). (pair : ℕ) → MayGain (trains_at trains pair))
    (sym c.deref_mut.ensures.value)
    (held_room c.args.plan.now (state_of c.args.plan.now c.requires.es) (length c.requires.es)
    c.self.inside.trains.items c.requires.few has.trains)

pub index_mut-here-requires : goal.index_mut-here-requires
index_mut-here-requires c =
    let within = (is_next c.args.plan.now c.requires.es c.args.entry.now c.requires.legal).box_no in
    let each = (subst (λ (auditor : AuditorFields). HasAudited c.args.plan.now c.requires.es auditor)
    (sym c.self.view_is) c.requires.has).each in
    let len = c.self.inside.marks.ok.0 in
    omega (arith, within, each, len)

pub returns : goal.returns
returns c es before legal =
    let plan = c.args.plan.now in
    let e : Entry = c.args.entry.now in
    let old : List (ByWay HeldTrains) = c.self.inside.trains.items in
    let has = subst (λ (auditor : AuditorFields). HasAudited plan es auditor) (sym c.self.view_is) before in
    let next : IsNext plan es e = is_next plan es e legal in
    let counts : CountsOn plan e old c.count_on.new.trains =
    subst (λ (trains : List (ByWay HeldTrains)). CountsOn plan e trains c.count_on.new.trains)
    c.deref_mut.ensures.value c.count_on.ensures in
    let held_on = held_at plan es (length es) e c.self.inside.trains.len old c.count_on.new.trains
    c.meets_conditions.ensures next counts c.self.inside.trains.ok.0 has.trains in
    let now : List (ByWay HeldTrains) =
    take c.self.inside.trains.len (c.count_on.new.trains ++ drop (length c.count_on.new.trains) old) in
    let deed : Deed = c.deed_of-deed.result in
    let here : ByWay SideMarks = c.index_mut-here.result.now in
    let deed_is : deed ≡ deed_of plan e = c.deed_of-deed.ensures in
    let held_is = c.held_told-held.ensures
    ∙ ap (λ (ts : List (ByWay HeldTrains)). held_told ts e.box_no deed) c.deref.ensures.value
    ∙ ap (λ (d : Deed). held_told now e.box_no d) deed_is
    ∙ held_turned plan es (length es + 1) e now next held_on in
    let each = has.each in
    let within = next.box_no in
    let hand = at_hand plan (state_of plan es) e c.self.inside.marks.items deed here c.held_told-held.result
    (omega (arith, each, within)) deed_is c.index_mut-here.ensures.value held_is in
    audited_on plan es e _ deed here c.mark.new.marks c.held_told-held.result now c.add_breaches.new.found.items
    has hand c.mark.ensures held_on c.in_ok-add_breaches.ensures
