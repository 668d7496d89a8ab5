use Rattle.std.proofs.Common.{rules, ◌≡◌, ℕ, List, [], Global, None, Vec, get_or, set, take, replicate, refl, subst}
use Rattle.std.proofs.Common.{sym, ap, ◌+◌, ◌∙◌, arith}
use Rattle.line_law.specs.declared.call.Entry.{Entry}
use Rattle.line_watch.specs.declared.sight.Sight.{Sight}
use Rattle.line_watch.specs.Boards.{section_count}
use Rattle.line_watch.specs.Shown.{IsRoundAfter}
use Rattle.line_watch.proofs.JournalRounds.{box_there, no_entry, number_there, round_opens, round_stays, round_told}
use Rattle.line_watch.proofs.JournalRounds.{round_whole}
use Rattle.line_watch.proofs.told.sights_after.Goals.{in-Some, in_default}
use Rattle.line_watch.proofs.told.sights_after.Goals as goal

pub loop-entry-init : goal.loop-entry-init
loop-entry-init c =
    subst (λ (xs : List Sight). IsRoundAfter c.args.plan.now [] xs)
    (sym (c.in_ok-sights.ensures.items_if_clones_equal (λ y e. e)
    ∙ (ap (λ (n : ℕ). replicate n c.first_sight.result) c.section_count.ensures
    ∙ ap (λ (x : Sight). replicate (section_count c.len-boxes.result) x) c.first_sight.ensures)))
    (round_opens c.args.plan.now c.len-boxes.result (search rules))

pub number_told-requires : goal.number_told-requires
number_told-requires c =
    box_there c.args.plan.now c.args.entries.now c.loop-entry.entry-index _ c.requires c.loop-entry-test.true

pub index_mut-requires : goal.index_mut-requires
index_mut-requires c =
    let there = number_there c.args.plan.now c.args.entries.now c.loop-entry.entry-index no_entry _
    c.loop-entry.sights.items c.meets_conditions.ensures c.requires c.loop-entry-test.true c.loop-entry.invariant in
    let kept = c.loop-entry.sights.ok.0 in
    let same = c.number_told.ensures in
    omega (arith, there, kept, same)

pub loop-entry-preserved : goal.loop-entry-preserved
loop-entry-preserved c = elim c.match-sight_told.branch [
  | in-Some w ↦ (let plan = c.args.plan.now in
      let es = c.args.entries.now in
      let i = c.loop-entry.entry-index in
      let e : Entry = get_or es i no_entry in
      let items : List Sight = c.loop-entry.sights.items in
      let next = round_told plan es i no_entry e w.in-Some.sight items c.meets_conditions.ensures c.requires
      c.loop-entry-test.true refl (sym c.sight_told.ensures ∙ w.in-Some.is) c.loop-entry.invariant in
      subst (λ (xs : List Sight). IsRoundAfter plan (take (i + 1) es) xs)
      (sym (ap (λ (v : Vec Sight Global). v.items) w.sights-is
      ∙ ap (λ (n : ℕ). set items n w.in-Some.sight) w.number_told.ensures)) next)
  | in_default w ↦ (let plan = c.args.plan.now in
      let es = c.args.entries.now in
      let i = c.loop-entry.entry-index in
      let e : Entry = get_or es i no_entry in
      let none : c.sight_told.result ≡ None = w.in_default.is in
      let next = round_stays plan es i no_entry e c.loop-entry.sights.items c.meets_conditions.ensures c.requires
      c.loop-entry-test.true refl (sym c.sight_told.ensures ∙ none) c.loop-entry.invariant in
      subst (λ (xs : List Sight). IsRoundAfter plan (take (i + 1) es) xs)
      (sym (ap (λ (v : Vec Sight Global). v.items) w.sights-is)) next)
]

pub returns : goal.returns
returns c =
    round_whole c.args.plan.now c.args.entries.now c.loop-entry.entry-index c.loop-entry.sights.items
    c.loop-entry-test.false c.loop-entry.invariant
