use Rattle.std.proofs.Common.{ℕ, ◌+◌, ◌*◌, ◌<◌, ◌≡◌, ◌∙◌, List, All, length, refl, sym, ap, subst, arith}
use Rattle.block_words.specs.declared.Way.{Way}
use Rattle.line_law.specs.declared.call.Entry.{Entry}
use Rattle.line_law.specs.Replies.{way_number}
use Rattle.line_journal.specs.Halves.{pair_for}
use Rattle.line_journal.specs.Keepers.{LetsPass, TellsFirst, first_keeper, kept_by, kept_slot, other_box}
use Rattle.line_journal.specs.Order.{list_at}
use Rattle.line_journal.proofs.Looping.{in_line}
use Rattle.line_journal.proofs.Passing.{none_passes, other_passes, passes_other, unkept_passes}
use Rattle.line_journal.proofs.keepers.is_passed.Goals as goal

pub returns-then-kept_by-eq0-clause-passed : goal.returns-then-kept_by-eq0-clause-passed
returns-then-kept_by-eq0-clause-passed c = (
  λ yes. unkept_passes c.args.plan.now c.args.left.now c.args.box_no c.args.entry.now
      (sym c.kept_by.ensures ∙ c.if-kept_by-eq0.true),
  λ passed. refl,
)

pub returns-then-other-boxes-clause-passed : goal.returns-then-other-boxes-clause-passed
returns-then-other-boxes-clause-passed c =
    let other-is : c.other_box-other.result ≡ other_box c.args.entry.now.box_no
    (pair_for c.args.plan.now c.args.entry.now) =
    c.other_box-other.ensures ∙ ap (λ (p : ℕ). other_box c.args.entry.now.box_no p) c.requires.pair in (
      λ yes. other_passes c.args.plan.now c.args.left.now c.args.box_no c.other_box-other.result c.args.entry.now
          c.requires.boxes c.requires.own other-is
          (none_passes c.args.plan.now c.args.left.now c.other_box-other.result c.args.entry.now
          (omega (arith, c.boxes.ensures, c.if-other-boxes.true))),
      λ passed. refl,
    )

pub lets_pass-requires-clause-boxes : goal.lets_pass-requires-clause-boxes
lets_pass-requires-clause-boxes c =
    subst (λ (l : List Entry). All (λ x. x.box_no < length c.args.plan.now.boxes) l) (sym c.of_box.ensures)
    (in_line c.args.plan.now c.args.left.now c.other_box-other.result c.requires.boxes)

pub lets_pass-requires-clause-first : goal.lets_pass-requires-clause-first
lets_pass-requires-clause-first c =
    let slot : c.kept_slot.result ≡ kept_slot c.args.plan.now c.args.entry.now =
    c.kept_slot.ensures.value
    ∙ ap (λ (w : Way). 2 * kept_by c.args.entry.now.reply + way_number w) c.requires.way in
    subst (λ (l : List Entry). TellsFirst c.args.plan.now (kept_slot c.args.plan.now c.args.entry.now) l
    c.first_told-first.result) (sym c.of_box.ensures)
    (subst (λ (n : ℕ). TellsFirst c.args.plan.now n (list_at c.args.left.now c.other_box-other.result)
    c.first_told-first.result) slot c.first_told-first.ensures.first)

pub returns-clause-passed : goal.returns-clause-passed
returns-clause-passed c =
    let other-is : c.other_box-other.result ≡ other_box c.args.entry.now.box_no
    (pair_for c.args.plan.now c.args.entry.now) =
    c.other_box-other.ensures ∙ ap (λ (p : ℕ). other_box c.args.entry.now.box_no p) c.requires.pair in
    let own : list_at c.args.left.now c.other_box-other.result ≡ c.of_box.result.now = sym c.of_box.ensures in (
      λ yes. other_passes c.args.plan.now c.args.left.now c.args.box_no c.other_box-other.result c.args.entry.now
          c.requires.boxes c.requires.own other-is
          (subst (λ (l : List Entry). LetsPass c.args.plan.now c.args.entry.now
          (first_keeper c.args.plan.now c.args.entry.now l)) c.of_box.ensures (c.lets_pass.ensures.0 yes)),
      λ passed. c.lets_pass.ensures.1
          (subst (λ (l : List Entry). LetsPass c.args.plan.now c.args.entry.now
          (first_keeper c.args.plan.now c.args.entry.now l)) own
          (passes_other c.args.plan.now c.args.left.now c.args.box_no c.other_box-other.result c.args.entry.now
          c.requires.own other-is passed)),
    )
