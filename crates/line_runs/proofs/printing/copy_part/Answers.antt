use Rattle.std.proofs.Common.{List, drop, map, subst, sym, take}
use Rattle.std.proofs.lemmas.List.{take-append-drop}
use Rattle.line_law.specs.declared.call.Entry.{Entry}
use Rattle.line_runs.specs.Copying.{AreLinesLeft, behind_line}
use Rattle.line_runs.proofs.Copied.{all_left, left_in_front}
use Rattle.line_runs.proofs.printing.copy_part.Goals as goal

pub copy_from-copied-requires-clause-left : goal.copy_from-copied-requires-clause-left
copy_from-copied-requires-clause-left c =
    let plan = c.args.plan.now in
    let es = c.args.merged.now in
    let to = c.args.to in
    let lines = map behind_line c.args.registers.now in
    let left : AreLinesLeft plan es lines =
    rw c.requires.texts.same
    (all_left plan es c.requires.texts.registers c.meets_conditions.ensures
    c.requires.texts.printed.few c.requires.texts.printed.parts) in
    let in_front : AreLinesLeft plan (take to es) lines =
    left_in_front plan (take to es) (drop to es) lines
    (subst (λ (xs : List Entry). AreLinesLeft plan xs lines) (sym (take-append-drop to es)) left) in
    subst (λ (xs : List Entry). AreLinesLeft plan xs lines) (sym c.in_ok-walk.ensures) in_front
