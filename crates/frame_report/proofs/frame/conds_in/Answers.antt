use Rattle.std.proofs.Common.{[], ◌∷◌, ap, ◌∙◌, get_or}
use Rattle.locking_table.specs.declared.row.Cond.{Cond}
use Rattle.frame_report.specs.Frame.{cond_in}
use Rattle.frame_report.proofs.FrameLemmas.{map_one, map_two, no_cond}
use Rattle.frame_report.proofs.frame.conds_in.Goals as goal

pub returns-in-len1 : goal.returns-in-len1
returns-in-len1 c =
    let one = map_one (cond_in c.args.numbers.now) c.args.conds.now c.in-len1.len_at_least c.in-len1.len_below in
    let first = c.cond_in.ensures in
    c.one.ensures ∙ ap (λ (x : Cond). x ∷ []) first ∙ one

pub returns-in-len2-up : goal.returns-in-len2-up
returns-in-len2-up c =
    let both = map_two (cond_in c.args.numbers.now) c.args.conds.now c.in-len2-up.len_at_least c.requires.conds in
    let first = c.cond_in-in-len2-up.ensures in
    let second = c.cond_in-in-len2-up-2.ensures in
    c.both.ensures ∙ ap (λ (x : Cond). x ∷ c.cond_in-in-len2-up-2.result ∷ []) first
    ∙ ap (λ (x : Cond). cond_in c.args.numbers.now (get_or c.args.conds.now 0 no_cond) ∷ x ∷ []) second ∙ both
