use Rattle.std.proofs.Common.{◌≡◌, ◌++◌, codes, drop, string_bytes}
use Rattle.std.specs.List.{flat_map}
use Rattle.locking_sheet.specs.Items.{cond_text}
use Rattle.locking_sheet.proofs.items.put_more.Given as goal

abbrev pub invariant-loop-cond : goal.invariant-loop-cond
invariant-loop-cond l = string_bytes l.out ++ flat_map (cond_text (codes " and ")) (drop l.cond-index l.conds)
    ≡ string_bytes l.fn.out ++ flat_map (cond_text (codes " and ")) l.conds
