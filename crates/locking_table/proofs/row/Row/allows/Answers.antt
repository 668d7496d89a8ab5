use Rattle.std.proofs.Common.{List, ap, ◌∙◌}
use Rattle.std.specs.List.{list_all}
use Rattle.locking_table.specs.declared.places.Stand.TheVariants.{AtMid}
use Rattle.locking_table.specs.declared.row.Cond.{Cond}
use Rattle.locking_table.specs.Meaning.{acts}
use Rattle.locking_table.specs.Places.{stand_of}
use Rattle.locking_table.proofs.MidLemmas.{count_is_enough}
use Rattle.locking_table.proofs.row.Row.allows.Goals as goal

pub returns : goal.returns
returns c =
    count_is_enough c.args.ends.now c.args.lever c.args.self.now c.subject_is_normal.result c.object_keeps.result
    c.from-subject.result c.from-object.result c.idle_at_ends.result c.subject_is_normal.ensures c.object_keeps.ensures
    c.from-subject.ensures c.from-object.ensures
    (c.idle_at_ends.ensures.none
    ∙ ap (λ (conds : List Cond). list_all (acts (stand_of c.args.ends.now c.args.lever AtMid)) conds)
    c.as_slice.ensures.same)
