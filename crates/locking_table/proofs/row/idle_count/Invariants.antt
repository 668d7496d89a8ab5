use Rattle.std.proofs.Common.{◌≡◌, ◌≤◌, ◌&&◌, ◌==◌, drop}
use Rattle.std.specs.List.{list_all}
use Rattle.locking_table.specs.declared.places.Stand.TheVariants.{AtMid}
use Rattle.locking_table.specs.Meaning.{acts}
use Rattle.locking_table.specs.Places.{stand_of}
use Rattle.locking_table.proofs.row.idle_count.Given as goal

abbrev pub invariant-loop-cond : goal.invariant-loop-cond
invariant-loop-cond l = record {
  few : l.idle ≤ l.cond-index;
  none : ((l.idle == 0) && list_all (acts (stand_of l.ends l.moved AtMid)) (drop l.cond-index l.conds))
      ≡ list_all (acts (stand_of l.ends l.moved AtMid)) l.conds;
}
