use Rattle.std.proofs.Common.{◌≡◌, ◌++◌, drop, map, string_bytes}
use Rattle.plan_text.specs.Printing.{train_line, printed}
use Rattle.plan_text.proofs.printing.put_trains.Given as goal

abbrev pub invariant-loop-train : goal.invariant-loop-train
invariant-loop-train l =
    string_bytes l.out ++ printed (map (train_line l.plan) (drop l.train-index l.train-items))
    ≡ string_bytes l.initial.out ++ printed (map (train_line l.plan) l.plan.trains)
