use Rattle.std.proofs.Common.{◌≡◌, ◌++◌, drop}
use Rattle.std.specs.Prelude.{map}
use Rattle.tappet_compiler.specs.Compiled.{bridle_of, cond_dog}
use Rattle.tappet_compiler.proofs.compiler.bridle_of.Given as goal

abbrev pub invariant-loop-cond : goal.invariant-loop-cond
invariant-loop-cond l = l.dogs.items ++ map cond_dog (drop l.cond-index l.row.when) ≡ (bridle_of l.row l.number).dogs
