use Rattle.std.proofs.Common.{◌≡◌, ◌+◌, ◌++◌, drop}
use Rattle.tappet_compiler.specs.Compiled.{compiled}
use Rattle.tappet_compiler.proofs.compiler.compile_rows.Given as goal

abbrev pub invariant-loop-i : goal.invariant-loop-i
invariant-loop-i l = l.bridles.items ++ compiled (l.i + 1) (drop l.i l.rows) ≡ compiled 1 l.rows
