use Rattle.std.proofs.Common.{◌≡◌, ℕ, ◌<◌, slice_index_or, vec_len}
use Rattle.script_text.specs.Scripts.{IsScriptOf}
use Rattle.script_text.specs.declared.script.Script.{Script}
use Rattle.working_tests.proofs.line.read_scripts.Given as goal

abbrev pub invariant-loop-text : goal.invariant-loop-text
invariant-loop-text l = record {
  counted : vec_len l.scripts ≡ l.text-index;
  own : (b : ℕ) (e : Script) → b < l.text-index → IsScriptOf l.plan b (slice_index_or l.scripts.items b e);
}
