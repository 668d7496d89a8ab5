use Rattle.std.proofs.Common.{◌≡◌, ℕ, ◌<◌, slice_index_or, vec_len}
use Rattle.script_text.specs.Scripts.{IsScriptOf}
use Rattle.script_text.specs.declared.script.Script.{Script}
use Rattle.working_tests.proofs.relay.relay_scripts.Given as goal

abbrev pub invariant-loop-box_no : goal.invariant-loop-box_no
invariant-loop-box_no l = record {
  counted : vec_len l.scripts ≡ l.box_no;
  own : (b : ℕ) (e : Script) → b < l.box_no → IsScriptOf l.plan b (slice_index_or l.scripts.items b e);
}
