use Rattle.std.proofs.Common.{◌≡◌, ℕ, Some, length, slice_get}
use Rattle.script_text.specs.Scripts.{IsScriptOf}
use Rattle.script_text.specs.declared.script.Script.{Script}
use Rattle.watch_tests.proofs.busy.busy_scripts.Given as goal

abbrev pub invariant-loop-box_no : goal.invariant-loop-box_no
invariant-loop-box_no l = record {
  each : length l.scripts.items ≡ l.box_no;
  own : (b : ℕ) (script : Script) → slice_get l.scripts.items b ≡ Some script → IsScriptOf l.plan b script;
}
