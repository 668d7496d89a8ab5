-- A man of a line that opens may work the script of his box.
use Rattle.std.proofs.Common.{◌∙◌, ◌≤◌, ℕ, length, sym, subst}
use Rattle.atomic_table.specs.Seated.{TableId}
use Rattle.line_plan.specs.Plans.{PlanFields}
use Rattle.line_law.specs.Serial.{AreCalls}
use Rattle.script_text.specs.Scripts.{IsScriptOf}
use Rattle.script_text.specs.declared.script.Script.{Script}
use Rattle.signalman_seats.specs.Men.{IsFresh, Man}
use Rattle.line_working.specs.Working.{CanWork}

-- a man of a line that opens may work the script of his box, where he has room for its calls
pub fresh_works : (table_id : TableId) (plan : PlanFields) (b room : ℕ) (script : Script) (man : Man)
    → IsFresh table_id plan b room man → IsScriptOf plan b script → length script.calls ≤ room
    → CanWork table_id plan script man
fresh_works table_id plan b room script man fresh is fits = record {
  of_line = fresh.of_line;
  box_no = fresh.box_no ∙ sym is.box;
  calls = subst (λ (n : ℕ). AreCalls plan n man.moment script.calls) (sym fresh.box_no)
      (subst (λ (m : ℕ). AreCalls plan b m script.calls) (sym fresh.moment) is.calls);
  room = subst (λ (n : ℕ). length script.calls ≤ n) (sym fresh.spare) fits;
}
