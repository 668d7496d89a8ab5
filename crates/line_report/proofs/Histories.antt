-- Every entry of a legal history can be printed.
use Rattle.std.proofs.Common.{ℕ, ◌<◌, ◌^◌, List, [], ◌∷◌, All, length}
use Rattle.std.proofs.lemmas.List.Elements.{All-cons, All-head, All-nil, All-tail}
use Rattle.line_plan.specs.Plans.{IsPlan, PlanFields}
use Rattle.line_law.specs.declared.call.Entry.{Entry}
use Rattle.line_law.specs.History.{IsLegal, IsLegalFrom, after_entry}
use Rattle.line_law.specs.States.{LineState, opening_state}
use Rattle.line_law.specs.Tellings.{IsTold}
use Rattle.line_law.proofs.Sides.{known_box}
use Rattle.line_law.proofs.ToldHistories.{all_told}
use Rattle.script_text.specs.Entries.{IsSpelled}
use Rattle.line_report.proofs.Spellings.{told_spelled}

-- the reply of an entry tells what is there
abbrev Tells : PlanFields → ℕ → Entry → Type 0
Tells plan calls e = IsTold plan e.box_no calls e.reply

spelled_from : (plan : PlanFields) (state : LineState) (calls : ℕ) (es : List Entry) → IsPlan plan → calls < 10 ^ 10
    → IsLegalFrom plan state es → All (Tells plan calls) es → All (IsSpelled plan) es
spelled_from plan state calls [] is few legal told = All-nil (IsSpelled plan)
spelled_from plan state calls (e ∷ es) is few legal told =
    All-cons (IsSpelled plan) e es
    (record {
      box = known_box plan e.box_no e.call legal.0.known;
      call = legal.0.known;
      reply = told_spelled e.reply plan e.box_no calls is few (All-head (Tells plan calls) e es told);
    })
    (spelled_from plan (after_entry plan state e) calls es is few legal.2 (All-tail (Tells plan calls) e es told))

-- the entries of a legal history can be spelled
pub legal_spelled : (plan : PlanFields) (es : List Entry) → IsPlan plan → length es < 10 ^ 10 → IsLegal plan es
    → All (IsSpelled plan) es
legal_spelled plan es is few legal =
    spelled_from plan (opening_state plan) (length es) es is few legal (all_told plan es is legal)
