-- What is printed of a plan that a text spells is read back, and so is what is printed of its upgrade.
use Rattle.std.proofs.Common.{◌≡◌, ℕ, ◌≤◌, Bool, true, false, cond, eqb, List, length, map, Result, Ok, Err, IfOk}
use Rattle.std.proofs.Common.{IsErrOf, sym, ap, ◌∙◌, refl, arith}
use Rattle.std.specs.List.{flat_map}
use Rattle.std.proofs.lemmas.Bool.Decides.{nat_tests}
use Rattle.rail_text.specs.Gives.{Fault, GivesText}
use Rattle.rail_text.specs.Lines.{lines_of, line_bytes, words_of}
use Rattle.rail_text.specs.Kept.{kept}
use Rattle.rail_text.specs.declared.cause.Cause.{Cause}
use Rattle.rail_text.specs.declared.cause.ReadError.{ReadError}
use Rattle.rail_text.specs.declared.cause.ReadError.TheVariants as errors
use Rattle.rail_text.proofs.PrintedLines.{lines_are}
use Rattle.line_plan.specs.Plans.{IsPlan, PlanFields}
use Rattle.line_plan.specs.Upgrades.{plan_in_seconds, upgraded}
use Rattle.plan_draft.specs.Reading.{plan_of}
use Rattle.plan_text.specs.Printing.{plan_lines, plan_text}
use Rattle.plan_text.specs.Spelled.{Spells, plan_lines_by}
use Rattle.plan_text.proofs.Drafted.{plan_of_is_plan}
use Rattle.plan_text.proofs.PlanSizes.{few_boxes_fit}
use Rattle.plan_text.proofs.PrintedSizes.{plan_as_long, printed_fit, size}
use Rattle.plan_text.proofs.SpellLaws.{read_is_spelled}
use Rattle.plan_text.proofs.SpelledPlans.{lines_same, printed_is_read, spelled_is_read}
use Rattle.plan_text.proofs.Upgraded.{upgraded_is}

-- ---- what is printed

-- a plan that a text spells is printed in no more bytes than the text has
pub no_longer : (bytes : List ℕ) (plan : PlanFields) → Spells bytes plan → length (plan_text plan) ≤ length bytes
unfolding plan_text
no_longer bytes plan s =
    let are = lines_are bytes in
    let own : size (plan_lines plan) ≡ size (plan_lines_by s.firsts plan) =
    ap size (lines_same plan) ∙ sym (plan_as_long s.firsts plan) in
    let words : size (map words_of (kept (lines_of bytes))) ≡ size (plan_lines_by s.firsts plan) = ap size s.lines in
    let whole : length (flat_map line_bytes (lines_of bytes)) ≡ length bytes = ap length are.whole in
    omega (arith, own, words, whole, printed_fit (lines_of bytes) s.formed)

-- a plan that a text spells
pub spelled_back : (bytes : List ℕ) (plan : PlanFields) → IsPlan plan → Spells bytes plan
    → plan_of (plan_text plan) ≡ Ok plan
spelled_back bytes plan is s = printed_is_read plan is (omega (arith, no_longer bytes plan s, s.short))

-- a plan of at most 32 boxes
pub few_boxes_back : (plan : PlanFields) → IsPlan plan → length plan.boxes ≤ 32 → plan_of (plan_text plan) ≡ Ok plan
few_boxes_back plan is few = printed_is_read plan is (few_boxes_fit plan is few)

few_boxes : (plan : PlanFields) → IsPlan plan → eqb plan.version 1 ≡ true → length plan.boxes ≤ 32
few_boxes plan is one = grind (arith, nat_tests, one, is.most)

-- the upgrade of a plan that a text spells
pub upgrade_back : (bytes : List ℕ) (plan : PlanFields) → IsPlan plan → Spells bytes plan
    → plan_of (plan_text (upgraded plan)) ≡ Ok (upgraded plan)
upgrade_back bytes plan is s = go (eqb plan.version 1) refl (upgraded_is plan is) where
  go : (one : Bool) → eqb plan.version 1 ≡ one → IsPlan (cond one (plan_in_seconds plan) plan)
      → plan_of (plan_text (cond one (plan_in_seconds plan) plan)) ≡ Ok (cond one (plan_in_seconds plan) plan)
  go true e newer = few_boxes_back (plan_in_seconds plan) newer (few_boxes plan is e)
  go false e newer = spelled_back bytes plan is s

-- ---- the reader's answers

-- what is read is read back where it is printed
pub reader_printed : (bytes : List ℕ) (r : Result PlanFields ReadError) → GivesText (λ plan. plan) r (plan_of bytes)
    → IfOk r (λ plan. plan_of (plan_text plan) ≡ Ok plan)
reader_printed bytes (Ok plan) gives =
    spelled_back bytes plan (plan_of_is_plan bytes plan gives) (read_is_spelled bytes plan gives)
reader_printed bytes (Err e) gives = tt

refused_or_read : (fault : Fault) (plan : PlanFields) (r : Result PlanFields Fault) → r ≡ Err fault → r ≡ Ok plan → ⊥
refused_or_read fault plan r e k = cc

-- a text that is refused spells no plan
pub reader_refused : (bytes : List ℕ) (r : Result PlanFields ReadError) → GivesText (λ plan. plan) r (plan_of bytes)
    → (line : ℕ) (cause : Cause) → IsErrOf r (errors.Refused line cause) → (plan : PlanFields) → IsPlan plan
    → ¬ Spells bytes plan
reader_refused bytes (Ok read) gives line cause refused plan is s = absurd cc
reader_refused bytes (Err (errors.Refused n why)) gives line cause refused plan is s =
    refused_or_read (record { line = n; cause = why }) plan (plan_of bytes) gives (spelled_is_read bytes plan is s)
reader_refused bytes (Err errors.NoMemory) gives line cause refused plan is s = absurd cc
