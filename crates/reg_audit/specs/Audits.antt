-- What an audit names: exactly the breaches of a journal, in order.
use Rattle.std.specs.Prelude.{◌≡◌, ◌↔◌, ◌⊎◌, ◌<◌, List, Contains}
use Rattle.std.specs.List.{AllPairs}
use Rattle.line_plan.specs.Plans.{PlanFields}
use Rattle.line_law.specs.declared.call.Entry.{Entry}
use Rattle.reg_audit.specs.declared.rule.Breach.{Breach}
use Rattle.reg_audit.specs.Breaches.{IsBreach}
use Rattle.reg_audit.specs.Rules.{rule_number}

-- by entry, then by rule
abbrev pub ComesBefore : Breach → Breach → Type 0
ComesBefore one other =
    (one.entry < other.entry) ⊎ ((one.entry ≡ other.entry) × (rule_number one.rule < rule_number other.rule))

-- These are the breaches of a journal: each entry that breaks a rule is named with it, and nothing else is; by entry,
-- then by rule, and so once each.
pub record IsAuditOf (plan : PlanFields) (es : List Entry) (breaches : List Breach) : Type 0 where
  pub exact : (breach : Breach) → (Contains breaches breach ↔ IsBreach plan es breach)
  pub order : AllPairs ComesBefore breaches
