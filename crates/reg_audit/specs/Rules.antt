-- The nine rules: their numbers, their names and their order.
use Rattle.std.specs.Prelude.{ℕ, List, [], ◌∷◌, codes}
use Rattle.reg_audit.specs.declared.rule.Rule.{Rule}
use Rattle.reg_audit.specs.declared.rule.Rule.TheVariants.{Offer, Clear, Entering, Berth, Out, Normal, Danger, Divided}
use Rattle.reg_audit.specs.declared.rule.Rule.TheVariants.{Release}

-- the number of a rule
abbrev pub rule_number : Rule → ℕ
rule_number Offer = 1
rule_number Clear = 2
rule_number Entering = 3
rule_number Berth = 4
rule_number Out = 5
rule_number Normal = 6
rule_number Danger = 7
rule_number Divided = 8
rule_number Release = 9

-- the name of a rule
abbrev pub rule_name : Rule → List ℕ
rule_name Offer = codes "offer"
rule_name Clear = codes "clear"
rule_name Entering = codes "entering"
rule_name Berth = codes "berth"
rule_name Out = codes "out"
rule_name Normal = codes "normal"
rule_name Danger = codes "danger"
rule_name Divided = codes "divided"
rule_name Release = codes "release"

-- all rules in their order
abbrev pub all_rules : List Rule
all_rules = Offer ∷ Clear ∷ Entering ∷ Berth ∷ Out ∷ Normal ∷ Danger ∷ Divided ∷ Release ∷ []
