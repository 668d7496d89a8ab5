-- What was done breaks none but the rules that it may break.
use Rattle.std.proofs.Common.{◌≡◌, ℕ, Bool, true, false, cond, ◌&&◌, ◌||◌, [], ◌∷◌, Option, Some, None}
use Rattle.std.proofs.Common.{refl, ap, true≢false}
use Rattle.std.specs.Prelude.{filter}
use Rattle.block_words.specs.declared.Way.TheVariants.{Up, Down}
use Rattle.line_plan.specs.Plans.{PlanFields}
use Rattle.line_law.specs.declared.ways.ByWay.{ByWay}
use Rattle.reg_audit.specs.declared.bell.BellEntry.{BellEntry}
use Rattle.reg_audit.specs.declared.bell.BellKind.TheVariants as kinds
use Rattle.reg_audit.specs.declared.deed.Deed.{Deed}
use Rattle.reg_audit.specs.declared.deed.Deed.TheVariants as deeds
use Rattle.reg_audit.specs.declared.marks.SideMarks.{SideMarks}
use Rattle.reg_audit.specs.declared.rule.Rule.TheVariants as rules
use Rattle.reg_audit.specs.Bells.{answered_by, heard, rung, train_out_of_section}
use Rattle.reg_audit.specs.Marks.{is_bell, is_broken, is_of_class, rules_on, unprompted}
use Rattle.reg_audit.specs.Rules.{all_rules}

-- a code that was heard offers nothing, and is no Train Out of Section that was rung
offers_none : (plan : PlanFields) (last : Option BellEntry) (code : ℕ) (more : Bool)
    → (is_of_class plan kinds.Rung (unprompted last (Some (heard code))) && more) ≡ false
offers_none plan last code more = go (is_bell last (answered_by (heard code))) where
  go : (t : Bool) → (is_of_class plan kinds.Rung (cond t None (Some (heard code))) && more) ≡ false
  go true = refl
  go false = refl

gives_none : (last : Option BellEntry) (code : ℕ) (more : Bool)
    → (is_bell (unprompted last (Some (heard code))) (rung train_out_of_section) && more) ≡ false
gives_none last code more = go (is_bell last (answered_by (heard code))) where
  go : (t : Bool) → (is_bell (cond t None (Some (heard code))) (rung train_out_of_section) && more) ≡ false
  go true = refl
  go false = refl

-- where neither of two rules is broken
neither : (one other : Bool) → one ≡ false → other ≡ false
    → [] ≡ cond one (rules.Offer ∷ cond other (rules.Out ∷ []) []) (cond other (rules.Out ∷ []) [])
neither false false e f = refl
neither true other e f = absurd (true≢false e)
neither false true e f = absurd (true≢false f)

-- no rules are broken by a deed but those that are tested on it
pub only_these : (plan : PlanFields) (marks : ByWay SideMarks) (held : ℕ) (deed : Deed)
    → filter (is_broken plan marks held deed) (rules_on deed) ≡ filter (is_broken plan marks held deed) all_rules
only_these plan marks held (deeds.Rang side code) = refl
only_these plan marks held (deeds.Heard Up code) =
    neither (is_broken plan marks held (deeds.Heard Up code) rules.Offer)
    (is_broken plan marks held (deeds.Heard Up code) rules.Out)
    (ap (λ (b : Bool). b || false) (offers_none plan marks.up.last_bell code _))
    (ap (λ (b : Bool). b || false) (gives_none marks.up.last_bell code _))
only_these plan marks held (deeds.Heard Down code) =
    neither (is_broken plan marks held (deeds.Heard Down code) rules.Offer)
    (is_broken plan marks held (deeds.Heard Down code) rules.Out) (offers_none plan marks.down.last_bell code _)
    (gives_none marks.down.last_bell code _)
only_these plan marks held (deeds.Turned way position) = refl
only_these plan marks held (deeds.WentPast entered left at_danger) = refl
only_these plan marks held (deeds.Berthed way) = refl
only_these plan marks held (deeds.PartBerthed way) = refl
only_these plan marks held deeds.Released = refl
only_these plan marks held deeds.Nothing = refl
