-- The text of the made line spells its plan.
use Rattle.std.proofs.Common.{◌≡◌, ℕ, ◌+◌, ◌*◌, ◌^◌, ◌%◌, ◌<◌, ◌≤◌, zero, suc, ltb, cond, eqb, Bool, true, false, List}
use Rattle.std.proofs.Common.{[], ◌∷◌, ◌++◌, length, Result, Ok, refl, ap, ◌∙◌, arith, codes, append_assoc}
use Rattle.std.proofs.lemmas.Bool.{le-ltb}
use Rattle.std.proofs.lemmas.List.{length-append}
use Rattle.rail_text.specs.Gives.{Fault, FailsText}
use Rattle.rail_text.specs.Forms.{form_of}
use Rattle.rail_text.specs.Texts.{line_onto, lines_onto, text_onto}
use Rattle.rail_text.specs.declared.cause.Cause.{Cause}
use Rattle.rail_text.specs.declared.cause.ReadError.TheVariants as errors
use Rattle.rail_text.proofs.PrintedWords.{length-decimal_word}
use Rattle.line_plan.specs.Limits.{most_bytes}
use Rattle.line_plan.specs.Plans.{PlanFields, no_box, opening_names}
use Rattle.plan_draft.specs.Drafts.{start}
use Rattle.plan_draft.specs.Reading.{words_onto, line_kind, may_follow, kind_onto, end_onto, plan_of}
use Rattle.line_plan.specs.declared.plan.TrainPlan.{TrainPlan}
use Rattle.plan_draft.specs.declared.draft.Stage.TheVariants as stages
use Rattle.line_maker.specs.MadeTrains.{runs_down}
use Rattle.line_maker.specs.MadeTexts.{head_text, ash_text, beech_text, cedar_text, class_name, brought_text}
use Rattle.line_maker.specs.MadeTexts.{train_text, trains_text, made_plan_text}
use Rattle.line_maker.proofs.MadeLine.{ash, beech, cedar, made_trains, made_boxes, made_plan, draft_at, draft_with}
use Rattle.line_maker.proofs.BaseRead.{read_from, base_read}
use Rattle.line_maker.proofs.TrainsRead.{trains_read}

-- ---- the line `end`

end_read : (n : ℕ) (trains : List TrainPlan)
    → read_from n (draft_at trains) (codes "end\n") ≡ Ok (draft_with stages.Ended made_boxes no_box trains)
unfolding lines_onto line_onto form_of words_onto line_kind may_follow kind_onto end_onto ash beech cedar
end_read n [] = refl
end_read n (train ∷ trains) = refl

-- ---- the limit

class_short : (i : ℕ) → length (class_name i) ≤ 8
class_short i = go (eqb (i % 4) 1) (eqb (i % 4) 2) (eqb (i % 4) 3) where
  go : (a b c : Bool)
      → length (Rattle.std.specs.Prelude.slice_index_or opening_names (cond a 1 (cond b 0 (cond c 2 3))) []) ≤ 8
  go true b c = omega arith
  go false true c = omega arith
  go false false true = omega arith
  go false false false = omega arith

brought_short : (i : ℕ) → length (brought_text i) ≤ 10
brought_short i = go (runs_down i) where
  go : (down : Bool) → length (cond down (codes " Ash DP\n") (codes " Cedar UP\n")) ≤ 10
  go true = omega arith
  go false = omega arith

train_short : (i : ℕ) → i < 10 ^ 10 → length (train_text i) ≤ 40
unfolding train_text
train_short i small = simp length-append (omega (arith, length-decimal_word i small, class_short i, brought_short i))

trains_short : (n : ℕ) → n ≤ 200 → length (trains_text n) ≤ 40 * n
unfolding trains_text
trains_short zero h = omega arith
trains_short (suc n) h =
    omega (
      arith,
      length-append (trains_text n) (train_text (suc n)),
      trains_short n (omega arith),
      train_short (suc n) (omega arith),
    )

regrouped : (a b c d e f : List ℕ) → a ++ b ++ c ++ d ++ e ++ f ≡ a ++ (b ++ (c ++ (d ++ (e ++ f))))
regrouped a b c d e f = simp append_assoc

base_lengths : length head_text + length ash_text + length beech_text + length cedar_text ≤ 2000
unfolding head_text ash_text beech_text cedar_text
base_lengths = omega arith

text_short : (n : ℕ) → n ≤ 200 → length (made_plan_text n) ≤ most_bytes
unfolding made_plan_text
text_short n h =
    rw (
      regrouped head_text ash_text beech_text cedar_text (trains_text n) (codes "end\n"),
      length-append head_text,
      length-append ash_text,
      length-append beech_text,
      length-append cedar_text,
      length-append (trains_text n),
    )
    (omega (arith, base_lengths, trains_short n h))

-- ---- the whole

all_read : (n : ℕ) → n ≤ 200
    → read_from 1 start (made_plan_text n) ≡ Ok (draft_with stages.Ended made_boxes no_box (made_trains n))
unfolding made_plan_text
all_read n h =
    ap (read_from 1 start) (regrouped head_text ash_text beech_text cedar_text (trains_text n) (codes "end\n"))
    ∙ base_read (trains_text n ++ codes "end\n") ∙ trains_read n (codes "end\n") h ∙ end_read (58 + n) (made_trains n)

-- the text is read as the plan
pub made_read : (n : ℕ) → n ≤ 200 → plan_of (made_plan_text n) ≡ Ok (made_plan n)
unfolding plan_of text_onto
made_read n h = let fits : ltb most_bytes (length (made_plan_text n)) ≡ false =
    le-ltb _ _ (text_short n h) in rw (fits, all_read n h) refl

read_not_refused : (r : Result PlanFields Fault) (plan : PlanFields) (line : ℕ) (cause : Cause) → r ≡ Ok plan
    → FailsText (errors.Refused line cause) r → ⊥
read_not_refused r plan line cause e f = absurd cc

-- it is never refused
pub never_refused : (n line : ℕ) (cause : Cause) → n ≤ 200
    → FailsText (errors.Refused line cause) (plan_of (made_plan_text n)) → ⊥
never_refused n line cause h f =
    read_not_refused (plan_of (made_plan_text n)) (made_plan n) line cause (made_read n h) f

pub ruleset plan_rules = (made_read, never_refused)
