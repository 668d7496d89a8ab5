-- What is put when a man goes off duty.
use Rattle.std.specs.Prelude.{◌≡◌, ℕ, ◌-◌, ◌==◌, Bool, true, false, List, [], ◌∷◌, ◌++◌, Option, Some, None, codes}
use Rattle.std.specs.Prelude.{decimal, if◌then◌else◌, slice_get}
use Rattle.std.specs.List.{flat_map}
use Rattle.line_plan.specs.Plans.{PlanFields}
use Rattle.line_law.specs.declared.call.Call.{Call}
use Rattle.line_law.specs.declared.call.Entry.{Entry}
use Rattle.line_law.specs.History.{part_of}
use Rattle.line_law.specs.Refusals.{is_refused}
use Rattle.reg_audit.specs.declared.rule.Breach.{Breach}
use Rattle.reg_audit.specs.declared.rule.Rule.{Rule}
use Rattle.reg_audit.specs.Marks.{breaches_of}
use Rattle.reg_audit.specs.Rules.{rule_name, rule_number}
use Rattle.box_marking.specs.Markings.{markings_of}
use Rattle.box_marking.specs.Texts.{are_some, markings_text}
use Rattle.box_marking.specs.declared.marking.Marking.{Marking}
use Rattle.reply_sentences.specs.Sentences.{Says}
use Rattle.script_text.specs.Calls.{call_text}
use Rattle.train_register.specs.Registers.{register_text}
use Rattle.hand_working.specs.Duties.{Doings, Post, journal_at}
use Rattle.hand_working.specs.declared.ending.TheConstants.{MORE}

-- behind a text comes the line of a refused call: the call, and why it was refused
abbrev pub TellsRefusal : Bool → PlanFields → Entry → List ℕ → List ℕ → Type 0
TellsRefusal false plan e old new = new ≡ old
TellsRefusal true plan e old new =
    (middle : List ℕ)
    × Says (old ++ codes "refused: " ++ call_text plan e.call ++ codes ": ") middle
    × (new ≡ middle ++ 10 ∷ [])

-- the lines of these entries, in order: one for each that is refused, none for any other
abbrev pub TellsRefusals : PlanFields → List Entry → List ℕ → List ℕ → Type 0
TellsRefusals plan [] old new = new ≡ old
TellsRefusals plan (e ∷ es) old new =
    (middle : List ℕ) × TellsRefusal (is_refused e.reply) plan e old middle × TellsRefusals plan es middle new

-- which of the nine rules of good working a call is against, by its number and its name
unfoldable pub number_text : Rule → List ℕ
number_text rule = codes "against rule " ++ decimal (rule_number rule)

unfoldable pub name_text : Rule → List ℕ
name_text rule = codes ", " ++ rule_name rule ++ codes ": "

-- where a call is against a rule: the rule, and the call
unfoldable pub against_text : PlanFields → Rule → Call → List ℕ
against_text plan rule call = number_text rule ++ name_text rule ++ call_text plan call ++ 10 ∷ []

-- the same of an entry, where it is of his box
abbrev pub against_if : PlanFields → ℕ → Rule → Option Entry → List ℕ
against_if plan b rule None = []
against_if plan b rule (Some e) = if e.box_no == b then against_text plan rule e.call else []

-- the line of a breach, where it is his; entries are numbered from 1
abbrev pub breach_text : PlanFields → ℕ → List Entry → Breach → List ℕ
breach_text plan b es breach = against_if plan b breach.rule (slice_get es (breach.entry - 1))

-- where he worked against the nine rules, a line for each breach that the audit of the journal names
unfoldable pub his_breaches : Post → Doings → List ℕ
his_breaches post doings =
    flat_map (breach_text post.plan post.box_no (journal_at post doings))
    (breaches_of post.plan (journal_at post doings))

-- markings as they are told, if there are any
abbrev pub marks_text : PlanFields → List Marking → List ℕ
marks_text plan markings = if are_some markings then markings_text plan markings else []

-- what an instructor marks of what he did
unfoldable pub his_marks : Post → Doings → List ℕ
his_marks post doings =
    marks_text post.plan (markings_of post.plan None (Some post.box_no) (journal_at post doings))

-- When he goes off duty: his register, then his refused calls; where he worked against the nine rules, and what an
-- instructor marks besides; and how to see the rest.
pub record IsEnding (post : Post) (doings : Doings) (text : List ℕ) : Type 0 where
  pub told : List ℕ
  pub refusals : TellsRefusals post.plan (part_of post.box_no (journal_at post doings))
      (register_text post.plan post.box_no (part_of post.box_no (journal_at post doings))) told
  pub is : text ≡ ((told ++ his_breaches post doings) ++ his_marks post doings) ++ MORE.now
