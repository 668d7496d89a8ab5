-- What a box rings and hears on one side, and which of it is an answer.
use Rattle.std.specs.Prelude.{◌≡◌, ℕ, ◌<◌, ◌==◌, Bool, List, Option, Some, None, if◌then◌else◌}
use Rattle.std.specs.List.{list_any}
use Rattle.block_words.specs.declared.Way.{Way}
use Rattle.line_plan.specs.Frames.{same_way}
use Rattle.line_plan.specs.Plans.{PlanFields}
use Rattle.line_law.specs.declared.call.Entry.{Entry}
use Rattle.reg_audit.specs.declared.bell.BellEntry.{BellEntry}
use Rattle.reg_audit.specs.declared.bell.BellKind.{BellKind}
use Rattle.reg_audit.specs.declared.bell.BellKind.TheVariants as kinds
use Rattle.reg_audit.specs.declared.deed.Deed.{Deed}
use Rattle.reg_audit.specs.declared.deed.Deed.TheVariants as deeds
use Rattle.reg_audit.specs.Deeds.{HasDone}

-- ---- codes

-- 1, by its number in every code table
abbrev pub call_attention : ℕ
call_attention = 1

-- 2
abbrev pub train_entering_section : ℕ
train_entering_section = 6

-- 2-1
abbrev pub train_out_of_section : ℕ
train_out_of_section = 7

-- a code by which some class of the plan is offered
abbrev pub is_class_code : PlanFields → ℕ → Bool
is_class_code plan code = list_any (λ class. class.code == code) plan.classes

-- ---- bell entries

abbrev pub rung : ℕ → BellEntry
rung code = record { kind = kinds.Rung; code = code }

abbrev pub heard : ℕ → BellEntry
heard code = record { kind = kinds.Heard; code = code }

-- what was rung towards a side, or heard from it, if anything was
abbrev pub bell_on : Way → Deed → Option BellEntry
bell_on side (deeds.Rang towards code) = if same_way towards side then Some (rung code) else None
bell_on side (deeds.Heard from code) = if same_way from side then Some (heard code) else None
bell_on side deed = None

-- at this place of a journal box b has this bell entry on that side
abbrev pub IsBell : PlanFields → List Entry → ℕ → Way → BellEntry → ℕ → Type 0
IsBell plan es b side bell place = HasDone plan es b (λ deed. bell_on side deed ≡ Some bell) place

-- before this place the last bell entry of box b on that side is this one
pub record IsLastBell (plan : PlanFields) (es : List Entry) (b : ℕ) (side : Way) (bell : BellEntry) (place : ℕ)
    : Type 0 where
  pub last : ℕ
  pub earlier : last < place
  pub is : IsBell plan es b side bell last
  pub none_between : (other : ℕ) (another : BellEntry) → last < other → other < place
      → ¬ IsBell plan es b side another other

-- ---- answers

abbrev pub other_kind : BellKind → BellKind
other_kind kinds.Rung = kinds.Heard
other_kind kinds.Heard = kinds.Rung

-- what a bell entry would answer: the same code, heard where it is rung, and rung where it is heard
abbrev pub answered_by : BellEntry → BellEntry
answered_by bell = record bell { kind = other_kind bell.kind }

-- This bell entry at that place is no answer: the last earlier one on that side isn't of the other kind with the same
-- code.
pub record IsUnprompted (plan : PlanFields) (es : List Entry) (b : ℕ) (side : Way) (bell : BellEntry) (place : ℕ)
    : Type 0 where
  pub is : IsBell plan es b side bell place
  pub no_answer : ¬ IsLastBell plan es b side (answered_by bell) place
